-- The components of a composite glyph.
use Rattle.std.specs.Prelude.{◌≡◌, Bool, true, false, ◌||◌, List, [], ◌∷◌}
use Rattle.glyph.specs.declared.component.Component.{Component}
use Rattle.composite.specs.Components.{has}

-- Just the last component lacks MORE_COMPONENTS.
abbrev pub Chained : List Component → Type 0
Chained [] = ⊥
Chained (c ∷ []) = has c.flags 0x0020 ≡ false
Chained (c ∷ (d ∷ cs)) = (has c.flags 0x0020 ≡ true) × Chained (d ∷ cs)

-- Whether a component has WE_HAVE_INSTRUCTIONS.
abbrev pub marked : List Component → Bool
marked [] = false
marked (c ∷ cs) = has c.flags 0x0100 || marked cs
