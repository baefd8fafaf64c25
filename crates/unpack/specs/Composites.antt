-- The components of a composite glyph, as their stream says them.
use Rattle.std.specs.Prelude.{ℕ, zero, suc, Bool, cond, ◌||◌, List, [], ◌∷◌, ◌++◌, Ok, Err, Result}
use Rattle.composite.specs.Components.{component_said, component_size, flags_said, has}
use Rattle.glyph.specs.declared.component.Component.{Component}
use Rattle.read.specs.declared.error.ParseError.{ParseError}
use Rattle.read.specs.declared.error.ParseError.TheVariants.{BadEof}
use Rattle.read.specs.Answers.{front, then}

-- The component at the front of a stream, and what is left behind it.
abbrev pub component : List ℕ → Result (Component × List ℕ) ParseError
component bs = then (front (component_size (flags_said bs)) bs) (λ p. Ok (component_said bs, p.1))

-- The components up to the first without MORE_COMPONENTS, behind those in `cs`; whether any of them has
-- WE_HAVE_INSTRUCTIONS; and what is left. A component has at least six bytes, so there are no more of them than bytes:
-- that many are looked for.
abbrev pub components_said : ℕ → List Component → Bool → List ℕ → Result (List Component × Bool × List ℕ) ParseError
components_said zero cs mark bs = Err BadEof
components_said (suc n) cs mark bs =
    then (component bs)
    (λ q.
    cond (has q.0.flags 0x0020) (components_said n (cs ++ q.0 ∷ []) (mark || has q.0.flags 0x0100) q.1)
    (Ok (cs ++ q.0 ∷ [], (mark || has q.0.flags 0x0100), q.1)))
