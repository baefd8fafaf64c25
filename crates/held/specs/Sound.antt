-- The rules for a glyph.
use Rattle.std.specs.Prelude.{◌≡◌, ℕ, ◌≤◌, Bool, true, false, not, ◌&&◌, List, [], ◌∷◌, length, ◌-ℤ◌, ◌==◌, bit_and}
use Rattle.std.specs.List.{AllByRecursion}
use Rattle.composite.specs.Chains.{Chained, marked}
use Rattle.composite.specs.Components.{has}
use Rattle.glyph.specs.Glyphs.{composite, empty, Glyph, simple}
use Rattle.glyph.specs.Outlines.{InRange, origin, points_in}
use Rattle.glyph.specs.declared.component.Component.{Component}
use Rattle.glyph.specs.declared.component.CompositeGlyphArgument.{CompositeGlyphArgument}
use Rattle.glyph.specs.declared.component.CompositeGlyphArgument.TheVariants.{I16, I8, U16, U8}
use Rattle.glyph.specs.declared.component.CompositeGlyphScale.{CompositeGlyphScale}
use Rattle.glyph.specs.declared.component.CompositeGlyphScale.TheVariants.{Matrix, None, Scale, XY}
use Rattle.glyph.specs.declared.lists.Point.{Point}

-- Each step from the point before lies in -32768..32767 on both axes.
abbrev pub StepsInRange : Point → List Point → Type 0
StepsInRange last [] = Unit {0}
StepsInRange last (p ∷ ps) =
    InRange (p.x -ℤ last.x) × InRange (p.y -ℤ last.y) × StepsInRange p ps

pub record SoundSimple (ends : List ℕ) (points : List Point) (hints : List ℕ) : Type 0 where
  pub contours : length ends ≤ 32767
  -- As many points as the last end plus one, or none without ends.
  pub as_many : length points ≡ points_in ends
  pub steps : StepsInRange origin points
  pub instructions : length hints ≤ 65535

-- Arguments are words with 0001, else bytes; signed with 0002, else unsigned.
abbrev pub argument_fits : ℕ → CompositeGlyphArgument → Bool
argument_fits flags (U8 n) = not (has flags 0x0001) && not (has flags 0x0002)
argument_fits flags (I8 z) = not (has flags 0x0001) && has flags 0x0002
argument_fits flags (U16 n) = has flags 0x0001 && not (has flags 0x0002)
argument_fits flags (I16 z) = has flags 0x0001 && has flags 0x0002

-- One scale with 0008, else two with 0040, else four with 0080, else none.
abbrev pub scale_fits : ℕ → CompositeGlyphScale → Bool
scale_fits flags None =
    not (has flags 0x0008) && (not (has flags 0x0040) && not (has flags 0x0080))
scale_fits flags (Scale s) = has flags 0x0008
scale_fits flags (XY x y) = not (has flags 0x0008) && has flags 0x0040
scale_fits flags (Matrix xx xy yx yy) =
    not (has flags 0x0008) && (not (has flags 0x0040) && has flags 0x0080)

-- No bit is set outside 1FEF, and arguments and scale are of the kinds that the flags call for.
abbrev pub component_sound : Component → Bool
component_sound c =
    (bit_and c.flags 0x1fef == c.flags)
    && (argument_fits c.flags c.argument1
    && (argument_fits c.flags c.argument2
    && scale_fits c.flags c.scale))

pub record SoundComposite (parts : List Component) (hints : List ℕ) : Type 0 where
  pub chained : Chained parts
  pub each : AllByRecursion (λ c. component_sound c ≡ true) parts
  pub instructions : length hints ≤ 65535
  -- No instructions unless a component has WE_HAVE_INSTRUCTIONS.
  pub unmarked : marked parts ≡ false → hints ≡ []

abbrev pub Sound : Glyph → Type 0
Sound empty = Unit {0}
Sound (simple box ends points hints) = SoundSimple ends points hints
Sound (composite box parts hints) = SoundComposite parts hints
