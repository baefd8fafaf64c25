-- A component of a composite glyph, as its bytes say it.
use Rattle.std.specs.Prelude.{◌≡◌, ℕ, ◌+◌, Bool, cond, not, List, [], ◌∷◌, length, take, drop, negsuc, Err, MatchBool, Result, MatchResult, ◌==◌, bit_and, nat_le}
use Rattle.binary.specs.Bytes.{i16_at, i16_said, i8_said, u16_said, u8_said}
use Rattle.binary.specs.declared.F2Dot14.{F2Dot14}
use Rattle.glyph.specs.declared.component.Component.{Component}
use Rattle.glyph.specs.declared.component.CompositeGlyphArgument.{CompositeGlyphArgument}
use Rattle.glyph.specs.declared.component.CompositeGlyphArgument.TheVariants.{I16, I8, U16, U8}
use Rattle.glyph.specs.declared.component.CompositeGlyphScale.{CompositeGlyphScale}
use Rattle.glyph.specs.declared.component.CompositeGlyphScale.TheVariants.{Matrix, None, Scale, XY}

-- Whether a flag is set.
abbrev pub has : ℕ → ℕ → Bool
has flags mask = not (bit_and flags mask == 0)

-- The flags of a component: bits outside 1FEF say nothing.
abbrev pub flags_said : List ℕ → ℕ
flags_said bs = bit_and (u16_said (take 2 bs)) 0x1fef

-- Arguments are words with 0001, else bytes; signed with 0002, else unsigned.
abbrev pub argument_size : ℕ → ℕ
argument_size flags = cond (has flags 0x0001) 2 1

abbrev pub argument_said : ℕ → List ℕ → CompositeGlyphArgument
argument_said flags bs =
    cond (has flags 0x0001) (cond (has flags 0x0002) (I16 (i16_said bs)) (U16 (u16_said bs)))
    (cond (has flags 0x0002) (I8 (i8_said bs)) (U8 (u8_said bs)))

-- One scale with 0008, else two with 0040, else four with 0080, else none.
abbrev pub scale_size : ℕ → ℕ
scale_size flags = cond (has flags 0x0008) 2 (cond (has flags 0x0040) 4 (cond (has flags 0x0080) 8 0))

abbrev pub f2dot14_at : List ℕ → ℕ → F2Dot14
f2dot14_at bs at = record { 0 = i16_at bs at }

abbrev pub scale_said : ℕ → List ℕ → CompositeGlyphScale
scale_said flags bs =
    cond (has flags 0x0008) (Scale (f2dot14_at bs 0))
    (cond (has flags 0x0040) (XY (f2dot14_at bs 0) (f2dot14_at bs 2))
    (cond (has flags 0x0080) (Matrix (f2dot14_at bs 0) (f2dot14_at bs 2) (f2dot14_at bs 4) (f2dot14_at bs 6)) None))

-- How many bytes a component has: flags and index, two arguments, the scale.
abbrev pub component_size : ℕ → ℕ
component_size flags = 4 + argument_size flags + argument_size flags + scale_size flags

-- The component that the bytes at the front of a list say.
abbrev pub component_by : ℕ → List ℕ → Component
component_by flags bs =
    record {
      flags = flags;
      glyph_index = u16_said (take 2 (drop 2 bs));
      argument1 = argument_said flags (take (argument_size flags) (drop 4 bs));
      argument2 = argument_said flags (take (argument_size flags) (drop (4 + argument_size flags) bs));
      scale = scale_said flags (take (scale_size flags) (drop (4 + argument_size flags + argument_size flags) bs));
    }

abbrev pub component_said : List ℕ → Component
component_said bs = component_by (flags_said bs) bs

-- A read of `n` bytes that need not leave the cursor as it was when it is refused.
abbrev pub Reads : {A E : Type 0} → ℕ → (A → Type 0) → E → List ℕ → Result A E → List ℕ → Type 0
Reads n Says fault before r after =
    MatchBool (nat_le n (length before)) (MatchResult r Says (λ _. ⊥) × (after ≡ drop n before)) (r ≡ Err fault)

-- The byte FC is a shift of -4 where arguments are signed, and the point 252 where they are not.
abbrev pub ByteFc : Type 0
ByteFc = (argument_said 0x0002 (0xfc ∷ []) ≡ I8 (negsuc 3)) × (argument_said 0x0000 (0xfc ∷ []) ≡ U8 252)
