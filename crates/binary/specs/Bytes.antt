-- Big-endian numbers: what the bytes of a field say, and how a value is spelled.
use Rattle.std.specs.Prelude.{ℕ, ◌+◌, ◌*◌, ◌/◌, ◌%◌, List, [], ◌∷◌, ◌++◌, ℤ, slice_index}
use Rattle.std.specs.Int.{w8, w16}
use Rattle.std.proofs.Common.{to_z, of_z}
use Rattle.binary.specs.declared.BoundingBox.{BoundingBox}
use Rattle.binary.specs.declared.F2Dot14.{F2Dot14}
use Rattle.binary.specs.declared.LongHorMetric.{LongHorMetric}

-- What the bytes from a place on say. Signed numbers are in two's complement.
abbrev pub u16_at : List ℕ → ℕ → ℕ
u16_at bs at = slice_index bs at * 256 + slice_index bs (at + 1)

abbrev pub i16_at : List ℕ → ℕ → ℤ
i16_at bs at = to_z w16 (u16_at bs at)

abbrev pub u32_at : List ℕ → ℕ → ℕ
u32_at bs at = slice_index bs at * 16777216 + slice_index bs (at + 1) * 65536 + slice_index bs (at + 2) * 256 + slice_index bs (at + 3)

-- What the bytes of a field say.
abbrev pub u8_said : List ℕ → ℕ
u8_said bs = slice_index bs 0

abbrev pub i8_said : List ℕ → ℤ
i8_said bs = to_z w8 (slice_index bs 0)

abbrev pub u16_said : List ℕ → ℕ
u16_said bs = u16_at bs 0

abbrev pub i16_said : List ℕ → ℤ
i16_said bs = i16_at bs 0

abbrev pub u32_said : List ℕ → ℕ
u32_said bs = u32_at bs 0

abbrev pub f2dot14_said : List ℕ → F2Dot14
f2dot14_said bs = record { 0 = i16_at bs 0 }

abbrev pub box_said : List ℕ → BoundingBox
box_said bs =
    record { x_min = i16_at bs 0; y_min = i16_at bs 2; x_max = i16_at bs 4; y_max = i16_at bs 6 }

abbrev pub metric_said : List ℕ → LongHorMetric
metric_said bs = record { advance_width = u16_at bs 0; lsb = i16_at bs 2 }

-- The bytes that spell a value.
abbrev pub u8_bytes : ℕ → List ℕ
u8_bytes v = v ∷ []

abbrev pub i8_bytes : ℤ → List ℕ
i8_bytes v = of_z w8 v ∷ []

abbrev pub u16_bytes : ℕ → List ℕ
u16_bytes v = v / 256 % 256 ∷ v % 256 ∷ []

abbrev pub i16_bytes : ℤ → List ℕ
i16_bytes v = u16_bytes (of_z w16 v)

abbrev pub u32_bytes : ℕ → List ℕ
u32_bytes v = v / 16777216 % 256 ∷ v / 65536 % 256 ∷ v / 256 % 256 ∷ v % 256 ∷ []

abbrev pub f2dot14_bytes : F2Dot14 → List ℕ
f2dot14_bytes v = i16_bytes v.0

abbrev pub box_bytes : BoundingBox → List ℕ
box_bytes b = i16_bytes b.x_min ++ (i16_bytes b.y_min ++ (i16_bytes b.x_max ++ i16_bytes b.y_max))

abbrev pub metric_bytes : LongHorMetric → List ℕ
metric_bytes m = u16_bytes m.advance_width ++ i16_bytes m.lsb
