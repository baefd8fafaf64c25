-- The fields of the standard glyf and loca tables: offsets, flags of points, and steps from point to point.
use Rattle.std.specs.Prelude.{ℕ, suc, ◌-◌, ◌*◌, Bool, cond, List, take, drop, replicate, ℤ, pos, ◌+ℤ◌, neg_ℤ}
use Rattle.binary.specs.Bytes.{i16_said, u16_said, u32_said, u8_said}
use Rattle.composite.specs.Components.{has}
use Rattle.glyph.specs.declared.lists.Point.{Point}

-- An offset of loca: a U32Be in the long format, and in the short one a U16Be that has half the offset.
abbrev pub offset_size : Bool → ℕ
offset_size long = cond long 4 2

abbrev pub offset_said : Bool → List ℕ → ℕ
offset_said long bs = cond long (u32_said bs) (u16_said bs * 2)

-- The bytes of glyf between two offsets. Where the second lies past the end of glyf, they end there.
abbrev pub between : ℕ → ℕ → List ℕ → List ℕ
between start end glyf = take (end - start) (drop start glyf)

-- A run of equal flags: one, and a number of copies of it.
pub record Run : Type 0 where
  pub flag : ℕ
  pub copies : ℕ

abbrev pub run : ℕ → ℕ → Run
run flag copies = record { flag = flag; copies = copies }

abbrev pub run_flags : Run → List ℕ
run_flags r = replicate (suc r.copies) r.flag

-- A step along one axis. A short step is a byte: up with the bit `same`, and else down. A step that is not short has no
-- bytes and is 0 with the bit `same`, and else it is an I16Be.
abbrev pub step_size : Bool → Bool → ℕ
step_size short same = cond short 1 (cond same 0 2)

abbrev pub step_said : Bool → Bool → List ℕ → ℤ
step_said short same bs =
    cond short (cond same (pos (u8_said bs)) (neg_ℤ (pos (u8_said bs)))) (cond same (pos 0) (i16_said bs))

-- Along x the bits are 02 and 10 of the flag,
abbrev pub x_step_size : ℕ → ℕ
x_step_size flag = step_size (has flag 0x02) (has flag 0x10)

abbrev pub x_step_said : ℕ → List ℕ → ℤ
x_step_said flag bs = step_said (has flag 0x02) (has flag 0x10) bs

-- and along y they are 04 and 20.
abbrev pub y_step_size : ℕ → ℕ
y_step_size flag = step_size (has flag 0x04) (has flag 0x20)

abbrev pub y_step_said : ℕ → List ℕ → ℤ
y_step_said flag bs = step_said (has flag 0x04) (has flag 0x20) bs

-- The point that lies a step from another. It is on the curve with bit 01 of its flag.
abbrev pub next_point : Point → ℕ → ℤ → ℤ → Point
next_point last flag dx dy = record { x = last.x +ℤ dx; y = last.y +ℤ dy; on_curve = has flag 0x01 }
