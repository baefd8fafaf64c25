-- How a flag and the bytes behind it say a pair of steps. The low seven bits of the flag are the row.
use Rattle.std.specs.Prelude.{◌≡◌, ℕ, ◌+◌, ◌-◌, ◌*◌, ◌/◌, ◌%◌, Bool, false, cond, ◌&&◌, List, [], ◌∷◌, length, take, drop, ℤ, pos, negsuc, neg_ℤ, Ok, Err, MatchBool, Result, ◌==◌, nat_le, nat_lt, slice_index}
use Rattle.read.specs.declared.error.ParseError.{ParseError}
use Rattle.read.specs.declared.error.ParseError.TheVariants.{BadEof, BadValue}

-- The six groups of rows: 0 to 9, 10 to 19, 20 to 83, 84 to 119, 120 to 123, 124 to 127.
pub data Group : Type 0 where
  y_alone : Group
  x_alone : Group
  half_bytes : Group
  whole_bytes : Group
  twelve_bits : Group
  sixteen_bits : Group

abbrev pub group_of : ℕ → Group
group_of r =
    cond (nat_lt r 10) y_alone
    (cond (nat_lt r 20) x_alone (cond (nat_lt r 84) half_bytes (cond (nat_lt r 120) whole_bytes (cond (nat_lt r 124) twelve_bits sixteen_bits))))

-- How many bytes there are behind the flag.
abbrev pub bytes_in : Group → ℕ
bytes_in y_alone = 1
bytes_in x_alone = 1
bytes_in half_bytes = 1
bytes_in whole_bytes = 2
bytes_in twelve_bits = 3
bytes_in sixteen_bits = 4

-- The size of the step in x,
abbrev pub x_size : Group → ℕ → List ℕ → ℕ
x_size y_alone r bs = 0
x_size x_alone r bs = 256 * ((r - 10) / 2) + slice_index bs 0
x_size half_bytes r bs = 1 + 16 * ((r - 20) / 16) + slice_index bs 0 / 16
x_size whole_bytes r bs = 1 + 256 * ((r - 84) / 12) + slice_index bs 0
x_size twelve_bits r bs = slice_index bs 0 * 16 + slice_index bs 1 / 16
x_size sixteen_bits r bs = slice_index bs 0 * 256 + slice_index bs 1

-- and in y.
abbrev pub y_size : Group → ℕ → List ℕ → ℕ
y_size y_alone r bs = 256 * (r / 2) + slice_index bs 0
y_size x_alone r bs = 0
y_size half_bytes r bs = 1 + 16 * ((r - 20) / 4 % 4) + slice_index bs 0 % 16
y_size whole_bytes r bs = 1 + 256 * ((r - 84) / 4 % 3) + slice_index bs 1
y_size twelve_bits r bs = slice_index bs 1 % 16 * 256 + slice_index bs 2
y_size sixteen_bits r bs = slice_index bs 2 * 256 + slice_index bs 3

-- An odd row makes x positive, and an even one negative. In the rows 0 to 9 that governs y;
-- from row 20 on, y is positive when half the row is odd.
abbrev pub even : ℕ → Bool
even n = n % 2 == 0

abbrev pub x_falls : Group → ℕ → Bool
x_falls y_alone r = false
x_falls x_alone r = even r
x_falls half_bytes r = even r
x_falls whole_bytes r = even r
x_falls twelve_bits r = even r
x_falls sixteen_bits r = even r

abbrev pub y_falls : Group → ℕ → Bool
y_falls y_alone r = even r
y_falls x_alone r = false
y_falls half_bytes r = even (r / 2)
y_falls whole_bytes r = even (r / 2)
y_falls twelve_bits r = even (r / 2)
y_falls sixteen_bits r = even (r / 2)

-- A step of a size, up or down: from -32768 to 32767.
abbrev pub step : Bool → ℕ → ℤ
step falls size = cond falls (neg_ℤ (pos size)) (pos size)

abbrev pub step_fits : Bool → ℕ → Bool
step_fits falls size = nat_le size (cond falls 32768 32767)

-- Two steps by direction and size, if both are in range.
abbrev pub pair_by : Bool → ℕ → Bool → ℕ → Result (ℤ × ℤ) ParseError
pair_by x_down x y_down y =
    cond (step_fits x_down x && step_fits y_down y) (Ok (step x_down x, step y_down y)) (Err BadValue)

-- The pair of steps that the bytes behind a flag of row `r` say.
abbrev pub steps_by : Group → ℕ → List ℕ → Result (ℤ × ℤ) ParseError
steps_by g r bs = pair_by (x_falls g r) (x_size g r bs) (y_falls g r) (y_size g r bs)

abbrev pub steps_said : ℕ → List ℕ → Result (ℤ × ℤ) ParseError
steps_said r bs = steps_by (group_of r) r bs

-- What a read of a pair of steps does: the bytes are taken whole, or the read is refused with the cursor as it was;
-- a step that is out of range is refused once its bytes are taken.
abbrev pub Triplet : ℕ → List ℕ → Result (ℤ × ℤ) ParseError → List ℕ → Type 0
Triplet r before result after =
    MatchBool (nat_le (bytes_in (group_of r)) (length before))
    ((result ≡ steps_said r (take (bytes_in (group_of r)) before)) × (after ≡ drop (bytes_in (group_of r)) before))
    ((result ≡ Err BadEof) × (after ≡ before))

-- Four rows at their limits.
abbrev pub WorkedRows : Type 0
WorkedRows =
    (steps_said 0 (0x04 ∷ []) ≡ Ok (pos 0, negsuc 3)) × (steps_said 119 (0xff ∷ (0xff ∷ [])) ≡ Ok (pos 768, pos 768))
    × (steps_said 126 (0x80 ∷ (0x00 ∷ (0x00 ∷ (0x00 ∷ [])))) ≡ Ok (negsuc 32767, pos 0))
    × (steps_said 127 (0x80 ∷ (0x00 ∷ (0x00 ∷ (0x00 ∷ [])))) ≡ Err BadValue)
