-- The rows of the table, by the rule of their group.
use Rattle.std.specs.Prelude.{ℕ, ◌+◌, ◌-◌, ◌*◌, ◌/◌, ◌%◌, cond, List, length, ◌==◌, slice_index}
use Rattle.lut.specs.Triplets.{bytes_in, group_of, Group, half_bytes, sixteen_bits, twelve_bits, whole_bytes, x_alone, x_falls, y_alone, y_falls}
use Rattle.lut.specs.declared.table.XYTriplet.{XYTriplet}

-- One to four bytes as one number, the highest first.
abbrev pub number : List ℕ → ℕ
number bs =
    cond (length bs == 1) (slice_index bs 0)
    (cond (length bs == 2) (slice_index bs 0 * 256 + slice_index bs 1)
    (cond (length bs == 3) (slice_index bs 0 * 65536 + slice_index bs 1 * 256 + slice_index bs 2)
    (slice_index bs 0 * 16777216 + slice_index bs 1 * 65536 + slice_index bs 2 * 256 + slice_index bs 3)))

-- How many of the bits belong to x, and how many to y.
abbrev pub x_bits_of : Group → ℕ
x_bits_of y_alone = 0
x_bits_of x_alone = 8
x_bits_of half_bytes = 4
x_bits_of whole_bytes = 8
x_bits_of twelve_bits = 12
x_bits_of sixteen_bits = 16

abbrev pub y_bits_of : Group → ℕ
y_bits_of y_alone = 8
y_bits_of x_alone = 0
y_bits_of half_bytes = 4
y_bits_of whole_bytes = 8
y_bits_of twelve_bits = 12
y_bits_of sixteen_bits = 16

-- What is added to those bits.
abbrev pub x_delta : Group → ℕ → ℕ
x_delta y_alone r = 0
x_delta x_alone r = 256 * ((r - 10) / 2)
x_delta half_bytes r = 1 + 16 * ((r - 20) / 16)
x_delta whole_bytes r = 1 + 256 * ((r - 84) / 12)
x_delta twelve_bits r = 0
x_delta sixteen_bits r = 0

abbrev pub y_delta : Group → ℕ → ℕ
y_delta y_alone r = 256 * (r / 2)
y_delta x_alone r = 0
y_delta half_bytes r = 1 + 16 * ((r - 20) / 4 % 4)
y_delta whole_bytes r = 1 + 256 * ((r - 84) / 4 % 3)
y_delta twelve_bits r = 0
y_delta sixteen_bits r = 0

abbrev pub row_by : Group → ℕ → XYTriplet
row_by g r =
    record {
      byte_count = bytes_in g;
      x_bits = x_bits_of g;
      y_bits = y_bits_of g;
      delta_x = x_delta g r;
      delta_y = y_delta g r;
      x_is_negative = x_falls g r;
      y_is_negative = y_falls g r;
    }

abbrev pub row_of : ℕ → XYTriplet
row_of r = row_by (group_of r) r
