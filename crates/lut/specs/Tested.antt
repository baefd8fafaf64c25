-- The test that a table of rows keeps the rule.
use Rattle.std.specs.Prelude.{ℕ, suc, Bool, true, false, ◌&&◌, List, [], ◌∷◌, ◌==◌}
use Rattle.lut.specs.Rows.{row_of}
use Rattle.lut.specs.declared.table.XYTriplet.{XYTriplet}

abbrev pub alike : Bool → Bool → Bool
alike true b = b
alike false true = false
alike false false = true

abbrev pub same_row : XYTriplet → XYTriplet → Bool
same_row a b =
    (a.byte_count == b.byte_count)
    && ((a.x_bits == b.x_bits)
    && ((a.y_bits == b.y_bits)
    && ((a.delta_x == b.delta_x)
    && ((a.delta_y == b.delta_y)
    && (alike a.x_is_negative b.x_is_negative
    && alike a.y_is_negative b.y_is_negative)))))

-- Each row from place `i` on is the one that the rule gives.
abbrev pub ruled : ℕ → List XYTriplet → Bool
ruled i [] = true
ruled i (t ∷ ts) = same_row t (row_of i) && ruled (suc i) ts
