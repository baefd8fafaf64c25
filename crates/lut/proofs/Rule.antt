-- The rule of the table, tested at each of its rows.
use Rattle.std.proofs.Common.{◌≡◌, ℕ, zero, suc, ◌+◌, ◌<◌, Bool, true, false, eqb, List, [], ◌∷◌, length, get_or, sym, refl, ap, ◌∙◌, add-zero, add-suc, suc-add, zero-add, arith}
use Rattle.read.proofs.Tests.{both_true}
use Rattle.std.proofs.lemmas.Bool.{eqb-true}
use Rattle.std.specs.Bool.{IsTrue}
use Rattle.lut.specs.Rows.{row_of}
use Rattle.lut.specs.Tested.{alike, ruled, same_row}
use Rattle.lut.specs.declared.table.XYTriplet.{XYTriplet}

alike_same : (a b : Bool) → IsTrue (alike a b) → a ≡ b
alike_same true true t = refl
alike_same true false t = absurd (cc)
alike_same false true t = absurd (cc)
alike_same false false t = refl

row : ℕ → ℕ → ℕ → ℕ → ℕ → Bool → Bool → XYTriplet
row n xb yb dx dy xn yn =
    record {
      byte_count = n;
      x_bits = xb;
      y_bits = yb;
      delta_x = dx;
      delta_y = dy;
      x_is_negative = xn;
      y_is_negative = yn;
    }

equal_row : (a b : XYTriplet) → IsTrue (same_row a b) → a ≡ b
unfolding row
equal_row a b t =
    let t1 = (both_true (eqb a.byte_count b.byte_count) _ t).1 in
    let t2 = (both_true (eqb a.x_bits b.x_bits) _ t1).1 in
    let t3 = (both_true (eqb a.y_bits b.y_bits) _ t2).1 in
    let t4 = (both_true (eqb a.delta_x b.delta_x) _ t3).1 in
    let t5 = (both_true (eqb a.delta_y b.delta_y) _ t4).1 in
    let e0 = eqb-true a.byte_count b.byte_count ((both_true (eqb a.byte_count b.byte_count) _ t).0) in
    let e1 = eqb-true a.x_bits b.x_bits ((both_true (eqb a.x_bits b.x_bits) _ t1).0) in
    let e2 = eqb-true a.y_bits b.y_bits ((both_true (eqb a.y_bits b.y_bits) _ t2).0) in
    let e3 = eqb-true a.delta_x b.delta_x ((both_true (eqb a.delta_x b.delta_x) _ t3).0) in
    let e4 = eqb-true a.delta_y b.delta_y ((both_true (eqb a.delta_y b.delta_y) _ t4).0) in
    let e5 = alike_same a.x_is_negative b.x_is_negative ((both_true (alike a.x_is_negative b.x_is_negative) _ t5).0) in
    let e6 = alike_same a.y_is_negative b.y_is_negative ((both_true (alike a.x_is_negative b.x_is_negative) _ t5).1) in
    let e : row a.byte_count a.x_bits a.y_bits a.delta_x a.delta_y a.x_is_negative a.y_is_negative ≡ row b.byte_count b.x_bits b.y_bits b.delta_x b.delta_y b.x_is_negative b.y_is_negative = cc in
    e

from : (ts : List XYTriplet) (i : ℕ) → IsTrue (ruled i ts) → (k : ℕ) (d : XYTriplet) → k < length ts → get_or ts k d ≡ row_of (i + k)
from [] i t k d h = absurd (omega arith)
from (r ∷ ts) i t zero d h = equal_row r (row_of i) ((both_true (same_row r (row_of i)) (ruled (suc i) ts) t).0) ∙ ap row_of (sym (add-zero i))
from (r ∷ ts) i t (suc k) d h =
    from ts (suc i) ((both_true (same_row r (row_of i)) (ruled (suc i) ts) t).1) k d (omega arith)
    ∙ ap row_of (suc-add i k ∙ sym (add-suc i k))

pub by_rule : (ts : List XYTriplet) → IsTrue (ruled 0 ts) → (k : ℕ) (d : XYTriplet) → k < length ts → get_or ts k d ≡ row_of k
by_rule ts t k d h = from ts 0 t k d h ∙ ap row_of (zero-add k)
