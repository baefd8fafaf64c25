-- How the points of a glyph are read, one flag after the other.
use Rattle.std.proofs.Common.{◌≡◌, ℕ, ◌+◌, ◌%◌, ◌<◌, Bool, true, false, cond, ◌&&◌, leb, List, [], ◌∷◌, ◌++◌, length, get_or, take, drop, ℤ, ◌+ℤ◌, Ok, Err, MatchBool, Result, sym, refl, ap, ◌∙◌, arith, MatchResult}
use Rattle.std.proofs.lemmas.List.{drop_more}
use Rattle.glyph.specs.declared.lists.Point.{Point}
use Rattle.lut.specs.Triplets.{bytes_in, group_of, steps_said, Triplet}
use Rattle.read.specs.Answers.{then}
use Rattle.read.specs.declared.error.ParseError.{ParseError}
use Rattle.read.specs.declared.error.ParseError.TheVariants.{BadEof, BadValue}
use Rattle.unpack.proofs.Judged.{failed, Judges, passed}
use Rattle.unpack.specs.Outlines.{point, point_said, points_said, steps}
use Rattle.glyph.specs.Outlines.{placed}

-- A pair of steps that was read, or refused, is the one that the bytes say.
stepped : (b : Bool) (r : ℕ) (bs rest front_Bytes back : List ℕ) (result : Result (ℤ × ℤ) ParseError) → MatchBool b ((result ≡ steps_said r front_Bytes) × (rest ≡ back)) ((result ≡ Err BadEof) × (rest ≡ bs)) → (q : ℤ × ℤ) → result ≡ Ok q → then {A = List ℕ × List ℕ} {B = (ℤ × ℤ) × List ℕ} (cond b (Ok (front_Bytes, back)) (Err BadEof)) (λ p. then (steps_said r p.0) (λ s. Ok (s, p.1))) ≡ Ok (q, rest)
stepped true r bs rest fb back result h q e =
    let s : steps_said r fb ≡ Ok q = sym h.0 ∙ e in
    let f = h.1 in
    rw s (cc)
stepped false r bs rest fb back result h q e = let f = h.0 in let z : ◌≡◌ {A = ℕ} 0 1 = cc in absurd (omega arith)

pub steps_took : (r : ℕ) (bs rest : List ℕ) (q : ℤ × ℤ) → Triplet r bs (Ok q) rest → steps r bs ≡ Ok (q, rest)
steps_took r bs rest q t =
    stepped (leb (bytes_in (group_of r)) (length bs)) r bs rest (take (bytes_in (group_of r)) bs) (drop (bytes_in (group_of r)) bs) (Ok q) t q refl

-- What the loop over the flags does at the flag `i`.
module _ (flags bs : List ℕ) (i f : ℕ) (ps : List Point) (last : Point) (low : i < length flags) (here : f ≡ get_or flags i 0) where
  one_more : points_said (drop i flags) ps last bs ≡ points_said (f ∷ drop (i + 1) flags) ps last bs
  one_more =
      ap (λ (fs : List ℕ). points_said fs ps last bs) (drop_more flags i 0 low)
      ∙ ap (λ (x : ℕ). points_said (x ∷ drop (i + 1) flags) ps last bs) (sym here)

  pub turned : (p : Point) (rest : List ℕ) → point_said last f bs ≡ Ok (p, rest) → points_said (drop i flags) ps last bs ≡ points_said (drop (i + 1) flags) (ps ++ p ∷ []) p rest
  turned p rest e = one_more ∙ rw e refl

-- An answer is known from what is said of it.
pub accepted : {A : Type 0} (s : Result (A × List ℕ) ParseError) (rest : List ℕ) (x : A) → MatchResult s (λ p. (◌≡◌ {A = Result A ParseError} (Ok x) (Ok p.0)) × (rest ≡ p.1)) (λ e. ◌≡◌ {A = Result A ParseError} (Ok x) (Err e)) → s ≡ Ok (x, rest)
accepted {A} (Ok p) rest x h =
    let e : x ≡ p.0 = let f = h.0 in cc in
    ap (λ (y : A). Ok (y, p.1)) (sym e) ∙ ap (λ (r : List ℕ). Ok (x, r)) (sym h.1)
accepted (Err d) rest x h = let z : ◌≡◌ {A = ℕ} 0 1 = cc in absurd (omega arith)

abbrev Moves : ℤ → Result ℤ ParseError → Type 0
Moves z r = Judges (placed z) z r

both_false : (a : Bool) → (a && false) ≡ false
both_false true = refl
both_false false = refl

module _ (last : Point) (f : ℕ) (bs rest : List ℕ) (q : ℤ × ℤ) (read : steps (f % 128) bs ≡ Ok (q, rest)) where
  pub reached : (x y : ℤ) → Moves (last.x +ℤ q.0) (Ok x) → Moves (last.y +ℤ q.1) (Ok y) → point_said last f bs ≡ Ok (point x y f, rest)
  reached x y a b =
      let ex = passed (placed (last.x +ℤ q.0)) (last.x +ℤ q.0) x a in
      let ey = passed (placed (last.y +ℤ q.1)) (last.y +ℤ q.1) y b in
      let said : point_said last f bs ≡ Ok (point (last.x +ℤ q.0) (last.y +ℤ q.1) f, rest) = rw (read, ex.0, ey.0) refl in
      said
      ∙ (ap (λ (z : ℤ). Ok (point z (last.y +ℤ q.1) f, rest)) (sym ex.1) ∙ ap (λ (z : ℤ). Ok (point x z f, rest)) (sym ey.1))

  pub past_x : (d : ParseError) → Moves (last.x +ℤ q.0) (Err d) → point_said last f bs ≡ Err d
  past_x d a =
      let ex = failed (placed (last.x +ℤ q.0)) (last.x +ℤ q.0) d a in
      let said : point_said last f bs ≡ Err BadValue = rw (read, ex.0) refl in
      said ∙ ap (λ (e : ParseError). Err e) (sym ex.1)

  pub past_y : (d : ParseError) → Moves (last.y +ℤ q.1) (Err d) → point_said last f bs ≡ Err d
  past_y d b =
      let ey = failed (placed (last.y +ℤ q.1)) (last.y +ℤ q.1) d b in
      let said : point_said last f bs ≡ Err BadValue = rw (read, ey.0, both_false (placed (last.x +ℤ q.0))) refl in
      said ∙ ap (λ (e : ParseError). Err e) (sym ey.1)
