-- The sizes of contours, and the ends that they say.
use Rattle.std.proofs.Common.{◌≡◌, ℕ, zero, suc, ◌+◌, ◌-◌, ◌<◌, ◌≤◌, cond, ◌&&◌, ltb, leb, List, [], ◌∷◌, ◌++◌, length, Ok, Err, sym, refl, ap, ◌∙◌, subst, arith}
use Rattle.std.proofs.lemmas.List.{append_assoc, append-nil}
use Rattle.std.proofs.lemmas.Bool.{le-leb, leb-true, lt-ltb, ltb-true}
use Rattle.read.proofs.Thens.{then_accepted}
use Rattle.read.specs.declared.error.ParseError.TheVariants.{BadValue}
use Rattle.unpack.specs.Outlines.{ends_said, packed}
use Rattle.unpack.specs.Spelled.{Sizes}
use Rattle.glyph.specs.Outlines.{points_in}
use Rattle.spelled.proofs.Fronts.{packed_at, packed_ok, passes_both}

-- The running sum behind contours that end at the given points.
abbrev pub sum_after : ℕ → List ℕ → ℕ
sum_after sum [] = sum
sum_after sum (e ∷ es) = sum_after (suc e) es

pub sum_is_points_in : (sum e : ℕ) (es : List ℕ) → sum_after sum (e ∷ es) ≡ points_in (e ∷ es)
sum_is_points_in sum e [] = refl
sum_is_points_in sum e (f ∷ es) = sum_is_points_in (suc e) f es

-- A contour has a point.
pub some_points : (sum e : ℕ) (es : List ℕ) → 0 < sum_after sum (e ∷ es)
some_points sum e [] = omega arith
some_points sum e (f ∷ es) = some_points (suc e) f es

-- The ends that were read, behind those in `es`.
pub ends_ok : (c : ℕ) (es : List ℕ) (sum : ℕ) (bs : List ℕ) (q : List ℕ × ℕ × List ℕ) → ends_said c es sum bs ≡ Ok q → (new : List ℕ) × (p : List ℕ) × (q.0 ≡ es ++ new) × (length new ≡ c) × (bs ≡ p ++ q.2) × Sizes sum new p × (q.1 ≡ sum_after sum new)
ends_ok zero es sum bs q e =
    let s : (es, sum, bs) ≡ q = cc in
    let s0 : es ≡ q.0 = ap (λ (x : List ℕ × ℕ × List ℕ). x.0) s in
    let n = append-nil es in
    ([], [], cc, refl, ap (λ (x : List ℕ × ℕ × List ℕ). x.2) s, refl, sym (ap (λ (x : List ℕ × ℕ × List ℕ). x.1) s))
ends_ok (suc c) es sum bs q e =
    let f =
    then_accepted (packed bs)
    (λ (p : ℕ × List ℕ).
    cond (ltb 0 (sum + p.0) && leb (sum + p.0) 65535) (ends_said c (es ++ (sum + p.0 - 1) ∷ []) (sum + p.0) p.1)
    (Err BadValue))
    q e
    in
    let v = f.0.0 in
    let rest = f.0.1 in
    let g = packed_ok bs f.0 f.1 in
    let h = passes_both (ltb 0 (sum + v)) (leb (sum + v) 65535) (ends_said c (es ++ (sum + v - 1) ∷ []) (sum + v) rest) BadValue q f.2 in
    let i = ends_ok c (es ++ (sum + v - 1) ∷ []) (sum + v) rest q h.2 in
    let low = ltb-true 0 (sum + v) h.0 in
    let high = leb-true (sum + v) 65535 h.1 in
    let end : sum + v ≡ suc (sum + v - 1) = omega arith in
    let w : bs ≡ (g.0 ++ i.1) ++ q.2 = let a = g.1 in let b = i.4 in let k = append_assoc g.0 i.1 q.2 in cc in
    ((sum + v - 1) ∷ i.0, g.0 ++ i.1, i.2 ∙ append_assoc es ((sum + v - 1) ∷ []) i.0, ap suc i.3, w, (g.0, i.1, v, refl, g.2, end, omega arith, subst (λ (n : ℕ). Sizes n i.0 i.1) end i.5), i.6 ∙ ap (λ (n : ℕ). sum_after n i.0) end)

-- Ends that sizes say are read.
pub ends_at : (new : List ℕ) (es : List ℕ) (sum : ℕ) (p rest : List ℕ) → Sizes sum new p → ends_said (length new) es sum (p ++ rest) ≡ Ok (es ++ new, sum_after sum new, rest)
ends_at [] es sum p rest h = rw (h, append-nil es)
ends_at (e ∷ new) es sum p rest h =
    let v = h.2 in
    let w : p ++ rest ≡ h.0 ++ (h.1 ++ rest) = ap (λ (x : List ℕ). x ++ rest) h.3 ∙ append_assoc h.0 h.1 rest in
    let s = h.5 in
    let t : suc e ≤ 65535 = h.6 in
    let i = ends_at new (es ++ e ∷ []) (suc e) h.1 rest h.7 in
    let k : suc e - 1 ≡ e = omega arith in
    let read : packed (p ++ rest) ≡ Ok (v, h.1 ++ rest) = ap packed w ∙ packed_at v h.0 (h.1 ++ rest) h.4 in
    let one = append_assoc es (e ∷ []) new in
    let u : 0 < suc e = omega arith in
    rw (read, s, lt-ltb 0 (suc e) u, le-leb (suc e) 65535 t, k) (i ∙ ap (λ (x : List ℕ). Ok (x, sum_after (suc e) new, rest)) one)
