-- How many values a read gives.
use Rattle.std.proofs.Common.{◌≡◌, ℕ, zero, suc, ◌+◌, ◌-◌, ◌&&◌, ltb, leb, List, [], ◌∷◌, ◌++◌, length, Ok, ap, arith}
use Rattle.std.proofs.lemmas.List.{length_push}
use Rattle.glyph.specs.declared.lists.Point.{Point}
use Rattle.read.proofs.Thens.{test_passed, then_accepted}
use Rattle.read.specs.declared.error.ParseError.TheVariants.{BadValue}
use Rattle.unpack.specs.Outlines.{ends_said, packed, point_said, points_said}

-- An end for each contour.
pub ends_length : (c : ℕ) (es : List ℕ) (sum : ℕ) (bs : List ℕ) (p : List ℕ × ℕ × List ℕ) → ends_said c es sum bs ≡ Ok p → length p.0 ≡ length es + c
ends_length zero es sum bs p h = let e : es ≡ p.0 = cc in omega (arith, ap length e)
ends_length (suc c) es sum bs p h =
    let a = then_accepted (packed bs) _ p h in
    let v = a.0.0 in
    let b = test_passed (ltb 0 (sum + v) && leb (sum + v) 65535) (ends_said c (es ++ (sum + v - 1) ∷ []) (sum + v) a.0.1) BadValue p a.2 in
    let l = ends_length c (es ++ (sum + v - 1) ∷ []) (sum + v) a.0.1 p b.1 in
    omega (arith, length_push es (sum + v - 1))

-- A point for each flag.
pub points_length : (fs : List ℕ) (ps : List Point) (last : Point) (bs : List ℕ) (p : List Point × List ℕ) → points_said fs ps last bs ≡ Ok p → length p.0 ≡ length ps + length fs
points_length [] ps last bs p h = let e : ps ≡ p.0 = cc in omega (arith, ap length e)
points_length (f ∷ fs) ps last bs p h =
    let a = then_accepted (point_said last f bs) (λ q. points_said fs (ps ++ q.0 ∷ []) q.0 q.1) p h in
    let l = points_length fs (ps ++ a.0.0 ∷ []) a.0.0 a.0.1 p a.2 in
    omega (arith, length_push ps a.0.0)
