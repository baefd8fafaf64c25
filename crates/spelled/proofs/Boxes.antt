-- The box around points is the tight one, and no other is.
use Rattle.std.proofs.Common.{◌≡◌, ℕ, zero, suc, ◌<◌, ◌⊎◌, List, [], ◌∷◌, map, length, get_or, ℤ, ◌≤ℤ◌, fold, sym, refl, ap, inl, inr, arith}
use Rattle.std.proofs.lemmas.Int.{ints}
use Rattle.std.proofs.ByRecursion.{folded_max_z_bounds, folded_max_z_reached, folded_min_z_bounds, folded_min_z_reached}
use Rattle.std.specs.Int.{int_max, int_min}
use Rattle.std.specs.List.{ContainsAt as Has, AllByRecursion}
use Rattle.binary.specs.declared.BoundingBox.{BoundingBox}
use Rattle.glyph.specs.Bounds.{Any, bounds, grown, Inside, Tight}
use Rattle.glyph.specs.declared.lists.Point.{Point}

box : ℤ → ℤ → ℤ → ℤ → BoundingBox
box a b c d = record { x_min = a; y_min = b; x_max = c; y_max = d }

-- Each side of the box is worked out for itself.
sides : (b : BoundingBox) (ps : List Point) → fold grown b ps ≡ box (fold int_min b.x_min (map (λ p. p.x) ps)) (fold int_min b.y_min (map (λ p. p.y) ps)) (fold int_max b.x_max (map (λ p. p.x) ps)) (fold int_max b.y_max (map (λ p. p.y) ps))
unfolding box
sides b [] = refl
sides b (p ∷ ps) = sides (grown b p) ps

at_place : (f : Point → ℤ) (ps : List Point) (r : ℤ) (k : ℕ) → k < length (map f ps) → ((d : ℤ) → get_or (map f ps) k d ≡ r) → Any (λ p. f p ≡ r) ps
at_place f [] r k l e = absurd (omega arith)
at_place f (p ∷ ps) r zero l e = inl (e r)
at_place f (p ∷ ps) r (suc k) l e = inr (at_place f ps r k (omega arith) e)

-- A side goes through a point.
through : (f : Point → ℤ) (p : Point) (ps : List Point) (r : ℤ) → (r ≡ f p) ⊎ Has (map f (p ∷ ps)) r → Any (λ q. f q ≡ r) (p ∷ ps)
through f p ps r (inl e) = inl (sym e)
through f p ps r (inr h) = at_place f (p ∷ ps) r h.0 h.1 h.2

inside_all : (b : BoundingBox) (ps : List Point) → AllByRecursion (λ z. b.x_min ≤ℤ z) (map (λ p. p.x) ps) → AllByRecursion (λ z. z ≤ℤ b.x_max) (map (λ p. p.x) ps) → AllByRecursion (λ z. b.y_min ≤ℤ z) (map (λ p. p.y) ps) → AllByRecursion (λ z. z ≤ℤ b.y_max) (map (λ p. p.y) ps) → AllByRecursion (Inside b) ps
inside_all b [] h i j k = tt
inside_all b (p ∷ ps) h i j k = ((h.0, i.0, j.0, k.0), inside_all b ps h.1 i.1 j.1 k.1)

pub bounds_tight : (p : Point) (ps : List Point) → Tight (bounds (p ∷ ps)) (p ∷ ps)
unfolding box
bounds_tight p ps =
    let b = bounds (p ∷ ps) in
    let xs : List ℤ = map (λ (q : Point). q.x) (p ∷ ps) in
    let ys : List ℤ = map (λ (q : Point). q.y) (p ∷ ps) in
    let s = sides (box p.x p.y p.x p.y) (p ∷ ps) in
    let e0 : b.x_min ≡ fold int_min p.x xs = ap (λ (c : BoundingBox). c.x_min) s in
    let e1 : b.y_min ≡ fold int_min p.y ys = ap (λ (c : BoundingBox). c.y_min) s in
    let e2 : b.x_max ≡ fold int_max p.x xs = ap (λ (c : BoundingBox). c.x_max) s in
    let e3 : b.y_max ≡ fold int_max p.y ys = ap (λ (c : BoundingBox). c.y_max) s in
    record {
      inside =
          inside_all b (p ∷ ps) (folded_min_z_bounds p.x xs b.x_min e0).1 (folded_max_z_bounds p.x xs b.x_max e2).1 (folded_min_z_bounds p.y ys b.y_min e1).1 (folded_max_z_bounds p.y ys b.y_max e3).1;
      left = through (λ (q : Point). q.x) p ps b.x_min (folded_min_z_reached p.x xs b.x_min e0);
      right = through (λ (q : Point). q.x) p ps b.x_max (folded_max_z_reached p.x xs b.x_max e2);
      bottom = through (λ (q : Point). q.y) p ps b.y_min (folded_min_z_reached p.y ys b.y_min e1);
      top = through (λ (q : Point). q.y) p ps b.y_max (folded_max_z_reached p.y ys b.y_max e3);
    }

-- What holds of all points holds of one that some point is.
meet : (P Q : Point → Type 0) (ps : List Point) → AllByRecursion P ps → Any Q ps → (p : Point) × P p × Q p
meet P Q [] h k = absurd k
meet P Q (p ∷ ps) h (inl k) = (p, h.0, k)
meet P Q (p ∷ ps) h (inr k) = meet P Q ps h.1 k

same_ends : (a b : ℤ) → a ≤ℤ b → b ≤ℤ a → a ≡ b
same_ends a b h k = omega (arith, ints)

-- Each side of a tight box is at most that of another.
module _ (b c : BoundingBox) (ps : List Point) (h : Tight b ps) (k : Tight c ps) where
  low_x : b.x_min ≤ℤ c.x_min
  low_x = let m = meet (Inside b) (λ (p : Point). p.x ≡ c.x_min) ps h.inside k.left in rw m.2 at m.1.0

  high_x : c.x_max ≤ℤ b.x_max
  high_x = let m = meet (Inside b) (λ (p : Point). p.x ≡ c.x_max) ps h.inside k.right in rw m.2 at m.1.1

  low_y : b.y_min ≤ℤ c.y_min
  low_y = let m = meet (Inside b) (λ (p : Point). p.y ≡ c.y_min) ps h.inside k.bottom in rw m.2 at m.1.2

  high_y : c.y_max ≤ℤ b.y_max
  high_y = let m = meet (Inside b) (λ (p : Point). p.y ≡ c.y_max) ps h.inside k.top in rw m.2 at m.1.3

one_tight : (b c : BoundingBox) (ps : List Point) → Tight b ps → Tight c ps → b ≡ c
unfolding box
one_tight b c ps h k =
    let e0 = same_ends b.x_min c.x_min (low_x b c ps h k) (low_x c b ps k h) in
    let e1 = same_ends b.y_min c.y_min (low_y b c ps h k) (low_y c b ps k h) in
    let e2 = same_ends b.x_max c.x_max (high_x c b ps k h) (high_x b c ps h k) in
    let e3 = same_ends b.y_max c.y_max (high_y c b ps k h) (high_y b c ps h k) in
    let e : box b.x_min b.y_min b.x_max b.y_max ≡ box c.x_min c.y_min c.x_max c.y_max = cc in
    e

pub tight_is_bounds : (b : BoundingBox) (ps : List Point) → Tight b ps → b ≡ bounds ps
tight_is_bounds b [] h = absurd h.left
tight_is_bounds b (p ∷ ps) h = one_tight b (bounds (p ∷ ps)) (p ∷ ps) h (bounds_tight p ps)
