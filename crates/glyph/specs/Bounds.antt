-- The box around points.
use Rattle.std.specs.Prelude.{◌≡◌, ◌⊎◌, List, [], ◌∷◌, ◌≤ℤ◌, fold}
use Rattle.std.specs.Int.{int_max, int_min}
use Rattle.std.specs.List.{AllByRecursion}
use Rattle.binary.specs.declared.BoundingBox.{BoundingBox}
use Rattle.glyph.specs.Glyphs.{no_box}
use Rattle.glyph.specs.declared.lists.Point.{Point}

-- Some element of the list has the property.
abbrev pub Any : {A : Type 0} → (A → Type 0) → List A → Type 0
Any P [] = ⊥
Any P (x ∷ xs) = P x ⊎ Any P xs

abbrev pub Inside : BoundingBox → Point → Type 0
Inside b p = (b.x_min ≤ℤ p.x) × (p.x ≤ℤ b.x_max) × (b.y_min ≤ℤ p.y) × (p.y ≤ℤ b.y_max)

-- The box has the least and greatest x and y of the points: every point lies inside, on curve or off, and each side
-- goes through a point.
pub record Tight (b : BoundingBox) (ps : List Point) : Type 0 where
  pub inside : AllByRecursion (Inside b) ps
  pub left : Any (λ p. p.x ≡ b.x_min) ps
  pub right : Any (λ p. p.x ≡ b.x_max) ps
  pub bottom : Any (λ p. p.y ≡ b.y_min) ps
  pub top : Any (λ p. p.y ≡ b.y_max) ps

-- That box, worked out point by point.
abbrev pub box_at : Point → BoundingBox
box_at p = record { x_min = p.x; y_min = p.y; x_max = p.x; y_max = p.y }

abbrev pub grown : BoundingBox → Point → BoundingBox
grown b p =
    record {
      x_min = int_min b.x_min p.x;
      y_min = int_min b.y_min p.y;
      x_max = int_max b.x_max p.x;
      y_max = int_max b.y_max p.y;
    }

abbrev pub bounds : List Point → BoundingBox
bounds [] = no_box
bounds (p ∷ ps) = fold grown (box_at p) (p ∷ ps)
