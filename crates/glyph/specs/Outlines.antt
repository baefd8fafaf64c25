-- Contours and points.
use Rattle.std.specs.Prelude.{ℕ, suc, Bool, true, ◌&&◌, List, [], ◌∷◌, ℤ, pos, negsuc, ◌≤ℤ◌, int_le}
use Rattle.glyph.specs.declared.lists.Point.{Point}

-- How many points contours have that end at the given points.
abbrev pub points_in : List ℕ → ℕ
points_in [] = 0
points_in (e ∷ []) = suc e
points_in (e ∷ (f ∷ es)) = points_in (f ∷ es)

-- A position, or a step, lies in -32768..32767.
abbrev pub InRange : ℤ → Type 0
InRange z = (negsuc 32767 ≤ℤ z) × (z ≤ℤ pos 32767)

abbrev pub placed : ℤ → Bool
placed z = int_le (negsuc 32767) z && int_le z (pos 32767)

-- The first point is a pair of steps from here.
abbrev pub origin : Point
origin = record { x = pos 0; y = pos 0; on_curve = true }
