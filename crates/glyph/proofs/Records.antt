-- Records at the front of a list.
use Rattle.std.proofs.Common.{◌≡◌, ℕ, zero, suc, List, [], ◌∷◌, length, take, Some, refl, ap, arith}
use Rattle.std.specs.List.{slice_get}
use Rattle.glyph.specs.Glyphs.{Glyph}
use Rattle.glyph.specs.Records.{behind, records_of}
use Rattle.glyph.specs.declared.places.Places.{Places}

-- What stands among the first elements stands in the list.
pub get_front : {A : Type 0} (n i : ℕ) (xs : List A) (x : A) → slice_get (take n xs) i ≡ Some x → slice_get xs i ≡ Some x
get_front zero i xs x h = let z : ◌≡◌ {A = ℕ} 0 1 = cc in absurd (omega arith)
get_front (suc n) i [] x h = h
get_front (suc n) zero (y ∷ xs) x h = h
get_front (suc n) (suc i) (y ∷ xs) x h = get_front n i xs x h

pub records_length : (at : Places) (gs : List Glyph) → length (records_of at gs) ≡ length gs
records_length at [] = refl
records_length at (g ∷ gs) = ap suc (records_length (behind at g) gs)
