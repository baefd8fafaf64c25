-- Values laid one behind the other.
use Rattle.std.proofs.Common.{◌≡◌, ℕ, suc, ◌+◌, ◌-◌, min, ◌<◌, ◌≤◌, List, [], ◌∷◌, ◌++◌, length, take, drop, set, sym, refl, ap, ◌∙◌, arith, zero-add}
use Rattle.std.proofs.lemmas.List.{append_assoc, drop_at, length-drop, length-set, length-take-le, set_past, take_at, take-append-drop}
use Rattle.std.proofs.lemmas.List.Edits.{sets, sets-eq}
use Rattle.glyph.specs.Laying.{filled, laid}

module _ {A : Type 0} where
  pub laid_append : (at k : ℕ) (xs ys : List A) (list : List A) → k ≡ at + length xs → laid at (xs ++ ys) list ≡ laid k ys (laid at xs list)
  laid_append at k [] ys list e = ap (λ (n : ℕ). laid n ys list) (omega arith)
  laid_append at k (x ∷ xs) ys list e = laid_append (suc at) k xs ys (set list at x) (omega arith)

  pub laid_more : (at k : ℕ) (xs : List A) (x : A) (list : List A) → k ≡ at + length xs → laid at (xs ++ x ∷ []) list ≡ laid k (x ∷ []) (laid at xs list)
  laid_more at k xs x list e = laid_append at k xs (x ∷ []) list e

  pub length_laid : (at : ℕ) (xs : List A) (list : List A) → length (laid at xs list) ≡ length list
  length_laid at [] list = refl
  length_laid at (x ∷ xs) list = length_laid (suc at) xs (set list at x) ∙ length-set list at x

  -- Past the end nothing is stored.
  pub laid_past : (at : ℕ) (xs : List A) (list : List A) → length list ≤ at → laid at xs list ≡ list
  laid_past at [] list h = refl
  laid_past at (x ∷ xs) list h =
      ap (laid (suc at) xs) (set_past list at x h) ∙ laid_past (suc at) xs list (omega arith)

  -- Without a value, or past the end, nothing is stored.
  laid_none : (at : ℕ) (xs : List A) (list : List A) → (0 < length xs → length list ≤ at) → laid at xs list ≡ list
  laid_none at [] list h = refl
  laid_none at (x ∷ xs) list h = laid_past at (x ∷ xs) list (h (omega arith))

  laid_sets : (at : ℕ) (xs : List A) (list : List A) → laid at xs list ≡ sets list at xs
  laid_sets at [] list = refl
  laid_sets at (x ∷ xs) list = laid_sets (suc at) xs (set list at x)

  module _ (at : ℕ) (xs : List A) (list : List A) (fits : at + length xs ≤ length list) where
    -- Values that all have a place take the places of as many.
    laid_in : laid at xs list ≡ take at list ++ (xs ++ drop (at + length xs) list)
    laid_in =
        laid_sets at xs list
        ∙ (sets-eq xs list at fits ∙ append_assoc (take at list) xs (drop (at + length xs) list))

    -- What was laid stands where it was laid.
    pub laid_held : take (length xs) (drop at (laid at xs list)) ≡ xs
    laid_held =
        let rest = drop (at + length xs) list in
        ap (λ (ys : List A). take (length xs) (drop at ys)) laid_in
        ∙ (ap (take (length xs)) (drop_at (take at list) (xs ++ rest) at (length-take-le at list (omega arith))) ∙ take_at xs rest (length xs) refl)

  -- Of any values, as many as there are places for.
  pub laid_is : (at k : ℕ) (xs : List A) (list : List A) → at ≤ length list → k ≡ min (length xs) (length list - at) → laid at xs list ≡ take at list ++ (take k xs ++ drop (at + k) list)
  laid_is at k xs list h e =
      let front = take k xs in
      let n = length-take-le k xs (omega arith) in
      let m = length_laid at front list in
      let d = length-drop k xs in
      ap (λ (ys : List A). laid at ys list) (sym (take-append-drop k xs))
      ∙ (laid_append at (at + k) front (drop k xs) list (omega arith)
      ∙ (laid_none (at + k) (drop k xs) (laid at front list) (λ (z : 0 < length (drop k xs)). omega arith)
      ∙ (laid_in at front list (omega arith) ∙ ap (λ (i : ℕ). take at list ++ (front ++ drop (at + i) list)) n)))

  -- Laid from place 0 on, values fill the list.
  pub laid_fills : (xs old : List A) → length xs ≤ length old → laid 0 xs old ≡ filled xs old
  laid_fills xs old h = laid_in 0 xs old (omega arith) ∙ ap (λ (n : ℕ). xs ++ drop n old) (zero-add (length xs))
