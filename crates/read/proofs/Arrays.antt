-- Where the fields of an array lie.
use Rattle.std.proofs.Common.{◌≡◌, ℕ, zero, suc, ◌+◌, ◌*◌, ◌/◌, ◌<◌, ◌≤◌, List, [], ◌∷◌, length, take, drop, Some, None, refl, ap, ◌∙◌, mul-le-mul_right, suc-mul, zero-mul, div-mul-le_self, arith}
use native.Mathlib.Nat.{div-eq_of_lt, div-eq-sub-div}
use Rattle.std.specs.List.{slice_get}
use Rattle.std.proofs.lemmas.List.{drop-drop, length-drop}
use Rattle.read.specs.Arrays.{fields_of, fields}

-- The field at `i` ends inside the bytes.
pub ends_inside : (len size i : ℕ) → i < len / size → i * size + size ≤ len
ends_inside len size i h =
    let p : suc i * size ≤ len / size * size = mul-le-mul_right size h in
    let q : suc i * size ≡ i * size + size = suc-mul i size in
    let r : len / size * size ≤ len = div-mul-le_self len size in
    omega arith

module _ {A : Type 0} (size : ℕ) (decode : List ℕ → A) where
  at_of : (n i : ℕ) (bs : List ℕ) → i < n → slice_get (fields_of size decode n bs) i ≡ Some (decode (take size (drop (i * size) bs)))
  at_of zero i bs h = absurd (omega arith)
  at_of (suc n) zero bs h = rw (zero-mul size) refl
  at_of (suc n) (suc i) bs h =
      let e : size + i * size ≡ suc i * size = omega (arith, suc-mul i size) in
      at_of n i (drop size bs) (omega arith)
      ∙ ap (λ (xs : List ℕ). Some (decode (take size xs))) (drop-drop (i * size) size bs ∙ ap (λ (k : ℕ). drop k bs) e)

  past_of : (n i : ℕ) (bs : List ℕ) → n ≤ i → slice_get (fields_of size decode n bs) i ≡ None
  past_of zero i bs h = refl
  past_of (suc n) zero bs h = absurd (omega arith)
  past_of (suc n) (suc i) bs h = past_of n i (drop size bs) (omega arith)

  pub field_at : (i : ℕ) (bs : List ℕ) → i < length bs / size → slice_get (fields size decode bs) i ≡ Some (decode (take size (drop (i * size) bs)))
  field_at i bs h = at_of (length bs / size) i bs h

  pub field_past : (i : ℕ) (bs : List ℕ) → length bs / size ≤ i → slice_get (fields size decode bs) i ≡ None
  field_past i bs h = past_of (length bs / size) i bs h

  pub fields_none : (bs : List ℕ) → length bs < size → fields size decode bs ≡ []
  fields_none bs h = rw (div-eq_of_lt h) refl

  pub fields_more : (bs : List ℕ) → 0 < size → size ≤ length bs → fields size decode bs ≡ decode (take size bs) ∷ fields size decode (drop size bs)
  fields_more bs pos h =
      let e : length bs / size ≡ suc (length (drop size bs) / size) =
      div-eq-sub-div pos h ∙ (rw (length-drop size bs) (omega arith))
      in
      ap (λ (n : ℕ). fields_of size decode n bs) e

  pub length_of : (n : ℕ) (bs : List ℕ) → length (fields_of size decode n bs) ≡ n
  length_of zero bs = refl
  length_of (suc n) bs = ap suc (length_of n (drop size bs))

  pub fields_length : (bs : List ℕ) → length (fields size decode bs) ≡ length bs / size
  fields_length bs = length_of (length bs / size) bs
