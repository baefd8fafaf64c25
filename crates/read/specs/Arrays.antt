-- The values that an array of fields holds.
use Rattle.std.specs.Prelude.{◌≡◌, ℕ, zero, suc, ◌+◌, ◌*◌, ◌/◌, ◌<◌, List, [], ◌∷◌, length, take, drop}
use Rattle.std.specs.List.{flat_map}
use Rattle.std.proofs.Common.{sym, ap, ◌∙◌, zero-mul, suc-mul, arith}
use Rattle.std.proofs.lemmas.List.{length-drop, length-take-le, nil_from_length, take-append-drop}
use native.Mathlib.Nat.{mul-div_cancel}
use Rattle.read.specs.Bytes.{AllBytes, bytes_take, bytes_drop}

-- The first `n` fields of some bytes, each of `size` bytes.
abbrev pub fields_of : {A : Type 0} → ℕ → (List ℕ → A) → ℕ → List ℕ → List A
fields_of size decode zero bs = []
fields_of size decode (suc n) bs = decode (take size bs) ∷ fields_of size decode n (drop size bs)

-- As many fields as the bytes hold whole.
abbrev pub fields : {A : Type 0} → ℕ → (List ℕ → A) → List ℕ → List A
fields size decode bs = fields_of size decode (length bs / size) bs

-- Bytes that are whole fields are spelled by their values, so the values alone tell the bytes.
module _ {A : Type 0} (size : ℕ) (encode : A → List ℕ) (decode : List ℕ → A) (write_back : (bs : List ℕ) → length bs ≡ size → AllBytes bs → encode (decode bs) ≡ bs) where
  spelled_of : (n : ℕ) (bs : List ℕ) → length bs ≡ n * size → AllBytes bs → flat_map encode (fields_of size decode n bs) ≡ bs
  spelled_of zero bs h ok = sym (nil_from_length bs (h ∙ zero-mul size))
  spelled_of (suc n) bs h ok =
      let long : length bs ≡ n * size + size = h ∙ suc-mul n size in
      let first = write_back (take size bs) (length-take-le size bs (omega arith)) (bytes_take size bs ok) in
      let rest = spelled_of n (drop size bs) (simp length-drop (omega arith)) (bytes_drop size bs ok) in
      let whole = take-append-drop size bs in
      cc

  pub fields_spelled : (n : ℕ) (bs : List ℕ) → 0 < size → length bs ≡ n * size → AllBytes bs → flat_map encode (fields size decode bs) ≡ bs
  fields_spelled n bs pos h ok =
      let e : length bs / size ≡ n = ap (λ (k : ℕ). k / size) h ∙ mul-div_cancel n pos in
      rw e (spelled_of n bs h ok)
