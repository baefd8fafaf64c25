-- Where the bits of a bitmap stand.
use Rattle.std.proofs.Common.{◌≡◌, ℕ, zero, suc, ◌-◌, ◌*◌, ◌/◌, ◌%◌, ◌^◌, ◌<◌, ◌≤◌, List, [], ◌∷◌, length, get_or, None, Some, refl, ap, ◌∙◌, arith, eqb, bit_and}
use Rattle.std.proofs.lemmas.Nat.{and_mask}
use Rattle.std.specs.List.{slice_get}
use Rattle.std.proofs.lemmas.Option.{slice_get_past}
use Rattle.woff2.specs.Bits.{bits, bits_of}

pub bits_length : (bs : List ℕ) → length (bits bs) ≡ length bs * 8
bits_length [] = refl
bits_length (b ∷ bs) = omega (arith, bits_length bs)

pub no_bit : (bs : List ℕ) (i : ℕ) → length bs ≤ i / 8 → slice_get (bits bs) i ≡ None
no_bit bs i h = slice_get_past (bits bs) i (omega (arith, bits_length bs))

pub bit_at : (bs : List ℕ) (i : ℕ) → i / 8 < length bs → slice_get (bits bs) i ≡ slice_get (bits_of (get_or bs (i / 8) 0)) (i % 8)
bit_at [] i h = absurd (omega arith)
bit_at (b ∷ bs) zero h = refl
bit_at (b ∷ bs) (suc zero) h = refl
bit_at (b ∷ bs) (suc (suc zero)) h = refl
bit_at (b ∷ bs) (suc (suc (suc zero))) h = refl
bit_at (b ∷ bs) (suc (suc (suc (suc zero)))) h = refl
bit_at (b ∷ bs) (suc (suc (suc (suc (suc zero))))) h = refl
bit_at (b ∷ bs) (suc (suc (suc (suc (suc (suc zero)))))) h = refl
bit_at (b ∷ bs) (suc (suc (suc (suc (suc (suc (suc zero))))))) h = refl
bit_at (b ∷ bs) (suc (suc (suc (suc (suc (suc (suc (suc i)))))))) h =
    let q : suc (suc (suc (suc (suc (suc (suc (suc i))))))) / 8 ≡ suc (i / 8) = omega arith in
    let r : suc (suc (suc (suc (suc (suc (suc (suc i))))))) % 8 ≡ i % 8 = omega arith in
    rw (q, r) (bit_at bs i (omega arith))

-- The bit of a byte, shifted to the end and masked.
shifted : (b p : ℕ) → p < 8 → Some (eqb (b / 2 ^ (7 - p) % 2) 1) ≡ slice_get (bits_of b) p
shifted b zero h = refl
shifted b (suc zero) h = refl
shifted b (suc (suc zero)) h = refl
shifted b (suc (suc (suc zero))) h = refl
shifted b (suc (suc (suc (suc zero)))) h = refl
shifted b (suc (suc (suc (suc (suc zero))))) h = refl
shifted b (suc (suc (suc (suc (suc (suc zero)))))) h = refl
shifted b (suc (suc (suc (suc (suc (suc (suc zero))))))) h = refl
shifted b (suc (suc (suc (suc (suc (suc (suc (suc p)))))))) h = absurd (omega arith)

pub masked : (b p : ℕ) → p < 8 → Some (eqb (bit_and (b / 2 ^ (7 - p)) 1) 1) ≡ slice_get (bits_of b) p
masked b p h = ap (λ (k : ℕ). Some (eqb k 1)) (and_mask (b / 2 ^ (7 - p)) 1) ∙ shifted b p h
