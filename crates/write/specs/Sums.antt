-- How a checksum grows, and which sums a number of bytes can have.
use Rattle.std.specs.Prelude.{◌≡◌, ℕ, zero, suc, ◌+◌, ◌-◌, ◌*◌, ◌/◌, ◌%◌, ◌^◌, ◌<◌, List, [], ◌∷◌, ◌++◌, length, replicate, refl}
use Rattle.std.proofs.Common.{sym, ap, ◌∙◌, zero-mul, arith}
use Rattle.std.proofs.lemmas.List.{append_assoc, append-nil, length-append, length-replicate}
use Rattle.write.specs.Checksums.{checksum, word}
use Rattle.write.specs.Meanings.{counter, summed}
use Rattle.write.specs.Sinks.{Put}
use Rattle.write.specs.declared.checksum.WriteChecksum.{WriteChecksum}

pub checksum_fits : (xs : List ℕ) → checksum xs < 4294967296
unfolding checksum
checksum_fits [] = omega arith
checksum_fits (a ∷ []) = omega arith
checksum_fits (a ∷ (b ∷ [])) = omega arith
checksum_fits (a ∷ (b ∷ (c ∷ []))) = omega arith
checksum_fits (a ∷ (b ∷ (c ∷ (d ∷ xs)))) = omega arith

-- What a byte adds, by its place in its word.
abbrev pub placed : ℕ → ℕ → ℕ
placed at b = b * 256 ^ (3 - at % 4)

carry : (w x y z : ℕ) → x ≡ (y + z) % 4294967296 → (w + x) % 4294967296 ≡ ((w + y) % 4294967296 + z) % 4294967296
carry w x y z e = omega arith

pub checksum_push : (xs : List ℕ) (b : ℕ) → checksum (xs ++ b ∷ []) ≡ (checksum xs + placed (length xs) b) % 4294967296
unfolding checksum
checksum_push [] b = omega arith
checksum_push (a ∷ []) b = omega arith
checksum_push (a ∷ (c ∷ [])) b = omega arith
checksum_push (a ∷ (c ∷ (d ∷ []))) b = omega arith
checksum_push (a ∷ (c ∷ (d ∷ (e ∷ xs)))) b =
    let turn : suc (suc (suc (suc (length xs)))) % 4 ≡ length xs % 4 = omega arith in
    carry (word a c d e) (checksum (xs ++ b ∷ [])) (checksum xs) (placed (length xs) b) (checksum_push xs b)
    ∙ ap (λ (k : ℕ). ((word a c d e + checksum xs) % 4294967296 + b * 256 ^ (3 - k)) % 4294967296) (sym turn)

pub checksum_zeros : (xs : List ℕ) (n : ℕ) → checksum (xs ++ replicate n 0) ≡ checksum xs
checksum_zeros xs zero = ap checksum (append-nil xs)
checksum_zeros xs (suc n) =
    let fits = checksum_fits xs in
    let none : (checksum xs + placed (length xs) 0) % 4294967296 ≡ checksum xs = rw zero-mul (omega arith) in
    ap checksum (sym (append_assoc xs (0 ∷ []) (replicate n 0)))
    ∙ (checksum_zeros (xs ++ 0 ∷ []) n ∙ (checksum_push xs 0 ∙ none))

-- Fewer than four bytes leave the lowest bytes of their sum zero,
pub checksum_filled : (xs : List ℕ) → checksum xs % 256 ^ (4 - length xs) ≡ 0
unfolding checksum
checksum_filled [] = refl
checksum_filled (a ∷ []) = omega arith
checksum_filled (a ∷ (b ∷ [])) = omega arith
checksum_filled (a ∷ (b ∷ (c ∷ []))) = omega arith
checksum_filled (a ∷ (b ∷ (c ∷ (d ∷ xs)))) =
    let none : 4 - suc (suc (suc (suc (length xs)))) ≡ 0 = omega arith in
    rw none (omega arith)

-- and any sum of which that holds is the sum of some bytes.
pub summed_by : (count sum : ℕ) → sum < 4294967296 → sum % 256 ^ (4 - count) ≡ 0 → (xs : List ℕ) × ((length xs ≡ count) × (checksum xs ≡ sum))
unfolding checksum
summed_by zero sum h f = ([], (refl, omega arith))
summed_by (suc zero) sum h f = (sum / 16777216 ∷ [], (refl, omega arith))
summed_by (suc (suc zero)) sum h f = (sum / 16777216 ∷ (sum / 65536 % 256 ∷ []), (refl, omega arith))
summed_by (suc (suc (suc zero))) sum h f =
    (sum / 16777216 ∷ (sum / 65536 % 256 ∷ (sum / 256 % 256 ∷ [])), (refl, omega arith))
summed_by (suc (suc (suc (suc n)))) sum h f =
    let none : checksum (replicate n 0) ≡ 0 = checksum_zeros [] n in (
      sum / 16777216 ∷ (sum / 65536 % 256 ∷ (sum / 256 % 256 ∷ (sum % 256 ∷ replicate n 0))),
      (ap (λ (k : ℕ). suc (suc (suc (suc k)))) (length-replicate n 0), omega arith),
    )

-- The bytes `bs` behind any bytes of this count and sum give the sum `total`.
abbrev pub Adds : ℕ → ℕ → List ℕ → ℕ → Type 0
Adds count sum bs total = (xs : List ℕ) → length xs ≡ count → checksum xs ≡ sum → checksum (xs ++ bs) ≡ total

pub adds_zeros : (count sum n : ℕ) → Adds count sum (replicate n 0) sum
adds_zeros count sum n xs p q = checksum_zeros xs n ∙ q

-- Then so many bytes can have that sum.
pub still_filled : (count sum n total : ℕ) (bs : List ℕ) → sum < 4294967296 → sum % 256 ^ (4 - count) ≡ 0 → n ≡ length bs → Adds count sum bs total → total % 256 ^ (4 - (count + n)) ≡ 0
still_filled count sum n total bs h f e adds =
    let some = summed_by count sum h f in
    let long : length (some.0 ++ bs) ≡ count + n = length-append some.0 bs ∙ omega (arith, some.1.0) in
    let sums : checksum (some.0 ++ bs) ≡ total = adds some.0 some.1.0 some.1.1 in
    ap (λ (k : ℕ). total % 256 ^ (4 - k)) (sym long)
    ∙ (ap (λ (k : ℕ). k % 256 ^ (4 - length (some.0 ++ bs))) (sym sums) ∙ checksum_filled (some.0 ++ bs))

-- A checksum has taken bytes once its counter has, and its sum adds them.
pub added_up : (bs : List ℕ) (s t : WriteChecksum) → Put counter bs s.counter t.counter → Adds s.counter.count s.sum bs t.sum → Put summed bs s t
added_up bs s t put adds =
    record {
      behind = λ xs p. (put.behind xs p.0, adds xs p.0 p.1);
      more = put.more;
      less = put.less;
    }
