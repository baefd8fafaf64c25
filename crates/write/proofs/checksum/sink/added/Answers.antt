use Rattle.std.proofs.Common.{◌≡◌, ℕ, ◌+◌, ◌-◌, ◌*◌, ◌%◌, ◌^◌, ◌<◌, List, [], ◌∷◌, ◌++◌, length, get_or, take, sym, refl, ap, ◌∙◌, arith}
use Rattle.std.proofs.lemmas.List.{append_assoc, length-append, length-take-le, take_more}
use Rattle.write.specs.Checksums.{checksum}
use Rattle.write.specs.Sums.{checksum_push, placed}
use Rattle.write.proofs.checksum.sink.added.Goals as goal

-- One byte more behind `xs` and the first `i` of `bs`.
step : (xs bs : List ℕ) (i at place total add : ℕ) → i < length bs → length xs ≡ at → place ≡ (at + i) % 18446744073709551616 → add ≡ placed place (get_or bs i 0) → checksum (xs ++ take i bs) ≡ total → checksum (xs ++ take (i + 1) bs) ≡ (total + add) % 4294967296
step xs bs i at place total add h long here adds sums =
    let len : length (xs ++ take i bs) ≡ at + i = length-append xs (take i bs) ∙ omega (arith, length-take-le i bs (omega arith)) in
    let turn : length (xs ++ take i bs) % 4 ≡ place % 4 = omega arith in
    let same : placed (length (xs ++ take i bs)) (get_or bs i 0) ≡ add = ap (λ (k : ℕ). get_or bs i 0 * 256 ^ (3 - k)) turn ∙ sym adds in
    ap (λ (ys : List ℕ). checksum (xs ++ ys)) (take_more bs i 0 h)
    ∙ (ap checksum (sym (append_assoc xs (take i bs) (get_or bs i 0 ∷ [])))
    ∙ (checksum_push (xs ++ take i bs) (get_or bs i 0) ∙ ap (λ (k : ℕ). k % 4294967296) (omega arith)))

pub loop-i-preserved : goal.loop-i-preserved
loop-i-preserved c =
    λ xs p q.
    step xs c.args.bytes.now c.loop-i.i c.args.at _ c.loop-i.total c.placed-total.result (omega arith) p refl c.placed-total.ensures
    (c.loop-i.invariant xs p q)
