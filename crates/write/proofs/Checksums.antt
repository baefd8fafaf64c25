-- What a checksum keeps of what its counter does.
use Rattle.std.proofs.Common.{◌≡◌, ℕ, ◌-◌, ◌%◌, ◌^◌, ◌<◌, Bool, true, false, List, length, replicate, Result, Ok, Err, MatchBool, sym, ap, ◌∙◌, subst, refl}
use Rattle.std.proofs.Props.{props}
use Rattle.write.specs.Meanings.{counter, summed}
use Rattle.write.specs.Sinks.{Put}
use Rattle.write.specs.Sums.{added_up, Adds, adds_zeros, still_filled}
use Rattle.write.specs.declared.checksum.WriteChecksum.{WriteChecksum}
use Rattle.write.specs.declared.counter.WriteCounter.{WriteCounter}
use Rattle.write.specs.declared.error.WriteError.{WriteError}
use Rattle.write.specs.declared.error.WriteError.TheVariants.{NoSpace}

-- The facts that a checksum keeps have one proof each.
same : (s : WriteChecksum) (k : WriteCounter) → k ≡ s.counter → (small : s.sum < 4294967296) (filled : s.sum % 256 ^ (4 - k.count) ≡ 0) → ◌≡◌ {A = WriteChecksum} record { counter = k; sum = s.sum; small = small; filled = filled } s
same s k e =
    let P : WriteCounter → Type 0 = λ u. (small : s.sum < 4294967296) (filled : s.sum % 256 ^ (4 - u.count) ≡ 0) → ◌≡◌ {A = WriteChecksum} record { counter = u; sum = s.sum; small = small; filled = filled } s in
    let small_one : (p q : s.sum < 4294967296) → p ≡ q = Prim.hlevel props in
    let filled_one : (p q : s.sum % 256 ^ (4 - s.counter.count) ≡ 0) → p ≡ q = Prim.hlevel props in
    subst P (sym e) (λ small filled i. record { counter = s.counter; sum = s.sum; small = small_one small s.small i; filled = filled_one filled s.filled i })

pub filled_by : (bs : List ℕ) (s : WriteChecksum) (k : WriteCounter) (total : ℕ) → Put counter bs s.counter k → Adds s.counter.count s.sum bs total → total % 256 ^ (4 - k.count) ≡ 0
filled_by bs s k total put adds =
    ap (λ (n : ℕ). total % 256 ^ (4 - n)) put.more
    ∙ still_filled s.counter.count s.sum (length bs) total bs s.small s.filled refl adds

-- A put of zeros, where the counter has space for them (`b`) or not.
module _ (s : WriteChecksum) (k : WriteCounter) (small : s.sum < 4294967296) (filled : s.sum % 256 ^ (4 - k.count) ≡ 0) where
  abbrev after : WriteChecksum
  after = record { counter = k; sum = s.sum; small = small; filled = filled }

  pub zeros_put : (b : Bool) (n : ℕ) (r : Result Unit WriteError) → MatchBool b ((r ≡ Ok tt) × Put counter (replicate n 0) s.counter k) ((r ≡ Err NoSpace) × (k ≡ s.counter)) → MatchBool b ((r ≡ Ok tt) × Put summed (replicate n 0) s after) ((r ≡ Err NoSpace) × (after ≡ s))
  zeros_put true n r h = (h.0, added_up (replicate n 0) s after h.1 (adds_zeros s.counter.count s.sum n))
  zeros_put false n r h = (h.0, same s k h.1 small filled)
