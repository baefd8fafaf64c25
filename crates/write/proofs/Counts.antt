-- A counter takes whatever there is space for.
use Rattle.std.proofs.Common.{◌≡◌, ℕ, ◌+◌, ◌≤◌, List, length, replicate, arith}
use Rattle.std.proofs.lemmas.List.{length-append, length-replicate}
use Rattle.write.specs.Meanings.{counter}
use Rattle.write.specs.Sinks.{Put}
use Rattle.write.specs.declared.counter.WriteCounter.{WriteCounter}

pub counted : (bs : List ℕ) (s t : WriteCounter) → t.count ≡ s.count + length bs → s.count + length bs ≤ 4294967295 → Put counter bs s t
counted bs s t e h =
    record {
      behind = λ xs p. omega (arith, length-append xs bs);
      more = e;
      less = omega arith;
    }

-- It does with any bytes what it does with as many zeros.
pub any_bytes : (bs : List ℕ) (s t : WriteCounter) → Put counter (replicate (length bs) 0) s t → Put counter bs s t
any_bytes bs s t put =
    let n = length-replicate {A = ℕ} (length bs) 0 in
    record {
      behind = λ xs p. omega (arith, length-append xs bs, put.more);
      more = omega (arith, put.more);
      less = omega (arith, put.less);
    }
