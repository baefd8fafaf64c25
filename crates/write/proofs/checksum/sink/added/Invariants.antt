use Rattle.std.proofs.Common.{◌≡◌, ℕ, List, ◌++◌, length, take}
use Rattle.write.specs.Checksums.{checksum}
use Rattle.write.proofs.checksum.sink.added.Given as goal

abbrev pub invariant-loop-i : goal.invariant-loop-i
invariant-loop-i l = (xs : List ℕ) → length xs ≡ l.at → checksum xs ≡ l.sum → checksum (xs ++ take l.i l.bytes) ≡ l.total
