use Rattle.std.proofs.Common.{◌≡◌, ℕ, zero, suc, ◌-◌, ◌*◌, ◌%◌, ◌^◌, ◌<◌, arith}
use Rattle.write.proofs.checksum.sink.placed.Goals as goal

shifted : (b r : ℕ) → b < 256 → r < 4 → b * 2 ^ (24 - 8 * r) % 4294967296 ≡ b * 256 ^ (3 - r)
shifted b zero h k = omega arith
shifted b (suc zero) h k = omega arith
shifted b (suc (suc zero)) h k = omega arith
shifted b (suc (suc (suc zero))) h k = omega arith
shifted b (suc (suc (suc (suc r)))) h k = absurd (omega arith)

pub returns : goal.returns
returns c = rw c.from.ensures (shifted c.args.byte (c.args.at % 4) (omega arith) (omega arith))
