-- Answers of reads, one after another.
use Rattle.std.specs.Prelude.{ℕ, cond, List, length, take, drop, Ok, Err, Result, nat_le}
use Rattle.read.specs.declared.error.ParseError.{ParseError}
use Rattle.read.specs.declared.error.ParseError.TheVariants.{BadEof}

-- What comes of one answer after another: the first refusal ends it.
abbrev pub then : {A B E : Type 0} → Result A E → (A → Result B E) → Result B E
then (Ok x) next = next x
then (Err e) next = Err e

-- The first `n` bytes of a stream, and what is left behind them.
abbrev pub front : ℕ → List ℕ → Result (List ℕ × List ℕ) ParseError
front n bs = cond (nat_le n (length bs)) (Ok (take n bs, drop n bs)) (Err BadEof)
