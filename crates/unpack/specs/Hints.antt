-- The instructions of a glyph: their number in the glyph data, and the bytes in a stream of their own.
use Rattle.std.specs.Prelude.{ℕ, List, Ok, Result}
use Rattle.read.specs.declared.error.ParseError.{ParseError}
use Rattle.read.specs.Answers.{front, then}
use Rattle.unpack.specs.Outlines.{packed}

-- The instructions, and what is left of the glyph data and of the stream of instructions.
abbrev pub instructions_said : List ℕ → List ℕ → Result (List ℕ × List ℕ × List ℕ) ParseError
instructions_said glyphs bytes = then (packed glyphs) (λ p. then (front p.0 bytes) (λ q. Ok (q.0, p.1, q.1)))
