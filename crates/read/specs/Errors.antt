-- The number of each refusal of a read.
use Rattle.std.specs.Prelude.{ℕ}
use Rattle.read.specs.declared.error.ParseError.{ParseError}
use Rattle.read.specs.declared.error.ParseError.TheVariants.{BadEof, BadValue, BadIndex, BadOffset}

abbrev pub number_of : ParseError → ℕ
number_of BadEof = 1
number_of BadValue = 2
number_of BadIndex = 3
number_of BadOffset = 4
