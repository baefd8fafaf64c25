-- The number of each refusal of a write.
use Rattle.std.specs.Prelude.{ℕ}
use Rattle.write.specs.declared.error.WriteError.{WriteError}
use Rattle.write.specs.declared.error.WriteError.TheVariants.{NoSpace}

abbrev pub number_of : WriteError → ℕ
number_of NoSpace = 7
