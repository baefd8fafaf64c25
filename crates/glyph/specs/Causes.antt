-- The number of each cause, and the glyph of a refusal.
use Rattle.std.specs.Prelude.{ℕ, Ok, Err, Result}
use Rattle.read.specs.Errors.{number_of}
use Rattle.read.specs.declared.error.ParseError.{ParseError}
use Rattle.glyph.specs.declared.refusal.Cause.{Cause}
use Rattle.glyph.specs.declared.refusal.Cause.TheVariants.{Lists, Parse}
use Rattle.glyph.specs.declared.refusal.Refusal.{Refusal}

abbrev pub cause_number : Cause → ℕ
cause_number (Parse e) = number_of e
cause_number Lists = 5

-- A read that was refused at glyph `i`.
abbrev pub refused_at : ℕ → ParseError → Refusal
refused_at i e = record { cause = Parse e; glyph = i }

-- The glyph of a refusal that no glyph has: before the first, or of the lists.
abbrev pub no_glyph : ℕ
no_glyph = 65535

abbrev pub too_short : Refusal
too_short = record { cause = Lists; glyph = no_glyph }

-- An answer about glyph `i`.
abbrev pub at_glyph : {A : Type 0} → ℕ → Result A ParseError → Result A Refusal
at_glyph i (Ok x) = Ok x
at_glyph i (Err e) = Err (refused_at i e)
