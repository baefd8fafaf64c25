-- What a report says of a table.
use Rattle.std.specs.Prelude.{◌≡◌, ℕ, List, length, Some, None, Ok, Err, MatchBool, Result, MatchResult, nat_le}
use Rattle.read.specs.declared.error.ParseError.{ParseError}
use Rattle.read.specs.declared.error.ParseError.TheVariants.{BadEof}
use Rattle.write.specs.Checksums.{checksum}
use Rattle.woff2.specs.Transformed.{header_said, streams_fault}
use Rattle.woff2.specs.declared.header.GlyfHeader.{GlyfHeader}
use Rattle.report.specs.declared.report.Report.{Report}

-- Whether the streams lie inside a table of `len` bytes. A table whose header cannot be read shares the header's fault.
abbrev pub Checked : Result GlyfHeader ParseError → ℕ → Result Unit ParseError → Type 0
Checked header len r =
    MatchResult header (λ h. MatchResult r (λ _. streams_fault h len ≡ None) (λ e. streams_fault h len ≡ Some e)) (λ e. r ≡ Err e)

pub record Reported (bs : List ℕ) (r : Report) : Type 0 where
  pub bytes : r.bytes ≡ length bs
  pub sum : r.checksum ≡ checksum bs
  pub header : MatchBool (nat_le 36 (length bs)) (r.header ≡ Ok (header_said bs)) (r.header ≡ Err BadEof)
  pub streams : Checked r.header (length bs) r.streams
