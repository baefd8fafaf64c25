use Rattle.std.proofs.Common.{◌≡◌, drop}
use Rattle.glyph.specs.Records.{start}
use Rattle.held.specs.Tests.{records_held}
use Rattle.held.proofs.records.records_held.Given as goal

abbrev pub invariant-loop-glyph_record : goal.invariant-loop-glyph_record
invariant-loop-glyph_record l =
    records_held start l.records l.lists ≡ records_held l.at (drop l.glyph_record-index l.records) l.lists
