use Rattle.unpack.specs.Contents.{in_slots, SameLent}
use Rattle.unpack.specs.Cursors.{left}
use Rattle.unpack.specs.Runs.{table_bits, table_streams}
use Rattle.unpack.proofs.Reading.{SoFar}
use Rattle.unpack.proofs.run.read_glyphs.Given as goal

abbrev pub invariant-loop-i : goal.invariant-loop-i
invariant-loop-i l =
    SameLent l.initial.slots l.slots
    × SoFar (table_bits l.sound.table) (table_streams l.sound.table) (left l.streams) l.i l.at (in_slots l.initial.slots) (in_slots l.slots)
