use Rattle.std.proofs.Common.{◌≤◌, rules}
use Rattle.unpack.specs.Contents.{in_slots}
use Rattle.unpack.specs.Cursors.{left}
use Rattle.unpack.proofs.Next.{next_answer}
use Rattle.unpack.proofs.run.read_next.Goals as goal

pub returns-clause-read : goal.returns-clause-read
returns-clause-read c =
    let t = c.in_ok-taken.taken in
    let e16 : t.ends ≤ 65535 = search rules in
    let p16 : t.points ≤ 65535 = search rules in
    let i16 : t.instructions ≤ 65535 = search rules in
    next_answer c.args.boxed c.args.i c.from.result (left c.args.streams.now) (left c.read_glyph.new.streams) c.args.at c.places_behind.result t c.record_of-record.result c.read_glyph.result (in_slots c.args.slots.now) (in_slots c.read_glyph.new.slots) c.lay.new.list
    c.read_glyph.ensures.read c.in_ok-taken.ensures c.record_of-record.ensures c.from.ensures c.lay.ensures c.places_behind.ensures e16 p16 i16
