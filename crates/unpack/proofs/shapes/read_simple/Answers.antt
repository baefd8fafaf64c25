use Rattle.std.proofs.Common.{◌≡◌, ℕ, refl, arith}
use Rattle.read.proofs.Taking.{taken_when}
use Rattle.unpack.specs.Contents.{in_slots}
use Rattle.unpack.specs.Cursors.{left}
use Rattle.unpack.proofs.Whole.{simple_answer}
use Rattle.unpack.proofs.shapes.read_simple.Goals as goal

pub returns-clause-read : goal.returns-clause-read
returns-clause-read c =
    let s = left c.args.streams.now in
    let t = taken_when c.from.result s.flags c.read_slice.new.self.rest.now c.in_ok-flags.ensures (λ q. let f = q.0 in let z : ◌≡◌ {A = ℕ} 0 1 = cc in omega arith) in
    simple_answer c.args.boxed c.args.contours s _ c.args.at c.in_ok-count.count c.from.result c.in_ok-hints.hints c.in_ok-bbox.bbox c.in_ok-flags.flags.now c.read_points.new.glyphs.rest.now (in_slots c.args.slots.now) _
    c.in_ok-count.ensures c.from.ensures t c.in_ok-read_points.ensures c.in_ok-hints.ensures c.in_ok-bbox.ensures refl refl refl refl
