use Rattle.std.proofs.Common.{sym, ap, ◌∙◌}
use Rattle.glyph.specs.Records.{needed}
use Rattle.unpack.proofs.Filling.{as_many, no_room, with_room}
use Rattle.unpack.proofs.Judged.{same_ok, told}
use Rattle.unpack.proofs.table.fill.Goals as goal

pub returns-then-not-have_room : goal.returns-then-not-have_room
returns-then-not-have_room c =
    let t = c.args.sound.now.table in
    let a = told _ _ _ c.in_ok-needed.ensures.read in
    no_room _ a.0 a.1 t.header.num_glyphs (as_many t a.0 c.args.sound.now.bit_for_each a.1) c.in_ok-needed.needed (same_ok _ _ a.2.0) c.args.lists.now (sym c.if-not-have_room.ensures)

pub returns : goal.returns
returns c =
    let t = c.args.sound.now.table in
    let a = told _ _ _ c.in_ok-needed.ensures.read in
    let b = told _ _ _ c.in_ok-lay_glyphs.ensures in
    let same = same_ok _ _ (sym a.1 ∙ b.1) in
    with_room _ b.0 b.1 t.header.num_glyphs (as_many t b.0 c.args.sound.now.bit_for_each b.1) c.in_ok-needed.needed (same_ok _ _ a.2.0 ∙ ap needed same) c.args.lists.now c.lay_glyphs.new.lists (sym c.if-not-have_room.ensures) b.2.1
