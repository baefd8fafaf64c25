use Rattle.std.proofs.Common.{take, sym, ◌∙◌, arith}
use Rattle.std.proofs.lemmas.List.{length-take-le}
use Rattle.std.proofs.lemmas.List.Edits.{paste_all}
use Rattle.std.proofs.lemmas.Slice.{put_mid-paste}
use Rattle.glyph.proofs.Lays.{laid_is, laid_past}
use Rattle.glyph.proofs.laying.lay_fitting.Goals as goal

pub returns-then-at-list : goal.returns-then-at-list
returns-then-at-list g c =
    let at = c.args.at in
    let list = c.args.list.now in
    let values = c.args.values.now in
    let k = c.min-count.result in
    let long = length-take-le k values (omega (arith, c.min-count.ensures)) in
    put_mid-paste at _ list c.copy_from_slice.new.self (take k values) k c.copy_from_slice.ensures.after (omega arith) (sym long)
    ∙ (paste_all list at (take k values) k (sym long) ∙ sym (laid_is at k values list (omega arith) c.min-count.ensures))

pub returns-else-at-list : goal.returns-else-at-list
returns-else-at-list g c = sym (laid_past c.args.at c.args.values.now c.args.list.now c.if-at-list.false)
