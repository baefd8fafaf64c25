use Rattle.std.proofs.Common.{Ok, Err, ap, ◌∙◌}
use Rattle.std.proofs.lemmas.Result.{err_from_is_err_and}
use Rattle.forme.specs.Formes.{unfitted}
use Rattle.forme.proofs.Unpacking.{accepts_the_spelled, refuses, unpacks}
use Rattle.forme.proofs.transformed.unpack_into.Goals as goal

pub returns-in_err-glyphs : goal.returns-in_err-glyphs
returns-in_err-glyphs c =
    let f = c.args.forme.now in
    let bs = c.args.table.now in
    let ls = c.args.lists.now in
    let ls' = c.read_table.new.lists in
    let p = err_from_is_err_and c.from_residual.result c.from_residual.ensures.1 in
    let answer = refuses f ls ls' bs c.in_err-glyphs.field-0.0 c.from_residual.result (p.1 ∙ ap Err p.2) c.in_err-glyphs.ensures in
    record { answer = answer; spelled = accepts_the_spelled bs f f ls ls' c.from_residual.result answer }

pub returns : goal.returns
returns c =
    let f = c.args.forme.now in
    let bs = c.args.table.now in
    let ls = c.args.lists.now in
    let ls' = c.read_table.new.lists in
    let answer = unpacks f ls ls' bs c.in_ok-glyphs.glyphs c.from.result c.from.ensures c.in_ok-glyphs.ensures in
    record { answer = answer; spelled = accepts_the_spelled bs f (unfitted c.from.result) ls ls' (Ok tt) answer }
