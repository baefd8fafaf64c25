use Rattle.std.proofs.Common.{◌%◌, Err, refl, ap, ◌∙◌, w16, SFits, rules}
use Rattle.std.proofs.lemmas.Result.{err_from_is_err_and}
use Rattle.std.proofs.lemmas.Int.{to_z-of_z}
use Rattle.unpack.proofs.Points.{past_x, past_y, reached, steps_took}
use Rattle.unpack.proofs.Judged.{when_accepted, when_refused}
use Rattle.unpack.proofs.outline.read_point.Goals as goal

pub returns-in_err-x : goal.returns-in_err-x
returns-in_err-x c =
    let lx : SFits w16 c.args.last.x = search rules in
    let fx : SFits w16 c.in_ok-dx.dx = search rules in
    let a = simp to_z-of_z at c.in_err-x.ensures in
    let p = err_from_is_err_and c.from_residual-in_err-x.result c.from_residual-in_err-x.ensures.1 in
    let read = steps_took (c.args.flag % 128) c.args.glyphs.now.rest.now c.read_steps.new.glyphs.rest.now (c.in_ok-dx.dx, c.in_ok-dx.dy) c.in_ok-dx.ensures in
    when_refused _ _ _ _
    (past_x c.args.last c.args.flag c.args.glyphs.now.rest.now c.read_steps.new.glyphs.rest.now (c.in_ok-dx.dx, c.in_ok-dx.dy) read c.in_err-x.field-0.0 a)
    (p.1 ∙ ap Err p.2)

pub returns-in_err-y : goal.returns-in_err-y
returns-in_err-y c =
    let ly : SFits w16 c.args.last.y = search rules in
    let fy : SFits w16 c.in_ok-dx.dy = search rules in
    let b = simp to_z-of_z at c.in_err-y.ensures in
    let p = err_from_is_err_and c.from_residual-in_err-y.result c.from_residual-in_err-y.ensures.1 in
    let read = steps_took (c.args.flag % 128) c.args.glyphs.now.rest.now c.read_steps.new.glyphs.rest.now (c.in_ok-dx.dx, c.in_ok-dx.dy) c.in_ok-dx.ensures in
    when_refused _ _ _ _
    (past_y c.args.last c.args.flag c.args.glyphs.now.rest.now c.read_steps.new.glyphs.rest.now (c.in_ok-dx.dx, c.in_ok-dx.dy) read c.in_err-y.field-0.0 b)
    (p.1 ∙ ap Err p.2)

pub returns : goal.returns
returns c =
    let lx : SFits w16 c.args.last.x = search rules in
    let ly : SFits w16 c.args.last.y = search rules in
    let fx : SFits w16 c.in_ok-dx.dx = search rules in
    let fy : SFits w16 c.in_ok-dx.dy = search rules in
    let nx : SFits w16 c.in_ok-x.x = search rules in
    let ny : SFits w16 c.in_ok-y.y = search rules in
    let a = simp to_z-of_z at c.in_ok-x.ensures in
    let b = simp to_z-of_z at c.in_ok-y.ensures in
    let read = steps_took (c.args.flag % 128) c.args.glyphs.now.rest.now c.read_steps.new.glyphs.rest.now (c.in_ok-dx.dx, c.in_ok-dx.dy) c.in_ok-dx.ensures in
    let e = reached c.args.last c.args.flag c.args.glyphs.now.rest.now c.read_steps.new.glyphs.rest.now (c.in_ok-dx.dx, c.in_ok-dx.dy) read c.in_ok-x.x c.in_ok-y.y a b in
    when_accepted _ _ _ _ e (simp to_z-of_z refl, refl)
