use Rattle.std.proofs.Common.{◌≡◌, ◌+◌, ◌-◌, ◌<◌, [], ◌∷◌, ◌++◌, length, Err, sym, ap, ◌∙◌, arith}
use Rattle.std.proofs.lemmas.List.{length_push}
use Rattle.std.proofs.lemmas.Result.{err_from_is_err_and}
use Rattle.glyph.specs.Laying.{laid}
use Rattle.unpack.proofs.Ends.{packed_took, refused, turned}
use Rattle.glyph.proofs.Lays.{laid_more}
use Rattle.unpack.proofs.Judged.{when_refused}
use Rattle.unpack.proofs.outline.read_ends.Goals as goal

pub loop-i-preserved : goal.loop-i-preserved
loop-i-preserved c =
    let inv = c.loop-i.invariant in
    let es = inv.0 in
    let i = c.loop-i.i in
    let sum = c.in_ok-sum.sum in
    let bs = c.loop-i.ctxt.rest.now in
    let rest = c.read.new.ctxt.rest.now in
    let low : i < c.args.contours = omega arith in
    let long : length (es ++ (sum - 1) ∷ []) ≡ i + 1 = length_push es (sum - 1) ∙ omega (arith, inv.1) in
    let put : c.lay.new.list ≡ laid c.args.at (es ++ (sum - 1) ∷ []) c.args.ends.now =
    c.lay.ensures ∙ (ap (laid (c.args.at + c.from.result) ((sum - 1) ∷ [])) inv.2 ∙ sym (laid_more c.args.at (c.args.at + c.from.result) es (sum - 1) c.args.ends.now (omega (arith, c.from.ensures, inv.1))))
    in (
      es ++ (sum - 1) ∷ [],
      long,
      put,
      inv.3 ∙ turned c.args.contours i c.loop-i.points es bs low c.in_ok-size.size sum rest (packed_took bs rest c.in_ok-size.size c.in_ok-size.ensures) c.in_ok-sum.ensures,
    )

pub returns-in_err-sum : goal.returns-in_err-sum
returns-in_err-sum c =
    let inv = c.loop-i.invariant in
    let bs = c.loop-i.ctxt.rest.now in
    let rest = c.read.new.ctxt.rest.now in
    let p = err_from_is_err_and c.from_residual-in_err-sum.result c.from_residual-in_err-sum.ensures.1 in
    let low : c.loop-i.i < c.args.contours = omega arith in
    let e =
    inv.3
    ∙ refused c.args.contours c.loop-i.i c.loop-i.points inv.0 bs low c.in_ok-size.size rest c.in_err-sum.field-0.0
    (packed_took bs rest c.in_ok-size.size c.in_ok-size.ensures) c.in_err-sum.ensures
    in
    when_refused _ _ _ _ e (p.1 ∙ ap Err p.2)
