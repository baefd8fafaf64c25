use Rattle.std.proofs.Common.{◌≡◌, suc, ◌+◌, ◌-◌, ◌<◌, false, [], ◌∷◌, ◌++◌, length, Ok, Err, sym, refl, ap, ◌∙◌, arith}
use Rattle.std.proofs.lemmas.List.{length_push}
use Rattle.std.proofs.lemmas.Result.{err_from_is_err_and}
use Rattle.unpack.specs.Composites.{components_said}
use Rattle.glyph.specs.Laying.{laid}
use Rattle.unpack.proofs.Components.{cut, last, more, part_missed, part_took}
use Rattle.glyph.proofs.Lays.{laid_more}
use Rattle.unpack.proofs.Judged.{when_accepted, when_refused}
use Rattle.unpack.proofs.parts.read_components.Goals as goal

pub loop-component-init : goal.loop-component-init
loop-component-init c =
    let bs = c.args.ctxt.now.rest.now in
    let all : suc (length bs) ≡ suc (length bs) - 0 = omega arith in
    ([], refl, omega arith, refl, ap (λ k. components_said k [] false bs) all)

pub returns-in_err-component-clause-read : goal.returns-in_err-component-clause-read
returns-in_err-component-clause-read c =
    let inv = c.loop-component.invariant in
    let bs = c.loop-component.ctxt.rest.now in
    let p = err_from_is_err_and c.from_residual.result c.from_residual.ensures.1 in
    let low : c.loop-component.count < suc (length c.args.ctxt.now.rest.now) = omega (arith, inv.2) in
    when_refused _ _ _ _
    (inv.4
    ∙ cut (suc (length c.args.ctxt.now.rest.now)) c.loop-component.count inv.0 c.loop-component.have_instructions bs low c.in_err-component.field-0.0
    (part_missed bs c.read_component.new.ctxt.rest.now c.in_err-component.field-0.0 c.in_err-component.ensures))
    (p.1 ∙ ap Err p.2)

pub loop-component-preserved : goal.loop-component-preserved
loop-component-preserved c =
    let inv = c.loop-component.invariant in
    let cs = inv.0 in
    let part = c.in_ok-component.component in
    let bs = c.loop-component.ctxt.rest.now in
    let rest = c.read_component.new.ctxt.rest.now in
    let got = part_took bs rest part c.in_ok-component.ensures in
    let low : c.loop-component.count < suc (length c.args.ctxt.now.rest.now) = omega (arith, inv.2) in
    let put : c.lay.new.list ≡ laid c.args.at (cs ++ part ∷ []) c.args.components.now =
    c.lay.ensures
    ∙ (ap (laid (c.args.at + c.loop-component.count) (part ∷ [])) inv.3
    ∙ sym (laid_more c.args.at (c.args.at + c.loop-component.count) cs part c.args.components.now (omega (arith, inv.1))))
    in (
      cs ++ part ∷ [],
      length_push cs part ∙ omega (arith, inv.1),
      omega (arith, inv.2, got.1),
      put,
      inv.4
          ∙ (more (suc (length c.args.ctxt.now.rest.now)) c.loop-component.count cs c.loop-component.have_instructions bs low part rest got.0 (sym c.if-not-has.ensures)
          ∙ ap (λ m. components_said (suc (length c.args.ctxt.now.rest.now) - (c.loop-component.count + 1)) (cs ++ part ∷ []) m rest) (sym c.marked-have_instructions.ensures)),
    )

pub returns-clause-read : goal.returns-clause-read
returns-clause-read c =
    let inv = c.loop-component.invariant in
    let cs = inv.0 in
    let part = c.in_ok-component.component in
    let bs = c.loop-component.ctxt.rest.now in
    let rest = c.read_component.new.ctxt.rest.now in
    let got = part_took bs rest part c.in_ok-component.ensures in
    let low : c.loop-component.count < suc (length c.args.ctxt.now.rest.now) = omega (arith, inv.2) in
    let put : c.lay.new.list ≡ laid c.args.at (cs ++ part ∷ []) c.args.components.now =
    c.lay.ensures
    ∙ (ap (laid (c.args.at + c.loop-component.count) (part ∷ [])) inv.3
    ∙ sym (laid_more c.args.at (c.args.at + c.loop-component.count) cs part c.args.components.now (omega (arith, inv.1))))
    in
    let e =
    inv.4
    ∙ last (suc (length c.args.ctxt.now.rest.now)) c.loop-component.count cs c.loop-component.have_instructions bs low part rest got.0 (sym c.if-not-has.ensures)
    in
    let n : c.loop-component.count + 1 ≡ length (cs ++ part ∷ []) = sym (length_push cs part ∙ omega (arith, inv.1)) in
    when_accepted _ _ _ _ e (ap (λ k. Ok (k, c.marked-have_instructions.result)) n ∙ ap (λ m. Ok (length (cs ++ part ∷ []), m)) c.marked-have_instructions.ensures, refl, put, omega (arith, inv.1, inv.2, got.1, n))
