use Rattle.std.proofs.Common.{sym, ◌∙◌, subst, leb-true}
use Rattle.std.specs.List.{flat_map}
use Rattle.std.proofs.lemmas.Iterator.{YieldsList}
use Rattle.std.proofs.lemmas.Iterator.Consumers.{YieldsList-turn, YieldsList-end}
use Rattle.std.proofs.lemmas.List.{map-id}
use Rattle.write.specs.Sinks.{Put}
use Rattle.binary_write.proofs.Walks.{puts_ok, never_refused}
use Rattle.binary_write.proofs.arrays.write_all.Goals as goal

pub returns-in_err-write : goal.returns-in_err-write
returns-in_err-write g c =
    λ all len gives.
    let e : YieldsList g.I.Iterator.next_gives (λ x. x) c.into_iter-value-iterator.result all =
    record { runs = rw c.into_iter-value-iterator.ensures.into_iter_gives gives }
    in
    let turn = YieldsList-turn e c.loop-value.yielded _ c.loop-value.yielded_by _ _ _ c.in-Some.is c.next.ensures.steps in
    absurd
    (never_refused g.C.WriteContext.meaning g.T.ReadUnchecked.encode g.T.ReadUnchecked.SIZE g.met.T.ReadUnchecked.exact
    all c.loop-value.yielded c.in-Some.value _ _ _ _
    (leb-true _ _ (sym (c.has_space.ensures all len) ∙ c.if-not-has_space.false)) turn.0 c.loop-value.invariant.2 (c.in_err-write.ensures))

pub returns : goal.returns
returns g c =
    λ all len gives.
    let e : YieldsList g.I.Iterator.next_gives (λ x. x) c.into_iter-value-iterator.result all =
    record { runs = rw c.into_iter-value-iterator.ensures.into_iter_gives gives }
    in
    let end = YieldsList-end e c.loop-value.yielded _ c.loop-value.yielded_by _ _ c.in-None.is c.next.ensures.steps in
    puts_ok g.C.WriteContext.meaning _ _ _ (sym (c.has_space.ensures all len) ∙ c.if-not-has_space.false)
    (subst (λ vs. Put g.C.WriteContext.meaning (flat_map g.T.ReadUnchecked.encode vs) c.args.ctxt.now c.loop-value.ctxt)
    (sym (map-id c.loop-value.yielded) ∙ end.0) c.loop-value.invariant.2)
