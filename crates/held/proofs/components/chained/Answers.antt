use Rattle.held.proofs.Chaining.{last_has, last_lacks}
use Rattle.held.proofs.components.chained.Goals as goal

pub returns-then-not-has : goal.returns-then-not-has
returns-then-not-has c =
    last_lacks c.args.components.now c.in-Some.last.now c.in-Some.others.now c.in-Some.ensures.cases c.has.result c.has.ensures c.each_has_more.result c.if-not-has.true c.each_has_more.ensures

pub returns-else-not-has : goal.returns-else-not-has
returns-else-not-has c =
    last_has c.args.components.now c.in-Some.last.now c.in-Some.others.now c.in-Some.ensures.cases c.has.result c.has.ensures c.if-not-has.false
