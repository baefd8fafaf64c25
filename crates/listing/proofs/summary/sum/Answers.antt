use Rattle.std.proofs.Common.{rules}
use Rattle.listing.proofs.Sums.{summed}
use Rattle.listing.proofs.summary.sum.Goals as goal

pub returns : goal.returns
returns c =
    summed _ _ c.count.ensures.empty c.count.ensures.simple c.count.ensures.composite (search rules) (search rules) (search rules) (search rules)
