use Rattle.std.specs.List.{flat_map}
use Rattle.write.specs.Sinks.{Put}
use Rattle.binary_write.proofs.arrays.write_all.Given as goal

abbrev pub invariant-loop-value : goal.invariant-loop-value
invariant-loop-value g l =
    (goal.iterator-loop-value g).can_next l.value-iterator
    × (goal.iterator-loop-value g).is_finite l.value-iterator
    × Put g.C.WriteContext.meaning (flat_map g.T.ReadUnchecked.encode l.yielded) l.initial.ctxt l.ctxt
