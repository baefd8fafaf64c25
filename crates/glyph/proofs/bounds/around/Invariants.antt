use Rattle.std.proofs.Common.{◌≡◌, take, fold}
use Rattle.glyph.specs.Bounds.{grown}
use Rattle.glyph.proofs.bounds.around.Given as goal

abbrev pub invariant-loop-point : goal.invariant-loop-point
invariant-loop-point l = l.bbox ≡ fold grown l.initial.bbox (take l.point-index l.points)
