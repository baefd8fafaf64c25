use Rattle.std.proofs.Common.{◌≡◌, drop}
use Rattle.glyph.specs.Outlines.{origin}
use Rattle.held.specs.Tests.{steps_fit}
use Rattle.held.proofs.outline.steps_fit.Given as goal

abbrev pub invariant-loop-point : goal.invariant-loop-point
invariant-loop-point l = steps_fit origin l.points ≡ steps_fit l.last (drop l.point-index l.points)
