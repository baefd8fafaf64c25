use Rattle.std.proofs.Common.{◌≡◌, ℕ, ◌-◌, List, [], length}
use Rattle.glyph.specs.Laying.{laid}
use Rattle.unpack.specs.Outlines.{ends_said}
use Rattle.unpack.proofs.outline.read_ends.Given as goal

abbrev pub invariant-loop-i : goal.invariant-loop-i
invariant-loop-i l =
    (es : List ℕ) × (length es ≡ l.i) × (l.ends ≡ laid l.at es l.initial.ends)
    × (ends_said l.contours [] 0 l.initial.ctxt.rest.now ≡ ends_said (l.contours - l.i) es l.points l.ctxt.rest.now)
