use Rattle.std.proofs.Common.{◌≡◌, List, [], length, drop}
use Rattle.glyph.specs.declared.lists.Point.{Point}
use Rattle.glyph.specs.Laying.{laid}
use Rattle.unpack.specs.Outlines.{points_said}
use Rattle.glyph.specs.Outlines.{origin}
use Rattle.unpack.proofs.outline.read_points.Given as goal

abbrev pub invariant-loop-i : goal.invariant-loop-i
invariant-loop-i l =
    (ps : List Point) × (length ps ≡ l.i) × (l.points ≡ laid l.at ps l.initial.points)
    × (points_said l.flags [] origin l.initial.glyphs.rest.now ≡ points_said (drop l.i l.flags) ps l.last l.glyphs.rest.now)
