use Rattle.std.proofs.Common.{◌≡◌, ◌+◌, ◌<◌, [], ◌∷◌, ◌++◌, length, get_or, sym, refl, ap, ◌∙◌, arith}
use Rattle.std.proofs.lemmas.List.{length_push}
use Rattle.glyph.specs.Laying.{laid}
use Rattle.unpack.specs.Outlines.{point_said}
use Rattle.glyph.proofs.Lays.{laid_more}
use Rattle.unpack.proofs.Points.{accepted, turned}
use Rattle.unpack.proofs.outline.read_points.Goals as goal

pub loop-i-preserved : goal.loop-i-preserved
loop-i-preserved c =
    let inv = c.loop-i.invariant in
    let ps = inv.0 in
    let i = c.loop-i.i in
    let p = c.in_ok-next.next in
    let bs = c.loop-i.glyphs.rest.now in
    let rest = c.read_point.new.glyphs.rest.now in
    let low : i < length c.args.flags.now = omega arith in
    let long : length (ps ++ p ∷ []) ≡ i + 1 = length_push ps p ∙ omega (arith, inv.1) in
    let put : c.lay.new.list ≡ laid c.args.at (ps ++ p ∷ []) c.args.points.now =
    c.lay.ensures
    ∙ (ap (laid (c.args.at + i) (p ∷ [])) inv.2
    ∙ sym (laid_more c.args.at (c.args.at + i) ps p c.args.points.now (omega (arith, inv.1))))
    in (
      ps ++ p ∷ [],
      long,
      put,
      inv.3
          ∙ turned c.args.flags.now bs i (get_or c.args.flags.now i 0) ps c.loop-i.last low refl p rest
          (accepted (point_said c.loop-i.last (get_or c.args.flags.now i 0) bs) rest p c.in_ok-next.ensures),
    )
