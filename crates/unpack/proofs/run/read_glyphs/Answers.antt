use Rattle.std.proofs.Common.{ℕ, ◌<◌, false, List, Err, unwrap_or, ap, ◌∙◌, arith}
use Rattle.std.proofs.lemmas.Result.{err_from_is_err_and}
use Rattle.std.specs.List.{slice_get}
use Rattle.woff2.specs.Bits.{bits}
use Rattle.glyph.specs.Records.{behind}
use Rattle.unpack.specs.Contents.{in_slots}
use Rattle.unpack.specs.Cursors.{left}
use Rattle.unpack.specs.Runs.{table_bits, table_streams}
use Rattle.unpack.proofs.Judged.{fault, when_refused}
use Rattle.unpack.proofs.Reading.{bit_here, one_more, refused_here, same_through}
use Rattle.unpack.proofs.run.read_glyphs.Goals as goal

pub returns-in_err-at-clause-read : goal.returns-in_err-at-clause-read
returns-in_err-at-clause-read c =
    let t = c.args.sound.now.table in
    let i = c.loop-i.i in
    let low : i < t.header.num_glyphs = omega arith in
    let bit =
    c.unwrap_or-boxed.ensures
    ∙ (ap (λ o. unwrap_or o false) c.get.ensures
    ∙ ap (λ (bs : List ℕ). unwrap_or (slice_get (bits bs) c.from.result) false) (c.new-bitmap.ensures ∙ c.data.ensures))
    in
    let here = bit_here t.bbox_bitmap.bytes.now t.header.num_glyphs i c.from.result c.unwrap_or-boxed.result c.from.ensures low c.args.sound.now.bit_for_each bit in
    let p = err_from_is_err_and c.from_residual.result c.from_residual.ensures.1 in
    let missed = fault _ _ (λ q. behind c.loop-i.at q.0) _ (λ q h. h.0) c.in_err-at.ensures.read in
    when_refused _ _ _ _
    (refused_here (table_bits t) (table_streams t) (left c.loop-i.streams) (left c.loop-i.streams) i c.unwrap_or-boxed.result c.loop-i.at c.loop-i.at (in_slots c.args.slots.now) (in_slots c.loop-i.slots) (in_slots c.loop-i.slots) here c.loop-i.invariant.1 c.in_err-at.field-0.0 missed)
    (p.1 ∙ ap Err p.2)

pub loop-i-preserved : goal.loop-i-preserved
loop-i-preserved c =
    let t = c.args.sound.now.table in
    let i = c.loop-i.i in
    let low : i < t.header.num_glyphs = omega arith in
    let bit =
    c.unwrap_or-boxed.ensures
    ∙ (ap (λ o. unwrap_or o false) c.get.ensures
    ∙ ap (λ (bs : List ℕ). unwrap_or (slice_get (bits bs) c.from.result) false) (c.new-bitmap.ensures ∙ c.data.ensures))
    in
    let here = bit_here t.bbox_bitmap.bytes.now t.header.num_glyphs i c.from.result c.unwrap_or-boxed.result c.from.ensures low c.args.sound.now.bit_for_each bit in (
      same_through c.loop-i.invariant.0 c.read_next.ensures.same_lent,
      one_more (table_bits t) (table_streams t) (left c.loop-i.streams) (left c.read_next.new.streams) i c.unwrap_or-boxed.result c.loop-i.at c.in_ok-at.at (in_slots c.args.slots.now) (in_slots c.loop-i.slots) (in_slots c.read_next.new.slots) here c.loop-i.invariant.1
          c.in_ok-at.ensures.read,
    )
