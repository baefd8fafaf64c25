use Rattle.std.proofs.Common.{◌≡◌, vec_items}
use Rattle.std.specs.Slice.Iter.{chunks_rest, chunks_size}
use Rattle.glyph_text.specs.Hex.{pairs}
use Rattle.glyph_text.proofs.Pairs.{behind}
use Rattle.glyph_text.proofs.hex.read_pairs.Given as goal

abbrev pub invariant-loop-digits : goal.invariant-loop-digits
invariant-loop-digits l =
    (pairs l.text ≡ behind (vec_items l.bytes) (pairs (chunks_rest l.digits-iterator))) ×
    (chunks_size l.digits-iterator ≡ 2)
