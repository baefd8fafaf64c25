use Rattle.std.proofs.Common.{ℕ, ◌%◌, sym, ap, ◌∙◌}
use Rattle.std.specs.List.{slice_get}
use Rattle.woff2.specs.Bits.{bits_of}
use Rattle.woff2.proofs.Bitmaps.{bit_at, no_bit}
use Rattle.woff2.proofs.bits.bit_at.Goals as goal

pub returns-in_err-byte : goal.returns-in_err-byte
returns-in_err-byte c = c.from_residual.ensures ∙ sym (no_bit c.args.bytes.now c.args.index c.in_err-byte.ensures.lookup.3)

pub returns : goal.returns
returns c =
    let found = c.in_ok-byte.ensures.lookup.3 in
    c.bit.ensures
    ∙ (ap (λ (b : ℕ). slice_get (bits_of b) (c.args.index % 8)) (found.1 0) ∙ sym (bit_at c.args.bytes.now c.args.index found.0))
