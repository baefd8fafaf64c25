-- The test of a position passes where it is in range.
use Rattle.std.proofs.Common.{◌≡◌, true, ℤ, pos, negsuc, arith}
use Rattle.std.proofs.lemmas.Int.{ints}
use lib.Signed.{le_z}
use Rattle.std.proofs.lemmas.Bool.{and_from}
use Rattle.read.proofs.Tests.{both_true}
use Rattle.glyph.specs.Outlines.{InRange, placed}

pub placed_ok : (z : ℤ) → placed z ≡ true → InRange z
placed_ok z e =
    let f = both_true (le_z (negsuc 32767) z) (le_z z (pos 32767)) e in
    (grind (arith, ints), grind (arith, ints))

pub placed_at : (z : ℤ) → InRange z → placed z ≡ true
placed_at z h =
    and_from (le_z (negsuc 32767) z) (le_z z (pos 32767)) (grind (arith, ints)) (grind (arith, ints))
