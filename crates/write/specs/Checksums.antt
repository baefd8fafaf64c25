-- The checksum of a table: its bytes as big-endian words of 32 bits, with zeros behind the last, added modulo 2 ^ 32.
use Rattle.std.specs.Prelude.{ℕ, ◌+◌, ◌*◌, ◌%◌, List, [], ◌∷◌}

abbrev pub word : ℕ → ℕ → ℕ → ℕ → ℕ
word a b c d = a * 16777216 + b * 65536 + c * 256 + d

unfoldable pub checksum : List ℕ → ℕ
checksum [] = 0
checksum (a ∷ []) = word a 0 0 0 % 4294967296
checksum (a ∷ (b ∷ [])) = word a b 0 0 % 4294967296
checksum (a ∷ (b ∷ (c ∷ []))) = word a b c 0 % 4294967296
checksum (a ∷ (b ∷ (c ∷ (d ∷ bs)))) = (word a b c d + checksum bs) % 4294967296
