-- Bytes in hexadecimal.
use Rattle.std.specs.Prelude.{◌≡◌, ℕ, ◌+◌, ◌-◌, ◌*◌, Bool, cond, ◌&&◌, List, [], ◌∷◌, length, Some, None, vec_items, Option, Result, Vec, MatchResult, ◌==◌, nat_le, slice_index}
use Rattle.std.specs.declared.alloc.Global.{Global}
use Rattle.glyph_text.specs.declared.hex.HexError.{HexError}
use Rattle.glyph_text.specs.declared.hex.HexError.TheVariants.{NoMemory, NotHex}

-- 0 to 9 and a to f, by their codes.
abbrev pub digit_said : ℕ → Option ℕ
digit_said b =
    cond (nat_le 48 b && nat_le b 57) (Some (b - 48)) (cond (nat_le 97 b && nat_le b 102) (Some (b - 97 + 10)) None)

abbrev pub byte_of : Option ℕ → Option ℕ → Option ℕ
byte_of None low = None
byte_of (Some high) None = None
byte_of (Some high) (Some low) = Some (16 * high + low)

-- The byte that the first two digits of a text spell.
abbrev pub pair_said : List ℕ → Option ℕ
pair_said [] = None
pair_said (x ∷ []) = None
pair_said (x ∷ y ∷ rest) = byte_of (digit_said x) (digit_said y)

abbrev pub followed : Option ℕ → Option (List ℕ) → Option (List ℕ)
followed None rest = None
followed (Some b) None = None
followed (Some b) (Some bs) = Some (b ∷ bs)

-- The bytes that pairs of digits spell.
abbrev pub pairs : List ℕ → Option (List ℕ)
pairs [] = Some []
pairs (x ∷ []) = None
pairs (x ∷ y ∷ rest) = followed (byte_of (digit_said x) (digit_said y)) (pairs rest)

-- The dash, which stands for no bytes.
abbrev pub is_dash : List ℕ → Bool
is_dash text = (length text == 1) && (slice_index text 0 == 45)

-- The bytes that a text spells, if it spells any: no text is no bytes.
abbrev pub hex_said : List ℕ → Option (List ℕ)
hex_said text = cond (is_dash text) (Some []) (cond (length text == 0) None (pairs text))

abbrev pub Refused : Option (List ℕ) → HexError → Type 0
Refused said NotHex = said ≡ None
Refused said NoMemory = Unit {0}

-- What a reader answers: the bytes that were said, that none were said, or that there is no memory for them.
abbrev pub Read : Option (List ℕ) → Result (Vec ℕ Global) HexError → Type 0
Read said r = MatchResult r (λ v. said ≡ Some (vec_items v)) (Refused said)
