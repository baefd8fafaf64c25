-- Pairs of digits, one after the other.
use Rattle.std.proofs.Common.{◌≡◌, ℕ, ◌<◌, List, [], ◌∷◌, ◌++◌, length, min, Some, None, Option, sym, refl, ap, ◌∙◌, append_assoc, arith}
use Rattle.glyph_text.specs.Hex.{followed, pair_said, pairs}

-- Bytes in front of what else was said.
abbrev pub behind : List ℕ → Option (List ℕ) → Option (List ℕ)
behind bs None = None
behind bs (Some cs) = Some (bs ++ cs)

byte_first : (bs : List ℕ) (b : ℕ) (said : Option (List ℕ)) → behind bs (followed (Some b) said) ≡ behind (bs ++ b ∷ []) said
byte_first bs b None = refl
byte_first bs b (Some cs) = ap Some (sym (append_assoc bs (b ∷ []) cs))

-- What is said from a chunk of two digits on, or from the last digit alone, begins with that chunk.
chunk_first : (digits rest : List ℕ) → 0 < length (digits ++ rest) → length digits ≡ min 2 (length (digits ++ rest)) → pairs (digits ++ rest) ≡ followed (pair_said digits) (pairs rest)
chunk_first [] rest some size = absurd (omega arith)
chunk_first (x ∷ []) [] some size = refl
chunk_first (x ∷ []) (y ∷ rest) some size = absurd (omega arith)
chunk_first (x ∷ y ∷ []) rest some size = refl
chunk_first (x ∷ y ∷ z ∷ zs) rest some size = absurd (omega arith)

-- The byte that a chunk says goes behind those that were said before it.
pub chunk_more : (bs digits rest : List ℕ) (b : ℕ) → pair_said digits ≡ Some b → 0 < length (digits ++ rest) → length digits ≡ min 2 (length (digits ++ rest)) → behind bs (pairs (digits ++ rest)) ≡ behind (bs ++ b ∷ []) (pairs rest)
chunk_more bs digits rest b said some size =
    ap (behind bs) (chunk_first digits rest some size ∙ ap (λ p. followed p (pairs rest)) said) ∙ byte_first bs b (pairs rest)
