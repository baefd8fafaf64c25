-- What a read does to a cursor.
use Rattle.std.specs.Prelude.{◌≡◌, ℕ, List, length, take, drop, Err, MatchBool, Result, MatchResult, nat_le}

-- A read of `n` bytes. Where they are left, it gives a value that they say, and what is left
-- begins behind them. Where they are not, it is refused, and what is left stays as it was.
abbrev pub Takes : {A E : Type 0} → ℕ → (A → List ℕ → Type 0) → E → List ℕ → Result A E → List ℕ → Type 0
Takes n Says fault before r after =
    MatchBool (nat_le n (length before)) (MatchResult r (λ x. Says x (take n before)) (λ _. ⊥) × (after ≡ drop n before))
    ((r ≡ Err fault) × (after ≡ before))
