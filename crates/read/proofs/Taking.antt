-- What a read that was accepted took, and what a read that was refused missed.
use Rattle.std.proofs.Common.{◌≡◌, ℕ, ◌<◌, ◌≤◌, Bool, true, false, leb, List, length, take, drop, Ok, Err, MatchBool, Result, refl, arith, leb-false, leb-true}
use Rattle.read.specs.Reading.{Takes}

module _ {A E : Type 0} (n : ℕ) (Says : A → List ℕ → Type 0) (fault : E) (before after : List ℕ) where
  pub took : (x : A) → Takes n Says fault before (Ok x) after → (n ≤ length before) × Says x (take n before) × (after ≡ drop n before)
  took x t = by (leb n (length before)) refl t
    where
      by : (b : Bool) → leb n (length before) ≡ b → MatchBool b (Says x (take n before) × (after ≡ drop n before)) (◌≡◌ {A = Result A E} (Ok x) (Err fault) × (after ≡ before)) → (n ≤ length before) × Says x (take n before) × (after ≡ drop n before)
      by true e p = (leb-true n (length before) e, p.0, p.1)
      by false e p = let z : ◌≡◌ {A = ℕ} 0 1 = let f = p.0 in cc in absurd (omega arith)

  pub missed : (d : E) → Takes n Says fault before (Err d) after → (length before < n) × (d ≡ fault)
  missed d t = by (leb n (length before)) refl t
    where
      by : (b : Bool) → leb n (length before) ≡ b → MatchBool b (⊥ × (after ≡ drop n before)) (◌≡◌ {A = Result A E} (Err d) (Err fault) × (after ≡ before)) → (length before < n) × (d ≡ fault)
      by true e p = absurd p.0
      by false e p = let f = p.0 in (leb-false n (length before) e, cc)

-- The same of a read whose refusal is ruled out.
pub taken_when : {P Q : Type 0} (n : ℕ) (before after : List ℕ) → MatchBool (leb n (length before)) (P × (after ≡ drop n before)) Q → (Q → ⊥) → (n ≤ length before) × P × (after ≡ drop n before)
taken_when {P} {Q} n before after t never = by (leb n (length before)) refl t
  where
    by : (b : Bool) → leb n (length before) ≡ b → MatchBool b (P × (after ≡ drop n before)) Q → (n ≤ length before) × P × (after ≡ drop n before)
    by true e p = (leb-true n (length before) e, p.0, p.1)
    by false e q = absurd (never q)
