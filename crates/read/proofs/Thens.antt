-- What is known of a chain of answers whose end is known.
use Rattle.std.proofs.Common.{◌≡◌, ℕ, ◌≤◌, Bool, true, false, cond, List, length, take, drop, Ok, Err, Result, sym, refl, ap, ◌∙◌, arith, le-leb}
use Rattle.read.specs.Answers.{front, then}

module _ {A B E : Type 0} where
  -- An accepted chain was accepted at its first link.
  pub then_accepted : (s : Result A E) (next : A → Result B E) (y : B) → then s next ≡ Ok y → (x : A) × (s ≡ Ok x) × (next x ≡ Ok y)
  then_accepted (Ok x) next y h = (x, refl, h)
  then_accepted (Err e) next y h = let z : ◌≡◌ {A = ℕ} 0 1 = cc in absurd (omega arith)

pub test_passed : {A E : Type 0} (b : Bool) (r : Result A E) (e : E) (y : A) → cond b r (Err e) ≡ Ok y → (b ≡ true) × (r ≡ Ok y)
test_passed true r e y h = (refl, h)
test_passed false r e y h = let z : ◌≡◌ {A = ℕ} 0 1 = cc in absurd (omega arith)

-- The front of a stream, where as many bytes are left.
pub front_is : (n m : ℕ) (bs fs rest : List ℕ) → n ≡ m → n ≤ length bs → fs ≡ take n bs → rest ≡ drop n bs → front m bs ≡ Ok (fs, rest)
front_is n m bs fs rest same h e f =
    ap (λ (k : ℕ). front k bs) (sym same) ∙ rw (le-leb n (length bs) h) (cc)
