-- What is known of an answer that was accepted or refused.
use Rattle.std.proofs.Common.{◌≡◌, ℕ, Bool, true, false, Ok, Err, MatchBool, Result, refl, arith, MatchResult}
use Rattle.read.specs.declared.error.ParseError.{ParseError}
use Rattle.read.specs.declared.error.ParseError.TheVariants.{BadValue}

-- The value `y` is taken where the test `b` passes, and refused where it fails.
abbrev pub Judges : {A : Type 0} → Bool → A → Result A ParseError → Type 0
Judges b y r = MatchBool b (r ≡ Ok y) (r ≡ Err BadValue)

pub same_ok : {A E : Type 0} (x y : A) → ◌≡◌ {A = Result A E} (Ok x) (Ok y) → x ≡ y
same_ok x y h = cc

-- What an accepted answer was read as, and what a refused one says.
module _ {A B E : Type 0} where
  pub told : (s : Result A E) (P : A → Type 0) (x : B) → MatchResult s P (λ e. ◌≡◌ {A = Result B E} (Ok x) (Err e)) → (p : A) × (s ≡ Ok p) × P p
  told (Ok p) P x h = (p, refl, h)
  told (Err e) P x h = let z : ◌≡◌ {A = ℕ} 0 1 = cc in absurd (omega arith)

  pub told_as : (r : Result B E) (x : B) → r ≡ Ok x → {s : Result A E} {P : A → Type 0} → MatchResult s P (λ e. r ≡ Err e) → (p : A) × (s ≡ Ok p) × P p
  told_as r x is {s} {P} h = by s h
    where
      by : (t : Result A E) → MatchResult t P (λ e. r ≡ Err e) → (p : A) × (t ≡ Ok p) × P p
      by (Ok p) k = (p, refl, k)
      by (Err e) k = let z : ◌≡◌ {A = ℕ} 0 1 = cc in absurd (omega arith)

  pub fault : (s : Result A E) (P : A → Type 0) (f : A → B) (d : E) → ((p : A) → P p → ◌≡◌ {A = Result B E} (Err d) (Ok (f p))) → MatchResult s P (λ e. ◌≡◌ {A = Result B E} (Err d) (Err e)) → s ≡ Err d
  fault (Ok p) P f d never h = let k = never p h in let z : ◌≡◌ {A = ℕ} 0 1 = cc in absurd (omega arith)
  fault (Err e) P f d never h = cc

module _ {A : Type 0} where
  pub passed : (b : Bool) (y x : A) → Judges b y (Ok x) → (b ≡ true) × (x ≡ y)
  passed true y x h = (refl, cc)
  passed false y x h = let z : ◌≡◌ {A = ℕ} 0 1 = cc in absurd (omega arith)

  pub failed : (b : Bool) (y : A) (d : ParseError) → Judges b y (Err d) → (b ≡ false) × (d ≡ BadValue)
  failed true y d h = let z : ◌≡◌ {A = ℕ} 0 1 = cc in absurd (omega arith)
  failed false y d h = (refl, cc)

-- A statement by cases of an answer, where the answer is known.
module _ {A E : Type 0} where
  pub when_accepted : (s : Result A E) (P : A → Type 0) (Q : E → Type 0) (x : A) → s ≡ Ok x → P x → MatchResult s P Q
  when_accepted s P Q x e p = rw e p

  pub when_refused : (s : Result A E) (P : A → Type 0) (Q : E → Type 0) (d : E) → s ≡ Err d → Q d → MatchResult s P Q
  when_refused s P Q d e q = rw e q
