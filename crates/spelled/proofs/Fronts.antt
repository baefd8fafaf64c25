-- What the first bytes of a stream say, and what is left behind them.
use Rattle.std.proofs.Common.{◌≡◌, ℕ, ◌<◌, ◌≤◌, Bool, true, false, cond, ◌&&◌, eqb, leb, List, [], ◌∷◌, ◌++◌, length, get_or, take, drop, Ok, Err, Result, sym, refl, ap, ◌∙◌, arith}
use Rattle.std.proofs.lemmas.List.{drop_at, length-append, length-take-le, take-append-drop, take_at}
use Rattle.std.proofs.lemmas.Bool.{le-leb, leb-true}
use Rattle.read.proofs.Thens.{test_passed, then_accepted}
use Rattle.read.proofs.Tests.{both_true}
use Rattle.read.specs.Answers.{front}
use Rattle.read.specs.declared.error.ParseError.TheVariants.{BadEof}
use Rattle.unpack.specs.Outlines.{packed}
use Rattle.woff2.specs.Packed.{packed_said, packed_size, Packs}

-- What a test lets through.
pub fails : {A E : Type 0} (b : Bool) (r : Result A E) (d : E) (y : A) → cond b (Err d) r ≡ Ok y → (b ≡ false) × (r ≡ Ok y)
fails true r d y e = let z : ◌≡◌ {A = ℕ} 0 1 = cc in absurd (omega arith)
fails false r d y e = (refl, e)

pub passes_both : {A E : Type 0} (a b : Bool) (r : Result A E) (d : E) (y : A) → cond (a && b) r (Err d) ≡ Ok y → (a ≡ true) × (b ≡ true) × (r ≡ Ok y)
passes_both a b r d y e =
    let f = test_passed (a && b) r d y e in
    let g = both_true a b f.0 in
    (g.0, g.1, f.1)

-- The first bytes of a stream.
pub front_ok : (n : ℕ) (bs : List ℕ) (q : List ℕ × List ℕ) → front n bs ≡ Ok q → (length q.0 ≡ n) × (bs ≡ q.0 ++ q.1)
front_ok n bs q e =
    let f = test_passed (leb n (length bs)) (Ok (take n bs, drop n bs)) BadEof q e in
    let s : (take n bs, drop n bs) ≡ q = let m = f.1 in cc in
    let a : take n bs ≡ q.0 = ap (λ (p : List ℕ × List ℕ). p.0) s in
    let b : drop n bs ≡ q.1 = ap (λ (p : List ℕ × List ℕ). p.1) s in
    let l = length-take-le n bs (leb-true n (length bs) f.0) in
    let w = take-append-drop n bs in
    (cc, cc)

pub front_at : (n : ℕ) (p rest : List ℕ) → length p ≡ n → front n (p ++ rest) ≡ Ok (p, rest)
front_at n p rest e =
    let l = length-append p rest in
    let h : n ≤ length (p ++ rest) = omega arith in
    rw (le-leb n (length (p ++ rest)) h, take_at p rest n e, drop_at p rest n e)

some_bytes : (a b c : Bool) → 0 < cond a 3 (cond b 2 (cond c 2 1))
some_bytes true b c = omega arith
some_bytes false true c = omega arith
some_bytes false false true = omega arith
some_bytes false false false = omega arith

-- A form of a number at the front of a stream.
pub packed_ok : (bs : List ℕ) (q : ℕ × List ℕ) → packed bs ≡ Ok q → (p : List ℕ) × (bs ≡ p ++ q.1) × Packs q.0 p
packed_ok bs q e =
    let f = then_accepted (front (packed_size bs) bs) (λ (p : List ℕ × List ℕ). Ok (packed_said p.0, p.1)) q e in
    let g = front_ok (packed_size bs) bs f.0 f.1 in
    let v : (packed_said f.0.0, f.0.1) ≡ q = let h = f.2 in cc in
    by f.0.0 f.0.1 g.0 g.1 (ap (λ (x : ℕ × List ℕ). x.0) v) (ap (λ (x : ℕ × List ℕ). x.1) v)
  where
    by : (p rest : List ℕ) → length p ≡ packed_size bs → bs ≡ p ++ rest → packed_said p ≡ q.0 → rest ≡ q.1 → (p : List ℕ) × (bs ≡ p ++ q.1) × Packs q.0 p
    by [] rest l w s r =
        let h = some_bytes (eqb (get_or bs 0 0) 253) (eqb (get_or bs 0 0) 254) (eqb (get_or bs 0 0) 255) in
        absurd (omega arith)
    by (x ∷ p) rest l w s r =
        let same : packed_size bs ≡ packed_size (x ∷ p) = ap packed_size w in
        (x ∷ p, w ∙ ap (λ (t : List ℕ). x ∷ (p ++ t)) r, (cc, s))

pub packed_at : (v : ℕ) (p rest : List ℕ) → Packs v p → packed (p ++ rest) ≡ Ok (v, rest)
packed_at v [] rest h = absurd (omega (arith, h.0))
packed_at v (x ∷ p) rest h =
    let e : front (packed_size (x ∷ p)) ((x ∷ p) ++ rest) ≡ Ok (x ∷ p, rest) = front_at (packed_size (x ∷ p)) (x ∷ p) rest (sym h.0) in
    rw e (ap (λ (n : ℕ). Ok (n, rest)) h.1)
