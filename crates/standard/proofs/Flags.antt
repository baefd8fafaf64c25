-- The flags of points, as runs.
use Rattle.std.proofs.Common.{◌≡◌, ℕ, zero, suc, ◌+◌, ◌-◌, ◌≤◌, Bool, true, false, cond, leb, List, [], ◌∷◌, ◌++◌, length, Ok, Err, sym, refl, ap, ◌∙◌, subst, arith}
use Rattle.std.proofs.lemmas.List.{append_assoc, append-nil, length-append, length-replicate}
use Rattle.std.proofs.lemmas.Bool.{le-leb, leb-true}
use Rattle.std.specs.List.{flat_map}
use Rattle.read.proofs.Thens.{test_passed, then_accepted}
use Rattle.binary.specs.Bytes.{u8_said}
use Rattle.composite.specs.Components.{has}
use Rattle.read.specs.Answers.{then}
use Rattle.read.specs.declared.error.ParseError.TheVariants.{BadValue}
use Rattle.unpack.specs.Spelled.{Joins, Says}
use Rattle.standard.specs.Fields.{run, Run, run_flags}
use Rattle.standard.specs.Said.{copies_said, field_said, point_flags_said, run_said}
use Rattle.standard.specs.Told.{TellsCopies, TellsRun}
use Rattle.standard.proofs.Fields.{field_at, field_ok, piece_first, two_pieces}

one_byte : (v : ℕ) (p : List ℕ) → Says 1 u8_said v p → p ≡ v ∷ []
one_byte v [] h = absurd (omega (arith, h.0))
one_byte v (x ∷ []) h = ap (λ (y : ℕ). y ∷ []) h.1
one_byte v (x ∷ (y ∷ p)) h = absurd (omega (arith, h.0))

-- A run that was read.
abbrev Found : List ℕ → Run × List ℕ → Type 0
Found bs q = (p : List ℕ) × (bs ≡ p ++ q.1) × TellsRun q.0 p

copies_ok : (b : Bool) (f : ℕ) (bs : List ℕ) (q : ℕ × List ℕ) → copies_said b bs ≡ Ok q → (p : List ℕ) × (bs ≡ p ++ q.1) × TellsCopies b (run f q.0) (f ∷ p)
copies_ok true f bs q e =
    let g = field_ok 1 u8_said bs q e in
    (g.0, g.1, ap (λ (x : List ℕ). f ∷ x) (one_byte q.0 g.0 g.2))
copies_ok false f bs q e =
    let s : (0, bs) ≡ q = cc in
    let s0 : 0 ≡ q.0 = ap (λ (x : ℕ × List ℕ). x.0) s in
    ([], ap (λ (x : ℕ × List ℕ). x.1) s, (refl, sym s0))

byte_first : (v : ℕ) (bs p q rest more : List ℕ) → bs ≡ p ++ rest → Says 1 u8_said v p → rest ≡ q ++ more → bs ≡ v ∷ (q ++ more)
byte_first v bs p q rest more e h f = rw (e, one_byte v p h, f)

run_ok : (bs : List ℕ) (q : Run × List ℕ) → run_said bs ≡ Ok q → Found bs q
run_ok bs q e =
    let f =
    then_accepted (field_said 1 u8_said bs)
    (λ (x : ℕ × List ℕ). then (copies_said (has x.0 0x08) x.1) (λ (c : ℕ × List ℕ). Ok (run x.0 c.0, c.1))) q e
    in
    let v = f.0.0 in
    let g = field_ok 1 u8_said bs f.0 f.1 in
    let h = then_accepted (copies_said (has v 0x08) f.0.1) (λ (c : ℕ × List ℕ). Ok (run v c.0, c.1)) q f.2 in
    let k = copies_ok (has v 0x08) v f.0.1 h.0 h.1 in
    let w = byte_first v bs g.0 k.0 f.0.1 h.0.1 g.1 g.2 k.1 in
    let s : (run v h.0.0, h.0.1) ≡ q = let m = h.2 in cc in
    subst (Found bs) s (v ∷ k.0, w, k.2)

-- A run that is told is read.
run_at : (r : Run) (p rest : List ℕ) → TellsRun r p → run_said (p ++ rest) ≡ Ok (r, rest)
run_at r p rest h = by (has r.flag 0x08) refl h
  where
    by : (b : Bool) → has r.flag 0x08 ≡ b → TellsCopies b r p → run_said (p ++ rest) ≡ Ok (r, rest)
    by true m k =
        let f = field_at 1 u8_said r.flag (r.flag ∷ []) (r.copies ∷ rest) (refl, refl) in
        let c = field_at 1 u8_said r.copies (r.copies ∷ []) rest (refl, refl) in
        let all : run_said (r.flag ∷ (r.copies ∷ rest)) ≡ Ok (r, rest) = rw (f, m, c) in
        ap (λ (x : List ℕ). run_said (x ++ rest)) k ∙ all
    by false m k =
        let f = field_at 1 u8_said r.flag (r.flag ∷ []) rest (refl, refl) in
        let all : run_said (r.flag ∷ rest) ≡ Ok (run r.flag 0, rest) = rw (f, m) in
        ap (λ (x : List ℕ). run_said (x ++ rest)) k.0
        ∙ (all ∙ ap (λ (c : ℕ). Ok (run r.flag c, rest)) (sym k.1))

-- Flags that were read, behind those in `fs`.
abbrev FoundAll : ℕ → List ℕ → List ℕ → List ℕ × List ℕ → Type 0
FoundAll left fs bs q =
    (runs : List Run) × (p : List ℕ) × (q.0 ≡ fs ++ flat_map run_flags runs) × (length (flat_map run_flags runs) ≡ left)
    × (bs ≡ p ++ q.1) × Joins TellsRun runs p

none_left : (fs bs : List ℕ) (q : List ℕ × List ℕ) → (fs, bs) ≡ q → FoundAll 0 fs bs q
none_left fs bs q s =
    let s0 : fs ≡ q.0 = ap (λ (x : List ℕ × List ℕ). x.0) s in
    ([], [], sym s0 ∙ sym (append-nil fs), refl, ap (λ (x : List ℕ × List ℕ). x.1) s, refl)

run_length : (r : Run) (fs : List ℕ) → length (run_flags r ++ fs) ≡ suc r.copies + length fs
run_length r fs =
    let a = length-append (run_flags r) fs in
    let b = length-replicate (suc r.copies) r.flag in
    omega arith

pub flags_ok : (n left : ℕ) (fs bs : List ℕ) (q : List ℕ × List ℕ) → point_flags_said n left fs bs ≡ Ok q → FoundAll left fs bs q
flags_ok zero zero fs bs q e = none_left fs bs q (cc)
flags_ok zero (suc left) fs bs q e = let z : ◌≡◌ {A = ℕ} 0 1 = cc in absurd (omega arith)
flags_ok (suc n) zero fs bs q e = none_left fs bs q (cc)
flags_ok (suc n) (suc left) fs bs q e =
    let f =
    then_accepted (run_said bs)
    (λ (r : Run × List ℕ).
    cond (leb r.0.copies left) (point_flags_said n (left - r.0.copies) (fs ++ run_flags r.0) r.1)
    (Err BadValue))
    q e
    in
    let r = f.0.0 in
    let g = run_ok bs f.0 f.1 in
    let h = test_passed (leb r.copies left) (point_flags_said n (left - r.copies) (fs ++ run_flags r) f.0.1) BadValue q f.2 in
    let fit = leb-true r.copies left h.0 in
    let i = flags_ok n (left - r.copies) (fs ++ run_flags r) f.0.1 q h.1 in
    let l = run_length r (flat_map run_flags i.0) in
    let k = i.3 in
    let many : length (run_flags r ++ flat_map run_flags i.0) ≡ suc left = omega arith in (
      r ∷ i.0,
      g.0 ++ i.1,
      i.2 ∙ append_assoc fs (run_flags r) (flat_map run_flags i.0),
      many,
      two_pieces bs g.0 i.1 f.0.1 q.1 g.1 i.4,
      (g.0, i.1, refl, g.2, i.5),
    )

-- Flags that runs tell are read: as many runs are looked for as there are flags.
pub flags_at : (runs : List Run) (n left : ℕ) (fs p rest : List ℕ) → length (flat_map run_flags runs) ≡ left → left ≤ n → Joins TellsRun runs p → point_flags_said n left fs (p ++ rest) ≡ Ok (fs ++ flat_map run_flags runs, rest)
flags_at [] zero zero fs p rest l m h = rw (h, append-nil fs)
flags_at [] (suc n) zero fs p rest l m h = rw (h, append-nil fs)
flags_at [] n (suc left) fs p rest l m h = absurd (omega arith)
flags_at (r ∷ runs) n zero fs p rest l m h =
    let k = run_length r (flat_map run_flags runs) in
    absurd (omega arith)
flags_at (r ∷ runs) zero (suc left) fs p rest l m h = absurd (omega arith)
flags_at (r ∷ runs) (suc n) (suc left) fs p rest l m h =
    let js = flat_map run_flags runs in
    let k = run_length r js in
    let fit : r.copies ≤ left = omega arith in
    let many : length js ≡ left - r.copies = omega arith in
    let few : left - r.copies ≤ n = omega arith in
    let w = piece_first p h.0 h.1 rest h.2 in
    let read : run_said (p ++ rest) ≡ Ok (r, h.1 ++ rest) = ap run_said w ∙ run_at r h.0 (h.1 ++ rest) h.3 in
    let i = flags_at runs n (left - r.copies) (fs ++ run_flags r) h.1 rest many few h.4 in
    rw (read, le-leb r.copies left fit) (i ∙ ap (λ (x : List ℕ). Ok (x, rest)) (append_assoc fs (run_flags r) js))
