-- Fields at the front of a list of bytes.
use Rattle.std.proofs.Common.{◌≡◌, ℕ, zero, suc, ◌*◌, ◌≤◌, Bool, true, false, List, [], ◌∷◌, ◌++◌, length, take, drop, Ok, sym, refl, ap, ◌∙◌, suc-mul, zero-mul, arith}
use Rattle.std.proofs.lemmas.List.{append_assoc, append-nil, drop_at, length-append, length-drop, length-take-le, nil_from_length, take-append-drop, take_at}
use Rattle.read.proofs.Thens.{then_accepted}
use Rattle.binary.specs.Bytes.{u16_said}
use Rattle.read.specs.Answers.{front}
use Rattle.read.specs.Arrays.{fields_of}
use Rattle.spelled.proofs.Fronts.{front_at, front_ok}
use Rattle.unpack.specs.Spelled.{Joins, Says}
use Rattle.standard.specs.Said.{end_points_said, field_said, hints_if, sized_hints}
use Rattle.standard.specs.Told.{TellsHints}

-- A list that begins with two pieces, one behind the other.
pub two_pieces : (bs p q rest more : List ℕ) → bs ≡ p ++ rest → rest ≡ q ++ more → bs ≡ (p ++ q) ++ more
two_pieces bs p q rest more e f = e ∙ (ap (λ (x : List ℕ). p ++ x) f ∙ sym (append_assoc p q more))

pub piece_first : (bs p q rest : List ℕ) → bs ≡ p ++ q → bs ++ rest ≡ p ++ (q ++ rest)
piece_first bs p q rest e = ap (λ (x : List ℕ). x ++ rest) e ∙ append_assoc p q rest

module _ {A : Type 0} (n : ℕ) (said : List ℕ → A) where
  -- A field that was read.
  pub field_ok : (bs : List ℕ) (q : A × List ℕ) → field_said n said bs ≡ Ok q → (p : List ℕ) × (bs ≡ p ++ q.1) × Says n said q.0 p
  field_ok bs q e =
      let f = then_accepted (front n bs) (λ (p : List ℕ × List ℕ). Ok (said p.0, p.1)) q e in
      let g = front_ok n bs f.0 f.1 in
      let s : (said f.0.0, f.0.1) ≡ q = let w = f.2 in cc in
      let s1 : f.0.1 ≡ q.1 = ap (λ (x : A × List ℕ). x.1) s in
      (f.0.0, g.1 ∙ ap (λ (x : List ℕ). f.0.0 ++ x) s1, (g.0, ap (λ (x : A × List ℕ). x.0) s))

  -- A field that is told is read.
  pub field_at : (v : A) (p rest : List ℕ) → Says n said v p → field_said n said (p ++ rest) ≡ Ok (v, rest)
  field_at v p rest h = rw (front_at n p rest h.0, h.1)

  -- An array of fields.
  pub fields_tell : (c : ℕ) (bs : List ℕ) → length bs ≡ c * n → Joins (Says n said) (fields_of n said c bs) bs
  fields_tell zero bs l = nil_from_length bs (l ∙ zero-mul n)
  fields_tell (suc c) bs l =
      let m = suc-mul c n in
      let h : n ≤ length bs = omega arith in
      let d = length-drop n bs in
      let k : length (drop n bs) ≡ c * n = omega arith in
      (take n bs, drop n bs, sym (take-append-drop n bs), (length-take-le n bs h, refl), fields_tell c (drop n bs) k)

  pub told_length : (vs : List A) (bs : List ℕ) → Joins (Says n said) vs bs → length bs ≡ length vs * n
  told_length [] bs h = ap length h ∙ sym (zero-mul n)
  told_length (v ∷ vs) bs h =
      let m = suc-mul (length vs) n in
      let w = ap length h.2 ∙ length-append h.0 h.1 in
      let i = told_length vs h.1 h.4 in
      let k : length h.0 ≡ n = h.3.0 in
      omega arith

  pub told_fields : (vs : List A) (bs : List ℕ) → Joins (Says n said) vs bs → fields_of n said (length vs) bs ≡ vs
  told_fields [] bs h = refl
  told_fields (v ∷ vs) bs h =
      let t : take n bs ≡ h.0 = ap (take n) h.2 ∙ take_at h.0 h.1 n h.3.0 in
      let d : drop n bs ≡ h.1 = ap (drop n) h.2 ∙ drop_at h.0 h.1 n h.3.0 in
      let i = told_fields vs h.1 h.4 in
      let s : said (take n bs) ≡ v = ap said t ∙ h.3.1 in
      rw (s, d, i)

-- The ends of contours that were read, behind those in `es`.
pub ends_ok : (c : ℕ) (es bs : List ℕ) (q : List ℕ × List ℕ) → end_points_said c es bs ≡ Ok q → (new : List ℕ) × (p : List ℕ) × (q.0 ≡ es ++ new) × (length new ≡ c) × (bs ≡ p ++ q.1) × Joins (Says 2 u16_said) new p
ends_ok zero es bs q e =
    let s : (es, bs) ≡ q = cc in
    let s0 : es ≡ q.0 = ap (λ (x : List ℕ × List ℕ). x.0) s in
    ([], [], sym s0 ∙ sym (append-nil es), refl, ap (λ (x : List ℕ × List ℕ). x.1) s, refl)
ends_ok (suc c) es bs q e =
    let f = then_accepted (field_said 2 u16_said bs) (λ (p : ℕ × List ℕ). end_points_said c (es ++ p.0 ∷ []) p.1) q e in
    let v = f.0.0 in
    let g = field_ok 2 u16_said bs f.0 f.1 in
    let i = ends_ok c (es ++ v ∷ []) f.0.1 q f.2 in (
      v ∷ i.0,
      g.0 ++ i.1,
      i.2 ∙ append_assoc es (v ∷ []) i.0,
      ap suc i.3,
      two_pieces bs g.0 i.1 f.0.1 q.1 g.1 i.4,
      (g.0, i.1, refl, g.2, i.5),
    )

pub ends_at : (new es p rest : List ℕ) → Joins (Says 2 u16_said) new p → end_points_said (length new) es (p ++ rest) ≡ Ok (es ++ new, rest)
ends_at [] es p rest h = rw (h, append-nil es)
ends_at (v ∷ new) es p rest h =
    let w = piece_first p h.0 h.1 rest h.2 in
    let r : field_said 2 u16_said (p ++ rest) ≡ Ok (v, h.1 ++ rest) =
    ap (field_said 2 u16_said) w ∙ field_at 2 u16_said v h.0 (h.1 ++ rest) h.3
    in
    let i = ends_at new (es ++ v ∷ []) h.1 rest h.4 in
    rw r (i ∙ ap (λ (x : List ℕ). Ok (x, rest)) (append_assoc es (v ∷ []) new))

-- Instructions that were read behind their number.
pub sized_ok : (bs : List ℕ) (q : List ℕ × List ℕ) → sized_hints bs ≡ Ok q → (size : List ℕ) × (bs ≡ size ++ (q.0 ++ q.1)) × Says 2 u16_said (length q.0) size
sized_ok bs q e =
    let f = then_accepted (field_said 2 u16_said bs) (λ (n : ℕ × List ℕ). front n.0 n.1) q e in
    let g = field_ok 2 u16_said bs f.0 f.1 in
    let h = front_ok f.0.0 f.0.1 q f.2 in
    (g.0, g.1 ∙ ap (λ (x : List ℕ). g.0 ++ x) h.1, (g.2.0, g.2.1 ∙ sym h.0))

pub sized_at : (hints size rest : List ℕ) → Says 2 u16_said (length hints) size → sized_hints (size ++ (hints ++ rest)) ≡ Ok (hints, rest)
sized_at hints size rest h =
    let r = field_at 2 u16_said (length hints) size (hints ++ rest) h in
    let f = front_at (length hints) hints rest refl in
    rw (r, f)

-- Instructions that only some glyphs have.
pub hints_ok : (b : Bool) (bs : List ℕ) (q : List ℕ × List ℕ) → hints_if b bs ≡ Ok q → (p : List ℕ) × (bs ≡ p ++ q.1) × TellsHints b q.0 p
hints_ok true bs q e =
    let f = sized_ok bs q e in
    (f.0 ++ q.0, f.1 ∙ sym (append_assoc f.0 q.0 q.1), (f.0, refl, f.2))
hints_ok false bs q e =
    let s : ([], bs) ≡ q = cc in
    let s0 : [] ≡ q.0 = ap (λ (x : List ℕ × List ℕ). x.0) s in
    ([], ap (λ (x : List ℕ × List ℕ). x.1) s, (sym s0, refl))

pub hints_at : (b : Bool) (hints p rest : List ℕ) → TellsHints b hints p → hints_if b (p ++ rest) ≡ Ok (hints, rest)
hints_at true hints p rest h = ap sized_hints (piece_first p h.0 hints rest h.1) ∙ sized_at hints h.0 rest h.2
hints_at false hints p rest h = rw (h.0, h.1)
