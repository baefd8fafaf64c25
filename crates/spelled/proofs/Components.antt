-- Components, one behind the other.
use Rattle.std.proofs.Common.{◌≡◌, ℕ, zero, suc, ◌+◌, ◌<◌, ◌≤◌, Bool, true, false, cond, ◌||◌, List, [], ◌∷◌, ◌++◌, length, take, drop, Ok, sym, refl, ap, ◌∙◌, arith}
use Rattle.std.proofs.Math.Bool.{or-false, or_assoc}
use Rattle.std.proofs.lemmas.List.{append_assoc, append-nil, drop-append-le, length-append, length-drop, take-append-le}
use Rattle.read.proofs.Thens.{then_accepted}
use Rattle.composite.specs.Components.{argument_size, component_by, component_said, component_size, flags_said, has, scale_size}
use Rattle.glyph.specs.declared.component.Component.{Component}
use Rattle.read.specs.Answers.{front}
use Rattle.unpack.proofs.Components.{six}
use Rattle.unpack.specs.Composites.{component, components_said}
use Rattle.unpack.specs.Spelled.{Joins, SpellsComponent}
use Rattle.composite.specs.Chains.{Chained, marked}
use Rattle.spelled.proofs.Fronts.{front_at, front_ok}

-- What lies inside the first part of a list is the same without what follows.
inside : (m n : ℕ) (p rest : List ℕ) → m + n ≤ length p → take n (drop m (p ++ rest)) ≡ take n (drop m p)
inside m n p rest h =
    let a : m ≤ length p = omega arith in
    let l = length-drop m p in
    let b : n ≤ length (drop m p) = omega arith in
    ap (take n) (drop-append-le m p rest a) ∙ take-append-le n (drop m p) rest b

same_flags : (p rest : List ℕ) → 2 ≤ length p → flags_said (p ++ rest) ≡ flags_said p
same_flags p rest h = rw (take-append-le 2 p rest h)

same_by : (f : ℕ) (p rest : List ℕ) → length p ≡ component_size f → component_by f (p ++ rest) ≡ component_by f p
same_by f p rest l =
    let n = argument_size f in
    let i0 = inside 2 2 p rest (omega arith) in
    let i1 = inside 4 n p rest (omega arith) in
    let i2 = inside (4 + n) n p rest (omega arith) in
    let i3 = inside (4 + n + n) (scale_size f) p rest (omega arith) in
    rw (i0, i1, i2, i3)

-- The bytes of a component say it, whatever follows.
same_component : (p rest : List ℕ) → length p ≡ component_size (flags_said p) → component_said (p ++ rest) ≡ component_said p
same_component p rest l =
    let s = six (flags_said p) in
    let h : 2 ≤ length p = omega arith in
    ap (λ (f : ℕ). component_by f (p ++ rest)) (same_flags p rest h) ∙ same_by (flags_said p) p rest l

component_ok : (bs : List ℕ) (q : Component × List ℕ) → component bs ≡ Ok q → (p : List ℕ) × (bs ≡ p ++ q.1) × SpellsComponent q.0 p
component_ok bs q e =
    let f = then_accepted (front (component_size (flags_said bs)) bs) (λ (p : List ℕ × List ℕ). Ok (component_said bs, p.1)) q e in
    let g = front_ok (component_size (flags_said bs)) bs f.0 f.1 in
    let s : (component_said bs, f.0.1) ≡ q = let w = f.2 in cc in
    let s0 : component_said bs ≡ q.0 = ap (λ (x : Component × List ℕ). x.0) s in
    let s1 : f.0.1 ≡ q.1 = ap (λ (x : Component × List ℕ). x.1) s in
    let p = f.0.0 in
    let six' = six (flags_said bs) in
    let h : 2 ≤ length p = omega (arith, g.0) in
    let same : flags_said bs ≡ flags_said p = ap flags_said g.1 ∙ same_flags p f.0.1 h in
    let l : length p ≡ component_size (flags_said p) = g.0 ∙ ap component_size same in
    let c : component_said p ≡ q.0 = sym (same_component p f.0.1 l) ∙ (sym (ap component_said g.1) ∙ s0) in
    (p, g.1 ∙ ap (λ (x : List ℕ). p ++ x) s1, (l, c))

component_at : (c : Component) (p rest : List ℕ) → SpellsComponent c p → component (p ++ rest) ≡ Ok (c, rest)
component_at c p rest h =
    let s = six (flags_said p) in
    let l : length p ≡ component_size (flags_said p) = h.0 in
    let two : 2 ≤ length p = omega arith in
    let same = same_flags p rest two in
    let k : length p ≡ component_size (flags_said (p ++ rest)) = l ∙ ap component_size (sym same) in
    let r = front_at (component_size (flags_said (p ++ rest))) p rest k in
    let e : component (p ++ rest) ≡ Ok (component_said (p ++ rest), rest) = rw r in
    e ∙ ap (λ (x : Component). Ok (x, rest)) (same_component p rest l ∙ h.1)

chain : (c : Component) (cs : List Component) → has c.flags 0x0020 ≡ true → Chained cs → Chained (c ∷ cs)
chain c [] m h = absurd h
chain c (d ∷ cs) m h = (m, h)

-- An answer has the components in `cs` and behind them those that the front of a stream spells.
abbrev pub Found : List Component → Bool → List ℕ → List Component × Bool × List ℕ → Type 0
Found cs mark bs q =
    (new : List Component) × (p : List ℕ) × (q.0 ≡ cs ++ new) × (bs ≡ p ++ q.2) × Joins SpellsComponent new p × Chained new × (q.1 ≡ (mark || marked new))

pub components_ok : (n : ℕ) (cs : List Component) (mark : Bool) (bs : List ℕ) (q : List Component × Bool × List ℕ) → components_said n cs mark bs ≡ Ok q → Found cs mark bs q
components_ok zero cs mark bs q e = let z : ◌≡◌ {A = ℕ} 0 1 = cc in absurd (omega arith)
components_ok (suc n) cs mark bs q e =
    let f =
    then_accepted (component bs)
    (λ (c : Component × List ℕ).
    cond (has c.0.flags 0x0020) (components_said n (cs ++ c.0 ∷ []) (mark || has c.0.flags 0x0100) c.1)
    (Ok (cs ++ c.0 ∷ [], (mark || has c.0.flags 0x0100), c.1)))
    q e
    in
    let g = component_ok bs f.0 f.1 in
    by f.0.0 f.0.1 g.0 g.1 g.2 (λ h. components_ok n (cs ++ f.0.0 ∷ []) (mark || has f.0.0.flags 0x0100) f.0.1 q h) (has f.0.0.flags 0x0020) refl f.2
  where
    by : (c : Component) (rest p : List ℕ) → bs ≡ p ++ rest → SpellsComponent c p → (components_said n (cs ++ c ∷ []) (mark || has c.flags 0x0100) rest ≡ Ok q → Found (cs ++ c ∷ []) (mark || has c.flags 0x0100) rest q) → (b : Bool) → has c.flags 0x0020 ≡ b → cond b (components_said n (cs ++ c ∷ []) (mark || has c.flags 0x0100) rest) (Ok (cs ++ c ∷ [], (mark || has c.flags 0x0100), rest)) ≡ Ok q → Found cs mark bs q
    by c rest p w s again true m h =
        let i = again h in (
          c ∷ i.0,
          p ++ i.1,
          i.2 ∙ append_assoc cs (c ∷ []) i.0,
          w ∙ (ap (λ (x : List ℕ). p ++ x) i.3 ∙ sym (append_assoc p i.1 q.2)),
          (p, i.1, refl, s, i.4),
          chain c i.0 m i.5,
          i.6 ∙ or_assoc mark (has c.flags 0x0100) (marked i.0),
        )
    by c rest p w s again false m h =
        let t : (cs ++ c ∷ [], (mark || has c.flags 0x0100), rest) ≡ q = cc in
        let t0 : cs ++ c ∷ [] ≡ q.0 = ap (λ (x : List Component × Bool × List ℕ). x.0) t in
        let t1 : (mark || has c.flags 0x0100) ≡ q.1 = ap (λ (x : List Component × Bool × List ℕ). x.1) t in
        let t2 : rest ≡ q.2 = ap (λ (x : List Component × Bool × List ℕ). x.2) t in (
          c ∷ [],
          p,
          sym t0,
          w ∙ ap (λ (x : List ℕ). p ++ x) t2,
          (p, [], sym (append-nil p), s, refl),
          m,
          sym t1 ∙ ap (λ (x : Bool). mark || x) (sym (or-false (has c.flags 0x0100))),
        )

-- As many are looked for as there are bytes: none is missed.
pub components_at : (new : List Component) (n : ℕ) (cs : List Component) (mark : Bool) (p rest : List ℕ) → length p < n → Joins SpellsComponent new p → Chained new → components_said n cs mark (p ++ rest) ≡ Ok (cs ++ new, (mark || marked new), rest)
components_at [] n cs mark p rest l h k = absurd k
components_at (c ∷ new) zero cs mark p rest l h k = absurd (omega arith)
components_at (c ∷ []) (suc n) cs mark p rest l h k =
    let e : p ≡ h.0 = h.2 ∙ (ap (λ (x : List ℕ). h.0 ++ x) h.4 ∙ append-nil h.0) in
    let r : component (p ++ rest) ≡ Ok (c, rest) = ap (λ (x : List ℕ). component (x ++ rest)) e ∙ component_at c h.0 rest h.3 in
    let m : has c.flags 0x0020 ≡ false = k in
    rw (r, m) (ap (λ (x : Bool). Ok (cs ++ c ∷ [], (mark || x), rest)) (sym (or-false (has c.flags 0x0100))))
components_at (c ∷ (d ∷ new)) (suc n) cs mark p rest l h k =
    let w : p ++ rest ≡ h.0 ++ (h.1 ++ rest) = ap (λ (x : List ℕ). x ++ rest) h.2 ∙ append_assoc h.0 h.1 rest in
    let r : component (p ++ rest) ≡ Ok (c, h.1 ++ rest) = ap component w ∙ component_at c h.0 (h.1 ++ rest) h.3 in
    let m : has c.flags 0x0020 ≡ true = k.0 in
    let s = six (flags_said h.0) in
    let z = ap length h.2 ∙ length-append h.0 h.1 in
    let short : length h.1 < n = omega (arith, h.3.0) in
    let i = components_at (d ∷ new) n (cs ++ c ∷ []) (mark || has c.flags 0x0100) h.1 rest short h.4 k.1 in
    let j =
    ap (λ (x : List Component). Ok (x, ((mark || has c.flags 0x0100) || marked (d ∷ new)), rest)) (append_assoc cs (c ∷ []) (d ∷ new))
    ∙ ap (λ (x : Bool). Ok (cs ++ c ∷ (d ∷ new), x, rest)) (or_assoc mark (has c.flags 0x0100) (marked (d ∷ new)))
    in
    rw (r, m) (i ∙ j)
