-- Flags and steps, and the points that they lead to.
use Rattle.std.proofs.Common.{◌≡◌, ℕ, suc, ◌%◌, cond, ◌&&◌, List, [], ◌∷◌, ◌++◌, length, ℤ, ◌+ℤ◌, Ok, Err, sym, refl, ap, ◌∙◌}
use Rattle.std.proofs.lemmas.List.{append_assoc, append-nil}
use Rattle.read.proofs.Thens.{then_accepted}
use Rattle.glyph.specs.declared.lists.Point.{Point}
use Rattle.lut.specs.Triplets.{bytes_in, group_of, steps_said}
use Rattle.read.specs.Answers.{front, then}
use Rattle.read.specs.declared.error.ParseError.TheVariants.{BadValue}
use Rattle.unpack.specs.Outlines.{point, point_said, points_said, steps}
use Rattle.glyph.proofs.Outlines.{placed_at, placed_ok}
use Rattle.glyph.specs.Outlines.{placed}
use Rattle.unpack.specs.Spelled.{Leads, LeadsOn}
use Rattle.spelled.proofs.Fronts.{front_at, front_ok, passes_both}

-- A pair of steps at the front of the glyph data.
steps_ok : (r : ℕ) (bs : List ℕ) (q : (ℤ × ℤ) × List ℕ) → steps r bs ≡ Ok q → (p : List ℕ) × (bs ≡ p ++ q.1) × (length p ≡ bytes_in (group_of r)) × (steps_said r p ≡ Ok q.0)
steps_ok r bs q e =
    let f = then_accepted (front (bytes_in (group_of r)) bs) (λ (p : List ℕ × List ℕ). then (steps_said r p.0) (λ (s : ℤ × ℤ). Ok (s, p.1))) q e in
    let g = front_ok (bytes_in (group_of r)) bs f.0 f.1 in
    let h = then_accepted (steps_said r f.0.0) (λ (s : ℤ × ℤ). Ok (s, f.0.1)) q f.2 in
    let s : (h.0, f.0.1) ≡ q = let w = h.2 in cc in
    let s0 : h.0 ≡ q.0 = ap (λ (x : (ℤ × ℤ) × List ℕ). x.0) s in
    let s1 : f.0.1 ≡ q.1 = ap (λ (x : (ℤ × ℤ) × List ℕ). x.1) s in
    (f.0.0, g.1 ∙ ap (λ (x : List ℕ). f.0.0 ++ x) s1, g.0, h.1 ∙ ap (λ (x : ℤ × ℤ). Ok x) s0)

steps_at : (r : ℕ) (q : ℤ × ℤ) (p rest : List ℕ) → length p ≡ bytes_in (group_of r) → steps_said r p ≡ Ok q → steps r (p ++ rest) ≡ Ok (q, rest)
steps_at r q p rest l e = rw (front_at (bytes_in (group_of r)) p rest l, e)

-- A point behind another.
point_ok : (last : Point) (f : ℕ) (bs : List ℕ) (q : Point × List ℕ) → point_said last f bs ≡ Ok q → (p : List ℕ) × (bs ≡ p ++ q.1) × Leads last q.0 f p
point_ok last f bs q e =
    let g =
    then_accepted (steps (f % 128) bs)
    (λ (s : (ℤ × ℤ) × List ℕ).
    cond (placed (last.x +ℤ s.0.0) && placed (last.y +ℤ s.0.1))
    (Ok (point (last.x +ℤ s.0.0) (last.y +ℤ s.0.1) f, s.1)) (Err BadValue))
    q e
    in
    let dx = g.0.0.0 in
    let dy = g.0.0.1 in
    let h = steps_ok (f % 128) bs g.0 g.1 in
    let b = passes_both (placed (last.x +ℤ dx)) (placed (last.y +ℤ dy)) (Ok (point (last.x +ℤ dx) (last.y +ℤ dy) f, g.0.1)) BadValue q g.2 in
    let s : (point (last.x +ℤ dx) (last.y +ℤ dy) f, g.0.1) ≡ q = let w = b.2 in cc in
    let s0 : point (last.x +ℤ dx) (last.y +ℤ dy) f ≡ q.0 = ap (λ (x : Point × List ℕ). x.0) s in
    let s1 : g.0.1 ≡ q.1 = ap (λ (x : Point × List ℕ). x.1) s in (
      h.0,
      h.1 ∙ ap (λ (x : List ℕ). h.0 ++ x) s1,
      record {
        dx = dx;
        dy = dy;
        whole = h.2;
        steps = h.3;
        next_is = sym s0;
        x_in_range = placed_ok (last.x +ℤ dx) b.0;
        y_in_range = placed_ok (last.y +ℤ dy) b.1;
      },
    )

point_at : (last next : Point) (f : ℕ) (p rest : List ℕ) → Leads last next f p → point_said last f (p ++ rest) ≡ Ok (next, rest)
point_at last next f p rest h =
    let s = steps_at (f % 128) (h.dx, h.dy) p rest h.whole h.steps in
    let a = placed_at (last.x +ℤ h.dx) h.x_in_range in
    let b = placed_at (last.y +ℤ h.dy) h.y_in_range in
    rw (s, a, b) (ap (λ (x : Point). Ok (x, rest)) (sym h.next_is))

-- The points that were read, behind those in `ps`.
pub points_ok : (fs : List ℕ) (ps : List Point) (last : Point) (bs : List ℕ) (q : List Point × List ℕ) → points_said fs ps last bs ≡ Ok q → (new : List Point) × (p : List ℕ) × (q.0 ≡ ps ++ new) × (length new ≡ length fs) × (bs ≡ p ++ q.1) × LeadsOn last new fs p
points_ok [] ps last bs q e =
    let s : (ps, bs) ≡ q = cc in
    let s0 : ps ≡ q.0 = ap (λ (x : List Point × List ℕ). x.0) s in
    ([], [], sym s0 ∙ sym (append-nil ps), refl, ap (λ (x : List Point × List ℕ). x.1) s, (refl, refl))
points_ok (f ∷ fs) ps last bs q e =
    let g = then_accepted (point_said last f bs) (λ (s : Point × List ℕ). points_said fs (ps ++ s.0 ∷ []) s.0 s.1) q e in
    let h = point_ok last f bs g.0 g.1 in
    let i = points_ok fs (ps ++ g.0.0 ∷ []) g.0.0 g.0.1 q g.2 in
    let w : bs ≡ (h.0 ++ i.1) ++ q.1 = h.1 ∙ (ap (λ (x : List ℕ). h.0 ++ x) i.4 ∙ sym (append_assoc h.0 i.1 q.1)) in (
      g.0.0 ∷ i.0,
      h.0 ++ i.1,
      i.2 ∙ append_assoc ps (g.0.0 ∷ []) i.0,
      ap suc i.3,
      w,
      (f, fs, h.0, i.1, refl, refl, h.2, i.5),
    )

-- Points that flags and steps lead to are read.
pub points_at : (new ps : List Point) (last : Point) (fs p rest : List ℕ) → LeadsOn last new fs p → points_said fs ps last (p ++ rest) ≡ Ok (ps ++ new, rest)
points_at [] ps last fs p rest h = rw (h.0, h.1, append-nil ps)
points_at (n ∷ new) ps last fs p rest h =
    let f = h.0 in
    let w : p ++ rest ≡ h.2 ++ (h.3 ++ rest) = ap (λ (x : List ℕ). x ++ rest) h.5 ∙ append_assoc h.2 h.3 rest in
    let i = points_at new (ps ++ n ∷ []) n h.1 h.3 rest h.7 in
    let s : point_said last f (p ++ rest) ≡ Ok (n, h.3 ++ rest) = ap (point_said last f) w ∙ point_at last n f h.2 (h.3 ++ rest) h.6 in
    let t : points_said (f ∷ h.1) ps last (p ++ rest) ≡ Ok ((ps ++ n ∷ []) ++ new, rest) = rw s i in
    ap (λ (x : List ℕ). points_said x ps last (p ++ rest)) h.4
    ∙ (t ∙ ap (λ (x : List Point). Ok (x, rest)) (append_assoc ps (n ∷ []) new))

-- There is a flag for each point.
pub flag_each : (new : List Point) (last : Point) (fs p : List ℕ) → LeadsOn last new fs p → length fs ≡ length new
flag_each [] last fs p h = ap length h.0
flag_each (n ∷ new) last fs p h = ap length h.4 ∙ ap suc (flag_each new n h.1 h.3 h.7)
