-- Steps along each axis, and the points that they lead to.
use Rattle.std.proofs.Common.{◌≡◌, ℕ, cond, ◌&&◌, List, [], ◌∷◌, ◌++◌, map, ℤ, ◌+ℤ◌, Ok, Err, sym, refl, ap, ◌∙◌, subst}
use Rattle.std.proofs.lemmas.List.{append_assoc, append-nil}
use Rattle.read.proofs.Thens.{then_accepted}
use Rattle.glyph.specs.declared.lists.Point.{Point}
use Rattle.read.specs.declared.error.ParseError.TheVariants.{BadValue}
use Rattle.spelled.proofs.Fronts.{passes_both}
use Rattle.glyph.proofs.Outlines.{placed_at, placed_ok}
use Rattle.glyph.specs.Outlines.{placed, InRange}
use Rattle.unpack.specs.Spelled.{Joins, Says}
use Rattle.standard.specs.Fields.{next_point, x_step_said, x_step_size, y_step_said, y_step_size}
use Rattle.standard.specs.Said.{field_said, position_said, positions_said, x_steps_said}
use Rattle.standard.specs.Told.{Step, TellsX, TellsY, Walks}
use Rattle.standard.proofs.Fields.{field_at, field_ok, piece_first, two_pieces}

-- A step along x for each flag.
abbrev pub TellsXs : List ℕ → List ℤ → List ℕ → Type 0
TellsXs [] [] bs = bs ≡ []
TellsXs [] (d ∷ ds) bs = ⊥
TellsXs (f ∷ fs) [] bs = ⊥
TellsXs (f ∷ fs) (d ∷ ds) bs =
    (p : List ℕ) × (ps : List ℕ) × (bs ≡ p ++ ps) × Says (x_step_size f) (x_step_said f) d p × TellsXs fs ds ps

-- Steps along x that were read, behind those in `ds`.
pub xs_ok : (fs : List ℕ) (ds : List ℤ) (bs : List ℕ) (q : List ℤ × List ℕ) → x_steps_said fs ds bs ≡ Ok q → (new : List ℤ) × (p : List ℕ) × (q.0 ≡ ds ++ new) × (bs ≡ p ++ q.1) × TellsXs fs new p
xs_ok [] ds bs q e =
    let s : (ds, bs) ≡ q = cc in
    let s0 : ds ≡ q.0 = ap (λ (x : List ℤ × List ℕ). x.0) s in
    ([], [], sym s0 ∙ sym (append-nil ds), ap (λ (x : List ℤ × List ℕ). x.1) s, refl)
xs_ok (f ∷ fs) ds bs q e =
    let g = then_accepted (field_said (x_step_size f) (x_step_said f) bs) (λ (p : ℤ × List ℕ). x_steps_said fs (ds ++ p.0 ∷ []) p.1) q e in
    let d = g.0.0 in
    let h = field_ok (x_step_size f) (x_step_said f) bs g.0 g.1 in
    let i = xs_ok fs (ds ++ d ∷ []) g.0.1 q g.2 in (
      d ∷ i.0,
      h.0 ++ i.1,
      i.2 ∙ append_assoc ds (d ∷ []) i.0,
      two_pieces bs h.0 i.1 g.0.1 q.1 h.1 i.3,
      (h.0, i.1, refl, h.2, i.4),
    )

pub xs_at : (steps : List Step) (ds : List ℤ) (p rest : List ℕ) → Joins TellsX steps p → x_steps_said (map (λ s. s.flag) steps) ds (p ++ rest) ≡ Ok (ds ++ map (λ s. s.dx) steps, rest)
xs_at [] ds p rest h = rw (h, append-nil ds)
xs_at (s ∷ steps) ds p rest h =
    let f = s.flag in
    let w = piece_first p h.0 h.1 rest h.2 in
    let r : field_said (x_step_size f) (x_step_said f) (p ++ rest) ≡ Ok (s.dx, h.1 ++ rest) =
    ap (field_said (x_step_size f) (x_step_said f)) w ∙ field_at (x_step_size f) (x_step_said f) s.dx h.0 (h.1 ++ rest) h.3
    in
    let i = xs_at steps (ds ++ s.dx ∷ []) h.1 rest h.4 in
    let j = append_assoc ds (s.dx ∷ []) (map (λ (t : Step). t.dx) steps) in
    rw r (i ∙ ap (λ (x : List ℤ). Ok (x, rest)) j)

-- A point behind another.
pub record Follows (last : Point) (f : ℕ) (dx : ℤ) (bs : List ℕ) (q : Point × List ℕ) : Type 0 where
  pub dy : ℤ
  pub bytes : List ℕ
  pub begins : bs ≡ bytes ++ q.1
  pub tells : Says (y_step_size f) (y_step_said f) dy bytes
  pub next_is : next_point last f dx dy ≡ q.0
  pub x_in_range : InRange (last.x +ℤ dx)
  pub y_in_range : InRange (last.y +ℤ dy)

position_ok : (last : Point) (f : ℕ) (dx : ℤ) (bs : List ℕ) (q : Point × List ℕ) → position_said last f dx bs ≡ Ok q → Follows last f dx bs q
position_ok last f dx bs q e =
    let g =
    then_accepted (field_said (y_step_size f) (y_step_said f) bs)
    (λ (p : ℤ × List ℕ).
    cond (placed (last.x +ℤ dx) && placed (last.y +ℤ p.0)) (Ok (next_point last f dx p.0, p.1))
    (Err BadValue))
    q e
    in
    let dy = g.0.0 in
    let h = field_ok (y_step_size f) (y_step_said f) bs g.0 g.1 in
    let b = passes_both (placed (last.x +ℤ dx)) (placed (last.y +ℤ dy)) (Ok (next_point last f dx dy, g.0.1)) BadValue q g.2 in
    let s : (next_point last f dx dy, g.0.1) ≡ q = let w = b.2 in cc in
    let s1 : g.0.1 ≡ q.1 = ap (λ (x : Point × List ℕ). x.1) s in
    record {
      dy = dy;
      bytes = h.0;
      begins = h.1 ∙ ap (λ (x : List ℕ). h.0 ++ x) s1;
      tells = h.2;
      next_is = ap (λ (x : Point × List ℕ). x.0) s;
      x_in_range = placed_ok (last.x +ℤ dx) b.0;
      y_in_range = placed_ok (last.y +ℤ dy) b.1;
    }

position_at : (last : Point) (s : Step) (p rest : List ℕ) → TellsY s p → InRange (last.x +ℤ s.dx) → InRange (last.y +ℤ s.dy) → position_said last s.flag s.dx (p ++ rest) ≡ Ok (next_point last s.flag s.dx s.dy, rest)
position_at last s p rest h a b =
    let f = s.flag in
    let r = field_at (y_step_size f) (y_step_said f) s.dy p rest h in
    rw (r, placed_at (last.x +ℤ s.dx) a, placed_at (last.y +ℤ s.dy) b)

-- Points that were read, behind those in `ps`, where the steps along x were read before.
pub record Walked (fs : List ℕ) (xs : List ℕ) (ps : List Point) (last : Point) (bs : List ℕ) (q : List Point × List ℕ) : Type 0 where
  pub steps : List Step
  pub new : List Point
  pub ys : List ℕ
  pub flags_are : fs ≡ map (λ s. s.flag) steps
  pub points_are : q.0 ≡ ps ++ new
  pub begins : bs ≡ ys ++ q.1
  pub tells_xs : Joins TellsX steps xs
  pub tells_ys : Joins TellsY steps ys
  pub walks : Walks last steps new

pub positions_ok : (fs : List ℕ) (ds : List ℤ) (xs : List ℕ) (ps : List Point) (last : Point) (bs : List ℕ) (q : List Point × List ℕ) → TellsXs fs ds xs → positions_said fs ds ps last bs ≡ Ok q → Walked fs xs ps last bs q
positions_ok [] [] xs ps last bs q t e =
    let s : (ps, bs) ≡ q = cc in
    let s0 : ps ≡ q.0 = ap (λ (x : List Point × List ℕ). x.0) s in
    record {
      steps = [];
      new = [];
      ys = [];
      flags_are = refl;
      points_are = sym s0 ∙ sym (append-nil ps);
      begins = ap (λ (x : List Point × List ℕ). x.1) s;
      tells_xs = t;
      tells_ys = refl;
      walks = refl;
    }
positions_ok [] (d ∷ ds) xs ps last bs q t e = absurd t
positions_ok (f ∷ fs) [] xs ps last bs q t e = absurd t
positions_ok (f ∷ fs) (d ∷ ds) xs ps last bs q t e =
    let g = then_accepted (position_said last f d bs) (λ (s : Point × List ℕ). positions_said fs ds (ps ++ s.0 ∷ []) s.0 s.1) q e in
    let next = g.0.0 in
    let h = position_ok last f d bs g.0 g.1 in
    let i = positions_ok fs ds t.1 (ps ++ next ∷ []) next g.0.1 q t.4 g.2 in
    record {
      steps = record { flag = f; dx = d; dy = h.dy } ∷ i.steps;
      new = next ∷ i.new;
      ys = h.bytes ++ i.ys;
      flags_are = ap (λ (x : List ℕ). f ∷ x) i.flags_are;
      points_are = i.points_are ∙ append_assoc ps (next ∷ []) i.new;
      begins = two_pieces bs h.bytes i.ys g.0.1 q.1 h.begins i.begins;
      tells_xs = (t.0, t.1, t.2, t.3, i.tells_xs);
      tells_ys = (h.bytes, i.ys, refl, h.tells, i.tells_ys);
      walks =
          (i.new, ap (λ (x : Point). x ∷ i.new) (sym h.next_is), h.x_in_range, h.y_in_range, subst (λ (x : Point). Walks x i.steps i.new) (sym h.next_is) i.walks);
    }

pub positions_at : (steps : List Step) (new ps : List Point) (last : Point) (p rest : List ℕ) → Joins TellsY steps p → Walks last steps new → positions_said (map (λ s. s.flag) steps) (map (λ s. s.dx) steps) ps last (p ++ rest) ≡ Ok (ps ++ new, rest)
positions_at [] new ps last p rest h k = rw (h, k, append-nil ps)
positions_at (s ∷ steps) new ps last p rest h k =
    let next = next_point last s.flag s.dx s.dy in
    let w = piece_first p h.0 h.1 rest h.2 in
    let r : position_said last s.flag s.dx (p ++ rest) ≡ Ok (next, h.1 ++ rest) =
    ap (position_said last s.flag s.dx) w ∙ position_at last s h.0 (h.1 ++ rest) h.3 k.2 k.3
    in
    let i = positions_at steps k.0 (ps ++ next ∷ []) next h.1 rest h.4 k.4 in
    let j : (ps ++ next ∷ []) ++ k.0 ≡ ps ++ new = append_assoc ps (next ∷ []) k.0 ∙ ap (λ (x : List Point). ps ++ x) (sym k.1) in
    rw r (i ∙ ap (λ (x : List Point). Ok (x, rest)) j)
