-- One glyph more.
use Rattle.std.proofs.Common.{◌≡◌, ℕ, zero, suc, ◌+◌, ◌≤◌, Bool, true, false, cond, List, [], ◌∷◌, length, ℤ, pos, negsuc, Some, None, Ok, Err, Result, sym, refl, ap, ◌∙◌, arith, le-leb, MatchResult}
use Rattle.binary.specs.Bytes.{i16_said}
use Rattle.binary.specs.declared.BoundingBox.{BoundingBox}
use Rattle.glyph.proofs.Lays.{laid_held, length_laid}
use Rattle.glyph.specs.Bounds.{bounds}
use Rattle.glyph.specs.Causes.{at_glyph}
use Rattle.glyph.specs.Glyphs.{box_of, components_of, ends_of, Glyph, instructions_of, kind_of, points_of}
use Rattle.glyph.specs.Laying.{laid}
use Rattle.glyph.specs.Records.{behind, part, record_of}
use Rattle.glyph.specs.declared.lists.GlyphRecord.{GlyphRecord}
use Rattle.glyph.specs.declared.lists.Point.{Point}
use Rattle.glyph.specs.declared.places.Places.{Places}
use Rattle.glyph.specs.declared.refusal.Refusal.{Refusal}
use Rattle.read.proofs.Thens.{then_accepted}
use Rattle.read.specs.Answers.{front}
use Rattle.read.specs.declared.error.ParseError.{ParseError}
use Rattle.unpack.specs.Composites.{components_said}
use Rattle.unpack.specs.Contents.{Contents, contents}
use Rattle.unpack.specs.Glyphs.{composite_said, glyph_by, glyph_said, marked_instructions, past_count, simple_said}
use Rattle.unpack.specs.Hints.{instructions_said}
use Rattle.unpack.specs.Outlines.{ends_said, points_said}
use Rattle.glyph.specs.Outlines.{origin}
use Rattle.unpack.specs.Rests.{Rest}
use Rattle.unpack.specs.Taken.{box_by, GlyphLaid, GlyphRead, own_points, record_by, taken_behind, taken_by}
use Rattle.unpack.specs.declared.taken.Taken.{Taken}
use Rattle.unpack.proofs.Judged.{same_ok, told_as, when_accepted}

-- A glyph without a box of its own has the one around its points.
simple_unboxed : (c : ℕ) (s : Rest) (p : Glyph × Rest) → simple_said false c s ≡ Ok p → bounds (points_of p.0) ≡ box_of p.0
simple_unboxed c s p h =
    let a = then_accepted (ends_said c [] 0 s.points) _ p h in
    let b = then_accepted (front a.0.1 s.flags) _ p a.2 in
    let d = then_accepted (points_said b.0.0 [] origin s.glyphs) _ p b.2 in
    let e = then_accepted (instructions_said d.0.1 s.instructions) _ p d.2 in
    let q = same_ok _ _ e.2 in
    ap (λ (g : Glyph × Rest). bounds (points_of g.0)) (sym q) ∙ ap (λ (g : Glyph × Rest). box_of g.0) q

composite_unboxed : (s : Rest) (p : Glyph × Rest) → composite_said false s ≡ Ok p → ⊥
composite_unboxed s p h =
    let a = then_accepted (components_said (suc (length s.composites)) [] false s.composites) _ p h in
    let b = then_accepted (marked_instructions a.0.1 s.glyphs s.instructions) _ p a.2 in
    let e = b.2 in
    let z : ◌≡◌ {A = ℕ} 0 1 = cc in
    omega arith

by_unboxed : (z : ℤ) (s : Rest) (p : Glyph × Rest) → glyph_by false z s ≡ Ok p → bounds (points_of p.0) ≡ box_of p.0
by_unboxed (pos zero) s p h =
    let q = same_ok _ _ h in
    ap (λ (g : Glyph × Rest). bounds (points_of g.0)) (sym q) ∙ ap (λ (g : Glyph × Rest). box_of g.0) q
by_unboxed (pos (suc c)) s p h = simple_unboxed (suc c) s p h
by_unboxed (negsuc zero) s p h = absurd (composite_unboxed s p h)
by_unboxed (negsuc (suc c)) s p h = let z : ◌≡◌ {A = ℕ} 0 1 = cc in absurd (omega arith)

unboxed : (s : Rest) (p : Glyph × Rest) → glyph_said false s ≡ Ok p → bounds (points_of p.0) ≡ box_of p.0
unboxed s p h =
    let a = then_accepted (front 2 s.contours) (λ q. glyph_by false (i16_said q.0) (past_count s q.1)) p h in
    by_unboxed (i16_said a.0.0) (past_count s a.0.1) p a.2

box_is : (boxed : Bool) (s : Rest) (p : Glyph × Rest) → glyph_said boxed s ≡ Ok p → box_by (cond boxed (Some (box_of p.0)) None) (points_of p.0) ≡ box_of p.0
box_is true s p h = refl
box_is false s p h = unboxed s p h

-- What was laid of the points is the glyph's own.
own_held : (at : ℕ) (xs list : List Point) → at + length xs ≤ length list → own_points (laid at xs list) at (length xs) ≡ xs
own_held at xs list room =
    rw (le-leb (at + length xs) (length (laid at xs list)) (omega (arith, length_laid at xs list))) (laid_held at xs list room)

abbrev recorded : Places → Glyph → BoundingBox → GlyphRecord
recorded at g box =
    record {
      kind = kind_of g;
      bbox = box;
      ends = part at.ends (length (ends_of g));
      points = part at.points (length (points_of g));
      components = part at.components (length (components_of g));
      instructions = part at.instructions (length (instructions_of g));
    }

-- The record is the glyph's own, once its points are laid.
record_is : (boxed : Bool) (s : Rest) (p : Glyph × Rest) (at : Places) (points points' : List Point) → glyph_said boxed s ≡ Ok p → points' ≡ laid at.points (points_of p.0) points → at.points + length (points_of p.0) ≤ length points → record_by (taken_by boxed p.0) points' at ≡ record_of at p.0
record_is boxed s p at points points' h put room =
    let g = p.0 in
    let own : own_points points' at.points (length (points_of g)) ≡ points_of g =
    ap (λ (ps : List Point). own_points ps at.points (length (points_of g))) put ∙ own_held at.points (points_of g) points room
    in
    let box : box_by (cond boxed (Some (box_of g)) None) (own_points points' at.points (length (points_of g))) ≡ box_of g =
    ap (box_by (cond boxed (Some (box_of g)) None)) own ∙ box_is boxed s p h
    in
    ap (recorded at g) box

pub numbered : {A : Type 0} (i : ℕ) (r : Result A ParseError) (x : A) → Ok x ≡ at_glyph i r → r ≡ Ok x
numbered i (Ok y) x h = ap Ok (sym (same_ok _ _ h))
numbered i (Err e) x h = let z : ◌≡◌ {A = ℕ} 0 1 = cc in absurd (omega arith)

module _ (boxed : Bool) (i idx : ℕ) (s s' : Rest) (at next : Places) (taken : Taken) (rec : GlyphRecord) (res : Result Taken ParseError) (before mid : Contents) (records : List GlyphRecord) where
  abbrev after : Contents
  after = contents records mid.ends mid.points mid.components mid.instructions

  abbrev GlyphRecorded : Type 0
  GlyphRecorded =
      MatchResult (at_glyph i (glyph_said boxed s))
      (λ p.
      (◌≡◌ {A = Result Places Refusal} (Ok next) (Ok (behind at p.0))) × (s' ≡ p.1) × GlyphLaid at p.0 before after
      × (at.points + length (points_of p.0) ≤ length before.points → after.records ≡ laid i (record_of at p.0 ∷ []) before.records)
      × (length s'.composites + length (components_of p.0) ≤ length s.composites) × (length (ends_of p.0) ≤ 65535)
      × (length (points_of p.0) ≤ 65535) × (length (instructions_of p.0) ≤ 65535))
      (λ e. ◌≡◌ {A = Result Places Refusal} (Ok next) (Err e))

  pub next_answer : GlyphRead boxed (glyph_said boxed s) at s s' before mid res → Ok taken ≡ at_glyph i res → rec ≡ record_by taken mid.points at → idx ≡ i → records ≡ laid idx (rec ∷ []) mid.records → next ≡ taken_behind at taken → taken.ends ≤ 65535 → taken.points ≤ 65535 → taken.instructions ≤ 65535 → GlyphRecorded
  next_answer read given is_rec is_idx put is_next e16 p16 i16 =
      let is_res = numbered i res taken given in
      let a = told_as {A = Glyph × Rest} res taken is_res {s = glyph_said boxed s} read in
      let p = a.0 in
      let is_taken : taken ≡ taken_by boxed p.0 = same_ok _ _ (sym is_res ∙ a.2.0) in
      let laid_so = a.2.2 in
      when_accepted _ _ _ _ (ap (at_glyph i) a.1) (
        ap Ok (is_next ∙ ap (taken_behind at) is_taken),
        a.2.1,
        record { ends_laid = laid_so.ends_laid; points_laid = laid_so.points_laid; components_laid = laid_so.components_laid; hints_laid = laid_so.hints_laid },
        (λ room.
            put
            ∙ (ap (λ (k : ℕ). laid k (rec ∷ []) mid.records) is_idx
            ∙ (ap (laid i (rec ∷ [])) a.2.3
            ∙ ap (λ (x : GlyphRecord). laid i (x ∷ []) before.records)
            (is_rec ∙ (ap (λ (t : Taken). record_by t mid.points at) is_taken ∙ record_is boxed s p at before.points mid.points a.1 laid_so.points_laid room))))),
        a.2.4,
        omega (arith, ap (λ (t : Taken). t.ends) is_taken),
        omega (arith, ap (λ (t : Taken). t.points) is_taken),
        omega (arith, ap (λ (t : Taken). t.instructions) is_taken),
      )
