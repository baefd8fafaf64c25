-- A glyph of each kind, from what was read of each stream.
use Rattle.std.proofs.Common.{◌≡◌, ℕ, ◌≤◌, Bool, true, false, cond, List, [], length, take, drop, Some, None, Ok, Err, Option, Result, sym, refl, ap, ◌∙◌, arith, MatchResult}
use Rattle.binary.specs.declared.BoundingBox.{BoundingBox}
use Rattle.glyph.specs.Bounds.{bounds}
use Rattle.glyph.specs.Glyphs.{simple}
use Rattle.glyph.specs.Laying.{laid}
use Rattle.glyph.specs.declared.lists.GlyphKind.TheVariants.{Simple}
use Rattle.glyph.specs.declared.places.Places.{Places}
use Rattle.glyph.specs.declared.lists.Point.{Point}
use Rattle.read.specs.Answers.{front}
use Rattle.read.specs.declared.error.ParseError.{ParseError}
use Rattle.read.proofs.Thens.{front_is, then_accepted}
use Rattle.std.proofs.lemmas.List.{length-take-le}
use Rattle.unpack.proofs.Judged.{same_ok, told, when_accepted}
use Rattle.unpack.proofs.Lengths.{ends_length, points_length}
use Rattle.unpack.proofs.Rested.{rest, same_rest, same_taken}
use Rattle.unpack.specs.declared.taken.Taken.{Taken}
use Rattle.unpack.specs.Contents.{Contents}
use Rattle.unpack.specs.Glyphs.{box_front, box_or, simple_said}
use Rattle.unpack.specs.Hints.{instructions_said}
use Rattle.unpack.specs.Outlines.{ends_said, points_said}
use Rattle.glyph.specs.Outlines.{origin}
use Rattle.unpack.specs.Rests.{Rest}
use Rattle.unpack.specs.Taken.{box_field, GlyphRead, taken_by}

module _ (boxed : Bool) (c : ℕ) (s : Rest) (e : List ℕ × ℕ × List ℕ) (f : List ℕ × List ℕ) (p : List Point × List ℕ)
    (ends : ends_said c [] 0 s.points ≡ Ok e) (flags : front e.1 s.flags ≡ Ok f) (points : points_said f.0 [] origin s.glyphs ≡ Ok p) where
  module _ (i : List ℕ × List ℕ × List ℕ) (hints : instructions_said p.1 s.instructions ≡ Ok i) where
    pub simple_read : (b : BoundingBox × List ℕ) → box_or boxed (bounds p.0) s.boxes ≡ Ok b → simple_said boxed c s ≡ Ok (simple b.0 e.0 p.0 i.0, record { contours = s.contours; points = e.2; flags = f.1; glyphs = i.1; composites = s.composites; boxes = b.1; instructions = i.2 })
    simple_read b h = rw (ends, flags, points, hints, h) refl

-- A glyph's own box, as each kind takes it.
module _ (given : BoundingBox) (bs : List ℕ) where
  pub box_or_own : (boxed : Bool) (q : Option BoundingBox × List ℕ) → box_field boxed bs ≡ Ok q → (b : BoundingBox × List ℕ) × (box_or boxed given bs ≡ Ok b) × (q.0 ≡ cond boxed (Some b.0) None) × (q.1 ≡ b.1)
  box_or_own true q h =
      let a = then_accepted (box_front bs) (λ p. Ok (Some p.0, p.1)) q h in
      let e = a.2 in
      (a.0, a.1, cc, cc)
  box_or_own false q h = ((given, bs), refl, cc, cc)

-- A simple glyph that was read and laid.
module _ (boxed : Bool) (c : ℕ) (s s' : Rest) (at : Places) (count n hints : ℕ) (bbox : Option BoundingBox) (fs g1 : List ℕ) (before after : Contents) where
  abbrev simple_taken : Taken
  simple_taken =
      record { kind = Simple; bbox = bbox; ends = c; points = count; components = 0; instructions = hints }

  pub simple_answer : MatchResult (ends_said c [] 0 s.points) (λ p. (◌≡◌ {A = Result ℕ ParseError} (Ok count) (Ok p.1)) × (s'.points ≡ p.2) × (after.ends ≡ laid at.ends p.0 before.ends)) (λ e. ◌≡◌ {A = Result ℕ ParseError} (Ok count) (Err e)) → n ≡ count → (n ≤ length s.flags) × (fs ≡ take n s.flags) × (s'.flags ≡ drop n s.flags) → MatchResult (points_said fs [] origin s.glyphs) (λ p. (◌≡◌ {A = Result Unit ParseError} (Ok tt) (Ok tt)) × (g1 ≡ p.1) × (after.points ≡ laid at.points p.0 before.points)) (λ e. ◌≡◌ {A = Result Unit ParseError} (Ok tt) (Err e)) → MatchResult (instructions_said g1 s.instructions) (λ p. (◌≡◌ {A = Result ℕ ParseError} (Ok hints) (Ok (length p.0))) × (s'.glyphs ≡ p.1) × (s'.instructions ≡ p.2) × (after.instructions ≡ laid at.instructions p.0 before.instructions)) (λ e. ◌≡◌ {A = Result ℕ ParseError} (Ok hints) (Err e)) → MatchResult (box_field boxed s.boxes) (λ p. (◌≡◌ {A = Result (Option BoundingBox) ParseError} (Ok bbox) (Ok p.0)) × (s'.boxes ≡ p.1)) (λ e. ◌≡◌ {A = Result (Option BoundingBox) ParseError} (Ok bbox) (Err e)) → s'.contours ≡ s.contours → s'.composites ≡ s.composites → after.components ≡ before.components → after.records ≡ before.records → GlyphRead boxed (simple_said boxed c s) at s s' before after (Ok simple_taken)
  simple_answer h1 same t h2 h3 h4 kept_contours kept_composites same_parts same_records =
      let a = told _ _ _ h1 in
      let d = told _ _ _ h2 in
      let i = told _ _ _ h3 in
      let q = told _ _ _ h4 in
      let told_count : count ≡ a.0.1 = same_ok _ _ a.2.0 in
      let told_hints : hints ≡ length i.0.0 = same_ok _ _ i.2.0 in
      let told_box : bbox ≡ q.0.0 = same_ok _ _ q.2.0 in
      let flags = front_is n a.0.1 s.flags fs s'.flags (same ∙ told_count) t.0 t.1 t.2 in
      let b = box_or_own (bounds d.0.0) s.boxes boxed q.0 q.1 in
      let read = ap (λ (g : List ℕ). instructions_said g s.instructions) (sym d.2.1) ∙ i.1 in
      let e = simple_read boxed c s a.0 (fs, s'.flags) d.0 a.1 flags d.1 i.0 read b.0 b.1 in
      let as_many_ends : c ≡ length a.0.0 = omega (arith, ends_length c [] 0 s.points a.0 a.1) in
      let as_many_flags : length fs ≡ n = ap length t.1 ∙ length-take-le n s.flags t.0 in
      let as_many_points : count ≡ length d.0.0 = omega (arith, points_length fs [] origin s.glyphs d.0 d.1) in
      let glyph = simple b.0.0 a.0.0 d.0.0 i.0.0 in
      when_accepted _ _ _ _ e (
        ap Ok (same_taken simple_taken (taken_by boxed glyph) refl (told_box ∙ b.2) as_many_ends as_many_points refl told_hints),
        same_rest s' (rest s.contours a.0.2 s'.flags i.0.1 s.composites b.0.1 i.0.2) kept_contours a.2.1 refl i.2.1 kept_composites (q.2.1 ∙ b.3) i.2.2,
        record { ends_laid = a.2.2; points_laid = d.2.2; components_laid = same_parts; hints_laid = i.2.3 },
        same_records,
        omega (arith, ap length kept_composites),
      )
