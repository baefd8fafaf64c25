-- The glyphs of a table as they are read, one bit of the bitmap after the other.
use Rattle.std.proofs.Common.{◌≡◌, ℕ, ◌+◌, ◌*◌, ◌<◌, ◌≤◌, Bool, false, List, [], ◌∷◌, ◌++◌, length, get_or, take, drop, Ok, Err, Option, Result, unwrap_or, sym, ap, ◌∙◌, arith, MatchResult}
use Rattle.std.proofs.lemmas.List.{drop_more, get_or-take, length_push, length-take}
use Rattle.std.proofs.lemmas.Option.{slice_get-get_or}
use Rattle.std.specs.List.{slice_get}
use Rattle.glyph.specs.Causes.{at_glyph}
use Rattle.glyph.specs.Glyphs.{components_of, ends_of, Glyph, instructions_of, points_of}
use Rattle.glyph.specs.Laying.{laid}
use Rattle.glyph.specs.Records.{behind, needed, record_of}
use Rattle.glyph.specs.declared.places.Places.{Places}
use Rattle.glyph.specs.declared.refusal.Refusal.{Refusal}
use Rattle.read.specs.Answers.{then}
use Rattle.woff2.proofs.Bitmaps.{bits_length}
use Rattle.woff2.specs.Bits.{bits}
use Rattle.unpack.specs.Contents.{Contents, SameLent}
use Rattle.unpack.specs.Glyphs.{glyph_said, glyphs_said}
use Rattle.unpack.specs.Rests.{Rest}
use Rattle.unpack.specs.Runs.{RunLaid}
use Rattle.unpack.specs.Taken.{GlyphLaid}
use Rattle.unpack.specs.declared.slots.Slots.{Slots}
use Rattle.unpack.proofs.Judged.{same_ok, told}
use Rattle.unpack.proofs.Runs.{needed_push, run_more}

-- The glyphs that were read so far.
pub record SoFar (bits : List Bool) (s₀ s : Rest) (i : ℕ) (at : Places) (before now : Contents) : Type 0 where
  pub gs : List Glyph
  pub count : length gs ≡ i
  pub places : at ≡ needed gs
  pub run : RunLaid gs before now
  pub few_ends : at.ends ≤ 65535 * i
  pub few_points : at.points ≤ 65535 * i
  pub few_hints : at.instructions ≤ 65535 * i
  pub few_parts : at.components + length s.composites ≤ length s₀.composites
  pub same : glyphs_said bits [] s₀ ≡ glyphs_said (drop i bits) gs s

-- The same lists are lent through two steps.
pub same_through : {a b c : Slots} → SameLent a b → SameLent b c → SameLent a c
same_through first second =
    record {
      records = second.records ∙ first.records;
      ends = second.ends ∙ first.ends;
      points = second.points ∙ first.points;
      components = second.components ∙ first.components;
      instructions = second.instructions ∙ first.instructions;
    }

-- The bit of glyph `i`.
pub bit_here : (bm : List ℕ) (n i idx : ℕ) (boxed : Bool) → idx ≡ i → i < n → n ≤ 8 * length bm → boxed ≡ unwrap_or (slice_get (bits bm) idx) false → drop i (take n (bits bm)) ≡ boxed ∷ drop (i + 1) (take n (bits bm))
bit_here bm n i idx boxed is_idx low room is_bit =
    let long : i < length (bits bm) = omega (arith, bits_length bm) in
    let inside : i < length (take n (bits bm)) = omega (arith, length-take n (bits bm), bits_length bm) in
    let here : get_or (take n (bits bm)) i false ≡ boxed =
    get_or-take n (bits bm) i false low
    ∙ sym
    (is_bit
    ∙ (ap (λ (k : ℕ). unwrap_or (slice_get (bits bm) k) false) is_idx ∙ ap (λ (o : Option Bool). unwrap_or o false) (slice_get-get_or (bits bm) i false long)))
    in
    drop_more (take n (bits bm)) i false inside ∙ ap (λ (b : Bool). b ∷ drop (i + 1) (take n (bits bm))) here

module _ (bits : List Bool) (s₀ s s' : Rest) (i : ℕ) (boxed : Bool) (at next : Places) (before now after : Contents)
    (here : drop i bits ≡ boxed ∷ drop (i + 1) bits) (so_far : SoFar bits s₀ s i at before now) where
  -- A turn of the loop: glyph `i` was read.
  pub one_more : MatchResult (at_glyph i (glyph_said boxed s)) (λ p. (◌≡◌ {A = Result Places Refusal} (Ok next) (Ok (behind at p.0))) × (s' ≡ p.1) × GlyphLaid at p.0 now after × (at.points + length (points_of p.0) ≤ length now.points → after.records ≡ laid i (record_of at p.0 ∷ []) now.records) × (length s'.composites + length (components_of p.0) ≤ length s.composites) × (length (ends_of p.0) ≤ 65535) × (length (points_of p.0) ≤ 65535) × (length (instructions_of p.0) ≤ 65535)) (λ e. ◌≡◌ {A = Result Places Refusal} (Ok next) (Err e)) → SoFar bits s₀ s' (i + 1) next before after
  one_more h =
      let a = told {A = Glyph × Rest} {B = Places} {E = Refusal} (at_glyph i (glyph_said boxed s)) _ next h in
      let g = a.0.0 in
      let gs = so_far.gs in
      let facts = a.2 in
      let is_next : next ≡ behind at g = same_ok _ _ facts.0 in
      let numbered : at_glyph (length gs) (glyph_said boxed s) ≡ Ok (g, a.0.1) = ap (λ (k : ℕ). at_glyph k (glyph_said boxed s)) so_far.count ∙ a.1 in
      record {
        gs = gs ++ g ∷ [];
        count = length_push gs g ∙ ap (λ (k : ℕ). k + 1) so_far.count;
        places = is_next ∙ (ap (λ (p : Places). behind p g) so_far.places ∙ needed_push gs g);
        run =
            run_more gs g i at so_far.count so_far.places before now after so_far.run facts.2 facts.3;
        few_ends = omega (arith, so_far.few_ends, ap (λ (p : Places). p.ends) is_next, facts.5);
        few_points = omega (arith, so_far.few_points, ap (λ (p : Places). p.points) is_next, facts.6);
        few_hints = omega (arith, so_far.few_hints, ap (λ (p : Places). p.instructions) is_next, facts.7);
        few_parts = omega (arith, so_far.few_parts, ap (λ (p : Places). p.components) is_next, facts.4);
        same =
            so_far.same
            ∙ (ap (λ (bs : List Bool). glyphs_said bs gs s) here
            ∙ (ap (λ (r : Result (Glyph × Rest) Refusal). then r (λ p. glyphs_said (drop (i + 1) bits) (gs ++ p.0 ∷ []) p.1)) numbered
            ∙ ap (λ (t : Rest). glyphs_said (drop (i + 1) bits) (gs ++ g ∷ []) t) (sym facts.1)));
      }

  -- Glyph `i` was refused.
  pub refused_here : (e : Refusal) → at_glyph i (glyph_said boxed s) ≡ Err e → glyphs_said bits [] s₀ ≡ Err e
  refused_here e h =
      so_far.same
      ∙ (ap (λ (bs : List Bool). glyphs_said bs so_far.gs s) here
      ∙ (ap (λ (k : ℕ). then (at_glyph k (glyph_said boxed s)) (λ p. glyphs_said (drop (i + 1) bits) (so_far.gs ++ p.0 ∷ []) p.1)) so_far.count
      ∙ ap (λ (r : Result (Glyph × Rest) Refusal). then r (λ p. glyphs_said (drop (i + 1) bits) (so_far.gs ++ p.0 ∷ []) p.1)) h))
