-- A question shows the glyph that is held at its place.
use Rattle.std.proofs.Common.{◌≡◌, ℕ, zero, suc, ◌+◌, ◌<◌, ◌≤◌, Bool, true, false, ltb, List, [], ◌∷◌, ◌++◌, length, take, drop, Some, None, vec_items, MatchBool, Option, sym, refl, ap, ◌∙◌, subst, arith, le-ltb, lt-ltb, le-leb, MatchOption}
use Rattle.std.proofs.lemmas.List.{append_assoc, drop_at, length-append, take-append-drop, take_at}
use Rattle.std.specs.List.{slice_get, flat_map}
use Rattle.std.proofs.lemmas.Grind.{flat_map-append}
use Rattle.std.proofs.lemmas.Option.{slice_get_cases}
use Rattle.glyph.proofs.Records.{get_front}
use Rattle.glyph.specs.Glyphs.{components_of, ends_of, Glyph, instructions_of, points_of}
use Rattle.glyph.specs.Records.{behind, needed, part, record_of, records_of, start}
use Rattle.glyph.specs.declared.lists.GlyphRecord.{GlyphRecord}
use Rattle.glyph.specs.declared.lists.Lists.{Lists}
use Rattle.glyph.specs.declared.places.Places.{Places}
use Rattle.unpack.proofs.Runs.{behind_all, needed_behind}
use Rattle.forme.specs.Held.{Holds, Shows, ShowsGlyph}
use Rattle.glyph.specs.Parts.{held, inside}
use Rattle.glyph.specs.Views.{parts_inside, Shown, Viewed}
use Rattle.forme.specs.Views.{Asked}
use Rattle.forme.specs.declared.forme.Forme.{Forme}
use Rattle.glyph.specs.declared.view.GlyphView.{GlyphView}

-- The place of a glyph: the glyphs before it, itself, and those behind.
split : (gs : List Glyph) (i : ℕ) (g : Glyph) → slice_get gs i ≡ Some g → (before : List Glyph) × (after : List Glyph) × (gs ≡ before ++ g ∷ after) × (length before ≡ i)
split [] i g h = let z : ◌≡◌ {A = ℕ} 0 1 = cc in absurd (omega arith)
split (x ∷ gs) zero g h = let e : x ≡ g = cc in ([], gs, ap (λ (y : Glyph). y ∷ gs) e, refl)
split (x ∷ gs) (suc i) g h =
    let s = split gs i g h in
    (x ∷ s.0, s.1, ap (λ (ys : List Glyph). x ∷ ys) s.2, ap suc s.3)

-- The record of a glyph behind others.
record_there : (at : Places) (before : List Glyph) (g : Glyph) (after : List Glyph) → slice_get (records_of at (before ++ g ∷ after)) (length before) ≡ Some (record_of (behind_all at before) g)
record_there at [] g after = refl
record_there at (x ∷ before) g after = record_there (behind at x) before g after

module _ {A : Type 0} (f : Glyph → List A) where
  module _ (gs before after : List Glyph) (g : Glyph) (list : List A) (cut : gs ≡ before ++ g ∷ after) (front : take (length (flat_map f gs)) list ≡ flat_map f gs) where
    -- The list is what the glyphs before have, what the glyph has, and the rest.
    list_is : list ≡ flat_map f before ++ (f g ++ (flat_map f after ++ drop (length (flat_map f gs)) list))
    list_is =
        let whole : list ≡ flat_map f gs ++ drop (length (flat_map f gs)) list = sym (take-append-drop (length (flat_map f gs)) list) ∙ ap (λ (xs : List A). xs ++ drop (length (flat_map f gs)) list) front in
        let parts : flat_map f gs ≡ flat_map f before ++ (f g ++ flat_map f after) = ap (flat_map f) cut ∙ flat_map-append f before (g ∷ after) in
        let rest = drop (length (flat_map f gs)) list in
        whole
        ∙ (ap (λ (xs : List A). xs ++ rest) parts
        ∙ (append_assoc (flat_map f before) (f g ++ flat_map f after) rest
        ∙ ap (λ (xs : List A). flat_map f before ++ xs) (append_assoc (f g) (flat_map f after) rest)))

    held_there : held (part (length (flat_map f before)) (length (f g))) list ≡ f g
    held_there =
        let rest = flat_map f after ++ drop (length (flat_map f gs)) list in
        ap (λ (xs : List A). take (length (f g)) (drop (length (flat_map f before)) xs)) list_is
        ∙ (ap (take (length (f g))) (drop_at (flat_map f before) (f g ++ rest) (length (flat_map f before)) refl) ∙ take_at (f g) rest (length (f g)) refl)

    inside_there : inside (part (length (flat_map f before)) (length (f g))) list ≡ true
    inside_there =
        let rest = flat_map f after ++ drop (length (flat_map f gs)) list in
        let long = ap length list_is in
        let a = length-append (flat_map f before) (f g ++ rest) in
        let b = length-append (f g) rest in
        le-leb (length (flat_map f before) + length (f g)) (length list) (omega arith)

nth_none : {A : Type 0} (xs : List A) (i : ℕ) → slice_get xs i ≡ None → length xs ≤ i
nth_none xs i h = grind (arith, slice_get_cases)

module _ (f : Forme) (ls : Lists) (gs : List Glyph) (held_All : Holds f ls gs) (i : ℕ) where
  -- Past the last glyph.
  past : (o : Option GlyphView) → slice_get gs i ≡ None → Asked f ls i o → o ≡ None
  past o none h =
      let low : f.glyphs ≤ i = omega (arith, held_All.count, nth_none gs i none) in
      by (ltb i f.glyphs) (le-ltb i f.glyphs low) h
    where
      by : (b : Bool) → b ≡ false → MatchBool b (MatchOption (slice_get (vec_items ls.records) i) (o ≡ None) (λ r. Shown r ls o)) (o ≡ None) → o ≡ None
      by true e k = let z : ◌≡◌ {A = ℕ} 0 1 = cc in absurd (omega arith)
      by false e k = k

  module _ (g : Glyph) (here : slice_get gs i ≡ Some g) where
    -- The record at the glyph's place is its own.
    record_here : (before after : List Glyph) → gs ≡ before ++ g ∷ after → length before ≡ i → slice_get (vec_items ls.records) i ≡ Some (record_of (needed before) g)
    record_here before after cut long =
        get_front (length gs) i (vec_items ls.records) (record_of (needed before) g)
        (ap (λ (rs : List GlyphRecord). slice_get rs i) held_All.records
        ∙ (ap (λ (xs : List Glyph). slice_get (records_of start xs) i) cut
        ∙ (ap (λ (k : ℕ). slice_get (records_of start (before ++ g ∷ after)) k) (sym long)
        ∙ (record_there start before g after ∙ ap (λ (at : Places). Some (record_of at g)) (needed_behind before)))))

    -- All parts of the record lie inside their lists.
    all_inside : (before after : List Glyph) → gs ≡ before ++ g ∷ after → parts_inside (record_of (needed before) g) ls ≡ true
    all_inside before after cut =
        rw (
          inside_there ends_of gs before after g (vec_items ls.ends) cut held_All.ends,
          inside_there points_of gs before after g (vec_items ls.points) cut held_All.points,
          inside_there components_of gs before after g (vec_items ls.components) cut held_All.components,
        )
        (inside_there instructions_of gs before after g (vec_items ls.instructions) cut held_All.instructions)

    viewed_shows : (before after : List Glyph) → gs ≡ before ++ g ∷ after → (v : GlyphView) → Viewed (record_of (needed before) g) ls v → Shows g v
    viewed_shows before after cut v s =
        record {
          kind = s.kind;
          bbox = s.bbox;
          ends = s.ends ∙ held_there ends_of gs before after g (vec_items ls.ends) cut held_All.ends;
          points = s.points ∙ held_there points_of gs before after g (vec_items ls.points) cut held_All.points;
          components = s.components ∙ held_there components_of gs before after g (vec_items ls.components) cut held_All.components;
          instructions = s.instructions ∙ held_there instructions_of gs before after g (vec_items ls.instructions) cut held_All.instructions;
        }

    shown_view : (r : GlyphRecord) (o : Option GlyphView) → ((v : GlyphView) → Viewed r ls v → Shows g v) → MatchOption o ⊥ (λ v. Viewed r ls v) → MatchOption o ⊥ (Shows g)
    shown_view r None to k = k
    shown_view r (Some v) to k = to v k

    there : (o : Option GlyphView) → Asked f ls i o → MatchOption o ⊥ (Shows g)
    there o h =
        let s = split gs i g here in
        let before = s.0 in
        let low : i < length gs = omega (arith, ap length s.2, length-append before (g ∷ s.1), s.3) in
        let few : i < f.glyphs = omega (arith, held_All.count) in
        let r = record_of (needed before) g in
        let counted : MatchOption (slice_get (vec_items ls.records) i) (o ≡ None) (λ x. Shown x ls o) = subst (λ (b : Bool). MatchBool b (MatchOption (slice_get (vec_items ls.records) i) (o ≡ None) (λ x. Shown x ls o)) (o ≡ None)) (lt-ltb i f.glyphs few) h in
        let recorded : Shown r ls o = subst (λ (n : Option GlyphRecord). MatchOption n (o ≡ None) (λ x. Shown x ls o)) (record_here before s.1 s.2 s.3) counted in
        let viewed : MatchOption o ⊥ (λ v. Viewed r ls v) = subst (λ (b : Bool). MatchBool b (MatchOption o ⊥ (λ v. Viewed r ls v)) (o ≡ None)) (all_inside before s.1 s.2) recorded in
        shown_view r o (viewed_shows before s.1 s.2) viewed

  pub shows_glyph : (o : Option GlyphView) → Asked f ls i o → ShowsGlyph gs i o
  shows_glyph o h = by (slice_get gs i) refl
    where
      by : (n : Option Glyph) → slice_get gs i ≡ n → MatchOption n (o ≡ None) (λ g. MatchOption o ⊥ (Shows g))
      by None e = past o e h
      by (Some g) e = there g e o h
