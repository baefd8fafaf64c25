-- Lists pass the test exactly where they hold glyphs, and they hold at most one list of them.
use Rattle.std.proofs.Common.{◌≡◌, ℕ, ◌≤◌, Bool, true, leb, List, [], ◌∷◌, map, length, take, vec_items, sym, refl, ap, ◌∙◌, arith, le-leb, leb-true}
use Rattle.std.proofs.lemmas.List.{length-map, length-take}
use Rattle.std.specs.List.{flat_map, AllByRecursion}
use Rattle.binary.specs.declared.BoundingBox.{BoundingBox}
use Rattle.glyph.specs.Glyphs.{box_of, components_of, ends_of, Glyph, instructions_of, kind_of, points_of}
use Rattle.glyph.specs.Parts.{held as cut}
use Rattle.glyph.specs.Records.{behind, part, places, record_of, records_of, start}
use Rattle.glyph.specs.declared.component.Component.{Component}
use Rattle.glyph.specs.declared.lists.GlyphKind.{GlyphKind}
use Rattle.glyph.specs.declared.lists.GlyphRecord.{GlyphRecord}
use Rattle.glyph.specs.declared.lists.Lists.{Lists}
use Rattle.glyph.specs.declared.lists.Part.{Part}
use Rattle.glyph.specs.declared.lists.Point.{Point}
use Rattle.glyph.specs.declared.places.Places.{Places}
use Rattle.std.proofs.lemmas.Bool.{and_from}
use Rattle.read.proofs.Tests.{both_true}
use Rattle.held.specs.Held.{ListsHold, TellsHeld}
use Rattle.held.specs.Sound.{Sound}
use Rattle.held.specs.Tests.{glyph_sound, held, lies, parts_lie, past, record_held, records_held}
use Rattle.held.proofs.Lying.{Lies, lies_join, lies_passes, lies_split, part_lies}
use Rattle.held.proofs.Rules.{glyph_again, glyph_by, passed, passes}

-- Lists of ends, points, components and instructions lie in the caller's lists from `at` on.
pub record Lie (at : Places) (ls : Lists) (es : List ℕ) (ps : List Point) (cs : List Component) (hs : List ℕ) : Type 0 where
  pub ends : Lies at.ends (vec_items ls.ends) es
  pub points : Lies at.points (vec_items ls.points) ps
  pub components : Lies at.components (vec_items ls.components) cs
  pub instructions : Lies at.instructions (vec_items ls.instructions) hs

abbrev GlyphLies : Places → Lists → Glyph → Type 0
GlyphLies at ls g = Lie at ls (ends_of g) (points_of g) (components_of g) (instructions_of g)

abbrev GlyphsLie : Places → Lists → List Glyph → Type 0
GlyphsLie at ls gs = Lie at ls (flat_map ends_of gs) (flat_map points_of gs) (flat_map components_of gs) (flat_map instructions_of gs)

abbrev record_by : GlyphKind → BoundingBox → Part → Part → Part → Part → GlyphRecord
record_by k b e p c i =
    record { kind = k; bbox = b; ends = e; points = p; components = c; instructions = i }

module _ (ls : Lists) where
  abbrev xe : List ℕ
  xe = vec_items ls.ends

  abbrev xp : List Point
  xp = vec_items ls.points

  abbrev xc : List Component
  xc = vec_items ls.components

  abbrev xh : List ℕ
  xh = vec_items ls.instructions

  -- The glyph of a record.
  abbrev glyph_from : GlyphRecord → Glyph
  glyph_from r = glyph_by r.kind r.bbox (cut r.ends xe) (cut r.points xp) (cut r.components xc) (cut r.instructions xh)

  -- A record that passes is the record of its glyph, which lies there and is sound.
  record_passed : (at : Places) (r : GlyphRecord) → record_held at r ls ≡ true → (r ≡ record_of at (glyph_from r)) × GlyphLies at ls (glyph_from r) × Sound (glyph_from r)
  record_passed at r h =
      let g = glyph_from r in
      let b0 = both_true (parts_lie at r ls) _ h in
      let b1 = both_true (lies at.ends r.ends xe) _ b0.0 in
      let b2 = both_true (lies at.points r.points xp) _ b1.1 in
      let b3 = both_true (lies at.components r.components xc) (lies at.instructions r.instructions xh) b2.1 in
      let i = passed r.kind r.bbox (cut r.ends xe) (cut r.points xp) (cut r.components xc) (cut r.instructions xh) b0.1 in
      let e = part_lies at.ends r.ends xe (ends_of g) b1.0 i.ends_are in
      let p = part_lies at.points r.points xp (points_of g) b2.0 i.points_are in
      let c = part_lies at.components r.components xc (components_of g) b3.0 i.parts_are in
      let k = part_lies at.instructions r.instructions xh (instructions_of g) b3.1 i.hints_are in
      let q = record_of at g in
      let same : record_by r.kind r.bbox r.ends r.points r.components r.instructions ≡ record_by q.kind q.bbox q.ends q.points q.components q.instructions = cc (i.kind_is, i.box_is, e.0, p.0, c.0, k.0) in (
        same,
        record { ends = e.1; points = p.1; components = c.1; instructions = k.1 },
        i.sound,
      )

  module _ (at : Places) (g : Glyph) (there : GlyphLies at ls g) where
    -- What the parts of its record hold is the glyph's own.
    own : {R : Type 0} (f : List ℕ → List Point → List Component → List ℕ → R) → f (cut (part at.ends (length (ends_of g))) xe) (cut (part at.points (length (points_of g))) xp) (cut (part at.components (length (components_of g))) xc) (cut (part at.instructions (length (instructions_of g))) xh) ≡ f (ends_of g) (points_of g) (components_of g) (instructions_of g)
    own {R} f = cc (there.ends.1, there.points.1, there.components.1, there.instructions.1)

    glyph_of_record : glyph_from (record_of at g) ≡ g
    glyph_of_record = own (glyph_by (kind_of g) (box_of g)) ∙ glyph_again g

    -- The record of a sound glyph that lies there passes.
    record_passes : Sound g → record_held at (record_of at g) ls ≡ true
    record_passes s =
        and_from (parts_lie at (record_of at g) ls) _
        (and_from _ _ (lies_passes at.ends xe (ends_of g) there.ends)
        (and_from _ _ (lies_passes at.points xp (points_of g) there.points)
        (and_from _ _ (lies_passes at.components xc (components_of g) there.components) (lies_passes at.instructions xh (instructions_of g) there.instructions))))
        (own (glyph_sound (kind_of g) (box_of g)) ∙ passes g s)

  -- One glyph more in front.
  lie_more : (at : Places) (g : Glyph) (gs : List Glyph) → GlyphLies at ls g → GlyphsLie (behind at g) ls gs → GlyphsLie at ls (g ∷ gs)
  lie_more at g gs h k =
      record {
        ends = lies_join at.ends xe (ends_of g) (flat_map ends_of gs) h.ends k.ends;
        points = lies_join at.points xp (points_of g) (flat_map points_of gs) h.points k.points;
        components = lies_join at.components xc (components_of g) (flat_map components_of gs) h.components k.components;
        instructions = lies_join at.instructions xh (instructions_of g) (flat_map instructions_of gs) h.instructions k.instructions;
      }

  lie_less : (at : Places) (g : Glyph) (gs : List Glyph) → GlyphsLie at ls (g ∷ gs) → GlyphLies at ls g × GlyphsLie (behind at g) ls gs
  lie_less at g gs h =
      let e = lies_split at.ends xe (ends_of g) (flat_map ends_of gs) h.ends in
      let p = lies_split at.points xp (points_of g) (flat_map points_of gs) h.points in
      let c = lies_split at.components xc (components_of g) (flat_map components_of gs) h.components in
      let i = lies_split at.instructions xh (instructions_of g) (flat_map instructions_of gs) h.instructions in
      (record { ends = e.0; points = p.0; components = c.0; instructions = i.0 }, record { ends = e.1; points = p.1; components = c.1; instructions = i.1 })

  -- Nothing lies behind a glyph that lies there.
  nothing_behind : (at : Places) (g : Glyph) → GlyphLies at ls g → GlyphsLie (behind at g) ls []
  nothing_behind at g h =
      let e = h.ends.0 in
      let p = h.points.0 in
      let c = h.components.0 in
      let i = h.instructions.0 in
      record {
        ends = (omega arith, refl);
        points = (omega arith, refl);
        components = (omega arith, refl);
        instructions = (omega arith, refl);
      }

  -- Records that pass are those of their glyphs.
  records_passed : (at : Places) (rs : List GlyphRecord) → GlyphsLie at ls [] → records_held at rs ls ≡ true → (rs ≡ records_of at (map glyph_from rs)) × GlyphsLie at ls (map glyph_from rs) × AllByRecursion Sound (map glyph_from rs)
  records_passed at [] room h = (refl, room, tt)
  records_passed at (r ∷ rs) room h =
      let g = glyph_from r in
      let b = both_true (record_held at r ls) (records_held (past r) rs ls) h in
      let one = record_passed at r b.0 in
      let rest : records_held (behind at g) rs ls ≡ true = sym (ap (λ (x : GlyphRecord). records_held (past x) rs ls) one.0) ∙ b.1 in
      let more = records_passed (behind at g) rs (nothing_behind at g one.1) rest in (
        ap (λ (x : GlyphRecord). x ∷ rs) one.0 ∙ ap (λ (x : List GlyphRecord). record_of at g ∷ x) more.0,
        lie_more at g (map glyph_from rs) one.1 more.1,
        (one.2, more.2),
      )

  -- The records of sound glyphs pass, and say which glyphs they are.
  records_pass : (at : Places) (gs : List Glyph) → AllByRecursion Sound gs → GlyphsLie at ls gs → (records_held at (records_of at gs) ls ≡ true) × (map glyph_from (records_of at gs) ≡ gs)
  records_pass at [] s h = (refl, refl)
  records_pass at (g ∷ gs) s h =
      let k = lie_less at g gs h in
      let more = records_pass (behind at g) gs s.1 k.1 in (
        and_from (record_held at (record_of at g) ls) (records_held (behind at g) (records_of (behind at g) gs) ls) (record_passes at g k.0 s.0) more.0,
        ap (λ (x : Glyph). x ∷ map glyph_from (records_of (behind at g) gs)) (glyph_of_record at g k.0) ∙ ap (λ (x : List Glyph). g ∷ x) more.1,
      )

  room_at_start : GlyphsLie start ls []
  room_at_start =
      record {
        ends = (omega arith, refl);
        points = (omega arith, refl);
        components = (omega arith, refl);
        instructions = (omega arith, refl);
      }

  module _ (n : ℕ) where
    abbrev rs : List GlyphRecord
    rs = vec_items ls.records

    -- The glyphs of the first records.
    abbrev pub glyphs_in : List Glyph
    glyphs_in = map glyph_from (take n rs)

    passed_holds : held n ls ≡ true → ListsHold n ls glyphs_in
    passed_holds h =
        let b = both_true (leb n (places rs)) (records_held start (take n rs) ls) h in
        let low = leb-true n (places rs) b.0 in
        let all = records_passed start (take n rs) room_at_start b.1 in
        let l : length glyphs_in ≡ n = length-map (take n rs) glyph_from ∙ (length-take n rs ∙ omega arith) in
        let lie = all.1 in
        record {
          count = sym l;
          sound = all.2;
          room = and_from (leb (length glyphs_in) (places rs)) _ (le-leb (length glyphs_in) (places rs) (omega arith))
              (and_from (leb (length (flat_map ends_of glyphs_in)) (places xe)) _ (le-leb (length (flat_map ends_of glyphs_in)) (places xe) (omega (arith, lie.ends.0)))
              (and_from (leb (length (flat_map points_of glyphs_in)) (places xp)) _ (le-leb (length (flat_map points_of glyphs_in)) (places xp) (omega (arith, lie.points.0)))
              (and_from (leb (length (flat_map components_of glyphs_in)) (places xc)) _ (le-leb (length (flat_map components_of glyphs_in)) (places xc) (omega (arith, lie.components.0)))
              (le-leb (length (flat_map instructions_of glyphs_in)) (places xh) (omega (arith, lie.instructions.0))))));
          records = ap (λ (k : ℕ). take k rs) l ∙ all.0;
          ends = lie.ends.1;
          points = lie.points.1;
          components = lie.components.1;
          instructions = lie.instructions.1;
        }

    module _ (gs : List Glyph) (h : ListsHold n ls gs) where
      room_for_all : (n ≤ places rs) × GlyphsLie start ls gs
      room_for_all =
          let b0 = both_true (leb (length gs) (places rs)) _ h.room in
          let b1 = both_true (leb (length (flat_map ends_of gs)) (places xe)) _ b0.1 in
          let b2 = both_true (leb (length (flat_map points_of gs)) (places xp)) _ b1.1 in
          let b3 = both_true (leb (length (flat_map components_of gs)) (places xc)) (leb (length (flat_map instructions_of gs)) (places xh)) b2.1 in
          let c = h.count in (
            omega (arith, leb-true (length gs) (places rs) b0.0),
            record {
              ends = (omega (arith, leb-true (length (flat_map ends_of gs)) (places xe) b1.0), h.ends);
              points = (omega (arith, leb-true (length (flat_map points_of gs)) (places xp) b2.0), h.points);
              components = (omega (arith, leb-true (length (flat_map components_of gs)) (places xc) b3.0), h.components);
              instructions = (omega (arith, leb-true (length (flat_map instructions_of gs)) (places xh) b3.1), h.instructions);
            },
          )

      first_records : take n rs ≡ records_of start gs
      first_records = ap (λ (k : ℕ). take k rs) h.count ∙ h.records

      holds_passes : held n ls ≡ true
      holds_passes =
          let room = room_for_all in
          let all = records_pass start gs h.sound room.1 in
          and_from (leb n (places rs)) (records_held start (take n rs) ls) (le-leb n (places rs) room.0)
          (ap (λ (x : List GlyphRecord). records_held start x ls) first_records ∙ all.0)

      -- Glyphs that are held are those of the first records.
      holds_these : glyphs_in ≡ gs
      holds_these = ap (map glyph_from) first_records ∙ (records_pass start gs h.sound room_for_all.1).1

    pub tells_held : (r : Bool) → r ≡ held n ls → TellsHeld n ls r
    tells_held r e =
        record {
          once = (λ gs hs h k. sym (holds_these gs h) ∙ holds_these hs k);
          passed = (λ t. (glyphs_in, passed_holds (sym e ∙ t)));
          held = (λ gs h. e ∙ holds_passes gs h);
        }
