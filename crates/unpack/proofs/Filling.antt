-- Glyphs that were measured, and glyphs that were laid, fill the lists.
use Rattle.std.proofs.Common.{◌≡◌, ℕ, ◌+◌, ◌*◌, ◌≤◌, Bool, true, false, leb, List, [], ◌∷◌, ◌++◌, length, Ok, Err, vec_items, Result, sym, refl, ap, ◌∙◌, arith, leb-true}
use Rattle.std.proofs.lemmas.List.{length_push, length-take}
use Rattle.std.specs.List.{flat_map}
use Rattle.glyph.proofs.Lays.{laid_fills}
use Rattle.glyph.specs.Causes.{at_glyph, too_short}
use Rattle.glyph.specs.Glyphs.{components_of, ends_of, Glyph, instructions_of, points_of}
use Rattle.glyph.specs.Laying.{filled, laid}
use Rattle.glyph.specs.Records.{Fills, fitting, has_room, needed, places, ReadInto, records_of, room_for, start}
use Rattle.glyph.specs.declared.lists.Lists.{Lists}
use Rattle.glyph.specs.declared.places.Places.{Places}
use Rattle.glyph.specs.declared.refusal.Refusal.{Refusal}
use Rattle.read.proofs.Tests.{both_true}
use Rattle.read.proofs.Thens.{then_accepted}
use Rattle.read.specs.Answers.{then}
use Rattle.woff2.proofs.Bitmaps.{bits_length}
use Rattle.woff2.specs.Bits.{bits}
use Rattle.woff2.specs.declared.table.TransformedGlyphTable.{TransformedGlyphTable}
use Rattle.unpack.specs.Glyphs.{glyph_said, glyphs_said}
use Rattle.unpack.specs.Rests.{Rest}
use Rattle.unpack.specs.Runs.{glyphs_in, ListsLaid, table_bits, table_streams}
use Rattle.glyph.proofs.Records.{records_length}

-- A glyph for each bit.
pub glyphs_length : (bs : List Bool) (gs : List Glyph) (s : Rest) (all : List Glyph) → glyphs_said bs gs s ≡ Ok all → length all ≡ length gs + length bs
glyphs_length [] gs s all h = let e : gs ≡ all = cc in omega (arith, ap length e)
glyphs_length (b ∷ bs) gs s all h =
    let a = then_accepted (at_glyph (length gs) (glyph_said b s)) (λ p. glyphs_said bs (gs ++ p.0 ∷ []) p.1) all h in
    let l = glyphs_length bs (gs ++ a.0.0 ∷ []) a.0.1 all a.2 in
    omega (arith, length_push gs a.0.0)

pub as_many : (t : TransformedGlyphTable) (gs : List Glyph) → t.header.num_glyphs ≤ 8 * length t.bbox_bitmap.bytes.now → glyphs_in t ≡ Ok gs → t.header.num_glyphs ≡ length gs
as_many t gs long h =
    let bm = t.bbox_bitmap.bytes.now in
    let l = glyphs_length (table_bits t) [] (table_streams t) gs h in
    omega (arith, length-take t.header.num_glyphs (bits bm), bits_length bm)

-- What has room fills the list.
fills_list : {A : Type 0} (new old after : List A) → leb (length new) (places old) ≡ true → after ≡ laid 0 new old → after ≡ filled new old
fills_list new old after room put =
    put ∙ laid_fills new old (omega (arith, leb-true (length new) (places old) room))

pub fills : (gs : List Glyph) (ls ls' : Lists) → has_room gs ls ≡ true → ListsLaid gs ls ls' → Fills gs ls ls'
fills gs ls ls' room put =
    let a = both_true (leb (length gs) (places (vec_items ls.records))) _ room in
    let b = both_true (leb (length (flat_map ends_of gs)) (places (vec_items ls.ends))) _ a.1 in
    let c = both_true (leb (length (flat_map points_of gs)) (places (vec_items ls.points))) _ b.1 in
    let d = both_true (leb (length (flat_map components_of gs)) (places (vec_items ls.components))) _ c.1 in
    let points_inside = leb-true (length (flat_map points_of gs)) (places (vec_items ls.points)) c.0 in
    let one_each : length (records_of start gs) ≡ length gs = records_length start gs in
    let run = put.run in
    record {
      records =
          fills_list (records_of start gs) (vec_items ls.records) (vec_items ls'.records) (ap (λ (n : ℕ). leb n (places (vec_items ls.records))) one_each ∙ a.0) (run.records_laid (omega arith));
      ends = fills_list (flat_map ends_of gs) (vec_items ls.ends) (vec_items ls'.ends) b.0 run.ends_laid;
      points = fills_list (flat_map points_of gs) (vec_items ls.points) (vec_items ls'.points) c.0 run.points_laid;
      components = fills_list (flat_map components_of gs) (vec_items ls.components) (vec_items ls'.components) d.0 run.components_laid;
      instructions = fills_list (flat_map instructions_of gs) (vec_items ls.instructions) (vec_items ls'.instructions) d.1 run.hints_laid;
      full = put.full;
      tail = put.tail;
    }

-- The answer of a call that measured `gs`, and found no room, or laid them.
module _ (said : Result (List Glyph) Refusal) (gs : List Glyph) (is : said ≡ Ok gs) (n : ℕ) (count : n ≡ length gs) (at : Places) (places_are : at ≡ needed gs) (ls : Lists) where
  room_is : room_for n at ls ≡ has_room gs ls
  room_is =
      ap (λ (k : ℕ). room_for k at ls) count ∙ ap (λ (p : Places). room_for (length gs) p ls) places_are

  pub no_room : room_for n at ls ≡ false → ReadInto (then said (fitting ls)) ls (Err too_short) ls
  no_room h = let short : has_room gs ls ≡ false = sym room_is ∙ h in rw (is, short) (refl, refl)

  pub with_room : (ls' : Lists) → room_for n at ls ≡ true → ListsLaid gs ls ls' → ReadInto (then said (fitting ls)) ls (Ok n) ls'
  with_room ls' h put =
      let room : has_room gs ls ≡ true = sym room_is ∙ h in rw (is, room) (ap Ok count, fills gs ls ls' room put)
