-- The left edge of a glyph that is held is that of its box.
use Rattle.std.proofs.Common.{◌≡◌, ℕ, zero, suc, List, [], ◌∷◌, length, ℤ, Some, vec_items, refl, ap, ◌∙◌, arith}
use Rattle.std.specs.List.{slice_get}
use Rattle.binary.specs.declared.BoundingBox.{BoundingBox}
use Rattle.glyph.proofs.Records.{get_front}
use Rattle.glyph.specs.Glyphs.{box_of, Glyph}
use Rattle.glyph.specs.Records.{behind, record_of, records_of, start}
use Rattle.glyph.specs.declared.lists.GlyphRecord.{GlyphRecord}
use Rattle.glyph.specs.declared.lists.Lists.{Lists}
use Rattle.glyph.specs.declared.places.Places.{Places}
use Rattle.held.specs.Edges.{edge_of, HeldEdge, left_edge}

-- The record of a glyph has its box.
record_there : (at : Places) (gs : List Glyph) (i : ℕ) (g : Glyph) → slice_get gs i ≡ Some g → (r : GlyphRecord) × (slice_get (records_of at gs) i ≡ Some r) × (r.bbox ≡ box_of g)
record_there at [] i g h = let z : ◌≡◌ {A = ℕ} 0 1 = cc in absurd (omega arith)
record_there at (x ∷ gs) zero g h = let e : x ≡ g = cc in (record_of at x, refl, ap box_of e)
record_there at (x ∷ gs) (suc i) g h = record_there (behind at x) gs i g h

pub held_edge : (ls : Lists) (i : ℕ) (z : ℤ) → z ≡ left_edge ls i → HeldEdge ls i z
held_edge ls i z e n gs g h here =
    let rs = vec_items ls.records in
    let there = record_there start gs i g here in
    let found : slice_get rs i ≡ Some there.0 =
    get_front (length gs) i rs there.0 (ap (λ (x : List GlyphRecord). slice_get x i) h.records ∙ there.1)
    in
    e ∙ (ap edge_of found ∙ ap (λ (b : BoundingBox). b.x_min) there.2)
