-- The left edge of a glyph.
use Rattle.std.specs.Prelude.{◌≡◌, ℕ, List, ℤ, pos, Some, None, vec_items, Option}
use Rattle.std.specs.List.{slice_get}
use Rattle.glyph.specs.Glyphs.{box_of, Glyph}
use Rattle.glyph.specs.declared.lists.GlyphRecord.{GlyphRecord}
use Rattle.glyph.specs.declared.lists.Lists.{Lists}
use Rattle.held.specs.Held.{ListsHold}

abbrev pub edge_of : Option GlyphRecord → ℤ
edge_of None = pos 0
edge_of (Some r) = r.bbox.x_min

-- The least x that the record at a place says, and 0 past the records.
abbrev pub left_edge : Lists → ℕ → ℤ
left_edge ls i = edge_of (slice_get (vec_items ls.records) i)

-- Of a glyph that is held it is the x_min of its box, which is 0 for an empty one.
abbrev pub HeldEdge : Lists → ℕ → ℤ → Type 0
HeldEdge ls i z = (n : ℕ) (gs : List Glyph) (g : Glyph) → ListsHold n ls gs → slice_get gs i ≡ Some g → z ≡ (box_of g).x_min
