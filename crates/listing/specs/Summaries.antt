-- Sums over the glyphs of a face.
use Rattle.std.specs.Prelude.{◌≡◌, ◌+◌, Bool, true, false, List, length, sum_by, count_by}
use Rattle.std.specs.List.{flat_map}
use Rattle.glyph.specs.Glyphs.{components_of, ends_of, Glyph, instructions_of, points_of}
use Rattle.glyph.specs.Records.{records_of, start}
use Rattle.glyph.specs.declared.lists.GlyphKind.{GlyphKind}
use Rattle.glyph.specs.declared.lists.GlyphKind.TheVariants.{Composite, Empty, Simple}
use Rattle.glyph.specs.declared.lists.GlyphRecord.{GlyphRecord}
use Rattle.listing.specs.declared.summary.Summary.{Summary}

abbrev pub is_empty : GlyphKind → Bool
is_empty Empty = true
is_empty Simple = false
is_empty Composite = false

abbrev pub is_simple : GlyphKind → Bool
is_simple Empty = false
is_simple Simple = true
is_simple Composite = false

abbrev pub is_composite : GlyphKind → Bool
is_composite Empty = false
is_composite Simple = false
is_composite Composite = true

abbrev pub is_kind : GlyphKind → GlyphKind → Bool
is_kind Empty = is_empty
is_kind Simple = is_simple
is_kind Composite = is_composite

-- A summary tells the least lengths of lists that have room for the glyphs.
pub record Least (gs : List Glyph) (s : Summary) : Type 0 where
  pub records : s.kinds.empty + s.kinds.simple + s.kinds.composite ≡ length gs
  pub ends : s.ends ≡ length (flat_map ends_of gs)
  pub points : s.points ≡ length (flat_map points_of gs)
  pub components : s.components ≡ length (flat_map components_of gs)
  pub instructions : s.instructions ≡ length (flat_map instructions_of gs)

-- What a summary of records says: how many there are of each kind, and how many places of each list they take; and, where
-- they are the records of glyphs that lie from the first places on, the least lists for these.
pub record Summed (rs : List GlyphRecord) (s : Summary) : Type 0 where
  pub empty : s.kinds.empty ≡ count_by (λ r. is_empty r.kind) rs
  pub simple : s.kinds.simple ≡ count_by (λ r. is_simple r.kind) rs
  pub composite : s.kinds.composite ≡ count_by (λ r. is_composite r.kind) rs
  pub ends : s.ends ≡ sum_by (λ r. r.ends.len) rs
  pub points : s.points ≡ sum_by (λ r. r.points.len) rs
  pub components : s.components ≡ sum_by (λ r. r.components.len) rs
  pub instructions : s.instructions ≡ sum_by (λ r. r.instructions.len) rs
  pub least : (gs : List Glyph) → rs ≡ records_of start gs → Least gs s
