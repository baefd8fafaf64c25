-- Glyphs laid one behind the other.
use Rattle.std.specs.Prelude.{◌≡◌, ◌≤◌, Bool, List, [], length, take, Result}
use Rattle.std.specs.List.{flat_map}
use Rattle.glyph.specs.Glyphs.{components_of, ends_of, Glyph, instructions_of, points_of}
use Rattle.glyph.specs.Laying.{laid}
use Rattle.glyph.specs.Records.{records_of, start}
use Rattle.glyph.specs.declared.lists.Lists.{Lists}
use Rattle.glyph.specs.declared.refusal.Refusal.{Refusal}
use Rattle.woff2.specs.Bits.{bits}
use Rattle.woff2.specs.declared.table.TransformedGlyphTable.{TransformedGlyphTable}
use Rattle.unpack.specs.Contents.{Contents, in_lists}
use Rattle.unpack.specs.Glyphs.{glyphs_said}
use Rattle.unpack.specs.Rests.{Rest}

-- The streams of a table that was taken apart.
abbrev pub table_streams : TransformedGlyphTable → Rest
table_streams t =
    record {
      contours = t.n_contour.bytes.now;
      points = t.n_points.bytes.now;
      flags = t.flags.bytes.now;
      glyphs = t.glyphs.bytes.now;
      composites = t.composites.bytes.now;
      boxes = t.bboxes.bytes.now;
      instructions = t.instructions.bytes.now;
    }

-- A bit for each glyph.
abbrev pub table_bits : TransformedGlyphTable → List Bool
table_bits t = take t.header.num_glyphs (bits t.bbox_bitmap.bytes.now)

-- What a read of the glyphs of a table that was taken apart answers.
abbrev pub glyphs_in : TransformedGlyphTable → Result (List Glyph) Refusal
glyphs_in t = glyphs_said (table_bits t) [] (table_streams t)

-- All that glyphs have is laid from place 0 on, and their records too if the list of points has room.
pub record RunLaid (gs : List Glyph) (before after : Contents) : Type 0 where
  pub ends_laid : after.ends ≡ laid 0 (flat_map ends_of gs) before.ends
  pub points_laid : after.points ≡ laid 0 (flat_map points_of gs) before.points
  pub components_laid : after.components ≡ laid 0 (flat_map components_of gs) before.components
  pub hints_laid : after.instructions ≡ laid 0 (flat_map instructions_of gs) before.instructions
  pub records_laid : length (flat_map points_of gs) ≤ length before.points → after.records ≡ laid 0 (records_of start gs) before.records

-- The same of the caller's lists.
pub record ListsLaid (gs : List Glyph) (before after : Lists) : Type 0 where
  pub run : RunLaid gs (in_lists before) (in_lists after)
  pub full : after.full ≡ before.full
  pub tail : after.tail ≡ before.tail
