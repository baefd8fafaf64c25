-- What is left of the seven streams.
use Rattle.std.specs.Prelude.{ℕ, ◌+◌, ◌-◌, List}
use Rattle.woff2.specs.Transformed.{bitmap_size, boxes_at, composites_at, contours_at, cut, flags_at, glyphs_at, header_said, instructions_at, points_at}
use Rattle.woff2.specs.declared.header.GlyfHeader.{GlyfHeader}

pub record Rest : Type 0 where
  pub contours : List ℕ
  pub points : List ℕ
  pub flags : List ℕ
  pub glyphs : List ℕ
  pub composites : List ℕ
  pub boxes : List ℕ
  pub instructions : List ℕ

-- The streams of a table, as its header places them. The boxes come without their bitmap.
abbrev pub streams_by : GlyfHeader → List ℕ → Rest
streams_by h bs =
    record {
      contours = cut (contours_at h) h.n_contour_size bs;
      points = cut (points_at h) h.n_points_size bs;
      flags = cut (flags_at h) h.flag_size bs;
      glyphs = cut (glyphs_at h) h.glyph_size bs;
      composites = cut (composites_at h) h.composite_size bs;
      boxes = cut (boxes_at h + bitmap_size h.num_glyphs) (h.bbox_size - bitmap_size h.num_glyphs) bs;
      instructions = cut (instructions_at h) h.instruction_size bs;
    }

abbrev pub streams_of : List ℕ → Rest
streams_of bs = streams_by (header_said bs) bs
