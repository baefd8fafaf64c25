-- The transformed glyf table: a header of 36 bytes, and seven streams behind it.
use Rattle.std.specs.Prelude.{◌≡◌, ℕ, ◌+◌, ◌-◌, ◌*◌, ◌/◌, cond, List, [], ◌∷◌, length, take, drop, Some, None, Err, MatchBool, Option, Result, MatchResult, nat_le, nat_lt}
use Rattle.binary.specs.Bytes.{u16_at, u32_at}
use Rattle.read.specs.declared.error.ParseError.{ParseError}
use Rattle.read.specs.declared.error.ParseError.TheVariants.{BadEof, BadValue}
use Rattle.woff2.specs.declared.header.GlyfHeader.{GlyfHeader}
use Rattle.woff2.specs.declared.header.Span.{Span}
use Rattle.woff2.specs.declared.table.TransformedGlyphTable.{TransformedGlyphTable}

-- The header: four bytes that are ignored, the number of glyphs, the format of loca, and the sizes of the streams.
abbrev pub header_said : List ℕ → GlyfHeader
header_said bs =
    record {
      num_glyphs = u16_at bs 4;
      index_format = u16_at bs 6;
      n_contour_size = u32_at bs 8;
      n_points_size = u32_at bs 12;
      flag_size = u32_at bs 16;
      glyph_size = u32_at bs 20;
      composite_size = u32_at bs 24;
      bbox_size = u32_at bs 28;
      instruction_size = u32_at bs 32;
    }

-- A bit for each glyph, in whole words of 32.
abbrev pub bitmap_size : ℕ → ℕ
bitmap_size n = 4 * ((n + 31) / 32)

abbrev pub WorkedBitmaps : Type 0
WorkedBitmaps = (bitmap_size 32 ≡ 4) × (bitmap_size 33 ≡ 8) × (bitmap_size 65535 ≡ 8192)

-- Where each stream begins: one behind the other, the first behind the header.
abbrev pub contours_at : GlyfHeader → ℕ
contours_at h = 36

abbrev pub points_at : GlyfHeader → ℕ
points_at h = contours_at h + h.n_contour_size

abbrev pub flags_at : GlyfHeader → ℕ
flags_at h = points_at h + h.n_points_size

abbrev pub glyphs_at : GlyfHeader → ℕ
glyphs_at h = flags_at h + h.flag_size

abbrev pub composites_at : GlyfHeader → ℕ
composites_at h = glyphs_at h + h.glyph_size

abbrev pub boxes_at : GlyfHeader → ℕ
boxes_at h = composites_at h + h.composite_size

abbrev pub instructions_at : GlyfHeader → ℕ
instructions_at h = boxes_at h + h.bbox_size

abbrev pub streams_end : GlyfHeader → ℕ
streams_end h = instructions_at h + h.instruction_size

-- The seven streams, by place and size.
abbrev pub spans_of : GlyfHeader → List Span
spans_of h =
    record { place = contours_at h; size = h.n_contour_size }
    ∷ (record { place = points_at h; size = h.n_points_size }
    ∷ (record { place = flags_at h; size = h.flag_size }
    ∷ (record { place = glyphs_at h; size = h.glyph_size }
    ∷ (record { place = composites_at h; size = h.composite_size }
    ∷ (record { place = boxes_at h; size = h.bbox_size }
    ∷ (record { place = instructions_at h; size = h.instruction_size } ∷ []))))))

-- What is wrong with the places of the streams, in reading order. The bitmap is read before its size is held to that of the boxes.
abbrev pub streams_fault : GlyfHeader → ℕ → Option ParseError
streams_fault h len =
    cond (nat_lt len (boxes_at h + bitmap_size h.num_glyphs)) (Some BadEof)
    (cond (nat_lt h.bbox_size (bitmap_size h.num_glyphs)) (Some BadValue)
    (cond (nat_lt len (streams_end h)) (Some BadEof) None))

-- The bytes of a stream.
abbrev pub cut : ℕ → ℕ → List ℕ → List ℕ
cut place size bs = take size (drop place bs)

-- The streams of a table lie where its header says. The boxes come without their bitmap.
pub record Streams (h : GlyfHeader) (bs : List ℕ) (t : TransformedGlyphTable) : Type 0 where
  pub header : t.header ≡ h
  pub contours : t.n_contour.bytes.now ≡ cut (contours_at h) h.n_contour_size bs
  pub points : t.n_points.bytes.now ≡ cut (points_at h) h.n_points_size bs
  pub flags : t.flags.bytes.now ≡ cut (flags_at h) h.flag_size bs
  pub glyphs : t.glyphs.bytes.now ≡ cut (glyphs_at h) h.glyph_size bs
  pub composites : t.composites.bytes.now ≡ cut (composites_at h) h.composite_size bs
  pub bitmap : t.bbox_bitmap.bytes.now ≡ cut (boxes_at h) (bitmap_size h.num_glyphs) bs
  pub boxes : t.bboxes.bytes.now ≡ cut (boxes_at h + bitmap_size h.num_glyphs) (h.bbox_size - bitmap_size h.num_glyphs) bs
  pub instructions : t.instructions.bytes.now ≡ cut (instructions_at h) h.instruction_size bs

-- What comes of taking a table apart.
abbrev pub TakenApart : List ℕ → Result TransformedGlyphTable ParseError → Type 0
TakenApart bs r =
    MatchBool (nat_le 36 (length bs))
    (MatchResult r (λ t. (streams_fault (header_said bs) (length bs) ≡ None) × Streams (header_said bs) bs t)
    (λ e. streams_fault (header_said bs) (length bs) ≡ Some e))
    (r ≡ Err BadEof)
