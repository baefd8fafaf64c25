-- What a read of glyphs answers, stream by stream and glyph by glyph, with the first fault in reading order.
use Rattle.std.specs.Prelude.{ℕ, zero, suc, Bool, true, false, cond, List, [], ◌∷◌, ◌++◌, length, take, ℤ, pos, negsuc, Some, None, Ok, Err, Option, Result, nat_le}
use Rattle.binary.specs.Bytes.{box_said, i16_said}
use Rattle.binary.specs.declared.BoundingBox.{BoundingBox}
use Rattle.glyph.specs.Bounds.{bounds}
use Rattle.glyph.specs.Causes.{at_glyph, no_glyph, refused_at}
use Rattle.glyph.specs.Glyphs.{composite, empty, Glyph, simple}
use Rattle.glyph.specs.Records.{fitting}
use Rattle.glyph.specs.declared.lists.Lists.{Lists}
use Rattle.glyph.specs.declared.refusal.Refusal.{Refusal}
use Rattle.read.specs.Answers.{front, then}
use Rattle.read.specs.declared.error.ParseError.{ParseError}
use Rattle.read.specs.declared.error.ParseError.TheVariants.{BadEof, BadIndex, BadValue}
use Rattle.woff2.specs.Bits.{bits}
use Rattle.woff2.specs.Transformed.{bitmap_size, boxes_at, cut, header_said, streams_fault}
use Rattle.woff2.specs.declared.header.GlyfHeader.{GlyfHeader}
use Rattle.unpack.specs.Composites.{components_said}
use Rattle.unpack.specs.Hints.{instructions_said}
use Rattle.unpack.specs.Outlines.{ends_said, points_said}
use Rattle.glyph.specs.Outlines.{origin}
use Rattle.unpack.specs.Rests.{Rest, streams_of}

-- A box at the front of its stream, and what is left.
abbrev pub box_front : List ℕ → Result (BoundingBox × List ℕ) ParseError
box_front bs = then (front 8 bs) (λ p. Ok (box_said p.0, p.1))

-- The box of a simple glyph: its own if its bit is set, and else the one that is given.
abbrev pub box_or : Bool → BoundingBox → List ℕ → Result (BoundingBox × List ℕ) ParseError
box_or true given bs = box_front bs
box_or false given bs = Ok (given, bs)

-- The box of a composite glyph, which must have its own.
abbrev pub own_box : Bool → List ℕ → Result (BoundingBox × List ℕ) ParseError
own_box true bs = box_front bs
own_box false bs = Err BadIndex

-- The instructions of a composite glyph, which has them only if a component says so.
abbrev pub marked_instructions : Bool → List ℕ → List ℕ → Result (List ℕ × List ℕ × List ℕ) ParseError
marked_instructions true glyphs bytes = instructions_said glyphs bytes
marked_instructions false glyphs bytes = Ok ([], glyphs, bytes)

-- A simple glyph of `c` contours: the contours' sizes, all flags, the steps to each point, the instructions, the box.
abbrev pub simple_said : Bool → ℕ → Rest → Result (Glyph × Rest) ParseError
simple_said boxed c s =
    then (ends_said c [] 0 s.points)
    (λ e.
    then (front e.1 s.flags)
    (λ f.
    then (points_said f.0 [] origin s.glyphs)
    (λ p.
    then (instructions_said p.1 s.instructions)
    (λ i.
    then (box_or boxed (bounds p.0) s.boxes)
    (λ b.
    Ok (
      simple b.0 e.0 p.0 i.0,
      record {
        contours = s.contours;
        points = e.2;
        flags = f.1;
        glyphs = i.1;
        composites = s.composites;
        boxes = b.1;
        instructions = i.2;
      },
    ))))))

-- A composite glyph: the components, the instructions if any component has them, the box.
abbrev pub composite_said : Bool → Rest → Result (Glyph × Rest) ParseError
composite_said boxed s =
    then (components_said (suc (length s.composites)) [] false s.composites)
    (λ c.
    then (marked_instructions c.1 s.glyphs s.instructions)
    (λ i.
    then (own_box boxed s.boxes)
    (λ b.
    Ok (
      composite b.0 c.0 i.0,
      record {
        contours = s.contours;
        points = s.points;
        flags = s.flags;
        glyphs = i.1;
        composites = c.2;
        boxes = b.1;
        instructions = i.2;
      },
    ))))

-- A glyph by its contour count: 0 for an empty one, which has no box; above 0 for a simple one; -1 for a composite one.
abbrev pub glyph_by : Bool → ℤ → Rest → Result (Glyph × Rest) ParseError
glyph_by boxed (pos zero) s = cond boxed (Err BadValue) (Ok (empty, s))
glyph_by boxed (pos (suc c)) s = simple_said boxed (suc c) s
glyph_by boxed (negsuc zero) s = composite_said boxed s
glyph_by boxed (negsuc (suc c)) s = Err BadValue

abbrev pub past_count : Rest → List ℕ → Rest
past_count s contours =
    record {
      contours = contours;
      points = s.points;
      flags = s.flags;
      glyphs = s.glyphs;
      composites = s.composites;
      boxes = s.boxes;
      instructions = s.instructions;
    }

-- The next glyph of the streams, whose bit in the bitmap of boxes is `boxed`, and what is left.
abbrev pub glyph_said : Bool → Rest → Result (Glyph × Rest) ParseError
glyph_said boxed s =
    then (front 2 s.contours) (λ p. glyph_by boxed (i16_said p.0) (past_count s p.1))

-- A glyph for each bit, behind those in `gs`. A refusal has the number of its glyph.
abbrev pub glyphs_said : List Bool → List Glyph → Rest → Result (List Glyph) Refusal
glyphs_said [] gs s = Ok gs
glyphs_said (b ∷ bs) gs s =
    then (at_glyph (length gs) (glyph_said b s)) (λ p. glyphs_said bs (gs ++ p.0 ∷ []) p.1)

-- A bit for each glyph: whether it has a box of its own.
abbrev pub box_bits : GlyfHeader → List ℕ → List Bool
box_bits h bs = take h.num_glyphs (bits (cut (boxes_at h) (bitmap_size h.num_glyphs) bs))

-- A fault of the table as a whole comes before the first glyph.
abbrev pub unless_faulty : Option ParseError → Result (List Glyph) Refusal → Result (List Glyph) Refusal
unless_faulty (Some e) said = Err (refused_at no_glyph e)
unless_faulty None said = said

-- The glyphs of a table, or the first fault.
abbrev pub table_said : List ℕ → Result (List Glyph) Refusal
table_said bs =
    cond (nat_le 36 (length bs))
    (unless_faulty (streams_fault (header_said bs) (length bs)) (glyphs_said (box_bits (header_said bs) bs) [] (streams_of bs)))
    (Err (refused_at no_glyph BadEof))

-- What unpack answers: the glyphs of the table, once all is read, if the lists have room for them.
abbrev pub unpacked : List ℕ → Lists → Result (List Glyph) Refusal
unpacked bs ls = then (table_said bs) (fitting ls)
