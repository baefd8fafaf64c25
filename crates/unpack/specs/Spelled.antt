-- What a transformed glyf table spells: a relation between bytes and a list of glyphs.
use Rattle.std.specs.Prelude.{◌≡◌, ℕ, suc, ◌+◌, ◌%◌, ◌<◌, ◌≤◌, Bool, true, false, List, [], ◌∷◌, ◌++◌, map, length, ℤ, pos, negsuc, ◌+ℤ◌, Ok}
use Rattle.std.specs.List.{flat_map}
use Rattle.binary.specs.Bytes.{box_said, i16_said}
use Rattle.binary.specs.declared.BoundingBox.{BoundingBox}
use Rattle.composite.specs.Chains.{Chained, marked}
use Rattle.composite.specs.Components.{component_said, component_size, flags_said}
use Rattle.glyph.specs.Bounds.{Tight}
use Rattle.glyph.specs.Glyphs.{composite, empty, Glyph, simple}
use Rattle.glyph.specs.Outlines.{InRange, origin, points_in}
use Rattle.glyph.specs.declared.component.Component.{Component}
use Rattle.glyph.specs.declared.lists.Point.{Point}
use Rattle.lut.specs.Triplets.{bytes_in, group_of, steps_said}
use Rattle.woff2.specs.Packed.{Packs}
use Rattle.woff2.specs.Transformed.{bitmap_size, header_said, streams_end}
use Rattle.unpack.specs.Glyphs.{box_bits}
use Rattle.unpack.specs.Outlines.{point}
use Rattle.unpack.specs.Rests.{Rest, streams_of}

-- A field of `n` bytes says a value.
abbrev pub Says : {A : Type 0} → ℕ → (List ℕ → A) → A → List ℕ → Type 0
Says n said v bs = (length bs ≡ n) × (said bs ≡ v)

-- The bytes of several items, joined in order.
abbrev pub Joins : {A : Type 0} → (A → List ℕ → Type 0) → List A → List ℕ → Type 0
Joins Spell [] bs = bs ≡ []
Joins Spell (x ∷ xs) bs =
    (p : List ℕ) × (ps : List ℕ) × (bs ≡ p ++ ps) × Spell x p × Joins Spell xs ps

-- The sizes of contours that end at the given points, behind `sum` points: each size is a PackedU16, in any form. A
-- contour ends at the running sum of the sizes, less one; the sum is at most 65535.
abbrev pub Sizes : ℕ → List ℕ → List ℕ → Type 0
Sizes sum [] bs = bs ≡ []
Sizes sum (e ∷ es) bs =
    (p : List ℕ) × (ps : List ℕ) × (v : ℕ) × (bs ≡ p ++ ps) × Packs v p × (sum + v ≡ suc e) × (suc e ≤ 65535)
    × Sizes (suc e) es ps

-- A flag and the bytes of its row lead from one point to the next.
pub record Leads (last next : Point) (flag : ℕ) (bs : List ℕ) : Type 0 where
  pub dx : ℤ
  pub dy : ℤ
  pub whole : length bs ≡ bytes_in (group_of (flag % 128))
  pub steps : steps_said (flag % 128) bs ≡ Ok (dx, dy)
  pub next_is : next ≡ point (last.x +ℤ dx) (last.y +ℤ dy) flag
  pub x_in_range : InRange (last.x +ℤ dx)
  pub y_in_range : InRange (last.y +ℤ dy)

-- A flag for each point, and the bytes of their rows joined in order.
abbrev pub LeadsOn : Point → List Point → List ℕ → List ℕ → Type 0
LeadsOn last [] flags bs = (flags ≡ []) × (bs ≡ [])
LeadsOn last (q ∷ qs) flags bs =
    (f : ℕ) × (fs : List ℕ) × (p : List ℕ) × (ps : List ℕ) × (flags ≡ f ∷ fs) × (bs ≡ p ++ ps) × Leads last q f p
    × LeadsOn q qs fs ps

-- Component flag bits outside 1FEF spell nothing.
abbrev pub SpellsComponent : Component → List ℕ → Type 0
SpellsComponent c bs = (length bs ≡ component_size (flags_said bs)) × (component_said bs ≡ c)

-- The piece of a glyph: its bytes in each stream, and its bit in the bitmap of boxes.
pub record Piece : Type 0 where
  pub contours : List ℕ
  pub points : List ℕ
  pub flags : List ℕ
  pub glyphs : List ℕ
  pub composites : List ℕ
  pub boxes : List ℕ
  pub instructions : List ℕ
  pub boxed : Bool

-- An empty glyph has a contour count of 0, and nothing else.
pub record SpellsEmpty (p : Piece) : Type 0 where
  pub count : Says 2 i16_said (pos 0) p.contours
  pub points : p.points ≡ []
  pub flags : p.flags ≡ []
  pub glyphs : p.glyphs ≡ []
  pub composites : p.composites ≡ []
  pub boxes : p.boxes ≡ []
  pub instructions : p.instructions ≡ []
  pub boxed : p.boxed ≡ false

-- A box of its own if the bit is set; and else the least and greatest x and y of all points.
abbrev pub Boxes : Bool → BoundingBox → List Point → List ℕ → Type 0
Boxes true box points bs = Says 8 box_said box bs
Boxes false box points bs = (bs ≡ []) × Tight box points

pub record SpellsSimple (p : Piece) (box : BoundingBox) (ends : List ℕ) (points : List Point) (hints : List ℕ) : Type 0 where
  pub some : 0 < length ends
  pub count : Says 2 i16_said (pos (length ends)) p.contours
  pub sizes : Sizes 0 ends p.points
  pub as_many : length points ≡ points_in ends
  pub steps : List ℕ
  pub size : List ℕ
  pub leads : LeadsOn origin points p.flags steps
  pub packs : Packs (length hints) size
  pub glyphs : p.glyphs ≡ steps ++ size
  pub composites : p.composites ≡ []
  pub boxes : Boxes p.boxed box points p.boxes
  pub instructions : p.instructions ≡ hints

-- Instructions with their number in the glyph data, or none and no number.
abbrev pub Hints : Bool → List ℕ → List ℕ → List ℕ → Type 0
Hints true hints glyphs bytes = Packs (length hints) glyphs × (bytes ≡ hints)
Hints false hints glyphs bytes = (hints ≡ []) × (glyphs ≡ []) × (bytes ≡ [])

pub record SpellsComposite (p : Piece) (box : BoundingBox) (parts : List Component) (hints : List ℕ) : Type 0 where
  pub count : Says 2 i16_said (negsuc 0) p.contours
  pub points : p.points ≡ []
  pub flags : p.flags ≡ []
  pub composites : Joins SpellsComponent parts p.composites
  pub chained : Chained parts
  pub hinted : Hints (marked parts) hints p.glyphs p.instructions
  pub boxed : p.boxed ≡ true
  pub boxes : Says 8 box_said box p.boxes

abbrev pub SpellsGlyph : Glyph → Piece → Type 0
SpellsGlyph empty p = SpellsEmpty p
SpellsGlyph (simple box ends points hints) p = SpellsSimple p box ends points hints
SpellsGlyph (composite box parts hints) p = SpellsComposite p box parts hints

-- A piece for each glyph.
abbrev pub SpellEach : List Glyph → List Piece → Type 0
SpellEach [] [] = Unit {0}
SpellEach [] (p ∷ ps) = ⊥
SpellEach (g ∷ gs) [] = ⊥
SpellEach (g ∷ gs) (p ∷ ps) = SpellsGlyph g p × SpellEach gs ps

abbrev pub Begins : List ℕ → List ℕ → Type 0
Begins bs stream = (rest : List ℕ) × (stream ≡ bs ++ rest)

-- Each stream begins with the glyphs' pieces joined in order. What follows them spells nothing.
pub record StreamsBegin (ps : List Piece) (s : Rest) : Type 0 where
  pub contours : Begins (flat_map (λ p. p.contours) ps) s.contours
  pub points : Begins (flat_map (λ p. p.points) ps) s.points
  pub flags : Begins (flat_map (λ p. p.flags) ps) s.flags
  pub glyphs : Begins (flat_map (λ p. p.glyphs) ps) s.glyphs
  pub composites : Begins (flat_map (λ p. p.composites) ps) s.composites
  pub boxes : Begins (flat_map (λ p. p.boxes) ps) s.boxes
  pub instructions : Begins (flat_map (λ p. p.instructions) ps) s.instructions

-- A table spells a list of glyphs: the header tells how many, the seven streams lie inside the table and the bitmap
-- inside the boxes, a bit of which belongs to each glyph, and the streams begin with the glyphs' pieces.
pub record Spells (bs : List ℕ) (gs : List Glyph) : Type 0 where
  pub header : 36 ≤ length bs
  pub count : (header_said bs).num_glyphs ≡ length gs
  pub inside : streams_end (header_said bs) ≤ length bs
  pub bitmap : bitmap_size (header_said bs).num_glyphs ≤ (header_said bs).bbox_size
  pub pieces : List Piece
  pub each : SpellEach gs pieces
  pub bits : map (λ p. p.boxed) pieces ≡ box_bits (header_said bs) bs
  pub streams : StreamsBegin pieces (streams_of bs)
