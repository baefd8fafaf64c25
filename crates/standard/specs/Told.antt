-- What standard glyf and loca tables tell: a relation between their bytes and a list of glyphs.
use Rattle.std.specs.Prelude.{◌≡◌, ℕ, ◌<◌, Bool, true, false, List, [], ◌∷◌, ◌++◌, map, length, ℤ, pos, negsuc, ◌+ℤ◌}
use Rattle.std.specs.List.{flat_map}
use Rattle.binary.specs.Bytes.{box_said, i16_said, u16_said}
use Rattle.binary.specs.declared.BoundingBox.{BoundingBox}
use Rattle.composite.specs.Components.{has}
use Rattle.glyph.specs.Glyphs.{composite, empty, Glyph, simple}
use Rattle.glyph.specs.declared.component.Component.{Component}
use Rattle.glyph.specs.declared.lists.Point.{Point}
use Rattle.glyph.specs.Outlines.{origin, InRange, points_in}
use Rattle.composite.specs.Chains.{Chained, marked}
use Rattle.unpack.specs.Spelled.{Begins, Joins, Says, SpellsComponent}
use Rattle.standard.specs.Fields.{between, next_point, offset_said, offset_size, Run, run_flags, x_step_said, x_step_size, y_step_said, y_step_size}

-- A run of flags: with bit 08 the flag and a byte that says how many copies follow, and else the flag alone.
abbrev pub TellsCopies : Bool → Run → List ℕ → Type 0
TellsCopies true r bs = bs ≡ r.flag ∷ (r.copies ∷ [])
TellsCopies false r bs = (bs ≡ r.flag ∷ []) × (r.copies ≡ 0)

abbrev pub TellsRun : Run → List ℕ → Type 0
TellsRun r bs = TellsCopies (has r.flag 0x08) r bs

-- The way from a point to the next: the next one's flag, and a step along each axis.
pub record Step : Type 0 where
  pub flag : ℕ
  pub dx : ℤ
  pub dy : ℤ

abbrev pub TellsX : Step → List ℕ → Type 0
TellsX s = Says (x_step_size s.flag) (x_step_said s.flag) s.dx

abbrev pub TellsY : Step → List ℕ → Type 0
TellsY s = Says (y_step_size s.flag) (y_step_said s.flag) s.dy

-- The points that steps lead to, one after the other. Each position is in range.
abbrev pub Walks : Point → List Step → List Point → Type 0
Walks last [] points = points ≡ []
Walks last (s ∷ ss) points =
    (rest : List Point) × (points ≡ next_point last s.flag s.dx s.dy ∷ rest) × InRange (last.x +ℤ s.dx)
    × InRange (last.y +ℤ s.dy) × Walks (next_point last s.flag s.dx s.dy) ss rest

-- A simple glyph: the number of contours, the box, the end of each contour, the number of instructions and the
-- instructions, the flags of all points as runs, the steps of all points along x, and then along y. There is one point
-- more than the last contour's end says, and none without contours.
pub record TellsSimple (box : BoundingBox) (ends : List ℕ) (points : List Point) (hints : List ℕ) (bs : List ℕ) : Type 0 where
  pub steps : List Step
  pub runs : List Run
  pub count_part : List ℕ
  pub box_part : List ℕ
  pub ends_part : List ℕ
  pub size_part : List ℕ
  pub flags_part : List ℕ
  pub xs_part : List ℕ
  pub ys_part : List ℕ
  pub whole : bs ≡ count_part ++ (box_part ++ (ends_part ++ (size_part ++ (hints ++ (flags_part ++ (xs_part ++ ys_part))))))
  pub tells_count : Says 2 i16_said (pos (length ends)) count_part
  pub tells_box : Says 8 box_said box box_part
  pub tells_ends : Joins (Says 2 u16_said) ends ends_part
  pub tells_size : Says 2 u16_said (length hints) size_part
  pub tells_runs : Joins TellsRun runs flags_part
  pub tells_xs : Joins TellsX steps xs_part
  pub tells_ys : Joins TellsY steps ys_part
  pub as_many : length steps ≡ points_in ends
  pub expanded : flat_map run_flags runs ≡ map (λ s. s.flag) steps
  pub walks : Walks origin steps points

-- Instructions behind their number, or none and no number.
abbrev pub TellsHints : Bool → List ℕ → List ℕ → Type 0
TellsHints true hints bs = (size : List ℕ) × (bs ≡ size ++ hints) × Says 2 u16_said (length hints) size
TellsHints false hints bs = (hints ≡ []) × (bs ≡ [])

-- A composite glyph: a negative number, the box, the components, of which just the last lacks MORE_COMPONENTS, and
-- instructions if a component has WE_HAVE_INSTRUCTIONS.
pub record TellsComposite (box : BoundingBox) (parts : List Component) (hints : List ℕ) (bs : List ℕ) : Type 0 where
  pub below : ℕ
  pub count_part : List ℕ
  pub box_part : List ℕ
  pub components_part : List ℕ
  pub hints_part : List ℕ
  pub whole : bs ≡ count_part ++ (box_part ++ (components_part ++ hints_part))
  pub tells_count : Says 2 i16_said (negsuc below) count_part
  pub tells_box : Says 8 box_said box box_part
  pub tells_components : Joins SpellsComponent parts components_part
  pub chained : Chained parts
  pub tells_hints : TellsHints (marked parts) hints hints_part

-- The bytes between two offsets that rise, the first of which lies inside glyf, begin with those of a glyph. What
-- follows them tells nothing.
pub record TellsBetween (glyf : List ℕ) (start end : ℕ) (Tell : List ℕ → Type 0) : Type 0 where
  pub rises : start < end
  pub inside : start < length glyf
  pub bytes : List ℕ
  pub begins : Begins bytes (between start end glyf)
  pub tells : Tell bytes

-- Equal offsets make an empty glyph, wherever they point.
abbrev pub TellsGlyph : List ℕ → ℕ → ℕ → Glyph → Type 0
TellsGlyph glyf start end empty = start ≡ end
TellsGlyph glyf start end (simple box ends points hints) = TellsBetween glyf start end (TellsSimple box ends points hints)
TellsGlyph glyf start end (composite box parts hints) = TellsBetween glyf start end (TellsComposite box parts hints)

-- A glyph for each offset behind `start`, which ends there and begins at the offset before.
abbrev pub TellsEach : List ℕ → ℕ → List ℕ → List Glyph → Type 0
TellsEach glyf start [] [] = Unit {0}
TellsEach glyf start [] (g ∷ gs) = ⊥
TellsEach glyf start (end ∷ ends) [] = ⊥
TellsEach glyf start (end ∷ ends) (g ∷ gs) = TellsGlyph glyf start end g × TellsEach glyf end ends gs

-- Standard tables tell a list of `n` glyphs: loca begins with `n` + 1 offsets, and each pair of neighbours tells a
-- glyph. What follows the offsets tells nothing.
pub record Tells (glyf loca : List ℕ) (n : ℕ) (long : Bool) (gs : List Glyph) : Type 0 where
  pub some : 0 < n
  pub start : ℕ
  pub ends : List ℕ
  pub count : length ends ≡ n
  pub bytes : List ℕ
  pub begins : Begins bytes loca
  pub tells_offsets : Joins (Says (offset_size long) (offset_said long)) (start ∷ ends) bytes
  pub each : TellsEach glyf start ends gs
