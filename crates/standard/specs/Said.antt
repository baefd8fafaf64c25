-- What a read of standard glyf and loca tables answers, with the first fault in reading order.
use Rattle.std.specs.Prelude.{ℕ, zero, suc, ◌-◌, ◌*◌, Bool, true, false, cond, ◌&&◌, List, [], ◌∷◌, ◌++◌, length, drop, ℤ, pos, negsuc, ◌+ℤ◌, Ok, Err, Result, ◌==◌, nat_le, nat_lt, slice_index}
use Rattle.binary.specs.Bytes.{box_said, i16_said, u16_said, u8_said}
use Rattle.binary.specs.declared.BoundingBox.{BoundingBox}
use Rattle.composite.specs.Components.{has}
use Rattle.glyph.specs.Causes.{at_glyph, no_glyph, refused_at}
use Rattle.glyph.specs.Glyphs.{composite, empty, Glyph, simple}
use Rattle.glyph.specs.declared.lists.Point.{Point}
use Rattle.glyph.specs.declared.refusal.Refusal.{Refusal}
use Rattle.read.specs.Answers.{front, then}
use Rattle.read.specs.Arrays.{fields_of}
use Rattle.read.specs.declared.error.ParseError.{ParseError}
use Rattle.read.specs.declared.error.ParseError.TheVariants.{BadEof, BadIndex, BadOffset, BadValue}
use Rattle.unpack.specs.Composites.{components_said}
use Rattle.glyph.specs.Outlines.{origin, placed, points_in}
use Rattle.standard.specs.Fields.{between, next_point, offset_said, offset_size, run, Run, run_flags, x_step_said, x_step_size, y_step_said, y_step_size}

-- A field of `n` bytes at the front of a list, and what is left.
abbrev pub field_said : {A : Type 0} → ℕ → (List ℕ → A) → List ℕ → Result (A × List ℕ) ParseError
field_said n said bs = then (front n bs) (λ p. Ok (said p.0, p.1))

-- The ends of `c` contours behind those in `es`, and what is left.
abbrev pub end_points_said : ℕ → List ℕ → List ℕ → Result (List ℕ × List ℕ) ParseError
end_points_said zero es bs = Ok (es, bs)
end_points_said (suc c) es bs = then (field_said 2 u16_said bs) (λ p. end_points_said c (es ++ p.0 ∷ []) p.1)

-- Instructions behind their number, and what is left.
abbrev pub sized_hints : List ℕ → Result (List ℕ × List ℕ) ParseError
sized_hints bs = then (field_said 2 u16_said bs) (λ n. front n.0 n.1)

-- How many copies of a flag follow: a byte says so if the flag has bit 08.
abbrev pub copies_said : Bool → List ℕ → Result (ℕ × List ℕ) ParseError
copies_said true bs = field_said 1 u8_said bs
copies_said false bs = Ok (0, bs)

abbrev pub run_said : List ℕ → Result (Run × List ℕ) ParseError
run_said bs =
    then (field_said 1 u8_said bs)
    (λ f. then (copies_said (has f.0 0x08) f.1) (λ c. Ok (run f.0 c.0, c.1)))

-- The flags of the `left` points behind those in `fs`, and what is left. No copy goes past the last point. A run has at
-- least one flag, so there are no more runs than flags: that many are looked for.
abbrev pub point_flags_said : ℕ → ℕ → List ℕ → List ℕ → Result (List ℕ × List ℕ) ParseError
point_flags_said zero zero fs bs = Ok (fs, bs)
point_flags_said zero (suc left) fs bs = Err BadEof
point_flags_said (suc n) zero fs bs = Ok (fs, bs)
point_flags_said (suc n) (suc left) fs bs =
    then (run_said bs)
    (λ r.
    cond (nat_le r.0.copies left) (point_flags_said n (left - r.0.copies) (fs ++ run_flags r.0) r.1)
    (Err BadValue))

-- The steps along x of points with the given flags, behind those in `ds`, and what is left.
abbrev pub x_steps_said : List ℕ → List ℤ → List ℕ → Result (List ℤ × List ℕ) ParseError
x_steps_said [] ds bs = Ok (ds, bs)
x_steps_said (f ∷ fs) ds bs =
    then (field_said (x_step_size f) (x_step_said f) bs) (λ p. x_steps_said fs (ds ++ p.0 ∷ []) p.1)

-- The point behind `last`, by its flag and its step along x. The step along y is read, and then the position is judged.
abbrev pub position_said : Point → ℕ → ℤ → List ℕ → Result (Point × List ℕ) ParseError
position_said last f dx bs =
    then (field_said (y_step_size f) (y_step_said f) bs)
    (λ p.
    cond (placed (last.x +ℤ dx) && placed (last.y +ℤ p.0)) (Ok (next_point last f dx p.0, p.1))
    (Err BadValue))

-- The points with the given flags and steps along x, a step for each flag, behind those in `ps`, of which `last` is the
-- last; and what is left.
abbrev pub positions_said : List ℕ → List ℤ → List Point → Point → List ℕ → Result (List Point × List ℕ) ParseError
positions_said [] ds ps last bs = Ok (ps, bs)
positions_said (f ∷ fs) [] ps last bs = Ok (ps, bs)
positions_said (f ∷ fs) (d ∷ ds) ps last bs =
    then (position_said last f d bs) (λ q. positions_said fs ds (ps ++ q.0 ∷ []) q.0 q.1)

-- A simple glyph of `c` contours, behind its box: the ends of the contours, the instructions, the flags of all points,
-- the steps along x, and the points.
abbrev pub outline_said : ℕ → BoundingBox → List ℕ → Result (Glyph × List ℕ) ParseError
outline_said c box bs =
    then (end_points_said c [] bs)
    (λ e.
    then (sized_hints e.1)
    (λ i.
    then (point_flags_said (points_in e.0) (points_in e.0) [] i.1)
    (λ f.
    then (x_steps_said f.0 [] f.1)
    (λ x. then (positions_said f.0 x.0 [] origin x.1) (λ p. Ok (simple box e.0 p.0 i.0, p.1))))))

-- The instructions of a composite glyph, which has them only if a component says so.
abbrev pub hints_if : Bool → List ℕ → Result (List ℕ × List ℕ) ParseError
hints_if true bs = sized_hints bs
hints_if false bs = Ok ([], bs)

-- A composite glyph, behind its box: the components, and the instructions if any component has them.
abbrev pub parts_said : BoundingBox → List ℕ → Result (Glyph × List ℕ) ParseError
parts_said box bs =
    then (components_said (suc (length bs)) [] false bs)
    (λ c. then (hints_if c.1 c.2) (λ i. Ok (composite box c.0 i.0, i.1)))

-- A glyph by its number of contours: a composite one has a negative number.
abbrev pub kind_said : ℤ → BoundingBox → List ℕ → Result (Glyph × List ℕ) ParseError
kind_said (pos c) box bs = outline_said c box bs
kind_said (negsuc c) box bs = parts_said box bs

-- The glyph that the bytes at the front of a list describe, and what is left.
abbrev pub description_said : List ℕ → Result (Glyph × List ℕ) ParseError
description_said bs =
    then (field_said 2 i16_said bs) (λ c. then (field_said 8 box_said c.1) (λ b. kind_said c.0 b.0 b.1))

-- The glyph between two offsets: an empty one if they are equal. Any others must rise, from a place inside glyf.
abbrev pub entry_said : List ℕ → ℕ → ℕ → Result Glyph ParseError
entry_said glyf start end =
    cond (start == end) (Ok empty)
    (cond (nat_lt start end && nat_lt start (length glyf))
    (then (description_said (between start end glyf)) (λ p. Ok p.0)) (Err BadOffset))

-- A glyph for each offset behind `start`, behind those in `gs`. A refusal has the number of its glyph.
abbrev pub entries_said : List ℕ → ℕ → List ℕ → List Glyph → Result (List Glyph) Refusal
entries_said glyf start [] gs = Ok gs
entries_said glyf start (end ∷ ends) gs =
    then (at_glyph (length gs) (entry_said glyf start end)) (λ g. entries_said glyf end ends (gs ++ g ∷ []))

-- The first `n` offsets of loca.
abbrev pub offsets_said : Bool → ℕ → List ℕ → List ℕ
offsets_said long n bs = fields_of (offset_size long) (offset_said long) n bs

-- The `n` glyphs of the tables, or the first fault. The offsets are looked for before it is told that there are no
-- glyphs.
abbrev pub standard_said : List ℕ → List ℕ → ℕ → Bool → Result (List Glyph) Refusal
standard_said glyf loca n long =
    then (at_glyph no_glyph (front (suc n * offset_size long) loca))
    (λ p.
    cond (nat_lt 0 n)
    (entries_said glyf (slice_index (offsets_said long (suc n) p.0) 0) (drop 1 (offsets_said long (suc n) p.0)) [])
    (Err (refused_at no_glyph BadIndex)))
