-- A glyph as a value.
use Rattle.std.specs.Prelude.{ℕ, List, [], pos}
use Rattle.binary.specs.declared.BoundingBox.{BoundingBox}
use Rattle.glyph.specs.declared.component.Component.{Component}
use Rattle.glyph.specs.declared.lists.GlyphKind.{GlyphKind}
use Rattle.glyph.specs.declared.lists.GlyphKind.TheVariants.{Composite, Empty, Simple}
use Rattle.glyph.specs.declared.lists.Point.{Point}

-- An empty glyph has nothing. A simple one has a box, the ends of its contours, points and instructions; a composite
-- one a box, components and instructions.
pub data Glyph : Type 0 where
  empty : Glyph
  simple : BoundingBox → List ℕ → List Point → List ℕ → Glyph
  composite : BoundingBox → List Component → List ℕ → Glyph

abbrev pub kind_of : Glyph → GlyphKind
kind_of empty = Empty
kind_of (simple box ends points hints) = Simple
kind_of (composite box parts hints) = Composite

abbrev pub no_box : BoundingBox
no_box = record { x_min = pos 0; y_min = pos 0; x_max = pos 0; y_max = pos 0 }

abbrev pub box_of : Glyph → BoundingBox
box_of empty = no_box
box_of (simple box ends points hints) = box
box_of (composite box parts hints) = box

abbrev pub ends_of : Glyph → List ℕ
ends_of empty = []
ends_of (simple box ends points hints) = ends
ends_of (composite box parts hints) = []

abbrev pub points_of : Glyph → List Point
points_of empty = []
points_of (simple box ends points hints) = points
points_of (composite box parts hints) = []

abbrev pub components_of : Glyph → List Component
components_of empty = []
components_of (simple box ends points hints) = []
components_of (composite box parts hints) = parts

abbrev pub instructions_of : Glyph → List ℕ
instructions_of empty = []
instructions_of (simple box ends points hints) = hints
instructions_of (composite box parts hints) = hints
