-- The glyphs that a forme and its lists hold.
use Rattle.std.specs.Prelude.{◌≡◌, ℕ, List, length, take, None, vec_items, Option, MatchOption}
use Rattle.std.specs.List.{slice_get, flat_map}
use Rattle.glyph.specs.Glyphs.{box_of, components_of, ends_of, Glyph, instructions_of, kind_of, points_of}
use Rattle.glyph.specs.Records.{records_of, start}
use Rattle.glyph.specs.declared.lists.Lists.{Lists}
use Rattle.forme.specs.declared.forme.Forme.{Forme}
use Rattle.glyph.specs.declared.view.GlyphView.{GlyphView}

-- As many as the forme counts, laid from place 0 on without gaps in each list.
pub record Holds (f : Forme) (ls : Lists) (gs : List Glyph) : Type 0 where
  pub count : f.glyphs ≡ length gs
  pub records : take (length gs) (vec_items ls.records) ≡ records_of start gs
  pub ends : take (length (flat_map ends_of gs)) (vec_items ls.ends) ≡ flat_map ends_of gs
  pub points : take (length (flat_map points_of gs)) (vec_items ls.points) ≡ flat_map points_of gs
  pub components : take (length (flat_map components_of gs)) (vec_items ls.components) ≡ flat_map components_of gs
  pub instructions : take (length (flat_map instructions_of gs)) (vec_items ls.instructions) ≡ flat_map instructions_of gs

-- A view shows a glyph: its kind, its box, and all that it has.
pub record Shows (g : Glyph) (v : GlyphView) : Type 0 where
  pub kind : v.kind ≡ kind_of g
  pub bbox : v.bbox ≡ box_of g
  pub ends : v.ends.now ≡ ends_of g
  pub points : v.points.now ≡ points_of g
  pub components : v.components.now ≡ components_of g
  pub instructions : v.instructions.now ≡ instructions_of g

-- The question for glyph `i` shows the glyph at that place of those that are held, or says that there is none.
abbrev pub ShowsGlyph : List Glyph → ℕ → Option GlyphView → Type 0
ShowsGlyph gs i o = MatchOption (slice_get gs i) (o ≡ None) (λ g. MatchOption o ⊥ (Shows g))
