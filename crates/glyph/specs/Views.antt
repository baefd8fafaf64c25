-- What is shown of a glyph.
use Rattle.std.specs.Prelude.{◌≡◌, Bool, ◌&&◌, None, vec_items, MatchBool, Option, MatchOption}
use Rattle.glyph.specs.Parts.{held, inside}
use Rattle.glyph.specs.declared.lists.GlyphRecord.{GlyphRecord}
use Rattle.glyph.specs.declared.lists.Lists.{Lists}
use Rattle.glyph.specs.declared.view.GlyphView.{GlyphView}

-- All parts of a glyph lie inside their lists.
abbrev pub parts_inside : GlyphRecord → Lists → Bool
parts_inside r ls =
    inside r.ends (vec_items ls.ends)
    && (inside r.points (vec_items ls.points)
    && (inside r.components (vec_items ls.components)
    && inside r.instructions (vec_items ls.instructions)))

-- A view of a glyph shows what its record says, and its parts of the lists.
pub record Viewed (r : GlyphRecord) (ls : Lists) (v : GlyphView) : Type 0 where
  pub kind : v.kind ≡ r.kind
  pub bbox : v.bbox ≡ r.bbox
  pub ends : v.ends.now ≡ held r.ends (vec_items ls.ends)
  pub points : v.points.now ≡ held r.points (vec_items ls.points)
  pub components : v.components.now ≡ held r.components (vec_items ls.components)
  pub instructions : v.instructions.now ≡ held r.instructions (vec_items ls.instructions)

-- What is shown of a record: its glyph, or nothing where a part of it lies outside its list.
abbrev pub Shown : GlyphRecord → Lists → Option GlyphView → Type 0
Shown r ls o = MatchBool (parts_inside r ls) (MatchOption o ⊥ (λ v. Viewed r ls v)) (o ≡ None)
