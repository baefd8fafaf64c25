-- What lists hold, the caller's or those that glyphs are laid into.
use Rattle.std.specs.Prelude.{◌≡◌, ℕ, List, vec_items}
use Rattle.glyph.specs.declared.component.Component.{Component}
use Rattle.glyph.specs.declared.lists.GlyphRecord.{GlyphRecord}
use Rattle.glyph.specs.declared.lists.Lists.{Lists}
use Rattle.glyph.specs.declared.lists.Point.{Point}
use Rattle.unpack.specs.declared.slots.Slots.{Slots}

pub record Contents : Type 0 where
  pub records : List GlyphRecord
  pub ends : List ℕ
  pub points : List Point
  pub components : List Component
  pub instructions : List ℕ

abbrev pub contents : List GlyphRecord → List ℕ → List Point → List Component → List ℕ → Contents
contents records ends points components instructions =
    record { records = records; ends = ends; points = points; components = components; instructions = instructions }

abbrev pub in_slots : Slots → Contents
in_slots s = contents s.records.now s.ends.now s.points.now s.components.now s.instructions.now

abbrev pub in_lists : Lists → Contents
in_lists ls =
    contents (vec_items ls.records) (vec_items ls.ends) (vec_items ls.points) (vec_items ls.components) (vec_items ls.instructions)

-- The same lists are lent, whatever they hold.
pub record SameLent (before after : Slots) : Type 0 where
  pub records : after.records.ghost_name ≡ before.records.ghost_name
  pub ends : after.ends.ghost_name ≡ before.ends.ghost_name
  pub points : after.points.ghost_name ≡ before.points.ghost_name
  pub components : after.components.ghost_name ≡ before.components.ghost_name
  pub instructions : after.instructions.ghost_name ≡ before.instructions.ghost_name
