-- Lists of chosen lengths, every place zero.
use Rattle.std.specs.Prelude.{◌≡◌, false, replicate, pos, vec_items}
use Rattle.binary.specs.declared.LongHorMetric.{LongHorMetric}
use Rattle.glyph.specs.Glyphs.{empty}
use Rattle.glyph.specs.Records.{record_of, start}
use Rattle.glyph.specs.declared.component.Component.{Component}
use Rattle.glyph.specs.declared.component.CompositeGlyphArgument.TheVariants.{U8}
use Rattle.glyph.specs.declared.component.CompositeGlyphScale.TheVariants.{None}
use Rattle.glyph.specs.declared.lists.Lists.{Lists}
use Rattle.glyph.specs.declared.lists.Point.{Point}
use Rattle.room.specs.declared.room.Room.{Room}

abbrev pub zero_point : Point
zero_point = record { x = pos 0; y = pos 0; on_curve = false }

abbrev pub zero_component : Component
zero_component = record { flags = 0; glyph_index = 0; argument1 = U8 0; argument2 = U8 0; scale = None }

abbrev pub zero_metric : LongHorMetric
zero_metric = record { advance_width = 0; lsb = pos 0 }

-- A zero record is that of an empty glyph at the first places.
pub record Zeroed (room : Room) (ls : Lists) : Type 0 where
  pub records : vec_items ls.records ≡ replicate room.records (record_of start empty)
  pub ends : vec_items ls.ends ≡ replicate room.ends 0
  pub points : vec_items ls.points ≡ replicate room.points zero_point
  pub components : vec_items ls.components ≡ replicate room.components zero_component
  pub instructions : vec_items ls.instructions ≡ replicate room.instructions 0
  pub full : vec_items ls.full ≡ replicate room.full zero_metric
  pub tail : vec_items ls.tail ≡ replicate room.tail (pos 0)
