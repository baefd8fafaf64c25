-- The glyphs that lists hold.
use Rattle.std.specs.Prelude.{◌≡◌, ℕ, Bool, true, List, length, take, vec_items}
use Rattle.std.specs.List.{flat_map, AllByRecursion}
use Rattle.glyph.specs.Glyphs.{components_of, ends_of, Glyph, instructions_of, points_of}
use Rattle.glyph.specs.Records.{has_room, records_of, start}
use Rattle.glyph.specs.declared.lists.Lists.{Lists}
use Rattle.held.specs.Sound.{Sound}

-- The lists hold `n` glyphs: each by the rules, laid from place 0 on without gaps, at most 16777216 places of a list.
pub record ListsHold (n : ℕ) (ls : Lists) (gs : List Glyph) : Type 0 where
  pub count : n ≡ length gs
  pub sound : AllByRecursion Sound gs
  pub room : has_room gs ls ≡ true
  pub records : take (length gs) (vec_items ls.records) ≡ records_of start gs
  pub ends : take (length (flat_map ends_of gs)) (vec_items ls.ends) ≡ flat_map ends_of gs
  pub points : take (length (flat_map points_of gs)) (vec_items ls.points) ≡ flat_map points_of gs
  pub components : take (length (flat_map components_of gs)) (vec_items ls.components) ≡ flat_map components_of gs
  pub instructions : take (length (flat_map instructions_of gs)) (vec_items ls.instructions) ≡ flat_map instructions_of gs

-- A test of lists that passes exactly those that hold `n` glyphs.
pub record TellsHeld (n : ℕ) (ls : Lists) (r : Bool) : Type 0 where
  -- Lists hold at most one list of so many glyphs.
  pub once : (gs hs : List Glyph) → ListsHold n ls gs → ListsHold n ls hs → gs ≡ hs
  pub passed : r ≡ true → (gs : List Glyph) × ListsHold n ls gs
  pub held : (gs : List Glyph) → ListsHold n ls gs → r ≡ true
