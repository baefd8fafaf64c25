-- Where glyphs lie in the lists.
use Rattle.std.specs.Prelude.{◌≡◌, ℕ, ◌+◌, min, Bool, cond, ◌&&◌, List, [], ◌∷◌, length, Ok, Err, vec_items, Result, MatchResult, nat_le}
use Rattle.std.specs.List.{flat_map}
use Rattle.glyph.specs.Causes.{too_short}
use Rattle.glyph.specs.Glyphs.{box_of, components_of, ends_of, Glyph, instructions_of, kind_of, points_of}
use Rattle.glyph.specs.Laying.{filled}
use Rattle.glyph.specs.declared.lists.GlyphRecord.{GlyphRecord}
use Rattle.glyph.specs.declared.lists.Lists.{Lists}
use Rattle.glyph.specs.declared.lists.Part.{Part}
use Rattle.glyph.specs.declared.places.Places.{Places}
use Rattle.glyph.specs.declared.refusal.Refusal.{Refusal}

abbrev pub start : Places
start = record { ends = 0; points = 0; components = 0; instructions = 0 }

-- The first free places behind a glyph that lies from `at` on.
abbrev pub behind : Places → Glyph → Places
behind at g =
    record {
      ends = at.ends + length (ends_of g);
      points = at.points + length (points_of g);
      components = at.components + length (components_of g);
      instructions = at.instructions + length (instructions_of g);
    }

abbrev pub part : ℕ → ℕ → Part
part start len = record { start = start; len = len }

-- The record of a glyph that lies from `at` on.
abbrev pub record_of : Places → Glyph → GlyphRecord
record_of at g =
    record {
      kind = kind_of g;
      bbox = box_of g;
      ends = part at.ends (length (ends_of g));
      points = part at.points (length (points_of g));
      components = part at.components (length (components_of g));
      instructions = part at.instructions (length (instructions_of g));
    }

-- The records of glyphs that lie one behind the other, without gaps.
abbrev pub records_of : Places → List Glyph → List GlyphRecord
records_of at [] = []
records_of at (g ∷ gs) = record_of at g ∷ records_of (behind at g) gs

-- At most this many places of a list count, however long it is.
abbrev pub places : {A : Type 0} → List A → ℕ
places xs = min 16777216 (length xs)

-- How many places glyphs need of each list.
abbrev pub needed : List Glyph → Places
needed gs =
    record {
      ends = length (flat_map ends_of gs);
      points = length (flat_map points_of gs);
      components = length (flat_map components_of gs);
      instructions = length (flat_map instructions_of gs);
    }

-- The lists have as many places.
abbrev pub room_for : ℕ → Places → Lists → Bool
room_for glyphs at ls =
    nat_le glyphs (places (vec_items ls.records))
    && (nat_le at.ends (places (vec_items ls.ends))
    && (nat_le at.points (places (vec_items ls.points))
    && (nat_le at.components (places (vec_items ls.components))
    && nat_le at.instructions (places (vec_items ls.instructions)))))

-- The lists have a place for every glyph, end, point, component and instruction byte.
abbrev pub has_room : List Glyph → Lists → Bool
has_room gs ls = room_for (length gs) (needed gs) ls

-- Glyphs fill the lists from place 0 on, without gaps. No other place is changed.
pub record Fills (gs : List Glyph) (before after : Lists) : Type 0 where
  pub records : vec_items after.records ≡ filled (records_of start gs) (vec_items before.records)
  pub ends : vec_items after.ends ≡ filled (flat_map ends_of gs) (vec_items before.ends)
  pub points : vec_items after.points ≡ filled (flat_map points_of gs) (vec_items before.points)
  pub components : vec_items after.components ≡ filled (flat_map components_of gs) (vec_items before.components)
  pub instructions : vec_items after.instructions ≡ filled (flat_map instructions_of gs) (vec_items before.instructions)
  pub full : after.full ≡ before.full
  pub tail : after.tail ≡ before.tail

-- Glyphs that were read have room in the lists, or the lists are too short.
abbrev pub fitting : Lists → List Glyph → Result (List Glyph) Refusal
fitting ls gs = cond (has_room gs ls) (Ok gs) (Err too_short)

-- A call that reads glyphs: they fill the lists and their number is told, or it is refused and the lists are as found.
abbrev pub ReadInto : Result (List Glyph) Refusal → Lists → Result ℕ Refusal → Lists → Type 0
ReadInto said before r after =
    MatchResult said (λ gs. (r ≡ Ok (length gs)) × Fills gs before after) (λ e. (r ≡ Err e) × (after ≡ before))
