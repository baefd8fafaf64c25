-- What a glyph takes of the lists.
use Rattle.std.specs.Prelude.{◌≡◌, ℕ, ◌+◌, ◌≤◌, Bool, true, false, cond, List, [], length, take, drop, Some, None, Ok, Err, Option, Result, MatchResult, nat_le}
use Rattle.binary.specs.declared.BoundingBox.{BoundingBox}
use Rattle.glyph.specs.Bounds.{bounds}
use Rattle.glyph.specs.Glyphs.{box_of, components_of, ends_of, Glyph, instructions_of, kind_of, points_of}
use Rattle.glyph.specs.Laying.{laid}
use Rattle.glyph.specs.Records.{part}
use Rattle.glyph.specs.declared.lists.GlyphRecord.{GlyphRecord}
use Rattle.glyph.specs.declared.lists.Point.{Point}
use Rattle.glyph.specs.declared.places.Places.{Places}
use Rattle.read.specs.Answers.{then}
use Rattle.read.specs.declared.error.ParseError.{ParseError}
use Rattle.unpack.specs.Contents.{Contents}
use Rattle.unpack.specs.Glyphs.{box_front}
use Rattle.unpack.specs.Rests.{Rest}
use Rattle.unpack.specs.declared.taken.Taken.{Taken}

-- A glyph's own box, if its bit is set.
abbrev pub box_field : Bool → List ℕ → Result (Option BoundingBox × List ℕ) ParseError
box_field true bs = then (box_front bs) (λ p. Ok (Some p.0, p.1))
box_field false bs = Ok (None, bs)

abbrev pub taken_by : Bool → Glyph → Taken
taken_by boxed g =
    record {
      kind = kind_of g;
      bbox = cond boxed (Some (box_of g)) None;
      ends = length (ends_of g);
      points = length (points_of g);
      components = length (components_of g);
      instructions = length (instructions_of g);
    }

-- The glyph's ends, points, components and instructions are laid from the places `at` on.
pub record GlyphLaid (at : Places) (g : Glyph) (before after : Contents) : Type 0 where
  pub ends_laid : after.ends ≡ laid at.ends (ends_of g) before.ends
  pub points_laid : after.points ≡ laid at.points (points_of g) before.points
  pub components_laid : after.components ≡ laid at.components (components_of g) before.components
  pub hints_laid : after.instructions ≡ laid at.instructions (instructions_of g) before.instructions

-- A read of a glyph: it is laid from the places `at` on, without its record. It has at most as many components as bytes
-- were read of them.
abbrev pub GlyphRead : Bool → Result (Glyph × Rest) ParseError → Places → Rest → Rest → Contents → Contents → Result Taken ParseError → Type 0
GlyphRead boxed said at s s' before after r =
    MatchResult said
    (λ p.
    (r ≡ Ok (taken_by boxed p.0)) × (s' ≡ p.1) × GlyphLaid at p.0 before after
    × (after.records ≡ before.records) × (length s'.composites + length (components_of p.0) ≤ length s.composites))
    (λ e. r ≡ Err e)

-- A glyph's points, where the list has them all.
abbrev pub own_points : List Point → ℕ → ℕ → List Point
own_points ps start len = cond (nat_le (start + len) (length ps)) (take len (drop start ps)) []

-- The glyph's own box, or the one around its points.
abbrev pub box_by : Option BoundingBox → List Point → BoundingBox
box_by (Some b) ps = b
box_by None ps = bounds ps

abbrev pub record_by : Taken → List Point → Places → GlyphRecord
record_by t ps at =
    record {
      kind = t.kind;
      bbox = box_by t.bbox (own_points ps at.points t.points);
      ends = part at.ends t.ends;
      points = part at.points t.points;
      components = part at.components t.components;
      instructions = part at.instructions t.instructions;
    }

-- The places behind what a glyph takes.
abbrev pub taken_behind : Places → Taken → Places
taken_behind at t =
    record {
      ends = at.ends + t.ends;
      points = at.points + t.points;
      components = at.components + t.components;
      instructions = at.instructions + t.instructions;
    }
