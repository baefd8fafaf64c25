-- The test whether lists hold glyphs, record by record.
use Rattle.std.specs.Prelude.{ℕ, zero, suc, Bool, true, false, not, ◌&&◌, ◌||◌, List, [], ◌∷◌, length, take, ℤ, pos, negsuc, ◌-ℤ◌, vec_items, ◌==◌, nat_le}
use Rattle.std.specs.List.{list_all, list_any}
use Rattle.binary.specs.declared.BoundingBox.{BoundingBox}
use Rattle.composite.specs.Components.{has}
use Rattle.glyph.specs.Outlines.{origin, placed, points_in}
use Rattle.glyph.specs.Parts.{end, held as cut}
use Rattle.glyph.specs.Records.{places, start}
use Rattle.glyph.specs.declared.component.Component.{Component}
use Rattle.glyph.specs.declared.lists.GlyphKind.{GlyphKind}
use Rattle.glyph.specs.declared.lists.GlyphKind.TheVariants.{Composite, Empty, Simple}
use Rattle.glyph.specs.declared.lists.GlyphRecord.{GlyphRecord}
use Rattle.glyph.specs.declared.lists.Lists.{Lists}
use Rattle.glyph.specs.declared.lists.Part.{Part}
use Rattle.glyph.specs.declared.lists.Point.{Point}
use Rattle.glyph.specs.declared.places.Places.{Places}
use Rattle.held.specs.Sound.{component_sound}

abbrev pub step_fits : Point → Point → Bool
step_fits last p = placed (p.x -ℤ last.x) && placed (p.y -ℤ last.y)

abbrev pub steps_fit : Point → List Point → Bool
steps_fit last [] = true
steps_fit last (p ∷ ps) = step_fits last p && steps_fit p ps

abbrev pub outline_sound : List ℕ → List Point → Bool
outline_sound ends points =
    nat_le (length ends) 32767 && ((length points == points_in ends) && steps_fit origin points)

-- Components of which just the last lacks MORE_COMPONENTS; `more` says whether another must follow.
abbrev pub chained_on : Bool → List Component → Bool
chained_on more [] = not more
chained_on more (c ∷ cs) = more && chained_on (has c.flags 0x0020) cs

abbrev pub parts_sound : List Component → List ℕ → Bool
parts_sound parts hints =
    chained_on true parts
    && (list_all component_sound parts
    && (nat_le (length hints) 65535
    && (list_any (λ c. has c.flags 0x0100) parts || (length hints == 0))))

abbrev pub is_zero : ℤ → Bool
is_zero (pos zero) = true
is_zero (pos (suc n)) = false
is_zero (negsuc n) = false

abbrev pub box_zero : BoundingBox → Bool
box_zero b =
    is_zero b.x_min && (is_zero b.y_min && (is_zero b.x_max && is_zero b.y_max))

abbrev pub none : {A : Type 0} → List A → Bool
none xs = length xs == 0

-- A glyph by its kind, its box, and what it has of each list.
abbrev pub glyph_sound : GlyphKind → BoundingBox → List ℕ → List Point → List Component → List ℕ → Bool
glyph_sound Empty box ends points parts hints =
    box_zero box && (none ends && (none points && (none parts && none hints)))
glyph_sound Simple box ends points parts hints =
    none parts && (outline_sound ends points && nat_le (length hints) 65535)
glyph_sound Composite box ends points parts hints = none ends && (none points && parts_sound parts hints)

-- A part of a list begins at a place and lies inside.
abbrev pub lies : {A : Type 0} → ℕ → Part → List A → Bool
lies at p xs = (p.start == at) && nat_le (end p) (places xs)

abbrev pub parts_lie : Places → GlyphRecord → Lists → Bool
parts_lie at r ls =
    lies at.ends r.ends (vec_items ls.ends)
    && (lies at.points r.points (vec_items ls.points)
    && (lies at.components r.components (vec_items ls.components)
    && lies at.instructions r.instructions (vec_items ls.instructions)))

-- A record of a glyph that lies from `at` on.
abbrev pub record_held : Places → GlyphRecord → Lists → Bool
record_held at r ls =
    parts_lie at r ls
    && glyph_sound r.kind r.bbox (cut r.ends (vec_items ls.ends)) (cut r.points (vec_items ls.points)) (cut r.components (vec_items ls.components)) (cut r.instructions (vec_items ls.instructions))

-- The first free places behind the glyph of a record.
abbrev pub past : GlyphRecord → Places
past r =
    record {
      ends = end r.ends;
      points = end r.points;
      components = end r.components;
      instructions = end r.instructions;
    }

-- Records of glyphs that lie one behind the other.
abbrev pub records_held : Places → List GlyphRecord → Lists → Bool
records_held at [] ls = true
records_held at (r ∷ rs) ls = record_held at r ls && records_held (past r) rs ls

-- The first `n` records are those of glyphs, from place 0 on.
abbrev pub held : ℕ → Lists → Bool
held n ls = nat_le n (places (vec_items ls.records)) && records_held start (take n (vec_items ls.records)) ls
