-- The tests of a glyph pass exactly where its rules hold.
use Rattle.std.proofs.Common.{◌≡◌, ℕ, zero, suc, Bool, true, false, ◌&&◌, ◌||◌, eqb, leb, List, [], ◌∷◌, length, ℤ, pos, negsuc, ◌-ℤ◌, sym, refl, ap, ◌∙◌, arith, eq-eqb, eqb-true, le-leb, leb-true}
use Rattle.std.proofs.lemmas.List.{nil_from_length}
use Rattle.std.proofs.lemmas.Bool.{not_from_false, not-true}
use Rattle.std.specs.List.{AllByRecursion, list_all, list_any}
use Rattle.binary.specs.declared.BoundingBox.{BoundingBox}
use Rattle.composite.specs.Chains.{Chained, marked}
use Rattle.composite.specs.Components.{has}
use Rattle.glyph.proofs.Outlines.{placed_at, placed_ok}
use Rattle.glyph.specs.Glyphs.{box_of, components_of, composite, empty, ends_of, Glyph, instructions_of, kind_of, no_box, points_of, simple}
use Rattle.glyph.specs.Outlines.{origin, placed, points_in}
use Rattle.glyph.specs.declared.component.Component.{Component}
use Rattle.glyph.specs.declared.lists.GlyphKind.{GlyphKind}
use Rattle.glyph.specs.declared.lists.GlyphKind.TheVariants.{Composite, Empty, Simple}
use Rattle.glyph.specs.declared.lists.Point.{Point}
use Rattle.std.proofs.lemmas.Bool.{and_from}
use Rattle.read.proofs.Tests.{both_true}
use Rattle.held.specs.Sound.{component_sound, Sound, StepsInRange}
use Rattle.held.specs.Tests.{box_zero, chained_on, glyph_sound, is_zero, none, outline_sound, step_fits, steps_fit}

steps_ok : (last : Point) (ps : List Point) → steps_fit last ps ≡ true → StepsInRange last ps
steps_ok last [] h = tt
steps_ok last (p ∷ ps) h =
    let b = both_true (step_fits last p) (steps_fit p ps) h in
    let s = both_true (placed (p.x -ℤ last.x)) (placed (p.y -ℤ last.y)) b.0 in
    (placed_ok (p.x -ℤ last.x) s.0, placed_ok (p.y -ℤ last.y) s.1, steps_ok p ps b.1)

steps_at : (last : Point) (ps : List Point) → StepsInRange last ps → steps_fit last ps ≡ true
steps_at last [] h = refl
steps_at last (p ∷ ps) h =
    and_from (step_fits last p) (steps_fit p ps)
    (and_from (placed (p.x -ℤ last.x)) (placed (p.y -ℤ last.y)) (placed_at (p.x -ℤ last.x) h.0) (placed_at (p.y -ℤ last.y) h.1))
    (steps_at p ps h.2)

chained_ok : (cs : List Component) → chained_on true cs ≡ true → Chained cs
chained_ok [] h = let z : ◌≡◌ {A = ℕ} 0 1 = cc in absurd (omega arith)
chained_ok (c ∷ []) h = not-true (has c.flags 0x0020) h
chained_ok (c ∷ (d ∷ cs)) h =
    let b = both_true (has c.flags 0x0020) (chained_on (has d.flags 0x0020) cs) h in
    (b.0, chained_ok (d ∷ cs) b.1)

chained_at : (cs : List Component) → Chained cs → chained_on true cs ≡ true
chained_at [] h = absurd h
chained_at (c ∷ []) h = not_from_false (has c.flags 0x0020) h
chained_at (c ∷ (d ∷ cs)) h =
    and_from (has c.flags 0x0020) (chained_on (has d.flags 0x0020) cs) h.0 (chained_at (d ∷ cs) h.1)

abbrev Fits : Component → Type 0
Fits c = component_sound c ≡ true

and_true : (a b : Bool) → (a && b) ≡ true → (a ≡ true) × (b ≡ true)
and_true true b h = (refl, h)
and_true false b h = let z : ◌≡◌ {A = ℕ} 0 1 = cc in absurd (omega arith)

each_ok : (cs : List Component) → list_all component_sound cs ≡ true → AllByRecursion Fits cs
each_ok [] h = tt
each_ok (c ∷ cs) h = let b = and_true (component_sound c) (list_all component_sound cs) h in (b.0, each_ok cs b.1)

each_at : (cs : List Component) → AllByRecursion Fits cs → list_all component_sound cs ≡ true
each_at [] h = refl
each_at (c ∷ cs) h = rw h.0 (each_at cs h.1)

abbrev marks : Component → Bool
marks c = has c.flags 0x0100

or_either : (a b c : Bool) → b ≡ c → (a || b) ≡ (a || c)
or_either true b c e = refl
or_either false b c e = e

any_marked : (cs : List Component) → list_any marks cs ≡ marked cs
any_marked [] = refl
any_marked (c ∷ cs) = or_either (marks c) (list_any marks cs) (marked cs) (any_marked cs)

none_ok : {A : Type 0} (xs : List A) → none xs ≡ true → [] ≡ xs
none_ok xs h = sym (nil_from_length xs (eqb-true (length xs) 0 h))

unmarked_ok : (b : Bool) (hs : List ℕ) → (b || none hs) ≡ true → b ≡ false → hs ≡ []
unmarked_ok true hs h e = let z : ◌≡◌ {A = ℕ} 0 1 = cc in absurd (omega arith)
unmarked_ok false hs h e = sym (none_ok hs h)

unmarked_at : (b : Bool) (hs : List ℕ) → (b ≡ false → hs ≡ []) → (b || none hs) ≡ true
unmarked_at true hs h = refl
unmarked_at false hs h = ap none (h refl)

zero_ok : (z : ℤ) → is_zero z ≡ true → pos 0 ≡ z
zero_ok (pos zero) h = refl
zero_ok (pos (suc n)) h = let z : ◌≡◌ {A = ℕ} 0 1 = cc in absurd (omega arith)
zero_ok (negsuc n) h = let z : ◌≡◌ {A = ℕ} 0 1 = cc in absurd (omega arith)

abbrev box : ℤ → ℤ → ℤ → ℤ → BoundingBox
box a b c d = record { x_min = a; y_min = b; x_max = c; y_max = d }

box_ok : (b : BoundingBox) → box_zero b ≡ true → no_box ≡ b
box_ok b h =
    let h0 = both_true (is_zero b.x_min) _ h in
    let h1 = both_true (is_zero b.y_min) _ h0.1 in
    let h2 = both_true (is_zero b.x_max) (is_zero b.y_max) h1.1 in
    let same : box (pos 0) (pos 0) (pos 0) (pos 0) ≡ box b.x_min b.y_min b.x_max b.y_max = cc (zero_ok b.x_min h0.0, zero_ok b.y_min h1.0, zero_ok b.x_max h2.0, zero_ok b.y_max h2.1) in
    same

-- A glyph by its kind, its box, and what it has of each list.
abbrev pub glyph_by : GlyphKind → BoundingBox → List ℕ → List Point → List Component → List ℕ → Glyph
glyph_by Empty box ends points parts hints = empty
glyph_by Simple box ends points parts hints = simple box ends points hints
glyph_by Composite box ends points parts hints = composite box parts hints

pub record IsGlyph (g : Glyph) (k : GlyphKind) (b : BoundingBox) (ends : List ℕ) (points : List Point) (parts : List Component) (hints : List ℕ) : Type 0 where
  pub kind_is : kind_of g ≡ k
  pub box_is : box_of g ≡ b
  pub ends_are : ends_of g ≡ ends
  pub points_are : points_of g ≡ points
  pub parts_are : components_of g ≡ parts
  pub hints_are : instructions_of g ≡ hints
  pub sound : Sound g

-- A glyph that passes the test is sound, and has all that was tested.
pub passed : (k : GlyphKind) (b : BoundingBox) (es : List ℕ) (ps : List Point) (cs : List Component) (hs : List ℕ) → glyph_sound k b es ps cs hs ≡ true → IsGlyph (glyph_by k b es ps cs hs) k b es ps cs hs
passed Empty b es ps cs hs h =
    let h0 = both_true (box_zero b) _ h in
    let h1 = both_true (none es) _ h0.1 in
    let h2 = both_true (none ps) _ h1.1 in
    let h3 = both_true (none cs) (none hs) h2.1 in
    record {
      kind_is = refl;
      box_is = box_ok b h0.0;
      ends_are = none_ok es h1.0;
      points_are = none_ok ps h2.0;
      parts_are = none_ok cs h3.0;
      hints_are = none_ok hs h3.1;
      sound = tt;
    }
passed Simple b es ps cs hs h =
    let h0 = both_true (none cs) _ h in
    let h1 = both_true (outline_sound es ps) (leb (length hs) 65535) h0.1 in
    let h2 = both_true (leb (length es) 32767) _ h1.0 in
    let h3 = both_true (eqb (length ps) (points_in es)) (steps_fit origin ps) h2.1 in
    record {
      kind_is = refl;
      box_is = refl;
      ends_are = refl;
      points_are = refl;
      parts_are = none_ok cs h0.0;
      hints_are = refl;
      sound = record {
        contours = leb-true (length es) 32767 h2.0;
        as_many = eqb-true (length ps) (points_in es) h3.0;
        steps = steps_ok origin ps h3.1;
        instructions = leb-true (length hs) 65535 h1.1;
      };
    }
passed Composite b es ps cs hs h =
    let h0 = both_true (none es) _ h in
    let h1 = both_true (none ps) _ h0.1 in
    let h2 = both_true (chained_on true cs) _ h1.1 in
    let h3 = both_true (list_all component_sound cs) _ h2.1 in
    let h4 = both_true (leb (length hs) 65535) (list_any marks cs || none hs) h3.1 in
    record {
      kind_is = refl;
      box_is = refl;
      ends_are = none_ok es h0.0;
      points_are = none_ok ps h1.0;
      parts_are = refl;
      hints_are = refl;
      sound = record {
        chained = chained_ok cs h2.0;
        each = each_ok cs h3.0;
        instructions = leb-true (length hs) 65535 h4.0;
        unmarked = (λ e. unmarked_ok (list_any marks cs) hs h4.1 (any_marked cs ∙ e));
      };
    }

-- A sound glyph passes.
pub passes : (g : Glyph) → Sound g → glyph_sound (kind_of g) (box_of g) (ends_of g) (points_of g) (components_of g) (instructions_of g) ≡ true
passes empty s = refl
passes (simple b es ps hs) s =
    and_from (outline_sound es ps) (leb (length hs) 65535)
    (and_from (leb (length es) 32767) _ (le-leb (length es) 32767 s.contours)
    (and_from (eqb (length ps) (points_in es)) (steps_fit origin ps) (eq-eqb (length ps) (points_in es) s.as_many) (steps_at origin ps s.steps)))
    (le-leb (length hs) 65535 s.instructions)
passes (composite b cs hs) s =
    and_from (chained_on true cs) _ (chained_at cs s.chained)
    (and_from (list_all component_sound cs) _ (each_at cs s.each)
    (and_from (leb (length hs) 65535) (list_any marks cs || none hs) (le-leb (length hs) 65535 s.instructions) (unmarked_at (list_any marks cs) hs (λ e. s.unmarked (sym (any_marked cs) ∙ e)))))

pub glyph_again : (g : Glyph) → glyph_by (kind_of g) (box_of g) (ends_of g) (points_of g) (components_of g) (instructions_of g) ≡ g
glyph_again empty = refl
glyph_again (simple b es ps hs) = refl
glyph_again (composite b cs hs) = refl
