-- What is left of all streams, and what a glyph takes, from their parts.
use Rattle.std.proofs.Common.{◌≡◌, ℕ, List, Option}
use Rattle.binary.specs.declared.BoundingBox.{BoundingBox}
use Rattle.glyph.specs.declared.lists.GlyphKind.{GlyphKind}
use Rattle.unpack.specs.Rests.{Rest}
use Rattle.unpack.specs.declared.taken.Taken.{Taken}

abbrev pub rest : List ℕ → List ℕ → List ℕ → List ℕ → List ℕ → List ℕ → List ℕ → Rest
rest a b c d e f g =
    record { contours = a; points = b; flags = c; glyphs = d; composites = e; boxes = f; instructions = g }

unfoldable rest_of : List ℕ → List ℕ → List ℕ → List ℕ → List ℕ → List ℕ → List ℕ → Rest
rest_of a b c d e f g = rest a b c d e f g

pub same_rest : (s t : Rest) → s.contours ≡ t.contours → s.points ≡ t.points → s.flags ≡ t.flags → s.glyphs ≡ t.glyphs → s.composites ≡ t.composites → s.boxes ≡ t.boxes → s.instructions ≡ t.instructions → s ≡ t
unfolding rest_of
same_rest s t a b c d e f g =
    let h : rest_of s.contours s.points s.flags s.glyphs s.composites s.boxes s.instructions ≡ rest_of t.contours t.points t.flags t.glyphs t.composites t.boxes t.instructions = cc in
    h

unfoldable taken_of : GlyphKind → Option BoundingBox → ℕ → ℕ → ℕ → ℕ → Taken
taken_of k b e p c i = record { kind = k; bbox = b; ends = e; points = p; components = c; instructions = i }

pub same_taken : (s t : Taken) → s.kind ≡ t.kind → s.bbox ≡ t.bbox → s.ends ≡ t.ends → s.points ≡ t.points → s.components ≡ t.components → s.instructions ≡ t.instructions → s ≡ t
unfolding taken_of
same_taken s t a b c d e f =
    let h : taken_of s.kind s.bbox s.ends s.points s.components s.instructions ≡ taken_of t.kind t.bbox t.ends t.points t.components t.instructions = cc in
    h
