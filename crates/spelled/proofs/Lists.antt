-- Glyphs one after the other, and the pieces that spell them.
use Rattle.std.proofs.Common.{◌≡◌, ℕ, suc, Bool, List, [], ◌∷◌, ◌++◌, map, length, Ok, Err, Result, sym, refl, ap, ◌∙◌, arith}
use Rattle.std.proofs.lemmas.List.{append_assoc, append-nil}
use Rattle.std.specs.List.{flat_map}
use Rattle.read.proofs.Thens.{then_accepted}
use Rattle.glyph.specs.Causes.{at_glyph}
use Rattle.glyph.specs.Glyphs.{Glyph}
use Rattle.read.specs.declared.error.ParseError.{ParseError}
use Rattle.unpack.specs.Glyphs.{glyph_said, glyphs_said}
use Rattle.unpack.specs.Rests.{Rest}
use Rattle.unpack.specs.Spelled.{Begins, Piece, SpellEach, StreamsBegin}
use Rattle.spelled.proofs.Glyphs.{Cuts, glyph_at, glyph_ok}

pub at_glyph_ok : {A : Type 0} (i : ℕ) (r : Result A ParseError) (x : A) → at_glyph i r ≡ Ok x → r ≡ Ok x
at_glyph_ok i (Ok y) x e = cc
at_glyph_ok i (Err d) x e = let z : ◌≡◌ {A = ℕ} 0 1 = cc in absurd (omega arith)

begins_more : (bs p rest q : List ℕ) → bs ≡ p ++ rest → Begins q rest → Begins (p ++ q) bs
begins_more bs p rest q e h = (h.0, e ∙ (ap (λ (x : List ℕ). p ++ x) h.1 ∙ sym (append_assoc p q h.0)))

streams_more : (p : Piece) (ps : List Piece) (s rest : Rest) → Cuts p s rest → StreamsBegin ps rest → StreamsBegin (p ∷ ps) s
streams_more p ps s rest k h =
    record {
      contours = begins_more s.contours p.contours rest.contours (flat_map (λ (x : Piece). x.contours) ps) k.contours h.contours;
      points = begins_more s.points p.points rest.points (flat_map (λ (x : Piece). x.points) ps) k.points h.points;
      flags = begins_more s.flags p.flags rest.flags (flat_map (λ (x : Piece). x.flags) ps) k.flags h.flags;
      glyphs = begins_more s.glyphs p.glyphs rest.glyphs (flat_map (λ (x : Piece). x.glyphs) ps) k.glyphs h.glyphs;
      composites = begins_more s.composites p.composites rest.composites (flat_map (λ (x : Piece). x.composites) ps) k.composites h.composites;
      boxes = begins_more s.boxes p.boxes rest.boxes (flat_map (λ (x : Piece). x.boxes) ps) k.boxes h.boxes;
      instructions = begins_more s.instructions p.instructions rest.instructions (flat_map (λ (x : Piece). x.instructions) ps) k.instructions h.instructions;
    }

-- Glyphs that were read, behind those in `gs`, are spelled by pieces of the streams.
pub glyphs_ok : (bits : List Bool) (gs : List Glyph) (s : Rest) (all : List Glyph) → glyphs_said bits gs s ≡ Ok all → (new : List Glyph) × (ps : List Piece) × (all ≡ gs ++ new) × (length new ≡ length bits) × SpellEach new ps × (map (λ p. p.boxed) ps ≡ bits) × StreamsBegin ps s
glyphs_ok [] gs s all e =
    let f : gs ≡ all = cc in (
      [],
      [],
      sym f ∙ sym (append-nil gs),
      refl,
      tt,
      refl,
      record {
        contours = (s.contours, refl);
        points = (s.points, refl);
        flags = (s.flags, refl);
        glyphs = (s.glyphs, refl);
        composites = (s.composites, refl);
        boxes = (s.boxes, refl);
        instructions = (s.instructions, refl);
      },
    )
glyphs_ok (b ∷ bits) gs s all e =
    let f = then_accepted (at_glyph (length gs) (glyph_said b s)) (λ (q : Glyph × Rest). glyphs_said bits (gs ++ q.0 ∷ []) q.1) all e in
    let q = f.0 in
    let g = glyph_ok b s q (at_glyph_ok (length gs) (glyph_said b s) q f.1) in
    let i = glyphs_ok bits (gs ++ q.0 ∷ []) q.1 all f.2 in
    let m : map (λ (p : Piece). p.boxed) (g.0 ∷ i.1) ≡ b ∷ bits =
    ap (λ (x : Bool). x ∷ map (λ (p : Piece). p.boxed) i.1) g.1 ∙ ap (λ (x : List Bool). b ∷ x) i.5
    in (
      q.0 ∷ i.0,
      g.0 ∷ i.1,
      i.2 ∙ append_assoc gs (q.0 ∷ []) i.0,
      ap suc i.3,
      (g.2, i.4),
      m,
      streams_more g.0 i.1 s q.1 g.3 i.6,
    )

-- What is left of the streams behind the first piece.
abbrev behind : (p : Piece) (ps : List Piece) (s : Rest) → StreamsBegin (p ∷ ps) s → Rest
behind p ps s h =
    record {
      contours = flat_map (λ x. x.contours) ps ++ h.contours.0;
      points = flat_map (λ x. x.points) ps ++ h.points.0;
      flags = flat_map (λ x. x.flags) ps ++ h.flags.0;
      glyphs = flat_map (λ x. x.glyphs) ps ++ h.glyphs.0;
      composites = flat_map (λ x. x.composites) ps ++ h.composites.0;
      boxes = flat_map (λ x. x.boxes) ps ++ h.boxes.0;
      instructions = flat_map (λ x. x.instructions) ps ++ h.instructions.0;
    }

cut_one : (bs p q : List ℕ) (h : Begins (p ++ q) bs) → bs ≡ p ++ (q ++ h.0)
cut_one bs p q h = h.1 ∙ append_assoc p q h.0

cuts_one : (p : Piece) (ps : List Piece) (s : Rest) (h : StreamsBegin (p ∷ ps) s) → Cuts p s (behind p ps s h)
cuts_one p ps s h =
    record {
      contours = cut_one s.contours p.contours (flat_map (λ (x : Piece). x.contours) ps) h.contours;
      points = cut_one s.points p.points (flat_map (λ (x : Piece). x.points) ps) h.points;
      flags = cut_one s.flags p.flags (flat_map (λ (x : Piece). x.flags) ps) h.flags;
      glyphs = cut_one s.glyphs p.glyphs (flat_map (λ (x : Piece). x.glyphs) ps) h.glyphs;
      composites = cut_one s.composites p.composites (flat_map (λ (x : Piece). x.composites) ps) h.composites;
      boxes = cut_one s.boxes p.boxes (flat_map (λ (x : Piece). x.boxes) ps) h.boxes;
      instructions = cut_one s.instructions p.instructions (flat_map (λ (x : Piece). x.instructions) ps) h.instructions;
    }

begins_behind : (p : Piece) (ps : List Piece) (s : Rest) (h : StreamsBegin (p ∷ ps) s) → StreamsBegin ps (behind p ps s h)
begins_behind p ps s h =
    record {
      contours = (h.contours.0, refl);
      points = (h.points.0, refl);
      flags = (h.flags.0, refl);
      glyphs = (h.glyphs.0, refl);
      composites = (h.composites.0, refl);
      boxes = (h.boxes.0, refl);
      instructions = (h.instructions.0, refl);
    }

-- Glyphs that pieces of the streams spell are read.
pub glyphs_at : (new : List Glyph) (ps : List Piece) (gs : List Glyph) (s : Rest) → SpellEach new ps → StreamsBegin ps s → glyphs_said (map (λ p. p.boxed) ps) gs s ≡ Ok (gs ++ new)
glyphs_at [] [] gs s h k = ap (λ (x : List Glyph). Ok x) (sym (append-nil gs))
glyphs_at [] (p ∷ ps) gs s h k = absurd h
glyphs_at (g ∷ new) [] gs s h k = absurd h
glyphs_at (g ∷ new) (p ∷ ps) gs s h k =
    let rest = behind p ps s k in
    let r : glyph_said p.boxed s ≡ Ok (g, rest) = glyph_at g p s rest (cuts_one p ps s k) h.0 in
    let i = glyphs_at new ps (gs ++ g ∷ []) rest h.1 (begins_behind p ps s k) in
    rw r (i ∙ ap (λ (x : List Glyph). Ok x) (append_assoc gs (g ∷ []) new))
