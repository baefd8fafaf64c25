-- Glyphs that were read so far, and one more.
use Rattle.std.proofs.Common.{◌≡◌, ℕ, ◌+◌, ◌≤◌, List, [], ◌∷◌, ◌++◌, length, sym, refl, ap, ◌∙◌, arith}
use Rattle.std.proofs.lemmas.List.{append_assoc, append-nil, length-append}
use Rattle.std.specs.List.{flat_map}
use Rattle.glyph.proofs.Lays.{laid_append, laid_more, length_laid}
use Rattle.glyph.proofs.Records.{records_length}
use Rattle.glyph.specs.Glyphs.{components_of, ends_of, Glyph, instructions_of, points_of}
use Rattle.glyph.specs.Laying.{laid}
use Rattle.glyph.specs.Records.{behind, needed, record_of, records_of, start}
use Rattle.glyph.specs.declared.lists.GlyphRecord.{GlyphRecord}
use Rattle.glyph.specs.declared.places.Places.{Places}
use Rattle.unpack.specs.Contents.{Contents}
use Rattle.unpack.specs.Runs.{RunLaid}
use Rattle.unpack.specs.Taken.{GlyphLaid}

-- The places of each list behind a run of glyphs are as many as the glyphs need.
pub joined_push : {A : Type 0} (f : Glyph → List A) (gs : List Glyph) (g : Glyph) → flat_map f (gs ++ g ∷ []) ≡ flat_map f gs ++ f g
joined_push f [] g = append-nil (f g)
joined_push f (x ∷ gs) g = ap (λ ys. f x ++ ys) (joined_push f gs g) ∙ sym (append_assoc (f x) (flat_map f gs) (f g))

abbrev pub behind_all : Places → List Glyph → Places
behind_all at [] = at
behind_all at (g ∷ gs) = behind_all (behind at g) gs

records_push : (at : Places) (gs : List Glyph) (g : Glyph) → records_of at (gs ++ g ∷ []) ≡ records_of at gs ++ record_of (behind_all at gs) g ∷ []
records_push at [] g = refl
records_push at (x ∷ gs) g = ap (λ (rs : List GlyphRecord). record_of at x ∷ rs) (records_push (behind at x) gs g)

abbrev place : ℕ → ℕ → ℕ → ℕ → Places
place e p c i = record { ends = e; points = p; components = c; instructions = i }

-- The same places, from their parts.
same_places : (a b : Places) → a.ends ≡ b.ends → a.points ≡ b.points → a.components ≡ b.components → a.instructions ≡ b.instructions → a ≡ b
same_places a b e p c i =
    ap (λ (x : ℕ). place x a.points a.components a.instructions) e
    ∙ (ap (λ (x : ℕ). place b.ends x a.components a.instructions) p
    ∙ (ap (λ (x : ℕ). place b.ends b.points x a.instructions) c
    ∙ ap (λ (x : ℕ). place b.ends b.points b.components x) i))

abbrev plus : Places → List Glyph → Places
plus at gs =
    place (at.ends + length (flat_map ends_of gs)) (at.points + length (flat_map points_of gs)) (at.components + length (flat_map components_of gs)) (at.instructions + length (flat_map instructions_of gs))

all_behind : (at : Places) (gs : List Glyph) → behind_all at gs ≡ plus at gs
all_behind at [] = same_places at (plus at []) (omega arith) (omega arith) (omega arith) (omega arith)
all_behind at (g ∷ gs) =
    all_behind (behind at g) gs
    ∙ same_places (plus (behind at g) gs) (plus at (g ∷ gs)) (omega (arith, length-append (ends_of g) (flat_map ends_of gs)))
    (omega (arith, length-append (points_of g) (flat_map points_of gs)))
    (omega (arith, length-append (components_of g) (flat_map components_of gs)))
    (omega (arith, length-append (instructions_of g) (flat_map instructions_of gs)))

pub needed_behind : (gs : List Glyph) → behind_all start gs ≡ needed gs
needed_behind gs =
    all_behind start gs ∙ same_places (plus start gs) (needed gs) (omega arith) (omega arith) (omega arith) (omega arith)

pub needed_push : (gs : List Glyph) (g : Glyph) → behind (needed gs) g ≡ needed (gs ++ g ∷ [])
needed_push gs g =
    same_places (behind (needed gs) g) (needed (gs ++ g ∷ []))
    (sym (ap length (joined_push ends_of gs g) ∙ length-append (flat_map ends_of gs) (ends_of g)))
    (sym (ap length (joined_push points_of gs g) ∙ length-append (flat_map points_of gs) (points_of g)))
    (sym (ap length (joined_push components_of gs g) ∙ length-append (flat_map components_of gs) (components_of g)))
    (sym (ap length (joined_push instructions_of gs g) ∙ length-append (flat_map instructions_of gs) (instructions_of g)))

pub records_more : (gs : List Glyph) (g : Glyph) → records_of start (gs ++ g ∷ []) ≡ records_of start gs ++ record_of (needed gs) g ∷ []
records_more gs g =
    records_push start gs g ∙ ap (λ (at : Places). records_of start gs ++ record_of at g ∷ []) (needed_behind gs)

-- What is laid behind a run is laid with it.
laid_with : {A : Type 0} (f : Glyph → List A) (gs : List Glyph) (g : Glyph) (old mid new : List A) → mid ≡ laid 0 (flat_map f gs) old → new ≡ laid (length (flat_map f gs)) (f g) mid → new ≡ laid 0 (flat_map f (gs ++ g ∷ [])) old
laid_with f gs g old mid new before put =
    put
    ∙ (ap (laid (length (flat_map f gs)) (f g)) before
    ∙ (sym (laid_append 0 (length (flat_map f gs)) (flat_map f gs) (f g) old (omega arith))
    ∙ ap (λ xs. laid 0 xs old) (sym (joined_push f gs g))))

-- One glyph more behind a run that is laid.
module _ (gs : List Glyph) (g : Glyph) (i : ℕ) (at : Places) (count : length gs ≡ i) (places : at ≡ needed gs) (old mid new : Contents) where
  pub run_more : RunLaid gs old mid → GlyphLaid at g mid new → (at.points + length (points_of g) ≤ length mid.points → new.records ≡ laid i (record_of at g ∷ []) mid.records) → RunLaid (gs ++ g ∷ []) old new
  run_more run put rec =
      record {
        ends_laid = laid_with ends_of gs g old.ends mid.ends new.ends run.ends_laid (put.ends_laid ∙ ap (λ (p : Places). laid p.ends (ends_of g) mid.ends) places);
        points_laid = laid_with points_of gs g old.points mid.points new.points run.points_laid (put.points_laid ∙ ap (λ (p : Places). laid p.points (points_of g) mid.points) places);
        components_laid = laid_with components_of gs g old.components mid.components new.components run.components_laid (put.components_laid ∙ ap (λ (p : Places). laid p.components (components_of g) mid.components) places);
        hints_laid = laid_with instructions_of gs g old.instructions mid.instructions new.instructions run.hints_laid (put.hints_laid ∙ ap (λ (p : Places). laid p.instructions (instructions_of g) mid.instructions) places);
        records_laid =
            (λ room.
            let all : length (flat_map points_of (gs ++ g ∷ [])) ≡ length (flat_map points_of gs) + length (points_of g) =
            ap length (joined_push points_of gs g) ∙ length-append (flat_map points_of gs) (points_of g)
            in
            let same_length : length mid.points ≡ length old.points = ap length run.points_laid ∙ length_laid 0 (flat_map points_of gs) old.points in
            let here : at.points ≡ length (flat_map points_of gs) = ap (λ (p : Places). p.points) places in
            let long : i ≡ 0 + length (records_of start gs) = omega (arith, records_length start gs) in
            rec (omega arith)
            ∙ (ap (λ (p : Places). laid i (record_of p g ∷ []) mid.records) places
            ∙ (ap (laid i (record_of (needed gs) g ∷ [])) (run.records_laid (omega arith))
            ∙ (sym (laid_more 0 i (records_of start gs) (record_of (needed gs) g) old.records long) ∙ ap (λ (rs : List GlyphRecord). laid 0 rs old.records) (sym (records_more gs g))))));
      }
