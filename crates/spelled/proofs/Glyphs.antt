-- A glyph, and the piece of the streams that spells it.
use Rattle.std.proofs.Common.{◌≡◌, ℕ, zero, suc, ◌<◌, Bool, true, false, List, [], ◌∷◌, ◌++◌, length, ℤ, pos, negsuc, Ok, Result, sym, refl, ap, ◌∙◌, subst, arith}
use Rattle.std.proofs.lemmas.List.{append_assoc, length-append}
use Rattle.read.proofs.Thens.{then_accepted}
use Rattle.binary.specs.Bytes.{box_said, i16_said}
use Rattle.binary.specs.declared.BoundingBox.{BoundingBox}
use Rattle.glyph.specs.Bounds.{bounds, Tight}
use Rattle.glyph.specs.Glyphs.{composite, empty, Glyph, simple}
use Rattle.glyph.specs.declared.component.Component.{Component}
use Rattle.glyph.specs.declared.lists.Point.{Point}
use Rattle.read.specs.Answers.{front, then}
use Rattle.read.specs.declared.error.ParseError.{ParseError}
use Rattle.read.specs.declared.error.ParseError.TheVariants.{BadValue}
use Rattle.unpack.specs.Composites.{components_said}
use Rattle.unpack.specs.Glyphs.{box_or, composite_said, glyph_by, glyph_said, marked_instructions, own_box, past_count, simple_said}
use Rattle.unpack.specs.Hints.{instructions_said}
use Rattle.unpack.specs.Outlines.{ends_said, points_said}
use Rattle.glyph.specs.Outlines.{origin, points_in}
use Rattle.composite.specs.Chains.{Chained, marked}
use Rattle.unpack.specs.Rests.{Rest}
use Rattle.unpack.specs.Spelled.{Boxes, Hints, Joins, LeadsOn, Piece, Says, Sizes, SpellsComponent, SpellsComposite, SpellsEmpty, SpellsGlyph, SpellsSimple}
use Rattle.spelled.proofs.Boxes.{bounds_tight, tight_is_bounds}
use Rattle.spelled.proofs.Components.{components_at, components_ok}
use Rattle.spelled.proofs.Fronts.{fails, front_at, front_ok}
use Rattle.spelled.proofs.Hints.{box_at, box_ok, instructions_at, instructions_ok, marked_at, marked_ok}
use Rattle.spelled.proofs.Points.{flag_each, points_at, points_ok}
use Rattle.spelled.proofs.Sizes.{ends_at, ends_ok, some_points, sum_after, sum_is_points_in}

-- Each stream begins with a piece, and `rest` is left behind it.
pub record Cuts (p : Piece) (s rest : Rest) : Type 0 where
  pub contours : s.contours ≡ p.contours ++ rest.contours
  pub points : s.points ≡ p.points ++ rest.points
  pub flags : s.flags ≡ p.flags ++ rest.flags
  pub glyphs : s.glyphs ≡ p.glyphs ++ rest.glyphs
  pub composites : s.composites ≡ p.composites ++ rest.composites
  pub boxes : s.boxes ≡ p.boxes ++ rest.boxes
  pub instructions : s.instructions ≡ p.instructions ++ rest.instructions

-- The streams begin with a piece that spells the glyph of an answer, and what the answer leaves is behind it.
abbrev pub Spelled : Bool → Rest → Glyph × Rest → Type 0
Spelled boxed s q = (p : Piece) × (p.boxed ≡ boxed) × SpellsGlyph q.0 p × Cuts p s q.1

-- The box of a simple glyph with at least one point.
box_or_ok : (boxed : Bool) (ps : List Point) (bs : List ℕ) (q : BoundingBox × List ℕ) → 0 < length ps → box_or boxed (bounds ps) bs ≡ Ok q → (p : List ℕ) × (bs ≡ p ++ q.1) × Boxes boxed q.0 ps p
box_or_ok true ps bs q h e = box_ok bs q e
box_or_ok false [] bs q h e = absurd (omega arith)
box_or_ok false (p ∷ ps) bs q h e =
    let s : (bounds (p ∷ ps), bs) ≡ q = cc in
    let s0 : bounds (p ∷ ps) ≡ q.0 = ap (λ (x : BoundingBox × List ℕ). x.0) s in
    ([], ap (λ (x : BoundingBox × List ℕ). x.1) s, (refl, subst (λ (b : BoundingBox). Tight b (p ∷ ps)) s0 (bounds_tight p ps)))

box_or_at : (boxed : Bool) (b : BoundingBox) (ps : List Point) (p rest : List ℕ) → Boxes boxed b ps p → box_or boxed (bounds ps) (p ++ rest) ≡ Ok (b, rest)
box_or_at true b ps p rest h = box_at b p rest h
box_or_at false b ps p rest h = rw h.0 (ap (λ (x : BoundingBox). Ok (x, rest)) (sym (tight_is_bounds b ps h.1)))

own_box_ok : (boxed : Bool) (bs : List ℕ) (q : BoundingBox × List ℕ) → own_box boxed bs ≡ Ok q → (boxed ≡ true) × (p : List ℕ) × (bs ≡ p ++ q.1) × Says 8 box_said q.0 p
own_box_ok true bs q e = let f = box_ok bs q e in (refl, f.0, f.1, f.2)
own_box_ok false bs q e = let z : ◌≡◌ {A = ℕ} 0 1 = cc in absurd (omega arith)

-- What a read of a glyph answers, from the answers of its parts.
module _ (s : Rest) where
  abbrev simple_whole : List ℕ × ℕ × List ℕ → List ℕ × List ℕ → List Point × List ℕ → List ℕ × List ℕ × List ℕ → BoundingBox × List ℕ → Glyph × Rest
  simple_whole e f p i b = (
    simple b.0 e.0 p.0 i.0,
    record {
      contours = s.contours;
      points = e.2;
      flags = f.1;
      glyphs = i.1;
      composites = s.composites;
      boxes = b.1;
      instructions = i.2;
    },
  )

  abbrev composite_whole : List Component × Bool × List ℕ → List ℕ × List ℕ × List ℕ → BoundingBox × List ℕ → Glyph × Rest
  composite_whole c i b = (
    composite b.0 c.0 i.0,
    record {
      contours = s.contours;
      points = s.points;
      flags = s.flags;
      glyphs = i.1;
      composites = c.2;
      boxes = b.1;
      instructions = i.2;
    },
  )

-- What such a read does behind each part.
module _ (boxed : Bool) (s : Rest) where
  abbrev past_hints : List ℕ × ℕ × List ℕ → List ℕ × List ℕ → List Point × List ℕ → List ℕ × List ℕ × List ℕ → Result (Glyph × Rest) ParseError
  past_hints e f p i = then (box_or boxed (bounds p.0) s.boxes) (λ b. Ok (simple_whole s e f p i b))

  abbrev past_points : List ℕ × ℕ × List ℕ → List ℕ × List ℕ → List Point × List ℕ → Result (Glyph × Rest) ParseError
  past_points e f p = then (instructions_said p.1 s.instructions) (past_hints e f p)

  abbrev past_flags : List ℕ × ℕ × List ℕ → List ℕ × List ℕ → Result (Glyph × Rest) ParseError
  past_flags e f = then (points_said f.0 [] origin s.glyphs) (past_points e f)

  abbrev past_ends : List ℕ × ℕ × List ℕ → Result (Glyph × Rest) ParseError
  past_ends e = then (front e.1 s.flags) (past_flags e)

  abbrev past_marked : List Component × Bool × List ℕ → List ℕ × List ℕ × List ℕ → Result (Glyph × Rest) ParseError
  past_marked c i = then (own_box boxed s.boxes) (λ b. Ok (composite_whole s c i b))

  abbrev past_components : List Component × Bool × List ℕ → Result (Glyph × Rest) ParseError
  past_components c = then (marked_instructions c.1 s.glyphs s.instructions) (past_marked c)

-- The number of points that the sizes of at least one contour tell.
sum_is : (es new : List ℕ) (c sum : ℕ) → es ≡ new → length es ≡ suc c → sum ≡ sum_after 0 new → (sum ≡ points_in es) × (0 < sum)
sum_is [] new c sum e l h = absurd (omega arith)
sum_is (x ∷ es) new c sum e l h =
    let k : sum ≡ sum_after 0 (x ∷ es) = h ∙ ap (sum_after 0) (sym e) in
    let p = some_points 0 x es in
    (k ∙ sum_is_points_in 0 x es, omega arith)

-- A glyph that was read behind its count of contours.
module _ (boxed : Bool) (s : Rest) (q : Glyph × Rest) (count rest : List ℕ) (l : length count ≡ 2) (w : s.contours ≡ count ++ rest) where
  empty_ok : i16_said count ≡ pos 0 → boxed ≡ false → ◌≡◌ {A = Glyph × Rest} (empty, past_count s rest) q → Spelled boxed s q
  empty_ok z b e =
      subst (Spelled boxed s) e (
        record {
          contours = count;
          points = [];
          flags = [];
          glyphs = [];
          composites = [];
          boxes = [];
          instructions = [];
          boxed = boxed;
        },
        refl,
        record {
          count = (l, z);
          points = refl;
          flags = refl;
          glyphs = refl;
          composites = refl;
          boxes = refl;
          instructions = refl;
          boxed = b;
        },
        record {
          contours = w;
          points = refl;
          flags = refl;
          glyphs = refl;
          composites = refl;
          boxes = refl;
          instructions = refl;
        },
      )

  -- The parts of a simple glyph, each read from its stream.
  simple_parts : (c : ℕ) → i16_said count ≡ pos (suc c) → (e : List ℕ × ℕ × List ℕ) (f : List ℕ × List ℕ) (p : List Point × List ℕ) (i : List ℕ × List ℕ × List ℕ) (b : BoundingBox × List ℕ) → ends_said (suc c) [] 0 s.points ≡ Ok e → front e.1 s.flags ≡ Ok f → points_said f.0 [] origin s.glyphs ≡ Ok p → instructions_said p.1 s.instructions ≡ Ok i → box_or boxed (bounds p.0) s.boxes ≡ Ok b → simple_whole (past_count s rest) e f p i b ≡ q → Spelled boxed s q
  simple_parts c z e f p i b re rf rp ri rb k =
      let ends = ends_ok (suc c) [] 0 s.points e re in
      let flags = front_ok e.1 s.flags f rf in
      let steps = points_ok f.0 [] origin s.glyphs p rp in
      let hints = instructions_ok p.1 s.instructions i ri in
      let n : length e.0 ≡ suc c = ap length ends.2 ∙ ends.3 in
      let sum = sum_is e.0 ends.0 c e.1 ends.2 n ends.6 in
      let as_many : length p.0 ≡ points_in e.0 =
      ap length steps.2 ∙ (steps.3 ∙ (flags.0 ∙ sum.0))
      in
      let some : 0 < length p.0 = omega (arith, sum.0, sum.1, as_many) in
      let box = box_or_ok boxed p.0 s.boxes b some rb in
      subst (Spelled boxed s) k (
        record {
          contours = count;
          points = ends.1;
          flags = f.0;
          glyphs = steps.1 ++ hints.0;
          composites = [];
          boxes = box.0;
          instructions = i.0;
          boxed = boxed;
        },
        refl,
        record {
          some = omega arith;
          count = (l, z ∙ ap pos (sym n));
          sizes = subst (λ (x : List ℕ). Sizes 0 x ends.1) (sym ends.2) ends.5;
          as_many = as_many;
          steps = steps.1;
          size = hints.0;
          leads = subst (λ (x : List Point). LeadsOn origin x f.0 steps.1) (sym steps.2) steps.5;
          packs = hints.1;
          glyphs = refl;
          composites = refl;
          boxes = box.2;
          instructions = refl;
        },
        record {
          contours = w;
          points = ends.4;
          flags = flags.1;
          glyphs = steps.4 ∙ (ap (λ (x : List ℕ). steps.1 ++ x) hints.2 ∙ sym (append_assoc steps.1 hints.0 i.1));
          composites = refl;
          boxes = box.1;
          instructions = hints.3;
        },
      )

  simple_ok : (c : ℕ) → i16_said count ≡ pos (suc c) → simple_said boxed (suc c) (past_count s rest) ≡ Ok q → Spelled boxed s q
  simple_ok c z h =
      let t = past_count s rest in
      let e = then_accepted (ends_said (suc c) [] 0 t.points) (past_ends boxed t) q h in
      let f = then_accepted (front e.0.1 t.flags) (past_flags boxed t e.0) q e.2 in
      let p = then_accepted (points_said f.0.0 [] origin t.glyphs) (past_points boxed t e.0 f.0) q f.2 in
      let i = then_accepted (instructions_said p.0.1 t.instructions) (past_hints boxed t e.0 f.0 p.0) q p.2 in
      let b = then_accepted (box_or boxed (bounds p.0.0) t.boxes) (λ (x : BoundingBox × List ℕ). Ok (simple_whole t e.0 f.0 p.0 i.0 x)) q i.2 in
      simple_parts c z e.0 f.0 p.0 i.0 b.0 e.1 f.1 p.1 i.1 b.1 (let m = b.2 in cc)

  -- The parts of a composite glyph.
  composite_parts : i16_said count ≡ negsuc 0 → (c : List Component × Bool × List ℕ) (i : List ℕ × List ℕ × List ℕ) (b : BoundingBox × List ℕ) → components_said (suc (length s.composites)) [] false s.composites ≡ Ok c → marked_instructions c.1 s.glyphs s.instructions ≡ Ok i → own_box boxed s.boxes ≡ Ok b → composite_whole (past_count s rest) c i b ≡ q → Spelled boxed s q
  composite_parts z c i b rc ri rb k =
      let found = components_ok (suc (length s.composites)) [] false s.composites c rc in
      let hints = marked_ok s.glyphs s.instructions i c.1 ri in
      let box = own_box_ok boxed s.boxes b rb in
      let mark : c.1 ≡ marked c.0 = found.6 ∙ ap marked (sym found.2) in
      subst (Spelled boxed s) k (
        record {
          contours = count;
          points = [];
          flags = [];
          glyphs = hints.0;
          composites = found.1;
          boxes = box.1;
          instructions = hints.1;
          boxed = boxed;
        },
        refl,
        record {
          count = (l, z);
          points = refl;
          flags = refl;
          composites = subst (λ (x : List Component). Joins SpellsComponent x found.1) (sym found.2) found.4;
          chained = subst Chained (sym found.2) found.5;
          hinted = subst (λ (x : Bool). Hints x i.0 hints.0 hints.1) mark hints.2;
          boxed = box.0;
          boxes = box.3;
        },
        record {
          contours = w;
          points = refl;
          flags = refl;
          glyphs = hints.3;
          composites = found.3;
          boxes = box.2;
          instructions = hints.4;
        },
      )

  composite_ok : i16_said count ≡ negsuc 0 → composite_said boxed (past_count s rest) ≡ Ok q → Spelled boxed s q
  composite_ok z h =
      let t = past_count s rest in
      let c = then_accepted (components_said (suc (length t.composites)) [] false t.composites) (past_components boxed t) q h in
      let i = then_accepted (marked_instructions c.0.1 t.glyphs t.instructions) (past_marked boxed t c.0) q c.2 in
      let b = then_accepted (own_box boxed t.boxes) (λ (x : BoundingBox × List ℕ). Ok (composite_whole t c.0 i.0 x)) q i.2 in
      composite_parts z c.0 i.0 b.0 c.1 i.1 b.1 (let m = b.2 in cc)

  -- The count of contours tells the kind.
  kind_ok : (z : ℤ) → i16_said count ≡ z → glyph_by boxed z (past_count s rest) ≡ Ok q → Spelled boxed s q
  kind_ok (pos zero) z h =
      let f = fails boxed (Ok (empty, past_count s rest)) BadValue q h in
      empty_ok z f.0 (let m = f.1 in cc)
  kind_ok (pos (suc c)) z h = simple_ok c z h
  kind_ok (negsuc zero) z h = composite_ok z h
  kind_ok (negsuc (suc c)) z h = let no : ◌≡◌ {A = ℕ} 0 1 = cc in absurd (omega arith)

-- A glyph that was read is spelled by a piece of the streams.
pub glyph_ok : (boxed : Bool) (s : Rest) (q : Glyph × Rest) → glyph_said boxed s ≡ Ok q → Spelled boxed s q
glyph_ok boxed s q e =
    let f = then_accepted (front 2 s.contours) (λ (p : List ℕ × List ℕ). glyph_by boxed (i16_said p.0) (past_count s p.1)) q e in
    let g = front_ok 2 s.contours f.0 f.1 in
    kind_ok boxed s q f.0.0 f.0.1 g.0 g.1 (i16_said f.0.0) refl f.2

-- A read of a glyph, from the reads of its parts.
module _ (boxed : Bool) (s : Rest) where
  counted : (z : ℤ) (count rest : List ℕ) → Says 2 i16_said z count → s.contours ≡ count ++ rest → glyph_said boxed s ≡ glyph_by boxed z (past_count s rest)
  counted z count rest h w =
      let r : front 2 s.contours ≡ Ok (count, rest) = ap (front 2) w ∙ front_at 2 count rest h.0 in
      rw (r, h.1)

  simple_by : (c : ℕ) (e : List ℕ × ℕ × List ℕ) (f : List ℕ × List ℕ) (p : List Point × List ℕ) (i : List ℕ × List ℕ × List ℕ) (b : BoundingBox × List ℕ) → ends_said c [] 0 s.points ≡ Ok e → front e.1 s.flags ≡ Ok f → points_said f.0 [] origin s.glyphs ≡ Ok p → instructions_said p.1 s.instructions ≡ Ok i → box_or boxed (bounds p.0) s.boxes ≡ Ok b → simple_said boxed c s ≡ Ok (simple_whole s e f p i b)
  simple_by c e f p i b re rf rp ri rb = rw (re, rf, rp, ri, rb)

  composite_by : (c : List Component × Bool × List ℕ) (i : List ℕ × List ℕ × List ℕ) (b : BoundingBox × List ℕ) → components_said (suc (length s.composites)) [] false s.composites ≡ Ok c → marked_instructions c.1 s.glyphs s.instructions ≡ Ok i → own_box boxed s.boxes ≡ Ok b → composite_said boxed s ≡ Ok (composite_whole s c i b)
  composite_by c i b rc ri rb = rw (rc, ri, rb)

abbrev rests : List ℕ → List ℕ → List ℕ → List ℕ → List ℕ → List ℕ → List ℕ → Rest
rests a b c d e f g =
    record { contours = a; points = b; flags = c; glyphs = d; composites = e; boxes = f; instructions = g }

same_rests : (a b c d e f g a' b' c' d' e' f' g' : List ℕ) → a ≡ a' → b ≡ b' → c ≡ c' → d ≡ d' → e ≡ e' → f ≡ f' → g ≡ g' → rests a b c d e f g ≡ rests a' b' c' d' e' f' g'
same_rests a b c d e f g a' b' c' d' e' f' g' h i j k l m n = cc

-- A stream with no bytes of a piece is what is left of it.
none_cut : (bs p rest : List ℕ) → bs ≡ p ++ rest → p ≡ [] → bs ≡ rest
none_cut bs p rest e n = e ∙ ap (λ (x : List ℕ). x ++ rest) n

module _ (p : Piece) (s rest : Rest) (k : Cuts p s rest) where
  empty_at : SpellsEmpty p → glyph_said p.boxed s ≡ Ok (empty, rest)
  empty_at h =
      let t = past_count s rest.contours in
      let same : t ≡ rest =
      same_rests rest.contours s.points s.flags s.glyphs s.composites s.boxes s.instructions rest.contours rest.points rest.flags rest.glyphs rest.composites rest.boxes rest.instructions refl (none_cut s.points p.points rest.points k.points h.points) (none_cut s.flags p.flags rest.flags k.flags h.flags) (none_cut s.glyphs p.glyphs rest.glyphs k.glyphs h.glyphs) (none_cut s.composites p.composites rest.composites k.composites h.composites) (none_cut s.boxes p.boxes rest.boxes k.boxes h.boxes) (none_cut s.instructions p.instructions rest.instructions k.instructions h.instructions)
      in
      let one : glyph_by p.boxed (pos 0) t ≡ Ok (empty, t) = rw h.boxed in
      counted p.boxed s (pos 0) p.contours rest.contours h.count k.contours
      ∙ (one ∙ ap (λ (x : Rest). Ok (empty, x)) same)

  simple_at : (box : BoundingBox) (e : ℕ) (es : List ℕ) (points : List Point) (hints : List ℕ) → SpellsSimple p box (e ∷ es) points hints → glyph_said p.boxed s ≡ Ok (simple box (e ∷ es) points hints, rest)
  simple_at box e es points hints h =
      let t = past_count s rest.contours in
      let n = sum_after 0 (e ∷ es) in
      let re : ends_said (suc (length es)) [] 0 s.points ≡ Ok (e ∷ es, n, rest.points) =
      ap (ends_said (suc (length es)) [] 0) k.points ∙ ends_at (e ∷ es) [] 0 p.points rest.points h.sizes
      in
      let many : length p.flags ≡ n =
      flag_each points origin p.flags h.steps h.leads ∙ (h.as_many ∙ sym (sum_is_points_in 0 e es))
      in
      let rf : front n s.flags ≡ Ok (p.flags, rest.flags) =
      ap (front n) k.flags ∙ front_at n p.flags rest.flags many
      in
      let drawn : s.glyphs ≡ h.steps ++ (h.size ++ rest.glyphs) =
      k.glyphs
      ∙ (ap (λ (x : List ℕ). x ++ rest.glyphs) h.glyphs ∙ append_assoc h.steps h.size rest.glyphs)
      in
      let rp : points_said p.flags [] origin s.glyphs ≡ Ok (points, h.size ++ rest.glyphs) =
      ap (points_said p.flags [] origin) drawn
      ∙ points_at points [] origin p.flags h.steps (h.size ++ rest.glyphs) h.leads
      in
      let bytes : s.instructions ≡ hints ++ rest.instructions =
      k.instructions ∙ ap (λ (x : List ℕ). x ++ rest.instructions) h.instructions
      in
      let ri : instructions_said (h.size ++ rest.glyphs) s.instructions ≡ Ok (hints, rest.glyphs, rest.instructions) =
      ap (instructions_said (h.size ++ rest.glyphs)) bytes
      ∙ instructions_at hints rest.glyphs rest.instructions h.size h.packs
      in
      let rb : box_or p.boxed (bounds points) s.boxes ≡ Ok (box, rest.boxes) =
      ap (box_or p.boxed (bounds points)) k.boxes ∙ box_or_at p.boxed box points p.boxes rest.boxes h.boxes
      in
      let all = simple_by p.boxed t (suc (length es)) (e ∷ es, n, rest.points) (p.flags, rest.flags) (points, h.size ++ rest.glyphs) (hints, rest.glyphs, rest.instructions) (box, rest.boxes) re rf rp ri rb in
      let same : s.composites ≡ rest.composites = none_cut s.composites p.composites rest.composites k.composites h.composites in
      counted p.boxed s (pos (suc (length es))) p.contours rest.contours h.count k.contours
      ∙ (all
      ∙ ap
      (λ (x : List ℕ).
      Ok (simple box (e ∷ es) points hints, rests rest.contours rest.points rest.flags rest.glyphs x rest.boxes rest.instructions))
      same)

  composite_at : (box : BoundingBox) (parts : List Component) (hints : List ℕ) → SpellsComposite p box parts hints → glyph_said p.boxed s ≡ Ok (composite box parts hints, rest)
  composite_at box parts hints h =
      let t = past_count s rest.contours in
      let long = ap length k.composites ∙ length-append p.composites rest.composites in
      let short : length p.composites < suc (length s.composites) = omega arith in
      let rc : components_said (suc (length s.composites)) [] false s.composites ≡ Ok (parts, marked parts, rest.composites) =
      ap (components_said (suc (length s.composites)) [] false) k.composites
      ∙ components_at parts (suc (length s.composites)) [] false p.composites rest.composites short h.composites h.chained
      in
      let ri : marked_instructions (marked parts) s.glyphs s.instructions ≡ Ok (hints, rest.glyphs, rest.instructions) =
      ap (λ (x : List ℕ). marked_instructions (marked parts) x s.instructions) k.glyphs
      ∙ (ap (marked_instructions (marked parts) (p.glyphs ++ rest.glyphs)) k.instructions
      ∙ marked_at hints rest.glyphs rest.instructions (marked parts) p.glyphs p.instructions h.hinted)
      in
      let rb : own_box p.boxed s.boxes ≡ Ok (box, rest.boxes) =
      ap (λ (x : Bool). own_box x s.boxes) h.boxed
      ∙ (ap (own_box true) k.boxes ∙ box_at box p.boxes rest.boxes h.boxes)
      in
      let all = composite_by p.boxed t (parts, marked parts, rest.composites) (hints, rest.glyphs, rest.instructions) (box, rest.boxes) rc ri rb in
      let same =
      same_rests rest.contours s.points s.flags rest.glyphs rest.composites rest.boxes rest.instructions rest.contours rest.points rest.flags rest.glyphs rest.composites rest.boxes rest.instructions refl (none_cut s.points p.points rest.points k.points h.points) (none_cut s.flags p.flags rest.flags k.flags h.flags) refl refl refl refl
      in
      counted p.boxed s (negsuc 0) p.contours rest.contours h.count k.contours
      ∙ (all ∙ ap (λ (x : Rest). Ok (composite box parts hints, x)) same)

-- A glyph that a piece of the streams spells is read.
pub glyph_at : (g : Glyph) (p : Piece) (s rest : Rest) → Cuts p s rest → SpellsGlyph g p → glyph_said p.boxed s ≡ Ok (g, rest)
glyph_at empty p s rest k h = empty_at p s rest k h
glyph_at (simple box [] points hints) p s rest k h = absurd (omega (arith, h.some))
glyph_at (simple box (e ∷ es) points hints) p s rest k h = simple_at p s rest k box e es points hints h
glyph_at (composite box parts hints) p s rest k h = composite_at p s rest k box parts hints h
