-- A glyph, and the bytes that describe it.
use Rattle.std.proofs.Common.{◌≡◌, ℕ, suc, ◌<◌, Bool, false, List, [], ◌++◌, map, length, ℤ, pos, negsuc, Ok, Result, sym, refl, ap, ◌∙◌, subst, arith}
use Rattle.std.proofs.lemmas.List.{append_assoc, length-append, length-map}
use Rattle.std.specs.List.{flat_map}
use Rattle.read.proofs.Thens.{then_accepted}
use Rattle.binary.specs.Bytes.{box_said, i16_said, u16_said}
use Rattle.binary.specs.declared.BoundingBox.{BoundingBox}
use Rattle.glyph.specs.Glyphs.{composite, empty, Glyph, simple}
use Rattle.glyph.specs.declared.component.Component.{Component}
use Rattle.glyph.specs.declared.lists.Point.{Point}
use Rattle.read.specs.Answers.{then}
use Rattle.read.specs.declared.error.ParseError.{ParseError}
use Rattle.spelled.proofs.Components.{components_at, components_ok}
use Rattle.unpack.specs.Composites.{components_said}
use Rattle.glyph.specs.Outlines.{origin, points_in}
use Rattle.composite.specs.Chains.{Chained, marked}
use Rattle.unpack.specs.Spelled.{Joins, Says, SpellsComponent}
use Rattle.standard.specs.Fields.{run_flags}
use Rattle.standard.specs.Said.{description_said, end_points_said, field_said, hints_if, kind_said, outline_said, parts_said, point_flags_said, positions_said, sized_hints, x_steps_said}
use Rattle.standard.specs.Told.{Step, TellsComposite, TellsHints, TellsSimple, Walks}
use Rattle.standard.proofs.Fields.{ends_at, ends_ok, field_at, field_ok, hints_at, hints_ok, sized_at, sized_ok, two_pieces}
use Rattle.standard.proofs.Flags.{flags_at, flags_ok}
use Rattle.standard.proofs.Steps.{positions_at, positions_ok, TellsXs, xs_at, xs_ok}

-- The bytes of a glyph. An empty one has none to describe it.
abbrev pub Describes : Glyph → List ℕ → Type 0
Describes empty bs = ⊥
Describes (simple box ends points hints) bs = TellsSimple box ends points hints bs
Describes (composite box parts hints) bs = TellsComposite box parts hints bs

-- A list begins with the bytes of the glyph of an answer, and what the answer leaves is behind them.
abbrev pub Described : List ℕ → Glyph × List ℕ → Type 0
Described bs q = (p : List ℕ) × (bs ≡ p ++ q.1) × Describes q.0 p

-- What a read of a glyph does behind each part.
module _ (box : BoundingBox) where
  abbrev simple_whole : List ℕ × List ℕ → List ℕ × List ℕ → List Point × List ℕ → Glyph × List ℕ
  simple_whole e i p = (simple box e.0 p.0 i.0, p.1)

  abbrev past_xs : List ℕ × List ℕ → List ℕ × List ℕ → List ℕ × List ℕ → List ℤ × List ℕ → Result (Glyph × List ℕ) ParseError
  past_xs e i f x = then (positions_said f.0 x.0 [] origin x.1) (λ p. Ok (simple_whole e i p))

  abbrev past_flags : List ℕ × List ℕ → List ℕ × List ℕ → List ℕ × List ℕ → Result (Glyph × List ℕ) ParseError
  past_flags e i f = then (x_steps_said f.0 [] f.1) (past_xs e i f)

  abbrev past_hints : List ℕ × List ℕ → List ℕ × List ℕ → Result (Glyph × List ℕ) ParseError
  past_hints e i = then (point_flags_said (points_in e.0) (points_in e.0) [] i.1) (past_flags e i)

  abbrev past_ends : List ℕ × List ℕ → Result (Glyph × List ℕ) ParseError
  past_ends e = then (sized_hints e.1) (past_hints e)

  abbrev composite_whole : List Component × Bool × List ℕ → List ℕ × List ℕ → Glyph × List ℕ
  composite_whole c i = (composite box c.0 i.0, i.1)

  abbrev past_components : List Component × Bool × List ℕ → Result (Glyph × List ℕ) ParseError
  past_components c = then (hints_if c.1 c.2) (λ i. Ok (composite_whole c i))

-- A glyph that was read behind its number of contours and its box.
module _ (all count corners bs : List ℕ) (box : BoundingBox) (l : length count ≡ 2) (b : Says 8 box_said box corners) (w : all ≡ count ++ (corners ++ bs)) where
  -- The bytes of all parts, from those behind the box.
  behind_box : (p rest : List ℕ) → bs ≡ p ++ rest → all ≡ (count ++ (corners ++ p)) ++ rest
  behind_box p rest e =
      two_pieces all count (corners ++ p) (corners ++ bs) rest w (two_pieces (corners ++ bs) corners p bs rest refl e)

  simple_parts : (c : ℕ) → i16_said count ≡ pos c → (e i f : List ℕ × List ℕ) (x : List ℤ × List ℕ) (p : List Point × List ℕ) → end_points_said c [] bs ≡ Ok e → sized_hints e.1 ≡ Ok i → point_flags_said (points_in e.0) (points_in e.0) [] i.1 ≡ Ok f → x_steps_said f.0 [] f.1 ≡ Ok x → positions_said f.0 x.0 [] origin x.1 ≡ Ok p → Described all (simple_whole box e i p)
  simple_parts c z e i f x p re ri rf rx rp =
      let ends = ends_ok c [] bs e re in
      let hints = sized_ok e.1 i ri in
      let flags = flags_ok (points_in e.0) (points_in e.0) [] i.1 f rf in
      let xs = xs_ok f.0 [] f.1 x rx in
      let tell : TellsXs f.0 x.0 xs.1 = subst (λ (d : List ℤ). TellsXs f.0 d xs.1) (sym xs.2) xs.4 in
      let walked = positions_ok f.0 x.0 xs.1 [] origin x.1 p tell rp in
      let n : length e.0 ≡ c = ap length ends.2 ∙ ends.3 in
      let expanded : flat_map run_flags flags.0 ≡ map (λ (s : Step). s.flag) walked.steps = sym flags.2 ∙ walked.flags_are in
      let as_many : length walked.steps ≡ points_in e.0 =
      sym (length-map walked.steps (λ (s : Step). s.flag)) ∙ (ap length (sym expanded) ∙ flags.3)
      in
      let w4 : f.1 ≡ (xs.1 ++ walked.ys) ++ p.1 = two_pieces f.1 xs.1 walked.ys x.1 p.1 xs.3 walked.begins in
      let w3 : i.1 ≡ (flags.1 ++ (xs.1 ++ walked.ys)) ++ p.1 = two_pieces i.1 flags.1 (xs.1 ++ walked.ys) f.1 p.1 flags.4 w4 in
      let w2 : i.0 ++ i.1 ≡ (i.0 ++ (flags.1 ++ (xs.1 ++ walked.ys))) ++ p.1 = two_pieces (i.0 ++ i.1) i.0 (flags.1 ++ (xs.1 ++ walked.ys)) i.1 p.1 refl w3 in
      let w1 : e.1 ≡ (hints.0 ++ (i.0 ++ (flags.1 ++ (xs.1 ++ walked.ys)))) ++ p.1 = two_pieces e.1 hints.0 (i.0 ++ (flags.1 ++ (xs.1 ++ walked.ys))) (i.0 ++ i.1) p.1 hints.1 w2 in
      let body = ends.1 ++ (hints.0 ++ (i.0 ++ (flags.1 ++ (xs.1 ++ walked.ys)))) in
      let w0 : bs ≡ body ++ p.1 = two_pieces bs ends.1 (hints.0 ++ (i.0 ++ (flags.1 ++ (xs.1 ++ walked.ys)))) e.1 p.1 ends.4 w1 in (
        count ++ (corners ++ body),
        behind_box body p.1 w0,
        record {
          steps = walked.steps;
          runs = flags.0;
          count_part = count;
          box_part = corners;
          ends_part = ends.1;
          size_part = hints.0;
          flags_part = flags.1;
          xs_part = xs.1;
          ys_part = walked.ys;
          whole = refl;
          tells_count = (l, z ∙ ap pos (sym n));
          tells_box = b;
          tells_ends = subst (λ (v : List ℕ). Joins (Says 2 u16_said) v ends.1) (sym ends.2) ends.5;
          tells_size = hints.2;
          tells_runs = flags.5;
          tells_xs = walked.tells_xs;
          tells_ys = walked.tells_ys;
          as_many = as_many;
          expanded = expanded;
          walks = subst (Walks origin walked.steps) (sym walked.points_are) walked.walks;
        },
      )

  outline_ok : (c : ℕ) (q : Glyph × List ℕ) → i16_said count ≡ pos c → outline_said c box bs ≡ Ok q → Described all q
  outline_ok c q z h =
      let e = then_accepted (end_points_said c [] bs) (past_ends box) q h in
      let i = then_accepted (sized_hints e.0.1) (past_hints box e.0) q e.2 in
      let n = points_in e.0.0 in
      let f = then_accepted (point_flags_said n n [] i.0.1) (past_flags box e.0 i.0) q i.2 in
      let x = then_accepted (x_steps_said f.0.0 [] f.0.1) (past_xs box e.0 i.0 f.0) q f.2 in
      let p = then_accepted (positions_said f.0.0 x.0.0 [] origin x.0.1) (λ (y : List Point × List ℕ). Ok (simple_whole box e.0 i.0 y)) q x.2 in
      let s : simple_whole box e.0 i.0 p.0 ≡ q = let m = p.2 in cc in
      subst (Described all) s (simple_parts c z e.0 i.0 f.0 x.0 p.0 e.1 i.1 f.1 x.1 p.1)

  composite_parts : (below : ℕ) → i16_said count ≡ negsuc below → (c : List Component × Bool × List ℕ) (i : List ℕ × List ℕ) → components_said (suc (length bs)) [] false bs ≡ Ok c → hints_if c.1 c.2 ≡ Ok i → Described all (composite_whole box c i)
  composite_parts below z c i rc ri =
      let found = components_ok (suc (length bs)) [] false bs c rc in
      let hints = hints_ok c.1 c.2 i ri in
      let mark : c.1 ≡ marked c.0 = found.6 ∙ ap marked (sym found.2) in
      let body = found.1 ++ hints.0 in
      let w0 : bs ≡ body ++ i.1 = two_pieces bs found.1 hints.0 c.2 i.1 found.3 hints.1 in (
        count ++ (corners ++ body),
        behind_box body i.1 w0,
        record {
          below = below;
          count_part = count;
          box_part = corners;
          components_part = found.1;
          hints_part = hints.0;
          whole = refl;
          tells_count = (l, z);
          tells_box = b;
          tells_components = subst (λ (v : List Component). Joins SpellsComponent v found.1) (sym found.2) found.4;
          chained = subst Chained (sym found.2) found.5;
          tells_hints = subst (λ (v : Bool). TellsHints v i.0 hints.0) mark hints.2;
        },
      )

  parts_ok : (below : ℕ) (q : Glyph × List ℕ) → i16_said count ≡ negsuc below → parts_said box bs ≡ Ok q → Described all q
  parts_ok below q z h =
      let c = then_accepted (components_said (suc (length bs)) [] false bs) (past_components box) q h in
      let i = then_accepted (hints_if c.0.1 c.0.2) (λ (y : List ℕ × List ℕ). Ok (composite_whole box c.0 y)) q c.2 in
      let s : composite_whole box c.0 i.0 ≡ q = let m = i.2 in cc in
      subst (Described all) s (composite_parts below z c.0 i.0 c.1 i.1)

  kind_ok : (z : ℤ) (q : Glyph × List ℕ) → i16_said count ≡ z → kind_said z box bs ≡ Ok q → Described all q
  kind_ok (pos c) q z h = outline_ok c q z h
  kind_ok (negsuc c) q z h = parts_ok c q z h

-- A glyph that was read is described.
pub description_ok : (bs : List ℕ) (q : Glyph × List ℕ) → description_said bs ≡ Ok q → Described bs q
description_ok bs q e =
    let c =
    then_accepted (field_said 2 i16_said bs)
    (λ (x : ℤ × List ℕ). then (field_said 8 box_said x.1) (λ (y : BoundingBox × List ℕ). kind_said x.0 y.0 y.1)) q e
    in
    let b = then_accepted (field_said 8 box_said c.0.1) (λ (y : BoundingBox × List ℕ). kind_said c.0.0 y.0 y.1) q c.2 in
    by c.0 b.0 (field_ok 2 i16_said bs c.0 c.1) (field_ok 8 box_said c.0.1 b.0 b.1) b.2
  where
    by : (c : ℤ × List ℕ) (b : BoundingBox × List ℕ) → (p : List ℕ) × (bs ≡ p ++ c.1) × Says 2 i16_said c.0 p → (p : List ℕ) × (c.1 ≡ p ++ b.1) × Says 8 box_said b.0 p → kind_said c.0 b.0 b.1 ≡ Ok q → Described bs q
    by c b f g h =
        kind_ok bs f.0 g.0 b.1 b.0 f.2.0 g.2 (f.1 ∙ ap (λ (x : List ℕ). f.0 ++ x) g.1) c.0 q f.2.1 h

-- A read of a glyph, from the reads of its parts.
module _ (box : BoundingBox) where
  outline_by : (c : ℕ) (bs : List ℕ) (e i f : List ℕ × List ℕ) (x : List ℤ × List ℕ) (p : List Point × List ℕ) → end_points_said c [] bs ≡ Ok e → sized_hints e.1 ≡ Ok i → point_flags_said (points_in e.0) (points_in e.0) [] i.1 ≡ Ok f → x_steps_said f.0 [] f.1 ≡ Ok x → positions_said f.0 x.0 [] origin x.1 ≡ Ok p → outline_said c box bs ≡ Ok (simple_whole box e i p)
  outline_by c bs e i f x p re ri rf rx rp = rw (re, ri, rf, rx, rp)

  parts_by : (bs : List ℕ) (c : List Component × Bool × List ℕ) (i : List ℕ × List ℕ) → components_said (suc (length bs)) [] false bs ≡ Ok c → hints_if c.1 c.2 ≡ Ok i → parts_said box bs ≡ Ok (composite_whole box c i)
  parts_by bs c i rc ri = rw (rc, ri)

  description_by : (z : ℤ) (count corners bs : List ℕ) → Says 2 i16_said z count → Says 8 box_said box corners → description_said (count ++ (corners ++ bs)) ≡ kind_said z box bs
  description_by z count corners bs c b =
      let rc = field_at 2 i16_said z count (corners ++ bs) c in
      let rb = field_at 8 box_said box corners bs b in
      rw (rc, rb)

module _ (box : BoundingBox) (p rest : List ℕ) where
  outline_at : (ends : List ℕ) (points : List Point) (hints : List ℕ) (h : TellsSimple box ends points hints p) → outline_said (length ends) box (h.ends_part ++ (h.size_part ++ (hints ++ (h.flags_part ++ (h.xs_part ++ (h.ys_part ++ rest)))))) ≡ Ok (simple box ends points hints, rest)
  outline_at ends points hints h =
      let fs = map (λ (s : Step). s.flag) h.steps in
      let ds = map (λ (s : Step). s.dx) h.steps in
      let n = points_in ends in
      let r3 = h.xs_part ++ (h.ys_part ++ rest) in
      let r1 = h.size_part ++ (hints ++ (h.flags_part ++ r3)) in
      let re : end_points_said (length ends) [] (h.ends_part ++ r1) ≡ Ok (ends, r1) = ends_at ends [] h.ends_part r1 h.tells_ends in
      let ri : sized_hints r1 ≡ Ok (hints, h.flags_part ++ r3) = sized_at hints h.size_part (h.flags_part ++ r3) h.tells_size in
      let many : length (flat_map run_flags h.runs) ≡ n =
      ap length h.expanded ∙ (length-map h.steps (λ (s : Step). s.flag) ∙ h.as_many)
      in
      let rf : point_flags_said n n [] (h.flags_part ++ r3) ≡ Ok (fs, r3) =
      flags_at h.runs n n [] h.flags_part r3 many (omega arith) h.tells_runs ∙ ap (λ (v : List ℕ). Ok (v, r3)) h.expanded
      in
      let rx : x_steps_said fs [] r3 ≡ Ok (ds, h.ys_part ++ rest) = xs_at h.steps [] h.xs_part (h.ys_part ++ rest) h.tells_xs in
      let rp : positions_said fs ds [] origin (h.ys_part ++ rest) ≡ Ok (points, rest) =
      positions_at h.steps points [] origin h.ys_part rest h.tells_ys h.walks
      in
      outline_by box (length ends) (h.ends_part ++ r1) (ends, r1) (hints, h.flags_part ++ r3) (fs, r3) (ds, h.ys_part ++ rest) (points, rest) re ri rf rx rp

  simple_at : (ends : List ℕ) (points : List Point) (hints : List ℕ) → TellsSimple box ends points hints p → description_said (p ++ rest) ≡ Ok (simple box ends points hints, rest)
  simple_at ends points hints h =
      let r = h.ends_part ++ (h.size_part ++ (hints ++ (h.flags_part ++ (h.xs_part ++ (h.ys_part ++ rest))))) in
      let w : p ++ rest ≡ h.count_part ++ (h.box_part ++ r) = ap (λ (x : List ℕ). x ++ rest) h.whole ∙ simp append_assoc in
      ap description_said w
      ∙ (description_by box (pos (length ends)) h.count_part h.box_part r h.tells_count h.tells_box
      ∙ outline_at ends points hints h)

  composite_at : (parts : List Component) (hints : List ℕ) → TellsComposite box parts hints p → description_said (p ++ rest) ≡ Ok (composite box parts hints, rest)
  composite_at parts hints h =
      let r = h.hints_part ++ rest in
      let w : p ++ rest ≡ h.count_part ++ (h.box_part ++ (h.components_part ++ r)) = ap (λ (x : List ℕ). x ++ rest) h.whole ∙ simp append_assoc in
      let long = length-append h.components_part r in
      let short : length h.components_part < suc (length (h.components_part ++ r)) = omega arith in
      let rc : components_said (suc (length (h.components_part ++ r))) [] false (h.components_part ++ r) ≡ Ok (parts, marked parts, r) =
      components_at parts (suc (length (h.components_part ++ r))) [] false h.components_part r short h.tells_components h.chained
      in
      let ri : hints_if (marked parts) r ≡ Ok (hints, rest) = hints_at (marked parts) hints h.hints_part rest h.tells_hints in
      ap description_said w
      ∙ (description_by box (negsuc h.below) h.count_part h.box_part (h.components_part ++ r) h.tells_count h.tells_box
      ∙ parts_by box (h.components_part ++ r) (parts, marked parts, r) (hints, rest) rc ri)

-- A glyph that is described is read.
pub description_at : (g : Glyph) (p rest : List ℕ) → Describes g p → description_said (p ++ rest) ≡ Ok (g, rest)
description_at empty p rest h = absurd h
description_at (simple box ends points hints) p rest h = simple_at box p rest ends points hints h
description_at (composite box parts hints) p rest h = composite_at box p rest parts hints h
