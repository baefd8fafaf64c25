-- Standard tables tell the glyphs that a read of them answers, and no others.
use Rattle.std.proofs.Common.{◌≡◌, ℕ, suc, ◌*◌, ◌<◌, Bool, true, false, cond, ◌&&◌, eqb, ltb, List, [], ◌∷◌, ◌++◌, length, get_or, take, drop, Ok, Err, Result, sym, refl, ap, ◌∙◌, subst, arith}
use Rattle.std.proofs.lemmas.List.{append_assoc, append-nil}
use Rattle.std.proofs.lemmas.Bool.{eq-eqb, eqb-true, lt-ltb, ltb-true, ne_eqb}
use Rattle.read.proofs.Thens.{test_passed, then_accepted}
use Rattle.glyph.specs.Causes.{at_glyph, no_glyph, refused_at}
use Rattle.glyph.specs.Glyphs.{composite, empty, Glyph, simple}
use Rattle.glyph.specs.declared.refusal.Refusal.{Refusal}
use Rattle.read.proofs.Arrays.{length_of}
use Rattle.read.specs.Answers.{front, then}
use Rattle.read.specs.declared.error.ParseError.{ParseError}
use Rattle.read.specs.declared.error.ParseError.TheVariants.{BadIndex, BadOffset}
use Rattle.spelled.proofs.Fronts.{front_at, front_ok, passes_both}
use Rattle.spelled.proofs.Lists.{at_glyph_ok}
use Rattle.unpack.specs.Spelled.{Begins}
use Rattle.standard.specs.Fields.{between, offset_said, offset_size}
use Rattle.standard.specs.Said.{description_said, entries_said, entry_said, offsets_said, standard_said}
use Rattle.standard.specs.Told.{Tells, TellsEach, TellsGlyph}
use Rattle.standard.proofs.Descriptions.{Describes, description_at, description_ok}
use Rattle.standard.proofs.Fields.{fields_tell, told_fields, told_length}

module _ (glyf : List ℕ) (start end : ℕ) where
  -- A glyph that bytes between two offsets describe.
  described_tells : (g : Glyph) (p : List ℕ) → start < end → start < length glyf → Begins p (between start end glyf) → Describes g p → TellsGlyph glyf start end g
  described_tells empty p a b c h = absurd h
  described_tells (simple box ends points hints) p a b c h =
      record { rises = a; inside = b; bytes = p; begins = c; tells = h }
  described_tells (composite box parts hints) p a b c h =
      record { rises = a; inside = b; bytes = p; begins = c; tells = h }

  -- The glyph between two offsets, from its bytes.
  entry_by : (g : Glyph) (p : List ℕ) → start < end → start < length glyf → Begins p (between start end glyf) → Describes g p → entry_said glyf start end ≡ Ok g
  entry_by g p a b c h =
      let other : eqb start end ≡ false = ne_eqb start end (λ e. omega arith) in
      let read : description_said (between start end glyf) ≡ Ok (g, c.0) = ap description_said c.1 ∙ description_at g p c.0 h in
      rw (other, lt-ltb start end a, lt-ltb start (length glyf) b, read)

  abbrev unequal : Result Glyph ParseError
  unequal =
      cond (ltb start end && ltb start (length glyf))
      (then (description_said (between start end glyf)) (λ p. Ok p.0)) (Err BadOffset)

  -- A glyph that was read.
  pub entry_ok : (g : Glyph) → entry_said glyf start end ≡ Ok g → TellsGlyph glyf start end g
  entry_ok g e = by (eqb start end) refl e
    where
      by : (b : Bool) → eqb start end ≡ b → cond b (Ok empty) unequal ≡ Ok g → TellsGlyph glyf start end g
      by true m h =
          let s : empty ≡ g = cc in
          subst (TellsGlyph glyf start end) s (eqb-true start end m)
      by false m h =
          let said = then (description_said (between start end glyf)) (λ (p : Glyph × List ℕ). Ok p.0) in
          let t = passes_both (ltb start end) (ltb start (length glyf)) said BadOffset g h in
          let f = then_accepted (description_said (between start end glyf)) (λ (p : Glyph × List ℕ). Ok p.0) g t.2 in
          let s : f.0.0 ≡ g = let k = f.2 in cc in
          let d = description_ok (between start end glyf) f.0 f.1 in
          let low = ltb-true start end t.0 in
          let high = ltb-true start (length glyf) t.1 in
          subst (TellsGlyph glyf start end) s (described_tells f.0.0 d.0 low high (f.0.1, d.1) d.2)

  -- A glyph that is told is read.
  pub entry_at : (g : Glyph) → TellsGlyph glyf start end g → entry_said glyf start end ≡ Ok g
  entry_at empty h = rw (eq-eqb start end h)
  entry_at (simple box ends points hints) h =
      entry_by (simple box ends points hints) h.bytes h.rises h.inside h.begins h.tells
  entry_at (composite box parts hints) h =
      entry_by (composite box parts hints) h.bytes h.rises h.inside h.begins h.tells

-- Glyphs that were read, behind those in `gs`.
entries_ok : (glyf : List ℕ) (start : ℕ) (ends : List ℕ) (gs all : List Glyph) → entries_said glyf start ends gs ≡ Ok all → (new : List Glyph) × (all ≡ gs ++ new) × TellsEach glyf start ends new
entries_ok glyf start [] gs all e =
    let s : gs ≡ all = cc in
    ([], sym s ∙ sym (append-nil gs), tt)
entries_ok glyf start (end ∷ ends) gs all e =
    let f = then_accepted (at_glyph (length gs) (entry_said glyf start end)) (λ (g : Glyph). entries_said glyf end ends (gs ++ g ∷ [])) all e in
    let g = f.0 in
    let h = entry_ok glyf start end g (at_glyph_ok (length gs) (entry_said glyf start end) g f.1) in
    let i = entries_ok glyf end ends (gs ++ g ∷ []) all f.2 in
    (g ∷ i.0, i.1 ∙ append_assoc gs (g ∷ []) i.0, (h, i.2))

-- Glyphs that are told are read.
entries_at : (glyf : List ℕ) (start : ℕ) (ends : List ℕ) (new gs : List Glyph) → TellsEach glyf start ends new → entries_said glyf start ends gs ≡ Ok (gs ++ new)
entries_at glyf start [] [] gs h = ap (λ (x : List Glyph). Ok x) (sym (append-nil gs))
entries_at glyf start [] (g ∷ new) gs h = absurd h
entries_at glyf start (end ∷ ends) [] gs h = absurd h
entries_at glyf start (end ∷ ends) (g ∷ new) gs h =
    let r = entry_at glyf start end g h.0 in
    let i = entries_at glyf end ends new (gs ++ g ∷ []) h.1 in
    rw r (i ∙ ap (λ (x : List Glyph). Ok x) (append_assoc gs (g ∷ []) new))

module _ (glyf : List ℕ) (n : ℕ) (long : Bool) where
  -- What is read behind the offsets' bytes.
  abbrev past_loca : List ℕ × List ℕ → Result (List Glyph) Refusal
  past_loca p =
      cond (ltb 0 n)
      (entries_said glyf (get_or (offsets_said long (suc n) p.0) 0 0) (drop 1 (offsets_said long (suc n) p.0)) [])
      (Err (refused_at no_glyph BadIndex))

  offsets_ok : (loca bytes rest : List ℕ) (gs : List Glyph) → length bytes ≡ suc n * offset_size long → loca ≡ bytes ++ rest → past_loca (bytes, rest) ≡ Ok gs → Tells glyf loca n long gs
  offsets_ok loca bytes rest gs l w e =
      let start = offset_said long (take (offset_size long) bytes) in
      let ends = offsets_said long n (drop (offset_size long) bytes) in
      let t = test_passed (ltb 0 n) (entries_said glyf start ends []) (refused_at no_glyph BadIndex) gs e in
      let i = entries_ok glyf start ends [] gs t.1 in
      record {
        some = ltb-true 0 n t.0;
        start = start;
        ends = ends;
        count = length_of (offset_size long) (offset_said long) n (drop (offset_size long) bytes);
        bytes = bytes;
        begins = (rest, w);
        tells_offsets = fields_tell (offset_size long) (offset_said long) (suc n) bytes l;
        each = subst (TellsEach glyf start ends) (sym i.1) i.2;
      }

-- What a read answers, the tables tell.
pub said_is_told : (glyf loca : List ℕ) (n : ℕ) (long : Bool) (gs : List Glyph) → standard_said glyf loca n long ≡ Ok gs → Tells glyf loca n long gs
said_is_told glyf loca n long gs e =
    let size = suc n * offset_size long in
    let f = then_accepted (at_glyph no_glyph (front size loca)) (past_loca glyf n long) gs e in
    let g = front_ok size loca f.0 (at_glyph_ok no_glyph (front size loca) f.0 f.1) in
    offsets_ok glyf n long loca f.0.0 f.0.1 gs g.0 g.1 f.2

-- What the tables tell, a read answers.
pub told_is_said : (glyf loca : List ℕ) (n : ℕ) (long : Bool) (gs : List Glyph) → Tells glyf loca n long gs → standard_said glyf loca n long ≡ Ok gs
told_is_said glyf loca n long gs t =
    let size = offset_size long in
    let offsets = t.start ∷ t.ends in
    let many : length offsets ≡ suc n = ap suc t.count in
    let l : length t.bytes ≡ suc n * size =
    told_length size (offset_said long) offsets t.bytes t.tells_offsets ∙ ap (λ (c : ℕ). c * size) many
    in
    let r : front (suc n * size) loca ≡ Ok (t.bytes, t.begins.0) =
    ap (front (suc n * size)) t.begins.1 ∙ front_at (suc n * size) t.bytes t.begins.0 l
    in
    let o : offsets_said long (suc n) t.bytes ≡ offsets =
    ap (λ (c : ℕ). offsets_said long c t.bytes) (sym many)
    ∙ told_fields size (offset_said long) offsets t.bytes t.tells_offsets
    in
    let a : standard_said glyf loca n long ≡ past_loca glyf n long (t.bytes, t.begins.0) =
    ap (λ (x : Result (List ℕ × List ℕ) ParseError). then (at_glyph no_glyph x) (past_loca glyf n long)) r
    in
    let b : past_loca glyf n long (t.bytes, t.begins.0) ≡ cond (ltb 0 n) (entries_said glyf t.start t.ends []) (Err (refused_at no_glyph BadIndex)) =
    ap
    (λ (os : List ℕ).
    cond (ltb 0 n) (entries_said glyf (get_or os 0 0) (drop 1 os) []) (Err (refused_at no_glyph BadIndex)))
    o
    in
    let c : cond (ltb 0 n) (entries_said glyf t.start t.ends []) (Err (refused_at no_glyph BadIndex)) ≡ Ok gs =
    rw (lt-ltb 0 n t.some) (entries_at glyf t.start t.ends gs [] t.each)
    in
    a ∙ (b ∙ c)

-- Tables tell one list of glyphs at most.
pub told_once : (glyf loca : List ℕ) (n : ℕ) (long : Bool) (gs hs : List Glyph) → Tells glyf loca n long gs → Tells glyf loca n long hs → gs ≡ hs
told_once glyf loca n long gs hs s t =
    let e : ◌≡◌ {A = Result (List Glyph) Refusal} (Ok gs) (Ok hs) =
    sym (told_is_said glyf loca n long gs s) ∙ told_is_said glyf loca n long hs t
    in
    cc
