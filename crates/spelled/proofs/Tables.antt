-- A table spells the glyphs that a read of it answers, and no others.
use Rattle.std.proofs.Common.{◌≡◌, ℕ, ◌≤◌, Bool, leb, List, [], length, drop, Some, None, Ok, Option, Result, sym, refl, ap, ◌∙◌, subst, arith}
use Rattle.std.proofs.lemmas.List.{length-drop, length-take}
use Rattle.std.proofs.lemmas.Bool.{le-leb, leb-true}
use Rattle.std.proofs.lemmas.Bool.Decides.{nat_tests}
use Rattle.read.proofs.Thens.{test_passed}
use Rattle.glyph.specs.Causes.{no_glyph, refused_at}
use Rattle.glyph.specs.Glyphs.{Glyph}
use Rattle.glyph.specs.declared.refusal.Refusal.{Refusal}
use Rattle.read.specs.declared.error.ParseError.{ParseError}
use Rattle.read.specs.declared.error.ParseError.TheVariants.{BadEof}
use Rattle.unpack.specs.Glyphs.{box_bits, glyphs_said, table_said, unless_faulty}
use Rattle.unpack.specs.Rests.{streams_of}
use Rattle.unpack.specs.Spelled.{SpellEach, Spells}
use Rattle.woff2.proofs.Bitmaps.{bits_length}
use Rattle.woff2.proofs.Streams.{no_fault}
use Rattle.woff2.specs.Bits.{bits}
use Rattle.woff2.specs.Transformed.{bitmap_size, boxes_at, cut, header_said, streams_end, streams_fault}
use Rattle.woff2.specs.declared.header.GlyfHeader.{GlyfHeader}
use Rattle.spelled.proofs.Lists.{glyphs_at, glyphs_ok}

-- Where all streams lie inside the table and the bitmap inside the boxes, nothing is wrong.
fault_none : (h : GlyfHeader) (len : ℕ) → streams_end h ≤ len → bitmap_size h.num_glyphs ≤ h.bbox_size → streams_fault h len ≡ None
fault_none h len i b = grind (arith, nat_tests)

-- There is a bit for each glyph.
bit_each : (h : GlyfHeader) (bs : List ℕ) → streams_end h ≤ length bs → bitmap_size h.num_glyphs ≤ h.bbox_size → length (box_bits h bs) ≡ h.num_glyphs
bit_each h bs i b =
    let n = h.num_glyphs in
    let map_bytes = cut (boxes_at h) (bitmap_size n) bs in
    let t = length-take n (bits map_bytes) in
    let l = bits_length map_bytes in
    let c = length-take (bitmap_size n) (drop (boxes_at h) bs) in
    let d = length-drop (boxes_at h) bs in
    omega arith

faultless : (o : Option ParseError) (r : Result (List Glyph) Refusal) (gs : List Glyph) → unless_faulty o r ≡ Ok gs → (o ≡ None) × (r ≡ Ok gs)
faultless None r gs e = (refl, e)
faultless (Some d) r gs e = let z : ◌≡◌ {A = ℕ} 0 1 = cc in absurd (omega arith)

-- What a read answers, the table spells.
pub said_is_spelled : (bs : List ℕ) (gs : List Glyph) → table_said bs ≡ Ok gs → Spells bs gs
said_is_spelled bs gs e =
    let h = header_said bs in
    let said = glyphs_said (box_bits h bs) [] (streams_of bs) in
    let a = test_passed (leb 36 (length bs)) (unless_faulty (streams_fault h (length bs)) said) (refused_at no_glyph BadEof) gs e in
    let f = faultless (streams_fault h (length bs)) said gs a.1 in
    let sound = no_fault h (length bs) f.0 in
    let g = glyphs_ok (box_bits h bs) [] (streams_of bs) gs f.1 in
    record {
      header = leb-true 36 (length bs) a.0;
      count = sym (bit_each h bs sound.0 sound.1) ∙ (sym g.3 ∙ ap length (sym g.2));
      inside = sound.0;
      bitmap = sound.1;
      pieces = g.1;
      each = subst (λ (x : List Glyph). SpellEach x g.1) (sym g.2) g.4;
      bits = g.5;
      streams = g.6;
    }

-- What the table spells, a read answers.
pub spelled_is_said : (bs : List ℕ) (gs : List Glyph) → Spells bs gs → table_said bs ≡ Ok gs
spelled_is_said bs gs s =
    let h = header_said bs in
    let none = fault_none h (length bs) s.inside s.bitmap in
    let all = glyphs_at gs s.pieces [] (streams_of bs) s.each s.streams in
    rw (le-leb 36 (length bs) s.header, none) (ap (λ (x : List Bool). glyphs_said x [] (streams_of bs)) (sym s.bits) ∙ all)

-- A table spells one list of glyphs at most.
pub spelled_once : (bs : List ℕ) (gs hs : List Glyph) → Spells bs gs → Spells bs hs → gs ≡ hs
spelled_once bs gs hs s t =
    let e : ◌≡◌ {A = Result (List Glyph) Refusal} (Ok gs) (Ok hs) = sym (spelled_is_said bs gs s) ∙ spelled_is_said bs hs t in
    cc
