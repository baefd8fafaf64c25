-- Instructions and boxes.
use Rattle.std.proofs.Common.{◌≡◌, ℕ, Bool, true, false, List, [], ◌++◌, length, Ok, sym, refl, ap, ◌∙◌}
use Rattle.read.proofs.Thens.{then_accepted}
use Rattle.binary.specs.Bytes.{box_said}
use Rattle.binary.specs.declared.BoundingBox.{BoundingBox}
use Rattle.read.specs.Answers.{front, then}
use Rattle.unpack.specs.Glyphs.{box_front, marked_instructions}
use Rattle.unpack.specs.Hints.{instructions_said}
use Rattle.unpack.specs.Outlines.{packed}
use Rattle.unpack.specs.Spelled.{Hints, Says}
use Rattle.woff2.specs.Packed.{Packs}
use Rattle.spelled.proofs.Fronts.{front_at, front_ok, packed_at, packed_ok}

module _ (glyphs bytes : List ℕ) (q : List ℕ × List ℕ × List ℕ) where
  -- Instructions that were read: their number packed in the glyph data, and the bytes in their own stream.
  pub instructions_ok : instructions_said glyphs bytes ≡ Ok q → (size : List ℕ) × Packs (length q.0) size × (glyphs ≡ size ++ q.1) × (bytes ≡ q.0 ++ q.2)
  instructions_ok e =
      let f = then_accepted (packed glyphs) (λ (p : ℕ × List ℕ). then (front p.0 bytes) (λ (b : List ℕ × List ℕ). Ok (b.0, p.1, b.1))) q e in
      let g = packed_ok glyphs f.0 f.1 in
      let h = then_accepted (front f.0.0 bytes) (λ (b : List ℕ × List ℕ). Ok (b.0, f.0.1, b.1)) q f.2 in
      let k = front_ok f.0.0 bytes h.0 h.1 in
      let s : (h.0.0, f.0.1, h.0.1) ≡ q = let w = h.2 in cc in
      let s0 : h.0.0 ≡ q.0 = ap (λ (x : List ℕ × List ℕ × List ℕ). x.0) s in
      let s1 : f.0.1 ≡ q.1 = ap (λ (x : List ℕ × List ℕ × List ℕ). x.1) s in
      let s2 : h.0.1 ≡ q.2 = ap (λ (x : List ℕ × List ℕ × List ℕ). x.2) s in
      let p = g.2.1 in
      let n : f.0.0 ≡ length q.0 = sym k.0 ∙ ap length s0 in
      let a = g.1 in
      let b = k.1 in
      (g.0, (g.2.0, p ∙ n), cc, cc)

  -- Instructions where a component is marked, and none where none is.
  pub marked_ok : (mark : Bool) → marked_instructions mark glyphs bytes ≡ Ok q → (size : List ℕ) × (own : List ℕ) × Hints mark q.0 size own × (glyphs ≡ size ++ q.1) × (bytes ≡ own ++ q.2)
  marked_ok true e = let f = instructions_ok e in (f.0, q.0, (f.1, refl), f.2, f.3)
  marked_ok false e =
      let s : ([], glyphs, bytes) ≡ q = cc in
      let s0 : [] ≡ q.0 = ap (λ (x : List ℕ × List ℕ × List ℕ). x.0) s in
      ([], [], (sym s0, refl, refl), ap (λ (x : List ℕ × List ℕ × List ℕ). x.1) s, ap (λ (x : List ℕ × List ℕ × List ℕ). x.2) s)

module _ (hints glyphs bytes : List ℕ) where
  pub instructions_at : (size : List ℕ) → Packs (length hints) size → instructions_said (size ++ glyphs) (hints ++ bytes) ≡ Ok (hints, glyphs, bytes)
  instructions_at size h =
      rw (packed_at (length hints) size glyphs h, front_at (length hints) hints bytes refl)

  pub marked_at : (mark : Bool) (size own : List ℕ) → Hints mark hints size own → marked_instructions mark (size ++ glyphs) (own ++ bytes) ≡ Ok (hints, glyphs, bytes)
  marked_at true size own h = rw h.1 (instructions_at size h.0)
  marked_at false size own h = rw (h.0, h.1, h.2)

-- A box of its own.
pub box_ok : (bs : List ℕ) (q : BoundingBox × List ℕ) → box_front bs ≡ Ok q → (p : List ℕ) × (bs ≡ p ++ q.1) × Says 8 box_said q.0 p
box_ok bs q e =
    let f = then_accepted (front 8 bs) (λ (p : List ℕ × List ℕ). Ok (box_said p.0, p.1)) q e in
    let g = front_ok 8 bs f.0 f.1 in
    let s : (box_said f.0.0, f.0.1) ≡ q = let w = f.2 in cc in
    let s1 : f.0.1 ≡ q.1 = ap (λ (x : BoundingBox × List ℕ). x.1) s in
    let a = g.1 in
    (f.0.0, cc, (g.0, ap (λ (x : BoundingBox × List ℕ). x.0) s))

pub box_at : (b : BoundingBox) (p rest : List ℕ) → Says 8 box_said b p → box_front (p ++ rest) ≡ Ok (b, rest)
box_at b p rest h = rw (front_at 8 p rest h.0, h.1)
