-- What lies in a list from a place on.
use Rattle.std.proofs.Common.{◌≡◌, ℕ, ◌+◌, ◌≤◌, true, eqb, leb, List, ◌++◌, length, take, drop, sym, refl, ap, ◌∙◌, arith, eq-eqb, eqb-true, le-leb, leb-true}
use Rattle.std.proofs.lemmas.List.{append_assoc, drop_at, drop-drop, length-append, length-drop, length-take, take-append-drop, take_at}
use Rattle.glyph.specs.Parts.{end, held as cut}
use Rattle.glyph.specs.Records.{part, places}
use Rattle.glyph.specs.declared.lists.Part.{Part}
use Rattle.std.proofs.lemmas.Bool.{and_from}
use Rattle.read.proofs.Tests.{both_true}
use Rattle.held.specs.Tests.{lies}

-- Values lie in a list from a place on, within the places that count.
abbrev pub Lies : {A : Type 0} → ℕ → List A → List A → Type 0
Lies at xs ys = (at + length ys ≤ places xs) × (take (length ys) (drop at xs) ≡ ys)

module _ {A : Type 0} where
  begins : (ys ws : List A) → take (length ys) ws ≡ ys → ws ≡ ys ++ drop (length ys) ws
  begins ys ws e = sym (take-append-drop (length ys) ws) ∙ ap (λ (x : List A). x ++ drop (length ys) ws) e

  module _ (at : ℕ) (xs ys zs : List A) where
    pub lies_split : Lies at xs (ys ++ zs) → Lies at xs ys × Lies (at + length ys) xs zs
    lies_split h =
        let l = length-append ys zs in
        let w = drop at xs in
        let rest = drop (length (ys ++ zs)) w in
        let front : w ≡ ys ++ (zs ++ rest) = begins (ys ++ zs) w h.1 ∙ append_assoc ys zs rest in
        let behind : drop (at + length ys) xs ≡ zs ++ rest = sym (drop-drop (length ys) at xs) ∙ (ap (drop (length ys)) front ∙ drop_at ys (zs ++ rest) (length ys) refl) in (
          (omega (arith, h.0), ap (take (length ys)) front ∙ take_at ys (zs ++ rest) (length ys) refl),
          (omega (arith, h.0), ap (take (length zs)) behind ∙ take_at zs rest (length zs) refl),
        )

    pub lies_join : Lies at xs ys → Lies (at + length ys) xs zs → Lies at xs (ys ++ zs)
    lies_join h k =
        let l = length-append ys zs in
        let w = drop at xs in
        let v = drop (at + length ys) xs in
        let rest = drop (length zs) v in
        let behind : drop (length ys) w ≡ zs ++ rest = drop-drop (length ys) at xs ∙ begins zs v k.1 in
        let front : w ≡ (ys ++ zs) ++ rest =
        begins ys w h.1 ∙ (ap (λ (x : List A). ys ++ x) behind ∙ sym (append_assoc ys zs rest))
        in
        (omega (arith, k.0), ap (take (length (ys ++ zs))) front ∙ take_at (ys ++ zs) rest (length (ys ++ zs)) refl)

  -- A part that passed the test, by what it holds.
  pub part_lies : (at : ℕ) (p : Part) (xs ys : List A) → lies at p xs ≡ true → ys ≡ cut p xs → (p ≡ part at (length ys)) × Lies at xs ys
  part_lies at p xs ys h e =
      let b = both_true (eqb p.start at) (leb (end p) (places xs)) h in
      let s : p.start ≡ at = eqb-true p.start at b.0 in
      let low = leb-true (end p) (places xs) b.1 in
      let a = length-take p.len (drop p.start xs) in
      let d = length-drop p.start xs in
      let m = ap length e in
      let n : p.len ≡ length ys = omega arith in
      let t : take (length ys) (drop at xs) ≡ ys =
      ap (λ (k : ℕ). take k (drop at xs)) (sym n) ∙ (ap (λ (k : ℕ). take p.len (drop k xs)) (sym s) ∙ sym e)
      in
      (ap (λ (k : ℕ). part k p.len) s ∙ ap (part at) n, (omega arith, t))

  pub lies_passes : (at : ℕ) (xs ys : List A) → Lies at xs ys → lies at (part at (length ys)) xs ≡ true
  lies_passes at xs ys h = and_from (eqb at at) (leb (at + length ys) (places xs)) (eq-eqb at at refl) (le-leb (at + length ys) (places xs) h.0)
