-- How the components of a glyph are read, one after the other.
use Rattle.std.proofs.Common.{◌≡◌, ℕ, suc, ◌+◌, ◌-◌, ◌<◌, ◌≤◌, Bool, true, false, cond, ◌||◌, List, [], ◌∷◌, ◌++◌, length, Ok, Err, sym, refl, ap, ◌∙◌, arith, le-leb}
use borrow.Author.Tests.{lt-leb}
use Rattle.std.proofs.lemmas.List.{length-drop}
use Rattle.composite.specs.Components.{component_said, component_size, flags_said, has}
use Rattle.glyph.specs.declared.component.Component.{Component}
use Rattle.read.proofs.Taking.{missed, took}
use Rattle.read.specs.Reading.{Takes}
use Rattle.read.specs.declared.error.ParseError.{ParseError}
use Rattle.read.specs.declared.error.ParseError.TheVariants.{BadEof}
use Rattle.unpack.specs.Composites.{component, components_said}

at_least : (b : Bool) → 1 ≤ cond b 2 1
at_least true = omega arith
at_least false = omega arith

-- A component has at least six bytes.
pub six : (flags : ℕ) → 6 ≤ component_size flags
six flags = let a = at_least (has flags 0x0001) in omega arith

abbrev Says : List ℕ → Component → List ℕ → Type 0
Says bs c x = c ≡ component_said bs

module _ (bs rest : List ℕ) where
  pub part_took : (c : Component) → Takes (component_size (flags_said bs)) (Says bs) BadEof bs (Ok c) rest → (component bs ≡ Ok (c, rest)) × (length rest + 6 ≤ length bs)
  part_took c t =
      let got = took (component_size (flags_said bs)) (Says bs) BadEof bs rest c t in
      let e = got.1 in
      let f = got.2 in
      let n = six (flags_said bs) in
      let l = ap length f ∙ length-drop (component_size (flags_said bs)) bs in
      (rw (le-leb (component_size (flags_said bs)) (length bs) got.0) (cc), omega (arith, got.0))

  pub part_missed : (d : ParseError) → Takes (component_size (flags_said bs)) (Says bs) BadEof bs (Err d) rest → component bs ≡ Err d
  part_missed d t =
      let m = missed (component_size (flags_said bs)) (Says bs) BadEof bs rest d t in
      rw (lt-leb (component_size (flags_said bs)) (length bs) m.0) (ap (λ (x : ParseError). Err x) (sym m.1))

-- A turn of the loop at the component `n` of at most `total`.
module _ (total n : ℕ) (cs : List Component) (mark : Bool) (bs : List ℕ) (low : n < total) where
  one_less : components_said (total - n) cs mark bs ≡ components_said (suc (total - (n + 1))) cs mark bs
  one_less = let e : total - n ≡ suc (total - (n + 1)) = omega arith in ap (λ (k : ℕ). components_said k cs mark bs) e

  pub more : (c : Component) (rest : List ℕ) → component bs ≡ Ok (c, rest) → has c.flags 0x0020 ≡ true → components_said (total - n) cs mark bs ≡ components_said (total - (n + 1)) (cs ++ c ∷ []) (mark || has c.flags 0x0100) rest
  more c rest e f = one_less ∙ rw (e, f) refl

  pub last : (c : Component) (rest : List ℕ) → component bs ≡ Ok (c, rest) → has c.flags 0x0020 ≡ false → components_said (total - n) cs mark bs ≡ Ok (cs ++ c ∷ [], (mark || has c.flags 0x0100), rest)
  last c rest e f = one_less ∙ rw (e, f) refl

  pub cut : (d : ParseError) → component bs ≡ Err d → components_said (total - n) cs mark bs ≡ Err d
  cut d e = one_less ∙ rw e refl
