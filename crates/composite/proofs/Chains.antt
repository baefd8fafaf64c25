-- A component read field by field takes the bytes that it has as a whole.
use Rattle.std.proofs.Common.{◌≡◌, ℕ, ◌+◌, ◌<◌, ◌≤◌, Bool, true, false, leb, leb-false, List, length, take, drop, Ok, Err, MatchBool, Result, refl, ap, ◌∙◌, arith, le-leb}
use borrow.Author.Tests.{lt-leb}
use lib.Bits.{bit_and}
use Rattle.std.proofs.lemmas.List.{drop-drop, length-drop}
use Rattle.binary.specs.Bytes.{u16_said}
use Rattle.glyph.specs.declared.component.Component.{Component}
use Rattle.glyph.specs.declared.component.CompositeGlyphArgument.{CompositeGlyphArgument}
use Rattle.glyph.specs.declared.component.CompositeGlyphScale.{CompositeGlyphScale}
use Rattle.read.proofs.Taking.{taken_when, took}
use Rattle.read.specs.Reading.{Takes}
use Rattle.read.specs.declared.error.ParseError.{ParseError}
use Rattle.read.specs.declared.error.ParseError.TheVariants.{BadEof}
use Rattle.composite.specs.Components.{argument_said, argument_size, component_by, component_said, component_size, flags_said, Reads, scale_said, scale_size}

abbrev pub component : ℕ → ℕ → CompositeGlyphArgument → CompositeGlyphArgument → CompositeGlyphScale → Component
component f i a b s = record { flags = f; glyph_index = i; argument1 = a; argument2 = b; scale = s }

abbrev U16 : ℕ → List ℕ → Type 0
U16 v bs = v ≡ u16_said bs

abbrev Argument : ℕ → CompositeGlyphArgument → List ℕ → Type 0
Argument f a bs = a ≡ argument_said f bs

abbrev Scaled : ℕ → List ℕ → CompositeGlyphScale → Type 0
Scaled f before s = s ≡ scale_said f (take (scale_size f) before)

module _ {A E : Type 0} (n : ℕ) (Says : A → Type 0) (fault : E) (before after : List ℕ) where
  read_whole : (x : A) → Reads n Says fault before (Ok x) after → (n ≤ length before) × Says x × (after ≡ drop n before)
  read_whole x t = taken_when n before after t (λ (e : ◌≡◌ {A = Result A E} (Ok x) (Err fault)). cc)

  read_short : (d : E) → Reads n Says fault before (Err d) after → (length before < n) × (d ≡ fault)
  read_short d t = by (leb n (length before)) refl t
    where
      by : (b : Bool) → leb n (length before) ≡ b → MatchBool b (⊥ × (after ≡ drop n before)) (◌≡◌ {A = Result A E} (Err d) (Err fault)) → (length before < n) × (d ≡ fault)
      by true e p = absurd p.0
      by false e p = (leb-false n (length before) e, cc)

module _
    (b0 b1 b2 b3 b4 b5 : List ℕ)
    (raw i : ℕ)
    (a b : CompositeGlyphArgument)
    (read_Flags : Takes 2 U16 BadEof b0 (Ok raw) b1)
    (read-index : Takes 2 U16 BadEof b1 (Ok i) b2)
    (read_first : Takes (argument_size (bit_and raw 0x1fef)) (Argument (bit_and raw 0x1fef)) BadEof b2 (Ok a) b3)
    (read_second : Takes (argument_size (bit_and raw 0x1fef)) (Argument (bit_and raw 0x1fef)) BadEof b3 (Ok b) b4)
  where
    abbrev f : ℕ
    f = bit_and raw 0x1fef

    abbrev n : ℕ
    n = argument_size f

    kept : f ≡ flags_said b0
    kept = ap (λ (v : ℕ). bit_and v 0x1fef) (took 2 U16 BadEof b0 b1 raw read_Flags).1

    at1 : b1 ≡ drop 2 b0
    at1 = (took 2 U16 BadEof b0 b1 raw read_Flags).2

    at2 : b2 ≡ drop 4 b0
    at2 = (took 2 U16 BadEof b1 b2 i read-index).2 ∙ (ap (drop 2) at1 ∙ drop-drop 2 2 b0)

    at3 : b3 ≡ drop (4 + n) b0
    at3 = (took n (Argument f) BadEof b2 b3 a read_first).2 ∙ (ap (drop n) at2 ∙ drop-drop n 4 b0)

    at4 : b4 ≡ drop (4 + n + n) b0
    at4 = (took n (Argument f) BadEof b3 b4 b read_second).2 ∙ (ap (drop n) at3 ∙ drop-drop n (4 + n) b0)

    -- All but the scale is there.
    enough : 4 + n + n ≤ length b0
    enough =
        let l1 = (took 2 U16 BadEof b0 b1 raw read_Flags).0 in
        let l2 = (took 2 U16 BadEof b1 b2 i read-index).0 in
        let l3 = (took n (Argument f) BadEof b2 b3 a read_first).0 in
        let l4 = (took n (Argument f) BadEof b3 b4 b read_second).0 in
        let m1 = ap length at1 ∙ length-drop 2 b0 in
        let m2 = ap length at2 ∙ length-drop 4 b0 in
        let m3 = ap length at3 ∙ length-drop (4 + n) b0 in
        omega arith

    left : length b4 + (4 + n + n) ≡ length b0
    left = let m4 = ap length at4 ∙ length-drop (4 + n + n) b0 in let e = enough in omega arith

    sized : component_size f ≡ component_size (flags_said b0)
    sized = ap component_size kept

    pub no_scale : (d : ParseError) (r : Result Component ParseError) → r ≡ Err d → Reads (scale_size f) (Scaled f b4) BadEof b4 (Err d) b5 → Reads (component_size (flags_said b0)) (λ c. c ≡ component_said b0) BadEof b0 r b5
    no_scale d r e t =
        let m = read_short (scale_size f) (Scaled f b4) BadEof b4 b5 d t in
        let l = left in
        let z = sized in
        let short : length b0 < component_size (flags_said b0) = omega (arith, m.0) in
        rw (lt-leb (component_size (flags_said b0)) (length b0) short) (e ∙ ap (λ (x : ParseError). Err x) m.1)

    pub whole : (s : CompositeGlyphScale) → Reads (scale_size f) (Scaled f b4) BadEof b4 (Ok s) b5 → Reads (component_size (flags_said b0)) (λ c. c ≡ component_said b0) BadEof b0 (Ok (component f i a b s)) b5
    whole s t =
        let got = read_whole (scale_size f) (Scaled f b4) BadEof b4 b5 s t in
        let l = left in
        let z = sized in
        let ei : i ≡ u16_said (take 2 (drop 2 b0)) =
        (took 2 U16 BadEof b1 b2 i read-index).1 ∙ ap (λ (bs : List ℕ). u16_said (take 2 bs)) at1
        in
        let ea : a ≡ argument_said f (take n (drop 4 b0)) =
        (took n (Argument f) BadEof b2 b3 a read_first).1 ∙ ap (λ (bs : List ℕ). argument_said f (take n bs)) at2
        in
        let eb : b ≡ argument_said f (take n (drop (4 + n) b0)) =
        (took n (Argument f) BadEof b3 b4 b read_second).1 ∙ ap (λ (bs : List ℕ). argument_said f (take n bs)) at3
        in
        let es : s ≡ scale_said f (take (scale_size f) (drop (4 + n + n) b0)) =
        got.1 ∙ ap (λ (bs : List ℕ). scale_said f (take (scale_size f) bs)) at4
        in
        let same : component f i a b s ≡ component f (u16_said (take 2 (drop 2 b0))) (argument_said f (take n (drop 4 b0))) (argument_said f (take n (drop (4 + n) b0))) (scale_said f (take (scale_size f) (drop (4 + n + n) b0))) =
        ap (λ (x : ℕ). component f x a b s) ei
        ∙ (ap (λ (x : CompositeGlyphArgument). component f (u16_said (take 2 (drop 2 b0))) x b s) ea
        ∙ (ap (λ (x : CompositeGlyphArgument). component f (u16_said (take 2 (drop 2 b0))) (argument_said f (take n (drop 4 b0))) x s) eb
        ∙ ap (λ (x : CompositeGlyphScale). component f (u16_said (take 2 (drop 2 b0))) (argument_said f (take n (drop 4 b0))) (argument_said f (take n (drop (4 + n) b0))) x) es))
        in
        let end : b5 ≡ drop (component_size (flags_said b0)) b0 =
        got.2 ∙ (ap (drop (scale_size f)) at4 ∙ (drop-drop (scale_size f) (4 + n + n) b0 ∙ ap (λ (k : ℕ). drop k b0) z))
        in
        let all : component_size (flags_said b0) ≤ length b0 = omega (arith, got.0) in
        rw (le-leb (component_size (flags_said b0)) (length b0) all) (same ∙ ap (λ (k : ℕ). component_by k b0) kept, end)
