-- How the ends of a glyph's contours are read, one contour after the other.
use Rattle.std.proofs.Common.{◌≡◌, ℕ, suc, ◌+◌, ◌-◌, ◌<◌, true, false, ◌&&◌, ltb, leb, List, [], ◌∷◌, ◌++◌, length, Ok, Err, Result, sym, refl, ap, ◌∙◌, arith, le-leb}
use Rattle.read.proofs.Taking.{took}
use Rattle.read.specs.Reading.{Takes}
use Rattle.read.specs.declared.error.ParseError.{ParseError}
use Rattle.read.specs.declared.error.ParseError.TheVariants.{BadEof, BadValue}
use Rattle.woff2.specs.Packed.{packed_said, packed_size}
use Rattle.unpack.specs.Outlines.{ends_said, packed}
use Rattle.unpack.proofs.Judged.{failed, Judges, passed}

abbrev Says : ℕ → List ℕ → Type 0
Says v bs = v ≡ packed_said bs

pub packed_took : (bs rest : List ℕ) (v : ℕ) → Takes (packed_size bs) Says BadEof bs (Ok v) rest → packed bs ≡ Ok (v, rest)
packed_took bs rest v t =
    let got = took (packed_size bs) Says BadEof bs rest v t in
    let e = got.1 in
    let f = got.2 in
    rw (le-leb (packed_size bs) (length bs) got.0) (cc)

module _ (k sum v : ℕ) (es bs rest : List ℕ) (read : packed bs ≡ Ok (v, rest)) where
  pub ends_next : (ltb 0 (sum + v) && leb (sum + v) 65535) ≡ true → ends_said (suc k) es sum bs ≡ ends_said k (es ++ (sum + v - 1) ∷ []) (sum + v) rest
  ends_next e = rw (read, e) refl

  pub ends_bad : (ltb 0 (sum + v) && leb (sum + v) 65535) ≡ false → ends_said (suc k) es sum bs ≡ Err BadValue
  ends_bad e = rw (read, e) refl

abbrev Sums : ℕ → ℕ → Result ℕ ParseError → Type 0
Sums points v r = Judges (ltb 0 (points + v) && leb (points + v) 65535) (points + v) r

-- A turn of the loop at the contour `i` of `c`.
module _ (c i points : ℕ) (es bs : List ℕ) (low : i < c) where
  one_less : ends_said (c - i) es points bs ≡ ends_said (suc (c - (i + 1))) es points bs
  one_less = let e : c - i ≡ suc (c - (i + 1)) = omega arith in ap (λ (n : ℕ). ends_said n es points bs) e

  pub turned : (v sum : ℕ) (rest : List ℕ) → packed bs ≡ Ok (v, rest) → Sums points v (Ok sum) → ends_said (c - i) es points bs ≡ ends_said (c - (i + 1)) (es ++ (sum - 1) ∷ []) sum rest
  turned v sum rest p s =
      let e = passed (ltb 0 (points + v) && leb (points + v) 65535) (points + v) sum s in
      one_less
      ∙ (ends_next (c - (i + 1)) points v es bs rest p e.0
      ∙ ap (λ (n : ℕ). ends_said (c - (i + 1)) (es ++ (n - 1) ∷ []) n rest) (sym e.1))

  pub refused : (v : ℕ) (rest : List ℕ) (d : ParseError) → packed bs ≡ Ok (v, rest) → Sums points v (Err d) → ends_said (c - i) es points bs ≡ Err d
  refused v rest d p s =
      let e = failed (ltb 0 (points + v) && leb (points + v) 65535) (points + v) d s in
      one_less ∙ (ends_bad (c - (i + 1)) points v es bs rest p e.0 ∙ ap (λ (x : ParseError). Err x) (sym e.1))
