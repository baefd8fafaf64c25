-- A header read field by field is the one that its bytes say.
use Rattle.std.proofs.Common.{◌≡◌, ℕ, ◌+◌, ◌<◌, ◌≤◌, leb, List, length, get_or, take, drop, Ok, Err, MatchBool, Result, refl, ap, ◌∙◌, arith}
use borrow.Author.Tests.{lt-leb}
use Rattle.std.specs.Result.{IsErrAnd}
use Rattle.std.proofs.lemmas.Result.{err_from_is_err_and}
use Rattle.std.proofs.lemmas.List.{drop-drop, get_or-drop, get_or-take, length-drop}
use Rattle.binary.specs.Bytes.{u16_at, u16_said, u32_at, u32_said}
use Rattle.read.proofs.Taking.{missed, took}
use Rattle.read.specs.Reading.{Takes}
use Rattle.read.specs.declared.error.ParseError.{ParseError}
use Rattle.read.specs.declared.error.ParseError.TheVariants.{BadEof}
use Rattle.woff2.specs.declared.header.GlyfHeader.{GlyfHeader}

-- What is left of `whole` once `k` bytes were read.
pub record At (whole : List ℕ) (k : ℕ) (left : List ℕ) : Type 0 where
  pub rest : left ≡ drop k whole
  pub inside : k ≤ length whole

byte_at : (bs : List ℕ) (k n i j : ℕ) → i < n → k + i ≡ j → get_or (take n (drop k bs)) i 0 ≡ get_or bs j 0
byte_at bs k n i j h e = get_or-take n (drop k bs) i 0 h ∙ (get_or-drop k bs i 0 ∙ ap (λ (m : ℕ). get_or bs m 0) e)

abbrev Says : (List ℕ → ℕ) → ℕ → List ℕ → Type 0
Says decode v bs = v ≡ decode bs

module _ (whole before after : List ℕ) (k : ℕ) (at : At whole k before) where
  next : (n : ℕ) (decode : List ℕ → ℕ) (v : ℕ) → Takes n (Says decode) BadEof before (Ok v) after → (v ≡ decode (take n (drop k whole))) × At whole (k + n) after
  next n decode v t =
      let got = took n (Says decode) BadEof before after v t in
      let long = ap length at.rest ∙ length-drop k whole in (
        got.1 ∙ ap (λ (bs : List ℕ). decode (take n bs)) at.rest,
        record { rest = got.2 ∙ (ap (drop n) at.rest ∙ drop-drop n k whole); inside = omega (arith, got.0, at.inside) },
      )

  pub next_16 : (v : ℕ) → Takes 2 (Says u16_said) BadEof before (Ok v) after → (v ≡ u16_at whole k) × At whole (k + 2) after
  next_16 v t =
      let got = next 2 u16_said v t in
      let b0 = byte_at whole k 2 0 k (omega arith) (omega arith) in
      let b1 = byte_at whole k 2 1 (k + 1) (omega arith) (omega arith) in
      (omega (arith, got.0), got.1)

  pub next_32 : (v : ℕ) → Takes 4 (Says u32_said) BadEof before (Ok v) after → (v ≡ u32_at whole k) × At whole (k + 4) after
  next_32 v t =
      let got = next 4 u32_said v t in
      let b0 = byte_at whole k 4 0 k (omega arith) (omega arith) in
      let b1 = byte_at whole k 4 1 (k + 1) (omega arith) (omega arith) in
      let b2 = byte_at whole k 4 2 (k + 2) (omega arith) (omega arith) in
      let b3 = byte_at whole k 4 3 (k + 3) (omega arith) (omega arith) in
      (omega (arith, got.0), got.1)

-- The first fields, up to the size of the point counts.
pub record Points (whole : List ℕ) (num format contours points : ℕ) (left : List ℕ) : Type 0 where
  pub num_said : num ≡ u16_at whole 4
  pub format_said : format ≡ u16_at whole 6
  pub contours_said : contours ≡ u32_at whole 8
  pub points_said : points ≡ u32_at whole 12
  pub here : At whole 16 left

pub up_to_points : {whole b5 : List ℕ} {num format contours points : ℕ} (b1 b2 b3 b4 : List ℕ) (reserved : ℕ) → Takes 4 (Says u32_said) BadEof whole (Ok reserved) b1 → Takes 2 (Says u16_said) BadEof b1 (Ok num) b2 → Takes 2 (Says u16_said) BadEof b2 (Ok format) b3 → Takes 4 (Says u32_said) BadEof b3 (Ok contours) b4 → Takes 4 (Says u32_said) BadEof b4 (Ok points) b5 → Points whole num format contours points b5
up_to_points {whole} {b5} {num} {format} {contours} {points} b1 b2 b3 b4 reserved t0 t1 t2 t3 t4 =
    let start : At whole 0 whole = record { rest = refl; inside = omega arith } in
    let ignored = next_32 whole whole b1 0 start reserved t0 in
    let n = next_16 whole b1 b2 4 ignored.1 num t1 in
    let f = next_16 whole b2 b3 6 n.1 format t2 in
    let c = next_32 whole b3 b4 8 f.1 contours t3 in
    let p = next_32 whole b4 b5 12 c.1 points t4 in
    record {
      num_said = n.0;
      format_said = f.0;
      contours_said = c.0;
      points_said = p.0;
      here = p.1;
    }

-- One more size was read.
pub then_size : {whole before after : List ℕ} {k : ℕ} (v : ℕ) → At whole k before → Takes 4 (Says u32_said) BadEof before (Ok v) after → At whole (k + 4) after
then_size v at t = (next_32 _ _ _ _ at v t).1

-- A size that is not there whole, with what the exit of its `?` returns.
pub no_size : {whole before : List ℕ} {k : ℕ} (after : List ℕ) (d : ParseError) (r : Result GlyfHeader ParseError) (said : GlyfHeader) → At whole k before → k + 4 ≤ 36 → Takes 4 (Says u32_said) BadEof before (Err d) after → IsErrAnd r (λ e. e ≡ d) → MatchBool (leb 36 (length whole)) (r ≡ Ok said) (r ≡ Err BadEof)
no_size {whole} {before} {k} after d r said at h t returned =
    let m = missed 4 (Says u32_said) BadEof before after d t in
    let long = ap length at.rest ∙ length-drop k whole in
    let left = err_from_is_err_and r returned in
    rw (lt-leb 36 (length whole) (omega (arith, m.0, at.inside))) (left.1 ∙ ap Err (left.2 ∙ m.1))
