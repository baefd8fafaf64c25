-- What the first bytes of a list say, and how they are spelled again.
use Rattle.std.specs.Prelude.{◌≡◌, ℕ, ◌+◌, ◌*◌, ◌/◌, ◌%◌, ◌<◌, ◌≤◌, List, [], ◌∷◌, ◌++◌, length, take, drop, refl}
use Rattle.std.proofs.Common.{sym, ap, ◌∙◌, add-zero, arith}
use Rattle.std.specs.Int.{w8, w16}
use mir.Val.{to_z}
use Rattle.std.proofs.lemmas.List.{take-append-drop, drop-drop, get_or-drop, length-drop, take_all}
use Rattle.std.proofs.lemmas.Int.{of_z-to_z}
use Rattle.read.specs.Bytes.{AllBytes, bytes_drop}
use Rattle.binary.specs.Bytes.{u8_said, i8_said, u16_at, i16_at, u16_said, i16_said, u32_said, u8_bytes, i8_bytes, u16_bytes, i16_bytes, u32_bytes, box_bytes, box_said, metric_bytes, metric_said}

-- What was read is written back.
pub u8_again : (bs : List ℕ) → 1 ≤ length bs → u8_bytes (u8_said bs) ≡ take 1 bs
u8_again [] h = absurd (omega arith)
u8_again (a ∷ bs) h = refl

pub i8_again : (bs : List ℕ) → 1 ≤ length bs → AllBytes bs → i8_bytes (i8_said bs) ≡ take 1 bs
i8_again [] h ok = absurd (omega arith)
i8_again (a ∷ bs) h ok = ap (λ (n : ℕ). n ∷ []) (of_z-to_z w8 a ok.0)

pub u16_again : (bs : List ℕ) → 2 ≤ length bs → AllBytes bs → u16_bytes (u16_said bs) ≡ take 2 bs
u16_again [] h ok = absurd (omega arith)
u16_again (a ∷ []) h ok = absurd (omega arith)
u16_again (a ∷ (b ∷ bs)) h ok =
    let p : a < 256 = ok.0 in
    let q : b < 256 = ok.1.0 in
    let x : (a * 256 + b) / 256 % 256 ≡ a = omega arith in
    let y : (a * 256 + b) % 256 ≡ b = omega arith in
    cc

u16_below : (bs : List ℕ) → 2 ≤ length bs → AllBytes bs → u16_said bs < 65536
u16_below [] h ok = absurd (omega arith)
u16_below (a ∷ []) h ok = absurd (omega arith)
u16_below (a ∷ (b ∷ bs)) h ok =
    let p : a < 256 = ok.0 in
    let q : b < 256 = ok.1.0 in
    omega arith

pub i16_again : (bs : List ℕ) → 2 ≤ length bs → AllBytes bs → i16_bytes (i16_said bs) ≡ take 2 bs
i16_again bs h ok = ap u16_bytes (of_z-to_z w16 (u16_said bs) (u16_below bs h ok)) ∙ u16_again bs h ok

pub u32_again : (bs : List ℕ) → 4 ≤ length bs → AllBytes bs → u32_bytes (u32_said bs) ≡ take 4 bs
u32_again [] h ok = absurd (omega arith)
u32_again (a ∷ []) h ok = absurd (omega arith)
u32_again (a ∷ (b ∷ [])) h ok = absurd (omega arith)
u32_again (a ∷ (b ∷ (c ∷ []))) h ok = absurd (omega arith)
u32_again (a ∷ (b ∷ (c ∷ (d ∷ bs)))) h ok =
    let p : a < 256 = ok.0 in
    let q : b < 256 = ok.1.0 in
    let r : c < 256 = ok.1.1.0 in
    let s : d < 256 = ok.1.1.1.0 in
    let w : (a * 16777216 + b * 65536 + c * 256 + d) / 16777216 % 256 ≡ a = omega arith in
    let x : (a * 16777216 + b * 65536 + c * 256 + d) / 65536 % 256 ≡ b = omega arith in
    let y : (a * 16777216 + b * 65536 + c * 256 + d) / 256 % 256 ≡ c = omega arith in
    let z : (a * 16777216 + b * 65536 + c * 256 + d) % 256 ≡ d = omega arith in
    cc

-- Two bytes, and what comes behind them.
joins : (n : ℕ) (bs front tail : List ℕ) → front ≡ take 2 (drop n bs) → tail ≡ drop (n + 2) bs → front ++ tail ≡ drop n bs
joins n bs front tail p q =
    let e : drop 2 (drop n bs) ≡ drop (n + 2) bs = drop-drop 2 n bs in
    let f : take 2 (drop n bs) ++ drop 2 (drop n bs) ≡ drop n bs = take-append-drop 2 (drop n bs) in
    cc

u16_from : (bs : List ℕ) (n : ℕ) → u16_said (drop n bs) ≡ u16_at bs n
u16_from bs n = simp (get_or-drop, add-zero)

module _ (bs : List ℕ) (ok : AllBytes bs) where
  pair_at : (n : ℕ) → n + 2 ≤ length bs → i16_bytes (i16_at bs n) ≡ take 2 (drop n bs)
  pair_at n h =
      ap (λ (v : ℕ). i16_bytes (to_z w16 v)) (sym (u16_from bs n))
      ∙ i16_again (drop n bs) (simp length-drop (omega arith)) (bytes_drop n bs ok)

  last_pair : (n : ℕ) → length bs ≡ n + 2 → i16_bytes (i16_at bs n) ≡ drop n bs
  last_pair n h = pair_at n (omega arith) ∙ take_all 2 (drop n bs) (simp length-drop (omega arith))

  pub metric_again : length bs ≡ 4 → metric_bytes (metric_said bs) ≡ bs
  metric_again h = joins 0 bs _ _ (u16_again bs (omega arith) ok) (last_pair 2 h)

  pub box_again : length bs ≡ 8 → box_bytes (box_said bs) ≡ bs
  box_again h =
      joins 0 bs _ _ (pair_at 0 (omega arith))
      (joins 2 bs _ _ (pair_at 2 (omega arith)) (joins 4 bs _ _ (pair_at 4 (omega arith)) (last_pair 6 h)))
