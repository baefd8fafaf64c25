-- Where the streams of a table lie.
use Rattle.std.proofs.Common.{◌≡◌, ℕ, ◌+◌, ◌-◌, ◌≤◌, List, take, drop, None, ap, ◌∙◌, arith}
use Rattle.std.proofs.lemmas.List.{drop-drop, drop-take, take-take}
use Rattle.std.proofs.lemmas.Bool.Decides.{nat_tests}
use Rattle.woff2.specs.Transformed.{bitmap_size, cut, streams_end, streams_fault}
use Rattle.woff2.specs.declared.header.GlyfHeader.{GlyfHeader}

-- Where nothing is wrong, all streams lie inside the table, and the bitmap inside the boxes.
pub no_fault : (h : GlyfHeader) (len : ℕ) → streams_fault h len ≡ None → (streams_end h ≤ len) × (bitmap_size h.num_glyphs ≤ h.bbox_size)
no_fault h len e = grind (arith, nat_tests)

module _ (bs : List ℕ) (place size n : ℕ) (inside : n ≤ size) where
  pub cut_front : take n (cut place size bs) ≡ cut place n bs
  cut_front = take-take n size (drop place bs) inside

  pub cut_back : drop n (cut place size bs) ≡ cut (place + n) (size - n) bs
  cut_back =
      let whole : size ≡ n + (size - n) = omega arith in
      ap (λ (k : ℕ). drop n (take k (drop place bs))) whole
      ∙ (drop-take n (size - n) (drop place bs) ∙ ap (take (size - n)) (drop-drop n place bs))
