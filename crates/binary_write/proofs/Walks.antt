-- Values written one after the other to a sink.
use Rattle.std.proofs.Common.{◌≡◌, ℕ, suc, ◌*◌, ◌/◌, ◌<◌, ◌≤◌, Bool, true, false, leb, List, [], ◌∷◌, ◌++◌, length, Ok, Err, MatchBool, Result, refl, sym, ap, ◌∙◌, subst, ⊎_elim, mul-le-mul_right, suc-mul, div-lt_iff_lt-mul, zero-mul, div-mul-le_self, arith, le-leb, leb-false}
use borrow.Author.Tests.{lt-leb}
use Rattle.std.specs.List.{flat_map}
use Rattle.std.proofs.lemmas.List.{append_assoc, flat_map_more, length-append}
use Rattle.std.proofs.lemmas.Bool.{cases_lt}
use Rattle.std.specs.Iterator.{AlwaysYields, YieldsFirst}
use Rattle.std.specs.Iterator.Adapters.{copied_source, copied_steps}
use Rattle.std.specs.Slice.Iter.{iter_rest, iter_steps}
use Rattle.std.proofs.lemmas.Iterator.{YieldsList-from_slice}
use Rattle.std.proofs.lemmas.Iterator.Consumers.{YieldsList-from_first, YieldsList-from_copied}
use Rattle.write.specs.Sinks.{Meaning, Put, Puts}
use Rattle.write.specs.declared.error.WriteError.{WriteError}
use Rattle.write.specs.declared.error.WriteError.TheVariants.{NoSpace}

module _ {S : Type 0} (m : Meaning S) where
  pub put_more : (bs cs : List ℕ) (s t u : S) → Put m bs s t → Put m cs t u → Put m (bs ++ cs) s u
  put_more bs cs s t u p q =
      let long = length-append bs cs in
      record {
        behind = λ xs h. rw (← append_assoc) (q.behind (xs ++ bs) (p.behind xs h));
        more = omega (arith, p.more, q.more);
        less = omega (arith, p.less, q.less);
      }

  pub puts_ok : (bs : List ℕ) (s t : S) → leb (length bs) (m.space s) ≡ true → Put m bs s t → Puts m bs s (Ok tt) t
  puts_ok bs s t k p = rw k (refl, p)

  -- What a put says once its answer is known.
  pub put_of : (bs : List ℕ) (s t : S) → Puts m bs s (Ok tt) t → Put m bs s t
  put_of bs s t p = by (leb (length bs) (m.space s)) p
    where
      by : (b : Bool) → MatchBool b (◌≡◌ {A = Result Unit WriteError} (Ok tt) (Ok tt) × Put m bs s t) (◌≡◌ {A = Result Unit WriteError} (Ok tt) (Err NoSpace) × (t ≡ s)) → Put m bs s t
      by true q = q.1
      by false q = let z : ◌≡◌ {A = ℕ} 0 1 = let f = q.0 in cc in absurd (omega arith)

  pub refusal_of : (bs : List ℕ) (e : WriteError) (s t : S) → Puts m bs s (Err e) t → m.space s < length bs
  refusal_of bs e s t p = by (leb (length bs) (m.space s)) refl p
    where
      by : (b : Bool) → leb (length bs) (m.space s) ≡ b → MatchBool b (◌≡◌ {A = Result Unit WriteError} (Err e) (Ok tt) × Put m bs s t) (◌≡◌ {A = Result Unit WriteError} (Err e) (Err NoSpace) × (t ≡ s)) → m.space s < length bs
      by true k q = let z : ◌≡◌ {A = ℕ} 0 1 = let f = q.0 in cc in absurd (omega arith)
      by false k q = leb-false (length bs) (m.space s) k

  module _ {A : Type 0} (encode : A → List ℕ) (size : ℕ) (exact : (v : A) → length (encode v) ≡ size) where
    pub joined_length : (vs : List A) → length (flat_map encode vs) ≡ length vs * size
    joined_length [] = sym (zero-mul size)
    joined_length (v ∷ vs) =
        length-append (encode v) (flat_map encode vs) ∙ omega (arith, exact v, joined_length vs, suc-mul (length vs) size)

    -- `n` is the space, asked for, and `k` the size.
    pub room_for : (vs : List A) (s : S) (n k : ℕ) → n ≡ m.space s → k ≡ size → 0 < size → leb (length vs) (n / k) ≡ leb (length (flat_map encode vs)) (m.space s)
    room_for vs s n k p q pos =
        let long = joined_length vs in
        let same : n / k ≡ m.space s / size = ap (λ (j : ℕ). j / k) p ∙ ap (λ (j : ℕ). m.space s / j) q in
        ⊎_elim
        (λ (h : m.space s / size < length vs).
        let over : m.space s < length vs * size = (div-lt_iff_lt-mul pos).0 h in
        lt-leb (length vs) (n / k) (omega arith) ∙ sym (lt-leb (length (flat_map encode vs)) (m.space s) (omega arith)))
        (λ (h : length vs ≤ m.space s / size).
        let whole : length vs * size ≤ m.space s / size * size = mul-le-mul_right size h in
        let inside : m.space s / size * size ≤ m.space s = div-mul-le_self (m.space s) size in
        le-leb (length vs) (n / k) (omega arith) ∙ sym (le-leb (length (flat_map encode vs)) (m.space s) (omega arith)))
        (cases_lt (m.space s / size) (length vs))

    -- One value more.
    pub put_next : (vs : List A) (v : A) (s t u : S) → Put m (flat_map encode vs) s t → Puts m (encode v) t (Ok tt) u → Put m (flat_map encode (vs ++ v ∷ [])) s u
    put_next vs v s t u p q =
        subst (λ (bs : List ℕ). Put m bs s u) (flat_map_more encode [] vs v)
        (put_more (flat_map encode vs) (encode v) s t u p (put_of (encode v) t u q))

    -- Where there is space for `all`, none of them is refused.
    pub never_refused : (all vs : List A) (v : A) (e : WriteError) (s t u : S) → length (flat_map encode all) ≤ m.space s → length vs < length all → Put m (flat_map encode vs) s t → Puts m (encode v) t (Err e) u → ⊥
    never_refused all vs v e s t u room short p q =
        let more : suc (length vs) * size ≤ length all * size = mul-le-mul_right size short in
        omega (arith, suc-mul (length vs) size, joined_length vs, joined_length all, exact v, p.less, refusal_of (encode v) e t u q)

-- What an array and a slice give to a loop.
pub array_gives : {S A : Type 0} (left : S → List A) (s : S) (xs : List A) → left s ≡ xs → AlwaysYields (YieldsFirst left) (λ x. x) s xs
array_gives left s xs e = (YieldsList-from_first (λ x. x) left xs e).runs

pub slice_gives : {A : Type 0} (s : _) (xs : List A) → iter_rest (copied_source s) ≡ xs → AlwaysYields (copied_steps (iter_steps {A = A})) (λ x. x) s xs
slice_gives s xs e = (YieldsList-from_copied (YieldsList-from_slice xs e)).runs
