use Rattle.std.proofs.Common.{◌≡◌, ℕ, suc, ◌+◌, ◌-◌, List, [], ◌∷◌, length, Some, None, Bor, Option, MatchOption, refl, ap, ◌∙◌, arith, rules, of_calls}
use Rattle.std.specs.List.{slice_get}
use Rattle.std.specs.Option.{option_copied}
use Rattle.glyph.specs.Outlines.{points_in}
use Rattle.held.proofs.outline.points_in.Goals as goal

-- As many points as the last end plus one.
after : Option ℕ → ℕ
after None = 0
after (Some e) = e + 1

last_end : (es : List ℕ) → after (slice_get es (length es - 1)) ≡ points_in es
unfolding after
last_end [] = refl
last_end (e ∷ []) = omega arith
last_end (e ∷ (f ∷ es)) =
    let k : length (e ∷ (f ∷ es)) - 1 ≡ suc (length (f ∷ es) - 1) = omega arith in
    ap (λ (n : ℕ). after (slice_get (e ∷ (f ∷ es)) n)) k ∙ last_end (f ∷ es)

returned : (o : Option (Bor ℕ)) (r : ℕ) (P : Bor ℕ → Type 0) → ((x : Bor ℕ) → P x → r ≡ x.now + 1) → MatchOption o (r ≡ 0) P → r ≡ after (option_copied o)
unfolding after
returned None r P to h = h
returned (Some x) r P to h = to x h

pub returns : goal.returns
returns c =
    returned c.last.result c.map_or.result _ (λ x h. search (rules, of_calls)) c.map_or.ensures ∙ (ap after c.last.ensures.value ∙ last_end c.args.ends.now)
