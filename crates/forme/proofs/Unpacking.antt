-- From what a call answers to what the table spells.
use Rattle.std.proofs.Common.{◌≡◌, ℕ, Bool, true, false, cond, List, length, take, Ok, Err, vec_items, Result, sym, refl, ap, ◌∙◌, arith, MatchResult}
use Rattle.std.proofs.lemmas.List.{take_at}
use Rattle.std.specs.List.{flat_map}
use Rattle.glyph.specs.Causes.{too_short}
use Rattle.glyph.specs.Glyphs.{components_of, ends_of, Glyph, instructions_of, points_of}
use Rattle.glyph.specs.Laying.{filled}
use Rattle.glyph.specs.Records.{Fills, fitting, has_room, ReadInto, records_of, start}
use Rattle.glyph.specs.declared.lists.Lists.{Lists}
use Rattle.glyph.specs.declared.refusal.Refusal.{Refusal}
use Rattle.read.specs.Answers.{then}
use Rattle.glyph.proofs.Records.{records_length}
use Rattle.unpack.specs.Glyphs.{table_said, unpacked}
use Rattle.spelled.proofs.Tables.{said_is_spelled, spelled_is_said, spelled_once}
use Rattle.forme.specs.Formes.{unfitted}
use Rattle.forme.specs.Held.{Holds}
use Rattle.forme.specs.Unpacks.{AcceptsTheSpelled, Unpacked}
use Rattle.forme.specs.declared.forme.Forme.{Forme}

front_of : {A : Type 0} (n : ℕ) (new old after : List A) → length new ≡ n → after ≡ filled new old → take n after ≡ new
front_of n new old after long e = ap (take n) e ∙ take_at new _ n long

-- Glyphs that fill the lists are held by a forme that counts them.
filled_holds : (gs : List Glyph) (f : Forme) (ls ls' : Lists) → f.glyphs ≡ length gs → Fills gs ls ls' → Holds f ls' gs
filled_holds gs f ls ls' count fills =
    record {
      count = count;
      records = front_of (length gs) (records_of start gs) (vec_items ls.records) (vec_items ls'.records) (records_length start gs) fills.records;
      ends = front_of _ (flat_map ends_of gs) (vec_items ls.ends) (vec_items ls'.ends) refl fills.ends;
      points = front_of _ (flat_map points_of gs) (vec_items ls.points) (vec_items ls'.points) refl fills.points;
      components = front_of _ (flat_map components_of gs) (vec_items ls.components) (vec_items ls'.components) refl fills.components;
      instructions = front_of _ (flat_map instructions_of gs) (vec_items ls.instructions) (vec_items ls'.instructions) refl fills.instructions;
    }

-- Which glyphs an accepted table has.
fitting_accepted : (ls : Lists) (gs hs : List Glyph) (b : Bool) → cond b (Ok gs) (Err too_short) ≡ Ok hs → (b ≡ true) × (gs ≡ hs)
fitting_accepted ls gs hs true h = (refl, cc)
fitting_accepted ls gs hs false h = let z : ◌≡◌ {A = ℕ} 0 1 = cc in absurd (omega arith)

unpacked_accepted : (said : Result (List Glyph) Refusal) (ls : Lists) (gs : List Glyph) → then said (fitting ls) ≡ Ok gs → (said ≡ Ok gs) × (has_room gs ls ≡ true)
unpacked_accepted (Ok hs) ls gs h =
    let a = fitting_accepted ls hs gs (has_room hs ls) h in
    (ap Ok a.1, ap (λ (x : List Glyph). has_room x ls) (sym a.1) ∙ a.0)
unpacked_accepted (Err e) ls gs h = let z : ◌≡◌ {A = ℕ} 0 1 = cc in absurd (omega arith)

module _ (bs : List ℕ) (f f' : Forme) (ls ls' : Lists) where
  -- By the answer: accepted with these glyphs, or refused.
  by_answer : (r : Result Unit Refusal) (said : Result (List Glyph) Refusal) → unpacked bs ls ≡ said → MatchResult said (λ gs. (r ≡ Ok tt) × (f' ≡ unfitted (length gs)) × Fills gs ls ls') (λ e. (r ≡ Err e) × (f' ≡ f) × (ls' ≡ ls)) → AcceptsTheSpelled bs f ls r f' ls'
  by_answer r (Ok gs) is h =
      let a = unpacked_accepted (table_said bs) ls gs is in
      record {
        once = spelled_once bs;
        accepted = (λ hs spelled room. h.0);
        held =
            (λ ok. (
              gs,
              said_is_spelled bs gs a.0,
              a.1,
              filled_holds gs f' ls ls' (ap (λ (x : Forme). x.glyphs) h.1) h.2,
              ap (λ (x : Forme). x.metrics) h.1,
              h.2,
            ));
        as_found = (λ e err. let k = h.0 in let z : ◌≡◌ {A = ℕ} 0 1 = cc in absurd (omega arith));
      }
  by_answer r (Err d) is h =
      record {
        once = spelled_once bs;
        accepted =
            (λ gs spelled room.
            let yes_said : unpacked bs ls ≡ Ok gs = rw (spelled_is_said bs gs spelled, room) refl in
            let z : ◌≡◌ {A = ℕ} 0 1 = cc in
            absurd (omega arith));
        held = (λ ok. let k = h.0 in let z : ◌≡◌ {A = ℕ} 0 1 = cc in absurd (omega arith));
        as_found = (λ e err. (h.1, h.2));
      }

  pub accepts_the_spelled : (r : Result Unit Refusal) → Unpacked bs f ls r f' ls' → AcceptsTheSpelled bs f ls r f' ls'
  accepts_the_spelled r h = by_answer r (unpacked bs ls) refl h

-- From the call that reads the table to the one that changes the forme.
module _ (f : Forme) (ls ls' : Lists) where
  read_told : (said : Result (List Glyph) Refusal) (n k : ℕ) → k ≡ n → ReadInto said ls (Ok n) ls' → MatchResult said (λ gs. (◌≡◌ {A = Result Unit Refusal} (Ok tt) (Ok tt)) × (unfitted k ≡ unfitted (length gs)) × Fills gs ls ls') (λ e. (◌≡◌ {A = Result Unit Refusal} (Ok tt) (Err e)) × (unfitted k ≡ f) × (ls' ≡ ls))
  read_told (Ok gs) n k same h = let e : n ≡ length gs = let j = h.0 in cc in (refl, ap unfitted (same ∙ e), h.1)
  read_told (Err d) n k same h = let j = h.0 in let z : ◌≡◌ {A = ℕ} 0 1 = cc in absurd (omega arith)

  read_refused : (said : Result (List Glyph) Refusal) (d : Refusal) (r : Result Unit Refusal) → r ≡ Err d → ReadInto said ls (Err d) ls' → MatchResult said (λ gs. (r ≡ Ok tt) × (f ≡ unfitted (length gs)) × Fills gs ls ls') (λ e. (r ≡ Err e) × (f ≡ f) × (ls' ≡ ls))
  read_refused (Ok gs) d r is h = let j = h.0 in let z : ◌≡◌ {A = ℕ} 0 1 = cc in absurd (omega arith)
  read_refused (Err e) d r is h = let same : d ≡ e = let j = h.0 in cc in (is ∙ ap Err same, refl, h.1)

  module _ (bs : List ℕ) where
    pub unpacks : (n k : ℕ) → k ≡ n → ReadInto (unpacked bs ls) ls (Ok n) ls' → Unpacked bs f ls (Ok tt) (unfitted k) ls'
    unpacks n k same h = read_told (unpacked bs ls) n k same h

    pub refuses : (d : Refusal) (r : Result Unit Refusal) → r ≡ Err d → ReadInto (unpacked bs ls) ls (Err d) ls' → Unpacked bs f ls r f ls'
    refuses d r is h = read_refused (unpacked bs ls) d r is h
