-- What unpack does.
use Rattle.std.specs.Prelude.{◌≡◌, ℕ, true, List, length, None, Ok, Err, Result, MatchResult}
use Rattle.glyph.specs.Glyphs.{Glyph}
use Rattle.glyph.specs.Records.{Fills, has_room}
use Rattle.glyph.specs.declared.lists.Lists.{Lists}
use Rattle.glyph.specs.declared.refusal.Refusal.{Refusal}
use Rattle.unpack.specs.Glyphs.{unpacked}
use Rattle.unpack.specs.Spelled.{Spells}
use Rattle.forme.specs.Formes.{unfitted}
use Rattle.forme.specs.Held.{Holds}
use Rattle.forme.specs.declared.forme.Forme.{Forme}

-- The answer, and forme and lists afterwards: the glyphs of the table fill the lists, or all is as found.
abbrev pub Unpacked : List ℕ → Forme → Lists → Result Unit Refusal → Forme → Lists → Type 0
Unpacked bs f ls r f' ls' =
    MatchResult (unpacked bs ls) (λ gs. (r ≡ Ok tt) × (f' ≡ unfitted (length gs)) × Fills gs ls ls')
    (λ e. (r ≡ Err e) × (f' ≡ f) × (ls' ≡ ls))

-- Unpack accepts a table exactly when it spells a list of glyphs for which the lists have room.
pub record AcceptsTheSpelled (bs : List ℕ) (f : Forme) (ls : Lists) (r : Result Unit Refusal) (f' : Forme) (ls' : Lists) : Type 0 where
  -- A table spells at most one list of glyphs.
  pub once : (gs hs : List Glyph) → Spells bs gs → Spells bs hs → gs ≡ hs
  -- One that is spelled and has room is accepted.
  pub accepted : (gs : List Glyph) → Spells bs gs → has_room gs ls ≡ true → r ≡ Ok tt
  -- Accepted, the forme holds the glyphs that the table spells, unfitted, and no place behind them is changed.
  pub held : r ≡ Ok tt → (gs : List Glyph) × Spells bs gs × (has_room gs ls ≡ true) × Holds f' ls' gs × (f'.metrics ≡ None) × Fills gs ls ls'
  -- Refused, forme and lists are as found.
  pub as_found : (e : Refusal) → r ≡ Err e → (f' ≡ f) × (ls' ≡ ls)
