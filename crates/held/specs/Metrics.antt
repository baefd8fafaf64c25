-- The metrics of a fitted forme.
use Rattle.std.specs.Prelude.{ℕ, Bool, ◌&&◌, vec_items, nat_le}
use Rattle.glyph.specs.Records.{places}
use Rattle.glyph.specs.declared.lists.Lists.{Lists}

-- So many full metrics, and so many bearings behind them, lie inside their lists.
abbrev pub metrics_lie : ℕ → ℕ → Lists → Bool
metrics_lie full tail ls =
    nat_le full (places (vec_items ls.full)) && nat_le tail (places (vec_items ls.tail))
