-- Values laid into a list.
use Rattle.std.specs.Prelude.{ℕ, suc, List, [], ◌∷◌, ◌++◌, length, drop, slice_set}

-- From a place on. What has no place in the list is left out.
abbrev pub laid : {A : Type 0} → ℕ → List A → List A → List A
laid at [] list = list
laid at (x ∷ xs) list = laid (suc at) xs (slice_set list at x)

-- The first places hold the new values, and every place behind them what it held.
abbrev pub filled : {A : Type 0} → List A → List A → List A
filled new old = new ++ drop (length new) old
