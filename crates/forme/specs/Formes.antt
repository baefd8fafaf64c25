-- Formes without metrics.
use Rattle.std.specs.Prelude.{ℕ, None}
use Rattle.forme.specs.declared.forme.Forme.{Forme}

-- A forme of so many glyphs, unfitted.
abbrev pub unfitted : ℕ → Forme
unfitted n = record { glyphs = n; metrics = None }

abbrev pub empty : Forme
empty = unfitted 0
