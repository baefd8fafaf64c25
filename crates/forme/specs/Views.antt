-- What a question shows of a glyph.
use Rattle.std.specs.Prelude.{◌≡◌, ℕ, None, vec_items, MatchBool, Option, MatchOption, nat_lt}
use Rattle.std.specs.List.{slice_get}
use Rattle.glyph.specs.Views.{Shown}
use Rattle.forme.specs.declared.forme.Forme.{Forme}
use Rattle.glyph.specs.declared.lists.Lists.{Lists}
use Rattle.glyph.specs.declared.view.GlyphView.{GlyphView}

-- Glyph `i` of a forme is absent past its last glyph, past the records, or where a part of it lies outside its list.
abbrev pub Asked : Forme → Lists → ℕ → Option GlyphView → Type 0
Asked f ls i o =
    MatchBool (nat_lt i f.glyphs) (MatchOption (slice_get (vec_items ls.records) i) (o ≡ None) (λ r. Shown r ls o)) (o ≡ None)
