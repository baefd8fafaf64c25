-- What a summary of records says of the glyphs.
use Rattle.std.proofs.Common.{◌≡◌, ℕ, ◌+◌, cond, List, [], ◌∷◌, length, sum_by, count_by, refl, ap, ◌∙◌, arith}
use Rattle.std.proofs.lemmas.List.{length-append}
use Rattle.std.proofs.lemmas.List.Sums.{sum_by-cons}
use Rattle.std.specs.List.{flat_map}
use Rattle.glyph.proofs.Records.{records_length}
use Rattle.glyph.specs.Glyphs.{components_of, ends_of, Glyph, instructions_of, points_of}
use Rattle.glyph.specs.Records.{behind, record_of, records_of, start}
use Rattle.glyph.specs.declared.lists.GlyphKind.{GlyphKind}
use Rattle.glyph.specs.declared.lists.GlyphKind.TheVariants.{Composite, Empty, Simple}
use Rattle.glyph.specs.declared.lists.GlyphRecord.{GlyphRecord}
use Rattle.glyph.specs.declared.places.Places.{Places}
use Rattle.listing.specs.Summaries.{is_composite, is_empty, is_simple, Summed}
use Rattle.listing.specs.declared.summary.Summary.{Summary}

one_kind : (kind : GlyphKind) → cond (is_empty kind) 1 0 + cond (is_simple kind) 1 0 + cond (is_composite kind) 1 0 ≡ 1
one_kind Empty = refl
one_kind Simple = refl
one_kind Composite = refl

-- Every glyph is of one kind.
kinds_all : (rs : List GlyphRecord) → count_by (λ r. is_empty r.kind) rs + count_by (λ r. is_simple r.kind) rs + count_by (λ r. is_composite r.kind) rs ≡ length rs
kinds_all [] = refl
kinds_all (r ∷ rs) =
    omega (
      arith,
      sum_by-cons (λ r. cond (is_empty r.kind) 1 0) r rs,
      sum_by-cons (λ r. cond (is_simple r.kind) 1 0) r rs,
      sum_by-cons (λ r. cond (is_composite r.kind) 1 0) r rs,
      one_kind r.kind,
      kinds_all rs,
    )

-- A part of every record is as long as a list of its glyph, so together they are as long as these lists joined.
sum_records : {A : Type 0} (len : GlyphRecord → ℕ) (list : Glyph → List A) → ((at : Places) (g : Glyph) → len (record_of at g) ≡ length (list g)) → (at : Places) (gs : List Glyph) → sum_by len (records_of at gs) ≡ length (flat_map list gs)
sum_records len list same at [] = refl
sum_records len list same at (g ∷ gs) =
    omega (
      arith,
      sum_by-cons len (record_of at g) (records_of (behind at g) gs),
      same at g,
      sum_records len list same (behind at g) gs,
      length-append (list g) (flat_map list gs),
    )

pub summed : (rs : List GlyphRecord) (s : Summary) → s.kinds.empty ≡ count_by (λ r. is_empty r.kind) rs → s.kinds.simple ≡ count_by (λ r. is_simple r.kind) rs → s.kinds.composite ≡ count_by (λ r. is_composite r.kind) rs → s.ends ≡ sum_by (λ r. r.ends.len) rs → s.points ≡ sum_by (λ r. r.points.len) rs → s.components ≡ sum_by (λ r. r.components.len) rs → s.instructions ≡ sum_by (λ r. r.instructions.len) rs → Summed rs s
summed rs s empty simple composite ends points components instructions =
    record {
      empty = empty;
      simple = simple;
      composite = composite;
      ends = ends;
      points = points;
      components = components;
      instructions = instructions;
      least = λ gs same.
          record {
            records = omega (arith, empty, simple, composite, kinds_all rs, ap length same, records_length start gs);
            ends = ends ∙ (ap (sum_by (λ r. r.ends.len)) same ∙ sum_records (λ r. r.ends.len) ends_of (λ at g. refl) start gs);
            points = points ∙ (ap (sum_by (λ r. r.points.len)) same ∙ sum_records (λ r. r.points.len) points_of (λ at g. refl) start gs);
            components = components ∙ (ap (sum_by (λ r. r.components.len)) same ∙ sum_records (λ r. r.components.len) components_of (λ at g. refl) start gs);
            instructions = instructions
                ∙ (ap (sum_by (λ r. r.instructions.len)) same ∙ sum_records (λ r. r.instructions.len) instructions_of (λ at g. refl) start gs);
          };
    }
