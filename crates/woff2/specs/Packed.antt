-- PackedU16: a number of 16 bits in one to three bytes. Most numbers have more than one form.
use Rattle.std.specs.Prelude.{◌≡◌, ℕ, ◌+◌, ◌*◌, cond, List, [], ◌∷◌, length, ◌==◌, slice_index}

-- How many bytes the form has, by its first byte.
abbrev pub packed_size : List ℕ → ℕ
packed_size bs = cond (slice_index bs 0 == 253) 3 (cond (slice_index bs 0 == 254) 2 (cond (slice_index bs 0 == 255) 2 1))

-- The number: behind 253 two bytes, behind 254 a byte plus 506, behind 255 a byte plus 253, and below 253 the first byte itself.
abbrev pub packed_said : List ℕ → ℕ
packed_said bs =
    cond (slice_index bs 0 == 253) (slice_index bs 1 * 256 + slice_index bs 2)
    (cond (slice_index bs 0 == 254) (slice_index bs 1 + 506) (cond (slice_index bs 0 == 255) (slice_index bs 1 + 253) (slice_index bs 0)))

-- The bytes `bs` are a form of the number `v`.
abbrev pub Packs : ℕ → List ℕ → Type 0
Packs v bs = (packed_size bs ≡ length bs) × (packed_said bs ≡ v)

abbrev pub ThreeFormsOf506 : Type 0
ThreeFormsOf506 = Packs 506 (0xff ∷ (0xfd ∷ [])) × Packs 506 (0xfe ∷ (0x00 ∷ [])) × Packs 506 (0xfd ∷ (0x01 ∷ (0xfa ∷ [])))
