-- The bits of a bitmap, the highest of each byte first.
use Rattle.std.specs.Prelude.{ℕ, ◌/◌, ◌%◌, Bool, List, [], ◌∷◌, ◌==◌}
use Rattle.std.specs.List.{flat_map}

abbrev pub set_at : ℕ → ℕ → Bool
set_at byte value = byte / value % 2 == 1

abbrev pub bits_of : ℕ → List Bool
bits_of byte =
    set_at byte 128 ∷ (set_at byte 64 ∷ (set_at byte 32 ∷ (set_at byte 16 ∷ (set_at byte 8 ∷ (set_at byte 4 ∷ (set_at byte 2 ∷ (set_at byte 1 ∷ [])))))))

abbrev pub bits : List ℕ → List Bool
bits bytes = flat_map bits_of bytes
