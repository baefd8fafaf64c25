-- A row and its bytes hold the sizes that the rule of the row's group gives.
use Rattle.std.proofs.Common.{◌≡◌, ℕ, ◌+◌, ◌*◌, ◌/◌, ◌%◌, ◌^◌, ◌<◌, List, length, get_or, ap, ◌∙◌, arith}
use Rattle.lut.specs.Rows.{number, row_by, x_delta, y_delta}
use Rattle.lut.specs.declared.table.XYTriplet.{XYTriplet}
use Rattle.lut.specs.Triplets.{bytes_in, Group, half_bytes, pair_by, sixteen_bits, steps_by, twelve_bits, whole_bytes, x_alone, x_size, y_alone, y_size}

-- The sizes as shifts and remainders give them: `n` is the row's bytes as one number.
abbrev x_shifted : XYTriplet → ℕ → ℕ → ℕ
x_shifted t n delta = n / 2 ^ t.y_bits % (1 * 2 ^ t.x_bits % 4294967296) + delta

abbrev y_shifted : XYTriplet → ℕ → ℕ → ℕ
y_shifted t n delta = n % (1 * 2 ^ t.y_bits % 4294967296) + delta

abbrev Bytes : List ℕ → Type 0
Bytes bs = (i : ℕ) → get_or bs i 0 < 256

pub x_held : (g : Group) (r : ℕ) (bs : List ℕ) → length bs ≡ bytes_in g → Bytes bs → x_shifted (row_by g r) (number bs) (x_delta g r) ≡ x_size g r bs
x_held y_alone r bs e ok = let a = ok 0 in rw e (omega arith)
x_held x_alone r bs e ok = let a = ok 0 in rw e (omega arith)
x_held half_bytes r bs e ok = let a = ok 0 in rw e (omega arith)
x_held whole_bytes r bs e ok = let a = ok 0 in let b = ok 1 in rw e (omega arith)
x_held twelve_bits r bs e ok = let a = ok 0 in let b = ok 1 in let c = ok 2 in rw e (omega arith)
x_held sixteen_bits r bs e ok = let a = ok 0 in let b = ok 1 in let c = ok 2 in let d = ok 3 in rw e (omega arith)

pub y_held : (g : Group) (r : ℕ) (bs : List ℕ) → length bs ≡ bytes_in g → Bytes bs → y_shifted (row_by g r) (number bs) (y_delta g r) ≡ y_size g r bs
y_held y_alone r bs e ok = let a = ok 0 in rw e (omega arith)
y_held x_alone r bs e ok = let a = ok 0 in rw e (omega arith)
y_held half_bytes r bs e ok = let a = ok 0 in rw e (omega arith)
y_held whole_bytes r bs e ok = let a = ok 0 in let b = ok 1 in rw e (omega arith)
y_held twelve_bits r bs e ok = let a = ok 0 in let b = ok 1 in let c = ok 2 in rw e (omega arith)
y_held sixteen_bits r bs e ok = let a = ok 0 in let b = ok 1 in let c = ok 2 in let d = ok 3 in rw e (omega arith)

pub said : (g : Group) (r : ℕ) (bs : List ℕ) (t : XYTriplet) (n dx dy : ℕ) → t ≡ row_by g r → n ≡ number bs → dx ≡ t.delta_x → dy ≡ t.delta_y → length bs ≡ bytes_in g → Bytes bs → pair_by t.x_is_negative (x_shifted t n dx) t.y_is_negative (y_shifted t n dy) ≡ steps_by g r bs
said g r bs t n dx dy same num ex ey long ok =
    let x : x_shifted t n dx ≡ x_size g r bs =
    ap (x_shifted t n) ex ∙ (ap (λ (k : ℕ). x_shifted t k t.delta_x) num ∙ (ap (λ (u : XYTriplet). x_shifted u (number bs) u.delta_x) same ∙ x_held g r bs long ok))
    in
    let y : y_shifted t n dy ≡ y_size g r bs =
    ap (y_shifted t n) ey ∙ (ap (λ (k : ℕ). y_shifted t k t.delta_y) num ∙ (ap (λ (u : XYTriplet). y_shifted u (number bs) u.delta_y) same ∙ y_held g r bs long ok))
    in
    ap (λ (k : ℕ). pair_by t.x_is_negative k t.y_is_negative (y_shifted t n dy)) x
    ∙ (ap (λ (k : ℕ). pair_by t.x_is_negative (x_size g r bs) t.y_is_negative k) y
    ∙ ap (λ (u : XYTriplet). pair_by u.x_is_negative (x_size g r bs) u.y_is_negative (y_size g r bs)) same)
