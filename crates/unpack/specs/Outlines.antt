-- The outline of a simple glyph, as its streams say it.
use Rattle.std.specs.Prelude.{ℕ, zero, suc, ◌+◌, ◌-◌, ◌%◌, cond, ◌&&◌, List, [], ◌∷◌, ◌++◌, ℤ, ◌+ℤ◌, Ok, Err, Result, nat_le, nat_lt}
use Rattle.read.specs.declared.error.ParseError.{ParseError}
use Rattle.read.specs.declared.error.ParseError.TheVariants.{BadValue}
use Rattle.glyph.specs.Outlines.{placed}
use Rattle.glyph.specs.declared.lists.Point.{Point}
use Rattle.lut.specs.Triplets.{bytes_in, group_of, steps_said}
use Rattle.read.specs.Answers.{front, then}
use Rattle.woff2.specs.Packed.{packed_said, packed_size}

abbrev pub packed : List ℕ → Result (ℕ × List ℕ) ParseError
packed bs = then (front (packed_size bs) bs) (λ p. Ok (packed_said p.0, p.1))

-- The ends of `c` contours behind those in `es`, of which the last has `sum` points with all before it: a contour ends
-- at the running sum of the sizes, less one. The sum is never 0 and never above 65535. The answer has the ends, the sum
-- and what is left of the stream.
abbrev pub ends_said : ℕ → List ℕ → ℕ → List ℕ → Result (List ℕ × ℕ × List ℕ) ParseError
ends_said zero es sum bs = Ok (es, sum, bs)
ends_said (suc c) es sum bs =
    then (packed bs)
    (λ p.
    cond (nat_lt 0 (sum + p.0) && nat_le (sum + p.0) 65535) (ends_said c (es ++ (sum + p.0 - 1) ∷ []) (sum + p.0) p.1)
    (Err BadValue))

-- The pair of steps behind a flag of row `r`, and what is left of the glyph data.
abbrev pub steps : ℕ → List ℕ → Result ((ℤ × ℤ) × List ℕ) ParseError
steps r bs =
    then (front (bytes_in (group_of r)) bs) (λ p. then (steps_said r p.0) (λ q. Ok (q, p.1)))

abbrev pub point : ℤ → ℤ → ℕ → Point
point x y flag = record { x = x; y = y; on_curve = nat_lt flag 128 }

-- The point behind `last` that a flag and the glyph data say, and what is left of the data.
abbrev pub point_said : Point → ℕ → List ℕ → Result (Point × List ℕ) ParseError
point_said last f bs =
    then (steps (f % 128) bs)
    (λ q.
    cond (placed (last.x +ℤ q.0.0) && placed (last.y +ℤ q.0.1))
    (Ok (point (last.x +ℤ q.0.0) (last.y +ℤ q.0.1) f, q.1)) (Err BadValue))

-- The points of the flags, behind those in `ps`, of which `last` is the last. The answer has all of them, and what is
-- left of the glyph data.
abbrev pub points_said : List ℕ → List Point → Point → List ℕ → Result (List Point × List ℕ) ParseError
points_said [] ps last bs = Ok (ps, bs)
points_said (f ∷ fs) ps last bs = then (point_said last f bs) (λ q. points_said fs (ps ++ q.0 ∷ []) q.0 q.1)
