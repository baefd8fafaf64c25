-- What a sink means, and what a put does to it.
use Rattle.std.specs.Prelude.{◌≡◌, ℕ, ◌+◌, List, [], ◌++◌, length, replicate, Ok, Err, MatchBool, Result, nat_le}
use Rattle.write.specs.declared.error.WriteError.{WriteError}
use Rattle.write.specs.declared.error.WriteError.TheVariants.{NoSpace}

-- The meaning of a sink: the lists of bytes that it stands for, how many bytes were put, and how many it still takes.
pub record Meaning (S : Type 0) : Type 1 where
  pub stands : S → List ℕ → Type 0
  pub count : S → ℕ
  pub space : S → ℕ

module _ {S : Type 0} (m : Meaning S) where
  -- A sink to which nothing was put, with room for `n` bytes.
  pub record New (n : ℕ) (s : S) : Type 0 where
    pub empty : m.stands s []
    pub none : m.count s ≡ 0
    pub room : m.space s ≡ n

  -- The sink `t` is the sink `s` with the bytes `bs` behind.
  pub record Put (bs : List ℕ) (s t : S) : Type 0 where
    pub behind : (xs : List ℕ) → m.stands s xs → m.stands t (xs ++ bs)
    pub more : m.count t ≡ m.count s + length bs
    pub less : m.space t + length bs ≡ m.space s

  -- A put of the bytes `bs`: accepted where there is space for all of them, and else refused, with nothing altered.
  abbrev pub Puts : List ℕ → S → Result Unit WriteError → S → Type 0
  Puts bs s r t = MatchBool (nat_le (length bs) (m.space s)) ((r ≡ Ok tt) × Put bs s t) ((r ≡ Err NoSpace) × (t ≡ s))

  -- A put of `n` zeros, likewise.
  abbrev pub Zeros : ℕ → S → Result Unit WriteError → S → Type 0
  Zeros n s r t = MatchBool (nat_le n (m.space s)) ((r ≡ Ok tt) × Put (replicate n 0) s t) ((r ≡ Err NoSpace) × (t ≡ s))
