-- Parts of a list.
use Rattle.std.specs.Prelude.{ℕ, ◌+◌, Bool, List, length, take, drop, nat_le}
use Rattle.glyph.specs.declared.lists.Part.{Part}

-- The first place behind a part.
abbrev pub end : Part → ℕ
end p = p.start + p.len

-- A part lies inside a list; what it holds there.
abbrev pub inside : {A : Type 0} → Part → List A → Bool
inside p xs = nat_le (end p) (length xs)

abbrev pub held : {A : Type 0} → Part → List A → List A
held p xs = take p.len (drop p.start xs)
