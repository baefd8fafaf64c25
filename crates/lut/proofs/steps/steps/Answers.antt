use Rattle.std.proofs.Common.{◌≡◌, ◌%◌, Bool, true, false, cond, ◌&&◌, ℤ, Ok, Err, MatchBool, Result, ◌∙◌, w16, SFits, rules}
use Rattle.std.proofs.lemmas.Int.{to_z-of_z}
use Rattle.read.specs.declared.error.ParseError.{ParseError}
use Rattle.read.specs.declared.error.ParseError.TheVariants.{BadValue}
use Rattle.lut.specs.Triplets.{group_of}
use Rattle.lut.proofs.Sizes.{said}
use Rattle.lut.proofs.steps.steps.Goals as goal

paired : (a b : Bool) (sx sy dx dy : ℤ) → MatchBool a (◌≡◌ {A = Result ℤ ParseError} (Ok dx) (Ok sx)) (◌≡◌ {A = Result ℤ ParseError} (Ok dx) (Err BadValue)) → MatchBool b (◌≡◌ {A = Result ℤ ParseError} (Ok dy) (Ok sy)) (◌≡◌ {A = Result ℤ ParseError} (Ok dy) (Err BadValue)) → ◌≡◌ {A = Result (ℤ × ℤ) ParseError} (Ok (dx, dy)) (cond (a && b) (Ok (sx, sy)) (Err BadValue))
paired true true sx sy dx dy p q = let e : dx ≡ sx = cc in let f : dy ≡ sy = cc in cc
paired true false sx sy dx dy p q = absurd (cc)
paired false b sx sy dx dy p q = absurd (cc)

pub returns : goal.returns
returns c =
    let f : SFits w16 c.in_ok-dx.dx = search rules in
    let g : SFits w16 c.in_ok-dy.dy = search rules in
    simp to_z-of_z
    (paired _ _ _ _ _ _ c.in_ok-dx.ensures c.in_ok-dy.ensures
    ∙ said (group_of (c.args.flag % 128)) (c.args.flag % 128) c.args.bytes.now c.args.row _ _ _
    c.requires.0 c.number_of-data.ensures c.from.ensures c.from-2.ensures c.requires.1 (λ i. (c.type_inv.bytes i).fits))
