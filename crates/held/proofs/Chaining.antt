-- Components of which just the last lacks MORE_COMPONENTS, by the last and those before it.
use Rattle.std.proofs.Common.{◌≡◌, Bool, true, false, not, ◌&&◌, List, [], ◌∷◌, ◌++◌, sym, refl, ap, ◌∙◌}
use Rattle.std.proofs.Math.Bool.{and-true}
use Rattle.std.specs.List.{IsLastAndRest, list_all}
use Rattle.composite.specs.Components.{has}
use Rattle.glyph.specs.declared.component.Component.{Component}
use Rattle.held.specs.Tests.{chained_on}

abbrev more : Component → Bool
more c = has c.flags 0x0020

moved : (a b c : Bool) → (a && (b && c)) ≡ (b && (a && c))
moved true b c = refl
moved false true c = refl
moved false false c = refl

by_last : (last : Component) (cs : List Component) (m : Bool) → (m && (not (more last) && list_all more cs)) ≡ chained_on m (cs ++ last ∷ [])
by_last last [] m = ap (λ (b : Bool). m && b) (and-true (not (more last)))
by_last last (c ∷ cs) m = ap (λ (b : Bool). m && b) (moved (not (more last)) (more c) (list_all more cs) ∙ by_last last cs (more c))

module _
    (all : List Component)
    (last : Component)
    (others : List Component)
    (parts : IsLastAndRest all last others)
    (m : Bool)
    (flag : m ≡ has last.flags 0x0020)
  where
    chained_last : (o : Bool) → o ≡ list_all (λ c. has c.flags 0x0020) others → (not m && o) ≡ chained_on true all
    chained_last o each =
        ap (λ (b : Bool). not b && o) flag
        ∙ (ap (λ (b : Bool). not (more last) && b) each
        ∙ (by_last last others true ∙ ap (chained_on true) (sym parts.0)))

    pub last_lacks : (o : Bool) → m ≡ false → o ≡ list_all (λ c. has c.flags 0x0020) others → o ≡ chained_on true all
    last_lacks o off each = ap (λ (b : Bool). not b && o) (sym off) ∙ chained_last o each

    pub last_has : m ≡ true → not m ≡ chained_on true all
    last_has on = ap not on ∙ (ap (λ (b : Bool). not b && list_all more others) (sym on) ∙ chained_last (list_all more others) refl)
