use Rattle.std.proofs.Common.{◌≡◌, suc, ◌+◌, ◌-◌, ◌*◌, ◌≤◌, false, List, [], length}
use Rattle.glyph.specs.declared.component.Component.{Component}
use Rattle.unpack.specs.Composites.{components_said}
use Rattle.glyph.specs.Laying.{laid}
use Rattle.unpack.proofs.parts.read_components.Given as goal

abbrev pub invariant-loop-component : goal.invariant-loop-component
invariant-loop-component l =
    (cs : List Component) × (length cs ≡ l.count) × (length l.ctxt.rest.now + 6 * l.count ≤ length l.initial.ctxt.rest.now)
    × (l.components ≡ laid l.at cs l.initial.components)
    × (components_said (suc (length l.initial.ctxt.rest.now)) [] false l.initial.ctxt.rest.now
    ≡ components_said (suc (length l.initial.ctxt.rest.now) - l.count) cs l.have_instructions l.ctxt.rest.now)

abbrev pub decreases-loop-component : goal.decreases-loop-component
decreases-loop-component l = length l.ctxt.rest.now
