use Rattle.std.proofs.Common.{Err, ap, ◌∙◌}
use Rattle.std.proofs.lemmas.Result.{err_from_is_err_and}
use Rattle.composite.proofs.Chains.{no_scale, whole}
use Rattle.composite.proofs.read_fields.Goals as goal

pub returns-in_err-scale : goal.returns-in_err-scale
returns-in_err-scale c =
    let p = err_from_is_err_and c.from_residual-in_err-scale.result c.from_residual-in_err-scale.ensures.1 in
    no_scale _ _ _ _ _ _ _ _ _ _ c.in_ok-flags.ensures c.in_ok-glyph_index.ensures c.in_ok-argument1.ensures c.in_ok-argument2.ensures _
    c.from_residual-in_err-scale.result (p.1 ∙ ap Err p.2) c.in_err-scale.ensures

pub returns : goal.returns
returns c =
    whole _ _ _ _ _ _ _ _ _ _ c.in_ok-flags.ensures c.in_ok-glyph_index.ensures c.in_ok-argument1.ensures c.in_ok-argument2.ensures _
    c.in_ok-scale.ensures
