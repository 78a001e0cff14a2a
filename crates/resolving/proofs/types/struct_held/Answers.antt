use Rattle.std.proofs.Common.{◌∙◌}
use Rattle.resolving.proofs.TypeLemmas.{struct_found, struct_past}
use Rattle.resolving.proofs.types.struct_held.Goals as goal

pub returns-in_err-before : goal.returns-in_err-before
returns-in_err-before c = λ p h.
    c.from_residual.ensures ∙ struct_past p c.args.directory.now c.args.index h c.in_err-before.ensures.lookup.3

pub returns : goal.returns
returns c = λ p h.
    let at = c.in_ok-before.ensures.lookup in
    struct_found p c.args.directory.now c.args.index c.in_ok-before.before.now h at.3.0 at.1
