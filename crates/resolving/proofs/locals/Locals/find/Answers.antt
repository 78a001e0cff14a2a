use Rattle.std.proofs.Common.{◌∙◌}
use Rattle.resolving.proofs.LocalLemmas.{local_found}
use Rattle.resolving.proofs.locals.Locals.find.Goals as goal

pub returns : goal.returns
returns c = λ f h. c.find.ensures ∙ local_found c.args.text.now f c.args.self.now c.args.name _ h c.slice.ensures
