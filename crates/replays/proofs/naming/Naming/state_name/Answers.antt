use Rattle.std.proofs.Common.{◌∙◌, ap, refl}
use Rattle.rules.specs.Programs.{model_of}
use Rattle.replays.specs.Names.{state_of}
use Rattle.replays.proofs.NameLemmas.{name_or_nothing}
use Rattle.replays.proofs.naming.Naming.state_name.Goals as goal

pub returns : goal.returns
returns c =
    let state = state_of (model_of c.args.self.now.program.now).contracts c.args.contract.0 c.args.state.0 in
    ap (λ b. b.now) c.unwrap_or.ensures ∙ name_or_nothing state c.find_state_name.result c.find_state_name.ensures _ refl
