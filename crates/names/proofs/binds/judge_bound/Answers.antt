use Rattle.std.proofs.Common.{Bor, None, get_or, drop, ◌+◌, refl}
use Rattle.std.specs.Prelude.{option_map}
use Rattle.tree.specs.declared.statement.Bind.{Bind}
use Rattle.tree.specs.declared.contract.MessageParameter.{MessageParameter}
use Rattle.names.specs.Cases.{bind_turn, binds_turn}
use Rattle.names.proofs.BindLemmas.{bound_less}
use Rattle.names.proofs.TurnLemmas.{goes_on}
use Rattle.names.proofs.binds.judge_bound.Goals as goal

abbrev no_bind : Bind
no_bind = record { ty = None; name = record { start = 0; end = 0; place = record { line = 0; col = 0 } } }

pub loop-index-preserved : goal.loop-index-preserved
loop-index-preserved c = λ p f scope frame.
    let params = c.args.parameters.now in
    let binds = c.args.binds.now in
    let i = c.loop-index.index in
    let bind = get_or binds i no_bind in
    let param = option_map (λ (x : Bor MessageParameter). x.now) c.parameter_at-parameter.result in
    let o = bound_less p params binds i no_bind bind param c.loop-index-test.true refl c.parameter_at-parameter.ensures (c.loop-index.invariant p f scope frame) in
    goes_on (bind_turn p param bind.name bind.ty) (binds_turn p (drop (i + 1) params) (drop (i + 1) binds)) o (c.in_ok-judge_bind.ensures p o.frame scope o.stands)
