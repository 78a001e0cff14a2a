use Rattle.std.proofs.Common.{Bor, None, get_or, refl}
use Rattle.std.specs.Prelude.{option_map}
use Rattle.tree.specs.declared.statement.Bind.{Bind}
use Rattle.tree.specs.declared.contract.MessageParameter.{MessageParameter}
use Rattle.resolving.specs.Around.{program_in}
use Rattle.resolving.specs.Binds.{binds_told}
use Rattle.resolving.proofs.BindLemmas.{none_bound, more_bound, all_bound}
use Rattle.resolving.proofs.cases.declare_binds.Goals as goal

abbrev no_bind : Bind
no_bind = record { ty = None; name = record { start = 0; end = 0; place = record { line = 0; col = 0 } } }

pub loop-index-init : goal.loop-index-init
loop-index-init c = λ items own f around frame.
    none_bound (binds_told (program_in c.args.text.now items) c.args.params.now c.args.binds.now) f c.new-bound.ensures.items frame

pub loop-index-preserved : goal.loop-index-preserved
loop-index-preserved c = λ items own f around frame.
    let p = program_in c.args.text.now items in
    let binds = c.args.binds.now in
    let i = c.loop-index.index in
    let param = option_map (λ (x : Bor MessageParameter). x.now) c.param_at-param.result in
    let o = c.loop-index.invariant items own f around frame in
    more_bound p c.args.params.now binds i no_bind (get_or binds i no_bind) param c.loop-index-test.true refl c.param_at-param.ensures o (c.in_ok-declare_bind.ensures items own o.frame around o.stands)

pub returns : goal.returns
returns c = λ items own f around frame.
    all_bound (program_in c.args.text.now items) c.args.params.now c.args.binds.now c.loop-index.index c.loop-index-test.false (c.loop-index.invariant items own f around frame)
