use Rattle.std.proofs.Common.{false, get_or, subst, sym}
use Rattle.tree.specs.declared.class as made
use Rattle.program.specs.declared.types.Scalar.TheVariants.{Int}
use Rattle.tree.specs.declared.types.Type.TheVariants.{Scalar}
use Rattle.names.specs.Frames.{Turned}
use Rattle.names.specs.Methods.{parameter_turn}
use Rattle.names.proofs.ParameterLemmas.{turned_follow, parameters_more}
use Rattle.names.proofs.methods.judge_parameters.Goals as goal

-- the default for a read past the end of a list
abbrev past : made.Parameter.Parameter
past = record { claims = false; ty = Scalar Int; name = record { start = 0; end = 0; place = record { line = 0; col = 0 } } }

pub loop-parameter-preserved : goal.loop-parameter-preserved
loop-parameter-preserved c = λ p f h k.
    let params = c.args.params.now in
    let i = c.loop-parameter.parameter-index in
    let so = c.loop-parameter.invariant p f h k in
    subst (Turned p.text c.args.found.now.items c.judge_parameter.new.found.items c.judge_parameter.new.variables) (sym (parameters_more p params i past f c.loop-parameter-test.true))
    (turned_follow (parameter_turn p (get_or params i past)) so (c.in_ok-judge_parameter.ensures p _ h so.frame))
