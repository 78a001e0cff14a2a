use Rattle.std.proofs.Common.{false, subst, sym, take}
use Rattle.std.proofs.lemmas.List.{take_all}
use Rattle.tree.specs.declared.class as made
use Rattle.program.specs.declared.types.Scalar.TheVariants.{Int}
use Rattle.tree.specs.declared.types.Type.TheVariants.{Scalar}
use Rattle.resolving.specs.Around.{program_in}
use Rattle.resolving.specs.Frames.{IsLocalFrame}
use Rattle.resolving.specs.Locals.{with_declaration}
use Rattle.resolving.specs.Methods.{parameters_frame}
use Rattle.resolving.proofs.BodyLemmas.{parameters_more}
use Rattle.resolving.proofs.methods.declare_parameters.Goals as goal

-- the default for a read past the end of a list
abbrev past : made.Parameter.Parameter
past = record { claims = false; ty = Scalar Int; name = record { start = 0; end = 0; place = record { line = 0; col = 0 } } }

pub loop-parameter-preserved : goal.loop-parameter-preserved
loop-parameter-preserved c = λ items own f round h.
    let text = c.args.text.now in
    let p = program_in text items in
    let params = c.args.params.now in
    let i = c.loop-parameter.parameter-index in
    let so = parameters_frame p (take i params) f in
    let after = c.declare.new.self in
    subst (λ g. IsLocalFrame text g after) (sym (parameters_more p params i past f c.loop-parameter-test.true))
    (subst (λ d. IsLocalFrame text (with_declaration text d so) after) (c.parameter_declaration.ensures p own round)
    (c.in_ok-declare.ensures so (c.loop-parameter.invariant items own f round h)))

pub returns : goal.returns
returns c = λ items own f round h.
    let text = c.args.text.now in
    subst (λ params. IsLocalFrame text (parameters_frame (program_in text items) params f) c.loop-parameter.locals)
    (take_all c.loop-parameter.parameter-index c.args.params.now c.loop-parameter-test.false) (c.loop-parameter.invariant items own f round h)
