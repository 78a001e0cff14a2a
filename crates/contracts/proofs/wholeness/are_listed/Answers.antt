use Rattle.std.proofs.Common.{refl, subst}
use Rattle.std.specs.Prelude.{All}
use Rattle.std.proofs.lemmas.Bool.{and_parts, and_from, both_ways, false≢true}
use Rattle.std.proofs.lemmas.List.{take_all}
use Rattle.std.proofs.lemmas.List.Elements.{All-get_or, All-more}
use Rattle.contracts.specs.Positions.{EndsHave, numbers_of}
use Rattle.program.specs.declared.contract.Sign.TheVariants.{Send}
use Rattle.program.specs.declared.contract.Edge.{Edge}
use Rattle.contracts.proofs.wholeness.are_listed.Goals as goal

abbrev none : Edge
none = record { from = record { 0 = 0 }; message = record { 0 = 0 }; sign = Send; to = record { 0 = 0 }; place = record { line = 0; col = 0 } }

pub loop-edge-preserved : goal.loop-edge-preserved
loop-edge-preserved c =
    let all = and_parts _ _ c.if-not-ends-has.false in
    let ends = and_parts _ _ all.0 in
    All-more (EndsHave (numbers_of c.args.states) (numbers_of c.args.messages)) c.args.edges.now c.loop-edge.edge-index none c.loop-edge-test.true c.loop-edge.invariant
    (record { from = c.has.ensures.0 ends.0; to = c.has-in-loop-edge.ensures.0 ends.1; message = c.has-in-loop-edge-2.ensures.0 all.1 })

pub returns-then-not-ends-has : goal.returns-then-not-ends-has
returns-then-not-ends-has c = (
  λ no. absurd (false≢true no),
  λ all.
      let here = All-get_or (EndsHave (numbers_of c.args.states) (numbers_of c.args.messages)) c.args.edges.now c.loop-edge.edge-index none c.loop-edge-test.true all in
      absurd (both_ways _ c.if-not-ends-has.true (and_from _ _ (and_from _ _ (c.has.ensures.1 here.from) (c.has-in-loop-edge.ensures.1 here.to)) (c.has-in-loop-edge-2.ensures.1 here.message))),
)

pub returns : goal.returns
returns c = (
  λ _. subst (All (EndsHave (numbers_of c.args.states) (numbers_of c.args.messages))) (take_all c.loop-edge.edge-index c.args.edges.now c.loop-edge-test.false) c.loop-edge.invariant,
  λ _. refl,
)
