use Rattle.std.proofs.Common.{◌∙◌, ◌++◌, ◌∷◌, [], ap, sym, subst, take, get_or}
use Rattle.std.proofs.lemmas.List.{take_more, take_all}
use Rattle.contracts.specs.Positions.{numbers_of}
use Rattle.contracts.specs.Arcs.{AreArcs}
use Rattle.contracts.proofs.ArcLemmas.{arcs_none, arcs_more, arcs_same}
use Rattle.contracts.proofs.PartLemmas.{at_place}
use Rattle.contracts.proofs.SignLemmas.{sign_same, sign_other}
use Rattle.contracts.proofs.arcs.arcs_of.Goals as goal
use Rattle.contracts.proofs.arcs.arcs_of.Goals.{then-eq+in_ok-push, else-eq}
use Rattle.program.specs.declared.contract.Edge.{Edge}
use Rattle.program.specs.declared.contract.Sign.TheVariants.{Send}

pub loop-edge-init : goal.loop-edge-init
loop-edge-init c = subst (AreArcs (numbers_of c.args.states) [] c.args.sign) (sym c.in_ok-arcs.ensures.items) (arcs_none (numbers_of c.args.states) c.args.sign)

pub position-requires : goal.position-requires
position-requires c = (c.requires.listed _ (at_place c.args.edges.now c.loop-edge.edge-index _ c.loop-edge-test.true)).0

pub position-requires-then-eq : goal.position-requires-then-eq
position-requires-then-eq c = (c.requires.listed _ (at_place c.args.edges.now c.loop-edge.edge-index _ c.loop-edge-test.true)).1

pub loop-edge-preserved : goal.loop-edge-preserved
loop-edge-preserved c =
    let numbers = numbers_of c.args.states in
    let edges = c.args.edges.now in
    let i = c.loop-edge.edge-index in
    let none : Edge = record { from = record { 0 = 0 }; message = record { 0 = 0 }; sign = Send; to = record { 0 = 0 }; place = record { line = 0; col = 0 } } in
    let e = get_or edges i none in
    subst (λ l. AreArcs numbers l c.args.sign c.if-eq.arcs.items) (sym (take_more edges i none c.loop-edge-test.true))
    (elim c.if-eq.branch [
      | then-eq+in_ok-push w ↦ subst (AreArcs numbers (take i edges ++ e ∷ []) c.args.sign) (sym (ap (λ v. v.items) w.arcs-is ∙ w.in_ok-push.ensures.items))
          (arcs_more numbers (take i edges) c.args.sign c.loop-edge.arcs.items e w.position.result w.position-then-eq.result (sign_same _ _ (sym c.eq.ensures ∙ w.if-eq.true))
          (record { v_in = w.position.ensures.within; w_in = w.position-then-eq.ensures.within; from = w.position.ensures.at; to = w.position-then-eq.ensures.at }) c.loop-edge.invariant)
      | else-eq w ↦ subst (AreArcs numbers (take i edges ++ e ∷ []) c.args.sign) (sym (ap (λ v. v.items) w.arcs-is))
          (arcs_same numbers (take i edges) c.args.sign c.loop-edge.arcs.items e (sign_other _ _ (sym c.eq.ensures ∙ w.if-eq.false)) c.loop-edge.invariant)
    ])

pub returns : goal.returns
returns c = record { arcs = subst (λ l. AreArcs (numbers_of c.args.states) l c.args.sign c.loop-edge.arcs.items) (take_all c.loop-edge.edge-index c.args.edges.now c.loop-edge-test.false) c.loop-edge.invariant }
