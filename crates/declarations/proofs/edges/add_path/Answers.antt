use Rattle.std.proofs.Common.{◌++◌, ap, sym, ◌∙◌, arith}
use Rattle.std.specs.List.{flat_map}
use Rattle.lemmas.proofs.Lists.{nil_left, nil_right}
use Rattle.declarations.specs.Listed.{asked_message}
use Rattle.declarations.specs.Meant.{meanings, message_names, path_left, text_of}
use Rattle.declarations.proofs.BehindLemmas.{nothing_in}
use Rattle.declarations.proofs.MeantLemmas.{path_is, path_step}
use Rattle.declarations.proofs.edges.add_path.Goals as goal

pub loop-next-init : goal.loop-next-init
loop-next-init c =
    let meaning = c.args.meaning.now in
    let path = c.args.path.now in
    record {
      to = omega arith;
      declared = nil_left (asked_message (text_of meaning) (message_names meaning) path.first.message) _ c.requires.clean;
      edges = ap (λ l. l ++ path_left (meanings meaning) c.args.state c.args.unnamed path.first path.others.items path.target) c.reserve.ensures.items
          ∙ ap (λ l. c.args.edges.now.items ++ l) (sym (path_is (meanings meaning) c.args.state c.args.unnamed path.first path.others.items path.target));
    }

pub loop-next-preserved : goal.loop-next-preserved
loop-next-preserved c =
    let meaning = c.args.meaning.now in
    let path = c.args.path.now in
    let others = path.others.items in
    let asked = asked_message (text_of meaning) (message_names meaning) in
    let behind = nil_right (asked path.first.message) _ c.requires.clean in
    let none = nil_left (flat_map (λ e. asked e.message) others) _ behind in
    let value = c.deref-next-items.ensures.value in
    record {
      to = let to = c.loop-next.invariant.to in omega (arith, to);
      declared = nothing_in (λ e. asked e.message) c.deref-next-items.result.now c.loop-next.next-index _ c.loop-next-test.true (ap (flat_map (λ e. asked e.message)) value ∙ none);
      edges = path_step (meanings meaning) c.loop-next.from c.loop-next.to c.loop-next.edge others c.deref-next-items.result.now c.loop-next.next-index _ path.target c.loop-next.edges.items _ _
          value c.loop-next-test.true c.in_ok-push.ensures.items c.edge.ensures
          ∙ c.loop-next.invariant.edges;
    }

pub state-target-requires-clause-declared : goal.state-target-requires-clause-declared
state-target-requires-clause-declared c =
    let meaning = c.args.meaning.now in
    let path = c.args.path.now in
    let asked = asked_message (text_of meaning) (message_names meaning) in
    nil_right (flat_map (λ e. asked e.message) path.others.items) _ (nil_right (asked path.first.message) _ c.requires.clean)
