use Rattle.std.proofs.Common.{◌≡◌, Bor, [], ◌∷◌, ◌++◌, length, map, take, ap, sym, ◌∙◌, arith, append_assoc}
use Rattle.std.specs.List.{flat_map}
use Rattle.lemmas.proofs.Lists.{flat_more}
use Rattle.tree.specs.Trees.{path_tree, state_tree}
use Rattle.tree.specs.declared.contract as tree
use Rattle.declarations.specs.Declarations.{counted_states, unnamed_of}
use Rattle.declarations.specs.Numbered.{names_in, indices_named, unnamed_names}
use Rattle.declarations.specs.declared.state_names.StateName.TheVariants.{Named}
use Rattle.declarations.proofs.BehindLemmas.{behind_more}
use Rattle.declarations.proofs.MeantLemmas.{names_counted}
use Rattle.declarations.proofs.state_names.state_names.Goals as goal

pub loop-state-preserved : goal.loop-state-preserved
loop-state-preserved c =
    let view = λ (s : Bor tree.State.State). state_tree s.now in
    let states = c.args.states.now in
    let i = c.loop-state.state-index in
    let before = map view (take i states) in
    let name = Named c.state-item.result.now.name in
    let unnamed = λ (paths : _). unnamed_names (flat_map unnamed_of paths) in
    let counted = names_counted before in
    let many : c.len.result ≡ length (counted_states before) = let size = ap length c.loop-state.invariant.all in omega (arith, size, counted, c.len.ensures, c.loop-state.all.ok.0) in
    record {
      all = c.in_ok-add_paths.ensures
          ∙ ap (λ l. l ++ unnamed (map path_tree c.paths.result.now)) (c.in_ok-push-2.ensures.items ∙ ap (λ l. l ++ name ∷ []) c.loop-state.invariant.all)
          ∙ append_assoc (flat_map names_in before) (name ∷ []) (unnamed (map path_tree c.paths.result.now))
          ∙ ap (λ paths. flat_map names_in before ++ name ∷ unnamed paths) c.paths.ensures
          ∙ sym (flat_more names_in view states i c.state-item.result c.loop-state-test.true c.state-item.is);
      named = c.in_ok-push.ensures.items ∙ ap (λ l. l ++ c.len.result ∷ []) c.loop-state.invariant.named
          ∙ ap (λ n. indices_named before ++ n ∷ []) many
          ∙ sym (behind_more (λ b s. length (counted_states b) ∷ []) view states i c.state-item.result c.loop-state-test.true c.state-item.is);
    }
