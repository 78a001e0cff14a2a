use Rattle.std.proofs.Common.{Bor, ◌+◌, ◌<◌, ◌++◌, ◌∙◌, ap, sym, subst, arith, get_or, length, map, take}
use Rattle.std.specs.List.{flat_map}
use Rattle.tree.specs.Trees.{path_tree, state_tree}
use Rattle.tree.specs.declared.contract as tree
use Rattle.declarations.specs.Declarations.{counted_in_state, counted_states, paths_of, unnamed_of}
use Rattle.declarations.specs.ContractMistakes.{path_mistakes, state_mistakes}
use Rattle.declarations.specs.Meant.{meanings, message_names, state_names, text_of}
use Rattle.declarations.specs.Resolution.{edges_from, paths_edges}
use Rattle.declarations.proofs.BehindLemmas.{behind_more, flat_room, nothing_at}
use Rattle.declarations.proofs.MeantLemmas.{index_at, indices}
use Rattle.declarations.proofs.edges.edges_of.Goals as goal

pub bounds-meaning-i : goal.bounds-meaning-i
bounds-meaning-i c =
    let meaning = c.args.meaning.now in
    let many = indices (λ (s : Bor tree.State.State). state_tree s.now) meaning.declared.now.outline.states.items meaning.named.now c.requires.meaning.named in
    let shown = ap length c.deref-state-items.ensures.value in
    omega (arith, many, shown, c.loop-i-test.true)

pub overflow_cast-number : goal.overflow_cast-number
overflow_cast-number c =
    let meaning = c.args.meaning.now in
    let states = meaning.declared.now.outline.states.items in
    let view = λ (s : Bor tree.State.State). state_tree s.now in
    let lt = subst (λ l. c.loop-i.i < length l) c.deref-state-items.ensures.value c.loop-i-test.true in
    let is = c.state-item.is ∙ ap (λ l. get_or l c.loop-i.i c.state-item.result) c.deref-state-items.ensures.value in
    let room = flat_room counted_in_state view states c.loop-i.i c.state-item.result lt is in
    let place = index_at view states meaning.named.now c.loop-i.i c.requires.meaning.named lt in
    omega (arith, room, place, c.requires.meaning.state_room)

pub overflow_add-number : goal.overflow_add-number
overflow_add-number c =
    let meaning = c.args.meaning.now in
    let states = meaning.declared.now.outline.states.items in
    let view = λ (s : Bor tree.State.State). state_tree s.now in
    let lt = subst (λ l. c.loop-i.i < length l) c.deref-state-items.ensures.value c.loop-i-test.true in
    let is = c.state-item.is ∙ ap (λ l. get_or l c.loop-i.i c.state-item.result) c.deref-state-items.ensures.value in
    let room = flat_room counted_in_state view states c.loop-i.i c.state-item.result lt is in
    let place = index_at view states meaning.named.now c.loop-i.i c.requires.meaning.named lt in
    omega (arith, room, place, c.requires.meaning.state_room)

pub add_paths-requires-clause-clean : goal.add_paths-requires-clause-clean
add_paths-requires-clause-clean c =
    let meaning = c.args.meaning.now in
    let states = meaning.declared.now.outline.states.items in
    let view = λ (s : Bor tree.State.State). state_tree s.now in
    let lt = subst (λ l. c.loop-i.i < length l) c.deref-state-items.ensures.value c.loop-i-test.true in
    let is = c.state-item.is ∙ ap (λ l. get_or l c.loop-i.i c.state-item.result) c.deref-state-items.ensures.value in
    ap (flat_map (path_mistakes (text_of meaning) (message_names meaning) (state_names meaning))) c.paths.ensures
    ∙ nothing_at (state_mistakes (text_of meaning) (message_names meaning) (state_names meaning)) view states c.loop-i.i c.state-item.result lt is c.requires.clean

pub add_paths-requires-clause-room : goal.add_paths-requires-clause-room
add_paths-requires-clause-room c =
    let meaning = c.args.meaning.now in
    let states = meaning.declared.now.outline.states.items in
    let view = λ (s : Bor tree.State.State). state_tree s.now in
    let lt = subst (λ l. c.loop-i.i < length l) c.deref-state-items.ensures.value c.loop-i-test.true in
    let is = c.state-item.is ∙ ap (λ l. get_or l c.loop-i.i c.state-item.result) c.deref-state-items.ensures.value in
    let room = flat_room counted_in_state view states c.loop-i.i c.state-item.result lt is in
    let place = index_at view states meaning.named.now c.loop-i.i c.requires.meaning.named lt in
    let paths = ap (λ l. length (flat_map unnamed_of l)) c.paths.ensures in
    omega (arith, room, place, paths, c.requires.meaning.state_room)

pub loop-i-preserved : goal.loop-i-preserved
loop-i-preserved c =
    let meaning = c.args.meaning.now in
    let means = meanings meaning in
    let states = meaning.declared.now.outline.states.items in
    let view = λ (s : Bor tree.State.State). state_tree s.now in
    let i = c.loop-i.i in
    let front = map view (take i states) in
    let before = meaning.states_before in
    let lt = subst (λ l. i < length l) c.deref-state-items.ensures.value c.loop-i-test.true in
    let is = c.state-item.is ∙ ap (λ l. get_or l i c.state-item.result) c.deref-state-items.ensures.value in
    let place = index_at view states meaning.named.now i c.requires.meaning.named lt in
    c.in_ok-add_paths.ensures
    ∙ ap (λ l. l ++ paths_edges means (before + get_or meaning.named.now i 0) (map path_tree c.paths.result.now)) c.loop-i.invariant
    ∙ ap (λ l. edges_from means before front ++ paths_edges means (before + get_or meaning.named.now i 0) l) c.paths.ensures
    ∙ ap (λ n. edges_from means before front ++ paths_edges means (before + n) (paths_of (view c.state-item.result).body)) place
    ∙ sym (behind_more (λ b s. paths_edges means (before + length (counted_states b)) (paths_of s.body)) view states i c.state-item.result lt is)
