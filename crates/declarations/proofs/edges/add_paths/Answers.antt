use Rattle.std.proofs.Common.{◌++◌, ◌∙◌, ap, sym, arith, append_assoc, length, map, take, ◌+◌}
use Rattle.std.specs.List.{flat_map}
use Rattle.std.proofs.lemmas.List.{length-append, length-map}
use Rattle.lemmas.proofs.Lists.{flat_more}
use Rattle.tree.specs.Trees.{path_tree}
use Rattle.declarations.specs.Declarations.{unnamed_of}
use Rattle.declarations.specs.ContractMistakes.{path_mistakes}
use Rattle.declarations.specs.Meant.{meanings, message_names, state_names, text_of}
use Rattle.declarations.specs.Resolution.{path_edges, paths_edges}
use Rattle.declarations.proofs.BehindLemmas.{behind_more, flat_room, nothing_at}
use Rattle.declarations.proofs.edges.add_paths.Goals as goal

pub add_path-requires-clause-clean : goal.add_path-requires-clause-clean
add_path-requires-clause-clean c =
    let meaning = c.args.meaning.now in
    nothing_at (path_mistakes (text_of meaning) (message_names meaning) (state_names meaning)) path_tree c.args.paths.now c.loop-path.path-index c.path-item.result c.loop-path-test.true c.path-item.is c.requires.clean

pub add_path-requires-clause-room : goal.add_path-requires-clause-room
add_path-requires-clause-room c =
    let room = flat_room unnamed_of path_tree c.args.paths.now c.loop-path.path-index c.path-item.result c.loop-path-test.true c.path-item.is in
    let size = length-map c.path-item.result.others.items (λ e. e.message) in
    omega (arith, room, size, c.requires.room, c.loop-path.invariant.unnamed)

pub overflow_cast-unnamed : goal.overflow_cast-unnamed
overflow_cast-unnamed c =
    let room = flat_room unnamed_of path_tree c.args.paths.now c.loop-path.path-index c.path-item.result c.loop-path-test.true c.path-item.is in
    let size = length-map c.path-item.result.others.items (λ e. e.message) in
    omega (arith, room, size, c.requires.room, c.loop-path.invariant.unnamed, c.len.ensures, c.path-item.result.others.ok.0)

pub overflow_add-unnamed-in-loop-path : goal.overflow_add-unnamed-in-loop-path
overflow_add-unnamed-in-loop-path c =
    let room = flat_room unnamed_of path_tree c.args.paths.now c.loop-path.path-index c.path-item.result c.loop-path-test.true c.path-item.is in
    let size = length-map c.path-item.result.others.items (λ e. e.message) in
    omega (arith, room, size, c.requires.room, c.loop-path.invariant.unnamed, c.len.ensures, c.path-item.result.others.ok.0)

pub loop-path-preserved : goal.loop-path-preserved
loop-path-preserved c =
    let paths = c.args.paths.now in
    let i = c.loop-path.path-index in
    let front = map path_tree (take i paths) in
    let means = meanings c.args.meaning.now in
    let state = c.args.state in
    let path = path_tree c.path-item.result in
    let size = length-map c.path-item.result.others.items (λ e. e.message) in
    let more = ap length (flat_more unnamed_of path_tree paths i c.path-item.result c.loop-path-test.true c.path-item.is) in
    let both = length-append (flat_map unnamed_of front) (unnamed_of path) in
    let old = c.args.edges.now.items in
    record {
      unnamed = omega (arith, size, more, both, c.loop-path.invariant.unnamed, c.len.ensures, c.path-item.result.others.ok.0);
      edges = c.in_ok-add_path.ensures
          ∙ ap (λ l. l ++ path_edges means state c.loop-path.unnamed path) c.loop-path.invariant.edges
          ∙ append_assoc old (paths_edges means state front) (path_edges means state c.loop-path.unnamed path)
          ∙ ap (λ n. old ++ (paths_edges means state front ++ path_edges means state n path)) c.loop-path.invariant.unnamed
          ∙ ap (λ l. old ++ l) (sym (behind_more (λ before p. path_edges means state (state + 1 + length (flat_map unnamed_of before)) p) path_tree paths i c.path-item.result c.loop-path-test.true c.path-item.is));
    }
