use Rattle.std.proofs.Common.{ap, arith, length}
use Rattle.tree.specs.Trees.{program_tree}
use Rattle.declarations.specs.Program.{program_of}
use Rattle.rules.specs.Programs.{model_of}
use Rattle.singcheck.specs.Replays.{method_names}
use Rattle.singcheck.proofs.CheckLemmas.{has_program}
use Rattle.singcheck.proofs.EntryLemmas.{IsLooked, all_named, looked_at, looked_only}
use Rattle.singcheck.proofs.entering.enter_method.Goals as goal
use Rattle.singcheck.proofs.entering.enter_method.Goals.{After-entry_index}

pub entry_index-requires : goal.entry_index-requires
entry_index-requires c = record {
  few = let p = program_of c.args.text.now c.args.tree.now in
      omega (arith, all_named p 0 p.items, ap (λ q. length q.methods) c.requires.program.is, c.requires.few);
}

-- the result of looking for the entry
looked : (c : After-entry_index) → IsLooked (method_names c.args.text.now (program_tree c.args.tree.now)) c.args.entry.now c.entry_index.result
looked c = record { some = c.entry_index.ensures.some; none = c.entry_index.ensures.none }

pub returns-in_default : goal.returns-in_default
returns-in_default c =
    let text = c.args.text.now in
    let items = program_tree c.args.tree.now in
    let names = method_names text items in
    let look = looked (goal.at.returns-in_default c).After-entry_index in
    record {
      program = model_of c.args.program;
      has = has_program text items (model_of c.args.program) c.requires.program c.requires.sound;
      none = λ n at. c.in_default.ensures.none n (looked_only names c.args.entry.now c.entry_index.result n look at.named) at.begins;
    }

pub returns : goal.returns
returns c =
    let text = c.args.text.now in
    let items = program_tree c.args.tree.now in
    let names = method_names text items in
    let look = looked (goal.at.returns c).After-entry_index in
    record {
      entered = record {
        has = has_program text items (model_of c.args.program) c.requires.program c.requires.sound;
        at = record { named = looked_at names c.args.entry.now c.entry_index.result c.in-Some.method.0 look c.in-Some.ensures.some.0; begins = c.in-Some.ensures.some.1 };
      };
      structs = c.in_ok-structs.ensures;
      methods = c.in_ok-methods.ensures;
    }
