use Rattle.std.proofs.Common.{◌∙◌, List, ap, map, subst, sym, ℕ}
use Rattle.std.specs.Prelude.{string_bytes}
use Rattle.machine.specs.Replays.{replay_model}
use Rattle.replays.specs.Names.{Words}
use Rattle.rules.specs.Programs.{model_of}
use Rattle.singcheck.specs.Replays.{IsPrinted, struct_names}
use Rattle.singcheck.proofs.PrintedLemmas.{Agreeing, graph_printed, printed}
use Rattle.singcheck.proofs.replaying.replay_events.Goals as goal

pub returns : goal.returns
returns c = λ text entry schedule begun told.
    let came = replay_model c.in_ok-came.came in
    let p = model_of c.args.begun.now.program in
    let n = c.args.begun.now.method.0 in
    let events = c.args.events.now in
    let words : Words = record { program = p; structs = struct_names text begun.entered.has.resolved.items } in
    let agree : Agreeing = record {
      positions = c.replays_agree.ensures.positions;
      graphs = c.replays_agree.ensures.graphs;
      statements = c.replays_agree.ensures.statements;
    } in
    let are = c.in_ok-bytes.ensures
    ∙ ap (λ (s : List (List ℕ)). graph_printed (record { program = p; structs = s }) events came)
    (ap (map string_bytes) c.deref.ensures.value ∙ begun.structs) in
    record {
      program = p;
      n = n;
      entered = begun.entered;
      events = events;
      told = told;
      steps = came.steps;
      halt = came.halt;
      led = λ bound bounds. subst (IsPrinted words bound n events came.steps came.halt) (sym are)
          (printed agree words bound n events came (c.in_ok-came.ensures bound bounds));
      is = c.status_of.ensures;
    }
