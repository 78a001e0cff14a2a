use Rattle.std.proofs.Common.{◌≡◌, ◌∙◌, ◌++◌, ◌<◌, List, ap, append_assoc, length, map, subst, sym, ℕ}
use Rattle.std.specs.Prelude.{string_bytes}
use Rattle.program.specs.Programs.{ProgramModel}
use Rattle.rules.specs.Programs.{model_of}
use Rattle.machine.specs.Replays.{ReplayModel}
use Rattle.machine.specs.Runs.{start_of}
use Rattle.machine.specs.Views.{world_model}
use Rattle.machine.specs.declared.halts.Event.{Event}
use Rattle.replays.specs.EventLines.{TraceWords}
use Rattle.replays.specs.Journals.{HasLines}
use Rattle.replays.specs.Names.{Words}
use Rattle.replays.specs.RunLines.{conditions_line}
use Rattle.runs.specs.Traces.{IsTraceOf}
use Rattle.singcheck.specs.PrintedRuns.{run_words}
use Rattle.singcheck.specs.Replays.{IsPrinted, struct_names}
use Rattle.singcheck.proofs.PrintedLemmas.{Agreeing, graph_printed, printed}
use Rattle.singcheck.proofs.traced_replays.print_trace.Goals as goal

pub trace_of-requires : goal.trace_of-requires
trace_of-requires c = record {
  there = subst (λ (p : ProgramModel). c.args.begun.now.method.0 < length p.methods) (sym c.in_ok-tracer.ensures.program) c.requires.there;
}

pub returns : goal.returns
returns c = λ text entry schedule begun told.
    let p = model_of c.args.begun.now.program in
    let n = c.args.begun.now.method.0 in
    let events = c.args.events.now in
    let r = c.in_ok-traced.traced in
    let w = world_model r.journal.world in
    let names : TraceWords = run_words text begun.entered.has.resolved.items p c.args.detail in
    let is = subst (λ (t : TraceWords). IsTraceOf t n events r) (c.in_ok-tracer.ensures.words text entry begun) c.in_ok-traced.ensures in
    let count : c.len-steps.result ≡ length r.journal.events.items = c.len-steps.ensures ∙ r.journal.events.ok.0 in
    let came : ReplayModel = record { world = w; steps = length r.journal.events.items; halt = r.halt } in
    let words : Words = record { program = p; structs = struct_names text begun.entered.has.resolved.items } in
    let agree : Agreeing = record {
      positions = c.replays_agree.ensures.positions;
      graphs = c.replays_agree.ensures.graphs;
      statements = c.replays_agree.ensures.statements;
    } in
    let are = c.in_ok-replayed.ensures
    ∙ ap (λ (s : List (List ℕ)). graph_printed (record { program = p; structs = s }) events
    (record { world = w; steps = c.len-steps.result; halt = r.halt }))
    (ap (map string_bytes) c.deref.ensures.value ∙ begun.structs)
    ∙ ap (λ k. graph_printed words events (record { world = w; steps = k; halt = r.halt })) count in
    record {
      replayed = c.in_ok-replayed.replayed.items;
      ran = record {
        program = p;
        n = n;
        entered = begun.entered;
        events = events;
        told = told;
        steps = came.steps;
        halt = r.halt;
        led = λ bound bounds. subst (IsPrinted words bound n events came.steps r.halt) (sym are)
            (printed agree words bound n events came (is.replay bound bounds));
        is = c.status_of.ensures;
      };
      lines = r.journal.lines.items;
      conditions = r.journal.conditions;
      world = w;
      leads = λ bound bounds. subst (λ (es : List Event). HasLines names bound (start_of p n) es w r.journal.lines.items r.journal.conditions)
          is.steps (is.journal bound bounds);
      are = c.in_ok-add_conditions.ensures
          ∙ ap (λ (l : List ℕ). l ++ conditions_line r.journal.conditions)
          (c.in_ok-extend_from_slice.ensures.items ∙ ap (λ (l : List ℕ). r.journal.lines.items ++ l) c.deref-2.ensures.value)
          ∙ append_assoc r.journal.lines.items c.in_ok-replayed.replayed.items (conditions_line r.journal.conditions);
    }
