use Rattle.std.proofs.Common.{◌≡◌, ◌∙◌, ◌++◌, ap, ap₂, sym, map, List, Option, ℕ, map-id}
use Rattle.std.specs.Prelude.{slice_get, string_bytes}
use Rattle.std.specs.List.{enumerate_from, flat_map}
use Rattle.program.specs.Programs.{ProgramModel}
use Rattle.rules.specs.Programs.{model_of}
use Rattle.source.specs.declared.place.Place.{Place}
use Rattle.machine.specs.Views.{stack_model, world_model}
use Rattle.machine.specs.World.{Block}
use Rattle.machine.specs.declared.halts.Event.{Event}
use Rattle.replays.specs.Names.{Words}
use Rattle.replays.specs.WorldLines.{block_line, position, process_line, steps_line, stop_line}
use Rattle.replays.proofs.LineLemmas.{four_added, map_twice}
use Rattle.replays.proofs.NameLemmas.{got_seen}
use Rattle.replays.proofs.printing.lines_of.Goals as goal

processes_told : List (ℕ × Option Place) → List ℕ
processes_told positions = flat_map (λ (q : ℕ × (ℕ × Option Place)). process_line q.0 q.1) (enumerate_from 0 positions)

blocks_told : Words → List Block → List ℕ
blocks_told w blocks = flat_map (λ (b : ℕ × Block). block_line w b.0 b.1) (enumerate_from 0 blocks)

words : ProgramModel → List (List ℕ) → Words
words p structs = record { program = p; structs = structs }

pub returns : goal.returns
unfolding processes_told blocks_told words
returns c =
    let replayed = c.args.replayed.now in
    let p = model_of c.args.program.now in
    let w = words p (map string_bytes c.args.structs.now) in
    let events = c.args.events.now in
    let event : c.copied.result ≡ slice_get events replayed.steps =
    c.copied.ensures ∙ got_seen (λ (e : Event). e) events replayed.steps c.get.result c.get.ensures.lookup ∙ ap (λ l. slice_get l replayed.steps) (map-id events) in
    let v = world_model replayed.world in
    four_added (steps_line replayed.steps) (stop_line (slice_get events replayed.steps) replayed.halt) (processes_told (map (position p) v.processes)) (blocks_told w v.blocks)
    c.new-answer.result.items c.add_steps.new.answer.items c.add_stop.new.answer.items c.add_processes.new.answer.items c.new-answer.ensures.items c.in_ok-add_steps.ensures
    (c.in_ok-add_stop.ensures ∙ ap (λ (e : Option Event). c.add_steps.new.answer.items ++ stop_line e replayed.halt) event)
    (c.in_ok-add_processes.ensures ∙ ap (λ (l : List (ℕ × Option Place)). c.add_stop.new.answer.items ++ processes_told l)
    (sym (map_twice (position p) stack_model c.processes.result.now) ∙ ap (map (position p)) c.processes.ensures))
    c.add_blocks.new.answer.items
    (c.in_ok-add_blocks.ensures ∙ ap₂ (λ (u : Words) (l : List Block). c.add_processes.new.answer.items ++ blocks_told u l) c.in_ok-naming.ensures c.blocks-2.ensures.seen)
