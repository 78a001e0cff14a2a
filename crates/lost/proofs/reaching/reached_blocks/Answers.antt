use Rattle.std.proofs.Common.{◌≡◌, ◌≤◌, ◌∙◌, [], ap, false, length, replicate, rules, subst, sym}
use Rattle.std.proofs.lemmas.List.{length-map}
use Rattle.machine.specs.Views.{block_model, world_model}
use Rattle.lost.specs.Marks.{HaveAny, AddsMarks, to_do}
use Rattle.lost.specs.declared.marking.Reach.{Reach}
use Rattle.lost.proofs.CoverLemmas.{covers_start, few_to_do}
use Rattle.lost.proofs.reaching.reached_blocks.Goals as goal

pub returns : goal.returns
returns c =
    let w = world_model c.args.world.now in
    let bs = c.blocks-blocks.result.now in
    let r : Reach = record { marks = c.in_ok-vec.field-0; pending = c.new.result } in
    let s = c.mark_processes.new.self in
    let seen = c.blocks-blocks.ensures.seen in
    let unmarked : r.marks.items ≡ replicate (length bs) false = search rules in
    let marks : r.marks.items ≡ replicate (length w.blocks) false =
    unmarked ∙ ap (λ n. replicate n false) (sym (length-map bs block_model) ∙ ap (λ l. length l) seen) in
    let none : r.pending.items ≡ [] = search rules in
    let step : AddsMarks (HaveAny w.processes) r s =
    subst (λ l. AddsMarks (HaveAny l) r s) c.processes.ensures c.in_ok-mark_processes.ensures in
    let few : to_do s ≤ length w.blocks = few_to_do (length w.blocks) r s (HaveAny w.processes) marks none step in
    c.in_ok-follow_all.ensures w (sym seen) (covers_start w r s marks none step) (subst (λ l. to_do s ≤ length l) (sym seen) few)
