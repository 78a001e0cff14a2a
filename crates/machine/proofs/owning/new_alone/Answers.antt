use Rattle.std.proofs.Common.{◌∙◌, ◌∷◌, ◌++◌, [], List, Some, ap, refl, set, sym, length}
use Rattle.machine.specs.Answers.{with_variables}
use Rattle.machine.specs.Blocks.{new_block}
use Rattle.machine.specs.Outcomes.{Moved}
use Rattle.machine.specs.Views.{blocks_model, frame_model, variables_model}
use Rattle.machine.specs.World.{Block, Frame}
use Rattle.machine.specs.declared.worlds.Owner.TheVariants.{Inside}
use Rattle.machine.proofs.ChangeLemmas.{handed_nothing, seen_length}
use Rattle.machine.proofs.MakeLemmas.{world_with}
use Rattle.machine.proofs.owning.new_alone.Goals as goal

pub returns-clause-tells : goal.returns-clause-tells
returns-clause-tells c = λ bound w rest is.
    let f = frame_model c.args.frame.now in
    let items = c.args.heap.now.blocks.items in
    let has = variables_model c.list.new.self.variables in
    let address = length c.blocks-address.result.now in
    let made = new_block c.type_at-ty.result c.args.turn.now.process 0 0 [] in
    ap Moved (world_with w.processes c.args.turn.now.process rest f (frame_model c.put.new.self) c.args.next
    c.args.at.variable.0 address w.blocks (blocks_model c.add_alone.new.self.blocks.items) [] [] [] has _ c.type_at-ty.result refl refl
    (ap length c.blocks-address.ensures ∙ (sym (seen_length items) ∙ ap length (sym is))) c.type_at-ty.ensures
    (ap (λ (x : Frame). x.variables) c.list.ensures.same)
    (c.put.ensures.put ∙ ap (λ (x : Frame). with_variables x (set has c.args.at.variable.0 (Some address))) c.list.ensures.same)
    (c.in_ok-add_alone.ensures.added ∙ (ap (λ (b : Block). blocks_model items ++ b ∷ []) c.new_block-made.ensures
    ∙ ap (λ (bs : List Block). bs ++ made ∷ []) (sym (handed_nothing (Inside (length w.blocks)) w.blocks ∙ is)))))

pub put-requires : goal.put-requires
put-requires c = record { takes = λ a e. c.in_ok-list.ensures.takes }
