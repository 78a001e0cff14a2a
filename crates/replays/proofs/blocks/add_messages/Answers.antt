use Rattle.std.proofs.Common.{◌<◌, ◌≤◌, ◌∙◌, ◌++◌, ap, arith, length, map, sym, take_all}
use Rattle.std.specs.List.{join_with_byte}
use Rattle.machine.specs.Views.{held_model}
use Rattle.machine.specs.declared.worlds.Held.{Held}
use Rattle.replays.specs.Naming.{words_of}
use Rattle.replays.specs.WorldLines.{message_text}
use Rattle.replays.proofs.LineLemmas.{map_twice, piece_more}
use Rattle.replays.proofs.blocks.add_messages.Goals as goal

pub loop-index-preserved : goal.loop-index-preserved
loop-index-preserved c =
    let lt : c.loop-index.index < length c.args.queue.now.items = omega (arith, c.len-index-end.ensures, c.loop-index-test.true) in
    piece_more (λ (h : Held). message_text (words_of c.args.naming.now) c.args.contract.0 (held_model h)) 32 c.args.answer.now.items c.loop-index.answer.items c.separate.new.answer.items c.add_message.new.answer.items
    c.args.queue.now.items c.loop-index.index c.index.result.now c.index.result.now lt c.index.ensures c.loop-index.invariant c.in_ok-separate.ensures c.in_ok-add_message.ensures

pub returns : goal.returns
returns c =
    let le : length c.args.queue.now.items ≤ c.loop-index.index = omega (arith, c.len-index-end.ensures, c.loop-index-test.false) in
    let text = message_text (words_of c.args.naming.now) c.args.contract.0 in
    c.loop-index.invariant
    ∙ ap (λ l. c.args.answer.now.items ++ join_with_byte 32 (map (λ (h : Held). text (held_model h)) l)) (take_all c.loop-index.index c.args.queue.now.items le)
    ∙ ap (λ l. c.args.answer.now.items ++ join_with_byte 32 l) (sym (map_twice text held_model c.args.queue.now.items))
