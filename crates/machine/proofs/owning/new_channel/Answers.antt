use Rattle.machine.proofs.owning.new_channel.Goals as goal

pub put-requires : goal.put-requires
put-requires c = record { takes = λ a e. c.list-2.ensures.still _ c.in_ok-list.ensures.takes }

pub put-requires-2 : goal.put-requires-2
put-requires-2 c = record { takes = λ a e. c.put.ensures.still _ c.in_ok-list-2.ensures.takes }
