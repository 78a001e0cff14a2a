use Rattle.std.proofs.Common.{◌++◌}
use Rattle.names.specs.Expressions.{InScope, variable_mistakes}
use Rattle.names.proofs.PassLemmas.{on_adds}
use Rattle.names.proofs.plain.judge_channel.Goals as goal

pub returns : goal.returns
returns c = λ p f scope frame.
    let s : InScope = record { program = p; variables = f.variables } in
    let channel = c.args.channel in
    let result = c.judge_use-2.result in
    let ends = c.judge_new_ends.new.found.items in
    let first = c.judge_use.new.found.items in
    let new = c.judge_use-2.new.found.items in
    on_adds result c.args.found.now.items ends new _ (variable_mistakes s channel.first ++ variable_mistakes s channel.second)
    (c.in_ok-judge_new_ends.ensures p f scope frame)
    (on_adds result ends first new (variable_mistakes s channel.first) (variable_mistakes s channel.second) (c.in_ok-judge_use.ensures p f scope frame) (c.judge_use-2.ensures p f scope frame))
