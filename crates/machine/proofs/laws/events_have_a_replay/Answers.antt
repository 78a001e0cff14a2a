use Rattle.machine.proofs.EachReplayLemmas.{each_replay}
use Rattle.machine.proofs.laws.events_have_a_replay.Goals as goal

pub returns : goal.returns
returns c = λ p bound m events none.
    let replay = each_replay p bound m events in
    none replay.0 replay.1
