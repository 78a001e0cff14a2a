use Rattle.replays.proofs.OnceLemmas.{each_read}
use Rattle.replays.proofs.laws.each_schedule_is_read.Goals as goal

pub returns : goal.returns
returns c = each_read
