use Rattle.machine.proofs.Chains.{all_inside, goes_alone}
use Rattle.machine.proofs.laws.all_inside_goes.Goals as goal

pub returns : goal.returns
returns c = record {
  all = λ blocks a held. all_inside blocks held.rooted a;
  alone = λ blocks a inside held these. goes_alone blocks held.rooted a inside these;
}
