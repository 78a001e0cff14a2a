use Rattle.std.proofs.Common.{◌≡◌, ◌<◌, true, ap, refl, ◌∙◌, arith, length}
use Rattle.machine.specs.World.{is_process}
use Rattle.machine.proofs.ChangeLemmas.{eqb_same}
use Rattle.machine.proofs.CountLemmas.{some_in}
use Rattle.machine.proofs.changing.count_less.Goals as goal

pub index_mut-requires : goal.index_mut-requires
index_mut-requires c =
    let own : is_process c.args.owner c.in-Process.q ≡ true = ap (λ o. is_process o c.in-Process.q) c.in-Process.is ∙ eqb_same c.in-Process.q c.in-Process.q refl in
    let short : c.in-Process.q < length c.args.counts.now.items = some_in c.args.counts.now.items c.in-Process.q (c.requires.some c.in-Process.q own) in
    let all = c.args.counts.now.ok.0 in
    omega arith
