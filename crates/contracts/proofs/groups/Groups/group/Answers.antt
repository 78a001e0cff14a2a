use Rattle.std.proofs.Common.{◌<◌, ◌∙◌, length, ap, arith}
use Rattle.std.specs.List.{between}
use Rattle.contracts.specs.Spans.{start_of}
use Rattle.contracts.proofs.SpanLemmas.{cut_at, cut_long}
use Rattle.contracts.proofs.groups.Groups.group.Goals as goal

pub returns : goal.returns
returns g c =
    let items = c.args.self.now.items.items in
    let ends = c.args.self.now.ends.items in
    let long = cut_long 0 items ends in
    let lt : c.args.at < length ends = omega (arith, c.requires, long) in
    ap (between c.start-from.result c.end-to.result) c.deref.ensures.value
    ∙ ap (λ from. between from c.end-to.result items) c.start-from.ensures.start
    ∙ ap (λ to. between (start_of 0 ends c.args.at) to items) c.end-to.ensures.end
    ∙ cut_at 0 items ends c.args.at lt
