use Rattle.std.proofs.Common.{◌<◌, ◌∙◌, length, arith}
use Rattle.std.proofs.lemmas.Grind.{get_or_default_zero}
use Rattle.contracts.proofs.SpanLemmas.{cut_long}
use Rattle.contracts.proofs.groups.Groups.end.Goals as goal

pub index-requires : goal.index-requires
index-requires g c = let long = cut_long 0 c.args.self.now.items.items c.args.self.now.ends.items in let size = c.args.self.now.ends.ok.0 in omega (arith, c.requires, long, size)

pub returns-clause-end : goal.returns-clause-end
returns-clause-end g c =
    let ends = c.args.self.now.ends.items in
    let long = cut_long 0 c.args.self.now.items.items ends in
    let lt : c.args.at < length ends = omega (arith, c.requires, long) in
    c.index.ensures ∙ get_or_default_zero ends c.args.at c.index.result.now lt

pub returns-clause-within : goal.returns-clause-within
returns-clause-within g c =
    let ends = c.args.self.now.ends.items in
    let long = cut_long 0 c.args.self.now.items.items ends in
    let lt : c.args.at < length ends = omega (arith, c.requires, long) in
    let is = c.index.ensures ∙ get_or_default_zero ends c.args.at c.index.result.now lt in
    let within = (c.args.self.now.within c.args.at lt).1 in
    omega (arith, is, within)
