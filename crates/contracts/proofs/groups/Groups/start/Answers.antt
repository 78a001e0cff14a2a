use Rattle.std.proofs.Common.{◌-◌, ◌<◌, ◌∙◌, length, arith}
use Rattle.std.proofs.lemmas.Grind.{get_or_default_zero}
use Rattle.contracts.proofs.SpanLemmas.{cut_long, start_is}
use Rattle.contracts.proofs.groups.Groups.start.Goals as goal

pub index-requires : goal.index-requires
index-requires g c = let long = cut_long 0 c.args.self.now.items.items c.args.self.now.ends.items in let size = c.args.self.now.ends.ok.0 in omega (arith, c.requires, long, size)

pub returns-else-at-eq0-clause-start : goal.returns-else-at-eq0-clause-start
returns-else-at-eq0-clause-start g c =
    let ends = c.args.self.now.ends.items in
    let long = cut_long 0 c.args.self.now.items.items ends in
    let lt : c.args.at - 1 < length ends = omega (arith, c.requires, long) in
    c.index.ensures ∙ get_or_default_zero ends (c.args.at - 1) c.index.result.now lt ∙ start_is ends c.args.at c.if-at-eq0.false

pub returns-else-at-eq0-clause-before : goal.returns-else-at-eq0-clause-before
returns-else-at-eq0-clause-before g c =
    let ends = c.args.self.now.ends.items in
    let long = cut_long 0 c.args.self.now.items.items ends in
    let lt : c.args.at < length ends = omega (arith, c.requires, long) in
    let less : c.args.at - 1 < length ends = omega (arith, lt) in
    let is = c.index.ensures ∙ get_or_default_zero ends (c.args.at - 1) c.index.result.now less ∙ start_is ends c.args.at c.if-at-eq0.false in
    let within = (c.args.self.now.within c.args.at lt).0 in
    omega (arith, is, within)
