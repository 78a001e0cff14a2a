use Rattle.std.proofs.Common.{sym, length, subst, ◌<◌}
use Rattle.program.specs.Methods.{method_model}
use Rattle.program.specs.Programs.{methods_model, program_model, type_lists}
use Rattle.program.specs.WellFormed.{IsWellFormed}
use Rattle.program.proofs.ListLemmas.{each_made}
use Rattle.program.proofs.methods.Methods.method.Goals as goal

pub returns-clause-well_formed : goal.returns-clause-well_formed
returns-clause-well_formed c =
    let i = c.self.inside in
    let p = program_model (i.contracts.contracts.items, type_lists i.messages.items, type_lists i.structs.items, i.list.items) in
    let within : c.args.id.0 < length p.methods = subst (λ p. c.args.id.0 < length (methods_model p)) (sym c.self.view_is) c.requires.there in
    let there = each_made method_model (IsWellFormed p) i.list.items c.args.id.0 c.index.result.now within c.self.invariant.0.methods_are in
    let same = subst (λ m. IsWellFormed p (method_model m)) (sym c.index.ensures) there in
    subst (λ p. IsWellFormed (program_model p) (method_model c.index.result.now)) c.self.view_is same
