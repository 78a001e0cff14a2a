use Rattle.std.proofs.Common.{◌∙◌, map, sym, subst}
use Rattle.lemmas.proofs.Lists.{nil_left}
use Rattle.tree.specs.Trees.{contracts_of}
use Rattle.declarations.specs.ItemMistakes.{items_mistakes}
use Rattle.declarations.specs.Program.{program_of}
use Rattle.declarations.specs.Resolution.{resolved_contracts}
use Rattle.program.specs.Methods.{method_model}
use Rattle.resolving.specs.Brought.{messages_told}
use Rattle.resolving.specs.Fields.{structs_told}
use Rattle.program.specs.Programs.{type_lists}
use Rattle.program.specs.WellFormed.{AreWellFormed}
use Rattle.program.specs.Lists.{Each}
use Rattle.wellformed.specs.Bare.{IsBare}
use Rattle.wellformed.proofs.MethodLemmas.{all_bare, well_formed}
use Rattle.wellformed.proofs.methods.well_formed_methods.Goals as goal

pub resolve_methods-requires-clause-clean : goal.resolve_methods-requires-clause-clean
resolve_methods-requires-clause-clean c = nil_left (items_mistakes (program_of c.args.text.now c.args.tree.now)) _ c.requires.clean

pub new-requires : goal.new-requires
new-requires c =
    let p = program_of c.args.text.now c.args.tree.now in
    let told = resolved_contracts p.text (contracts_of p.items) in
    let made = c.in_ok-messages.field-0 in
    let methods = map method_model made.methods.items in
    let structs = type_lists made.structs.items in
    let fits = subst (λ ms. AreWellFormed (record { contracts = told; messages = messages_told p; structs = structs_told p; methods = ms })) (sym c.in_ok-messages.ensures.resolved) (well_formed p c.requires.clean) in
    let has = subst (λ ss. AreWellFormed (record { contracts = told; messages = messages_told p; structs = ss; methods = methods })) (sym c.in_ok-messages.ensures.structs) fits in
    let brings = subst (λ ms. AreWellFormed (record { contracts = told; messages = ms; structs = structs; methods = methods })) (sym c.in_ok-messages.ensures.messages) has in
    record {
      well_formed = subst (λ cs. AreWellFormed (record { contracts = cs; messages = type_lists made.messages.items; structs = structs; methods = methods })) (sym c.requires.contracts) brings;
      few = c.in_ok-messages.ensures.few;
    }

pub returns-clause-bare : goal.returns-clause-bare
returns-clause-bare c = subst (Each IsBare) (sym (c.new.ensures.methods ∙ c.in_ok-messages.ensures.resolved)) (all_bare (program_of c.args.text.now c.args.tree.now))
