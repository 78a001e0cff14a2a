use Rattle.std.proofs.Common.{◌≡◌, ◌++◌, length, sym, ap, ap₂, ◌∙◌}
use Rattle.std.proofs.lemmas.List.{length-map}
use Rattle.program.specs.Parts.{contract_model}
use Rattle.program.specs.Methods.{method_model}
use Rattle.rules.specs.Programs.{model_of}
use Rattle.singcheck.specs.Lines.{clear_line}
use Rattle.singcheck.proofs.report.clear.Goals as goal

pub returns-clause-bytes : goal.returns-clause-bytes
returns-clause-bytes c =
    let p = model_of c.args.program.now in
    let contracts = c.contracts-contracts.result.now in
    let methods = c.methods-methods.result.now in
    let all : length contracts ≡ length p.contracts = sym (length-map contracts contract_model) ∙ ap length c.contracts-contracts.ensures in
    let many : length methods ≡ length p.methods = sym (length-map methods method_model) ∙ ap length c.methods-methods.ensures.methods in
    c.in_ok-add_clear.ensures ∙ ap (λ l. l ++ clear_line (length contracts) (length methods)) c.new-bytes.ensures.items ∙ ap₂ clear_line all many
