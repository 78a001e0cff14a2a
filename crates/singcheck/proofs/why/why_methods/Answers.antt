use Rattle.std.proofs.Common.{◌∙◌, map, length, ap, sym, arith}
use Rattle.std.specs.Prelude.{◌≢◌, []}
use Rattle.std.proofs.lemmas.Bool.{eqb-true, eqb-false}
use Rattle.rules.specs.Programs.{model_of}
use Rattle.explanations.specs.Explained.{explained_model}
use Rattle.singcheck.specs.Explains.{explained_bytes}
use Rattle.singcheck.proofs.ExplainLemmas.{explains_clear, explains_reasons, no_explained}
use Rattle.singcheck.proofs.why.why_methods.Goals as goal

pub returns-then-is_empty : goal.returns-then-is_empty
returns-then-is_empty c =
    let found = c.in_ok-found.found in
    let none = no_explained found.items (sym found.ok.0 ∙ eqb-true _ _ (sym c.is_empty.ensures ∙ c.if-is_empty.true)) in
    explains_clear c.args.named (model_of c.args.program.now) found.items none c.in_ok-found.ensures.found c.clear.result c.clear.ensures.bytes c.clear.ensures.status

pub returns : goal.returns
returns c = λ text has.
    let found = c.in_ok-found.found in
    let listed = c.in_ok-listed.listed in
    let some : found.items ≢ [] = λ e. let differ = eqb-false _ _ (sym c.is_empty.ensures ∙ c.if-is_empty.false) in let none = ap length e in omega (arith, differ, none, found.ok.0) in
    explains_reasons c.args.named text c.in_ok-explained_report.field-0.items (model_of c.args.program.now) found.items listed.items has some c.in_ok-found.ensures.found c.in_ok-found.ensures.each
    c.in_ok-listed.ensures.same c.in_ok-listed.ensures.among c.in_ok-listed.ensures.ordered
    (c.in_ok-explained_report.ensures ∙ ap (λ l. explained_bytes (map explained_model l)) c.deref.ensures.value)
