use Rattle.std.proofs.Common.{◌∙◌, ◌+◌, ◌≤◌, length, sym, subst}
use Rattle.std.specs.Prelude.{◌≢◌, []}
use Rattle.tree.specs.Trees.{program_tree}
use Rattle.declarations.specs.Program.{ProgramText}
use Rattle.names.specs.Findings.{program_mistakes}
use Rattle.singcheck.proofs.ExplainLemmas.{names_explained}
use Rattle.singcheck.proofs.RemarkLemmas.{Remarked, remarked_more, remarked_all}
use Rattle.singcheck.proofs.remarking.explain_names.Goals as goal

pub loop-number-preserved : goal.loop-number-preserved
loop-number-preserved c =
    let p : ProgramText = record { text = c.args.text.now; items = program_tree c.args.tree.now } in
    let mistakes = c.args.mistakes.now in
    let n = c.loop-number.number in
    let e = c.in_ok-explain_mistake.field-0 in
    subst (Remarked c.args.named p mistakes (n + 1)) (sym c.in_ok-push.ensures.items)
    (remarked_more c.args.named p mistakes n _ c.is_searched-within.result c.loop-number.found.items e c.loop-number-test.true c.requires.mistaken.are.all c.is_searched-within.ensures
    c.in_ok-explain_mistake.ensures.finding c.in_ok-explain_mistake.ensures.lines c.loop-number.invariant)

pub returns : goal.returns
returns c =
    let p : ProgramText = record { text = c.args.text.now; items = program_tree c.args.tree.now } in
    let mistakes = c.args.mistakes.now in
    let over : length mistakes ≤ c.loop-number.number = c.loop-number-test.false in
    let all = remarked_all c.args.named p mistakes c.loop-number.number c.loop-number.found.items over c.requires.mistaken.are.all c.loop-number.invariant in
    let some : program_mistakes p ≢ [] = λ none. c.requires.mistaken.are.some (c.requires.mistaken.are.all ∙ none) in
    names_explained c.args.named c.args.text.now (program_tree c.args.tree.now) c.loop-number.found.items c.requires.mistaken.parsed some all c.loop-number.invariant.each
