use Rattle.std.specs.Thread.{IsSync}
use Rattle.std.proofs.Common.{map, ap, ◌∙◌}
use Rattle.std.proofs.Crossing.{crosses}
use Rattle.std.proofs.lemmas.Result.{IfOk-weaker}
use denote.Param.Send.{sendable}
use Rattle.source.specs.Findings.{finding_model}
use Rattle.rules.specs.Programs.{model_of}
use Rattle.rules.specs.contracts.lowered.Program as program
use Rattle.intern.specs.contracts.row_table.Rows as rows
use Rattle.shelf.specs.contracts.shelf.Shelf as shelf
use Rattle.pool.specs.Counts.{method_of, times}
use Rattle.singcheck.proofs.VerdictLemmas.{of_all_methods}
use Rattle.singcheck.proofs.verdicts.analyse_methods.Goals as goal

pub share_out-requires-sync-J : goal.share_out-requires-sync-J
share_out-requires-sync-J g c κs within =
    let p : IsSync program.the_row = c.threads_share_a_program.ensures in
    let s : IsSync shelf.the_row = c.threads_share_a_shelf.ensures.shelf in
    let r : IsSync rows.the_row = c.threads_share_rows.ensures in
    let t = c.type_bounds.sync-R in
    search (crosses, sendable) depth 20

pub returns-in-Ok : goal.returns-in-Ok
returns-in-Ok g c =
    let p = model_of c.args.program.now in
    let done = c.deref.result.now in
    IfOk-weaker c.found_in.result _ _
    (λ found of. of_all_methods p (map method_of done) (map finding_model found.items)
    (λ n. ap (λ l. times n (map method_of l)) c.deref.ensures.value ∙ c.in-Ok.ensures.each n ∙ ap (times n) c.in_ok-all.ensures.each) of)
    c.found_in.ensures
