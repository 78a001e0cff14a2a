use Rattle.std.proofs.Common.{◌∙◌, ap, sym, subst}
use Rattle.std.specs.Prelude.{OnOk}
use Rattle.std.specs.List.{flat_map}
use Rattle.std.proofs.lemmas.Result.{on_ok_weaker}
use Rattle.declarations.specs.ContractMistakes.{param_names}
use Rattle.declarations.specs.Listed.{past_limit, twice_among}
use Rattle.declarations.specs.Mistakes.{Adds}
use Rattle.declarations.specs.declared.mistake.Limit.TheVariants as limit
use Rattle.declarations.specs.Types.{type_unknown}
use Rattle.tables.specs.Tables.{IsTable}
use Rattle.tables.specs.Words.{words_at}
use Rattle.declarations.proofs.AddLemmas.{adds_then}
use Rattle.declarations.proofs.message_types.judge_message.Goals as goal

pub returns : goal.returns
returns c = λ p h.
    let here = c.args.scope.now.text.now in
    let params = param_names c.args.message.now.params.items in
    let before = c.args.found.now.items in
    let typed = c.judge_types.new.found.items in
    let apart = c.judge_twice.new.found.items in
    let named = c.in_ok-names.ensures ∙ ap param_names c.deref-2.ensures.value in
    let there = c.deref-4.ensures.value ∙ named in
    let listed = c.deref-3.ensures.value ∙ sym c.deref-4.ensures.value in
    let table = subst (λ n. IsTable (words_at here n) c.in_ok-table.table) listed c.in_ok-table.ensures in
    let first = subst (λ l. Adds before typed (flat_map (λ x. type_unknown p x.ty) l)) c.deref.ensures.value
    (c.in_ok-judge_types.ensures p h) in
    let second = subst (λ t. Adds typed apart (twice_among t params)) h.text_is
    (subst (λ n. Adds typed apart (twice_among here n)) there (c.in_ok-judge_twice.ensures table)) in
    on_ok_weaker c.judge_limit.result (λ last. adds_then first (adds_then second last))
    (subst (λ n. OnOk c.judge_limit.result (Adds apart c.judge_limit.new.found.items (past_limit limit.Parameters n)))
    (c.deref-5.ensures.value ∙ named) c.judge_limit.ensures)
