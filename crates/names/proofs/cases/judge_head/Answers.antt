use Rattle.std.proofs.Common.{take, sym, ◌∙◌, subst}
use Rattle.std.specs.Prelude.{OnOk}
use Rattle.names.specs.Cases.{type_head_mistakes}
use Rattle.names.specs.Expressions.{type_named, variable_mistakes}
use Rattle.names.specs.Operands.{in_frame}
use Rattle.declarations.specs.Mistakes.{Adds}
use Rattle.names.specs.Heads.{case_head}
use Rattle.names.proofs.HeadWords.{no_endpoint}
use Rattle.names.proofs.PassLemmas.{on_adds}
use Rattle.names.proofs.cases.judge_head.Goals as goal

pub returns-in-Endpoint : goal.returns-in-Endpoint
returns-in-Endpoint c = λ p f all here heads.
    let s = in_frame p f in
    let h = case_head c.args.case.now in
    let result = c.judge_endpoint_head.result in
    let old = c.args.found.now.items in
    let mid = c.judge_use.new.found.items in
    let new = c.judge_endpoint_head.new.found.items in
    let earlier = take c.args.index all in
    let ty = sym c.in-Endpoint.is ∙ c.held_type.ensures p f here.scope here.frame in
    on_adds result old mid new (variable_mistakes s h.endpoint) (type_head_mistakes s all earlier (type_named s h.endpoint) h)
    (c.in_ok-judge_use.ensures p f here.scope here.frame)
    (subst (λ k. OnOk result (Adds mid new (type_head_mistakes s all earlier k h))) ty (c.judge_endpoint_head.ensures p f all here.scope heads))

pub returns-in_default : goal.returns-in_default
returns-in_default c = λ p f all here heads.
    let s = in_frame p f in
    let h = case_head c.args.case.now in
    let result = c.judge_no_endpoint.result in
    let old = c.args.found.now.items in
    let mid = c.judge_use.new.found.items in
    let new = c.judge_no_endpoint.new.found.items in
    let earlier = take c.args.index all in
    on_adds result old mid new (variable_mistakes s h.endpoint) (type_head_mistakes s all earlier (type_named s h.endpoint) h)
    (c.in_ok-judge_use.ensures p f here.scope here.frame)
    (subst (λ k. OnOk result (Adds mid new (type_head_mistakes s all earlier k h))) (c.held_type.ensures p f here.scope here.frame)
    (subst (λ l. OnOk result (Adds mid new l)) (sym (no_endpoint s all earlier c.held_type.result h c.in_default.not-Endpoint)) c.judge_no_endpoint.ensures))
