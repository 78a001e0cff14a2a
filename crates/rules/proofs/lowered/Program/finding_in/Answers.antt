use Rattle.std.proofs.Common.{List, ℕ, ◌++◌, ap, sym, ◌∙◌}
use Rattle.std.specs.Prelude.{codes}
use Rattle.std.specs.Str.Lossy.{utf8_lossy}
use Rattle.std.proofs.lemmas.Result.{IfOk-weaker}
use Rattle.source.specs.Findings.{FindingModel}
use Rattle.source.specs.declared.finding.Code.TheVariants.{A03}
use Rattle.source.specs.declared.place.Place.{Place}
use Rattle.program.specs.Methods.{method_model}
use Rattle.rules.specs.Breaches.{breach_model}
use Rattle.rules.specs.Mentions.{name_of}
use Rattle.rules.specs.Programs.{model_of}
use Rattle.rules.specs.declared.breach.Reason.{Reason}
use Rattle.rules.proofs.lowered.Program.finding_in.Goals as goal

abbrev wrong_for : Place → (name message : List ℕ) → FindingModel
wrong_for place name message =
    record { place = place; code = A03; text = utf8_lossy name ++ (codes " in a wrong state for " ++ utf8_lossy message) }

pub returns-in-WrongFor : goal.returns-in-WrongFor
returns-in-WrongFor c =
    let p = model_of c.args.self.now in
    let m = method_model c.args.method.now in
    let place = c.args.breach.place in
    let arm = c.in-WrongFor in
    IfOk-weaker c.in_a_wrong_state_for.result _ _
    (λ finding h. (λ i. record { place = h.place i; code = h.code i; text = h.text i })
    ∙ ap (λ name. wrong_for place name c.name_along-message-in-WrongFor.result.now) c.name_of-in-WrongFor.ensures
    ∙ ap (λ message. wrong_for place (name_of m arm.variable.0) message) c.name_along-message-in-WrongFor.ensures
    ∙ ap (λ (reason : Reason). breach_model p m (record { place = place; reason = reason })) (sym arm.is)) c.in_a_wrong_state_for.ensures
