use Rattle.std.proofs.Common.{refl, sym, ◌∙◌}
use Rattle.std.proofs.lemmas.Result.{on_ok_weaker}
use Rattle.resolving.specs.Frames.{number_model}
use Rattle.resolving.proofs.LocalLemmas.{local_found, entered_taken, entered_new}
use Rattle.resolving.proofs.locals.Locals.enter.Goals as goal

pub returns-in-Some : goal.returns-in-Some
returns-in-Some c = λ f h.
    let is = local_found c.args.text.now f c.args.self.now c.args.declaration.name _ h c.slice-word.ensures in
    entered_taken c.args.text.now f c.args.self.now c.args.declaration (number_model c.args.number) _ h (sym c.in-Some.is ∙ c.find.ensures ∙ is)

pub returns-in-None : goal.returns-in-None
returns-in-None c = λ f h.
    let is = local_found c.args.text.now f c.args.self.now c.args.declaration.name _ h c.slice-word.ensures in
    on_ok_weaker c.add.result
    (λ more. entered_new c.args.text.now f c.args.self.now _ c.args.declaration c.args.number c.slice-word.result.now h c.slice-word.ensures
    (sym c.in-None.is ∙ c.find.ensures ∙ is) more refl refl) c.add.ensures.added
