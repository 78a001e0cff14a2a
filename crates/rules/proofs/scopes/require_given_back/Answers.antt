use Rattle.std.proofs.Common.{◌∙◌, sym, ap}
use Rattle.rules.specs.Outcomes.{Fails}
use Rattle.rules.specs.Scopes.{declared_between}
use Rattle.rules.specs.Sites.{method_of, row_of}
use Rattle.rules.proofs.GivenLemmas.{given, given_is}
use Rattle.rules.proofs.scopes.require_given_back.Goals as goal

pub returns-in-Some : goal.returns-in-Some
returns-in-Some c = record {
  all = λ more after.
      let m = method_of c.args.here.now in
      given_is m (row_of c.args.here.now) c.args.place c.args.given (declared_between m c.args.outer c.args.last) more after
      ∙ ap (λ v. given c.args.place v more after) (sym c.in-Some.ensures)
      ∙ ap (λ b. Fails b) (sym c.at.ensures);
}

pub returns-in-None : goal.returns-in-None
returns-in-None c = record {
  all = λ more after.
      let m = method_of c.args.here.now in
      given_is m (row_of c.args.here.now) c.args.place c.args.given (declared_between m c.args.outer c.args.last) more after
      ∙ ap (λ v. given c.args.place v more after) (sym c.in-None.ensures);
}
