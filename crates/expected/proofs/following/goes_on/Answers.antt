use Rattle.std.proofs.Common.{◌≡◌, ◌++◌, ◌∷◌, [], length, subst, refl, inl, inr, arith, rules}
use Rattle.std.proofs.lemmas.Bool.{cases_lt}
use Rattle.std.proofs.lemmas.Bool.Decides.{nat_tests}
use Rattle.source.specs.declared.token.Token.{Token}
use Rattle.tree.specs.Programs.{program}
use Rattle.tree.specs.Trees.{program_tree}
use Rattle.tree.specs.Spelled.{Spells}
use Rattle.syntax.specs.Parsing.{IsFirstWrong}
use Rattle.expected.proofs.Trials as trial
use Rattle.expected.proofs.following.goes_on.Goals as goal

pub returns-in-Ok-clause-exact : goal.returns-in-Ok-clause-exact
returns-in-Ok-clause-exact c =
    let front = c.args.front.now.list.items in
    let last : Token = record { kind = c.args.kind; span = c.args.at } in
    let all : c.push.new.self.items ≡ front ++ last ∷ [] = c.in_ok-push.ensures.items in
    let tree = program_tree c.in-Ok._tree in
    (λ _. trial.goes_on_to_end front last tree (subst (Spells program tree) all c.in-Ok.ensures.tree), λ _. refl)

pub returns-in-Err-At-clause-exact : goal.returns-in-Err-At-clause-exact
returns-in-Err-At-clause-exact c =
    let front = c.args.front.now.list.items in
    let last : Token = record { kind = c.args.kind; span = c.args.at } in
    let k = c.in-Err-At.wrong in
    let all : c.push.new.self.items ≡ front ++ last ∷ [] = c.in_ok-push.ensures.items in
    let wrong : IsFirstWrong program (front ++ last ∷ []) k =
    subst (λ ts. IsFirstWrong program ts k) all (c.parse-found.ensures.wrong k (search rules)) in (
      λ more. trial.goes_on front last k wrong (grind (arith, nat_tests)),
      λ some. elim (cases_lt (length front) k) [
        | inl later ↦ grind (arith, nat_tests)
        | inr sooner ↦ absurd (trial.goes_wrong front last k wrong sooner some)
      ],
    )
