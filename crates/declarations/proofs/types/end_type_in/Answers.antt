use Rattle.std.proofs.Common.{◌≡◌, true, false, sym, ap, ◌∙◌}
use Rattle.std.specs.Prelude.{is_some, if◌then◌else◌}
use Rattle.declarations.specs.Declarations.{is_declared, names_of_states, states_of}
use Rattle.tables.specs.Firsts.{first_of}
use Rattle.tables.specs.Words.{words_at}
use Rattle.declarations.specs.declared.value_type.ValueType.TheVariants as ty
use Rattle.declarations.proofs.types.end_type_in.Goals as goal

pub returns-in-Some : goal.returns-in-Some
returns-in-Some c = λ contract h.
    let text = c.args.text.now in
    let words = words_at text (names_of_states (states_of contract)) in
    let found = c.find.ensures words h.states ∙ ap (first_of words) c.slice.ensures in
    let some : is_declared text (names_of_states (states_of contract)) c.args.state ≡ true = sym (ap is_some found) ∙ ap is_some c.in-Some.is in
    sym (ap (λ b. if b then ty.Endpoint c.args.side c.args.index else ty.Unknown) some)

pub returns-in-None : goal.returns-in-None
returns-in-None c = λ contract h.
    let text = c.args.text.now in
    let words = words_at text (names_of_states (states_of contract)) in
    let found = c.find.ensures words h.states ∙ ap (first_of words) c.slice.ensures in
    let none : is_declared text (names_of_states (states_of contract)) c.args.state ≡ false = sym (ap is_some found) ∙ ap is_some c.in-None.is in
    sym (ap (λ b. if b then ty.Endpoint c.args.side c.args.index else ty.Unknown) none)
