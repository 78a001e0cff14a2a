use Rattle.std.proofs.Common.{ℕ, ◌≡◌, ◌<◌, ◌∙◌, List, length, Some, None, map, sym, ap, arith}
use Rattle.std.specs.Prelude.{slice_get}
use Rattle.std.specs.Option.{option_and_then, option_map}
use Rattle.std.proofs.lemmas.List.{length-map}
use Rattle.std.proofs.lemmas.List.Quantifiers.{position-Some}
use Rattle.std.proofs.lemmas.Option.{slice_get-get_or, slice_get-map}
use Rattle.lemmas.specs.Places.{first_position}
use Rattle.flow.specs.Cases.{EntranceModel, entrance_model, key_cmp, key_of}
use Rattle.flow.specs.Graphs.{cases_model}
use Rattle.flow.proofs.KeyLemmas.{case_at, is_key}
use Rattle.flow.proofs.cases.Cases.find.Goals as goal
use Rattle.flow.proofs.cases.Cases.find.Goals.{After-copied}

abbrev cases_of : After-copied → List EntranceModel
cases_of c = cases_model c.args.self.now

position_is : (c : After-copied) → c.copied.result ≡ first_position key_cmp (map key_of (cases_of c)) (c.args.endpoint.0, option_map (λ m. m.0) c.args.message)
position_is c =
    c.copied.ensures ∙ c.get.ensures.value ∙ c.args.self.now.keyed (c.args.endpoint.0, c.number_of.result)
    ∙ ap (λ m. first_position key_cmp (map key_of (cases_of c)) (c.args.endpoint.0, m)) c.number_of.ensures

pub returns-in_err-position : goal.returns-in_err-position
returns-in_err-position c =
    let before = (goal.at.returns-in_err-position c).After-copied in
    let message = option_map (λ m. m.0) c.args.message in
    ap (option_map (λ e. entrance_model e.now)) c.from_residual.ensures
    ∙ sym (case_at (cases_of before) c.args.endpoint.0 message ∙ ap (option_and_then (slice_get (cases_of before))) (sym (position_is before) ∙ c.in_err-position.was))

-- the position is within the list
within : (c : After-copied) (at : ℕ) → c.copied.result ≡ Some at → at < length c.args.self.now.list.items
within c at is =
    let found = position-Some (is_key c.args.endpoint.0 (option_map (λ m. m.0) c.args.message)) (map key_of (cases_of c)) at (0, None) (sym (position_is c) ∙ is) in
    let lt = found.0 in
    let size = length-map (cases_of c) key_of in
    let seen = length-map c.args.self.now.list.items entrance_model in
    omega (arith, lt, size, seen)

pub index-requires : goal.index-requires
index-requires c =
    let lt = within (goal.at.index-requires c).After-copied c.in_ok-position.position c.in_ok-position.was in
    let size = c.args.self.now.list.ok in
    omega (arith, lt, size.0)

pub returns : goal.returns
returns c =
    let before = (goal.at.returns c).After-copied in
    let list = c.args.self.now.list.items in
    let at = c.in_ok-position.position in
    let lt = within before at c.in_ok-position.was in
    sym (case_at (cases_of before) c.args.endpoint.0 (option_map (λ m. m.0) c.args.message)
    ∙ ap (option_and_then (slice_get (cases_of before))) (sym (position_is before) ∙ c.in_ok-position.was)
    ∙ slice_get-map entrance_model list at
    ∙ ap (option_map entrance_model) (slice_get-get_or list at c.index.result.now lt ∙ ap Some (sym c.index.ensures)))
