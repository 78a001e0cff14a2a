use Rattle.std.proofs.Common.{◌≡◌, ◌∙◌, List, [], ◌∷◌, map, ap, refl}
use Rattle.lemmas.specs.Places.{first_position}
use Rattle.flow.specs.Cases.{entrance_model, first_mentions, key_cmp, key_of}
use Rattle.flow.specs.declared.graph.Entrance.{Entrance}
use Rattle.flow.proofs.cases.Cases.new.Goals as goal

keys_are : (cases : List Entrance) → map (λ c. key_of (entrance_model c)) cases ≡ map key_of (map entrance_model cases)
keys_are [] = refl
keys_are (c ∷ cases) = ap (λ keys. key_of (entrance_model c) ∷ keys) (keys_are cases)

pub invariant_of-result : goal.invariant_of-result
invariant_of-result c = record {
  named = c.in_ok-endpoints.ensures ∙ ap (λ cases. first_mentions [] (map entrance_model cases)) c.deref.ensures.value;
  keyed = λ k. c.in_ok-firsts.ensures k ∙ ap (λ keys. first_position key_cmp keys k) (c.deref-3.ensures.value ∙ c.in_ok-keys_of.ensures ∙ ap (map (λ c'. key_of (entrance_model c'))) c.deref-2.ensures.value ∙ keys_are c.args.list.items);
}
