-- New channels without mistakes.
use Rattle.std.proofs.Common.{◌≡◌, ℕ, eq-eqb, ◌==◌, ◌&&◌, ◌||◌, Bool, true, false, not, List, [], ◌∷◌, ◌++◌, sym, refl, ap, ◌∙◌, subst}
use Rattle.std.proofs.lemmas.Bool.{eqb-true}
use Rattle.std.specs.Option.{option_map_or}
use Rattle.std.specs.Prelude.{Option, None, Some, option_map, option_and_then, slice_get, IsSomeAnd}
use Rattle.source.specs.declared.token.Span.{Span}
use Rattle.tree.specs.Trees.{ClassTree, ContractTree}
use Rattle.tree.specs.declared.statement as made
use Rattle.tree.specs.declared.types as type_nodes
use Rattle.program.specs.declared.types.Side.{Side}
use Rattle.names.specs.Bodies.{channel_mistakes, ends_mistakes, is_end_of, same_end}
use Rattle.names.specs.Expressions.{variable_mistakes, type_named}
use Rattle.declarations.specs.declared.mistake.Mistake.{Mistake}
use Rattle.declarations.specs.declared.mistake.Mistake.TheVariants.{Unknown}
use Rattle.declarations.specs.declared.mistake.NameSort.TheVariants as sort
use Rattle.declarations.specs.Types.{is_block, is_silent, unless}
use Rattle.program.specs.Types.{same_side}
use Rattle.declarations.specs.Program.{Numbered, ProgramText}
use Rattle.declarations.specs.Program as items
use Rattle.names.specs.Variables as names
use Rattle.declarations.specs.declared.value_type as declared
use Rattle.declarations.specs.declared.value_type.ValueType.TheVariants as ty
use Rattle.program.specs.declared.types.HeapType.{HeapType}
use Rattle.program.specs.declared.types.HeapType.TheVariants.{Endpoint}
use Rattle.resolving.specs.Types.{contract_named, contract_number, number_at}
use Rattle.resolving.specs.Locals.{number_of, LocalFrame, mention, mention_of}
use Rattle.resolving.specs.Plain.{channel_found, channel_action, effect_of, ends_of}
use Rattle.program.specs.Scopes.{IsInScope}
use Rattle.program.specs.WellFormed.{IsEffect, Setting, are_ends}
use Rattle.wellformed.proofs.ContractLemmas.{contract_is_at}
use Rattle.wellformed.proofs.FindingLemmas.{unless_none}
use Rattle.wellformed.proofs.MentionLemmas.{block_mentioned, held_known}
use Rattle.wellformed.proofs.HeapTypeLemmas.{HasContract, HoldsEnd, contract_known, end_holds}
use Rattle.wellformed.proofs.ListLemmas.{both_none}
use Rattle.wellformed.proofs.Standing.{AreStanding, Around, IsHeld, IsKnown, last_of, scope_of}
use Rattle.lemmas.proofs.Bools.{both_true}

-- the type of an end of this contract
record IsEndType (n : ℕ) (k : declared.ValueType.ValueType) : Type 0 where
  pub side : Side
  pub is : k ≡ ty.Endpoint side n

end_type : (p : ProgramText) (n : ℕ) (k : declared.ValueType.ValueType) → IsKnown p k → (is_silent k || is_end_of n k) ≡ true → IsEndType n k
end_type p n (ty.Endpoint side m) known fits = record { side = side; is = ap (λ x. ty.Endpoint side x) (sym (eqb-true n m fits)) }
end_type p n (ty.Scalar x) known fits = cc
end_type p n (ty.Array x) known fits = cc
end_type p n (ty.Pointer x) known fits = cc
end_type p n ty.Missing known fits = absurd known
end_type p n ty.Unknown known fits = absurd known

same_number : (n : ℕ) → (n == n) ≡ true
same_number n = eq-eqb n n refl

left_of : (a b c : Bool) → (a || (b && c)) ≡ true → (a || b) ≡ true
left_of true b c h = refl
left_of false true c h = refl
left_of false false c h = cc

right_of : (a b c : Bool) → a ≡ false → (a || (b && c)) ≡ true → c ≡ true
right_of true b c quiet h = cc
right_of false true c quiet h = h
right_of false false c quiet h = cc

-- two variables that hold ends of a contract, and are different
ends_fit : (p : ProgramText) (n : ℕ) (a b : Side) (x y : HeapType) → HoldsEnd p n a x → HoldsEnd p n b y → not (is_end_of n (ty.Endpoint a n) && same_end (ty.Endpoint a n) (ty.Endpoint b n)) ≡ true
    → are_ends (contract_number p n).0 x y ≡ true
ends_fit p n a b x y left right differ =
    let k = contract_number p n in
    let apart = subst (λ z. not (z && same_side a b) ≡ true) (same_number n) differ in
    let ends = both_true (k.0 == k.0) ((k.0 == k.0) && not (same_side a b)) (same_number k.0) (both_true (k.0 == k.0) (not (same_side a b)) (same_number k.0) apart) in
    subst (λ z. are_ends k.0 z y ≡ true) (sym left.is) (subst (λ z. are_ends k.0 (Endpoint k a left.state) z ≡ true) (sym right.is) ends)

-- the contract of a known end
channel_contract : (p : ProgramText) (contract : Span) (c : Numbered ContractTree) (side : Side) → items.contract_named p contract ≡ Some c → IsKnown p (ty.Endpoint side c.0) → contract_named p contract ≡ Some (contract_number p c.0)
channel_contract p contract c side named known =
    let has : HasContract p c.0 = contract_known p c.0 side known in
    let at = contract_is_at p c.0 has.tree has.is in
    ap (λ o. option_and_then (number_at p) (option_map (λ x. x.0) o)) named ∙ ap (option_map (λ x. contract_number p c.0)) at.is

found_fits : (p : ProgramText) (class : ℕ) (s : Setting) (f : LocalFrame) (g : names.NameFrame) (n : made.NewChannel.NewChannel) (c : Numbered ContractTree) → items.contract_named p n.contract ≡ Some c
    → s.scope ≡ last_of f → AreStanding p s.variables f g → variable_mistakes (scope_of p g) n.first ≡ [] → variable_mistakes (scope_of p g) n.second ≡ []
    → ends_mistakes c.0 (type_named (scope_of p g) n.first) (type_named (scope_of p g) n.second) n.first n.second ≡ [] → IsEffect s (effect_of (channel_found p class f n))
found_fits p class s f g n c named here standing first second none =
    let a = type_named (scope_of p g) n.first in
    let b = type_named (scope_of p g) n.second in
    let known_a = held_known p s.variables f g n.first standing first in
    let known_b = held_known p s.variables f g n.second standing second in
    let other = not (is_end_of c.0 a && same_end a b) in
    let both = both_none (unless (is_silent a || is_end_of c.0 a) n.first.place _) (unless (is_silent b || (is_end_of c.0 b && other)) n.second.place _) none in
    let fits_a = unless_none _ (is_silent a || is_end_of c.0 a) n.first.place both.0 in
    let fits_b = unless_none _ (is_silent b || (is_end_of c.0 b && other)) n.second.place both.1 in
    let end_a = end_type p c.0 a known_a fits_a in
    let end_b = end_type p c.0 b known_b (left_of (is_silent b) (is_end_of c.0 b) other fits_b) in
    let differ = right_of (is_silent b) (is_end_of c.0 b) other (ap is_silent end_b.is) fits_b in
    let v = block_mentioned p s.variables f g n.first standing first (ap is_block end_a.is) in
    let w = block_mentioned p s.variables f g n.second standing second (ap is_block end_b.is) in
    let holds_v = end_holds p c.0 end_a.side v.variable.ty (subst (λ k. IsHeld p k v.variable.ty) end_a.is v.holds) in
    let holds_w = end_holds p c.0 end_b.side w.variable.ty (subst (λ k. IsHeld p k w.variable.ty) end_b.is w.holds) in
    let apart = subst (λ k. not (is_end_of c.0 k && same_end k (ty.Endpoint end_b.side c.0)) ≡ true) end_a.is (subst (λ k. not (is_end_of c.0 a && same_end a k) ≡ true) end_b.is differ) in
    let ends = ends_fit p c.0 end_a.side end_b.side v.variable.ty w.variable.ty holds_v holds_w apart in
    let contract = channel_contract p n.contract c end_a.side named (subst (IsKnown p) end_a.is known_a) in
    let mentions : channel_action p class f n (contract_number p c.0) ≡ Some (ends_of p class f n.word.place (contract_number p c.0) (mention_of n.first v.number) (mention_of n.second w.number)) =
    ap (option_and_then (λ m. option_map (ends_of p class f n.word.place (contract_number p c.0) m) (mention p.text f.locals n.second))) v.is
    ∙ ap (option_map (ends_of p class f n.word.place (contract_number p c.0) (mention_of n.first v.number))) w.is in
    let found = ap (option_and_then (channel_action p class f n)) contract ∙ mentions in
    subst (λ o. IsEffect s (effect_of o)) (sym found) (
      (subst (λ o. IsInScope s.variables o (number_of v.number)) (sym here) v.inside, subst (λ o. IsInScope s.variables o (number_of w.number)) (sym here) w.inside),
      subst (λ o. IsSomeAnd o (λ x. IsSomeAnd (slice_get s.variables w.number) (λ y. are_ends (contract_number p c.0).0 x.ty y.ty ≡ true))) (sym v.there)
          (subst (λ o. IsSomeAnd o (λ y. are_ends (contract_number p c.0).0 v.variable.ty y.ty ≡ true)) (sym w.there) ends),
    )

-- the mistakes in the ends, if the contract is declared
abbrev ends_asked : ProgramText → names.NameFrame → made.NewChannel.NewChannel → Option (Numbered ContractTree) → List Mistake
ends_asked p g n o = option_map_or (λ c. ends_mistakes c.0 (type_named (scope_of p g) n.first) (type_named (scope_of p g) n.second) n.first n.second) o (Unknown n.contract sort.Contract ∷ [])

named_fits : (p : ProgramText) (class : ℕ) (s : Setting) (f : LocalFrame) (g : names.NameFrame) (n : made.NewChannel.NewChannel) (o : Option (Numbered ContractTree)) → items.contract_named p n.contract ≡ o
    → s.scope ≡ last_of f → AreStanding p s.variables f g → variable_mistakes (scope_of p g) n.first ≡ [] → variable_mistakes (scope_of p g) n.second ≡ []
    → ends_asked p g n o ≡ [] → IsEffect s (effect_of (channel_found p class f n))
named_fits p class s f g n None named here standing first second none = cc
named_fits p class s f g n (Some c) named here standing first second none = found_fits p class s f g n c named here standing first second none

-- a new channel
pub channel_fits : (p : ProgramText) (t : ClassTree) (class : ℕ) (result : Option type_nodes.Type.Type) (s : Setting) (f : LocalFrame) (g : names.NameFrame) (n : made.NewChannel.NewChannel)
    → Around p t class result s → s.scope ≡ last_of f → AreStanding p s.variables f g → channel_mistakes (scope_of p g) n.contract n.first n.second ≡ [] → IsEffect s (effect_of (channel_found p class f n))
channel_fits p t class result s f g n around here standing none =
    let named = items.contract_named p n.contract in
    let ends = ends_asked p g n named in
    let both = both_none ends (variable_mistakes (scope_of p g) n.first ++ variable_mistakes (scope_of p g) n.second) none in
    let halves = both_none (variable_mistakes (scope_of p g) n.first) (variable_mistakes (scope_of p g) n.second) both.1 in
    named_fits p class s f g n named refl here standing halves.0 halves.1 both.0
