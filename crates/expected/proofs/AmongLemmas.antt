-- Which kinds a list has.
use Rattle.std.proofs.Common.{◌≡◌, Bool, true, false, List, refl, sym, ap, rules}
use Rattle.std.specs.Cmp.{IsEquivalence}
use Rattle.std.specs.List.{Contains, list_any}
use Rattle.std.proofs.lemmas.Map.Views.{Contains-from_any, list_any-from_Contains}
use Rattle.source.specs.declared.kind.Kind.{Kind}
use Rattle.source.specs.contracts.kind.Kind.{the_type}
use denote.Enum.Bare.{sameb, same_true, true_same}

abbrev pub is_among : List Kind → Kind → Bool
is_among kinds kind = list_any (sameb the_type kind) kinds

pub among : (kinds : List Kind) (kind : Kind) → is_among kinds kind ≡ true → Contains kinds kind
among kinds kind h = Contains-from_any (same_true the_type (search rules)) kind kinds h

same_flags : (a b : Bool) → (a ≡ true → b ≡ true) → (b ≡ true → a ≡ true) → a ≡ b
same_flags true b there back = sym (there refl)
same_flags false true there back = back refl
same_flags false false there back = refl

swapped : (x y : Kind) → sameb the_type x y ≡ true → sameb the_type y x ≡ true
swapped x y e = true_same the_type y x (sym (same_true the_type (search rules) x y e))

same_kinds : IsEquivalence (sameb the_type)
same_kinds = record {
  refl = λ x. true_same the_type x x refl;
  symm = λ x y. same_flags (sameb the_type x y) (sameb the_type y x) (swapped x y) (swapped y x);
  congr = λ x y z e. ap (λ k. sameb the_type k z) (same_true the_type (search rules) x y e);
}

pub is_in : (kinds : List Kind) (kind : Kind) → Contains kinds kind → is_among kinds kind ≡ true
is_in kinds kind h = list_any-from_Contains same_kinds kind kinds h
