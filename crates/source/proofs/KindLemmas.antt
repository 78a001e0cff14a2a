-- Each kind is in the list of all.
use Rattle.std.proofs.Common.{◌≡◌, true, refl, rules}
use Rattle.std.specs.List.{Contains, list_any}
use Rattle.std.proofs.lemmas.Map.Views.{Contains-from_any}
use Rattle.source.specs.declared.kind.Kind.{Kind}
use Rattle.source.specs.declared.kind.Kind.TheVariants.{Name}
use Rattle.source.specs.declared.kinds.TheConstants.{ALL_KINDS}
use Rattle.source.specs.contracts.kind.Kind.{the_type}
use denote.Enum.Bare.{sameb, same_true}

is_listed : (kind : Kind) → list_any (sameb the_type kind) ALL_KINDS ≡ true
is_listed Name = refl
is_listed _ = refl

pub every_kind : (kind : Kind) → Contains ALL_KINDS kind
every_kind kind = Contains-from_any (same_true the_type (search rules)) kind ALL_KINDS (is_listed kind)
