use Rattle.std.proofs.Common.{◌≤◌, List, length, get_or, subst, sym, ◌∙◌}
use Rattle.std.specs.Prelude.{All}
use Rattle.std.proofs.lemmas.List.{length-map}
use Rattle.std.proofs.lemmas.List.Elements.{All-map}
use Rattle.program.specs.declared.limits.TheConstants.{MOST_VARIABLES}
use Rattle.program.specs.declared.method.Role.{Role}
use Rattle.program.specs.declared.method.Role.TheVariants.{Lent, Claimed, Local}
use Rattle.program.specs.declared.method.Variable.{Variable}
use Rattle.program.specs.declared.types.HeapType.{HeapType}
use Rattle.rows.specs.Leaves.{IsNumbered}
use Rattle.rows.specs.declared.row.Leaf.{Leaf}
use Rattle.rules.specs.Endpoints.{declared_leaf}
use Rattle.rules.specs.Steps.{entry_leaf}
use Rattle.rules.proofs.stepping.first_row.Goals as goal

first_numbered : (role : Role) (ty : HeapType) → IsNumbered (declared_leaf ty) → IsNumbered (entry_leaf role ty)
first_numbered Local ty h = tt
first_numbered Lent ty h = h
first_numbered Claimed ty h = h

pub returns : goal.returns
returns c = c.from_leaves.ensures ∙ c.in_ok-leaves.ensures

pub from_leaves-requires-clause-few : goal.from_leaves-requires-clause-few
from_leaves-requires-clause-few c =
    subst (λ (leaves : List Leaf). length leaves ≤ MOST_VARIABLES) (sym c.in_ok-leaves.ensures)
    (subst (λ n. n ≤ MOST_VARIABLES) (sym (length-map c.args.variables.now (λ (v : Variable). entry_leaf v.role v.ty))) c.requires.few)

pub from_leaves-requires-clause-numbered : goal.from_leaves-requires-clause-numbered
from_leaves-requires-clause-numbered c =
    let variables = c.args.variables.now in
    subst (All IsNumbered) (sym c.in_ok-leaves.ensures)
    (All-map IsNumbered (λ (v : Variable). entry_leaf v.role v.ty) variables
    (λ k d lt. first_numbered (get_or variables k d).role (get_or variables k d).ty (c.requires.numbered k d lt)))
