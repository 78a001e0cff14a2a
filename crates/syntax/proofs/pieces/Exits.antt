-- The exit of a `?` in a function that reads a part.
use Rattle.std.proofs.Common.{◌≡◌, Bool, List, Result, Err, sym, ap, ◌∙◌, subst}
use Rattle.std.specs.Result.{IsErrAnd}
use Rattle.std.proofs.lemmas.Result.{err_from_is_err_and}
use Rattle.tree.specs.Symbols.{Symbol}
use Rattle.syntax.specs.Reading.{Fails, Reads, AtFault}
use Rattle.syntax.specs.declared.cursor.Stuck.{Stuck}
use Rattle.syntax.specs.declared.cursor.Stuck.TheVariants.{Unexpected, Memory}

at_fault : (e : Stuck) (P Q : Type 0) → (P → Q) → AtFault e P → AtFault e Q
at_fault Unexpected P Q f p = f p
at_fault Memory P Q f p = tt

-- the fault of a callee, passed on
pub exits : {X Y : Type 0} (view : X → Y) (spell : Y → List Symbol) (on : Symbol → Bool) (at : Y → Symbol → Bool) (old new : List Symbol) (r : Result X Stuck) (e : Stuck) (P : Type 0) → IsErrAnd r (λ y. y ≡ e) → AtFault e P → (P → Fails spell on old new) → Reads view spell on at old new r
exits view spell on at old new r e P is told f =
    let p = err_from_is_err_and r is in
    subst (Reads view spell on at old new) (sym (p.1 ∙ ap Err p.2)) (at_fault e P (Fails spell on old new) f told)
