use Rattle.std.proofs.Common.{◌≤◌, length, sym, subst, ◌∙◌, below_more}
use Rattle.rules.specs.Sites.{method_of, row_of}
use Rattle.rules.proofs.KeptLemmas.{none_kept, nothing_there}
use Rattle.rules.proofs.scopes.first_of_all.Goals as goal
use Rattle.rules.proofs.scopes.first_of_all.Goals.{else-is_something-via-then-is_something+else-is_kept, else-is_something-via-else-is_something}

pub loop-number-preserved : goal.loop-number-preserved
loop-number-preserved c =
    below_more _ _ c.loop-number.invariant (elim c.else-is_something.branch [
      | else-is_something-via-then-is_something+else-is_kept w ↦ sym w.is_kept.ensures ∙ w.if-is_kept.false
      | else-is_something-via-else-is_something w ↦
          nothing_there (method_of c.args.here.now) (row_of c.args.here.now) c.args.given c.leaves-leaf-items.result.now c.loop-number.number _ c.leaves-leaf-items.ensures.leaves c.loop-number-test.true
          (sym c.is_something.ensures ∙ w.if-is_something.false)
    ])

pub returns-clause-none : goal.returns-clause-none
returns-clause-none c = λ none.
    none_kept (method_of c.args.here.now) (row_of c.args.here.now) c.args.given c.loop-number.number
    (subst (λ leaves. length leaves ≤ c.loop-number.number) c.leaves-leaf-items.ensures.leaves c.loop-number-test.false) c.loop-number.invariant
