use Rattle.std.proofs.Common.{◌≡◌, ◌++◌, ◌∷◌, [], ◌∙◌, ◌-◌, List, length, sym, ap, arith}
use Rattle.std.specs.Prelude.{slice_get}
use Rattle.contracts.specs.declared.arcs.Arc.{Arc}
use Rattle.contracts.proofs.RisingLemmas.{all_before, ends_in}
use Rattle.contracts.proofs.components.Search.next_end.Goals as goal
use Rattle.contracts.proofs.components.Search.next_end.Goals.{In-Some}

-- the arc that the code reads is the last one
last_is : (c : In-Some) → (rest : List Arc) × (c.args.self.now.arcs.items ≡ rest ++ c.in-Some.arc.now ∷ [])
last_is c = ends_in c.args.self.now.arcs.items c.in-Some.arc.now
    (sym (c.in-Some.ensures.value ∙ ap (λ (l : List Arc). slice_get l (length l - 1)) c.deref.ensures.value))

pub returns-in-Some-clause-some : goal.returns-in-Some-clause-some
returns-in-Some-clause-some c =
    let last = last_is (goal.at.returns-in-Some-clause-some c).In-Some in
    let reaches = c.if-arc-bound.true in
    (last.0, (c.in-Some.arc.now.from, last.1, λ b is. let le = c.requires.last b is in omega (arith, le, reaches)))

pub returns-in_default-clause-none : goal.returns-in_default-clause-none
returns-in_default-clause-none c =
    let last = last_is (goal.at.returns-in_default-clause-none c).In-Some in
    all_before c.args.self.now.arcs.items last.0 c.in-Some.arc.now c.args.bound last.1 c.requires.rise c.if-arc-bound.false
