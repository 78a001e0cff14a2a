use Rattle.std.proofs.Common.{◌≡◌, ◌∙◌, ℕ, ◌+◌, ◌-◌, Some, get_or, ap, length, refl, set, take, arith}
use Rattle.std.proofs.lemmas.List.{get_or-set_same}
use Rattle.rules.specs.Programs.{model_of}
use Rattle.machine.specs.declared.worlds.Frame.{Frame}
use Rattle.machine.proofs.ReturnLemmas.{err_holds, goes_back, same_waiting}
use Rattle.machine.proofs.returning.end.Goals as goal

pub returns-in_err-give_back-clause-same : goal.returns-in_err-give_back-clause-same
returns-in_err-give_back-clause-same c =
    let ws = c.args.stack.now.waiting.items in
    let many : c.in-Some.last + 1 ≡ length ws = omega (arith, c.in-Some.ensures, c.args.stack.now.waiting.ok) in
    err_holds c.from_residual.result _
    (same_waiting c.args.stack.now.top ws c.in-Some.last c.index_mut-caller.result.now c.give_back.new.caller many c.index_mut-caller.ensures.value
    c.in_err-give_back.ensures.same)

pub returns-clause-tells : goal.returns-clause-tells
returns-clause-tells c = λ bound w is.
    let ws = c.args.stack.now.waiting.items in
    let n = c.in-Some.last in
    let h = c.give_back.new.caller in
    let d : Frame = record { method = h.method; point = c.behind_call-behind.result.next; variables = h.variables } in
    let many : n + 1 ≡ length ws = omega (arith, c.in-Some.ensures, c.args.stack.now.waiting.ok) in
    let size : c.args.stack.now.waiting.len - 1 ≡ n = omega (arith, c.args.stack.now.waiting.ok) in
    let now : c.pop.result ≡ Some d =
    c.pop.ensures.value d (omega (arith, c.args.stack.now.waiting.ok))
    ∙ (ap (λ (k : ℕ). Some (get_or (set ws n d) k d)) size ∙ ap (λ (x : Frame). Some x) (get_or-set_same ws n d d (omega arith))) in
    let left : c.pop.new.self.items ≡ take n (set ws n d) = c.pop.ensures.rest ∙ ap (λ (k : ℕ). take k (set ws n d)) size in
    goes_back (model_of c.args.turn.now.program.now) bound w c.args.turn.now.process c.args.value c.behind_call-behind.result.target c.args.stack.now.top c.pop.result ws c.pop.new.self.items n
    c.behind_call-behind.result.next c.index_mut-caller.result.now h d _ c.requires.top many c.index_mut-caller.ensures.value
    c.in_ok-give_back.ensures.given c.behind_call-behind.ensures.target c.behind_call-behind.ensures.next refl left now is
