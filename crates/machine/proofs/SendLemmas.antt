-- A send whose tests pass.
use Rattle.std.proofs.Common.{◌≡◌, ℕ, List, [], ◌∷◌, ◌++◌, true, Some, sym, ap, ◌∙◌, subst}
use Rattle.std.specs.Prelude.{Option}
use Rattle.program.specs.Programs.{ProgramModel}
use Rattle.program.specs.declared.statement.Mention.{Mention}
use Rattle.machine.specs.Answers.{Pass}
use Rattle.machine.specs.Blocks.{argument_tests, send_tests}
use Rattle.machine.specs.Frames.{address, payloads_claimed}
use Rattle.machine.specs.Outcomes.{QueueBounds, Moved, test, after_tests}
use Rattle.machine.specs.World.{Block, World, is_own, read}
use Rattle.machine.specs.declared.halts.Fault.TheVariants.{F1}
use Rattle.machine.proofs.CallLemmas.{pass_alone}
use Rattle.machine.proofs.GiveLemmas.{passes}

-- the outcome is the world after the send; b, c and d are the blocks as the tests of the endpoint, of the payloads
-- and of the send read them
pub send_moves : (p : ProgramModel) (bound : QueueBounds) (bs b c d : List Block) (self : ℕ) (variables : List (Option ℕ)) (e : ℕ) (x : Option ℕ) (at m : ℕ) (payloads sent : List Mention) (v : World)
    → bs ≡ b → bs ≡ c → bs ≡ d → sent ≡ payloads
    → x ≡ read variables e → x ≡ Some at → is_own b self x ≡ true
    → Pass (argument_tests c self variables [] (payloads_claimed sent)) → Pass (send_tests p bound d at m)
    → after_tests (test (is_own bs self (read variables e)) F1
    ∷ (argument_tests bs self variables [] (payloads_claimed payloads) ++ send_tests p bound bs (address (read variables e)) m)) (Moved v) ≡ Moved v
send_moves p bound bs b c d self variables e x at m payloads sent v first second third same has some own pass_given pass_sent =
    let arguments = argument_tests bs self variables [] (payloads_claimed payloads) in
    let sends = send_tests p bound bs (address (read variables e)) m in
    let own_now : is_own bs self (read variables e) ≡ true = ap (λ l. is_own l self (read variables e)) first ∙ (ap (is_own b self) (sym has) ∙ own) in
    let here : at ≡ address (read variables e) = sym (ap address (sym has ∙ some)) in
    let given : Pass arguments = subst (λ l. Pass (argument_tests bs self variables [] (payloads_claimed l))) same
    (subst (λ l. Pass (argument_tests l self variables [] (payloads_claimed sent))) (sym second) pass_given) in
    let sent_now : Pass sends = subst (λ n. Pass (send_tests p bound bs n m)) here
    (subst (λ l. Pass (send_tests p bound l at m)) (sym third) pass_sent) in
    passes (is_own bs self (read variables e)) F1 (arguments ++ sends) (Moved v) own_now ∙ (given sends (Moved v) ∙ pass_alone sends (Moved v) sent_now)
