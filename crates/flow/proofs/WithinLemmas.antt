-- What is laid below a bound continues below it.
use Rattle.std.proofs.Common.{ℕ, Bool, true, false, ◌+◌, ◌<◌, ◌≤◌, List, [], ◌∷◌, ◌++◌, length, length-append, arith, Option, None, Some, if◌then◌else◌}
use Rattle.std.specs.List.{All}
use Rattle.std.proofs.lemmas.List.Elements.{All-nil, All-cons, All-append}
use Rattle.source.specs.declared.place.Place.{Place}
use Rattle.program.specs.Methods.{MethodModel}
use Rattle.program.specs.Statements.{CallModel, NewModel, SendModel}
use Rattle.program.specs.declared.number.VarId.{VarId}
use Rattle.program.specs.declared.statement.Action.TheVariants.{Use}
use Rattle.program.specs.declared.statement.Effect.{Effect}
use Rattle.program.specs.declared.statement.Effect.TheVariants as effects
use Rattle.program.specs.declared.statement as made
use Rattle.program.specs.declared.statement.Mention.{Mention}
use Rattle.program.specs.declared.statement.Ways.{Ways}
use Rattle.program.specs.declared.statement.Ways.TheVariants as ways_of
use Rattle.flow.specs.Graphs.{Instruction, Act, New, Send, Branch, Forget, Call, Start, Return, Stop}
use Rattle.flow.specs.Lowering.{Laid, Lays, nothing, one, both, go_to, branches, parts, turns, reads, forgets, lay_call, lay_effect, lay_start, made_new, lay_send, ending}
use Rattle.flow.specs.Within.{goes_on}

-- an instruction continues below a bound
abbrev pub IsBelow : ℕ → Instruction → Type 0
IsBelow n i = All (λ p. p < n) (goes_on i)

-- a laid piece begins below a bound, and its instructions continue below it
pub record AllBelow (n : ℕ) (laid : Laid) : Type 0 where
  pub begins : laid.entry < n
  pub within : All (IsBelow n) laid.instructions

-- `AllBelow` holds if everything is laid below the bound and the method continues below it
pub record StaysBelow (n : ℕ) (a : Lays) : Type 0 where
  pub stays : (from next : ℕ) → next < n → from + length (a from next).instructions ≤ n → AllBelow n (a from next)

-- a list of one point below the bound
one_point : (n point : ℕ) → point < n → All (λ p. p < n) (point ∷ [])
one_point n point h = All-cons (λ p. p < n) point [] h (All-nil (λ p. p < n))

-- nothing is laid
pub nothing_stays : (n : ℕ) → StaysBelow n nothing
nothing_stays n = record { stays = λ from next h fits. record { begins = h; within = All-nil (IsBelow n) } }

-- one instruction
pub one_stays : (n : ℕ) (f : ℕ → Instruction) → ((next : ℕ) → next < n → IsBelow n (f next)) → StaysBelow n (one f)
one_stays n f below = record {
  stays = λ from next h fits. record { begins = omega arith; within = All-cons (IsBelow n) (f next) [] (below next h) (All-nil (IsBelow n)) };
}

-- the first piece and then the second
pub both_stay : (n : ℕ) (a b : Lays) → StaysBelow n a → StaysBelow n b → StaysBelow n (both a b)
both_stay n a b first second = record {
  stays = λ from next h fits.
      let behind = b from next in
      let more = a (from + length behind.instructions) behind.entry in
      let long = length-append behind.instructions more.instructions in
      let under : AllBelow n behind = second.stays from next h (omega arith) in
      let top : AllBelow n more = first.stays (from + length behind.instructions) behind.entry under.begins (omega arith) in
      record { begins = top.begins; within = All-append (IsBelow n) behind.instructions more.instructions under.within top.within };
}

-- a piece that continues at a point below the bound
pub gone_stays : (n to : ℕ) (a : Lays) → to < n → StaysBelow n a → StaysBelow n (go_to to a)
gone_stays n to a h s = record { stays = λ from next ignored fits. s.stays from to h fits }

-- a condition's Branch
branch_below : (n : ℕ) (place : Place) (w : Ways) (inside past : ℕ) → inside < n → past < n → IsBelow n (Branch place (branches w inside past))
branch_below n place ways_of.Either inside past i p = All-cons (λ q. q < n) inside (past ∷ []) i (one_point n past p)
branch_below n place ways_of.Body inside past i p = one_point n inside i
branch_below n place ways_of.Past inside past i p = one_point n past p

-- a condition that goes one of two ways
pub parts_stay : (n : ℕ) (place : Place) (w : Ways) (body otherwise : Lays) → StaysBelow n body → StaysBelow n otherwise → StaysBelow n (parts place w body otherwise)
parts_stay n place w body otherwise inner outer = record {
  stays = λ from next h fits.
      let other = otherwise from next in
      let first = body (from + length other.instructions) next in
      let branch = Branch place (branches w first.entry other.entry) in
      let long = length-append other.instructions (first.instructions ++ branch ∷ []) in
      let tail = length-append first.instructions (branch ∷ []) in
      let under : AllBelow n other = outer.stays from next h (omega arith) in
      let top : AllBelow n first = inner.stays (from + length other.instructions) next h (omega arith) in
      record {
        begins = omega arith;
        within = All-append (IsBelow n) other.instructions (first.instructions ++ branch ∷ []) under.within
            (All-append (IsBelow n) first.instructions (branch ∷ []) top.within
            (All-cons (IsBelow n) branch [] (branch_below n place w first.entry other.entry top.begins under.begins) (All-nil (IsBelow n))));
      };
}

-- a loop stays below a bound if its body does, whatever points below it the body is given
pub turns_stay : (n : ℕ) (place : Place) (w : Ways) (test : Lays) (body : ℕ → ℕ → Lays) → StaysBelow n test → ((exit again : ℕ) → exit < n → again < n → StaysBelow n (body exit again)) → StaysBelow n (turns place w test body)
turns_stay n place w test body asks inner = record {
  stays = λ from next h fits.
      let head = test (from + 1) from in
      let inside = body next head.entry (from + 1 + length head.instructions) head.entry in
      let long = length-append head.instructions inside.instructions in
      let under : AllBelow n head = asks.stays (from + 1) from (omega arith) (omega arith) in
      let top : AllBelow n inside = (inner next head.entry h under.begins).stays (from + 1 + length head.instructions) head.entry under.begins (omega arith) in
      record {
        begins = under.begins;
        within = All-cons (IsBelow n) (Branch place (branches w inside.entry next)) (head.instructions ++ inside.instructions) (branch_below n place w inside.entry next top.begins h)
            (All-append (IsBelow n) head.instructions inside.instructions under.within top.within);
      };
}

-- a Use for each mention
pub reads_stay : (n : ℕ) (ms : List Mention) → StaysBelow n (reads ms)
reads_stay n [] = nothing_stays n
reads_stay n (m ∷ ms) = both_stay n (one (Act (Use m))) (reads ms) (one_stays n (Act (Use m)) (one_point n)) (reads_stay n ms)

-- variables go out of scope, if there are some
pub forgets_stay : (n : ℕ) (f : Option made.Forget.Forget) → StaysBelow n (forgets f)
forgets_stay n None = nothing_stays n
forgets_stay n (Some f) = one_stays n (Forget f) (one_point n)

-- a Return and a Stop continue nowhere
pub return_stays : (n : ℕ) (place : Place) (value : Option Mention) (scope : Option VarId) → StaysBelow n (one (λ next. Return place value scope))
return_stays n place value scope = one_stays n (λ next. Return place value scope) (λ next h. All-nil (λ p. p < n))

pub stop_stays : (n : ℕ) (place : Place) → StaysBelow n (one (λ next. Stop place))
stop_stays n place = one_stays n (λ next. Stop place) (λ next h. All-nil (λ p. p < n))

one_of : (b : Bool) (n : ℕ) (place : Place) (scope : Option VarId) → StaysBelow n (one (λ next. if b then Stop place else Return place None scope))
one_of true n place scope = stop_stays n place
one_of false n place scope = return_stays n place None scope

-- the end of a method
pub ending_stays : (n : ℕ) (m : MethodModel) → StaysBelow n (one (λ next. ending m))
ending_stays n m = one_of m.gives n m.close m.scope

-- a call and a start
pub called_stay : (n : ℕ) (c : CallModel) → StaysBelow n (lay_call c)
called_stay n c = both_stay n (reads c.reads) (both (one (Call c.place c.method c.arguments c.target)) (reads c.behind)) (reads_stay n c.reads)
    (both_stay n (one (Call c.place c.method c.arguments c.target)) (reads c.behind) (one_stays n (Call c.place c.method c.arguments c.target) (one_point n)) (reads_stay n c.behind))

pub started_stay : (n : ℕ) (c : CallModel) → StaysBelow n (lay_start c)
started_stay n c = both_stay n (reads c.reads) (one (Start c.place c.method c.arguments)) (reads_stay n c.reads) (one_stays n (Start c.place c.method c.arguments) (one_point n))

-- a send
pub sent_stays : (n : ℕ) (s : SendModel) → StaysBelow n (lay_send s)
sent_stays n s = both_stay n (reads s.reads) (one (Send s.place s.endpoint s.message s.payloads)) (reads_stay n s.reads) (one_stays n (Send s.place s.endpoint s.message s.payloads) (one_point n))

-- a new block
pub new_stays : (n : ℕ) (x : NewModel) → StaysBelow n (made_new x)
new_stays n x = both_stay n (reads x.reads) (one (New x.target x.arguments)) (reads_stay n x.reads) (one_stays n (New x.target x.arguments) (one_point n))

-- the effect of a simple statement
pub effect_stays : (n : ℕ) (does : Effect) (exit again : ℕ) → exit < n → again < n → StaysBelow n (lay_effect does exit again)
effect_stays n effects.Nothing exit again e a = nothing_stays n
effect_stays n (effects.Act action) exit again e a = one_stays n (Act action) (one_point n)
effect_stays n (effects.Break f) exit again e a = gone_stays n exit (forgets f) e (forgets_stay n f)
effect_stays n (effects.Continue f) exit again e a = gone_stays n again (forgets f) a (forgets_stay n f)
effect_stays n (effects.Return place value scope) exit again e a = return_stays n place value scope
