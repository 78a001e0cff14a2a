-- Calls and starts as statements, and returns, without mistakes.
use Rattle.std.proofs.Common.{◌≡◌, ℕ, ◌&&◌, Bool, true, false, not, [], ◌∷◌, sym, refl, subst, ◌⊎◌, inl, inr}
use Rattle.std.specs.Option.{option_map_or}
use Rattle.std.specs.Prelude.{Option, None, Some, is_some, option_map, IsSomeAnd}
use Rattle.source.specs.declared.token.Span.{Span}
use Rattle.tree.specs.Expressions.{ExpressionTree}
use Rattle.tree.specs.StatementTrees as stated
use Rattle.tree.specs.Trees.{ClassTree}
use Rattle.tree.specs.Values.{CallTree}
use Rattle.tree.specs.declared.types as tree
use Rattle.names.specs.Bodies.{return_mistakes, plain_turn}
use Rattle.names.specs.Expressions.{whole_mistakes}
use Rattle.declarations.specs.declared.mistake.Mismatch.TheVariants.{ValueReturned}
use Rattle.declarations.specs.declared.mistake.Mistake.TheVariants.{WrongType}
use Rattle.declarations.specs.Types.{is_block, type_meant, type_unknown}
use Rattle.declarations.specs.Program.{ProgramText}
use Rattle.names.specs.Shapes.{shape}
use Rattle.declarations.specs.Owning.{any_lent, can_start}
use Rattle.names.specs.Variables as names
use Rattle.program.specs.Statements as seen
use Rattle.program.specs.declared.statement.Effect.TheVariants as effects
use Rattle.resolving.specs.Types.{result_held, state_in, type_held}
use Rattle.resolving.specs.Locals.{LocalFrame}
use Rattle.resolving.specs.Methods.{method_told}
use Rattle.resolving.specs.Plain.{call_of, call_statement, lone, return_statement, start_statement, stated_call}
use Rattle.program.specs.WellFormed.{IsStartOf, IsStatement, IsTaken, Setting}
use Rattle.wellformed.proofs.ArgumentLemmas.{IsAsked, asked_block, asked_known, asked_scalar}
use Rattle.wellformed.proofs.CallLemmas.{CallsMethod, call_means, call_of_fits, method_there}
use Rattle.wellformed.proofs.ExpressionLemmas.{reads_within}
use Rattle.wellformed.proofs.FindingLemmas.{none_said}
use Rattle.wellformed.proofs.SendLemmas.{SendsMessage}
use Rattle.wellformed.proofs.HeapTypeLemmas.{Holding, block_holds, scalar_holds, type_known}
use Rattle.wellformed.proofs.ProgramLemmas.{all_claimed, parameters_clean}
use Rattle.wellformed.proofs.ListLemmas.{both_none}
use Rattle.wellformed.proofs.Standing.{AreStanding, Around, IsKnown, last_of, scope_of}
use Rattle.wellformed.proofs.ValueLemmas.{alone_call, by_none, gives_none, no_send}

-- a call as a statement, of a method or a send
stated_by : (p : ProgramText) (t : ClassTree) (class : ℕ) (result : Option tree.Type.Type) (s : Setting) (f : LocalFrame) (g : names.NameFrame) (c : CallTree) (alone : Bool) → Around p t class result s → AreStanding p s.variables f g
    → CallsMethod p class f g (λ m. gives_none p m.result ≡ true) c ⊎ ((alone ≡ true) × SendsMessage p class s f c) → IsStatement s (stated_call p class f c)
stated_by p t class result s f g c alone around standing (inl x) =
    subst (λ o. IsStatement s (option_map_or seen.Send o (call_statement p class f c None []))) (sym x.no_send) (alone_call p t class result s f g c around standing x)
stated_by p t class result s f g c alone around standing (inr x) = subst (λ o. IsStatement s (option_map_or seen.Send o (call_statement p class f c None []))) (sym x.1.is) x.1.fits

pub call_stated_fits : (p : ProgramText) (t : ClassTree) (class : ℕ) (result : Option tree.Type.Type) (s : Setting) (f : LocalFrame) (g : names.NameFrame) (c : CallTree)
    → Around p t class result s → AreStanding p s.variables f g → (plain_turn (record { program = p; class = t; result = result; breaks = false; continues = false }) (stated.Call c) g).found ≡ [] → IsStatement s (stated_call p class f c)
call_stated_fits p t class result s f g c around standing none =
    stated_by p t class result s f g c _ around standing (call_means p t class result s f g _ c around standing none (λ m. gives_none p m.result ≡ true) (λ m name starts F same fits. by_none p F m.result fits (λ x. same (Some x))))

-- a method that can be started is void, and no parameter of it is lent
both_not : (a b : Bool) → (not a && not b) ≡ true → (a ≡ false) × (b ≡ false)
both_not false false h = (refl, refl)
both_not false true h = cc
both_not true b h = cc

pub void_gives : (p : ProgramText) (result : Option tree.Type.Type) → is_some result ≡ false → result_held p result ≡ None
void_gives p None void = refl
void_gives p (Some t) void = cc

-- a start
pub start_fits : (p : ProgramText) (t : ClassTree) (class : ℕ) (result : Option tree.Type.Type) (s : Setting) (f : LocalFrame) (g : names.NameFrame) (c : CallTree)
    → (word : Span) → Around p t class result s → AreStanding p s.variables f g → (plain_turn (record { program = p; class = t; result = result; breaks = false; continues = false }) (stated.Start word c) g).found ≡ [] → IsStatement s (start_statement p class f c)
start_fits p t class result s f g c word around standing none =
    let x = no_send p class s f g (λ m. can_start m ≡ true) c _ (call_means p t class result s f g _ c around standing none (λ m. can_start m ≡ true) (λ m name starts F same fits. none_said (can_start m) _ starts)) refl in
    let free = both_not (is_some x.method.result) (any_lent x.method.params) x.fits in
    let call = call_of_fits p t class result s f g c None [] (λ m. can_start m ≡ true) around standing x (subst (λ o. IsTaken s o None) (sym (void_gives p x.method.result free.0)) tt, tt) tt in
    let starts : IsStartOf s (call_of p class f c None [] (record { number = x.number; method = x.method })) (method_told p x.told.class x.method) = record { call = call; void = free.0; claimed = all_claimed p x.told.class x.method (parameters_clean p x.method x.number around.clean x.told) free.1 } in
    subst (λ o. IsStatement s (option_map_or seen.Start (option_map (call_of p class f c None []) o) (seen.Simple [] effects.Nothing))) (sym x.is)
    (subst (λ o. IsSomeAnd o (IsStartOf s (call_of p class f c None [] (record { number = x.number; method = x.method })))) (sym (method_there p t class result s x.method x.number around x.told)) starts)

-- a return of nothing
empty_fits : (p : ProgramText) (s : Setting) (g : names.NameFrame) (result : Option tree.Type.Type) (word : Span) → s.result ≡ result_held p result → return_mistakes (scope_of p g) result word None ≡ [] → IsTaken s s.result None
empty_fits p s g None word is none = subst (λ o. IsTaken s o None) (sym is) tt
empty_fits p s g (Some t) word is none = cc

-- a return of a value
given_fits : (p : ProgramText) (class : ℕ) (s : Setting) (f : LocalFrame) (g : names.NameFrame) (t : tree.Type.Type) (e : ExpressionTree) (b : Bool) → is_block (type_meant p t) ≡ b → AreStanding p s.variables f g → IsKnown p (type_meant p t)
    → IsAsked p g (type_meant p t) e → IsTaken s (type_held p t) (lone p class f e)
given_fits p class s f g t e false scalar standing known asked =
    subst (λ o. IsTaken s o (lone p class f e)) (sym (scalar_holds p (type_meant p t) (state_in t) scalar)) (subst (λ o. IsTaken s None o) (sym (asked_scalar p class s.variables f g standing (type_meant p t) e asked scalar)) tt)
given_fits p class s f g t e true block standing known asked =
    let h : Holding p (type_meant p t) (state_in t) = block_holds p (type_meant p t) (state_in t) known block in
    let x = asked_block p class s f g standing (type_meant p t) h.held e asked block (record { state = state_in t; is = h.is }) in
    subst (λ o. IsTaken s o (lone p class f e)) (sym h.is) (subst (λ o. IsTaken s (Some h.held) o) (sym x.is) x.holds)

value_returned : (p : ProgramText) (class : ℕ) (s : Setting) (f : LocalFrame) (g : names.NameFrame) (result : Option tree.Type.Type) (word : Span) (e : ExpressionTree) → s.result ≡ result_held p result → option_map_or (type_unknown p) result [] ≡ []
    → AreStanding p s.variables f g → return_mistakes (scope_of p g) result word (Some e) ≡ [] → IsTaken s s.result (lone p class f e)
value_returned p class s f g None word e is known standing none =
    let lost = (both_none (whole_mistakes (scope_of p g) (shape e)) (WrongType word.place ValueReturned ∷ []) none).1 in
    cc
value_returned p class s f g (Some t) word e is known standing none =
    let sure = type_known p t known in
    subst (λ o. IsTaken s o (lone p class f e)) (sym is) (given_fits p class s f g t e (is_block (type_meant p t)) refl standing sure (asked_known p s.variables f g standing (type_meant p t) e sure none))

pub return_fits : (p : ProgramText) (t : ClassTree) (class : ℕ) (result : Option tree.Type.Type) (s : Setting) (f : LocalFrame) (g : names.NameFrame) (word : Span) (value : Option ExpressionTree)
    → Around p t class result s → AreStanding p s.variables f g → s.scope ≡ last_of f → return_mistakes (scope_of p g) result word value ≡ []
    → IsStatement s (return_statement p class f word.place value)
return_fits p t class result s f g word None around standing here none =
    (tt, (empty_fits p s g result word around.result_is none, sym here))
return_fits p t class result s f g word (Some e) around standing here none =
    (reads_within p s.variables f g standing e, (value_returned p class s f g result word e around.result_is around.result_known standing none, sym here))
