-- Calls without mistakes.
use Rattle.std.proofs.Common.{◌≡◌, ℕ, Bool, true, List, [], ◌∷◌, ◌++◌, length, map, if◌then◌else◌, sym, refl, ap, ◌∙◌, subst, ◌⊎◌, inl, inr}
use Rattle.std.proofs.lemmas.List.{length-map}
use Rattle.std.specs.List.{flat_map}
use Rattle.std.specs.Prelude.{Option, None, Some, is_some, option_map, option_and_then, slice_get, IsSomeAnd}
use Rattle.source.specs.declared.token.Span.{Span}
use Rattle.tree.specs.Expressions.{ExpressionTree}
use Rattle.tree.specs.Trees.{ClassTree, MethodTree}
use Rattle.tree.specs.Values.{CallTree}
use Rattle.tree.specs.declared.types as tree
use Rattle.names.specs.Expressions.{variable_mistakes}
use Rattle.declarations.specs.declared.mistake.Mistake.TheVariants.{Unknown}
use Rattle.declarations.specs.declared.mistake.NameSort.TheVariants as sort
use Rattle.declarations.specs.declared.mistake.Mismatch.TheVariants.{Given}
use Rattle.declarations.specs.Types.{unless, type_meant}
use Rattle.declarations.specs.Program.{ProgramText, Numbered, as_class, class_named, item_at}
use Rattle.names.specs.Shapes.{shape}
use Rattle.names.specs.Values.{demand_of, result_type, argument_mistakes, call_mistakes, class_mistakes, front_mistakes, is_alone, member_mistakes, method_mistakes, number_of_arguments, result_fits, start_mistakes}
use Rattle.declarations.specs.Named.{method_named}
use Rattle.names.specs.Variables as names
use Rattle.names.specs.Variables.{variable_named}
use Rattle.program.specs.declared.statement.Mention.{Mention}
use Rattle.resolving.specs.Callees.{callee, front_callee, member_callee}
use Rattle.resolving.specs.Types.{result_held}
use Rattle.resolving.specs.Locals.{Local, LocalFrame, local_named}
use Rattle.resolving.specs.Messages.{contract_of, end_contract, message_sent}
use Rattle.resolving.specs.Methods.{method_told}
use Rattle.resolving.specs.Plain.{call_of, send_told, send_for, sent_by}
use Rattle.program.specs.Lists.{Each}
use Rattle.program.specs.WellFormed.{Setting, IsCallOf, IsMention, IsTarget, parameters}
use Rattle.wellformed.proofs.ArgumentLemmas.{arguments_given, given_parameters, reads_mentioned}
use Rattle.wellformed.proofs.FindingLemmas.{as_many, unless_none}
use Rattle.wellformed.proofs.MentionLemmas.{held_known, variable_type}
use Rattle.wellformed.proofs.ListLemmas.{both_none}
use Rattle.wellformed.proofs.ProgramLemmas.{member_answers, method_answers, parameters_are, parameters_clean}
use Rattle.wellformed.proofs.ScopeLemmas.{same_named}
use Rattle.wellformed.proofs.SendLemmas.{SendsMessage, local_call}
use Rattle.wellformed.proofs.Standing.{Around, AreStanding, IsKnown, IsMethod, heading, named, scope_of}

-- a call of a method for which `Is` holds, with arguments without mistakes
pub record CallsMethod (p : ProgramText) (class : ℕ) (f : LocalFrame) (g : names.NameFrame) (Is : MethodTree → Type 0) (c : CallTree) : Type 0 where
  pub method : MethodTree
  pub number : ℕ
  pub is : callee p class f.locals c ≡ Some (record { number = number; method = method })
  pub told : IsMethod p method number
  pub many : length method.params ≡ length c.arguments
  pub given : argument_mistakes (scope_of p g) (map (λ x. type_meant p x.ty) method.params) (map shape c.arguments) ≡ []
  pub fits : Is method
  pub no_send : send_told p class f c ≡ None

-- what is known of a method that a call in this role names
record Fitting (p : ProgramText) (g : names.NameFrame) (m : MethodTree) (Is : MethodTree → Type 0) (es : List ExpressionTree) : Type 0 where
  pub many : length m.params ≡ length es
  pub given : argument_mistakes (scope_of p g) (map (λ x. type_meant p x.ty) m.params) (map shape es) ≡ []
  pub fits : Is m

fitting : (p : ProgramText) (g : names.NameFrame) (front : Option Span) (role : _) (name : Span) (m : MethodTree) (es : List ExpressionTree) (Is : MethodTree → Type 0)
    → ((n : MethodTree) → start_mistakes n role name ≡ [] → (F : Option tree.Type.Type → Bool) → ((r : Option tree.Type.Type) → F r ≡ result_fits p r role) → F n.result ≡ true → Is n)
    → method_mistakes (scope_of p g) (Some m) front role name (map shape es) ≡ [] → Fitting p g m Is es
fitting p g front role name m es Is fits none =
    let shapes = map shape es in
    let many = number_of_arguments m.params shapes name.place in
    let given = argument_mistakes (scope_of p g) (map (λ x. type_meant p x.ty) m.params) shapes in
    let starts = start_mistakes m role name in
    let result = unless (result_fits p m.result role) name.place (Given (demand_of role) (result_type p m.result)) in
    let behind = both_none many (given ++ (starts ++ result)) none in
    let last = both_none given (starts ++ result) behind.1 in
    let ends = both_none starts result last.1 in
    record {
      many = as_many m.params shapes name.place behind.0 ∙ length-map es shape;
      given = last.0;
      fits = fits m ends.0 (λ r. result_fits p r role) (λ r. refl) (unless_none _ (result_fits p m.result role) name.place ends.1);
    }

-- a call by one name
own_call : (p : ProgramText) (class : ℕ) (t : ClassTree) (f : LocalFrame) (g : names.NameFrame) (role : _) (c : CallTree) (Is : MethodTree → Type 0)
    → ((n : MethodTree) → start_mistakes n role c.name ≡ [] → (F : Option tree.Type.Type → Bool) → ((r : Option tree.Type.Type) → F r ≡ result_fits p r role) → F n.result ≡ true → Is n) → item_at as_class p class ≡ Some (class, t) → c.member ≡ None
    → (o : Option MethodTree) → method_named p.text t c.name ≡ o → method_mistakes (scope_of p g) o None role c.name (map shape c.arguments) ≡ [] → CallsMethod p class f g Is c
own_call p class t f g role c Is fits there member None found none = cc
own_call p class t f g role c Is fits there member (Some m) found none =
    let a = method_answers p class t c.name m there found in
    let x = fitting p g None role c.name m c.arguments Is fits none in
    record {
      method = m;
      number = a.number;
      is = ap (front_callee p class f.locals c.name) member ∙ a.is;
      told = a.method;
      many = x.many;
      given = x.given;
      fits = x.fits;
      no_send = ap (option_and_then (sent_by p class f c)) member;
    }

no_end : (p : ProgramText) (locals : List Local) (name : Span) → local_named p.text locals name ≡ None → end_contract p locals name ≡ None
no_end p locals name free = ap (option_and_then (λ v. contract_of v.ty)) free

-- a call by the name of a class and one of a method in it
class_call : (p : ProgramText) (class : ℕ) (f : LocalFrame) (g : names.NameFrame) (role : _) (c : CallTree) (word : Span) (Is : MethodTree → Type 0)
    → ((n : MethodTree) → start_mistakes n role word ≡ [] → (F : Option tree.Type.Type → Bool) → ((r : Option tree.Type.Type) → F r ≡ result_fits p r role) → F n.result ≡ true → Is n) → c.member ≡ Some word → local_named p.text f.locals c.name ≡ None
    → (n : ℕ) (t : ClassTree) → class_named p c.name ≡ Some (n, t)
    → (o : Option MethodTree) → method_named p.text t word ≡ o → method_mistakes (scope_of p g) o (Some c.name) role word (map shape c.arguments) ≡ [] → CallsMethod p class f g Is c
class_call p class f g role c word Is fits member free n t there None found none = cc
class_call p class f g role c word Is fits member free n t there (Some m) found none =
    let a = member_answers p c.name word n t m there found in
    let x = fitting p g (Some c.name) role word m c.arguments Is fits none in
    record {
      method = m;
      number = a.number;
      is = ap (front_callee p class f.locals c.name) member ∙ ap (λ l. member_callee p l c.name word) free ∙ a.is;
      told = a.method;
      many = x.many;
      given = x.given;
      fits = x.fits;
      no_send = ap (option_and_then (sent_by p class f c)) member ∙ ap (λ o. option_and_then (send_for p class f c word) (option_and_then (λ k. message_sent p k word) o)) (no_end p f.locals c.name free);
    }

named_call : (p : ProgramText) (class : ℕ) (f : LocalFrame) (g : names.NameFrame) (role : _) (c : CallTree) (word : Span) (Is : MethodTree → Type 0)
    → ((n : MethodTree) → start_mistakes n role word ≡ [] → (F : Option tree.Type.Type → Bool) → ((r : Option tree.Type.Type) → F r ≡ result_fits p r role) → F n.result ≡ true → Is n) → c.member ≡ Some word → local_named p.text f.locals c.name ≡ None
    → (o : Option (Numbered ClassTree)) → class_named p c.name ≡ o → class_mistakes (scope_of p g) o role c.name word (map shape c.arguments) ≡ [] → CallsMethod p class f g Is c
named_call p class f g role c word Is fits member free None there none = cc
named_call p class f g role c word Is fits member free (Some x) there none = class_call p class f g role c word Is fits member free x.0 x.1 there (method_named p.text x.1 word) refl none

-- A call without mistakes is of a method that fits its role, or a send, which is a statement of its own.
abbrev Means : ProgramText → ℕ → Setting → LocalFrame → names.NameFrame → (MethodTree → Type 0) → Bool → CallTree → Type 0
Means p class s f g Is alone c = CallsMethod p class f g Is c ⊎ ((alone ≡ true) × SendsMessage p class s f c)

member_means : (p : ProgramText) (t : ClassTree) (class : ℕ) (result : Option tree.Type.Type) (s : Setting) (f : LocalFrame) (g : names.NameFrame) (role : _) (c : CallTree) (word : Span) (Is : MethodTree → Type 0)
    → ((n : MethodTree) (name : Span) → start_mistakes n role name ≡ [] → (F : Option tree.Type.Type → Bool) → ((r : Option tree.Type.Type) → F r ≡ result_fits p r role) → F n.result ≡ true → Is n) → Around p t class result s
    → AreStanding p s.variables f g → c.member ≡ Some word → (o : Option Local) → local_named p.text f.locals c.name ≡ o → member_mistakes (scope_of p g) (option_map named o) role c.name word (map shape c.arguments) ≡ []
    → Means p class s f g Is (is_alone role) c
member_means p t class result s f g role c word Is fits around standing member None local none =
    inl (named_call p class f g role c word Is (λ n. fits n word) member local (class_named p c.name) refl none)
member_means p t class result s f g role c word Is fits around standing member (Some l) local none =
    let meant_is = ap (λ vs. variable_named p.text vs c.name) (sym standing.same) ∙ same_named p.text f.locals c.name ∙ ap (option_map named) local in
    let found : variable_mistakes (scope_of p g) c.name ≡ [] = ap (λ o. if is_some o then [] else Unknown c.name (sort.Variable (length g.variables)) ∷ []) meant_is in
    let known = subst (IsKnown p) (ap variable_type meant_is) (held_known p s.variables f g c.name standing found) in
    inr (local_call p t class result s f g role c word around standing member l local meant_is known l.ty refl none)

front_means : (p : ProgramText) (t : ClassTree) (class : ℕ) (result : Option tree.Type.Type) (s : Setting) (f : LocalFrame) (g : names.NameFrame) (role : _) (c : CallTree) (Is : MethodTree → Type 0)
    → ((n : MethodTree) (name : Span) → start_mistakes n role name ≡ [] → (F : Option tree.Type.Type → Bool) → ((r : Option tree.Type.Type) → F r ≡ result_fits p r role) → F n.result ≡ true → Is n) → Around p t class result s
    → AreStanding p s.variables f g → (o : Option Span) → c.member ≡ o → front_mistakes (record { scope = scope_of p g; class = t }) role o c.name (map shape c.arguments) ≡ [] → Means p class s f g Is (is_alone role) c
front_means p t class result s f g role c Is fits around standing None member none =
    inl (own_call p class t f g role c Is (λ n. fits n c.name) around.class_is member (method_named p.text t c.name) refl none)
front_means p t class result s f g role c Is fits around standing (Some word) member none =
    let meant_is = ap (λ vs. variable_named p.text vs c.name) (sym standing.same) ∙ same_named p.text f.locals c.name in
    member_means p t class result s f g role c word Is fits around standing member (local_named p.text f.locals c.name) refl (subst (λ o. member_mistakes (scope_of p g) o role c.name word (map shape c.arguments) ≡ []) meant_is none)

pub call_means : (p : ProgramText) (t : ClassTree) (class : ℕ) (result : Option tree.Type.Type) (s : Setting) (f : LocalFrame) (g : names.NameFrame) (role : _) (c : CallTree) → Around p t class result s
    → AreStanding p s.variables f g → call_mistakes (record { scope = scope_of p g; class = t }) role c ≡ []
    → (Is : MethodTree → Type 0) → ((n : MethodTree) (name : Span) → start_mistakes n role name ≡ [] → (F : Option tree.Type.Type → Bool) → ((r : Option tree.Type.Type) → F r ≡ result_fits p r role) → F n.result ≡ true → Is n) → Means p class s f g Is (is_alone role) c
call_means p t class result s f g role c around standing none Is fits = front_means p t class result s f g role c Is fits around standing c.member refl none

-- a call of a method whose result is used like this
pub call_of_fits : (p : ProgramText) (t : ClassTree) (class : ℕ) (result : Option tree.Type.Type) (s : Setting) (f : LocalFrame) (g : names.NameFrame) (c : CallTree) (target : Option Mention) (behind : List Mention) (Is : MethodTree → Type 0)
    → Around p t class result s → AreStanding p s.variables f g → (x : CallsMethod p class f g Is c) → IsTarget s (result_held p x.method.result) target → Each (IsMention s) behind
    → IsCallOf s (call_of p class f c target behind (record { number = x.number; method = x.method })) (method_told p x.told.class x.method)
call_of_fits p t class result s f g c target behind Is around standing x taken mentioned = record {
  reads = reads_mentioned p class s f g standing c.arguments;
  arguments = given_parameters s (parameters (method_told p x.told.class x.method)) (flat_map (heading p) x.method.params) _ (parameters_are p x.told.class x.method)
      (arguments_given p class s f g standing x.method.params c.arguments (parameters_clean p x.method x.number around.clean x.told) x.many x.given);
  target = taken;
  behind = mentioned;
}

-- the method of that number
pub method_there : (p : ProgramText) (t : ClassTree) (class : ℕ) (result : Option tree.Type.Type) (s : Setting) (m : MethodTree) (number : ℕ) → Around p t class result s → (is : IsMethod p m number)
    → slice_get s.program.methods number ≡ Some (method_told p is.class m)
method_there p t class result s m number around is = ap (λ ms. slice_get ms number) around.methods_are ∙ is.told

pub call_fits : (p : ProgramText) (t : ClassTree) (class : ℕ) (result : Option tree.Type.Type) (s : Setting) (f : LocalFrame) (g : names.NameFrame) (c : CallTree) (target : Option Mention) (behind : List Mention) (Is : MethodTree → Type 0)
    → Around p t class result s → AreStanding p s.variables f g → (x : CallsMethod p class f g Is c) → IsTarget s (result_held p x.method.result) target → Each (IsMention s) behind
    → IsSomeAnd (slice_get s.program.methods x.number) (IsCallOf s (call_of p class f c target behind (record { number = x.number; method = x.method })))
call_fits p t class result s f g c target behind Is around standing x taken mentioned =
    subst (λ o. IsSomeAnd o (IsCallOf s (call_of p class f c target behind (record { number = x.number; method = x.method })))) (sym (method_there p t class result s x.method x.number around x.told))
    (call_of_fits p t class result s f g c target behind Is around standing x taken mentioned)
