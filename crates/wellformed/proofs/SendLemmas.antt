-- Sends without mistakes.
use Rattle.std.proofs.Common.{◌≡◌, ℕ, ◌&&◌, Bool, true, false, List, [], ◌∷◌, ◌++◌, length, map, take, drop, codes, if◌then◌else◌, sym, refl, ap, ◌∙◌, subst}
use Rattle.std.proofs.lemmas.List.{length-map}
use Rattle.std.specs.Prelude.{Option, None, Some, is_some, option_map, option_and_then, slice_get, IsSomeAnd}
use Rattle.std.proofs.lemmas.Bool.{and_parts}
use Rattle.source.specs.declared.token.Span.{Span}
use Rattle.tree.specs.Expressions.{ExpressionTree}
use Rattle.tree.specs.Trees.{ClassTree, ContractTree, MessageTree, contracts_of}
use Rattle.tree.specs.Values.{CallTree}
use Rattle.tree.specs.declared.types as type_nodes
use Rattle.program.specs.declared.types.Side.{Side}
use Rattle.names.specs.Expressions.{variable_of, variable_mistakes, type_named}
use Rattle.names.specs.Findings.{program_mistakes}
use Rattle.declarations.specs.declared.mistake.Mistake.TheVariants.{Unknown}
use Rattle.declarations.specs.declared.mistake.NameSort.TheVariants as sort
use Rattle.declarations.specs.Types.{is_block, type_unknown, unless, type_meant}
use Rattle.declarations.specs.Program.{ProgramText, as_contract, item_at}
use Rattle.program.specs.Parts.{ContractModel}
use Rattle.declarations.specs.Resolution.{resolved_contracts}
use Rattle.names.specs.Shapes.{shape}
use Rattle.names.specs.Values.{argument_mistakes, is_alone, message_mistakes, number_of_arguments, send_mistakes, sends}
use Rattle.declarations.specs.Named.{message_written, sent_message}
use Rattle.names.specs.Variables as names
use Rattle.tables.specs.Words.{same_word, word_at}
use Rattle.declarations.specs.declared.value_type as declared
use Rattle.declarations.specs.declared.value_type.ValueType.TheVariants as ty
use Rattle.program.specs.Methods.{VariableModel}
use Rattle.program.specs.Statements.{SendModel}
use Rattle.program.specs.declared.statement.Mention.{Mention}
use Rattle.resolving.specs.Types.{contract_at}
use Rattle.resolving.specs.Locals.{Local, LocalFrame, local_named, mention_of}
use Rattle.resolving.specs.Messages.{contract_of, end_contract, message_sent}
use Rattle.resolving.specs.Plain.{meant_by, payloads, send_of, send_told, send_for, sent_by}
use Rattle.program.specs.Lists.{Each}
use Rattle.program.specs.WellFormed.{HoldAll, Setting, IsEnd, IsMessageOf, IsSend, contract_held}
use Rattle.wellformed.proofs.ArgumentLemmas.{payloads_given, reads_mentioned}
use Rattle.wellformed.proofs.ContractLemmas.{AnswersMessage, contract_is_at, message_given}
use Rattle.wellformed.proofs.FindingLemmas.{as_many, unless_none}
use Rattle.wellformed.proofs.MentionLemmas.{block_mentioned, variable_type}
use Rattle.wellformed.proofs.HeapTypeLemmas.{HasContract, contract_known, end_held}
use Rattle.wellformed.proofs.ListLemmas.{both_none}
use Rattle.wellformed.proofs.ProgramLemmas.{message_clean}
use Rattle.wellformed.proofs.Standing.{Around, AreStanding, IsHeld, IsKnown, named, scope_of}

-- the contract of an endpoint
pub is_end : (p : ProgramText) (s : Setting) (n : ℕ) (side : Side) (c : ContractTree) (P : ContractModel → Type 0) (m : Mention) (v : VariableModel) → s.program.contracts ≡ resolved_contracts p.text (contracts_of p.items)
    → item_at as_contract p n ≡ Some (n, c) → slice_get s.variables m.variable.0 ≡ Some v → IsHeld p (ty.Endpoint side n) v.ty
    → ((r : ContractModel) → contract_at p n ≡ Some r → P r) → IsEnd s P m
is_end p s n side c P m v contracts is there holds each =
    let at = contract_is_at p n c is in
    let found = ap (λ cs. contract_held cs v.ty) contracts ∙ end_held p n side v.ty holds ∙ at.is in
    subst (λ o. IsSomeAnd o (λ w. IsSomeAnd (contract_held s.program.contracts w.ty) P)) (sym there) (subst (λ o. IsSomeAnd o P) (sym found) (each _ at.is))

-- a call that sends a message
pub record SendsMessage (p : ProgramText) (class : ℕ) (s : Setting) (f : LocalFrame) (c : CallTree) : Type 0 where
  pub send : SendModel
  pub is : send_told p class f c ≡ Some send
  pub fits : IsSend s send

-- a send
record Sending (p : ProgramText) (g : names.NameFrame) (n : ℕ) (word : Span) (es : List ExpressionTree) : Type 0 where
  pub message : MessageTree
  pub answer : AnswersMessage p n (message_sent p n word) message
  pub known : Each (λ x. type_unknown p x.ty ≡ []) message.params
  pub many : length message.params ≡ length es
  pub given : argument_mistakes (scope_of p g) (map (λ x. type_meant p x.ty) message.params) (map shape es) ≡ []

sent_written : (text word : List ℕ) (t : ContractTree) (m : MessageTree) (b : Bool) → (if b then message_written text t (drop 4 word) else None) ≡ Some m → message_written text t (drop 4 word) ≡ Some m
sent_written text word t m true sent = sent
sent_written text word t m false sent = cc

sending : (p : ProgramText) (g : names.NameFrame) (n : ℕ) (side : Side) (t : ContractTree) (role : _) (word : Span) (es : List ExpressionTree) → program_mistakes p ≡ [] → item_at as_contract p n ≡ Some (n, t)
    → (o : Option MessageTree) → sent_message p.text t (word_at p.text word) ≡ o → message_mistakes (scope_of p g) n o side role word (map shape es) ≡ [] → (is_alone role ≡ true) × Sending p g n word es
sending p g n side t role word es clean there None found none = cc
sending p g n side t role word es clean there (Some m) found none =
    let shapes = map shape es in
    let way = is_alone role && sends side m.direction in
    let many = number_of_arguments m.params shapes word.place in
    let given = argument_mistakes (scope_of p g) (map (λ x. type_meant p x.ty) m.params) shapes in
    let first = both_none (unless way word.place _) (many ++ given) none in
    let rest = both_none many given first.1 in
    let written = sent_written p.text (word_at p.text word) t m (same_word (take 4 (word_at p.text word)) (codes "Send")) found in (
      (and_parts (is_alone role) (sends side m.direction) (unless_none _ way word.place first.0)).0,
      record {
        message = m;
        answer = message_given p n t word m there found;
        known = message_clean p n t (drop 4 (word_at p.text word)) m clean there written;
        many = as_many m.params shapes word.place rest.0 ∙ length-map es shape;
        given = rest.1;
      },
    )

-- the contract of the endpoint that a name means
end_of : (p : ProgramText) (locals : List Local) (name : Span) (l : Local) (n : ℕ) (side : Side) → local_named p.text locals name ≡ Some l → l.ty ≡ ty.Endpoint side n → end_contract p locals name ≡ Some n
end_of p locals name l n side local is = ap (option_and_then (λ v. contract_of v.ty)) local ∙ ap contract_of is

end_sends : (p : ProgramText) (t : ClassTree) (class : ℕ) (result : Option type_nodes.Type.Type) (s : Setting) (f : LocalFrame) (g : names.NameFrame) (role : _) (c : CallTree) (word : Span) → Around p t class result s
    → AreStanding p s.variables f g → c.member ≡ Some word → (l : Local) → local_named p.text f.locals c.name ≡ Some l → (n : ℕ) (side : Side) → l.ty ≡ ty.Endpoint side n → IsKnown p (ty.Endpoint side n)
    → variable_of (scope_of p g) c.name ≡ Some (named l) → send_mistakes (scope_of p g) (ty.Endpoint side n) role c.name word (map shape c.arguments) ≡ [] → (is_alone role ≡ true) × SendsMessage p class s f c
end_sends p t class result s f g role c word around standing member l local n side type_is known meant_is none =
    let has : HasContract p n = contract_known p n side known in
    let of_contract = ap (option_and_then (λ x. sent_message p.text x.1 (word_at p.text word))) has.is in
    let clean = subst (λ o. message_mistakes (scope_of p g) n o side role word (map shape c.arguments) ≡ []) of_contract none in
    let x = sending p g n side has.tree role word c.arguments around.clean has.is (sent_message p.text has.tree (word_at p.text word)) refl clean in
    let held_is : type_named (scope_of p g) c.name ≡ ty.Endpoint side n = ap variable_type meant_is ∙ type_is in
    let found : variable_mistakes (scope_of p g) c.name ≡ [] = ap (λ o. if is_some o then [] else Unknown c.name (sort.Variable (length g.variables)) ∷ []) meant_is in
    let m = block_mentioned p s.variables f g c.name standing found (ap is_block held_is) in
    let a = x.1.answer in
    let meant_by_is : meant_by p f c word ≡ Some a.meant = ap (option_and_then (λ k. message_sent p k word)) (end_of p f.locals c.name l n side local type_is) ∙ a.is in
    let sent_is = ap (option_and_then (send_for p class f c word)) meant_by_is ∙ ap (option_map (λ e. send_of p class f word c e a.meant)) m.is in
    let end = is_end p s n side has.tree (λ r. IsMessageOf r a.meant.id) (mention_of c.name m.number) m.variable around.contracts_are has.is m.there (subst (λ k. IsHeld p k m.variable.ty) held_is m.holds) a.of in
    let paid = payloads_given p class s f g standing x.1.message.params c.arguments x.1.known x.1.many x.1.given in
    let bring = ap (λ ms. slice_get ms a.meant.id.0) around.messages_are ∙ a.brings in (
      x.0,
      record {
        send = send_of p class f word c (mention_of c.name m.number) a.meant;
        is = ap (option_and_then (sent_by p class f c)) member ∙ sent_is;
        fits = record { reads = reads_mentioned p class s f g standing c.arguments; endpoint = end; payloads = subst (λ o. IsSomeAnd o (λ types. HoldAll s types (map (λ y. y.variable) (payloads p class f c.arguments)))) (sym bring) paid };
      },
    )

-- a call by the name of a variable and one of a message
pub local_call : (p : ProgramText) (t : ClassTree) (class : ℕ) (result : Option type_nodes.Type.Type) (s : Setting) (f : LocalFrame) (g : names.NameFrame) (role : _) (c : CallTree) (word : Span) → Around p t class result s
    → AreStanding p s.variables f g → c.member ≡ Some word → (l : Local) → local_named p.text f.locals c.name ≡ Some l → variable_of (scope_of p g) c.name ≡ Some (named l) → IsKnown p l.ty → (k : declared.ValueType.ValueType) → l.ty ≡ k
    → send_mistakes (scope_of p g) k role c.name word (map shape c.arguments) ≡ [] → (is_alone role ≡ true) × SendsMessage p class s f c
local_call p t class result s f g role c word around standing member l local meant_is known (ty.Endpoint side n) is none =
    end_sends p t class result s f g role c word around standing member l local n side is (subst (IsKnown p) is known) meant_is none
local_call p t class result s f g role c word around standing member l local meant_is known (ty.Scalar x) is none = cc
local_call p t class result s f g role c word around standing member l local meant_is known (ty.Array x) is none = cc
local_call p t class result s f g role c word around standing member l local meant_is known (ty.Pointer x) is none = cc
local_call p t class result s f g role c word around standing member l local meant_is known ty.Missing is none = absurd (subst (IsKnown p) is known)
local_call p t class result s f g role c word around standing member l local meant_is known ty.Unknown is none = absurd (subst (IsKnown p) is known)
