-- Heads of cases without mistakes.
use Rattle.std.proofs.Common.{◌≡◌, ℕ, List, [], ◌∷◌, length, if◌then◌else◌, refl, sym, ap, ◌∙◌, subst}
use Rattle.std.specs.Option.{option_map_or}
use Rattle.std.specs.Prelude.{Option, None, Some, is_some, option_and_then, slice_get, IsSomeAnd}
use Rattle.source.specs.declared.token.Span.{Span}
use Rattle.tree.specs.Trees.{ClassTree, ContractTree, MessageTree}
use Rattle.tree.specs.declared.statement as made
use Rattle.tree.specs.declared.statement.Awaited.TheVariants as waits
use Rattle.tree.specs.declared.types as type_nodes
use Rattle.program.specs.declared.types.Side.{Side}
use Rattle.names.specs.Bodies.{params_of_case}
use Rattle.names.specs.Cases as cases
use Rattle.names.specs.Cases.{Head, closed_mistakes, head_mistakes, type_head_mistakes, lack_mistakes, message_case_mistakes, twice_mistakes, awaited_mistakes}
use Rattle.declarations.specs.Declarations.{bound_params}
use Rattle.names.specs.Expressions.{variable_mistakes, type_named}
use Rattle.declarations.specs.Types.{is_block, type_unknown, unless}
use Rattle.declarations.specs.Program.{ProgramText, as_contract, item_at}
use Rattle.program.specs.Parts.{ContractModel}
use Rattle.declarations.specs.Named.{message_written}
use Rattle.names.specs.Values.{number_of_arguments, receives}
use Rattle.names.specs.Variables as names
use Rattle.tables.specs.Words.{word_at}
use Rattle.declarations.specs.declared.value_type as declared
use Rattle.declarations.specs.declared.value_type.ValueType.TheVariants as ty
use Rattle.program.specs.Methods.{VariableModel}
use Rattle.program.specs.declared.statement.Awaited.TheVariants.{Message, Closed}
use Rattle.program.specs.declared.number.VarId.{VarId}
use Rattle.resolving.specs.Brought.{payload_types, params_held}
use Rattle.resolving.specs.Types.{contract_at}
use Rattle.resolving.specs.Locals.{LocalFrame, mention_of}
use Rattle.resolving.specs.Messages.{contract_of, message_named}
use Rattle.resolving.specs.Told.{awaited_as, awaited_message, awaited_params, case_endpoint}
use Rattle.program.specs.Lists.{Each}
use Rattle.program.specs.WellFormed.{HoldAll, IsAwaited, IsBrought, IsEnd, Setting}
use Rattle.wellformed.proofs.FindingLemmas.{as_many}
use Rattle.wellformed.proofs.MentionLemmas.{block_mentioned, held_known, meant_stands, variable_type}
use Rattle.wellformed.proofs.SendLemmas.{is_end}
use Rattle.wellformed.proofs.ContractLemmas.{AnswersMessage, message_awaited}
use Rattle.wellformed.proofs.HeapTypeLemmas.{contract_known}
use Rattle.wellformed.proofs.ListLemmas.{both_none}
use Rattle.wellformed.proofs.ProgramLemmas.{message_clean}
use Rattle.wellformed.proofs.Standing.{Around, AreStanding, IsHeld, IsKnown, scope_of}

-- the endpoint and what is awaited there have a meaning, and a name is bound for each parameter of the message
pub record HeadFits (p : ProgramText) (s : Setting) (f : LocalFrame) (g : names.NameFrame) (h : Head) : Type 0 where
  pub end : IsEnd s (IsAwaited s (awaited_as h.awaited (awaited_message p f h.endpoint h.awaited))) (case_endpoint p f h.endpoint)
  pub params : awaited_params (awaited_message p f h.endpoint h.awaited) ≡ params_of_case (scope_of p g) h
  pub known : Each (λ x. type_unknown p x.ty ≡ []) (awaited_params (awaited_message p f h.endpoint h.awaited))
  pub many : length (awaited_params (awaited_message p f h.endpoint h.awaited)) ≡ length h.binds
  pub brings : (bound : List VarId) → HoldAll s (params_held p (awaited_params (awaited_message p f h.endpoint h.awaited))) bound → IsBrought s (awaited_as h.awaited (awaited_message p f h.endpoint h.awaited)) bound

-- the endpoint of a case is one of a declared contract
end_fits : (p : ProgramText) (t : ClassTree) (class : ℕ) (result : Option type_nodes.Type.Type) (s : Setting) (f : LocalFrame) (g : names.NameFrame) (name : Span) (n : ℕ) (side : Side) (P : ContractModel → Type 0)
    → Around p t class result s → AreStanding p s.variables f g → variable_mistakes (scope_of p g) name ≡ [] → type_named (scope_of p g) name ≡ ty.Endpoint side n
    → ((r : ContractModel) → contract_at p n ≡ Some r → P r) → IsEnd s P (case_endpoint p f name)
end_fits p t class result s f g name n side P around standing none is each =
    let c = contract_known p n side (subst (IsKnown p) is (held_known p s.variables f g name standing none)) in
    let m = block_mentioned p s.variables f g name standing none (ap is_block is) in
    let endpoint : case_endpoint p f name ≡ mention_of name m.number = ap (λ o. option_map_or (λ x. x) o (mention_of name 0)) m.is in
    subst (IsEnd s P) (sym endpoint) (is_end p s n side c.tree P (mention_of name m.number) m.variable around.contracts_are c.is m.there (subst (λ k. IsHeld p k m.variable.ty) is m.holds) each)

-- what the case awaits is looked up in that contract
message_looked : (p : ProgramText) (vs : List VariableModel) (f : LocalFrame) (g : names.NameFrame) (name : Span) (n : ℕ) (side : Side) (word : Span) → AreStanding p vs f g
    → variable_mistakes (scope_of p g) name ≡ [] → type_named (scope_of p g) name ≡ ty.Endpoint side n → awaited_message p f name (waits.Message word) ≡ message_named p n word
message_looked p vs f g name n side word standing none is =
    let m = meant_stands p vs f g name standing none in
    let same : m.local.ty ≡ ty.Endpoint side n = ap variable_type (sym m.meant_is) ∙ is in
    ap (λ o. option_and_then (λ k. message_named p k word) (option_and_then (λ v. contract_of v.ty) o)) m.is ∙ ap (λ k. option_and_then (λ c. message_named p c word) (contract_of k)) same

-- the payload of a message is at its number
message_brings : (p : ProgramText) (s : Setting) (f : LocalFrame) (name word : Span) (n : ℕ) (m : MessageTree) (a : AnswersMessage p n (message_named p n word) m) → slice_get s.program.messages a.meant.id.0 ≡ Some (payload_types p m)
    → awaited_params (awaited_message p f name (waits.Message word)) ≡ m.params → awaited_message p f name (waits.Message word) ≡ Some a.meant
    → (bound : List VarId) → HoldAll s (params_held p (awaited_params (awaited_message p f name (waits.Message word)))) bound
    → IsBrought s (awaited_as (waits.Message word) (awaited_message p f name (waits.Message word))) bound
message_brings p s f name word n m a bring params means bound holds =
    subst (λ x. IsBrought s (awaited_as (waits.Message word) x) bound) (sym means)
    (subst (λ o. IsSomeAnd o (λ types. HoldAll s types bound)) (sym bring) (subst (λ ps. HoldAll s (params_held p ps) bound) params holds))

-- a close brings nothing
close_brings : (s : Setting) (bound : List VarId) → HoldAll s [] bound → bound ≡ []
close_brings s [] holds = refl
close_brings s (v ∷ bound) holds = absurd holds

-- a case on a message of that contract
message_fits : (p : ProgramText) (t : ClassTree) (class : ℕ) (result : Option type_nodes.Type.Type) (s : Setting) (f : LocalFrame) (g : names.NameFrame) (name : Span) (word : Span) (binds : List made.Bind.Bind) (n : ℕ) (side : Side)
    (c : ContractTree) (o : Option MessageTree)
    → Around p t class result s → AreStanding p s.variables f g → variable_mistakes (scope_of p g) name ≡ [] → type_named (scope_of p g) name ≡ ty.Endpoint side n
    → item_at as_contract p n ≡ Some (n, c) → message_written p.text c (word_at p.text word) ≡ o → message_case_mistakes n o side word binds ≡ []
    → HeadFits p s f g (record { endpoint = name; awaited = waits.Message word; binds = binds })
message_fits p t class result s f g name word binds n side c None around standing none is there written found = absurd (cc)
message_fits p t class result s f g name word binds n side c (Some m) around standing none is there written found =
    let a = message_awaited p n c word m there written in
    let means = message_looked p s.variables f g name n side word standing none is ∙ a.is in
    let params : awaited_params (awaited_message p f name (waits.Message word)) ≡ m.params = ap awaited_params means ∙ ap (λ (x : MessageTree). x.params) a.message in
    let bound : bound_params (cases.awaited_message (scope_of p g) (type_named (scope_of p g) name) (waits.Message word)) ≡ m.params =
    ap (λ k. bound_params (cases.awaited_message (scope_of p g) k (waits.Message word))) is
    ∙ ap (λ x. bound_params (option_and_then (λ y. message_written p.text y.1 (word_at p.text word)) x)) there
    ∙ ap bound_params written in
    let many = both_none (unless (receives side m.direction) word.place _) (number_of_arguments m.params binds word.place) found in
    let bring = ap (λ ms. slice_get ms a.meant.id.0) around.messages_are ∙ a.brings in
    record {
      end = subst (λ x. IsEnd s (IsAwaited s (awaited_as (waits.Message word) x)) (case_endpoint p f name)) (sym means)
          (end_fits p t class result s f g name n side (IsAwaited s (Message a.meant.id)) around standing none is a.of);
      params = params ∙ sym bound;
      known = subst (Each (λ x. type_unknown p x.ty ≡ [])) (sym params) (message_clean p n c (word_at p.text word) m around.clean there written);
      many = ap length params ∙ as_many m.params binds word.place many.1;
      brings = message_brings p s f name word n m a bring params means;
    }

-- a head by the type of its endpoint
head_by : (p : ProgramText) (t : ClassTree) (class : ℕ) (result : Option type_nodes.Type.Type) (s : Setting) (f : LocalFrame) (g : names.NameFrame) (all before : List Head) (name : Span) (awaited : made.Awaited.Awaited)
    (binds : List made.Bind.Bind) (k : declared.ValueType.ValueType)
    → Around p t class result s → AreStanding p s.variables f g → variable_mistakes (scope_of p g) name ≡ [] → type_named (scope_of p g) name ≡ k → IsKnown p k
    → type_head_mistakes (scope_of p g) all before k (record { endpoint = name; awaited = awaited; binds = binds }) ≡ [] → HeadFits p s f g (record { endpoint = name; awaited = awaited; binds = binds })
head_by p t class result s f g all before name (waits.Closed word) binds (ty.Endpoint side n) around standing none is known found =
    let h : Head = record { endpoint = name; awaited = waits.Closed word; binds = binds } in
    let first = both_none (awaited_mistakes (scope_of p g) before side n h h.awaited) (lack_mistakes (scope_of p g) all before h) found in
    let second = both_none (closed_mistakes binds word) (twice_mistakes (scope_of p g) before h) first.0 in
    record {
      end = end_fits p t class result s f g name n side (IsAwaited s Closed) around standing none is (λ r at. tt);
      params = sym (ap (λ k. bound_params (cases.awaited_message (scope_of p g) k (waits.Closed word))) is);
      known = tt;
      many = as_many {X = made.Bind.Bind} [] binds word.place second.0;
      brings = close_brings s;
    }
head_by p t class result s f g all before name (waits.Message word) binds (ty.Endpoint side n) around standing none is known found =
    let h : Head = record { endpoint = name; awaited = waits.Message word; binds = binds } in
    let o = cases.awaited_message (scope_of p g) (ty.Endpoint side n) (waits.Message word) in
    let first = both_none (awaited_mistakes (scope_of p g) before side n h h.awaited) (lack_mistakes (scope_of p g) all before h) found in
    let second = both_none (message_case_mistakes n o side word binds) (if is_some o then twice_mistakes (scope_of p g) before h else []) first.0 in
    let c = contract_known p n side known in
    let same : o ≡ message_written p.text c.tree (word_at p.text word) = ap (option_and_then (λ x. message_written p.text x.1 (word_at p.text word))) c.is in
    message_fits p t class result s f g name word binds n side c.tree (message_written p.text c.tree (word_at p.text word)) around standing none is c.is refl
    (subst (λ x. message_case_mistakes n x side word binds ≡ []) same second.0)
head_by p t class result s f g all before name (waits.Closed word) binds (ty.Scalar x) around standing none is known found = absurd (cc)
head_by p t class result s f g all before name (waits.Message word) binds (ty.Scalar x) around standing none is known found = absurd (cc)
head_by p t class result s f g all before name (waits.Closed word) binds (ty.Pointer n) around standing none is known found = absurd (cc)
head_by p t class result s f g all before name (waits.Message word) binds (ty.Pointer n) around standing none is known found = absurd (cc)
head_by p t class result s f g all before name (waits.Closed word) binds (ty.Array x) around standing none is known found = absurd (cc)
head_by p t class result s f g all before name (waits.Message word) binds (ty.Array x) around standing none is known found = absurd (cc)
head_by p t class result s f g all before name awaited binds ty.Missing around standing none is known found = absurd known
head_by p t class result s f g all before name awaited binds ty.Unknown around standing none is known found = absurd known

pub head_fits : (p : ProgramText) (t : ClassTree) (class : ℕ) (result : Option type_nodes.Type.Type) (s : Setting) (f : LocalFrame) (g : names.NameFrame) (all before : List Head) (h : Head)
    → Around p t class result s → AreStanding p s.variables f g → head_mistakes (scope_of p g) all before h ≡ [] → HeadFits p s f g h
head_fits p t class result s f g all before h around standing none =
    let both = both_none (variable_mistakes (scope_of p g) h.endpoint) (type_head_mistakes (scope_of p g) all before (type_named (scope_of p g) h.endpoint) h) none in
    head_by p t class result s f g all before h.endpoint h.awaited h.binds (type_named (scope_of p g) h.endpoint) around standing both.0 refl (held_known p s.variables f g h.endpoint standing both.0) both.1
