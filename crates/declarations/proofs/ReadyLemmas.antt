-- The scope has what the contracts of the text declare.
use Rattle.declarations.specs.declared.mistake.Limit.TheVariants as limit
use Rattle.std.proofs.Common.{◌≡◌, ℕ, ◌≤◌, List, [], ◌∷◌, ◌++◌, length, sym, refl, ap, ◌∙◌, subst, arith, ⊎_elim}
use Rattle.std.specs.Prelude.{All}
use Rattle.std.specs.List.{flat_map}
use Rattle.std.specs.Option.{option_map_or}
use Rattle.std.proofs.lemmas.List.Elements.{All-nil, All-cons}
use Rattle.std.proofs.lemmas.Option.{slice_get_cases}
use Rattle.lemmas.proofs.Lists.{nil_left, nil_right}
use Rattle.source.specs.declared.token.Span.{Span}
use Rattle.tree.specs.Trees.{ContractTree, MessageTree, StateTree, contracts_of}
use Rattle.declarations.specs.ContractMistakes.{contract_mistakes, message_mistakes, state_mistakes}
use Rattle.declarations.specs.Declarations.{counted_states, messages_of, names_of_contracts, names_of_messages, names_of_states, states_of}
use Rattle.declarations.specs.Mistakes.{most_of}
use Rattle.declarations.specs.declared.mistake.Limit.{Limit}
use Rattle.declarations.specs.declared.mistake.Mistake.TheVariants.{LimitPassed}
use Rattle.declarations.specs.ItemMistakes.{all_counted_states, contracts_mistakes, counted_mistakes}
use Rattle.declarations.specs.Listed.{limit_passed, past_limit, twice_among}
use Rattle.declarations.specs.Numbered.{names_in, indices_named}
use Rattle.declarations.specs.Outlines.{outlined_messages, outlined_states}
use Rattle.declarations.specs.Program.{ProgramText}
use Rattle.declarations.specs.Ready.{IsReady, all_resolved, declared_in, declared_messages, declared_states, resolved_declared}
use Rattle.program.specs.Parts.{ContractModel}
use Rattle.declarations.specs.Resolution.{each_behind, message_count, resolved_contract, resolved_contracts, state_count}
use Rattle.declarations.specs.Scopes.{AreDeclared, IsDeclared, IsScope}
use Rattle.tables.specs.Tables.{IsTable}
use Rattle.tables.specs.Words.{words_at}
use Rattle.program.specs.declared.limits.TheConstants.{MOST_STATES}
use Rattle.declarations.specs.declared.members.Declared.{Declared}
use Rattle.declarations.specs.declared.scope.Scope.{Scope}
use Rattle.declarations.proofs.ContractLemmas.{all_declared}

-- each declares what its contract has, and so do all together
all_are : {X : Type 0} (f : Declared → List X) (g : ContractTree → List X) (text : List ℕ) → ((c : ContractTree) (d : Declared) → IsDeclared text c d → f d ≡ g c)
    → (cs : List ContractTree) (ds : List Declared) → AreDeclared text cs ds → flat_map f ds ≡ flat_map g cs
all_are f g text same [] [] all = refl
all_are f g text same [] (e ∷ ds) all = absurd all
all_are f g text same (c ∷ cs) [] all = absurd all
all_are f g text same (c ∷ cs) (e ∷ ds) all = ap (λ l. l ++ flat_map f ds) (same c e all.0) ∙ ap (λ l. g c ++ l) (all_are f g text same cs ds all.1)

-- there are as many messages and states in scope as the contracts have
messages_are : (text : List ℕ) (cs : List ContractTree) (ds : List Declared) → AreDeclared text cs ds → declared_messages ds ≡ message_count cs
messages_are text cs ds all = ap length (all_are (λ d. outlined_messages d.outline) messages_of text (λ c d one. one.outline.messages) cs ds all)

states_are : (text : List ℕ) (cs : List ContractTree) (ds : List Declared) → AreDeclared text cs ds → declared_states ds ≡ state_count cs
states_are text cs ds all = ap length (all_are (λ d. counted_states (outlined_states d.outline)) (λ c. counted_states (states_of c)) text (λ c d one. ap counted_states one.outline.states) cs ds all)

-- a declared contract is resolved like its tree
one_resolved : (text : List ℕ) (bs : List ContractTree) (bd : List Declared) (c : ContractTree) (d : Declared) → AreDeclared text bs bd → IsDeclared text c d
    → resolved_declared text (declared_messages bd) (declared_states bd) d ≡ resolved_contract text (message_count bs) (state_count bs) c.name (messages_of c) (states_of c)
one_resolved text bs bd c d before one =
    let m = message_count bs in
    let s = state_count bs in
    ap (λ n. resolved_declared text n (declared_states bd) d) (messages_are text bs bd before)
    ∙ ap (λ n. resolved_declared text m n d) (states_are text bs bd before)
    ∙ ap (λ n. resolved_contract text m s n (outlined_messages d.outline) (outlined_states d.outline)) one.outline.name
    ∙ ap (λ l. resolved_contract text m s c.name l (outlined_states d.outline)) one.outline.messages
    ∙ ap (resolved_contract text m s c.name (messages_of c)) one.outline.states

are_push : (text : List ℕ) (cs : List ContractTree) (ds : List Declared) (c : ContractTree) (d : Declared) → AreDeclared text cs ds → IsDeclared text c d → AreDeclared text (cs ++ c ∷ []) (ds ++ d ∷ [])
are_push text [] [] c d all one = (one, tt)
are_push text [] (e ∷ ds) c d all one = absurd all
are_push text (b ∷ cs) [] c d all one = absurd all
are_push text (b ∷ cs) (e ∷ ds) c d all one = (all.0, are_push text cs ds c d all.1 one)

resolved_behind : (text : List ℕ) (bs : List ContractTree) (bd : List Declared) (cs : List ContractTree) (ds : List Declared) → AreDeclared text bs bd → AreDeclared text cs ds
    → each_behind (λ b d. resolved_declared text (declared_messages b) (declared_states b) d ∷ []) bd ds ≡ each_behind (λ b c. resolved_contract text (message_count b) (state_count b) c.name (messages_of c) (states_of c) ∷ []) bs cs
resolved_behind text bs bd [] [] before all = refl
resolved_behind text bs bd [] (d ∷ ds) before all = absurd all
resolved_behind text bs bd (c ∷ cs) [] before all = absurd all
resolved_behind text bs bd (c ∷ cs) (d ∷ ds) before all =
    let rest = λ (l : List ContractModel). resolved_contract text (message_count bs) (state_count bs) c.name (messages_of c) (states_of c) ∷ l in
    ap (λ r. r ∷ each_behind (λ b k. resolved_declared text (declared_messages b) (declared_states b) k ∷ []) (bd ++ d ∷ []) ds) (one_resolved text bs bd c d before all.0)
    ∙ ap rest (resolved_behind text (bs ++ c ∷ []) (bd ++ d ∷ []) cs ds (are_push text bs bd c d before all.0) all.1)

-- all contracts are
all_is : (text : List ℕ) (cs : List ContractTree) (ds : List Declared) → AreDeclared text cs ds → all_resolved text ds ≡ resolved_contracts text cs
all_is text cs ds all = resolved_behind text [] [] cs ds tt all

-- if nothing is wrong with a contract, nothing is wrong with the names in its edges
pub clean_edges : (p : ProgramText) (c : ContractTree) → contract_mistakes p c ≡ [] → flat_map (state_mistakes p.text (names_of_messages (messages_of c)) (names_of_states (states_of c))) (states_of c) ≡ []
clean_edges p c none =
    nil_right (flat_map (message_mistakes p) (messages_of c)) _
    (nil_right (twice_among p.text (names_of_states (states_of c))) _ (nil_right (twice_among p.text (names_of_messages (messages_of c))) _ none))

one_ready : (p : ProgramText) (c : ContractTree) (d : Declared) → IsDeclared p.text c d → contract_mistakes p c ≡ [] → IsReady p.text d
one_ready p c d one none =
    let findings = λ (ms : List MessageTree) (ss : List StateTree). flat_map (state_mistakes p.text (names_of_messages ms) (names_of_states ss)) ss in
    record {
      messages = subst (λ l. IsTable (words_at p.text (names_of_messages l)) d.messages) (sym one.outline.messages) one.messages;
      states = subst (λ l. IsTable (words_at p.text (names_of_states l)) d.states) (sym one.outline.states) one.states;
      all = one.all ∙ ap (flat_map names_in) (sym one.outline.states);
      named = one.named ∙ ap indices_named (sym one.outline.states);
      clean = ap (λ l. findings l (outlined_states d.outline)) one.outline.messages ∙ ap (findings (messages_of c)) one.outline.states ∙ clean_edges p c none;
    }

all_ready : (p : ProgramText) (cs : List ContractTree) (ds : List Declared) → AreDeclared p.text cs ds → flat_map (contract_mistakes p) cs ≡ [] → All (IsReady p.text) ds
all_ready p [] [] all none = All-nil (IsReady p.text)
all_ready p [] (d ∷ ds) all none = absurd all
all_ready p (c ∷ cs) [] all none = absurd all
all_ready p (c ∷ cs) (d ∷ ds) all none =
    All-cons (IsReady p.text) d ds (one_ready p c d all.0 (nil_left (contract_mistakes p c) _ none))
    (all_ready p cs ds all.1 (nil_right (contract_mistakes p c) _ none))

-- if the limit is not passed, there are no more names than that
pub not_past : (limit : Limit) (names : List Span) → past_limit limit names ≡ [] → length names ≤ most_of limit
not_past limit names none =
    ⊎_elim
    (λ w. let past : LimitPassed w.0.place limit ∷ [] ≡ [] = sym (ap (λ o. option_map_or (limit_passed limit) o []) w.2) ∙ none in cc)
    (λ w. w.0)
    (slice_get_cases names (most_of limit)).1

-- there are no more states than the limit
few_states : (p : ProgramText) → counted_mistakes p ≡ [] → state_count (contracts_of p.items) ≤ MOST_STATES
few_states p nothing =
    let cs = contracts_of p.items in
    not_past limit.States (all_counted_states cs) (nil_right (past_limit limit.Contracts (names_of_contracts cs)) _ nothing)

-- if nothing is wrong with the contracts of a program, nothing is wrong within each, and there are no more states than the limit
pub contracts_clean : (p : ProgramText) → contracts_mistakes p ≡ [] → flat_map (contract_mistakes p) (contracts_of p.items) ≡ []
contracts_clean p nothing = nil_right (counted_mistakes p) _ nothing

pub states_few : (p : ProgramText) → contracts_mistakes p ≡ [] → state_count (contracts_of p.items) ≤ MOST_STATES
states_few p nothing = few_states p (nil_left (counted_mistakes p) _ nothing)

-- a scope of a program whose contracts have no mistakes
pub record IsCleared (p : ProgramText) (scope : Scope) : Type 0 where
  pub ready : All (IsReady p.text) (declared_in scope.members.items)
  pub messages : declared_messages (declared_in scope.members.items) ≡ message_count (contracts_of p.items)
  pub states : declared_states (declared_in scope.members.items) ≤ MOST_STATES
  pub resolved : all_resolved p.text (declared_in scope.members.items) ≡ resolved_contracts p.text (contracts_of p.items)

pub cleared : (p : ProgramText) (scope : Scope) → IsScope p scope → contracts_mistakes p ≡ [] → IsCleared p scope
cleared p scope h nothing =
    let cs = contracts_of p.items in
    let ds = declared_in scope.members.items in
    let all : AreDeclared p.text cs ds = all_declared p.text p.items scope.members.items h.members in
    record {
      ready = all_ready p cs ds all (contracts_clean p nothing);
      messages = messages_are p.text cs ds all;
      states = let few = states_few p nothing in let many = states_are p.text cs ds all in omega (arith, few, many);
      resolved = all_is p.text cs ds all;
    }
