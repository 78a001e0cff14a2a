-- The variables of a frame, one after another.
use Rattle.std.proofs.Common.{◌≡◌, ℕ, ◌+◌, ◌<◌, ◌≤◌, true, false, List, [], ◌∷◌, ◌++◌, length, drop, slice_index_or, refl, sym, ap, ◌∙◌, ◌⊎◌, inl, inr, set, Some, None, map, arith}
use Rattle.std.specs.Prelude.{IfNone, Option, if◌then◌else◌, is_some}
use Rattle.std.proofs.lemmas.List.{append-nil, append_assoc, at_drop_all, at_drop_more, length_push}
use Rattle.program.specs.Methods.{VariableModel, variable_model}
use Rattle.program.specs.WellFormed.{is_parameter}
use Rattle.program.specs.declared.call.Argument.{Argument}
use Rattle.program.specs.declared.method.Variable.{Variable}
use Rattle.program.specs.declared.number.VarId.{VarId}
use Rattle.program.specs.declared.statement.Mention.{Mention}
use Rattle.machine.specs.Answers.{Pass, own_tests}
use Rattle.machine.specs.Frames.{bound_to, variables_at_entry, payloads_claimed}
use Rattle.machine.specs.Outcomes.{Faulty, Outcome, FaultTest, test, after_tests}
use Rattle.machine.specs.World.{Block, is_own, let_go, read}
use Rattle.machine.specs.declared.halts.Fault.TheVariants.{F1}
use Rattle.machine.proofs.GiveLemmas.{passes, refuses}

-- one more argument is given away
pub lets_more : (variables less : List (Option ℕ)) (arguments : List Argument) (n : ℕ) (d : Argument) → n < length arguments → less ≡ let_go variables (slice_index_or arguments n d ∷ [])
    → let_go less (drop (n + 1) arguments) ≡ let_go variables (drop n arguments)
lets_more variables less arguments n d lt is =
    ap (λ xs. let_go xs (drop (n + 1) arguments)) is ∙ sym (at_drop_more (let_go variables) arguments n d lt)

-- one more payload is given away
pub claims_more : (variables less : List (Option ℕ)) (payloads : List Mention) (n : ℕ) (d : Mention) → n < length payloads
    → less ≡ set variables (slice_index_or payloads n d).variable.0 None
    → let_go less (payloads_claimed (drop (n + 1) payloads)) ≡ let_go variables (payloads_claimed (drop n payloads))
claims_more variables less payloads n d lt is =
    ap (λ xs. let_go xs (payloads_claimed (drop (n + 1) payloads))) is
    ∙ sym (at_drop_more (λ l. let_go variables (payloads_claimed l)) payloads n d lt)

-- nothing is left to bind
pub bound_none : (variables : List (Option ℕ)) (bound : List VarId) (payload : List ℕ) (n : ℕ) → (length bound ≤ n) ⊎ (length payload ≤ n)
    → bound_to variables (drop n bound) (drop n payload) ≡ variables
bound_none variables bound payload n (inl le) = at_drop_all (λ l. bound_to variables l (drop n payload)) bound n le ∙ no_bound (drop n payload)
  where
    no_bound : (xs : List ℕ) → bound_to variables [] xs ≡ variables
    no_bound [] = refl
    no_bound (x ∷ xs) = refl
bound_none variables bound payload n (inr le) = at_drop_all (bound_to variables (drop n bound)) payload n le ∙ no_payload (drop n bound)
  where
    no_payload : (vs : List VarId) → bound_to variables vs [] ≡ variables
    no_payload [] = refl
    no_payload (v ∷ vs) = refl

-- one more variable is bound
pub bound_more : (variables less : List (Option ℕ)) (bound : List VarId) (payload : List ℕ) (n : ℕ) (d : VarId) (e : ℕ) → n < length bound → n < length payload
    → less ≡ set variables (slice_index_or bound n d).0 (Some (slice_index_or payload n e))
    → bound_to less (drop (n + 1) bound) (drop (n + 1) payload) ≡ bound_to variables (drop n bound) (drop n payload)
bound_more variables less bound payload n d e first second is =
    sym (at_drop_more (λ l. bound_to variables l (drop n payload)) bound n d first
    ∙ at_drop_more (bound_to variables (slice_index_or bound n d ∷ drop (n + 1) bound)) payload n e second
    ∙ ap (λ r. bound_to r (drop (n + 1) bound) (drop (n + 1) payload)) (sym is))

-- what the variables of the arguments have
abbrev pub given_for : List (Option ℕ) → List Argument → List (Option ℕ)
given_for variables arguments = map (λ a. read variables a.mention.variable.0) arguments

-- this many variables of a method that begins are filled, from this many arguments
pub record Filled (has : List (Option ℕ)) (variables : List Variable) (arguments : List Argument) (done given : ℕ) (so_far : List (Option ℕ)) : Type 0 where
  pub within : given ≤ length arguments
  pub many : length so_far ≡ done
  pub is : variables_at_entry (map variable_model variables) (given_for has arguments) ≡ so_far ++ variables_at_entry (map variable_model (drop done variables)) (given_for has (drop given arguments))

pub filled_none : (has : List (Option ℕ)) (variables : List Variable) (arguments : List Argument) → Filled has variables arguments 0 0 []
filled_none has variables arguments = record { within = omega arith; many = refl; is = refl }

-- one more variable is filled
pushed_on : (so_far more xs : List (Option ℕ)) (x : Option ℕ) → more ≡ so_far ++ x ∷ [] → so_far ++ x ∷ xs ≡ more ++ xs
pushed_on so_far more xs x is = sym (append_assoc so_far (x ∷ []) xs) ∙ ap (λ l. l ++ xs) (sym is)

at_parameter : (v : VariableModel) (variables : List VariableModel) (x : Option ℕ) (xs : List (Option ℕ)) → is_parameter v.role ≡ true → variables_at_entry (v ∷ variables) (x ∷ xs) ≡ x ∷ variables_at_entry variables xs
at_parameter v variables x xs is = ap (λ t. if t then x ∷ variables_at_entry variables xs else (None ∷ variables_at_entry variables (x ∷ xs))) is

at_local : (v : VariableModel) (variables : List VariableModel) (xs : List (Option ℕ)) → is_parameter v.role ≡ false → variables_at_entry (v ∷ variables) xs ≡ None ∷ variables_at_entry variables xs
at_local v variables [] is = refl
at_local v variables (x ∷ xs) is = ap (λ t. if t then x ∷ variables_at_entry variables xs else (None ∷ variables_at_entry variables (x ∷ xs))) is

pub filled_parameter : (has : List (Option ℕ)) (variables : List Variable) (arguments : List Argument) (done given : ℕ) (so_far more : List (Option ℕ)) (d : Variable) (e : Argument)
    → done < length variables → given < length arguments → is_parameter (slice_index_or variables done d).role ≡ true
    → more ≡ so_far ++ read has (slice_index_or arguments given e).mention.variable.0 ∷ [] → Filled has variables arguments done given so_far → Filled has variables arguments (done + 1) (given + 1) more
filled_parameter has variables arguments done given so_far more d e lt some is push h =
    let v = slice_index_or variables done d in
    let x = read has (slice_index_or arguments given e).mention.variable.0 in
    let rest = map variable_model (drop (done + 1) variables) in
    record {
      within = omega arith;
      many = ap length push ∙ (length_push so_far x ∙ ap (λ n. n + 1) h.many);
      is =
          h.is
          ∙ (ap (λ l. so_far ++ l)
          (at_drop_more (λ l. variables_at_entry (map variable_model l) (given_for has (drop given arguments))) variables done d lt
          ∙ (at_drop_more (λ l. variables_at_entry (variable_model v ∷ rest) (given_for has l)) arguments given e some
          ∙ at_parameter (variable_model v) rest x (given_for has (drop (given + 1) arguments)) is))
          ∙ pushed_on so_far more (variables_at_entry rest (given_for has (drop (given + 1) arguments))) x push);
    }

pub filled_local : (has : List (Option ℕ)) (variables : List Variable) (arguments : List Argument) (done given : ℕ) (so_far more : List (Option ℕ)) (d : Variable)
    → done < length variables → is_parameter (slice_index_or variables done d).role ≡ false → more ≡ so_far ++ None ∷ [] → Filled has variables arguments done given so_far → Filled has variables arguments (done + 1) given more
filled_local has variables arguments done given so_far more d lt is push h =
    let v = slice_index_or variables done d in
    let rest = map variable_model (drop (done + 1) variables) in
    record {
      within = h.within;
      many = ap length push ∙ (length_push so_far None ∙ ap (λ n. n + 1) h.many);
      is =
          h.is
          ∙ (ap (λ l. so_far ++ l)
          (at_drop_more (λ l. variables_at_entry (map variable_model l) (given_for has (drop given arguments))) variables done d lt
          ∙ at_local (variable_model v) rest (given_for has (drop given arguments)) is)
          ∙ pushed_on so_far more (variables_at_entry rest (given_for has (drop given arguments))) None push);
    }

pub filled_past : (has : List (Option ℕ)) (variables : List Variable) (arguments : List Argument) (done given : ℕ) (so_far more : List (Option ℕ)) (d : Variable)
    → done < length variables → length arguments ≤ given → more ≡ so_far ++ None ∷ [] → Filled has variables arguments done given so_far → Filled has variables arguments (done + 1) given more
filled_past has variables arguments done given so_far more d lt past push h =
    let v = slice_index_or variables done d in
    let rest = map variable_model (drop (done + 1) variables) in
    record {
      within = h.within;
      many = ap length push ∙ (length_push so_far None ∙ ap (λ n. n + 1) h.many);
      is =
          h.is
          ∙ (ap (λ l. so_far ++ l)
          (at_drop_more (λ l. variables_at_entry (map variable_model l) (given_for has (drop given arguments))) variables done d lt
          ∙ (at_drop_all (λ l. variables_at_entry (variable_model v ∷ rest) (given_for has l)) arguments given past
          ∙ ap (λ l. None ∷ l) (sym (at_drop_all (λ l. variables_at_entry rest (given_for has l)) arguments given past))))
          ∙ pushed_on so_far more (variables_at_entry rest (given_for has (drop given arguments))) None push);
    }

pub filled_all : (has : List (Option ℕ)) (variables : List Variable) (arguments : List Argument) (done given : ℕ) (so_far : List (Option ℕ)) → length variables ≤ done → Filled has variables arguments done given so_far
    → so_far ≡ variables_at_entry (map variable_model variables) (given_for has arguments)
filled_all has variables arguments done given so_far le h =
    sym (h.is ∙ (ap (λ l. so_far ++ l) (at_drop_all (λ l. variables_at_entry (map variable_model l) (given_for has (drop given arguments))) variables done le) ∙ append-nil so_far))

-- the tests of this many endpoints passed
pub record Own (blocks : List Block) (self : ℕ) (variables : List (Option ℕ)) (endpoints : List Mention) (done : ℕ) : Type 0 where
  pub tests : (more : List FaultTest) (o : Outcome) → after_tests (own_tests blocks self variables endpoints ++ more) o ≡ after_tests (own_tests blocks self variables (drop done endpoints) ++ more) o

pub own_none : (blocks : List Block) (self : ℕ) (variables : List (Option ℕ)) (endpoints : List Mention) → Own blocks self variables endpoints 0
own_none blocks self variables endpoints = record { tests = λ more o. refl }

own_left : (blocks : List Block) (self : ℕ) (variables : List (Option ℕ)) (endpoints : List Mention) (done : ℕ) (d : Mention) (more : List FaultTest) (o : Outcome) → done < length endpoints → Own blocks self variables endpoints done
    → after_tests (own_tests blocks self variables endpoints ++ more) o
    ≡ after_tests (test (is_own blocks self (read variables (slice_index_or endpoints done d).variable.0)) F1 ∷ (own_tests blocks self variables (drop (done + 1) endpoints) ++ more)) o
own_left blocks self variables endpoints done d more o lt h =
    h.tests more o ∙ at_drop_more (λ l. after_tests (own_tests blocks self variables l ++ more) o) endpoints done d lt

pub own_more : (blocks : List Block) (self : ℕ) (variables : List (Option ℕ)) (endpoints : List Mention) (done : ℕ) (d : Mention) → done < length endpoints
    → is_own blocks self (read variables (slice_index_or endpoints done d).variable.0) ≡ true → Own blocks self variables endpoints done → Own blocks self variables endpoints (done + 1)
own_more blocks self variables endpoints done d lt is h =
    record {
      tests = λ more o.
          own_left blocks self variables endpoints done d more o lt h
          ∙ passes (is_own blocks self (read variables (slice_index_or endpoints done d).variable.0)) F1 (own_tests blocks self variables (drop (done + 1) endpoints) ++ more) o is;
    }

pub own_fails : (blocks : List Block) (self : ℕ) (variables : List (Option ℕ)) (endpoints : List Mention) (done : ℕ) (d : Mention) → done < length endpoints
    → is_own blocks self (read variables (slice_index_or endpoints done d).variable.0) ≡ false → Own blocks self variables endpoints done
    → (more : List FaultTest) (o : Outcome) → after_tests (own_tests blocks self variables endpoints ++ more) o ≡ Faulty F1
own_fails blocks self variables endpoints done d lt is h more o =
    own_left blocks self variables endpoints done d more o lt h
    ∙ refuses (is_own blocks self (read variables (slice_index_or endpoints done d).variable.0)) F1 (own_tests blocks self variables (drop (done + 1) endpoints) ++ more) o is

pub own_all : (blocks : List Block) (self : ℕ) (variables : List (Option ℕ)) (endpoints : List Mention) (done : ℕ) → length endpoints ≤ done → Own blocks self variables endpoints done → Pass (own_tests blocks self variables endpoints)
own_all blocks self variables endpoints done le h = λ more o. h.tests more o ∙ at_drop_all (λ l. after_tests (own_tests blocks self variables l ++ more) o) endpoints done le

-- a fact for the case of nothing, if there is nothing
pub none_of : (o : Option ℕ) (P : Type 0) → is_some o ≡ false → IfNone o P → P
none_of None P isnt h = h
none_of (Some x) P isnt h = absurd (cc)
