-- The methods of a program without mistakes in names and types are well formed.
use Rattle.std.proofs.Common.{◌≡◌, ◌≢◌, ◌==◌, ℕ, zero, suc, ◌<◌, ◌≤◌, Bool, true, false, List, [], ◌∷◌, ◌++◌, length, sym, refl, subst, ap, ◌∙◌, append-nil, arith, length-append, eq-eqb, eqb-true}
use Rattle.std.specs.Prelude.{Option, None, Some, option_map, slice_get, IfSome}
use Rattle.std.specs.Option.{option_map_or}
use Rattle.source.specs.declared.token.Span.{Span}
use Rattle.tree.specs.StatementTrees as trees
use Rattle.tree.specs.StatementTrees.{BlockTree}
use Rattle.tree.specs.Trees.{ClassTree, MethodTree, contracts_of}
use Rattle.tree.specs.declared.class.Parameter.{Parameter}
use Rattle.tree.specs.declared.types as tree
use Rattle.names.specs.Bodies.{Surroundings, block_turn}
use Rattle.names.specs.Findings.{program_mistakes}
use Rattle.declarations.specs.Types.{is_heap, type_meant, type_unknown}
use Rattle.names.specs.Methods.{parameter_turn, parameters_turn}
use Rattle.declarations.specs.Program.{ProgramText, as_class, item_at}
use Rattle.program.specs.Parts.{ContractModel}
use Rattle.declarations.specs.Resolution.{resolved_contracts}
use Rattle.names.specs.Variables as names
use Rattle.declarations.specs.declared.value_type as declared_types
use Rattle.program.specs.Methods.{VariableModel}
use Rattle.program.specs.declared.types.HeapType.{HeapType}
use Rattle.program.specs.declared.method.Role.{Role}
use Rattle.resolving.specs.Types.{heap_type, result_held, state_in, type_held}
use Rattle.resolving.specs.Locals.{LocalFrame, with_declaration, declared_as, number_of}
use Rattle.resolving.specs.Methods.{body_told, method_told, methods_told, no_variables, parameter_declaration, parameters_frame, role_of, takes_some}
use Rattle.resolving.specs.Staying.{stays_here}
use Rattle.program.specs.Lists.{Each}
use Rattle.program.specs.WellFormed.{AreStatements, AreWellFormed, IsType, IsWellFormed, Setting, is_parameter, setting}
use Rattle.program.specs.Scopes.{IsInScope}
use Rattle.program.specs.declared.limits.TheConstants.{MOST_VARIABLES}
use Rattle.program.specs.declared.method.Role.TheVariants as role
use Rattle.wellformed.specs.Bare.{IsBare}
use Rattle.wellformed.proofs.FieldLemmas.{fields_types}
use Rattle.wellformed.proofs.BroughtLemmas.{brought_types}
use Rattle.wellformed.proofs.GrowthLemmas.{Nests, declared_nests, declared_within, statements_grow, statements_nest, within_before}
use Rattle.wellformed.proofs.HeapTypeLemmas.{heap_block, held_as, held_type, type_known}
use Rattle.wellformed.proofs.ListLemmas.{each_append, both_none}
use Rattle.wellformed.proofs.ProgramLemmas.{every_method, method_clean}
use Rattle.wellformed.proofs.LeadLemmas.{leads_here, leads_then}
use Rattle.wellformed.proofs.ReturnLemmas.{void_gives}
use Rattle.wellformed.proofs.ScopeLemmas.{declared_inner, declared_stands, last_within}
use Rattle.wellformed.specs.Told.{program_told}
use Rattle.wellformed.proofs.Standing.{Around, AreStanding, AreStaying, Grows, IsLocal, Within, declares, last_of}
use Rattle.wellformed.proofs.StatementLemmas.{statements_go}

-- the parameters of a method come into scope
params_within : (p : ProgramText) (params : List Parameter) (f : LocalFrame) (vs : List VariableModel) → Within vs (parameters_frame p params f) → Within vs f
params_within p [] f vs within = within
params_within p (x ∷ params) f vs within = declared_within p.text x.name (type_meant p x.ty) (type_held p x.ty) (role_of x) f vs (params_within p params (with_declaration p.text (parameter_declaration p x) f) vs within)

params_nest : (p : ProgramText) (params : List Parameter) (f : LocalFrame) → Nests f → Nests (parameters_frame p params f)
params_nest p [] f n = n
params_nest p (x ∷ params) f n = params_nest p params (with_declaration p.text (parameter_declaration p x) f) (declared_nests p.text x.name (type_meant p x.ty) (type_held p x.ty) (role_of x) f n)

params_stand : (p : ProgramText) (params : List Parameter) (vs : List VariableModel) (f : LocalFrame) (g : names.NameFrame) → AreStanding p vs f g → Within vs (parameters_frame p params f)
    → (parameters_turn p params g).found ≡ [] → AreStanding p vs (parameters_frame p params f) (parameters_turn p params g).frame
params_stand p [] vs f g standing within none = standing
params_stand p (x ∷ params) vs f g standing within none =
    let d = parameter_declaration p x in
    let next = parameter_turn p x g in
    let both = both_none next.found (parameters_turn p params next.frame).found none in
    let unknown = both_none (type_unknown p x.ty) (names.declared_variable p.text x.name (type_meant p x.ty) (is_heap x.ty) g).found both.0 in
    let known = type_known p x.ty unknown.0 in
    let after = declared_stands p vs x.name (type_meant p x.ty) (type_held p x.ty) (role_of x) (is_heap x.ty) f g (heap_block p x.ty unknown.0) known (held_as p (type_meant p x.ty) (state_in x.ty) known) standing (params_within p params (with_declaration p.text d f) vs within) unknown.1 in
    params_stand p params vs (with_declaration p.text d f) next.frame after within both.1

-- the contracts and states in the types of a program's variables exist
abbrev contracts : ProgramText → List ContractModel
contracts p = resolved_contracts p.text (contracts_of p.items)

abbrev AreTypes : ProgramText → List VariableModel → Type 0
AreTypes p vs = Each (λ v. IsType (contracts p) v.ty) vs

declared_type : (p : ProgramText) (name : Span) (k : declared_types.ValueType.ValueType) (role : Role) (state : Option Span) (o : Option HeapType) (f : LocalFrame) → heap_type p k state ≡ o → AreTypes p f.variables
    → AreTypes p (declared_as p.text (record { name = name; ty = k; held = o; role = role }) o f).variables
declared_type p name k role state None f is all = all
declared_type p name k role state (Some held) f is all = each_append (λ v. IsType (contracts p) v.ty) f.variables _ all (held_type p k held (record { state = state; is = is }), tt)

params_types : (p : ProgramText) (params : List Parameter) (f : LocalFrame) → AreTypes p f.variables → AreTypes p (parameters_frame p params f).variables
params_types p [] f all = all
params_types p (x ∷ params) f all =
    let d = parameter_declaration p x in
    params_types p params (with_declaration p.text d f) (declared_type p x.name (type_meant p x.ty) (role_of x) (state_in x.ty) (type_held p x.ty) f refl all)

local_types : (p : ProgramText) (vs : List VariableModel) → Each (IsLocal p) vs → AreTypes p vs
local_types p [] all = tt
local_types p (v ∷ vs) all = (held_type p all.0.ty v.ty all.0.held, local_types p vs all.1)

-- the body of a method
record BodyFits (s : Setting) (p : ProgramText) (class : ℕ) (b : BlockTree) (f : LocalFrame) : Type 0 where
  pub statements : AreStatements s (body_told p class b f).what (last_of (body_told p class b f).frame)
  pub few : length (body_told p class b f).frame.variables ≤ MOST_VARIABLES

number_within : (n : ℕ) (o : Option ℕ) → IfSome o (λ k. k < n) → IfSome (option_map number_of o) (λ v. v.0 < n)
number_within n None h = tt
number_within n (Some k) h = h

body_grows : (p : ProgramText) (class : ℕ) (b : BlockTree) (f : LocalFrame) → Grows p f (body_told p class b f).frame
body_grows p class (trees.Braces statements close) f = statements_grow p class (stays_here f) statements f

body_nests : (p : ProgramText) (class : ℕ) (b : BlockTree) (f : LocalFrame) → Nests f → Nests (body_told p class b f).frame
body_nests p class (trees.Braces statements close) f n = statements_nest p class (stays_here f) statements f n

-- the surroundings of the body
abbrev surrounds : ProgramText → ClassTree → Option tree.Type.Type → Surroundings
surrounds p c result = record { program = p; class = c; result = result; breaks = false; continues = false }

body_fits : (p : ProgramText) (c : ClassTree) (class : ℕ) (result : Option tree.Type.Type) (s : Setting) (b : BlockTree) (f : LocalFrame) (g : names.NameFrame) → Around p c class result s → AreStaying s f (stays_here f)
    → AreStanding p s.variables f g → Within s.variables (body_told p class b f).frame → (block_turn (surrounds p c result) b g).found ≡ [] → BodyFits s p class b f
body_fits p c class result s (trees.Braces statements close) f g around staying standing within none =
    let r = statements_go (surrounds p c result) class s around (stays_here f) statements f g standing staying within none in
    record { statements = r.fits; few = r.standing.few }

-- after the parameters of a method, all of them are in scope
abbrev AllInScope : List VariableModel → LocalFrame → Type 0
AllInScope vs f = (n : ℕ) → n < length f.variables → IsInScope vs (last_of f) (number_of n)

newest_or : (p : ProgramText) (vs : List VariableModel) (name : Span) (ty : declared_types.ValueType.ValueType) (held : HeapType) (role : Role) (f : LocalFrame) → Within vs (declares p.text name ty (Some held) role f)
    → AllInScope vs f → (n : ℕ) (b : Bool) → (n == length f.variables) ≡ b → n < length (declares p.text name ty (Some held) role f).variables
    → IsInScope vs (last_of (declares p.text name ty (Some held) role f)) (number_of n)
newest_or p vs name ty held role f within all n true newest below =
    let same = eqb-true n (length f.variables) newest in
    subst (λ k. IsInScope vs (last_of (declares p.text name ty (Some held) role f)) (number_of k)) (sym same) (leads_here vs (last_of (declares p.text name ty (Some held) role f)))
newest_or p vs name ty held role f within all n false older below =
    let differ : n ≢ length f.variables = λ same. (let equal = eq-eqb n (length f.variables) same in cc) in
    let before : n < length f.variables = omega (arith, length-append {A = VariableModel}) in
    leads_then vs (last_of (declares p.text name ty (Some held) role f)) (last_of f) (Some (number_of n)) (declared_inner p vs name ty (Some held) role f within) (all n before)

declared_in_scope : (p : ProgramText) (vs : List VariableModel) (name : Span) (ty : declared_types.ValueType.ValueType) (held : Option HeapType) (role : Role) (f : LocalFrame) → Within vs (declares p.text name ty held role f)
    → AllInScope vs f → AllInScope vs (declares p.text name ty held role f)
declared_in_scope p vs name ty None role f within all = all
declared_in_scope p vs name ty (Some held) role f within all = λ n below. newest_or p vs name ty held role f within all n (n == length f.variables) refl below

params_in_scope : (p : ProgramText) (params : List Parameter) (vs : List VariableModel) (f : LocalFrame) → Within vs (parameters_frame p params f) → AllInScope vs f → AllInScope vs (parameters_frame p params f)
params_in_scope p [] vs f within all = all
params_in_scope p (x ∷ params) vs f within all =
    let d = parameter_declaration p x in
    let next = declared_in_scope p vs x.name (type_meant p x.ty) (type_held p x.ty) (role_of x) f (params_within p params (with_declaration p.text d f) vs within) all in
    params_in_scope p params vs (with_declaration p.text d f) within next

-- no variable after the parameters of a method is a parameter
no_parameter : (p : ProgramText) (more : List VariableModel) (n : ℕ) (v : VariableModel) → Each (IsLocal p) more → slice_get more n ≡ Some v → is_parameter v.role ≡ true → ⊥
no_parameter p [] n v local at param = cc
no_parameter p (x ∷ more) zero v local at param = let same : x ≡ v = cc in let is : v.role ≡ role.Local = ap (λ y. y.role) (sym same) ∙ local.0.is in let none = ap is_parameter is in cc
no_parameter p (x ∷ more) (suc n) v local at param = no_parameter p more n v local.1 at param

parameter_before : (p : ProgramText) (first more : List VariableModel) (n : ℕ) (v : VariableModel) → Each (IsLocal p) more → slice_get (first ++ more) n ≡ Some v → is_parameter v.role ≡ true → n < length first
parameter_before p [] more n v local at param = absurd (no_parameter p more n v local at param)
parameter_before p (x ∷ first) more zero v local at param = omega arith
parameter_before p (x ∷ first) more (suc n) v local at param = let before = parameter_before p first more n v local at param in omega arith

-- a method without parameters has none of the exchange heap
no_parameters : (p : ProgramText) (class : ℕ) (params : List Parameter) (b : BlockTree) (n : ℕ) (v : VariableModel) (is : Bool) → takes_some params ≡ false
    → slice_get (body_told p class b (parameters_frame p params no_variables)).frame.variables n ≡ Some v → is_parameter v.role ≡ is → is ≡ false
no_parameters p class params b n v false none there is = refl
no_parameters p class (x ∷ params) b n v true none there is = cc
no_parameters p class [] b n v true none there is =
    let grows = body_grows p class b no_variables in
    let before = parameter_before p [] grows.more n v grows.local (subst (λ l. slice_get l n ≡ Some v) grows.is there) is in
    absurd (omega (arith, before))

pub all_bare : (p : ProgramText) → Each IsBare (methods_told p)
all_bare p = every_method IsBare p (λ class c m index there at. λ none n v is. no_parameters p class m.params m.body n v (is_parameter v.role) none is refl)

result_type : (p : ProgramText) (t : Option tree.Type.Type) (o : Option HeapType) → result_held p t ≡ o → IfSome o (IsType (contracts p))
result_type p t None is = tt
result_type p None (Some held) is = cc
result_type p (Some t) (Some held) is = held_type p (type_meant p t) held (record { state = state_in t; is = is })

-- a method of a class
method_fits : (p : ProgramText) (class : ℕ) (c : ClassTree) (m : MethodTree) (index : ℕ) → program_mistakes p ≡ [] → item_at as_class p class ≡ Some (class, c) → slice_get c.methods index ≡ Some m
    → IsWellFormed (program_told p) (method_told p class m)
method_fits p class c m index clean there at =
    let seen = method_told p class m in
    let vs = seen.variables in
    let opened = parameters_frame p m.params no_variables in
    let begins = last_of opened in
    let s = setting (program_told p) seen begins in
    let after = (body_told p class m.body opened).frame in
    let start : names.NameFrame = record { variables = []; heap = 0 } in
    let turns = method_clean p class c m index clean there at in
    let next = parameters_turn p m.params start in
    let both = both_none (option_map_or (type_unknown p) m.result []) (next.found ++ (block_turn (surrounds p c m.result) m.body next.frame).found) turns in
    let halves = both_none next.found (block_turn (surrounds p c m.result) m.body next.frame).found both.1 in
    let all : Within vs after = record { rest = []; is = sym (append-nil after.variables) } in
    let grows = body_grows p class m.body opened in
    let within = within_before p opened after vs grows all in
    let empty : Nests no_variables = record { nested = record { all = λ n v h. cc }; last = tt } in
    let opens = params_nest p m.params no_variables empty in
    let nests = body_nests p class m.body opened opens in
    let none_stands : AreStanding p vs no_variables start = record { same = refl; locals = tt; last = tt; ends = leads_here vs None; counted = refl; few = omega arith } in
    let standing = params_stand p m.params vs no_variables start none_stands within halves.0 in
    let around : Around p c class m.result s = record { clean = clean; class_is = there; contracts_are = refl; messages_are = refl; structs_are = refl; methods_are = refl; result_is = refl; result_known = both.0; nested = nests.nested } in
    let staying : AreStaying s opened (stays_here opened) = record { scope = refl; break_is = refl; continue_is = refl; at_break = leads_here vs begins; at_continue = leads_here vs begins } in
    let fits = body_fits p c class m.result s m.body opened next.frame around staying standing all halves.1 in
    let types = each_append (λ v. IsType (contracts p) v.ty) opened.variables grows.more (params_types p m.params no_variables tt) (local_types p grows.more grows.local) in
    let in_scope = params_in_scope p m.params vs no_variables within (λ n below. absurd (omega arith)) in
    record {
      result = result_type p m.result (result_held p m.result) refl;
      void = void_gives p m.result;
      types = subst (AreTypes p) (sym grows.is) types;
      few = fits.few;
      nested = nests.nested;
      begins = begins;
      begins_with = number_within (length vs) opened.last (last_within vs opened within opens.last);
      parameters = λ n v there param. in_scope n.0 (parameter_before p opened.variables grows.more n.0 v grows.local (subst (λ l. slice_get l n.0 ≡ Some v) grows.is there) param);
      statements = fits.statements;
    }

pub well_formed : (p : ProgramText) → program_mistakes p ≡ [] → AreWellFormed (program_told p)
well_formed p clean = record {
  messages_are = brought_types p;
  structs_are = fields_types p clean;
  methods_are = every_method (IsWellFormed (program_told p)) p (λ class c m index there at. method_fits p class c m index clean there at);
}
