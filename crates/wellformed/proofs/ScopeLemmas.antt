-- Declared variables come into scope, and go out of it at the end of their block.
use Rattle.std.proofs.Common.{◌≡◌, ◌≢◌, ◌==◌, ◌+◌, ℕ, ◌<◌, ◌≤◌, Bool, true, false, List, [], ◌∷◌, ◌++◌, length, map, if◌then◌else◌, is_some, refl, sym, ap, ◌∙◌, subst, append_assoc, arith, length-append, eq-eqb}
use Rattle.std.proofs.lemmas.Option.{slice_get-map}
use Rattle.std.specs.Prelude.{Option, None, Some, option_and_then, option_map, slice_get, IfSome, IsSomeAnd}
use Rattle.source.specs.declared.token.Span.{Span}
use Rattle.declarations.specs.Declarations.{first_among}
use Rattle.declarations.specs.Program.{ProgramText}
use Rattle.names.specs.Variables as names
use Rattle.declarations.specs.Listed.{limit_passed}
use Rattle.declarations.specs.declared.mistake.Limit.TheVariants as limit
use Rattle.declarations.specs.Types.{is_block}
use Rattle.names.specs.Variables.{variable_named, declared_variable, past_heap}
use Rattle.declarations.specs.declared.value_type.ValueType.TheVariants as types
use Rattle.declarations.specs.declared.value_type.ValueType.{ValueType}
use Rattle.program.specs.Methods.{VariableModel}
use Rattle.program.specs.declared.types as held
use Rattle.program.specs.declared.method.Role.{Role}
use Rattle.program.specs.declared.number.VarId.{VarId}
use Rattle.resolving.specs.Locals.{Local, LocalFrame, local_named, number_of, after_block}
use Rattle.program.specs.Lists.{Each}
use Rattle.program.specs.Scopes as scopes
use Rattle.program.specs.Scopes.{LeadsOut, IsLocalBehind, outer_of}
use Rattle.program.specs.declared.limits.TheConstants.{MOST_VARIABLES}
use Rattle.program.specs.declared.method.Role.TheVariants as roles
use Rattle.wellformed.proofs.GrowthLemmas.{still_below}
use Rattle.wellformed.proofs.LeadLemmas.{grows_none, leads_here, leads_then}
use Rattle.wellformed.proofs.ListLemmas.{both_none, each_append}
use Rattle.wellformed.proofs.Standing.{IsInside, IsKnown, IsHeldAs, IsHeld, Stands, AreStanding, Grows, Within, declares, named, last_of}

-- the names of variables are those of their names and types
names_same : (locals : List Local) → map (λ v. v.name) (map named locals) ≡ map (λ l. l.name) locals
names_same [] = refl
names_same (l ∷ locals) = ap (λ ns. l.name ∷ ns) (names_same locals)

at_same : (locals : List Local) (index : Option ℕ) → option_and_then (slice_get (map named locals)) index ≡ option_map named (option_and_then (slice_get locals) index)
at_same locals None = refl
at_same locals (Some n) = slice_get-map named locals n

-- a name means the same among variables and among their names and types
pub same_named : (text : List ℕ) (locals : List Local) (name : Span) → variable_named text (map named locals) name ≡ option_map named (local_named text locals name)
same_named text locals name = ap (λ ns. option_and_then (slice_get (map named locals)) (first_among text ns name)) (names_same locals) ∙ at_same locals (first_among text (map (λ l. l.name) locals) name)

-- the element after these
here_get : {X : Type 0} → (xs : List X) (x : X) (ys : List X) → slice_get (xs ++ x ∷ ys) (length xs) ≡ Some x
here_get [] x ys = refl
here_get (y ∷ xs) x ys = here_get xs x ys

-- the declared variable is the method's
declared_there : (vs xs : List VariableModel) (x : VariableModel) (rest : List VariableModel) → vs ≡ (xs ++ x ∷ []) ++ rest → slice_get vs (length xs) ≡ Some x
declared_there vs xs x rest is = ap (λ ys. slice_get ys (length xs)) (is ∙ append_assoc xs (x ∷ []) rest) ∙ here_get xs x rest

-- the variable outside it is the last one that was in scope
pub declared_outer : (p : ProgramText) (vs : List VariableModel) (name : Span) (ty : ValueType) (held : held.HeapType.HeapType) (role : Role) (f : LocalFrame) → Within vs (declares p.text name ty (Some held) role f)
    → outer_of vs (number_of (length f.variables)) ≡ last_of f
declared_outer p vs name ty held role f within = ap (λ x. option_and_then (λ v. v.outer) x) (declared_there vs f.variables _ within.rest within.is)

-- it is no parameter
pub declared_local : (p : ProgramText) (vs : List VariableModel) (name : Span) (ty : ValueType) (held : held.HeapType.HeapType) (f : LocalFrame) → Within vs (declares p.text name ty (Some held) roles.Local f)
    → IsLocalBehind vs (number_of (length f.variables)) (λ outer. outer ≡ last_of f)
declared_local p vs name ty held f within =
    subst (λ o. IsSomeAnd o (λ x. (x.role ≡ roles.Local) × (x.outer ≡ last_of f))) (sym (declared_there vs f.variables _ within.rest within.is)) (refl, refl)

-- the scope grows by it
pub declared_grows : (p : ProgramText) (vs : List VariableModel) (name : Span) (ty : ValueType) (held : Option held.HeapType.HeapType) (f : LocalFrame) → Within vs (declares p.text name ty held roles.Local f)
    → scopes.Grows vs (last_of f) (last_of (declares p.text name ty held roles.Local f))
declared_grows p vs name ty None f within = grows_none vs (last_of f) (last_of f) refl
declared_grows p vs name ty (Some held) f within = record {
  count = 1;
  by = subst (λ o. IsSomeAnd o (λ x. (x.role ≡ roles.Local) × (last_of f ≡ x.outer))) (sym (declared_there vs f.variables _ within.rest within.is)) (refl, refl);
}

-- it comes right before those that were in scope
pub declared_inner : (p : ProgramText) (vs : List VariableModel) (name : Span) (ty : ValueType) (held : Option held.HeapType.HeapType) (role : Role) (f : LocalFrame) → Within vs (declares p.text name ty held role f)
    → LeadsOut vs (last_of (declares p.text name ty held role f)) (last_of f)
declared_inner p vs name ty None role f within = leads_here vs (last_of f)
declared_inner p vs name ty (Some held) role f within = record { steps = 1; is = declared_outer p vs name ty held role f within }

-- a variable comes into scope unless its name is there already
same_entered : (b : Bool) (ls : List Local) (l : Local) → map named (if b then ls else ls ++ l ∷ []) ≡ (if b then map named ls else map named ls ++ named l ∷ [])
same_entered true ls l = refl
same_entered false [] l = refl
same_entered false (x ∷ ls) l = ap (λ xs. named x ∷ xs) (same_entered false ls l)

each_entered : (P : Local → Type 0) (b : Bool) (ls : List Local) (l : Local) → Each P ls → P l → Each P (if b then ls else ls ++ l ∷ [])
each_entered P true ls l all one = all
each_entered P false ls l all one = each_append P ls (l ∷ []) all (one, tt)

is_some_map : {X Y : Type 0} → (f : X → Y) → (o : Option X) → is_some (option_map f o) ≡ is_some o
is_some_map f None = refl
is_some_map f (Some x) = refl

entered_same : (text : List ℕ) (name : Span) (ls : List Local) (vs : List names.ScopeVariable) (l : Local) → map named ls ≡ vs
    → map named (if is_some (local_named text ls name) then ls else ls ++ l ∷ []) ≡ (if is_some (variable_named text vs name) then vs else vs ++ named l ∷ [])
entered_same text name ls vs l same =
    let entered = same_entered (is_some (local_named text ls name)) ls l in
    let taken = ap is_some (same_named text ls name) ∙ is_some_map named (local_named text ls name) in
    let alike = entered ∙ sym (ap (λ b. if b then map named ls else map named ls ++ named l ∷ []) taken) in
    subst (λ xs. map named (if is_some (local_named text ls name) then ls else ls ++ l ∷ []) ≡ (if is_some (variable_named text xs name) then xs else xs ++ named l ∷ [])) same alike

-- what was in scope is in scope after it
inside_then : (vs : List VariableModel) (a b : Option VarId) (o : Option ℕ) → LeadsOut vs b a → IsInside vs a o → IsInside vs b o
inside_then vs a b None leads inside = tt
inside_then vs a b (Some n) leads inside = leads_then vs b a (Some (number_of n)) leads inside

stands_then : (p : ProgramText) (vs : List VariableModel) (a b : Option VarId) (ls : List Local) → LeadsOut vs b a → Each (Stands p vs a) ls → Each (Stands p vs b) ls
stands_then p vs a b [] leads all = tt
stands_then p vs a b (l ∷ ls) leads all =
    (record { known = all.0.known; numbered = all.0.numbered; inside = inside_then vs a b l.number leads all.0.inside }, stands_then p vs a b ls leads all.1)

-- a type is that of a block if a variable of it holds something
pub block_held : (p : ProgramText) (k : ValueType) (held : held.HeapType.HeapType) → IsHeld p k held → is_block k ≡ true
block_held p (types.Pointer n) held is = refl
block_held p (types.Array element) held is = refl
block_held p (types.Endpoint side n) held is = refl
block_held p (types.Scalar x) held is = let none = is.is in cc
block_held p types.Missing held is = let none = is.is in cc
block_held p types.Unknown held is = let none = is.is in cc

not_most : (name : Span) (heap : ℕ) (n : ℕ) (b : Bool) → (heap == MOST_VARIABLES) ≡ b → (if b then limit_passed limit.Variables name else []) ≡ [] → heap ≡ n → n ≤ MOST_VARIABLES → n < MOST_VARIABLES
not_most name heap n true is none same few = cc
not_most name heap n false is none same few = let differ : n ≢ MOST_VARIABLES = λ equal. (let full = eq-eqb heap MOST_VARIABLES (same ∙ equal) in cc) in omega arith

not_past : (name : Span) (heap : ℕ) (n : ℕ) → past_heap name heap ≡ [] → heap ≡ n → n ≤ MOST_VARIABLES → n < MOST_VARIABLES
not_past name heap n none is few = not_most name heap n (heap == MOST_VARIABLES) refl none is few

-- a declared variable comes into scope
pub declared_stands : (p : ProgramText) (vs : List VariableModel) (name : Span) (ty : ValueType) (held : Option held.HeapType.HeapType) (role : Role) (heap : Bool) (f : LocalFrame) (g : names.NameFrame)
    → heap ≡ is_block ty → IsKnown p ty → IsHeldAs p ty held → AreStanding p vs f g → Within vs (declares p.text name ty held role f)
    → (declared_variable p.text name ty heap g).found ≡ [] → AreStanding p vs (declares p.text name ty held role f) (declared_variable p.text name ty heap g).frame
declared_stands p vs name ty None role heap f g block known holds standing within none = record {
  same = entered_same p.text name f.locals g.variables (record { name = name; ty = ty; number = None }) standing.same;
  locals = each_entered (Stands p vs (last_of f)) (is_some (local_named p.text f.locals name)) f.locals (record { name = name; ty = ty; number = None }) standing.locals
      (record { known = known; numbered = holds; inside = tt });
  last = standing.last;
  ends = standing.ends;
  counted = ap (λ (b : Bool). if b then g.heap + 1 else g.heap) (block ∙ holds) ∙ standing.counted;
  few = standing.few;
}
declared_stands p vs name ty (Some held) role heap f g block known holds standing within none =
    let l : Local = record { name = name; ty = ty; number = Some (length f.variables) } in
    let there = subst (λ o. IsSomeAnd o (λ v. IsHeld p ty v.ty)) (sym (declared_there vs f.variables _ within.rest within.is)) holds in
    let heaped : heap ≡ true = block ∙ block_held p ty held holds in
    let past = both_none (if heap then past_heap name g.heap else []) _ none in
    let below = not_past name g.heap (length f.variables) (subst (λ (b : Bool). (if b then past_heap name g.heap else []) ≡ []) heaped past.0) standing.counted standing.few in
    let last = last_of (declares p.text name ty (Some held) role f) in
    record {
      same = entered_same p.text name f.locals g.variables l standing.same;
      locals = each_entered (Stands p vs last) (is_some (local_named p.text f.locals name)) f.locals l
          (stands_then p vs (last_of f) last f.locals (declared_inner p vs name ty (Some held) role f within) standing.locals)
          (record { known = known; numbered = there; inside = leads_here vs last });
      last = omega (arith, length-append {A = VariableModel});
      ends = leads_then vs _ (last_of f) None (declared_inner p vs name ty (Some held) role f within) standing.ends;
      counted = let same = standing.counted in ap (λ (b : Bool). if b then g.heap + 1 else g.heap) heaped ∙ omega (arith, length-append {A = VariableModel});
      few = omega (arith, length-append {A = VariableModel});
    }

-- what was declared since is no longer in scope
pub closed_stands : (p : ProgramText) (vs : List VariableModel) (f after : LocalFrame) (g behind : names.NameFrame)
    → AreStanding p vs f g → Grows p f after → AreStanding p vs after behind → AreStanding p vs (after_block f after) (record { variables = g.variables; heap = behind.heap })
closed_stands p vs f after g behind standing grows inner = record {
  same = standing.same;
  locals = standing.locals;
  last = still_below f.variables grows.more after.variables f.last grows.is standing.last;
  ends = standing.ends;
  counted = inner.counted;
  few = inner.few;
}

-- the last variable in scope is one of the method
pub last_within : (vs : List VariableModel) (f : LocalFrame) → Within vs f → IfSome f.last (λ n. n < length f.variables) → IfSome f.last (λ n. n < length vs)
last_within vs f within last = still_below f.variables within.rest vs f.last within.is last
