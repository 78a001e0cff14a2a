-- The parameters of a method that are of the exchange heap.
use Rattle.std.proofs.Common.{◌≡◌, ℕ, Bool, true, false, ◌&&◌, ◌||◌, not, List, [], ◌∷◌, ◌++◌, map, cond, if◌then◌else◌, sym, refl, ap, ◌∙◌, subst, append_assoc, append-nil}
use Rattle.std.proofs.lemmas.List.{map-append}
use Rattle.std.proofs.lemmas.List.Elements.{filter-append}
use Rattle.std.specs.List.{filter, flat_map}
use Rattle.std.specs.Option.{option_map_or}
use Rattle.std.specs.Prelude.{Option, None, Some}
use Rattle.tree.specs.StatementTrees as trees
use Rattle.tree.specs.StatementTrees.{BlockTree}
use Rattle.tree.specs.Trees.{MethodTree}
use Rattle.tree.specs.declared.class.Parameter.{Parameter}
use Rattle.tree.specs.declared.types as tree
use Rattle.tree.specs.declared.types.Type.TheVariants as type
use Rattle.declarations.specs.Types.{is_heap, type_unknown}
use Rattle.declarations.specs.Program.{ProgramText}
use Rattle.declarations.specs.Owning.{any_lent, is_lent}
use Rattle.program.specs.Methods.{VariableModel}
use Rattle.program.specs.declared.types.HeapType.{HeapType}
use Rattle.program.specs.declared.method.Role.{Role}
use Rattle.program.specs.declared.method.Role.TheVariants as role
use Rattle.resolving.specs.Types.{type_held}
use Rattle.resolving.specs.Locals.{LocalFrame, with_declaration, declared_as}
use Rattle.resolving.specs.Methods.{body_told, method_told, no_variables, parameter_declaration, parameters_frame, role_of}
use Rattle.resolving.specs.Staying.{stays_here}
use Rattle.program.specs.Lists.{Each}
use Rattle.program.specs.WellFormed.{is_claimed, is_parameter, parameters}
use Rattle.wellformed.proofs.GrowthLemmas.{statements_grow}
use Rattle.wellformed.proofs.ListLemmas.{each_append}
use Rattle.wellformed.proofs.PlaceLemmas.{mapped_each}
use Rattle.wellformed.proofs.Standing.{IsLocal, heading}

-- the parameters among variables, and what they hold, with their roles
abbrev passed : List VariableModel → List VariableModel
passed vs = filter (λ v. is_parameter v.role) vs

abbrev headed : List VariableModel → List (HeapType × Role)
headed vs = map (λ v. (v.ty, v.role)) (passed vs)

headed_append : (vs ws : List VariableModel) → headed (vs ++ ws) ≡ headed vs ++ headed ws
headed_append vs ws = ap (map (λ v. (v.ty, v.role))) (filter-append (λ v. is_parameter v.role) vs ws) ∙ map-append (λ v. (v.ty, v.role)) (passed vs) (passed ws)

-- the role of a parameter
abbrev as_role : Bool → Role
as_role claims = if claims then role.Claimed else role.Lent

-- a variable of such a role is a parameter
abbrev held_by : HeapType → Role → List (HeapType × Role)
held_by k r = (k, r) ∷ []

headed_one : (claims : Bool) (v : VariableModel) → v.role ≡ as_role claims → headed (v ∷ []) ≡ held_by v.ty (as_role claims)
headed_one true v is = ap (λ r. map (λ w. (w.ty, w.role)) (cond (is_parameter r) (v ∷ []) [])) is ∙ ap (held_by v.ty) is
headed_one false v is = ap (λ r. map (λ w. (w.ty, w.role)) (cond (is_parameter r) (v ∷ []) [])) is ∙ ap (held_by v.ty) is

-- variables that are no parameters have no headings
headed_none : (p : ProgramText) (vs : List VariableModel) → Each (IsLocal p) vs → headed vs ≡ []
headed_none p [] all = refl
headed_none p (v ∷ vs) all = ap (λ r. map (λ w. (w.ty, w.role)) (cond (is_parameter r) (v ∷ passed vs) (passed vs))) all.0.is ∙ headed_none p vs all.1

-- one parameter more
headed_declared : (p : ProgramText) (x : Parameter) (f : LocalFrame) (o : Option HeapType)
    → headed (declared_as p.text (parameter_declaration p x) o f).variables ≡ headed f.variables ++ option_map_or (λ k. (k, role_of x) ∷ []) o []
headed_declared p x f None = sym (append-nil (headed f.variables))
headed_declared p x f (Some held) = headed_append f.variables _ ∙ ap (λ l. headed f.variables ++ l) (headed_one x.claims _ refl)

-- all parameters
headed_all : (p : ProgramText) (params : List Parameter) (f : LocalFrame) → headed (parameters_frame p params f).variables ≡ headed f.variables ++ flat_map (heading p) params
headed_all p [] f = sym (append-nil (headed f.variables))
headed_all p (x ∷ params) f =
    headed_all p params (with_declaration p.text (parameter_declaration p x) f)
    ∙ ap (λ l. l ++ flat_map (heading p) params) (headed_declared p x f (type_held p x.ty))
    ∙ append_assoc (headed f.variables) (heading p x) (flat_map (heading p) params)

-- The body of a method declares no parameters.
headed_body : (p : ProgramText) (class : ℕ) (b : BlockTree) (f : LocalFrame) → headed (body_told p class b f).frame.variables ≡ headed f.variables
headed_body p class (trees.Braces statements close) f =
    let grows = statements_grow p class (stays_here f) statements f in
    ap headed grows.is ∙ headed_append f.variables grows.more ∙ ap (λ l. headed f.variables ++ l) (headed_none p grows.more grows.local) ∙ append-nil (headed f.variables)

pub parameters_are : (p : ProgramText) (class : ℕ) (m : MethodTree) → map (λ v. (v.ty, v.role)) (parameters (method_told p class m)) ≡ flat_map (heading p) m.params
parameters_are p class m = headed_body p class m.body (parameters_frame p m.params no_variables) ∙ headed_all p m.params no_variables

-- a parameter that is not lent is claimed
abbrev AreClaimed : List (HeapType × Role) → Type 0
AreClaimed list = Each (λ q. is_claimed q.1 ≡ true) list

claimed_held : (claims : Bool) (o : Option HeapType) → not claims ≡ false → AreClaimed (option_map_or (λ k. (k, as_role claims) ∷ []) o [])
claimed_held false o none = cc
claimed_held true None none = tt
claimed_held true (Some k) none = (refl, tt)

claimed_typed : (p : ProgramText) (claims : Bool) (t : tree.Type.Type) → (is_heap t && not claims) ≡ false → AreClaimed (option_map_or (λ k. (k, as_role claims) ∷ []) (type_held p t) [])
claimed_typed p claims (type.Scalar s) none = tt
claimed_typed p claims (type.Heap h) none = claimed_held claims (type_held p (type.Heap h)) none

either_false : (a b : Bool) → (a || b) ≡ false → (a ≡ false) × (b ≡ false)
either_false true b none = cc
either_false false b none = (refl, none)

claimed_all : (p : ProgramText) (params : List Parameter) → any_lent params ≡ false → AreClaimed (flat_map (heading p) params)
claimed_all p [] none = tt
claimed_all p (x ∷ params) none =
    let both = either_false (is_lent x) (any_lent params) none in
    each_append (λ q. is_claimed q.1 ≡ true) (heading p x) (flat_map (heading p) params) (claimed_typed p x.claims x.ty both.0) (claimed_all p params both.1)

-- if none is lent, all are claimed
pub all_claimed : (p : ProgramText) (class : ℕ) (m : MethodTree) → Each (λ x. type_unknown p x.ty ≡ []) m.params → any_lent m.params ≡ false
    → Each (λ v. is_claimed v.role ≡ true) (parameters (method_told p class m))
all_claimed p class m known none =
    mapped_each (λ q. is_claimed q.1 ≡ true) (λ v. (v.ty, v.role)) (parameters (method_told p class m)) (subst AreClaimed (sym (parameters_are p class m)) (claimed_all p m.params none))
