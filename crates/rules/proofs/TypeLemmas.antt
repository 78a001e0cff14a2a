-- The types of the parameters of a method, variable by variable.
use Rattle.std.proofs.Common.{◌≡◌, ℕ, ◌+◌, ◌<◌, ◌≤◌, Bool, true, false, cond, List, [], ◌∷◌, ◌++◌, length, drop, filter, map, slice_index_or, if◌then◌else◌, refl, sym, ap, ◌∙◌, append-nil, append_assoc, slice_get, Option, Some, None, Vec}
use Rattle.std.specs.Global.{Global}
use Rattle.std.specs.Option.{option_map, option_map_or}
use Rattle.std.proofs.lemmas.Option.{slice_get-map}
use Rattle.std.proofs.lemmas.List.{at_drop_all, at_drop_more}
use Rattle.program.specs.Methods.{MethodModel, VariableModel, variable_model}
use Rattle.program.specs.Programs.{type_lists}
use Rattle.program.specs.WellFormed.{is_parameter, parameters}
use Rattle.program.specs.declared.types.HeapType.{HeapType}
use Rattle.program.specs.declared.method.Variable.{Variable}

-- the types of the parameters among variables
abbrev pub types_in : List Variable → List HeapType
types_in variables = map (λ v. v.ty) (filter (λ v. is_parameter v.role) (map variable_model variables))

abbrev rest : List Variable → List VariableModel
rest variables = filter (λ v. is_parameter v.role) (map variable_model variables)

types_front : (v : Variable) (variables : List Variable) (b : Bool) → is_parameter v.role ≡ b → types_in (v ∷ variables) ≡ (if b then v.ty ∷ [] else []) ++ types_in variables
types_front v variables true is = ap (λ (b : Bool). map (λ (x : VariableModel). x.ty) (cond b (variable_model v ∷ rest variables) (rest variables))) is
types_front v variables false is = ap (λ (b : Bool). map (λ (x : VariableModel). x.ty) (cond b (variable_model v ∷ rest variables) (rest variables))) is

-- the first `done` variables were looked at, and their parameters have the types `found`
pub record Listed (variables : List Variable) (done : ℕ) (found : List HeapType) : Type 0 where
  pub same : types_in variables ≡ found ++ types_in (drop done variables)

pub listed_first : (variables : List Variable) → Listed variables 0 []
listed_first variables = record { same = refl }

listed_on : (variables : List Variable) (done : ℕ) (x : Variable) (found : List HeapType) (b : Bool) → done < length variables → slice_index_or variables done x ≡ x → is_parameter x.role ≡ b → Listed variables done found
    → types_in variables ≡ found ++ ((if b then x.ty ∷ [] else []) ++ types_in (drop (done + 1) variables))
listed_on variables done x found b lt at is h =
    h.same ∙ ap (λ l. found ++ l) (at_drop_more types_in variables done x lt ∙ ap (λ v. types_in (v ∷ drop (done + 1) variables)) at ∙ types_front x (drop (done + 1) variables) b is)

-- the next one is a parameter
pub listed_more : (variables : List Variable) (done : ℕ) (x : Variable) (found : List HeapType) → done < length variables → slice_index_or variables done x ≡ x → is_parameter x.role ≡ true → Listed variables done found → Listed variables (done + 1) (found ++ x.ty ∷ [])
listed_more variables done x found lt at is h = record { same = listed_on variables done x found true lt at is h ∙ sym (append_assoc found (x.ty ∷ []) _) }

-- the next one is not
pub listed_less : (variables : List Variable) (done : ℕ) (x : Variable) (found : List HeapType) → done < length variables → slice_index_or variables done x ≡ x → is_parameter x.role ≡ false → Listed variables done found → Listed variables (done + 1) found
listed_less variables done x found lt at is h = record { same = listed_on variables done x found false lt at is h }

-- all were looked at
pub listed_all : (variables : List Variable) (done : ℕ) (found : List HeapType) → length variables ≤ done → Listed variables done found → found ≡ types_in variables
listed_all variables done found le h = sym (h.same ∙ ap (λ l. found ++ l) (at_drop_all types_in variables done le) ∙ append-nil found)

-- the types that each method takes
abbrev pub taken : List MethodModel → List (List HeapType)
taken methods = map (λ m. map (λ v. v.ty) (parameters m)) methods

read_types : (o : Option MethodModel) → option_map_or (λ m. map (λ v. v.ty) (parameters m)) o [] ≡ option_map_or (λ (types : List HeapType). types) (option_map (λ m. map (λ v. v.ty) (parameters m)) o) []
read_types None = refl
read_types (Some m) = refl

types_at : (listed : List (Vec HeapType Global)) (methods : List MethodModel) (n : ℕ) → type_lists listed ≡ taken methods
    → option_map_or (λ m. map (λ v. v.ty) (parameters m)) (slice_get methods n) [] ≡ option_map_or (λ (types : List HeapType). types) (option_map (λ (types : Vec HeapType Global). types.items) (slice_get listed n)) []
types_at listed methods n are =
    read_types (slice_get methods n)
    ∙ ap (λ o. option_map_or (λ (types : List HeapType). types) o []) (sym (slice_get-map (λ m. map (λ v. v.ty) (parameters m)) methods n) ∙ ap (λ l. slice_get l n) (sym are) ∙ slice_get-map (λ (types : Vec HeapType Global). types.items) listed n)

pub types_there : (listed : List (Vec HeapType Global)) (methods : List MethodModel) (n : ℕ) (types : Vec HeapType Global) → type_lists listed ≡ taken methods → slice_get listed n ≡ Some types → types.items ≡ option_map_or (λ m. map (λ v. v.ty) (parameters m)) (slice_get methods n) []
types_there listed methods n types are there = sym (types_at listed methods n are ∙ ap (λ o. option_map_or (λ (x : List HeapType). x) (option_map (λ (x : Vec HeapType Global). x.items) o) []) there)

pub types_past : (listed : List (Vec HeapType Global)) (methods : List MethodModel) (n : ℕ) → type_lists listed ≡ taken methods → slice_get listed n ≡ None → [] ≡ option_map_or (λ m. map (λ v. v.ty) (parameters m)) (slice_get methods n) []
types_past listed methods n are past = sym (types_at listed methods n are ∙ ap (λ o. option_map_or (λ (x : List HeapType). x) (option_map (λ (x : Vec HeapType Global). x.items) o) []) past)
