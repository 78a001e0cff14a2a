-- The owning fields of structs, by the numbers of the structs: few, and the contracts and states in their types exist.
use Rattle.declarations.specs.declared.mistake.Limit.TheVariants as limit
use Rattle.std.proofs.Common.{◌≡◌, ℕ, zero, suc, ◌+◌, ◌≤◌, List, [], ◌∷◌, ◌++◌, length, map, refl, ap, ◌∙◌, arith, length-append}
use Rattle.std.proofs.lemmas.List.{length-map}
use Rattle.std.proofs.lemmas.Option.{slice_get-map}
use Rattle.std.specs.List.{filter, flat_map}
use Rattle.std.specs.Option.{option_map_or}
use Rattle.std.specs.Prelude.{Option, None, Some, option_map, slice_get, take}
use Rattle.source.specs.declared.token.Span.{Span}
use Rattle.tree.specs.Trees as trees
use Rattle.tree.specs.Trees.{DefinitionTree, ItemTree, StructTree, contracts_of}
use Rattle.tree.specs.declared.class.Field.{Field}
use Rattle.tree.specs.declared.contract.MessageParameter.{MessageParameter}
use Rattle.tree.specs.declared.item.Access.{Access}
use Rattle.tree.specs.declared.types as type_nodes
use Rattle.tree.specs.declared.types.Type.TheVariants as type
use Rattle.names.specs.Findings.{definition_mistakes, program_mistakes}
use Rattle.declarations.specs.declared.mistake.Mistake.{Mistake}
use Rattle.declarations.specs.Types.{is_heap, type_meant, type_unknown}
use Rattle.declarations.proofs.ReadyLemmas.{not_past}
use Rattle.declarations.specs.Listed.{past_limit, twice_among}
use Rattle.declarations.specs.ItemMistakes.{struct_mistakes}
use Rattle.declarations.specs.Program.{ProgramText, as_struct, item_at}
use Rattle.declarations.specs.Resolution.{resolved_contracts}
use Rattle.declarations.specs.Owning.{owning_fields}
use Rattle.declarations.specs.declared.value_type as names
use Rattle.program.specs.Lists.{Each}
use Rattle.program.specs.WellFormed.{AreFields, IsType, field_types}
use Rattle.program.specs.declared.types as held
use Rattle.program.specs.declared.limits.TheConstants.{MOST_FIELDS}
use Rattle.resolving.specs.Brought.{held_listed, params_held}
use Rattle.resolving.specs.Counts.{struct_among, structs_before, structs_of}
use Rattle.resolving.specs.Fields.{fields_held, structs_told}
use Rattle.resolving.specs.Types.{type_held}
use Rattle.wellformed.proofs.BroughtLemmas.{types_meant}
use Rattle.wellformed.proofs.HeapTypeLemmas.{struct_of}
use Rattle.wellformed.proofs.ListLemmas.{both_none, each_append}
use Rattle.wellformed.proofs.MethodNumberLemmas.{Declares, struct_item}
use Rattle.wellformed.proofs.PlaceLemmas.{each_none, slice_behind}
use Rattle.wellformed.proofs.ProgramLemmas.{item_clean, items_clean}

-- the mistakes in the types of a struct's fields
abbrev pub types_unknown : ProgramText → List Field → List Mistake
types_unknown p fields = flat_map (λ f. type_unknown p f.ty) fields

-- the structs among the items have no mistakes
struct_none : (p : ProgramText) (d : DefinitionTree) → definition_mistakes p d ≡ [] → Each (λ s. struct_mistakes p s ≡ []) (struct_among d)
struct_none p (trees.Contract c) none = tt
struct_none p (trees.Struct s) none = (none, tt)
struct_none p (trees.Class c) none = tt

structs_none : (p : ProgramText) (items : List ItemTree) → flat_map (λ i. definition_mistakes p i.definition) items ≡ []
    → Each (λ s. struct_mistakes p s ≡ []) (structs_of items)
structs_none p [] none = tt
structs_none p (i ∷ items) none =
    let both = both_none (definition_mistakes p i.definition) (flat_map (λ x. definition_mistakes p x.definition) items) none in
    each_append (λ s. struct_mistakes p s ≡ []) (struct_among i.definition) (structs_of items) (struct_none p i.definition both.0) (structs_none p items both.1)

-- a struct without mistakes has few owning fields, and their types are known
record IsStruct (p : ProgramText) (s : StructTree) : Type 0 where
  known : Each (λ f. type_unknown p f.ty ≡ []) s.fields
  few : length (owning_fields s) ≤ MOST_FIELDS

struct_is : (p : ProgramText) (s : StructTree) → struct_mistakes p s ≡ [] → IsStruct p s
struct_is p s none =
    let names = map (λ (f : Field). f.name) (owning_fields s) in
    let behind = both_none (twice_among p.text (map (λ (f : Field). f.name) s.fields)) (types_unknown p s.fields ++ past_limit limit.Fields names) none in
    let both = both_none (types_unknown p s.fields) (past_limit limit.Fields names) behind.1 in
    let few = not_past limit.Fields names both.1 in
    record {
      known = each_none (λ f. type_unknown p f.ty) s.fields both.0;
      few = omega (arith, few, length-map (owning_fields s) (λ (f : Field). f.name));
    }

-- no more fields hold something than have types of the exchange heap
listed_few : (o : Option held.HeapType.HeapType) (n m : ℕ) → n ≤ m → length (held_listed o) + n ≤ suc m
listed_few None n m le = omega (arith, le)
listed_few (Some h) n m le = omega (arith, le)

held_few : (p : ProgramText) (fields : List Field) → length (fields_held p fields) ≤ length (filter (λ f. is_heap f.ty) fields)
held_few p [] = omega arith
held_few p (f ∷ fields) = by f.access f.ty f.name (held_few p fields)
  where
    by : (a : Option Access) (t : type_nodes.Type.Type) (n : Span) → length (fields_held p fields) ≤ length (filter (λ g. is_heap g.ty) fields)
        → length (held_listed (type_held p t) ++ fields_held p fields) ≤ length (filter (λ g. is_heap g.ty) (record { access = a; ty = t; name = n } ∷ fields))
    by a (type.Scalar s) n le = le
    by a (type.Heap h) n le =
        let more = listed_few (type_held p (type.Heap h)) (length (fields_held p fields)) (length (filter (λ g. is_heap g.ty) fields)) le in
        omega (arith, more, length-append (held_listed (type_held p (type.Heap h))) (fields_held p fields))

-- the contracts and states in the types of owning fields exist
held_types : (p : ProgramText) (fields : List Field) → Each (IsType (resolved_contracts p.text (contracts_of p.items))) (fields_held p fields)
held_types p [] = tt
held_types p (f ∷ fields) = each_append (IsType (resolved_contracts p.text (contracts_of p.items))) (held_listed (type_held p f.ty)) (fields_held p fields)
    (types_meant p f.ty (type_held p f.ty) refl) (held_types p fields)

structs_types : (p : ProgramText) (structs : List StructTree) → Each (λ s. struct_mistakes p s ≡ []) structs
    → Each (AreFields (resolved_contracts p.text (contracts_of p.items))) (map (λ s. fields_held p s.fields) structs)
structs_types p [] none = tt
structs_types p (s ∷ structs) none =
    let is = struct_is p s none.0 in
    let few = is.few in
    (record { few = omega (arith, few, held_few p s.fields); types_are = held_types p s.fields }, structs_types p structs none.1)

pub fields_types : (p : ProgramText) → program_mistakes p ≡ [] → Each (AreFields (resolved_contracts p.text (contracts_of p.items))) (structs_told p)
fields_types p clean = structs_types p (structs_of p.items) (structs_none p p.items (items_clean p clean))

-- the types of the fields of a struct are known
pub fields_clean : (p : ProgramText) (n : ℕ) (s : StructTree) → program_mistakes p ≡ [] → item_at as_struct p n ≡ Some (n, s)
    → Each (λ f. type_unknown p f.ty ≡ []) s.fields
fields_clean p n s clean there =
    let is = struct_is p s (item_clean p n (trees.Struct s) clean (struct_item p n s there)) in
    is.known

-- the struct of a number
struct_there : (items : List ItemTree) (n : ℕ) (i : ItemTree) (s : StructTree) → slice_get items n ≡ Some i → i.definition ≡ trees.Struct s
    → slice_get (structs_of items) (structs_before items n) ≡ Some s
struct_there [] n i s there is = cc
struct_there (j ∷ items) zero i s there is =
    let same : j ≡ i = cc in
    ap (λ d. slice_get (struct_among d ++ structs_of items) 0) (ap (λ (x : ItemTree). x.definition) same ∙ is)
struct_there (j ∷ items) (suc n) i s there is =
    let own = struct_among j.definition in
    let on : structs_before (j ∷ items) (suc n) ≡ length own + structs_before items n = length-append own _ in
    ap (slice_get (own ++ structs_of items)) on ∙ slice_behind own (structs_of items) (structs_before items n) ∙ struct_there items n i s there is

-- the types of a struct's owning fields, by its number
pub types_of_struct : (p : ProgramText) (n : ℕ) (s : StructTree) → item_at as_struct p n ≡ Some (n, s)
    → field_types (structs_told p) (struct_of (structs_before p.items n)) ≡ fields_held p s.fields
types_of_struct p n s there =
    let d : Declares (slice_get p.items n) (trees.Struct s) = struct_item p n s there in
    let told = struct_there p.items n d.item s d.at d.is in
    ap (λ (o : Option (List held.HeapType.HeapType)). option_map_or (λ types. types) o [])
    (slice_get-map (λ x. fields_held p x.fields) (structs_of p.items) (structs_before p.items n) ∙ ap (option_map (λ (x : StructTree). fields_held p x.fields)) told)

-- A field as a parameter of a message: arguments for fields are arguments for these parameters.
abbrev pub as_param : Field → MessageParameter
as_param f = record { ty = f.ty; name = f.name }

abbrev pub as_params : StructTree → List MessageParameter
as_params s = map as_param (owning_fields s)

pub params_are : (p : ProgramText) (fields : List Field) → params_held p (map as_param (filter (λ f. is_heap f.ty) fields)) ≡ fields_held p fields
params_are p [] = refl
params_are p (f ∷ fields) = by f.access f.ty f.name (params_are p fields)
  where
    by : (a : Option Access) (t : type_nodes.Type.Type) (n : Span) → params_held p (map as_param (filter (λ g. is_heap g.ty) fields)) ≡ fields_held p fields
        → params_held p (map as_param (filter (λ g. is_heap g.ty) (record { access = a; ty = t; name = n } ∷ fields))) ≡ held_listed (type_held p t) ++ fields_held p fields
    by a (type.Scalar s) n more = more
    by a (type.Heap h) n more = ap (λ (ks : List held.HeapType.HeapType). held_listed (type_held p (type.Heap h)) ++ ks) more

pub asked_are : (p : ProgramText) (fields : List Field) → map (λ x. type_meant p x.ty) (map as_param fields) ≡ map (λ f. type_meant p f.ty) fields
asked_are p [] = refl
asked_are p (f ∷ fields) = ap (λ (ks : List names.ValueType.ValueType). type_meant p f.ty ∷ ks) (asked_are p fields)

pub params_known : (p : ProgramText) (fields : List Field) → Each (λ f. type_unknown p f.ty ≡ []) fields
    → Each (λ x. type_unknown p x.ty ≡ []) (map as_param (filter (λ f. is_heap f.ty) fields))
params_known p [] known = tt
params_known p (f ∷ fields) known = by f.access f.ty f.name known.0 (params_known p fields known.1)
  where
    by : (a : Option Access) (t : type_nodes.Type.Type) (n : Span) → type_unknown p t ≡ [] → Each (λ x. type_unknown p x.ty ≡ []) (map as_param (filter (λ g. is_heap g.ty) fields))
        → Each (λ x. type_unknown p x.ty ≡ []) (map as_param (filter (λ g. is_heap g.ty) (record { access = a; ty = t; name = n } ∷ fields)))
    by a (type.Scalar s) n known more = more
    by a (type.Heap h) n known more = (known, more)

-- The type of an owning field is at the number of owning fields before it.
pub field_at : (p : ProgramText) (fields : List Field) (k : ℕ) (f : Field) (h : held.HeapType.HeapType) → slice_get fields k ≡ Some f
    → type_held p f.ty ≡ Some h → slice_get (fields_held p fields) (length (fields_held p (take k fields))) ≡ Some h
field_at p [] k f h there is = cc
field_at p (g ∷ fields) zero f h there is =
    let same : type_held p g.ty ≡ Some h = ap (λ (o : Option Field). option_map_or (λ x. type_held p x.ty) o None) there ∙ is in
    ap (λ (o : Option held.HeapType.HeapType). slice_get (held_listed o ++ fields_held p fields) 0) same
field_at p (g ∷ fields) (suc k) f h there is = by (field_at p fields k f h there is) (type_held p g.ty)
  where
    by : slice_get (fields_held p fields) (length (fields_held p (take k fields))) ≡ Some h → (o : Option held.HeapType.HeapType)
        → slice_get (held_listed o ++ fields_held p fields) (length (held_listed o ++ fields_held p (take k fields))) ≡ Some h
    by more None = more
    by more (Some x) = more
