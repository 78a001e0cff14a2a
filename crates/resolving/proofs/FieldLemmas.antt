-- The owning fields of structs, field by field and item by item, and the numbers of these fields.
use Rattle.std.proofs.Common.{◌≡◌, ℕ, zero, suc, ◌+◌, ◌<◌, ◌≤◌, Bool, cond, ltb, List, [], ◌∷◌, ◌++◌, length, map, take, get_or, Option, Some, None, refl, sym, ap, ◌∙◌, arith, append-nil}
use Rattle.std.specs.Global.{Vec}
use Rattle.std.specs.Prelude.{option_and_then, option_map, slice_get}
use Rattle.std.specs.List.{enumerate_from, filter, flat_map}
use Rattle.std.proofs.Math.Seq.{take-nil}
use Rattle.std.proofs.lemmas.Bool.{le-ltb, lt-ltb}
use Rattle.std.proofs.lemmas.List.{flat_map_more, length-append, length-take-le, map-append, take_all, take_more}
use Rattle.std.proofs.lemmas.List.Elements.{filter-append}
use Rattle.std.proofs.lemmas.Option.{slice_get-map}
use Rattle.lemmas.proofs.Lists.{enumerate_push, flat_more}
use Rattle.source.specs.declared.token.Span.{Span}
use Rattle.tree.specs.Trees.{DefinitionTree, Contract, Struct, Class, ItemTree, StructTree, definition_tree, item_tree}
use Rattle.tree.specs.declared.class as made
use Rattle.tree.specs.declared.class.Field.{Field}
use Rattle.tree.specs.declared.item.Definition.{Definition}
use Rattle.tree.specs.declared.item.Definition.TheVariants as definition
use Rattle.tree.specs.declared.item.Item.{Item}
use Rattle.declarations.specs.Declarations.{first_among}
use Rattle.declarations.specs.Program.{ProgramText, Numbered, as_struct}
use Rattle.program.specs.declared.types.HeapType.{HeapType}
use Rattle.resolving.specs.Around.{owning_indices, index_listed, indices_held, indices_in}
use Rattle.resolving.specs.Brought.{held_listed}
use Rattle.resolving.specs.Counts.{struct_among, structs_of}
use Rattle.resolving.specs.Fields.{field_number, fields_held, owning_before}
use Rattle.resolving.specs.Types.{type_held}
use Rattle.resolving.specs.Locals.{Local}

-- the index of a field, if it is an owning field
abbrev owned : ProgramText → ℕ × Field → List ℕ
owned p x = index_listed x.0 (type_held p x.1.ty)

indices_more : (p : ProgramText) (fields : List Field) (i : ℕ) (d : Field) → i < length fields
    → indices_held p (take (i + 1) fields) ≡ indices_held p (take i fields) ++ index_listed i (type_held p (get_or fields i d).ty)
indices_more p fields i d lt =
    let front = take i fields in
    let next = get_or fields i d in
    let size = length-take-le i fields (omega (arith, lt)) in
    let at : 0 + length front ≡ i = omega (arith, size) in
    ap (indices_held p) (take_more fields i d lt)
    ∙ ap (flat_map (owned p)) (enumerate_push 0 front next ∙ ap (λ k. enumerate_from 0 front ++ (k, next) ∷ []) at)
    ∙ sym (flat_map_more (owned p) [] (enumerate_from 0 front) (i, next))

-- one more owning field
pub index_some : (p : ProgramText) (fields : List Field) (i : ℕ) (d : Field) (held : HeapType) (done : List ℕ) → i < length fields
    → done ≡ indices_held p (take i fields) → Some held ≡ type_held p (get_or fields i d).ty → done ++ i ∷ [] ≡ indices_held p (take (i + 1) fields)
index_some p fields i d held done lt before is =
    ap (λ l. l ++ i ∷ []) before ∙ ap (λ o. indices_held p (take i fields) ++ index_listed i o) is ∙ sym (indices_more p fields i d lt)

-- one more field that is not owning
pub index_none : (p : ProgramText) (fields : List Field) (i : ℕ) (d : Field) (done : List ℕ) → i < length fields
    → done ≡ indices_held p (take i fields) → None ≡ type_held p (get_or fields i d).ty → done ≡ indices_held p (take (i + 1) fields)
index_none p fields i d done lt before is =
    let front = indices_held p (take i fields) in
    before ∙ sym (append-nil front) ∙ ap (λ (o : Option HeapType). front ++ index_listed i o) is ∙ sym (indices_more p fields i d lt)

-- the types of the owning fields of the structs among the first i items
abbrev pub first_fields : ProgramText → List Item → ℕ → List (List HeapType)
first_fields p xs i = map (λ s. fields_held p s.fields) (structs_of (map item_tree (take i xs)))

-- the types of the owning fields of a definition, if it is a struct
abbrev pub fields_in : ProgramText → DefinitionTree → List (List HeapType)
fields_in p d = map (λ s. fields_held p s.fields) (struct_among d)

-- those of one more item
pub fields_more : (p : ProgramText) (xs : List Item) (i : ℕ) (x : Item) → i < length xs → x ≡ get_or xs i x
    → first_fields p xs (i + 1) ≡ first_fields p xs i ++ fields_in p (definition_tree x.definition)
fields_more p xs i x lt is =
    let has = λ (s : StructTree). fields_held p s.fields in
    ap (map has) (flat_more (λ t. struct_among t.definition) item_tree xs i x lt is)
    ∙ map-append has (structs_of (map item_tree (take i xs))) (struct_among (definition_tree x.definition))

-- those of all items
pub fields_all : (p : ProgramText) (xs : List Item) (i : ℕ) → length xs ≤ i → first_fields p xs i ≡ map (λ s. fields_held p s.fields) (structs_of (map item_tree xs))
fields_all p xs i le = ap (λ l. map (λ (s : StructTree). fields_held p s.fields) (structs_of (map item_tree l))) (take_all i xs le)

-- a definition that is no struct has no owning fields and no indices
pub no_struct : (p : ProgramText) (d : Definition) → ((x : made.Struct.Struct) → d ≡ definition.Struct x → ⊥)
    → ([] ≡ fields_in p (definition_tree d)) × ([] ≡ indices_in p (definition_tree d))
no_struct p (definition.Contract c) none = (refl, refl)
no_struct p (definition.Struct s) none = absurd (none s refl)
no_struct p (definition.Class c) none = (refl, refl)

-- how many of these indices are less than this one
abbrev pub before_index : ℕ → List ℕ → ℕ
before_index index indices = length (filter (λ x. ltb x index) indices)

before_both : (index : ℕ) (xs ys : List ℕ) → before_index index (xs ++ ys) ≡ before_index index xs + before_index index ys
before_both index xs ys =
    let test : ℕ → Bool = λ x. ltb x index in
    ap length (filter-append test xs ys) ∙ length-append (filter test xs) (filter test ys)

not_before : (n index : ℕ) (o : Option HeapType) → index ≤ n → before_index index (index_listed n o) ≡ 0
not_before n index None le = refl
not_before n index (Some held) le = ap (λ (b : Bool). length (cond b (n ∷ []) [])) (le-ltb n index le)

one_before : (n index : ℕ) (o : Option HeapType) → n < index → before_index index (index_listed n o) ≡ length (held_listed o)
one_before n index None lt = refl
one_before n index (Some held) lt = ap (λ (b : Bool). length (cond b (n ∷ []) [])) (lt-ltb n index lt)

-- the indices of the owning fields among these, if the first field has index n
abbrev indices_from : ProgramText → ℕ → List Field → List ℕ
indices_from p n fields = flat_map (owned p) (enumerate_from n fields)

none_before : (p : ProgramText) (n index : ℕ) (fields : List Field) → index ≤ n → before_index index (indices_from p n fields) ≡ 0
none_before p n index [] le = refl
none_before p n index (f ∷ fields) le =
    let o = type_held p f.ty in
    let here = not_before n index o le in
    let rest = none_before p (n + 1) index fields (omega (arith, le)) in
    let both = before_both index (index_listed n o) (indices_from p (n + 1) fields) in
    omega (arith, here, rest, both)

-- There are as many such indices below n + k as owning fields among the first k.
so_many : (p : ProgramText) (n k : ℕ) (fields : List Field) → before_index (n + k) (indices_from p n fields) ≡ length (fields_held p (take k fields))
so_many p n k [] = sym (ap (λ (l : List Field). length (fields_held p l)) (take-nil k))
so_many p n zero (f ∷ fields) = none_before p n (n + 0) (f ∷ fields) (omega arith)
so_many p n (suc k) (f ∷ fields) =
    let o = type_held p f.ty in
    let behind = indices_from p (n + 1) fields in
    let index : n + suc k ≡ (n + 1) + k = omega arith in
    let here = one_before n (n + suc k) o (omega arith) in
    let rest = ap (λ m. before_index m behind) index ∙ so_many p (n + 1) k fields in
    let both = before_both (n + suc k) (index_listed n o) behind in
    let parts = length-append (held_listed o) (fields_held p (take k fields)) in
    omega (arith, here, rest, both, parts)

-- the number of a field: how many indices of owning fields are less than its own
pub number_is : (p : ProgramText) (k : ℕ) (fields : List Field) → before_index k (indices_held p fields) ≡ length (fields_held p (take k fields))
number_is p k fields =
    let index : k ≡ 0 + k = omega arith in
    ap (λ m. before_index m (indices_held p fields)) index ∙ so_many p 0 k fields

-- the index of the field with this name in a struct
abbrev pub index_named : ProgramText → Span → Numbered StructTree → Option ℕ
index_named p field s = first_among p.text (map (λ f. f.name) s.1.fields) field

-- the number of the field at that index, by the definition of its struct
number_in : (p : ProgramText) (n : ℕ) (field : Span) (index : ℕ) (d : DefinitionTree) → Some index ≡ option_and_then (index_named p field) (option_map (λ x. (n, x)) (as_struct d))
    → Some (before_index index (indices_in p d)) ≡ option_and_then (owning_before p field) (option_map (λ x. (n, x)) (as_struct d))
number_in p n field index (Contract c) is = cc
number_in p n field index (Class c) is = cc
number_in p n field index (Struct s) is =
    ap Some (number_is p index s.fields) ∙ ap (option_map (λ k. length (fields_held p (take k s.fields)))) is

-- the same for an item, if there is one
pub number_at : (p : ProgramText) (n : ℕ) (field : Span) (index : ℕ) (sequence : List ℕ) (o : Option ItemTree) → Some sequence ≡ option_map (owning_indices p) o
    → Some index ≡ option_and_then (index_named p field) (option_and_then (λ i. option_map (λ x. (n, x)) (as_struct i.definition)) o)
    → Some (before_index index sequence) ≡ option_and_then (owning_before p field) (option_and_then (λ i. option_map (λ x. (n, x)) (as_struct i.definition)) o)
number_at p n field index sequence None has is = cc
number_at p n field index sequence (Some i) has is =
    let type_lists : sequence ≡ owning_indices p i = cc in
    ap (λ r. Some (before_index index r)) type_lists ∙ number_in p n field index i.definition is

-- the number of a field of what a variable holds, by the type of the variable
pub of_type : (p : ProgramText) (field : Span) (o : Option Local) → option_and_then (λ ty. field_number p ty field) (option_map (λ v. v.ty) o)
    ≡ option_and_then (λ v. field_number p v.ty field) o
of_type p field None = refl
of_type p field (Some v) = refl

-- the owning indices that a look-up finds are those of the item
pub owning_found : (p : ProgramText) (type_lists : List (Vec ℕ)) (n : ℕ) (sequence : Vec ℕ) → map (λ x. x.items) type_lists ≡ map (owning_indices p) p.items → slice_get type_lists n ≡ Some sequence
    → Some sequence.items ≡ option_map (owning_indices p) (slice_get p.items n)
owning_found p type_lists n sequence same at =
    ap (option_map (λ (x : Vec ℕ). x.items)) (sym at) ∙ sym (slice_get-map (λ (x : Vec ℕ). x.items) type_lists n)
    ∙ ap (λ l. slice_get l n) same ∙ slice_get-map (owning_indices p) p.items n
