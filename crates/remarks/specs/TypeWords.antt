-- Types and demands as a reader sees them.
use Rattle.std.specs.Prelude.{ℕ, List, [], ◌++◌, codes, if◌then◌else◌, length, nat_lt, slice_get, take}
use Rattle.std.specs.Option.{option_map_or}
use Rattle.std.specs.Str.Lossy.{utf8_lossy}
use Rattle.program.specs.declared.types.Scalar.{Scalar}
use Rattle.program.specs.declared.types.Scalar.TheVariants.{Int, Byte, Bool}
use Rattle.program.specs.declared.types.Side.TheVariants.{Imp, Exp}
use Rattle.declarations.specs.Program.{ProgramText}
use Rattle.tree.specs.Trees.{defined_name}
use Rattle.declarations.specs.declared.value_type.ValueType.{ValueType}
use Rattle.declarations.specs.declared.value_type.ValueType.TheVariants as ty
use Rattle.declarations.specs.declared.mistake.Demand.{Demand}
use Rattle.declarations.specs.declared.mistake.Demand.TheVariants as demand
use Rattle.remarks.specs.declared.listing.TheConstants.{MAX_NAME}
use Rattle.tables.specs.Words.{word_at}

-- A long name is cut, since any number of remarks can have the name of one item.
abbrev pub cut_name : List ℕ → List ℕ
cut_name word = if nat_lt MAX_NAME (length word) then utf8_lossy (take MAX_NAME word) ++ codes ".." else utf8_lossy word

-- the name of the item of this number, which counts the items before it
abbrev pub item_name : ProgramText → ℕ → List ℕ
item_name p n = option_map_or (λ i. cut_name (word_at p.text (defined_name i.definition))) (slice_get p.items n) []

abbrev pub scalar_words : Scalar → List ℕ
scalar_words Int = codes "int"
scalar_words Byte = codes "byte"
scalar_words Bool = codes "bool"

-- a type as it is written; an endpoint's has no state
abbrev pub type_words : ProgramText → ValueType → List ℕ
type_words p (ty.Scalar s) = scalar_words s
type_words p (ty.Pointer n) = item_name p n ++ codes "* in ExHeap"
type_words p (ty.Array s) = scalar_words s ++ codes "[] in ExHeap"
type_words p (ty.Endpoint Imp n) = item_name p n ++ codes ".Imp"
type_words p (ty.Endpoint Exp n) = item_name p n ++ codes ".Exp"
type_words p ty.Missing = codes "no value"
type_words p ty.Unknown = codes "unknown"

-- a demand in words
abbrev pub demand_words : ProgramText → Demand → List ℕ
demand_words p (demand.OfType k) = type_words p k
demand_words p demand.Number = codes "a number"
demand_words p demand.Truth = codes "bool"
demand_words p demand.Scalar = codes "a number or bool"
demand_words p demand.Block = codes "a block"
demand_words p demand.NoBlock = codes "a value that is not a block"
demand_words p demand.Pointer = codes "a struct"
demand_words p demand.Array = codes "an array"
demand_words p demand.Fields = codes "a struct or an array"
demand_words p demand.Endpoint = codes "an endpoint"
demand_words p (demand.EndOf n) = codes "an endpoint of " ++ item_name p n
