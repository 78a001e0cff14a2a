-- What the code has in memory, as values of the definitions.
use Rattle.std.specs.Prelude.{List, map}
use Rattle.source.specs.declared.token.Span.{Span}
use Rattle.tree.specs.Trees.{DefinitionTree, item_tree}
use Rattle.declarations.specs.Program.{ProgramText}
use Rattle.remarks.specs.Candidates.{class_name, contract_name, struct_name}
use Rattle.remarks.specs.declared.candidates.ItemSort.{ItemSort}
use Rattle.remarks.specs.declared.candidates.ItemSort.TheVariants as sort
use Rattle.remarks.specs.declared.listing.ItemListing.{ItemListing}

-- a text in memory and its items, as a program
abbrev pub program_model : ItemListing → ProgramText
program_model l = record { text = l.text.now; items = map item_tree l.items.now }

-- the name of an item, if it is of this sort
abbrev pub name_of_sort : ItemSort → DefinitionTree → List Span
name_of_sort sort.Contract d = contract_name d
name_of_sort sort.Struct d = struct_name d
name_of_sort sort.Class d = class_name d
