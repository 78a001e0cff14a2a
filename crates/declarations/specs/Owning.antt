-- Which fields of a struct own a block, and which parameters of a method only borrow one.
use Rattle.std.specs.Prelude.{Bool, false, not, ◌&&◌, ◌||◌, is_some, List, [], ◌∷◌, Option, option_map}
use Rattle.std.specs.List.{filter}
use Rattle.declarations.specs.Types.{is_heap}
use Rattle.declarations.specs.Program.{Numbered, ProgramText, struct_named}
use Rattle.source.specs.declared.token.Span.{Span}
use Rattle.tree.specs.Trees.{StructTree, MethodTree}
use Rattle.tree.specs.declared.class as made

-- the fields of a struct that own a block
abbrev pub owning_fields : StructTree → List made.Field.Field
owning_fields s = filter (λ f. is_heap f.ty) s.fields

-- the struct of this name: its index among the items, and its owning fields
abbrev pub owning_named : ProgramText → Span → Option (Numbered (List made.Field.Field))
owning_named p name = option_map (λ s. (s.0, owning_fields s.1)) (struct_named p name)

-- whether a parameter is of the exchange heap, and not claimed
abbrev pub is_lent : made.Parameter.Parameter → Bool
is_lent x = is_heap x.ty && not x.claims

-- whether one of these parameters is lent
abbrev pub any_lent : List made.Parameter.Parameter → Bool
any_lent [] = false
any_lent (x ∷ params) = is_lent x || any_lent params

-- whether a method may be started: it returns nothing, and claims every block that it is given
abbrev pub can_start : MethodTree → Bool
can_start m = not (is_some m.result) && not (any_lent m.params)
