use Rattle.std.proofs.Common.{Bor, None, Option, sym, ap, ◌∙◌}
use Rattle.std.specs.Prelude.{option_map}
use Rattle.source.specs.declared.token.Span.{Span}
use Rattle.tree.specs.declared.contract.MessageParameter.{MessageParameter}
use Rattle.declarations.specs.declared.value_type as names
use Rattle.program.specs.declared.types.HeapType.{HeapType}
use Rattle.program.specs.declared.method.Role.TheVariants.{Local}
use Rattle.resolving.specs.Binds.{bound_as}
use Rattle.resolving.specs.Types.{heap_type}
use Rattle.resolving.specs.declared.locals.Declaration.{Declaration}
use Rattle.resolving.proofs.cases.bind_declaration.Goals as goal

abbrev local : Span → names.ValueType.ValueType → Option HeapType → Declaration
local name ty held = record { name = name; ty = ty; held = held; role = Local }

pub returns-in-None : goal.returns-in-None
returns-in-None c = λ p own around.
    let name = c.args.bind.name in
    let param = option_map (λ (x : Bor MessageParameter). x.now) c.args.param in
    ap (local name c.brought_type-ty.result) (c.heap_type-held.ensures p around.directory)
    ∙ ap (λ k. local name k (heap_type p k None)) (c.brought_type-ty.ensures p own around)
    ∙ ap (bound_as p param name) (sym c.in-None.is)
