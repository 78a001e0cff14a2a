use Rattle.std.proofs.Common.{ap, ◌∙◌}
use Rattle.source.specs.Slices.{slice_of}
use Rattle.tables.specs.Firsts.{first_of}
use Rattle.declarations.specs.Program.{item_names}
use Rattle.tables.specs.Words.{words_at}
use Rattle.declarations.proofs.scope.Scope.index_of.Goals as goal

pub returns : goal.returns
returns c = λ p h.
    let name = c.args.name in
    let word = c.slice.ensures ∙ ap (λ t. slice_of t name.start name.end) h.text_is in
    c.find.ensures _ h.names ∙ ap (first_of (words_at p.text (item_names p))) word
