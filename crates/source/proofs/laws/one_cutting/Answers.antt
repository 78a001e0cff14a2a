use Rattle.std.proofs.Common.{sym, ap, ◌∙◌, []}
use Rattle.source.specs.Marks.{mark_len, body_of}
use Rattle.source.specs.Tokens.{tokens_of}
use Rattle.source.proofs.CutLemmas.{cuts_same}
use Rattle.source.proofs.laws.one_cutting.Goals as goal

pub returns-clause-pieces : goal.returns-clause-pieces
returns-clause-pieces c = λ text ps qs. cuts_same ps qs text

pub returns-clause-tokens : goal.returns-clause-tokens
returns-clause-tokens c = λ text a b h k.
    h.found ∙ ap (λ ps. tokens_of (mark_len text) [] ps) (cuts_same h.pieces k.pieces (body_of text) h.begins.cut k.begins.cut) ∙ sym k.found
