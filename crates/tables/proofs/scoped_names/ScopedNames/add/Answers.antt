use Rattle.std.proofs.Common.{sym, ap, map, [], ◌∷◌, ◌∙◌}
use Rattle.std.proofs.lemmas.List.{map-append}
use Rattle.indexmap.proofs.CallerLemmas.{insert_entry-new}
use Rattle.tables.specs.Words.{same_word}
use Rattle.tables.specs.declared.word.Word.{Word}
use Rattle.tables.proofs.ScopedLemmas.{meaning_is, written}
use Rattle.tables.proofs.scoped_names.ScopedNames.add.Goals as goal

pub returns-clause-added : goal.returns-clause-added
returns-clause-added g c =
    let old = c.args.self.now.names in
    let word : Word = record { bytes = c.args.name } in
    let lacks = sym (meaning_is old.entries c.args.name.now) ∙ c.requires in
    let added = insert_entry-new (λ (x y : Word). same_word x.bytes.now y.bytes.now) old word c.args.meaning lacks in
    ap (map written) (c.in_ok-insert.ensures.entries ∙ added) ∙ map-append written old.entries ((word, c.args.meaning) ∷ [])
