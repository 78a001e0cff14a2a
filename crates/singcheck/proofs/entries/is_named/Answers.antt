use Rattle.std.proofs.Common.{◌∙◌, ◌++◌, ◌∷◌, [], ap, sym}
use Rattle.std.specs.Prelude.{codes}
use Rattle.std.specs.Cmp.Lexicographic.{other_text, same_text}
use Rattle.tables.specs.Words.{word_at}
use Rattle.singcheck.proofs.EntryLemmas.{strip_not, strip_rest, strip_there}
use Rattle.singcheck.proofs.entries.is_named.Goals as goal

pub returns-in_default-clause-no : goal.returns-in_default-clause-no
returns-in_default-clause-no c = λ e whole.
    let name = codes "." ++ word_at c.args.text.now c.args.method.now.name in
    strip_not c.args.entry.now c.slice.result.now name c.in_default.ensures.cases (ap (λ w. w ++ name) c.slice.ensures ∙ whole)

pub returns-clause-yes : goal.returns-clause-yes
returns-clause-yes c = λ e.
    let a = c.slice.result.now in
    let first = strip_there c.args.entry.now a c.in-Some.rest.now c.in-Some.ensures.cases.0 c.in-Some.ensures.cases.1 in
    let second = strip_there c.in-Some.rest.now (46 ∷ []) c.in-Some-strip_prefix.name.now c.in-Some-strip_prefix.ensures.cases.0 c.in-Some-strip_prefix.ensures.cases.1 in
    let same = same_text c.in-Some-strip_prefix.name.now c.slice-2.result.now (sym e ∙ c.eq.ensures) in
    sym (first ∙ ap (λ r. a ++ r) (second ∙ ap (λ m. 46 ∷ m) (same ∙ c.slice-2.ensures)) ∙ ap (λ w. w ++ (codes "." ++ word_at c.args.text.now c.args.method.now.name)) c.slice.ensures)

pub returns-clause-no : goal.returns-clause-no
returns-clause-no c = λ e whole.
    let a = c.slice.result.now in
    let m = word_at c.args.text.now c.args.method.now.name in
    let rest = strip_rest c.args.entry.now a c.in-Some.rest.now (codes "." ++ m) c.in-Some.ensures.cases.1 (ap (λ w. w ++ (codes "." ++ m)) c.slice.ensures ∙ whole) in
    let name = strip_rest c.in-Some.rest.now (46 ∷ []) c.in-Some-strip_prefix.name.now m c.in-Some-strip_prefix.ensures.cases.1 (sym rest) in
    other_text c.in-Some-strip_prefix.name.now c.slice-2.result.now (sym e ∙ c.eq.ensures) (name ∙ sym c.slice-2.ensures)
