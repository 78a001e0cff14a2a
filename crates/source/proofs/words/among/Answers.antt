use Rattle.std.proofs.Common.{◌≡◌, ◌+◌, ◌<◌, ℕ, List, sym, ◌∙◌, ap, cond, Bool, true, false, drop, length, get_or, Some}
use Rattle.std.specs.Prelude.{find, nat_eq, unwrap_or}
use Rattle.std.specs.Cmp.Lexicographic.{pointwise}
use Rattle.std.proofs.lemmas.List.{at_drop_more, at_drop_all}
use Rattle.source.specs.declared.kind.Kind.{Kind}
use Rattle.source.specs.declared.kind.Kind.TheVariants.{Name}
use Rattle.source.specs.Words.{reserved_text, kind_among}
use Rattle.source.proofs.words.among.Goals as goal

-- what is found among the remaining kinds, by whether the first of them is written so
among_from : (xs : List Kind) (i : ℕ) (d : Kind) (word : List ℕ) (b : Bool) → i < length xs → pointwise nat_eq (reserved_text (get_or xs i d)) word ≡ b → kind_among (drop i xs) word ≡ unwrap_or (cond b (Some (get_or xs i d)) (find (λ k. pointwise nat_eq (reserved_text k) word) (drop (i + 1) xs))) Name
among_from xs i d word b lt is =
    at_drop_more (λ ks. kind_among ks word) xs i d lt
    ∙ ap (λ b. unwrap_or (cond b (Some (get_or xs i d)) (find (λ k. pointwise nat_eq (reserved_text k) word) (drop (i + 1) xs))) Name) is

pub loop-kind-preserved : goal.loop-kind-preserved
loop-kind-preserved c =
    sym (among_from c.args.kinds.now c.loop-kind.kind-index Name c.args.word.now false c.loop-kind-test.true (sym c.is_written.ensures ∙ c.if-is_written.false)) ∙ c.loop-kind.invariant

pub returns-then-is_written : goal.returns-then-is_written
returns-then-is_written c =
    sym (among_from c.args.kinds.now c.loop-kind.kind-index Name c.args.word.now true c.loop-kind-test.true (sym c.is_written.ensures ∙ c.if-is_written.true)) ∙ c.loop-kind.invariant

pub returns : goal.returns
returns c = sym (at_drop_all (λ ks. kind_among ks c.args.word.now) c.args.kinds.now c.loop-kind.kind-index c.loop-kind-test.false) ∙ c.loop-kind.invariant
