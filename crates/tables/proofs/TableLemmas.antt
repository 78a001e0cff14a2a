-- A table after one more name.
use Rattle.std.proofs.Common.{◌≡◌, ◌⊎◌, ℕ, ◌+◌, ◌<◌, List, [], ◌∷◌, ◌++◌, length, get_or, take, Some, None, true, false}
use Rattle.std.proofs.Common.{cond, sym, ap, ◌∙◌, arith, ⊎_elim}
use Rattle.std.specs.Prelude.{is_some}
use Rattle.std.proofs.lemmas.Bool.{cases_Bool, cond-true, cond-false}
use Rattle.std.proofs.lemmas.List.{length-map, length-take-le, map-append, take_more}
use Rattle.source.specs.declared.token.Span.{Span}
use Rattle.std.proofs.lemmas.Slice.Eq.{bytes_eq-Decides}
use Rattle.tables.specs.Firsts.{first_of}
use Rattle.tables.specs.Tables.{IsTable, entry_of}
use Rattle.tables.specs.Words.{same_word, word_at, words_at}
use Rattle.tables.specs.declared.tables.Table.{Table}
use Rattle.tables.proofs.FirstLemmas.{apart_more, first_added, first_kept, twice}

module _ (words : List (List ℕ)) (w : List ℕ) (old new : Table) (index : ℕ) (last : index ≡ length words) where
  -- with a name that the list lacked
  pub table_added : IsTable words old → entry_of old w ≡ None
      → ((q : List ℕ) → entry_of new q ≡ cond (same_word w q) (Some index) (entry_of old q))
      → new.apart ≡ old.apart → IsTable (words ++ w ∷ []) new
  table_added h none entries apart =
      let lacks : first_of words w ≡ None = sym (h.held w) ∙ none in record {
        held = λ q. entries q ∙ ap (λ n. cond (same_word w q) (Some n) (entry_of old q)) last
            ∙ ap (λ o. cond (same_word w q) (Some (length words)) o) (h.held q) ∙ sym (first_added words w q lacks);
        apart = (
          λ yes. (apart_more words w lacks).0 (h.apart.0 (sym apart ∙ yes)),
          λ all. apart ∙ h.apart.1 ((apart_more words w lacks).1 all),
        );
      }

  -- with a name that the list already had, which keeps its index
  pub table_repeated : (first : ℕ) → IsTable words old → entry_of old w ≡ Some first
      → ((q : List ℕ) → entry_of new q ≡ cond (same_word w q) (Some first) (cond (same_word w q) (Some index) (entry_of old q)))
      → new.apart ≡ false → IsTable (words ++ w ∷ []) new
  table_repeated first h found entries apart =
      let there : is_some (first_of words w) ≡ true = ap is_some (sym (h.held w) ∙ found) in record {
        held = λ q. entries q ∙ kept q (cases_Bool (same_word w q)) ∙ h.held q ∙ sym (first_kept words w q there);
        apart = (λ yes. cc, λ all. absurd (twice words w there all));
      }
    where
      kept : (q : List ℕ) → (same_word w q ≡ true) ⊎ (same_word w q ≡ false)
          → cond (same_word w q) (Some first) (cond (same_word w q) (Some index) (entry_of old q)) ≡ entry_of old q
      kept q = ⊎_elim
          (λ same. cond-true (same_word w q) (Some first) (cond (same_word w q) (Some index) (entry_of old q)) same
          ∙ sym found ∙ ap (entry_of old) ((bytes_eq-Decides w q).0 same))
          (λ other. cond-false (same_word w q) (Some first) (cond (same_word w q) (Some index) (entry_of old q)) other
          ∙ cond-false (same_word w q) (Some index) (entry_of old q) other)

-- the words of the first names and of one more
pub words_more : (text : List ℕ) (names : List Span) (i : ℕ) (d : Span) (w : List ℕ) → i < length names
    → w ≡ word_at text (get_or names i d) → words_at text (take (i + 1) names) ≡ words_at text (take i names) ++ w ∷ []
words_more text names i d w lt is = ap (words_at text) (take_more names i d lt)
    ∙ map-append (word_at text) (take i names) (get_or names i d ∷ []) ∙ ap (λ x. words_at text (take i names) ++ x ∷ []) (sym is)

-- there are as many of them as names
pub words_count : (text : List ℕ) (names : List Span) (i : ℕ) → i < length names → i ≡ length (words_at text (take i names))
words_count text names i lt = sym (length-map (take i names) (word_at text) ∙ length-take-le i names (omega (arith, lt)))
