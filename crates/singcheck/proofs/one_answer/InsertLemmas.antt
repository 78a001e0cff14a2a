-- Any findings have a report: each is inserted in order unless it is there already.
use Rattle.std.proofs.Common.{◌≡◌, ℕ, List, [], ◌∷◌, refl, sym, ap, ◌∙◌, subst}
use Rattle.std.specs.Prelude.{All, Contains}
use Rattle.std.specs.BTreeSet.{insert_key}
use Rattle.std.specs.List.Sorted.{IsStrictlySortedBy}
use Rattle.std.specs.Ordering.{match_ordering, ordering_reverse}
use Rattle.std.specs.declared.cmp.Ordering.{Ordering}
use Rattle.std.specs.declared.cmp.Ordering.TheVariants.{Less, Equal, Greater}
use Rattle.std.proofs.lemmas.List.Elements.{All-nil, All-cons, All-head, All-tail, All-weaker, All-contains, All-contains_itself, All-from_recursion, recursion_from_All}
use Rattle.std.proofs.lemmas.Map.Views.{All-insert_key}
use Rattle.source.specs.Findings.{FindingModel}
use Rattle.reports.specs.Orders.{report_cmp}
use Rattle.singcheck.specs.Reports.{IsReport, report_bytes}
use Rattle.reports.proofs.OrderLemmas.{equal_is_same, report_total}
use Rattle.singcheck.proofs.one_answer.SameLemmas.{behind_front}
use Rattle.sound.proofs.Quiet.{contains_first}

abbrev put : List FindingModel → FindingModel → List FindingModel
put = insert_key report_cmp

-- the findings in order, each once
abbrev in_order : List FindingModel → List FindingModel
in_order [] = []
in_order (f ∷ fs) = put (in_order fs) f

-- after an insertion, the new finding and the others are there
put_keeps : (f : FindingModel) (fs : List FindingModel) → All (Contains (put fs f)) (f ∷ fs)
put_keeps f [] = All-contains_itself (f ∷ [])
put_keeps f (x ∷ xs) = by (report_cmp f x) refl (put_keeps f xs)
  where
    by : (o : Ordering) → report_cmp f x ≡ o → All (Contains (put xs f)) (f ∷ xs)
        → All (Contains (match_ordering o (f ∷ x ∷ xs) (x ∷ xs) (x ∷ put xs f))) (f ∷ x ∷ xs)
    by Less e rest = All-contains_itself (f ∷ x ∷ xs)
    by Equal e rest =
        let there = Contains (x ∷ xs) in
        All-cons there f (x ∷ xs) (subst there (sym (equal_is_same f x e)) (contains_first x xs)) (All-contains_itself (x ∷ xs))
    by Greater e rest =
        let there = Contains (x ∷ put xs f) in
        let both = All-weaker (Contains (put xs f)) there (λ g. behind_front x g (put xs f)) (f ∷ xs) rest in
        All-cons there f (x ∷ xs) (All-head there f xs both) (All-cons there x xs (contains_first x (put xs f)) (All-tail there f xs both))

abbrev Precedes : FindingModel → FindingModel → Type 0
Precedes f g = report_cmp f g ≡ Less

-- after an insertion, they are still in order
put_sorted : (f : FindingModel) (fs : List FindingModel) → IsStrictlySortedBy report_cmp fs → IsStrictlySortedBy report_cmp (put fs f)
unfolding IsStrictlySortedBy
put_sorted f [] up = (tt, tt)
put_sorted f (x ∷ xs) up = by (report_cmp f x) refl (put_sorted f xs up.1)
  where
    by : (o : Ordering) → report_cmp f x ≡ o → IsStrictlySortedBy report_cmp (put xs f)
        → IsStrictlySortedBy report_cmp (match_ordering o (f ∷ x ∷ xs) (x ∷ xs) (x ∷ put xs f))
    by Less e rest =
        let all = All-from_recursion (Precedes x) xs up.0 in
        let behind = All-weaker (Precedes x) (Precedes f) (λ y less. report_total.trans f x y e less) xs all in
        ((e, recursion_from_All (Precedes f) xs behind), up)
    by Equal e rest = up
    by Greater e rest =
        let here : Precedes x f = report_total.antisymm x f ∙ ap ordering_reverse e in
        let behind = All-insert_key report_cmp f (Precedes x) xs (All-from_recursion (Precedes x) xs up.0) here in
        (recursion_from_All (Precedes x) (put xs f) behind, rest)

ordered : (fs : List FindingModel) → IsStrictlySortedBy report_cmp (in_order fs)
unfolding IsStrictlySortedBy
ordered [] = tt
ordered (f ∷ fs) = put_sorted f (in_order fs) (ordered fs)

none_else : (fs : List FindingModel) → All (Contains fs) (in_order fs)
none_else [] = All-nil (Contains [])
none_else (f ∷ fs) =
    All-insert_key report_cmp f (Contains (f ∷ fs)) (in_order fs)
    (All-weaker (Contains fs) (Contains (f ∷ fs)) (λ g. behind_front f g fs) (in_order fs) (none_else fs))
    (contains_first f fs)

all_there : (fs : List FindingModel) → All (Contains (in_order fs)) fs
all_there [] = All-nil (Contains [])
all_there (f ∷ fs) =
    let there = Contains (put (in_order fs) f) in
    let kept = put_keeps f (in_order fs) in
    let others = All-tail there f (in_order fs) kept in
    All-cons there f fs (All-head there f (in_order fs) kept)
    (All-weaker (Contains (in_order fs)) there (λ g h. All-contains there (in_order fs) g others h) fs (all_there fs))

pub report_there : (found : List FindingModel) → (bytes : List ℕ) × IsReport found bytes
report_there found = (
  report_bytes (in_order found),
  record {
    listed = in_order found;
    same = record {
      right = λ f h. All-contains (Contains found) (in_order found) f (none_else found) h;
      all = λ f h. All-contains (Contains (in_order found)) found f (all_there found) h;
    };
    ordered = ordered found;
    is = refl;
  },
)
