-- The endpoints of cases, one case after another.
use Rattle.std.proofs.Common.{◌≡◌, ℕ, ◌+◌, ◌<◌, ◌≤◌, Bool, true, false, not, cond, ◌||◌, ◌==◌, List, [], ◌∷◌, ◌++◌, length, drop, map, slice_index_or, if◌then◌else◌, refl, sym, ap, ◌∙◌, append_assoc, arith}
use Rattle.std.specs.BTreeSet.{BTreeSet, contains, IsEmpty, Updates}
use Rattle.std.specs.BTreeMap.{is_at}
use Rattle.std.specs.List.{list_any}
use Rattle.std.specs.Ordering.{nat_cmp}
use Rattle.std.proofs.lemmas.Bool.{eqb-true}
use Rattle.std.proofs.lemmas.Bool.Decides.{nat_tests}
use Rattle.std.proofs.lemmas.List.{append-nil, at_drop_all, at_drop_more}
use Rattle.program.specs.Lists.{is_among}
use Rattle.program.specs.declared.statement.Mention.{Mention}
use Rattle.flow.specs.Cases.{entrance_model, first_mentions}
use Rattle.flow.specs.declared.graph.Entrance.{Entrance}

abbrev behind : List ℕ → List Entrance → List Mention
behind seen cases = first_mentions seen (map entrance_model cases)

-- This many cases were examined: the set has the endpoints that they name, and these were found.
pub record Named (set : BTreeSet ℕ) (cases : List Entrance) (done : ℕ) (found : List Mention) : Type 0 where
  pub seen : List ℕ
  pub has : (q : ℕ) → contains nat_cmp set q ≡ is_among seen q
  pub same : first_mentions [] (map entrance_model cases) ≡ found ++ behind seen (drop done cases)

-- no case was examined yet
pub named_first : (set : BTreeSet ℕ) (cases : List Entrance) → IsEmpty set → Named set cases 0 []
named_first set cases empty = record { seen = []; has = λ q. ap (list_any (is_at (nat_cmp q))) empty; same = refl }

-- what the cases from this one on add, by whether its endpoint was seen before
named_at : (cases : List Entrance) (done : ℕ) (x : Entrance) (seen : List ℕ) (b : Bool) → done < length cases → slice_index_or cases done x ≡ x → is_among seen x.endpoint.variable.0 ≡ b
    → behind seen (drop done cases) ≡ (if b then behind seen (drop (done + 1) cases) else (x.endpoint ∷ behind (x.endpoint.variable.0 ∷ seen) (drop (done + 1) cases)))
named_at cases done x seen b lt at is =
    at_drop_more (behind seen) cases done x lt ∙ ap (λ c. behind seen (c ∷ drop (done + 1) cases)) at
    ∙ ap (λ (t : Bool). if t then behind seen (drop (done + 1) cases) else (x.endpoint ∷ behind (x.endpoint.variable.0 ∷ seen) (drop (done + 1) cases))) is

pub was_there : (added b : Bool) → added ≡ false → added ≡ not b → b ≡ true
was_there added true old is = refl
was_there added false old is = sym old ∙ is

pub was_not : (added b : Bool) → added ≡ true → added ≡ not b → b ≡ false
was_not added true fresh is = sym fresh ∙ is
was_not added false fresh is = refl

pub at_same : (v q : ℕ) → is_at (nat_cmp v) q ≡ (v == q)
at_same v q = grind (arith, nat_tests)

pub same_test : (a b c : Bool) → a ≡ b → cond a true c ≡ (b || c)
same_test a true c is = ap (λ t. cond t true c) is
same_test a false c is = ap (λ t. cond t true c) is

there_again : (b x : Bool) → (b ≡ true → x ≡ true) → cond b true x ≡ x
there_again true x h = sym (h refl)
there_again false x h = refl

-- the next case names an endpoint that was seen before
pub named_again : (set more : BTreeSet ℕ) (cases : List Entrance) (done : ℕ) (x : Entrance) (found : List Mention) (added : Bool) → done < length cases → slice_index_or cases done x ≡ x
    → added ≡ false → added ≡ not (contains nat_cmp set x.endpoint.variable.0) → Updates nat_cmp set more x.endpoint.variable.0 true → Named set cases done found → Named more cases (done + 1) found
named_again set more cases done x found added lt at old is updates h =
    let v = x.endpoint.variable.0 in
    let there = sym (h.has v) ∙ was_there added _ old is in
    record {
      seen = h.seen;
      has = λ q.
          updates.0 q ∙ ap (λ t. cond t true (contains nat_cmp set q)) (at_same v q) ∙ ap (cond (v == q) true) (h.has q)
          ∙ there_again (v == q) (is_among h.seen q) (λ e. ap (is_among h.seen) (sym (eqb-true v q e)) ∙ there);
      same = h.same ∙ ap (λ l. found ++ l) (named_at cases done x h.seen true lt at there);
    }

-- the next case names a new endpoint
pub named_more : (set more : BTreeSet ℕ) (cases : List Entrance) (done : ℕ) (x : Entrance) (found : List Mention) (added : Bool) → done < length cases → slice_index_or cases done x ≡ x
    → added ≡ true → added ≡ not (contains nat_cmp set x.endpoint.variable.0) → Updates nat_cmp set more x.endpoint.variable.0 true → Named set cases done found → Named more cases (done + 1) (found ++ x.endpoint ∷ [])
named_more set more cases done x found added lt at fresh is updates h =
    let v = x.endpoint.variable.0 in
    record {
      seen = v ∷ h.seen;
      has = λ q. updates.0 q ∙ same_test (is_at (nat_cmp v) q) (v == q) _ (at_same v q) ∙ ap (λ b. (v == q) || b) (h.has q);
      same = h.same ∙ ap (λ l. found ++ l) (named_at cases done x h.seen false lt at (sym (h.has v) ∙ was_not added _ fresh is)) ∙ sym (append_assoc found (x.endpoint ∷ []) _);
    }

-- once all cases are examined, the endpoints found are those of `first_mentions`
pub named_all : (set : BTreeSet ℕ) (cases : List Entrance) (done : ℕ) (found : List Mention) → length cases ≤ done → Named set cases done found → found ≡ first_mentions [] (map entrance_model cases)
named_all set cases done found le h = sym (h.same ∙ ap (λ l. found ++ l) (at_drop_all (behind h.seen) cases done le) ∙ append-nil found)
