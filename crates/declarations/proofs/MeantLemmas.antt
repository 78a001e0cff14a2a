-- The meaning of names, and the edges of a path one after another.
use Rattle.std.proofs.Common.{◌≡◌, ℕ, ◌+◌, ◌<◌, ◌≤◌, List, Option, [], ◌∷◌, ◌++◌, length, map, take, drop, get_or, Some, sym, refl, ap, ◌∙◌, subst, arith, append_assoc}
use Rattle.std.specs.List.{flat_map, range_with_len}
use Rattle.std.specs.Option.{option_map_or}
use Rattle.std.proofs.lemmas.List.{length-append, length-map, length-take-le, map-append, take-map, drop_more}
use Rattle.std.proofs.lemmas.List.Folds.{length-flat_map-take}
use Rattle.std.proofs.lemmas.List.Quantifiers.{position-Some}
use Rattle.std.proofs.lemmas.Simd.{map-map}
use Rattle.source.specs.declared.token.Span.{Span}
use Rattle.tree.specs.Trees.{StateTree, Empty}
use Rattle.tree.specs.declared.contract as tree
use Rattle.declarations.specs.Declarations.{counted_states, counted_in_state, first_among, names_of_states, paths_of, unnamed_of}
use Rattle.tables.specs.Firsts.{first_of}
use Rattle.declarations.specs.Meant.{IsMeaning, path_left, state_names, states_in, text_of}
use Rattle.declarations.specs.Numbered.{indices_named, names_in, unnamed_names, counted_as}
use Rattle.declarations.specs.Resolution.{Meanings, counted_in, edge_between, edges_through, named_state, state_meant, unnamed_state}
use Rattle.tables.specs.Tables.{IsTable}
use Rattle.tables.specs.Words.{same_word, word_at, words_at}
use Rattle.declarations.specs.declared.meaning.Meaning.{Meaning}
use Rattle.program.specs.declared.contract.Edge.{Edge}
use Rattle.declarations.specs.declared.state_names.StateName.TheVariants.{Unnamed}
use Rattle.declarations.proofs.BehindLemmas.{single_at, singles}

-- the index of a named state among all states
pub index_at : {X : Type 0} (g : X → StateTree) (xs : List X) (named : List ℕ) (i : ℕ) → named ≡ indices_named (map g xs) → i < length xs → get_or named i 0 ≡ length (counted_states (map g (take i xs)))
index_at g xs named i is lt =
    let size = length-map xs g in
    ap (λ l. get_or l i 0) is ∙ single_at (λ b. length (counted_states b)) [] (map g xs) i 0 (omega (arith, lt, size)) ∙ ap (λ l. length (counted_states l)) (take-map g i xs)

pub indices : {X : Type 0} (g : X → StateTree) (xs : List X) (named : List ℕ) → named ≡ indices_named (map g xs) → length named ≡ length xs
indices g xs named is = ap length is ∙ singles (λ b. length (counted_states b)) [] (map g xs) ∙ length-map xs g

-- the state that a name means
pub record NamedAt (text : List ℕ) (first : ℕ) (states : List StateTree) (name : Span) (named : List ℕ) (index : ℕ) : Type 0 where
  pub within : index < length named
  pub low : index ≤ get_or named index 0
  pub room : get_or named index 0 ≤ length (counted_states states)
  pub meant : first + get_or named index 0 ≡ state_meant text first states name

at_least : (states : List StateTree) → length states ≤ length (counted_states states)
at_least [] = omega arith
at_least (s ∷ states) =
    let rest = at_least states in
    let both = length-append (flat_map unnamed_of (paths_of s.body)) (counted_states states) in
    omega (arith, rest, both)

named_at : (text : List ℕ) (first : ℕ) (states : List StateTree) (name : Span) (named : List ℕ) (index : ℕ) (s : StateTree) → named ≡ indices_named states → first_among text (names_of_states states) name ≡ Some index → NamedAt text first states name named index
named_at text first states name named index s is found =
    let words = words_at text (names_of_states states) in
    let below = (position-Some (same_word (word_at text name)) words index [] found).0 in
    let size : length words ≡ length states = length-map (names_of_states states) (word_at text) ∙ length-map states (λ t. t.name) in
    let lt : index < length states = omega (arith, below, size) in
    let many = ap length is ∙ singles (λ b. length (counted_states b)) [] states in
    let value = ap (λ l. get_or l index 0) is ∙ single_at (λ b. length (counted_states b)) [] states index 0 lt in
    let front = length-flat_map-take counted_in_state states index s lt in
    let least = at_least (take index states) in
    let taken = length-take-le index states (omega (arith, lt)) in
    record {
      within = omega (arith, lt, many);
      low = omega (arith, value, least, taken);
      room = omega (arith, value, front);
      meant = ap (λ n. first + n) value ∙ sym (ap (λ o. option_map_or (λ k. first + length (counted_states (take k states))) o 0) found);
    }

-- the same, by the result of a look-up in the table
pub named_by : (m : Meaning) (name : Span) (index : ℕ) (found : Option ℕ) (word : List ℕ) → IsMeaning m → ((words : List (List ℕ)) → IsTable words m.declared.now.states → found ≡ first_of words word)
    → word ≡ word_at (text_of m) name → found ≡ Some index → NamedAt (text_of m) m.states_before (states_in m) name m.named.now index
named_by m name index found word h look is some =
    let words = words_at (text_of m) (state_names m) in
    named_at (text_of m) m.states_before (states_in m) name m.named.now index (record { name = name; body = Empty }) h.named
    (sym (look words h.states ∙ ap (first_of words) is) ∙ some)

-- there are as many names of states as counted states, and each name is counted as its state
pub names_counted : (states : List StateTree) → length (flat_map names_in states) ≡ length (counted_states states)
names_counted [] = refl
names_counted (s ∷ states) =
    let unnamed = flat_map unnamed_of (paths_of s.body) in
    let rest = names_counted states in
    let here = length-map unnamed (λ m. Unnamed m) in
    let names = length-append (unnamed_names unnamed) (flat_map names_in states) in
    let counted = length-append unnamed (counted_states states) in
    omega (arith, rest, here, names, counted)

pub all_counted : (text : List ℕ) (states : List StateTree) → map (counted_as text) (flat_map names_in states) ≡ flat_map (counted_in text) states
all_counted text [] = refl
all_counted text (s ∷ states) =
    let unnamed = flat_map unnamed_of (paths_of s.body) in
    let counted = counted_as text in
    ap (λ l. named_state text s.name ∷ l)
    (map-append counted (unnamed_names unnamed) (flat_map names_in states)
    ∙ ap (λ l. l ++ map counted (flat_map names_in states)) (map-map counted (λ m. Unnamed m) unnamed)
    ∙ ap (λ l. map (unnamed_state text) unnamed ++ l) (all_counted text states))

pub as_counted : (text : List ℕ) (states : List StateTree) → length (flat_map (counted_in text) states) ≡ length (counted_states states)
as_counted text states = sym (ap length (all_counted text states)) ∙ length-map (flat_map names_in states) (counted_as text) ∙ names_counted states

-- a path's edges, one after another
pub path_is : (means : Meanings) (from to : ℕ) (e : tree.Edge.Edge) (others : List tree.Edge.Edge) (target : Span)
    → edges_through means from (range_with_len to (length others) ++ means.state target ∷ []) (e ∷ others) ≡ path_left means from to e others target
path_is means from to e [] target = refl
path_is means from to e (o ∷ others) target = ap (λ l. edge_between means from e to ∷ l) (path_is means to (to + 1) o others target)

pub path_step : (means : Meanings) (from to : ℕ) (e : tree.Edge.Edge) (others shown : List tree.Edge.Edge) (i : ℕ) (d : tree.Edge.Edge) (target : Span) (old new : List Edge) (one : Edge)
    → shown ≡ others → i < length shown → new ≡ old ++ one ∷ [] → one ≡ edge_between means from e to
    → new ++ path_left means to (to + 1) (get_or shown i d) (drop (i + 1) others) target ≡ old ++ path_left means from to e (drop i others) target
path_step means from to e others shown i d target old new one same lt is one-is =
    let left = λ (l : List tree.Edge.Edge). path_left means to (to + 1) (get_or l i d) (drop (i + 1) others) target in
    let within = subst (λ l. i < length l) same lt in
    ap (λ l. new ++ left l) same ∙ ap (λ l. l ++ left others) is ∙ append_assoc old (one ∷ []) (left others) ∙ ap (λ x. old ++ x ∷ left others) one-is
    ∙ ap (λ l. old ++ path_left means from to e l target) (sym (drop_more others i d within))
