-- The words at the heads of a switch, and which heads are written alike.
use Rattle.std.proofs.Common.{◌≡◌, ℕ, ◌+◌, List, [], ◌∷◌, length, map, take, Option, Some, None, Bool, true, false, not, cond, ltb, Bor, sym, refl, ap, ◌∙◌, subst}
use Rattle.std.specs.Prelude.{is_some, position, ◌&&◌, ◌||◌, if◌then◌else◌, Result, OnOk}
use Rattle.std.specs.Cmp.{tied_then}
use Rattle.std.specs.Cmp.Lexicographic.{slice_cmp}
use Rattle.std.specs.List.{list_any, position_or_len}
use Rattle.std.specs.Option.{option_cmp}
use Rattle.std.specs.declared.cmp.Ordering.{Ordering}
use Rattle.std.specs.Ordering.{is_eq, nat_cmp, ordering_then}
use Rattle.std.proofs.lemmas.Cmp.{nat_list_eq_equiv}
use Rattle.std.proofs.lemmas.List.{length-map}
use Rattle.std.proofs.lemmas.Map.Text.{is_eq-slice_cmp}
use Rattle.source.specs.declared.token.Span.{Span}
use Rattle.tree.specs.StatementTrees.{CaseTree, SwitchTree, case_sequence, case_tree, switch_tree}
use Rattle.tree.specs.declared.statement as made
use Rattle.tree.specs.declared.statement.Awaited.{Awaited}
use Rattle.tree.specs.declared.statement.Awaited.TheVariants.{Message, Closed}
use Rattle.names.specs.Bodies.{head_of, heads_of}
use Rattle.names.specs.Cases.{Head, same_name, same_awaited, awaited_span, twice_mistakes, type_head_mistakes, other_mistakes, awaits_too, names_endpoint, awaits_closed}
use Rattle.names.specs.Expressions.{InScope}
use Rattle.declarations.specs.declared.mistake.Mistake.{Mistake}
use Rattle.declarations.specs.declared.mistake.Mistake.TheVariants.{CaseTwice}
use Rattle.declarations.specs.Mistakes.{Adds}
use Rattle.declarations.specs.Types.{is_silent}
use Rattle.declarations.specs.declared.value_type.ValueType.{ValueType}
use Rattle.declarations.specs.declared.value_type.ValueType.TheVariants as ty
use Rattle.program.specs.declared.types.Side.{Side}
use Rattle.names.specs.Heads.{awaiting_of, awaited_word, key_words, head_words, same_message, same_key, key_at, is_before, switch_heads}
use Rattle.lemmas.specs.Places.{first_position}
use Rattle.tables.specs.Words.{word_at, words_at, same_word}
use Rattle.names.proofs.HeadLemmas.{first_before, first_of_some}
use Rattle.lemmas.proofs.FirstPlaces.{same_position}
use Rattle.tree.proofs.StatementTwins.{switch_is}

abbrev pub Key : Type 0
Key = Bor (List ℕ) × Option (Bor (List ℕ))

abbrev word_cmp : Bor (List ℕ) → Bor (List ℕ) → Ordering
word_cmp a b = slice_cmp nat_cmp a.now b.now

abbrev pub key_cmp : Key → Key → Ordering
key_cmp x y = ordering_then (word_cmp x.0 y.0) (option_cmp word_cmp x.1 y.1)

same_option : (a b : Option (Bor (List ℕ))) → is_eq (option_cmp word_cmp a b) ≡ same_message (key_words (record { ref_ptr = (0, 0); now = [] }, a)).1 (key_words (record { ref_ptr = (0, 0); now = [] }, b)).1
same_option None None = refl
same_option None (Some b) = refl
same_option (Some a) None = refl
same_option (Some a) (Some b) = is_eq-slice_cmp a.now b.now

key_same : (x y : Key) → is_eq (key_cmp x y) ≡ same_key (key_words x) (key_words y)
key_same x y = sym (tied_then (word_cmp x.0 y.0) (option_cmp word_cmp x.1 y.1))
    ∙ ap (λ b. b && is_eq (option_cmp word_cmp x.1 y.1)) (is_eq-slice_cmp x.0.now y.0.now)
    ∙ ap (λ b. same_word x.0.now y.0.now && b) (same_option x.1 y.1)

abbrev within : ℕ → ℕ → Option ℕ
within i n = cond (ltb i n) (Some i) None

first_mapped : {X Y : Type 0} (p : Y → Bool) (f : X → Y) (xs : List X) → position_or_len p (map f xs) ≡ position_or_len (λ x. p (f x)) xs
first_mapped p f [] = refl
first_mapped p f (x ∷ xs) = ap (λ n. cond (not (p (f x))) (1 + n) 0) (first_mapped p f xs)

position_mapped : {X Y : Type 0} (p : Y → Bool) (f : X → Y) (xs : List X) → position p (map f xs) ≡ position (λ x. p (f x)) xs
position_mapped p f xs = ap (λ i. within i (length (map f xs))) (first_mapped p f xs) ∙ ap (within (position_or_len (λ x. p (f x)) xs)) (length-map xs f)

mapped : {X Y Z : Type 0} (f : Y → Z) (g : X → Y) (xs : List X) → map f (map g xs) ≡ map (λ x. f (g x)) xs
mapped f g [] = refl
mapped f g (x ∷ xs) = ap (λ l. f (g x) ∷ l) (mapped f g xs)

-- the first position of a key is that of its words among the heads
pub key_first : (text : List ℕ) (all : List Head) (keys : List Key) (key : Key) → map key_words keys ≡ map (head_words text) all → first_position key_cmp keys key ≡ key_at text (key_words key) all
key_first text all keys key are =
    same_position (λ x. is_eq (key_cmp key x)) (λ x. same_key (key_words key) (key_words x)) (key_same key) keys
    ∙ sym (position_mapped (same_key (key_words key)) key_words keys)
    ∙ ap (position (same_key (key_words key))) are
    ∙ position_mapped (same_key (key_words key)) (head_words text) all

-- the words of heads, and their endpoints
pub words_of_heads : (text : List ℕ) (all : List Head) → map (λ a. (word_at text a.endpoint, awaited_word text a.awaited)) (map awaiting_of all) ≡ map (head_words text) all
words_of_heads text all = mapped (λ a. (word_at text a.endpoint, awaited_word text a.awaited)) awaiting_of all

pub endpoints_of_heads : (all : List Head) → map (λ a. a.endpoint) (map awaiting_of all) ≡ map (λ h. h.endpoint) all
endpoints_of_heads all = mapped (λ a. a.endpoint) awaiting_of all

turned : (a b : List ℕ) → same_word a b ≡ same_word b a
turned a b = nat_list_eq_equiv.symm a b

turned_message : (text : List ℕ) (a b : Awaited) → same_message (awaited_word text a) (awaited_word text b) ≡ same_awaited text b a
turned_message text (Message a) (Message b) = turned (word_at text a) (word_at text b)
turned_message text (Message a) (Closed b) = refl
turned_message text (Closed a) (Message b) = refl
turned_message text (Closed a) (Closed b) = refl

-- whether an earlier head awaits the same
pub awaiting_too : (text : List ℕ) (h : Head) (before : List Head) → list_any (λ x. same_key (head_words text h) (head_words text x)) before ≡ awaits_too text h before
awaiting_too text h [] = refl
awaiting_too text h (x ∷ xs) =
    ap (λ b. (b && same_message (awaited_word text h.awaited) (awaited_word text x.awaited)) || list_any (λ x. same_key (head_words text h) (head_words text x)) xs) (turned (word_at text h.endpoint) (word_at text x.endpoint))
    ∙ ap (λ b. (same_name text x.endpoint h.endpoint && b) || list_any (λ x. same_key (head_words text h) (head_words text x)) xs) (turned_message text h.awaited x.awaited)
    ∙ ap (λ b. (same_name text x.endpoint h.endpoint && same_awaited text x.awaited h.awaited) || b) (awaiting_too text h xs)

-- whether an earlier head names this endpoint
pub naming : (text : List ℕ) (name : Span) (before : List Head) → list_any (λ x. same_word (word_at text name) (word_at text x.endpoint)) before ≡ names_endpoint text name before
naming text name [] = refl
naming text name (x ∷ xs) =
    ap (λ b. b || list_any (λ x. same_word (word_at text name) (word_at text x.endpoint)) xs) (turned (word_at text name) (word_at text x.endpoint))
    ∙ ap (λ b. same_name text x.endpoint name || b) (naming text name xs)

-- an equal head is found before the index exactly if an earlier head awaits the same
pub found_twice : (text : List ℕ) (all : List Head) (h : Head) (index : ℕ) → is_before index (key_at text (head_words text h) all) ≡ awaits_too text h (take index all)
found_twice text all h index = first_before (λ x. same_key (head_words text h) (head_words text x)) all index ∙ awaiting_too text h (take index all)

-- an endpoint is found before the index exactly if an earlier head names it
pub found_named : (text : List ℕ) (all : List Head) (name : Span) (index : ℕ) → is_before index (position (same_word (word_at text name)) (words_at text (map (λ h. h.endpoint) all))) ≡ names_endpoint text name (take index all)
found_named text all name index =
    ap (λ l. is_before index (position (same_word (word_at text name)) l)) (mapped (word_at text) (λ h. h.endpoint) all)
    ∙ ap (is_before index) (position_mapped (same_word (word_at text name)) (λ h. word_at text h.endpoint) all)
    ∙ first_before (λ h. same_word (word_at text name) (word_at text h.endpoint)) all index
    ∙ naming text name (take index all)

-- the close of an endpoint is found exactly if a head awaits it
pub found_closed : (text : List ℕ) (all : List Head) (name : Span) → is_some (key_at text (word_at text name, None) all) ≡ awaits_closed text name all
found_closed text all name = first_of_some (λ x. same_key (word_at text name, None) (head_words text x)) all ∙ awaiting_too text (record { endpoint = name; awaited = Closed name; binds = [] }) all

heads_in : (cases : List CaseTree) → heads_of (case_sequence cases) ≡ map head_of cases
heads_in [] = refl
heads_in (c ∷ cases) = ap (λ l. head_of c ∷ l) (heads_in cases)

-- the heads of a switch in memory
pub switch_heads_are : (s : made.Switch.Switch) → switch_heads (switch_tree s) ≡ head_of (switch_tree s).first ∷ map (λ c. head_of (case_tree c)) (made.Switch.out-Switch s).others.items
switch_heads_are s =
    ap (λ l. head_of (switch_tree s).first ∷ l)
    (heads_in (switch_tree s).others
    ∙ ap (λ (t : SwitchTree). map head_of t.others) (switch_is s)
    ∙ mapped head_of case_tree (made.Switch.out-Switch s).others.items)

-- a case on a variable that is no endpoint
pub no_endpoint : (s : InScope) (all earlier : List Head) (k : ValueType) (h : Head) → ((end : Side) (n : ℕ) → k ≡ ty.Endpoint end n → ⊥) → type_head_mistakes s all earlier k h ≡ (if is_silent k then [] else other_mistakes k h h.awaited)
no_endpoint s all earlier (ty.Scalar t) h other = refl
no_endpoint s all earlier (ty.Pointer n) h other = refl
no_endpoint s all earlier (ty.Array t) h other = refl
no_endpoint s all earlier (ty.Endpoint end n) h other = absurd (other end n refl)
no_endpoint s all earlier ty.Missing h other = refl
no_endpoint s all earlier ty.Unknown h other = refl

-- a list that is added unless the condition holds
pub told_unless : {X : Type 0} (b : Bool) (xs : List X) → (if not b then xs else []) ≡ (if b then [] else xs)
told_unless true xs = refl
told_unless false xs = refl

-- the mistake that a case occurs twice
pub told_twice : {T E : Type 0} (r : Result T E) (mid new : List Mistake) (s : InScope) (earlier : List Head) (h : Head) (twice : Bool) → twice ≡ awaits_too s.program.text h earlier
    → OnOk r (Adds mid new (if twice then CaseTwice h.endpoint (awaited_span h.awaited) ∷ [] else [])) → OnOk r (Adds mid new (twice_mistakes s earlier h))
told_twice r mid new s earlier h twice is told = subst (λ b. OnOk r (Adds mid new (if b then CaseTwice h.endpoint (awaited_span h.awaited) ∷ [] else []))) is told
