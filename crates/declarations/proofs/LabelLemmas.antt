-- Names of states, written one after another.
use Rattle.std.proofs.Common.{◌≡◌, ℕ, Bor, ◌+◌, ◌-◌, ◌<◌, ◌≤◌, List, Option, None, Some, [], ◌∷◌, ◌++◌, length, map, take, drop, get_or, sym, ap, refl, ◌∙◌, arith, append_assoc, append-nil}
use Rattle.std.specs.Prelude.{IfSome, if◌then◌else◌, slice_get, option_map, codes}
use Rattle.std.specs.Option.{option_copied}
use Rattle.std.specs.Slice.{IsItemAt}
use Rattle.std.specs.Str.Lossy.{utf8_lossy}
use Rattle.std.specs.Cmp.Lexicographic.{same_text}
use Rattle.std.proofs.Math.Seq.{take-append_seam, drop-append_seam}
use Rattle.std.proofs.lemmas.List.{length-append, length-map, map-append, get_or-map}
use Rattle.std.proofs.lemmas.List.Quantifiers.{position-Some}
use Rattle.std.proofs.lemmas.Option.{get_or_from_slice_get, slice_get-map, slice_get_read}
use Rattle.source.specs.Slices.{slice_of}
use Rattle.source.specs.declared.token.Span.{Span}
use Rattle.program.specs.Parts.{state_model}
use Rattle.program.specs.declared.contract.Part.{Part}
use Rattle.program.specs.declared.contract.State.{State}
use Rattle.declarations.specs.Labels.{AreLabels, IsTold, Stands, in_parentheses, part_of}
use Rattle.declarations.specs.Resolution.{UnnumberedState, numbered_state, numbered_states}
use Rattle.declarations.specs.declared.labels.Labels.{Labels}
use Rattle.tables.specs.Firsts.{first_of}
use Rattle.tables.specs.Words.{same_word, word_at, words_at}
use Rattle.declarations.proofs.BehindLemmas.{mapped_more, number_more}
use Rattle.source.proofs.SpelledLemmas.{within}

-- the part written last spells its word
stands_last : (old word new : List ℕ) (part : Part) → new ≡ old ++ word → part.start ≡ length old → part.end ≡ length new → Stands new part word
stands_last old word new part is start end behind =
    let s = length old in
    let all = old ++ (word ++ behind) in
    let size : part.end ≡ s + length word = end ∙ ap length is ∙ length-append old word in
    let same : new ++ behind ≡ all = ap (λ l. l ++ behind) is ∙ append_assoc old word behind in
    let room : s + length word ≤ length all = omega (arith, length-append old (word ++ behind), length-append word behind) in
    ap (λ l. slice_of l part.start part.end) same
    ∙ ap (λ n. slice_of all n part.end) start
    ∙ ap (slice_of all s) size
    ∙ (λ i. if within s (s + length word) (length all) (omega arith) room i then take (s + length word - s) (drop s all) else [])
    ∙ ap (λ n. take n (drop s all)) (omega arith)
    ∙ ap (take (length word)) (drop-append_seam old (word ++ behind))
    ∙ take-append_seam word behind

pub told_last : (old word new : List ℕ) (part : Part) → new ≡ old ++ word → part.start ≡ length old → part.end ≡ length new → IsTold old new part word
told_last old word new part is start end = record { more = word; grown = is; stands = stands_last old word new part is start end }

-- a word that is already there needs no writing
pub told_there : (names : List ℕ) (part : Part) (word : List ℕ) → Stands names part word → IsTold names names part word
told_there names part word h = record { more = []; grown = sym (append-nil names); stands = h }

longer : (old new more behind : List ℕ) → new ≡ old ++ more → new ++ behind ≡ old ++ (more ++ behind)
longer old new more behind is = ap (λ l. l ++ behind) is ∙ append_assoc old more behind

-- labels stay valid when more is written
pub labels_kept : (labels : Labels) (old new more : List ℕ) → AreLabels labels old → new ≡ old ++ more → AreLabels labels new
labels_kept labels old new more h is = record {
  messages = h.messages;
  table = h.table;
  each = λ behind. ap (λ l. map (part_of l) labels.by_message.items) (longer old new more behind is) ∙ h.each (more ++ behind);
}

-- one more part
pub parts_more : {X : Type 0} (word : X → List ℕ) (xs : List X) (i : ℕ) (x : X) (parts more : List Part) (part : Part) (old new : List ℕ) → i < length xs → x ≡ get_or xs i x
    → ((behind : List ℕ) → map (part_of (old ++ behind)) parts ≡ map word (take i xs)) → more ≡ parts ++ part ∷ [] → IsTold old new part (word x)
    → (behind : List ℕ) → map (part_of (new ++ behind)) more ≡ map word (take (i + 1) xs)
parts_more word xs i x parts more part old new lt is all one told behind =
    let part_in = part_of (new ++ behind) in
    ap (map part_in) one ∙ map-append part_in parts (part ∷ [])
    ∙ ap (λ l. l ++ part_in part ∷ []) (ap (λ l. map (part_of l) parts) (longer old new told.more behind told.grown) ∙ all (told.more ++ behind))
    ∙ ap (λ w. map word (take i xs) ++ w ∷ []) (told.stands behind)
    ∙ sym (mapped_more word xs i x lt is)

-- one more state
pub states_more : {X : Type 0} (counted : X → UnnumberedState) (before : ℕ) (xs : List X) (i : ℕ) (x : X) (states more : List State) (s : State) (old new : List ℕ) → i < length xs → x ≡ get_or xs i x
    → ((behind : List ℕ) → map (state_model (old ++ behind)) states ≡ numbered_states before (map counted (take i xs))) → more ≡ states ++ s ∷ []
    → s.id ≡ record { 0 = before + i } → IsTold old new s.name (counted x).name → s.place ≡ (counted x).place
    → (behind : List ℕ) → map (state_model (new ++ behind)) more ≡ numbered_states before (map counted (take (i + 1) xs))
states_more counted before xs i x states more s old new lt is all one id told place behind =
    number_more numbered_state (state_model (new ++ behind)) counted before xs i x states more s lt is
    (ap (λ l. map (state_model l) states) (longer old new told.more behind told.grown) ∙ all (told.more ++ behind)) one
    (ap (λ n. record { id = n; name = part_of (new ++ behind) s.name; place = s.place }) id
    ∙ ap (λ w. record { id = record { 0 = before + i }; name = w; place = s.place }) (told.stands behind)
    ∙ ap (λ p. record { id = record { 0 = before + i }; name = (counted x).name; place = p }) place)

-- the part found for a message spells its name in parentheses
pub shared_there : (labels : Labels) (names : List ℕ) (message : Span) (index : ℕ) (part : Part) (h : AreLabels labels names)
    → first_of (words_at labels.text.now h.messages) (word_at labels.text.now message) ≡ Some index → slice_get labels.by_message.items index ≡ Some part
    → Stands names part (in_parentheses labels.text.now message)
shared_there labels names message index part h found at behind =
    let text = labels.text.now in
    let word = word_at text message in
    let messages = h.messages in
    let m = get_or messages index message in
    let parts = labels.by_message.items in
    let part_in = part_of (names ++ behind) in
    let first = position-Some (same_word word) (words_at text messages) index word found in
    let below = first.0 in
    let size = length-map messages (word_at text) in
    let lt : index < length messages = omega (arith, below, size) in
    let same : word ≡ word_at text m = same_text word (get_or (words_at text messages) index word) (sym first.1) ∙ get_or-map (word_at text) messages index message word lt in
    sym (get_or_from_slice_get (map part_in parts) index (part_in part) (part_in part) (slice_get-map part_in parts index ∙ ap (option_map part_in) at))
    ∙ ap (λ l. get_or l index (part_in part)) (h.each behind)
    ∙ get_or-map (in_parentheses text) messages index message (part_in part) lt
    ∙ ap (λ w. codes "(" ++ (utf8_lossy w ++ codes ")")) (sym same)

pub shared_part : (labels : Labels) (names : List ℕ) (message : Span) (index : ℕ) (found : Option (Bor Part)) (h : AreLabels labels names)
    → Some index ≡ first_of (words_at labels.text.now h.messages) (word_at labels.text.now message) → IsItemAt labels.by_message.items index found
    → IfSome (option_copied found) (λ part. Stands names part (in_parentheses labels.text.now message))
shared_part labels names message index None h first look = tt
shared_part labels names message index (Some part) h first look =
    shared_there labels names message index part.now h (sym first) (slice_get_read labels.by_message.items _ index part.now refl look.3.0 look.1)
