-- Tables with what shows the findings of a contract.
use Rattle.std.proofs.Common.{◌≡◌, ◌∙◌, ℕ, zero, suc, ◌+◌, ◌<◌, true, false, List, [], ◌∷◌, ◌++◌, length, get_or, take, map, Option, Some, None, inl, inr, refl, sym, ap, subst, arith, ⊎_elim}
use Rattle.std.specs.Prelude.{◌⊎◌, Contains, MatchOption, is_some, slice_get}
use Rattle.std.specs.BTreeMap.{BTreeMap, ContainsKey, Updates, get}
use Rattle.std.specs.Cmp.{Equal-is}
use Rattle.std.specs.Ordering.{is_eq, nat_cmp}
use Rattle.std.specs.declared.cmp.Ordering.{Ordering}
use Rattle.std.proofs.lemmas.Bool.{cases_Bool, cond-true}
use Rattle.std.proofs.lemmas.List.{map-append, take_more}
use Rattle.std.proofs.lemmas.List.Elements.{Contains-append_left, Contains-push, Contains-push_cases}
use Rattle.std.proofs.lemmas.Map.Lookups.{CmpEqualImpliesEq, exact_pairs, exact_unsigned}
use Rattle.std.proofs.lemmas.Option.{get_or_from_slice_get, same_Some, slice_get-get_or, slice_get_within}
use Rattle.lemmas.proofs.Lists.{last_there}
use Rattle.contracts.proofs.ConditionLemmas.{keys_same}
use Rattle.contracts.specs.Positions.{key_of, pair_cmp}
use Rattle.program.specs.Parts.{MessageModel, Parts, StateModel, message_model, state_model}
use Rattle.program.specs.declared.contract.Direction.{Direction}
use Rattle.program.specs.declared.contract.Edge.{Edge}
use Rattle.program.specs.declared.contract.Message.{Message}
use Rattle.program.specs.declared.contract.Sign.{Sign}
use Rattle.program.specs.declared.contract.Sign.TheVariants.{Send, Receive}
use Rattle.program.specs.declared.contract.State.{State}
use Rattle.program.specs.declared.number.MessageId.{MessageId}
use Rattle.program.specs.declared.number.StateId.{StateId}
use Rattle.contract_traces.specs.Tables.{AddsEntry, Again, First, HasBothAt, HasDirectionAt, HasMessage, HasStateAt, IsEarlierIn, IsFirstBy, IsFirstOf, IsTableOf, NotesEdge, key_of_place}
use Rattle.contract_traces.specs.declared.firsts.EdgesSoFar.{EdgesSoFar}

pub pair_exact : CmpEqualImpliesEq pair_cmp
pair_exact = exact_pairs nat_cmp nat_cmp exact_unsigned exact_unsigned

some_is : {V : Type 0} (o : Option V) (v : V) → o ≡ Some v → is_some o ≡ true
some_is o v e = ap is_some e

pub no_value : {V : Type 0} (o : Option V) → o ≡ None → is_some o ≡ true → ⊥
no_value o none some = let clash : true ≡ false = sym some ∙ ap is_some none in cc

-- a value was put at a key
pub adds_updated : {K V : Type 0} (cmp : K → K → Ordering) → CmpEqualImpliesEq cmp → (old new : BTreeMap K V) (key : K) (value : V) → Updates cmp old new key (Some value) → AddsEntry cmp old new key value
adds_updated cmp exact old new key value up = record {
  right = λ k v e. ⊎_elim
      (λ yes. inr (sym (exact key k ((Equal-is (cmp key k)).0 yes)), same_Some v value (sym e ∙ up.0 k ∙ cond-true (is_eq (cmp key k)) (Some value) (get cmp old k) yes)))
      (λ no. inl (sym (up.2 k no) ∙ e))
      (cases_Bool (is_eq (cmp key k)));
  kept = λ k h. ⊎_elim
      (λ yes. some_is (get cmp new k) value (up.0 k ∙ cond-true (is_eq (cmp key k)) (Some value) (get cmp old k) yes))
      (λ no. ap is_some (up.2 k no) ∙ h)
      (cases_Bool (is_eq (cmp key k)));
  here = some_is (get cmp new key) value up.1;
}

-- the same at a place
pub adds_at : {V : Type 0} (old new : BTreeMap (ℕ × ℕ) V) (k key : ℕ × ℕ) (value : V) → Updates pair_cmp old new k (Some value) → k ≡ key → AddsEntry pair_cmp old new key value
adds_at old new k key value up is = subst (λ x. AddsEntry pair_cmp old new x value) is (adds_updated pair_cmp pair_exact old new k value up)

-- one more key
pub table_more : {K V : Type 0} (cmp : K → K → Ordering) (R S : K → V → Type 0) (old new : BTreeMap K V) (key : K) (value : V) → IsTableOf cmp R old → AddsEntry cmp old new key value
    → ((k : K) (v : V) → R k v → S k v) → S key value → ((k : K) (v : V) → S k v → ((w : V) × R k w) ⊎ (k ≡ key)) → IsTableOf cmp S new
table_more {K} {V} cmp R S old new key value table adds wider here split = record {
  right = λ k v e. ⊎_elim
      (λ was. wider k v (table.right k v was))
      (λ is. subst (λ (x : K). S x v) (sym is.0) (subst (λ (y : V). S key y) (sym is.1) here))
      (adds.right k v e);
  all = λ k v s. ⊎_elim
      (λ was. adds.kept k (table.all k was.0 was.1))
      (λ is. subst (λ (x : K). ContainsKey cmp new x) (sym is) adds.here)
      (split k v s);
}

-- nothing new is related
pub table_same : {K V : Type 0} (cmp : K → K → Ordering) (R S : K → V → Type 0) (old new : BTreeMap K V) → IsTableOf cmp R old → new ≡ old
    → ((k : K) (v : V) → R k v → S k v) → ((k : K) (v : V) → S k v → (w : V) × R k w) → IsTableOf cmp S new
table_same {K} {V} cmp R S old new table same wider back = subst (λ (t : BTreeMap K V). IsTableOf cmp S t) (sym same) (record {
  right = λ k v e. wider k v (table.right k v e);
  all = λ k v s. let was = back k v s in table.all k was.0 was.1;
})

-- messages
pub message_more : (xs : List MessageModel) (m : MessageModel) (old new : BTreeMap ℕ Direction) → IsTableOf nat_cmp (HasMessage xs) old → AddsEntry nat_cmp old new m.id.0 m.direction → IsTableOf nat_cmp (HasMessage (xs ++ m ∷ [])) new
message_more xs m old new table adds = table_more nat_cmp (HasMessage xs) (HasMessage (xs ++ m ∷ [])) old new m.id.0 m.direction table adds
    (λ k v h. record { message = h.message; listed = Contains-append_left xs (m ∷ []) h.message h.listed; its = h.its; is = h.is })
    (record { message = m; listed = Contains-push xs m; its = refl; is = refl })
    (λ k v h. ⊎_elim
    (λ was. inl (v, record { message = h.message; listed = was; its = h.its; is = h.is }))
    (λ is. inr (sym h.its ∙ ap (λ (x : MessageModel). x.id.0) (sym is)))
    (Contains-push_cases xs m h.message h.listed))

-- a contract with these edges alone
abbrev pub with_edges : Parts → List Edge → Parts
with_edges parts edges = record { first = parts.first; states = parts.states; messages = parts.messages; edges = edges }

-- directions by place
pub direction_more : (parts : Parts) (es : List Edge) (e : Edge) (messages : BTreeMap ℕ Direction) (old new : BTreeMap (ℕ × ℕ) Direction) → IsTableOf nat_cmp (HasMessage parts.messages) messages
    → MatchOption (get nat_cmp messages e.message.0) (new ≡ old) (λ d. AddsEntry pair_cmp old new (key_of_place e.place) d)
    → IsTableOf pair_cmp (HasDirectionAt (with_edges parts es)) old → IsTableOf pair_cmp (HasDirectionAt (with_edges parts (es ++ e ∷ []))) new
direction_more parts es e messages old new listed noted table = by (get nat_cmp messages e.message.0) refl noted
  where
    before : Parts
    before = with_edges parts es

    now : Parts
    now = with_edges parts (es ++ e ∷ [])

    wider : (k : ℕ × ℕ) (d : Direction) → HasDirectionAt (with_edges parts es) k d → HasDirectionAt (with_edges parts (es ++ e ∷ [])) k d
    wider k d h = record { edge = h.edge; there = Contains-append_left es (e ∷ []) h.edge h.there; its = h.its; message = h.message; listed = h.listed; same = h.same; is = h.is }

    narrower : (k : ℕ × ℕ) (d : Direction) (h : HasDirectionAt (with_edges parts (es ++ e ∷ [])) k d) → Contains es h.edge → HasDirectionAt (with_edges parts es) k d
    narrower k d h was = record { edge = h.edge; there = was; its = h.its; message = h.message; listed = h.listed; same = h.same; is = h.is }

    by : (o : Option Direction) → get nat_cmp messages e.message.0 ≡ o → MatchOption o (new ≡ old) (λ d. AddsEntry pair_cmp old new (key_of_place e.place) d) → IsTableOf pair_cmp (HasDirectionAt (with_edges parts (es ++ e ∷ []))) new
    by None none same = table_same pair_cmp (HasDirectionAt (with_edges parts es)) (HasDirectionAt (with_edges parts (es ++ e ∷ []))) old new table same wider
        (λ k d h. ⊎_elim
        (λ was. (d, narrower k d h was))
        (λ is. absurd (no_value (get nat_cmp messages e.message.0) none (listed.all e.message.0 d (record { message = h.message; listed = h.listed; its = ap (λ (i : MessageId). i.0) (h.same ∙ ap (λ (x : Edge). x.message) (sym is)); is = h.is }))))
        (Contains-push_cases es e h.edge h.there))
    by (Some d) some adds =
        let m = listed.right e.message.0 d some in
        table_more pair_cmp (HasDirectionAt (with_edges parts es)) (HasDirectionAt (with_edges parts (es ++ e ∷ []))) old new (key_of_place e.place) d table adds wider
        (record { edge = e; there = Contains-push es e; its = refl; message = m.message; listed = m.listed; same = (λ i. record { 0 = m.its i }); is = m.is })
        (λ k c h. ⊎_elim
        (λ was. inl (c, narrower k c h was))
        (λ is. inr (ap key_of_place (sym h.its ∙ ap (λ (x : Edge). x.place) (sym is))))
        (Contains-push_cases es e h.edge h.there))

-- first edges by sign
pub sign_more : (es : List Edge) (e : Edge) (sign : Sign) (old new : BTreeMap ℕ Edge) → ((e.sign ≡ sign) ⊎ (e.sign ≡ sign → ⊥)) → (e.sign ≡ sign → AddsEntry nat_cmp old new e.from.0 e) → ((e.sign ≡ sign → ⊥) → new ≡ old)
    → IsTableOf nat_cmp (IsFirstBy es sign) old → IsTableOf nat_cmp (IsFirstBy (es ++ e ∷ []) sign) new
sign_more es e sign old new either adds same table = ⊎_elim
    (λ yes. table_more nat_cmp (IsFirstBy es sign) (IsFirstBy (es ++ e ∷ []) sign) old new e.from.0 e table (adds yes) wider
    (record { there = Contains-push es e; from = refl; its = yes })
    (λ k d h. ⊎_elim
    (λ was. inl (d, record { there = was; from = h.from; its = h.its }))
    (λ is. inr (sym h.from ∙ ap (λ (x : Edge). x.from.0) (sym is)))
    (Contains-push_cases es e d h.there)))
    (λ no. table_same nat_cmp (IsFirstBy es sign) (IsFirstBy (es ++ e ∷ []) sign) old new table (same no) wider
    (λ k d h. ⊎_elim
    (λ was. (d, record { there = was; from = h.from; its = h.its }))
    (λ is. absurd (no (ap (λ (x : Edge). x.sign) is ∙ h.its)))
    (Contains-push_cases es e d h.there)))
    either
  where
    wider : (k : ℕ) (d : Edge) → IsFirstBy es sign k d → IsFirstBy (es ++ e ∷ []) sign k d
    wider k d h = record { there = Contains-append_left es (e ∷ []) d h.there; from = h.from; its = h.its }

-- an element of a list with one more, by its index
element_more : {X : Type 0} (xs : List X) (x : X) (i : ℕ) (y : X) → slice_get (xs ++ x ∷ []) i ≡ Some y → (slice_get xs i ≡ Some y) ⊎ ((i ≡ length xs) × (y ≡ x))
element_more [] x zero y e = inr (refl, same_Some y x (sym e))
element_more [] x (suc i) y e = absurd (cc)
element_more (z ∷ xs) x zero y e = inl e
element_more (z ∷ xs) x (suc i) y e = ⊎_elim (λ was. inl was) (λ is. inr (ap suc is.0, is.1)) (element_more xs x i y e)

element_kept : {X : Type 0} (xs : List X) (x : X) (i : ℕ) (y : X) → slice_get xs i ≡ Some y → slice_get (xs ++ x ∷ []) i ≡ Some y
element_kept [] x i y e = absurd (cc)
element_kept (z ∷ xs) x zero y e = e
element_kept (z ∷ xs) x (suc i) y e = element_kept xs x i y e

-- the element that a list contains, by its index
element_of : {X : Type 0} (xs : List X) (x : X) (c : Contains xs x) → slice_get xs c.0 ≡ Some x
element_of xs x c = slice_get-get_or xs c.0 x c.1 ∙ ap Some c.2

from_of : (d e : Edge) → key_of d ≡ key_of e → d.from ≡ e.from
from_of d e same = λ i. record { 0 = (same i).0 }

message_of : (d e : Edge) → key_of d ≡ key_of e → d.message ≡ e.message
message_of d e same = λ i. record { 0 = (same i).1 }

-- what was noted of these edges
pub record AreNoted (es : List Edge) (noted : EdgesSoFar) : Type 0 where
  pub firsts : IsTableOf pair_cmp (IsFirstOf es) noted.firsts
  pub earlier : IsTableOf pair_cmp (IsEarlierIn es) noted.earlier

earlier_wider : (es : List Edge) (e : Edge) (k : ℕ × ℕ) (d : Edge) → IsEarlierIn es k d → IsEarlierIn (es ++ e ∷ []) k d
earlier_wider es e k d h = record {
  at = h.at;
  edge = h.edge;
  there = element_kept es e h.at h.edge h.there;
  its = h.its;
  before = h.before;
  less = h.less;
  earlier = h.earlier;
  first = element_kept es e h.before h.earlier h.first;
  state = h.state;
  message = h.message;
  is = h.is;
}

first_wider : (es : List Edge) (e : Edge) (k : ℕ × ℕ) (d : Edge) → IsFirstOf es k d → IsFirstOf (es ++ e ∷ []) k d
first_wider es e k d h = record { there = Contains-append_left es (e ∷ []) d h.there; its = h.its }

-- an earlier edge in a list with one more is one in the list, or the last edge repeats an edge of the list
data Split (es : List Edge) (e : Edge) (k : ℕ × ℕ) (d : Edge) : Type 0 where
  Was : IsEarlierIn es k d → Split es e k d
  Last : k ≡ key_of_place e.place → IsFirstOf es (key_of e) d → Split es e k d

split : (es : List Edge) (e : Edge) (k : ℕ × ℕ) (d : Edge) → IsEarlierIn (es ++ e ∷ []) k d → Split es e k d
split es e k d h = ⊎_elim
    (λ was. ⊎_elim
    (λ first. Was (record { at = h.at; edge = h.edge; there = was; its = h.its; before = h.before; less = h.less; earlier = h.earlier; first = first; state = h.state; message = h.message; is = h.is }))
    (λ last. let within = slice_get_within es h.at h.edge was in let less = h.less in absurd (omega (arith, within, less, last.0)))
    (element_more es e h.before h.earlier h.first))
    (λ last. ⊎_elim
    (λ first.
    let same : d ≡ h.earlier = let is = h.is in cc in
    Last (ap key_of_place (sym h.its ∙ ap (λ (x : Edge). x.place) last.1))
    (subst (IsFirstOf es (key_of e)) (sym same) (record { there = (h.before, slice_get_within es h.before h.earlier first, get_or_from_slice_get es h.before h.earlier h.earlier first); its = keys_same h.earlier e (h.state ∙ ap (λ (x : Edge). x.from) last.1) (h.message ∙ ap (λ (x : Edge). x.message) last.1) })))
    (λ both. let less = h.less in absurd (omega (arith, less, last.0, both.0)))
    (element_more es e h.before h.earlier h.first))
    (element_more es e h.at h.edge h.there)

-- one more edge was noted
pub repeats_more : (es : List Edge) (e : Edge) (old new : EdgesSoFar) → NotesEdge e old new → AreNoted es old → AreNoted (es ++ e ∷ []) new
repeats_more es e old new (Again first is same adds) so_far =
    let f = so_far.firsts.right (key_of e) first is in
    record {
      firsts = table_same pair_cmp (IsFirstOf es) (IsFirstOf (es ++ e ∷ [])) old.firsts new.firsts so_far.firsts same (first_wider es e)
          (λ k d h. ⊎_elim
          (λ was. (d, record { there = was; its = h.its }))
          (λ last. (first, record { there = f.there; its = f.its ∙ ap key_of last ∙ h.its }))
          (Contains-push_cases es e d h.there));
      earlier = table_more pair_cmp (IsEarlierIn es) (IsEarlierIn (es ++ e ∷ [])) old.earlier new.earlier (key_of_place e.place) first so_far.earlier adds (earlier_wider es e)
          (record {
            at = length es;
            edge = e;
            there = last_there es e;
            its = refl;
            before = f.there.0;
            less = f.there.1;
            earlier = first;
            first = element_kept es e f.there.0 first (element_of es first f.there);
            state = from_of first e f.its;
            message = message_of first e f.its;
            is = refl;
          })
          (λ k d h. elim (split es e k d h) [
            | Was was ↦ inl (d, was)
            | Last at first_of ↦ inr at
          ]);
    }
repeats_more es e old new (First none adds same) so_far = record {
  firsts = table_more pair_cmp (IsFirstOf es) (IsFirstOf (es ++ e ∷ [])) old.firsts new.firsts (key_of e) e so_far.firsts adds (first_wider es e)
      (record { there = Contains-push es e; its = refl })
      (λ k d h. ⊎_elim
      (λ was. inl (d, record { there = was; its = h.its }))
      (λ last. inr (sym h.its ∙ ap key_of (sym last)))
      (Contains-push_cases es e d h.there));
  earlier = table_same pair_cmp (IsEarlierIn es) (IsEarlierIn (es ++ e ∷ [])) old.earlier new.earlier so_far.earlier same (earlier_wider es e)
      (λ k d h. elim (split es e k d h) [
        | Was was ↦ (d, was)
        | Last at first_of ↦ absurd (no_value (get pair_cmp old.firsts (key_of e)) none (so_far.firsts.all (key_of e) d first_of))
      ]);
}

-- states by place
pub state_more : (ss : List State) (s : State) (old new : BTreeMap (ℕ × ℕ) State) → IsTableOf pair_cmp (HasStateAt ss) old → AddsEntry pair_cmp old new (key_of_place s.place) s → IsTableOf pair_cmp (HasStateAt (ss ++ s ∷ [])) new
state_more ss s old new table adds = table_more pair_cmp (HasStateAt ss) (HasStateAt (ss ++ s ∷ [])) old new (key_of_place s.place) s table adds
    (λ k q h. record { there = Contains-append_left ss (s ∷ []) q h.there; its = h.its })
    (record { there = Contains-push ss s; its = refl })
    (λ k q h. ⊎_elim
    (λ was. inl (q, record { there = was; its = h.its }))
    (λ is. inr (sym h.its ∙ ap (λ (x : State). key_of_place x.place) (sym is)))
    (Contains-push_cases ss s q h.there))

-- a contract with these states alone
abbrev pub with_states : Parts → List StateModel → Parts
with_states parts states = record { first = parts.first; states = states; messages = parts.messages; edges = parts.edges }

both_wider : (parts : Parts) (ss : List StateModel) (s : StateModel) (k : ℕ × ℕ) (b : Edge × Edge) → HasBothAt (with_states parts ss) k b → HasBothAt (with_states parts (ss ++ s ∷ [])) k b
both_wider parts ss s k b h = record {
  state = h.state;
  there = Contains-append_left ss (s ∷ []) h.state h.there;
  its = h.its;
  sends = h.sends;
  sends_in = h.sends_in;
  sends_from = h.sends_from;
  sends_sign = h.sends_sign;
  receives = h.receives;
  receives_in = h.receives_in;
  receives_from = h.receives_from;
  receives_sign = h.receives_sign;
  is = h.is;
}

both_narrower : (parts : Parts) (ss : List StateModel) (s : StateModel) (k : ℕ × ℕ) (b : Edge × Edge) (h : HasBothAt (with_states parts (ss ++ s ∷ [])) k b) → Contains ss h.state → HasBothAt (with_states parts ss) k b
both_narrower parts ss s k b h was = record {
  state = h.state;
  there = was;
  its = h.its;
  sends = h.sends;
  sends_in = h.sends_in;
  sends_from = h.sends_from;
  sends_sign = h.sends_sign;
  receives = h.receives;
  receives_in = h.receives_in;
  receives_from = h.receives_from;
  receives_sign = h.receives_sign;
  is = h.is;
}

number_from : (a : Edge) (s : StateModel) → a.from.0 ≡ s.id.0 → a.from ≡ s.id
number_from a s same = λ i. record { 0 = same i }

-- a state with edges of both signs was noted
pub both_more : (parts : Parts) (ss : List StateModel) (s : StateModel) (b : Edge × Edge) (sends receives : BTreeMap ℕ Edge) (old new : BTreeMap (ℕ × ℕ) (Edge × Edge)) → IsTableOf nat_cmp (IsFirstBy parts.edges Send) sends → IsTableOf nat_cmp (IsFirstBy parts.edges Receive) receives
    → get nat_cmp sends s.id.0 ≡ Some b.0 → get nat_cmp receives s.id.0 ≡ Some b.1 → AddsEntry pair_cmp old new (key_of_place s.place) b
    → IsTableOf pair_cmp (HasBothAt (with_states parts ss)) old → IsTableOf pair_cmp (HasBothAt (with_states parts (ss ++ s ∷ []))) new
both_more parts ss s b sends receives old new s_table r_table s_is r_is adds table =
    let a = s_table.right s.id.0 b.0 s_is in
    let d = r_table.right s.id.0 b.1 r_is in
    table_more pair_cmp (HasBothAt (with_states parts ss)) (HasBothAt (with_states parts (ss ++ s ∷ []))) old new (key_of_place s.place) b table adds (both_wider parts ss s)
    (record {
      state = s;
      there = Contains-push ss s;
      its = refl;
      sends = b.0;
      sends_in = a.there;
      sends_from = number_from b.0 s a.from;
      sends_sign = a.its;
      receives = b.1;
      receives_in = d.there;
      receives_from = number_from b.1 s d.from;
      receives_sign = d.its;
      is = refl;
    })
    (λ k c h. ⊎_elim
    (λ was. inl (c, both_narrower parts ss s k c h was))
    (λ is. inr (ap key_of_place (sym h.its ∙ ap (λ (x : StateModel). x.place) (sym is))))
    (Contains-push_cases ss s h.state h.there))

-- a state without edges of both signs was noted
pub both_same : (parts : Parts) (ss : List StateModel) (s : StateModel) (sends receives : BTreeMap ℕ Edge) (table : BTreeMap (ℕ × ℕ) (Edge × Edge)) → IsTableOf nat_cmp (IsFirstBy parts.edges Send) sends → IsTableOf nat_cmp (IsFirstBy parts.edges Receive) receives
    → (get nat_cmp sends s.id.0 ≡ None) ⊎ (get nat_cmp receives s.id.0 ≡ None)
    → IsTableOf pair_cmp (HasBothAt (with_states parts ss)) table → IsTableOf pair_cmp (HasBothAt (with_states parts (ss ++ s ∷ []))) table
both_same parts ss s sends receives table s_table r_table none so_far = table_same pair_cmp (HasBothAt (with_states parts ss)) (HasBothAt (with_states parts (ss ++ s ∷ []))) table table so_far refl (both_wider parts ss s)
    (λ k c h. ⊎_elim
    (λ was. (c, both_narrower parts ss s k c h was))
    (λ is.
    let same : h.state.id ≡ s.id = ap (λ (x : StateModel). x.id) (sym is) in
    absurd (⊎_elim
    (λ no. no_value (get nat_cmp sends s.id.0) no (s_table.all s.id.0 h.sends (record { there = h.sends_in; from = ap (λ (x : StateId). x.0) (h.sends_from ∙ same); its = h.sends_sign })))
    (λ no. no_value (get nat_cmp receives s.id.0) no (r_table.all s.id.0 h.receives (record { there = h.receives_in; from = ap (λ (x : StateId). x.0) (h.receives_from ∙ same); its = h.receives_sign })))
    none))
    (Contains-push_cases ss s h.state h.there))

-- the elements up to an index and one more
taken : {X : Type 0} (P : List X → Type 0) (xs : List X) (n : ℕ) (d x : X) → n < length xs → P (take n xs ++ x ∷ []) → x ≡ get_or xs n d → P (take (n + 1) xs)
taken P xs n d x lt h is = subst P (sym (take_more xs n d lt ∙ ap (λ y. take n xs ++ y ∷ []) (sym is))) h

-- the same, if the elements are read from another list that is equal
taken_from : {X : Type 0} (P : List X → Type 0) (read xs : List X) (n : ℕ) (d x : X) → read ≡ xs → n < length read → P (take n xs ++ x ∷ []) → x ≡ get_or read n d → P (take (n + 1) xs)
taken_from P read xs n d x same lt h is = taken P xs n d x (subst (λ l. n < length l) same lt) h (is ∙ ap (λ l. get_or l n d) same)

pub repeats_step : (es : List Edge) (n : ℕ) (d e : Edge) (old new : EdgesSoFar) → n < length es → NotesEdge e old new → AreNoted (take n es) old → e ≡ get_or es n d → AreNoted (take (n + 1) es) new
repeats_step es n d e old new lt noted so_far is = taken (λ l. AreNoted l new) es n d e lt (repeats_more (take n es) e old new noted so_far) is

sign_cases : (a b : Sign) → (a ≡ b) ⊎ (a ≡ b → ⊥)
sign_cases Send Send = inl refl
sign_cases Send Receive = inr (λ e. cc)
sign_cases Receive Send = inr (λ e. cc)
sign_cases Receive Receive = inl refl

pub sign_step : (es : List Edge) (sign : Sign) (n : ℕ) (d e : Edge) (old new : BTreeMap ℕ Edge) → n < length es → (e.sign ≡ sign → AddsEntry nat_cmp old new e.from.0 e) → ((e.sign ≡ sign → ⊥) → new ≡ old)
    → IsTableOf nat_cmp (IsFirstBy (take n es) sign) old → e ≡ get_or es n d → IsTableOf nat_cmp (IsFirstBy (take (n + 1) es) sign) new
sign_step es sign n d e old new lt adds same so_far is =
    taken (λ l. IsTableOf nat_cmp (IsFirstBy l sign) new) es n d e lt (sign_more (take n es) e sign old new (sign_cases e.sign sign) adds same so_far) is

pub direction_step : (parts : Parts) (read es : List Edge) (n : ℕ) (d e : Edge) (messages : BTreeMap ℕ Direction) (old new : BTreeMap (ℕ × ℕ) Direction) → read ≡ es → n < length read → IsTableOf nat_cmp (HasMessage parts.messages) messages
    → MatchOption (get nat_cmp messages e.message.0) (new ≡ old) (λ c. AddsEntry pair_cmp old new (key_of_place e.place) c)
    → IsTableOf pair_cmp (HasDirectionAt (with_edges parts (take n es))) old → e ≡ get_or read n d → IsTableOf pair_cmp (HasDirectionAt (with_edges parts (take (n + 1) es))) new
direction_step parts read es n d e messages old new same lt listed noted so_far is =
    taken_from (λ l. IsTableOf pair_cmp (HasDirectionAt (with_edges parts l)) new) read es n d e same lt (direction_more parts (take n es) e messages old new listed noted so_far) is

pub state_step : (ss : List State) (n : ℕ) (d s : State) (old new : BTreeMap (ℕ × ℕ) State) → n < length ss → AddsEntry pair_cmp old new (key_of_place s.place) s → IsTableOf pair_cmp (HasStateAt (take n ss)) old → s ≡ get_or ss n d → IsTableOf pair_cmp (HasStateAt (take (n + 1) ss)) new
state_step ss n d s old new lt adds so_far is = taken (λ l. IsTableOf pair_cmp (HasStateAt l) new) ss n d s lt (state_more (take n ss) s old new so_far adds) is

pub message_step : (ms : List Message) (n : ℕ) (d m : Message) (old new : BTreeMap ℕ Direction) → n < length ms → AddsEntry nat_cmp old new m.id.0 m.direction → IsTableOf nat_cmp (HasMessage (map message_model (take n ms))) old → m ≡ get_or ms n d
    → IsTableOf nat_cmp (HasMessage (map message_model (take (n + 1) ms))) new
message_step ms n d m old new lt adds so_far is =
    taken (λ l. IsTableOf nat_cmp (HasMessage (map message_model l)) new) ms n d m lt
    (subst (λ l. IsTableOf nat_cmp (HasMessage l) new) (sym (map-append message_model (take n ms) (m ∷ []))) (message_more (map message_model (take n ms)) (message_model m) old new so_far adds)) is

pub both_step : (parts : Parts) (names : List ℕ) (read ss : List State) (n : ℕ) (d s : State) (b : Edge × Edge) (sends receives : BTreeMap ℕ Edge) (old new : BTreeMap (ℕ × ℕ) (Edge × Edge)) → read ≡ ss → n < length read
    → IsTableOf nat_cmp (IsFirstBy parts.edges Send) sends → IsTableOf nat_cmp (IsFirstBy parts.edges Receive) receives → get nat_cmp sends s.id.0 ≡ Some b.0 → get nat_cmp receives s.id.0 ≡ Some b.1 → AddsEntry pair_cmp old new (key_of_place s.place) b
    → IsTableOf pair_cmp (HasBothAt (with_states parts (map (state_model names) (take n ss)))) old → s ≡ get_or read n d → IsTableOf pair_cmp (HasBothAt (with_states parts (map (state_model names) (take (n + 1) ss)))) new
both_step parts names read ss n d s b sends receives old new same lt s_table r_table s_is r_is adds so_far is =
    taken_from (λ l. IsTableOf pair_cmp (HasBothAt (with_states parts (map (state_model names) l))) new) read ss n d s same lt
    (subst (λ l. IsTableOf pair_cmp (HasBothAt (with_states parts l)) new) (sym (map-append (state_model names) (take n ss) (s ∷ [])))
    (both_more parts (map (state_model names) (take n ss)) (state_model names s) b sends receives old new s_table r_table s_is r_is adds so_far)) is

pub none_step : (parts : Parts) (names : List ℕ) (read ss : List State) (n : ℕ) (d s : State) (sends receives : BTreeMap ℕ Edge) (table : BTreeMap (ℕ × ℕ) (Edge × Edge)) → read ≡ ss → n < length read
    → IsTableOf nat_cmp (IsFirstBy parts.edges Send) sends → IsTableOf nat_cmp (IsFirstBy parts.edges Receive) receives → (get nat_cmp sends s.id.0 ≡ None) ⊎ (get nat_cmp receives s.id.0 ≡ None)
    → IsTableOf pair_cmp (HasBothAt (with_states parts (map (state_model names) (take n ss)))) table → s ≡ get_or read n d → IsTableOf pair_cmp (HasBothAt (with_states parts (map (state_model names) (take (n + 1) ss)))) table
none_step parts names read ss n d s sends receives table same lt s_table r_table none so_far is =
    taken_from (λ l. IsTableOf pair_cmp (HasBothAt (with_states parts (map (state_model names) l))) table) read ss n d s same lt
    (subst (λ l. IsTableOf pair_cmp (HasBothAt (with_states parts l)) table) (sym (map-append (state_model names) (take n ss) (s ∷ [])))
    (both_same parts (map (state_model names) (take n ss)) (state_model names s) sends receives table s_table r_table none so_far)) is
