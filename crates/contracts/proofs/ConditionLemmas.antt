-- What is found at one edge or one state.
use Rattle.std.proofs.Common.{◌≡◌, ◌≢◌, ℕ, ◌+◌, ◌<◌, List, [], ◌∷◌, ◌++◌, length, map, get_or, Some, sym, refl, ap, ◌∙◌, subst, arith, ⊎_elim}
use Rattle.std.specs.Prelude.{Contains, AllPairs, slice_get, codes, string_bytes, ◌⊎◌}
use Rattle.std.specs.Str.Lossy.{utf8_lossy}
use Rattle.std.proofs.lemmas.Bool.{cases_order}
use Rattle.std.proofs.lemmas.List.{get_or-map, length-map, map-append}
use Rattle.source.specs.declared.finding.Code.{Code}
use Rattle.source.specs.declared.finding.Code.TheVariants.{C01, C02, C03}
use Rattle.source.specs.declared.finding.Finding.{Finding}
use Rattle.source.specs.declared.place.Place.{Place}
use Rattle.program.specs.declared.contract.Edge.{Edge}
use Rattle.program.specs.declared.number.MessageId.{MessageId}
use Rattle.program.specs.declared.number.StateId.{StateId}
use Rattle.program.specs.declared.contract.Sign.{Sign}
use Rattle.program.specs.declared.contract.Sign.TheVariants.{Send, Receive}
use Rattle.std.proofs.lemmas.Option.{slice_get_within, get_or_from_slice_get, slice_get-get_or}
use Rattle.contracts.specs.Orders.{HasEarlier, IsOrder, key_at}
use Rattle.contracts.specs.Positions.{key_of}
use Rattle.contracts.proofs.OrderLemmas.{key_here, order_within, place_of}
use Rattle.contracts.specs.Parts.{StateModel, MessageModel}
use Rattle.contracts.specs.Conditions.{FindingModel, finding_model, sign_of, IsAgainst, IsTwice, IsBoth}
use Rattle.contracts.specs.Found.{FoundBelow}
use Rattle.contracts.proofs.FoundLemmas.{found_same, found_more}
use Rattle.contracts.proofs.PartLemmas.{get_again}

-- two elements with one key are one, if each key occurs once
pub once : {A B : Type 0} (key : A → B) (xs : List A) → AllPairs (λ x y. x ≢ y) (map key xs) → (x y : A) → Contains xs x → Contains xs y → key x ≡ key y → x ≡ y
once key xs apart x y c d same =
    let size = length-map xs key in
    let in_x = c.1 in
    let in_y = d.1 in
    let at_x : get_or (map key xs) c.0 (key x) ≡ key x = get_or-map key xs c.0 x (key x) c.1 ∙ ap key c.2 in
    let at_y : get_or (map key xs) d.0 (key x) ≡ key y = get_or-map key xs d.0 y (key x) d.1 ∙ ap key d.2 in
    ⊎_elim
    (λ equal. sym c.2 ∙ ap (λ k. get_or xs k x) equal ∙ get_again xs d.0 y x d.1 ∙ d.2)
    (λ either. ⊎_elim
    (λ less. absurd (apart c.0 d.0 (key x) less (omega (arith, size, in_y)) (at_x ∙ same ∙ sym at_y)))
    (λ more. absurd (apart d.0 c.0 (key x) more (omega (arith, size, in_x)) (at_y ∙ sym same ∙ sym at_x)))
    either)
    (cases_order c.0 d.0)

abbrev made : Place → Code → List ℕ → FindingModel
made p c t = record { place = p; code = c; text = t }

-- a finding from its three parts
pub parts_are : (f : Finding) (place : Place) (code : Code) (text : List ℕ) → f.place ≡ place → f.code ≡ code → string_bytes f.text ≡ text → finding_model f ≡ record { place = place; code = code; text = text }
parts_are f place code text p c t = ap (λ x. made x f.code (string_bytes f.text)) p ∙ ap (λ x. made place x (string_bytes f.text)) c ∙ ap (made place code) t

pub one_of : {A : Type 0} (x y : A) → Some x ≡ Some y → x ≡ y
one_of x y e = cc

abbrev pub against : Edge → MessageModel → FindingModel
against e m = record { place = e.place; code = C01; text = utf8_lossy m.name ++ codes " against its direction" }

pub against_more : (messages : List MessageModel) (edges : List Edge) (i : ℕ) (e : Edge) (m : MessageModel) (found : List FindingModel)
    → AllPairs (λ x y. x ≢ y) (map (λ (m : MessageModel). m.id) messages) → slice_get edges i ≡ Some e → Contains messages m → m.id ≡ e.message → e.sign ≢ sign_of m.direction
    → FoundBelow (IsAgainst messages edges) i found → FoundBelow (IsAgainst messages edges) (i + 1) (found ++ record { place = e.place; code = C01; text = utf8_lossy m.name ++ codes " against its direction" } ∷ [])
against_more messages edges i e m found apart at listed its differs h = found_more (IsAgainst messages edges) i found (against e m) h
    (record { edge = e; at = at; message = m; listed = listed; its = its; differs = differs; is = refl })
    (λ f is. let same : e ≡ is.edge = one_of e is.edge (sym at ∙ is.at) in
    let named : m ≡ is.message = once (λ (m : MessageModel). m.id) messages apart m is.message listed is.listed (its ∙ ap (λ (x : Edge). x.message) same ∙ sym is.its) in
    ap (λ x. against x m) same ∙ ap (against is.edge) named ∙ sym is.is)

pub against_same : (messages : List MessageModel) (edges : List Edge) (i : ℕ) (e : Edge) (m : MessageModel) (found : List FindingModel)
    → AllPairs (λ x y. x ≢ y) (map (λ (m : MessageModel). m.id) messages) → slice_get edges i ≡ Some e → Contains messages m → m.id ≡ e.message → e.sign ≡ sign_of m.direction
    → FoundBelow (IsAgainst messages edges) i found → FoundBelow (IsAgainst messages edges) (i + 1) found
against_same messages edges i e m found apart at listed its agrees h = found_same (IsAgainst messages edges) i found h
    (λ f is. let same : e ≡ is.edge = one_of e is.edge (sym at ∙ is.at) in
    let named : m ≡ is.message = once (λ (m : MessageModel). m.id) messages apart m is.message listed is.listed (its ∙ ap (λ (x : Edge). x.message) same ∙ sym is.its) in
    is.differs (ap (λ (x : Edge). x.sign) (sym same) ∙ agrees ∙ ap (λ (x : MessageModel). sign_of x.direction) named))

-- one more finding
pub pushed : (found new : List Finding) (f : Finding) (g : FindingModel) → new ≡ found ++ f ∷ [] → finding_model f ≡ g → map finding_model new ≡ map finding_model found ++ g ∷ []
pushed found new f g is same = ap (map finding_model) is ∙ map-append finding_model found (f ∷ []) ∙ ap (λ x. map finding_model found ++ x ∷ []) same

abbrev pub twice : Edge → MessageModel → FindingModel
twice e m = record { place = e.place; code = C02; text = utf8_lossy m.name ++ codes " twice in a state" }

abbrev state_of : ℕ → StateId
state_of n = record { 0 = n }

abbrev message_of : ℕ → MessageId
message_of n = record { 0 = n }

-- edges with one state and one message have one key
pub keys_same : (d e : Edge) → d.from ≡ e.from → d.message ≡ e.message → key_of d ≡ key_of e
keys_same d e state message = ap (λ (x : StateId). pair x.0 d.message.0) state ∙ ap (λ (x : MessageId). pair e.from.0 x.0) message
  where
    pair : ℕ → ℕ → ℕ × ℕ
    pair a b = (a, b)

-- the finding at the edge with index k in the order
abbrev pub TwiceAt : List MessageModel → List Edge → List ℕ → ℕ → FindingModel → Type 0
TwiceAt messages edges order k = IsTwice messages edges (get_or order k 0)

pub twice_more : (messages : List MessageModel) (edges : List Edge) (order : List ℕ) (k : ℕ) (e : Edge) (m : MessageModel) (found : List FindingModel)
    → AllPairs (λ x y. x ≢ y) (map (λ (m : MessageModel). m.id) messages) → slice_get edges (get_or order k 0) ≡ Some e → Contains messages m → m.id ≡ e.message
    → HasEarlier edges (get_or order k 0)
    → FoundBelow (TwiceAt messages edges order) k found → FoundBelow (TwiceAt messages edges order) (k + 1) (found ++ record { place = e.place; code = C02; text = utf8_lossy m.name ++ codes " twice in a state" } ∷ [])
twice_more messages edges order k e m found apart at listed its has h = found_more (TwiceAt messages edges order) k found (twice e m) h
    (record {
      edge = e;
      at = at;
      index = before.0;
      before = before.1.1;
      earlier = before.1.0;
      there = before.1.2;
      state = ap (λ (k : ℕ × ℕ). state_of k.0) before.1.3;
      same = ap (λ (k : ℕ × ℕ). message_of k.1) before.1.3;
      message = m;
      listed = listed;
      its = its;
      is = refl;
    })
    (λ f is. let same : e ≡ is.edge = one_of e is.edge (sym at ∙ is.at) in
    let named : m ≡ is.message = once (λ (m : MessageModel). m.id) messages apart m is.message listed is.listed (its ∙ ap (λ (x : Edge). x.message) same ∙ sym is.its) in
    ap (λ x. twice x m) same ∙ ap (twice is.edge) named ∙ sym is.is)
  where
    i : ℕ
    i = get_or order k 0

    before : (j : ℕ) × ((d : Edge) × (j < i) × (slice_get edges j ≡ Some d) × (key_of d ≡ key_of e))
    before =
        let lt = slice_get_within edges i e at in
        let less = has.1 in
        let below : has.0 < length edges = omega (arith, less, lt) in
        (has.0, (get_or edges has.0 e, has.1, slice_get-get_or edges has.0 e below, sym (key_here edges has.0 e below) ∙ has.2 ∙ key_here edges i e lt ∙ ap key_of (get_or_from_slice_get edges i e e at)))

pub twice_same : (messages : List MessageModel) (edges : List Edge) (order : List ℕ) (k : ℕ) (found : List FindingModel)
    → (HasEarlier edges (get_or order k 0) → ⊥) → FoundBelow (TwiceAt messages edges order) k found → FoundBelow (TwiceAt messages edges order) (k + 1) found
twice_same messages edges order k found none h = found_same (TwiceAt messages edges order) k found h
    (λ f is. none (is.index, is.before, key_is is.index is.earlier is.there ∙ keys_same is.earlier is.edge is.state is.same ∙ sym (key_is (get_or order k 0) is.edge is.at)))
  where
    key_is : (i : ℕ) (e : Edge) → slice_get edges i ≡ Some e → key_at edges i ≡ key_of e
    key_is i e at = key_here edges i e (slice_get_within edges i e at) ∙ ap key_of (get_or_from_slice_get edges i e e at)

-- the order has the index of each edge
pub twice_all : (messages : List MessageModel) (edges : List Edge) (order : List ℕ) (found : List FindingModel) → IsOrder edges order
    → FoundBelow (TwiceAt messages edges order) (length order) found → FoundBelow (IsTwice messages edges) (length edges) found
twice_all messages edges order found o h = record {
  right = λ f c. let r = h.right f c in (get_or order r.0 0, order_within edges order o r.0 r.1, r.2);
  all = λ i f lt is. let at = place_of edges order o i lt in h.all at.0 f at.1 (subst (λ x. IsTwice messages edges x f) (sym at.2) is);
}

abbrev pub both : StateModel → FindingModel
both s = record { place = s.place; code = C03; text = codes "both directions in " ++ utf8_lossy s.name }

pub both_more : (states : List StateModel) (edges : List Edge) (i : ℕ) (s : StateModel) (found : List FindingModel)
    → slice_get states i ≡ Some s
    → (e : Edge) × Contains edges e × (e.from ≡ s.id) × (e.sign ≡ Send)
    → (e : Edge) × Contains edges e × (e.from ≡ s.id) × (e.sign ≡ Receive)
    → FoundBelow (IsBoth states edges) i found → FoundBelow (IsBoth states edges) (i + 1) (found ++ record { place = s.place; code = C03; text = codes "both directions in " ++ utf8_lossy s.name } ∷ [])
both_more states edges i s found at a b h = found_more (IsBoth states edges) i found (both s) h
    (record {
      state = s;
      at = at;
      sends = a.0;
      sends_in = a.1;
      sends_from = a.2;
      sends_sign = a.3;
      receives = b.0;
      receives_in = b.1;
      receives_from = b.2;
      receives_sign = b.3;
      is = refl;
    })
    (λ f is. let same : s ≡ is.state = one_of s is.state (sym at ∙ is.at) in ap both same ∙ sym is.is)

-- no edge of the sign begins at the state
abbrev pub NoneFrom : List Edge → StateId → Sign → Type 0
NoneFrom edges q sign = (e : Edge) → Contains edges e → e.sign ≡ sign → e.from ≡ q → ⊥

pub both_same : (states : List StateModel) (edges : List Edge) (i : ℕ) (found : List FindingModel)
    → ((s : StateModel) → slice_get states i ≡ Some s → NoneFrom edges s.id Send ⊎ NoneFrom edges s.id Receive)
    → FoundBelow (IsBoth states edges) i found → FoundBelow (IsBoth states edges) (i + 1) found
both_same states edges i found none h = found_same (IsBoth states edges) i found h
    (λ f is. ⊎_elim
    (λ a. a is.sends is.sends_in is.sends_sign is.sends_from)
    (λ b. b is.receives is.receives_in is.receives_sign is.receives_from)
    (none is.state is.at))
