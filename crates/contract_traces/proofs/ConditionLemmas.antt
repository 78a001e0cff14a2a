-- What is shown of the findings of a contract.
use Rattle.std.proofs.Common.{◌≡◌, ◌∙◌, ℕ, true, List, [], ◌∷◌, ◌++◌, map, Option, Some, None, append-nil, refl, sym, ap, subst, ⊎_elim}
use Rattle.std.specs.Prelude.{◌≢◌, MatchOption, string_bytes}
use Rattle.std.specs.BTreeMap.{BTreeMap, get}
use Rattle.std.proofs.lemmas.Option.{get_or_from_slice_get, slice_get_within}
use Rattle.contracts.specs.Conditions.{IsFlaw}
use Rattle.contracts.specs.Positions.{pair_cmp}
use Rattle.contracts.specs.Walks.{HasSign, IsWalk}
use Rattle.contracts.proofs.PartLemmas.{contains_map}
use Rattle.program.specs.Parts.{Parts, contract_parts, state_model}
use Rattle.program.specs.declared.contract.Contract.{Contract}
use Rattle.program.specs.declared.contract.Direction.{Direction}
use Rattle.program.specs.declared.contract.Edge.{Edge}
use Rattle.program.specs.declared.contract.Sign.{Sign}
use Rattle.program.specs.declared.contract.State.{State}
use Rattle.source.specs.Findings.{FindingModel}
use Rattle.source.specs.declared.finding.Code.{Code}
use Rattle.source.specs.declared.finding.Code.TheVariants.{C01, C02, C03}
use Rattle.source.specs.declared.place.Place.{Place}
use Rattle.explanations.specs.Explained.{is_asked}
use Rattle.explanations.specs.Lines.{LineModel, line, line_model}
use Rattle.explanations.specs.declared.line.Line.{Line}
use Rattle.contract_traces.specs.Shown.{Both, ByEdges, BySign, Earlier, HasDirection, IsShown, NoFlaw, NoRing, Round, Shows, ShowsBoth, ShowsEarlier, ShowsRound, edge_line, taken_sign_text}
use Rattle.contract_traces.specs.Tables.{AreShowing, HasBothAt, HasDirectionAt, HasStateAt, IsEarlierIn, IsOneOrNone, IsTableOf, NotFound, Nothing, Showing, key_of_place}
use Rattle.contract_traces.proofs.TableLemmas.{no_value}

-- the line with a direction
pub direction_shown : (parts : Parts) (table : BTreeMap (ℕ × ℕ) Direction) (place : Place) (key : ℕ × ℕ) → IsTableOf pair_cmp (HasDirectionAt parts) table → key ≡ key_of_place place → (o : Option Direction) → get pair_cmp table key ≡ o
    → (ls : List LineModel) → MatchOption o (ls ≡ []) (λ d. ls ≡ line place (taken_sign_text d) ∷ []) → IsOneOrNone (HasDirection parts place) ls
direction_shown parts table place key t at None none ls is = subst (IsOneOrNone (HasDirection parts place)) (sym is)
    (λ xs h. no_value (get pair_cmp table (key_of_place place)) (subst (λ k. get pair_cmp table k ≡ None) at none) (t.all (key_of_place place) h.0 h.1))
direction_shown parts table place key t at (Some d) some ls is = subst (IsOneOrNone (HasDirection parts place)) (sym is)
    (d, t.right (key_of_place place) d (subst (λ k. get pair_cmp table k ≡ Some d) at some), refl)

-- an earlier edge
pub earlier_shown : (edges : List Edge) (table : BTreeMap (ℕ × ℕ) Edge) (place : Place) (key : ℕ × ℕ) → IsTableOf pair_cmp (IsEarlierIn edges) table → key ≡ key_of_place place → (o : Option Edge) → get pair_cmp table key ≡ o
    → (shown : List Edge) → MatchOption o (shown ≡ []) (λ e. shown ≡ e ∷ []) → IsOneOrNone (ShowsEarlier edges place) shown
earlier_shown edges table place key t at None none shown is = subst (IsOneOrNone (ShowsEarlier edges place)) (sym is)
    (λ xs h. no_value (get pair_cmp table (key_of_place place)) (subst (λ k. get pair_cmp table k ≡ None) at none) (t.all (key_of_place place) h.earlier (subst (ShowsEarlier edges place) h.is h)))
earlier_shown edges table place key t at (Some e) some shown is = subst (IsOneOrNone (ShowsEarlier edges place)) (sym is)
    (t.right (key_of_place place) e (subst (λ k. get pair_cmp table k ≡ Some e) at some))

-- edges of both signs
pub both_shown : (parts : Parts) (table : BTreeMap (ℕ × ℕ) (Edge × Edge)) (place : Place) (key : ℕ × ℕ) → IsTableOf pair_cmp (HasBothAt parts) table → key ≡ key_of_place place → (o : Option (Edge × Edge)) → get pair_cmp table key ≡ o
    → (shown : List Edge) → MatchOption o (shown ≡ []) (λ b. shown ≡ b.0 ∷ b.1 ∷ []) → IsOneOrNone (ShowsBoth parts place) shown
both_shown parts table place key t at None none shown is = subst (IsOneOrNone (ShowsBoth parts place)) (sym is)
    (λ xs h. no_value (get pair_cmp table (key_of_place place)) (subst (λ k. get pair_cmp table k ≡ None) at none) (t.all (key_of_place place) (h.sends, h.receives) (subst (ShowsBoth parts place) h.is h)))
both_shown parts table place key t at (Some b) some shown is = subst (IsOneOrNone (ShowsBoth parts place)) (sym is)
    (t.right (key_of_place place) b (subst (λ k. get pair_cmp table k ≡ Some b) at some))

earlier_of : (parts : Parts) (code : Code) (place : Place) (shown : List Edge) → code ≡ C02 → Shows parts code place shown → ShowsEarlier parts.edges place shown
earlier_of parts code place shown is (Earlier same h) = h
earlier_of parts code place shown is (Both other h) = absurd (cc)
earlier_of parts code place shown is (Round other h) = absurd (cc)

both_of : (parts : Parts) (code : Code) (place : Place) (shown : List Edge) → code ≡ C03 → Shows parts code place shown → ShowsBoth parts place shown
both_of parts code place shown is (Earlier other h) = absurd (cc)
both_of parts code place shown is (Both same h) = h
both_of parts code place shown is (Round other h) = absurd (cc)

-- edges for C02
pub earlier_showing : (parts : Parts) (code : Code) (place : Place) (shown : List Edge) → code ≡ C02 → IsOneOrNone (ShowsEarlier parts.edges place) shown → AreShowing parts code place shown
earlier_showing parts code place [] is none = Nothing (λ xs h. none xs (earlier_of parts code place xs is h)) refl
earlier_showing parts code place (e ∷ es) is h = Showing (Earlier is h)

-- edges for C03
pub both_showing : (parts : Parts) (code : Code) (place : Place) (shown : List Edge) → code ≡ C03 → IsOneOrNone (ShowsBoth parts place) shown → AreShowing parts code place shown
both_showing parts code place [] is none = Nothing (λ xs h. none xs (both_of parts code place xs is h)) refl
both_showing parts code place (e ∷ es) is h = Showing (Both is h)

-- a finding for C01 has a message with a direction
direction_of : (parts : Parts) (f : FindingModel) → f.code ≡ C01 → IsFlaw parts f → (ls : List LineModel) × HasDirection parts f.place ls
direction_of parts f is (i, flaw) = ⊎_elim
    (λ against.
    let place : against.edge.place ≡ f.place = ap (λ (g : FindingModel). g.place) (sym against.is) in (
      line f.place (taken_sign_text against.message.direction) ∷ [],
      (
        against.message.direction,
        record {
          edge = against.edge;
          there = (i, slice_get_within parts.edges i against.edge against.at, get_or_from_slice_get parts.edges i against.edge against.edge against.at);
          its = place;
          message = against.message;
          listed = against.listed;
          same = against.its;
          is = refl;
        },
        refl,
      ),
    ))
    (λ other. ⊎_elim
    (λ twice. let code = ap (λ (g : FindingModel). g.code) twice.is in absurd (cc))
    (λ rest. ⊎_elim
    (λ both. let code = ap (λ (g : FindingModel). g.code) both.is in absurd (cc))
    (λ round. let code = ap (λ (g : FindingModel). g.code) round.is in absurd (cc))
    rest)
    other)
    flaw

-- edges show any other finding
edges_of : (parts : Parts) (f : FindingModel) → (f.code ≡ C01 → ⊥) → IsFlaw parts f → (shown : List Edge) × Shows parts f.code f.place shown
edges_of parts f other (i, flaw) = ⊎_elim
    (λ against. absurd (other (ap (λ (g : FindingModel). g.code) against.is)))
    (λ later. ⊎_elim
    (λ twice. (
      twice.earlier ∷ [],
      Earlier (ap (λ (g : FindingModel). g.code) twice.is) (record {
        at = i;
        edge = twice.edge;
        there = twice.at;
        its = ap (λ (g : FindingModel). g.place) (sym twice.is);
        before = twice.index;
        less = twice.before;
        earlier = twice.earlier;
        first = twice.there;
        state = twice.state;
        message = twice.same;
        is = refl;
      }),
    ))
    (λ rest. ⊎_elim
    (λ both. (
      both.sends ∷ both.receives ∷ [],
      Both (ap (λ (g : FindingModel). g.code) both.is) (record {
        state = both.state;
        there = (i, slice_get_within parts.states i both.state both.at, get_or_from_slice_get parts.states i both.state both.state both.at);
        its = ap (λ (g : FindingModel). g.place) (sym both.is);
        sends = both.sends;
        sends_in = both.sends_in;
        sends_from = both.sends_from;
        sends_sign = both.sends_sign;
        receives = both.receives;
        receives_in = both.receives_in;
        receives_from = both.receives_from;
        receives_sign = both.receives_sign;
        is = refl;
      }),
    ))
    (λ round. (
      round.round.first ∷ round.round.others,
      Round (ap (λ (g : FindingModel). g.code) round.is) (record {
        state = round.state;
        there = (i, slice_get_within parts.states i round.state round.at, get_or_from_slice_get parts.states i round.state round.state round.at);
        its = ap (λ (g : FindingModel). g.place) (sym round.is);
        sign = round.sign;
        some = λ e. cc;
        walk = round.round.walk;
        one_sign = round.round.one_sign;
      }),
    ))
    rest)
    later)
    flaw

-- what is shown of a finding for C01
pub sign_shown : (named : Option Place) (parts : Parts) (f : FindingModel) (ls : List LineModel) → is_asked named f.place ≡ true → f.code ≡ C01 → IsOneOrNone (HasDirection parts f.place) ls → IsShown named parts (record { finding = f; lines = ls })
sign_shown named parts f [] asked is none = NoFlaw (λ flaw. let some = direction_of parts f is flaw in none some.0 some.1) refl
sign_shown named parts f (l ∷ ls) asked is h = BySign asked is h

-- what is shown of any other finding
pub edges_shown : (named : Option Place) (parts : Parts) (f : FindingModel) (shown : List Edge) (ls : List LineModel) → is_asked named f.place ≡ true → (f.code ≡ C01 → ⊥) → AreShowing parts f.code f.place shown → ls ≡ map (edge_line parts) shown
    → IsShown named parts (record { finding = f; lines = ls })
edges_shown named parts f shown ls asked other (Showing s) is = ByEdges asked (record { shown = shown; show = s; lines = is })
edges_shown named parts f shown ls asked other (NotFound code none) is = NoRing code (is ∙ ap (map (edge_line parts)) none)
edges_shown named parts f shown ls asked other (Nothing never none) is = NoFlaw (λ flaw. let some = edges_of parts f other flaw in never some.0 some.1) (is ∙ ap (map (edge_line parts)) none)

-- a line with this text alone
pub one_line : (l : Line) (ls : List LineModel) (place : Place) (text : List ℕ) → ls ≡ line_model l ∷ [] → l.place ≡ place → l.text.items ≡ text ++ ([] ++ []) → ls ≡ line place text ∷ []
one_line l ls place text is at says = is ∙ ap (λ y. y ∷ []) (λ i. let same = says ∙ append-nil text in record { place = at i; text = same i })

-- a ring around a state
pub round_shown : (contract : Contract) (place : Place) (state : State) (sign : Sign) (shown : List Edge) → HasStateAt contract.states.items (key_of_place place) state → shown ≢ [] → IsWalk contract.edges.items state.id shown state.id → HasSign sign shown
    → ShowsRound (contract_parts contract) place shown
round_shown contract place state sign shown at some walk one_sign =
    let names = string_bytes contract.state_names in
    record {
      state = state_model names state;
      there = contains_map (state_model names) contract.states.items state at.there;
      its = λ i. record { line = (at.its i).0; col = (at.its i).1 };
      sign = sign;
      some = some;
      walk = walk;
      one_sign = one_sign;
    }
