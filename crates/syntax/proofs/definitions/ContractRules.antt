-- Contracts as parts of the grammar.
use Rattle.std.proofs.Common.{◌≡◌, true, false, List, [], ◌∷◌, ◌++◌, Some, refl, ap, ◌∙◌, append_assoc, sym, subst, map}
use Rattle.std.specs.Prelude.{not}
use Rattle.std.specs.List.{flat_map}
use Rattle.std.proofs.lemmas.List.{map-append}
use Rattle.source.specs.declared.kind.Kind.TheVariants as kind
use Rattle.source.specs.declared.token.Span.{Span}
use Rattle.tree.specs.Symbols.{Symbol, Fixed, Placed, by_kind}
use Rattle.tree.specs.Spelling.{token_at}
use Rattle.syntax.specs.Reading.{never, Stops, last_at, many_at}
use Rattle.tree.specs.Trees.{member_tree, MessageTree, BodyTree, Empty, Path, One, StateTree, MemberTree, Message, State, ContractTree}
use Rattle.tree.specs.Grammar.{direction_word, message, state, member, contract}
use Rattle.syntax.specs.Firsts.{opens_message, opens_member}
use Rattle.syntax.specs.States.{state_on, body_at, state_at, member_at, members_on}
use Rattle.program.specs.declared.contract as sign_nodes
use Rattle.tree.specs.declared.contract.Member.{Member}
use Rattle.program.specs.declared.contract.Direction.TheVariants as direction
use Rattle.syntax.proofs.pieces.Pieces.{Piece, Follows, Meets, ReadsOneWay, both, both_piece, next, via_piece, wide_way, or_right}
use Rattle.syntax.proofs.pieces.Beginnings.{Starts, Splits, Leaves, splits_self}
use Rattle.syntax.proofs.pieces.Repeats.{many_piece, many_open_piece, many_stops, sequence_stops, last_more}
use Rattle.syntax.proofs.pieces.Choices.{Form, Same, Other, form_way}
use Rattle.syntax.proofs.pieces.KindLemmas.{kinds_apart}
use Rattle.syntax.proofs.pieces.CursorLemmas.{fixed_piece, placed_piece, named_piece}
use Rattle.syntax.proofs.definitions.MessageRules.{message_piece, message_starts}
use Rattle.syntax.proofs.definitions.BodyRules.{state_piece}
use Rattle.lemmas.proofs.Bools.{or_left}

-- { message }

pub messages_piece : Piece (flat_map message) (by_kind opens_message) (λ _. by_kind opens_message)
messages_piece = many_piece message_starts splits_self message_piece

-- member = message | state .

direction_head : (d : sign_nodes.Direction.Direction) → not (not (opens_message (Some (direction_word d)))) ≡ true
direction_head direction.In = refl
direction_head direction.Out = refl

direction_opens : (d : sign_nodes.Direction.Direction) → opens_member (Some (direction_word d)) ≡ true
direction_opens direction.In = refl
direction_opens direction.Out = refl

pub message_form : Form member message Message (by_kind opens_message)
message_form = record {
  first = message_starts;
  same = λ m. refl;
  each = elim [ Message m ↦ Same m refl | State s ↦ Other (record { head = Fixed kind.State; tail = _; is = refl; first = refl }) ];
}

pub state_form : Form member state State (λ y. not (by_kind opens_message y))
state_form = record {
  first = record { each = λ s. record { head = Fixed kind.State; tail = _; is = refl; first = refl } };
  same = λ s. refl;
  each = elim [ Message m ↦ Other (record { head = Fixed (direction_word m.direction); tail = _; is = refl; first = direction_head m.direction }) | State s ↦ Same s refl ];
}

pub member_piece : Piece member state_on member_at
member_piece = record { some = State state_piece.some; each = way }
  where
    way : (m : MemberTree) → ReadsOneWay member state_on member_at m
    way (Message m) = form_way message_form (λ _ r h. h) (wide_way (λ y h. refl) (message_piece.each m))
    way (State s) = form_way state_form (λ _ r h. h) (state_piece.each s)

-- { member }

pub member_starts : Starts member (by_kind opens_member)
member_starts = record {
  each = elim [
    | Message m ↦ record { head = Fixed (direction_word m.direction); tail = _; is = refl; first = direction_opens m.direction }
    | State s ↦ record { head = Fixed kind.State; tail = _; is = refl; first = refl }
  ];
}

pub member_splits : Splits (by_kind opens_member) state_on members_on
member_splits = record { none = λ y h. or_right (state_on y) (by_kind opens_member y) h; last = λ y h. or_left (state_on y) (by_kind opens_member y) h; apart = kinds_apart opens_member kind.Semicolon refl }

-- a state continues only with a semicolon

state_apart : (b : BodyTree) (y : Symbol) → state_on y ≡ false → body_at b y ≡ false
state_apart Empty y h = refl
state_apart (Path p) y h = refl
state_apart (One paths close true) y h = refl
state_apart (One paths close false) y h = h

member_apart : (m : MemberTree) (y : Symbol) → state_on y ≡ false → member_at m y ≡ false
member_apart (Message m) y h = refl
member_apart (State s) y h = state_apart s.body y h

pub member_leaves : Leaves member_at (by_kind opens_member)
member_leaves = record { apart = λ m y h. member_apart m y (kinds_apart opens_member kind.Semicolon refl y h) }

pub members_piece : Piece (flat_map member) members_on (many_at (by_kind opens_member) member_at)
members_piece = many_open_piece member_piece member_starts member_splits member_leaves

-- the symbols with which the last member that was read could continue
pub members_end_at : (m : Member) (ms all : List Member) (r : List Symbol) → all ≡ ms ++ m ∷ [] → Stops (member_at (member_tree m)) r → Stops (last_at member_at (map member_tree all)) r
members_end_at m ms all r is h =
    let last : last_at member_at (map member_tree all) ≡ member_at (member_tree m) =
    ap (λ l. last_at member_at (map member_tree l)) is ∙ ap (last_at member_at) (map-append member_tree ms (m ∷ [])) ∙ last_more member_at (map member_tree ms) (member_tree m) in
    subst (λ at. Stops at r) (sym last) h

-- { member } "}"

abbrev pub members_end : List MemberTree × Span → List Symbol
members_end = both (flat_map member) (token_at kind.CloseBrace)

pub members_follow : Follows members_on (token_at kind.CloseBrace) never
members_follow = record { each = λ u r h. refl }

members_meet : Meets (many_at (by_kind opens_member) member_at) (token_at kind.CloseBrace) (λ _. never)
members_meet = record { here = λ ms span r h. sequence_stops (by_kind opens_member) member_at (Placed kind.CloseBrace span) refl (λ m. member_apart m (Placed kind.CloseBrace span) refl) ms }

pub members_end_piece : Piece members_end never (λ _. never)
members_end_piece = both_piece members_piece (placed_piece kind.CloseBrace) members_follow members_meet

-- state { member } "}"

members_stop : (p : List MemberTree × Span) (r : List Symbol) → Stops state_on (members_end p ++ r)
members_stop p r = subst (Stops state_on) (sym (append_assoc (flat_map member p.0) (token_at kind.CloseBrace p.1) r)) (many_stops member_starts member_splits member_leaves p.0 (token_at kind.CloseBrace p.1 ++ r) refl)

state_stops : (s : StateTree) (ys : List Symbol) → Stops state_on ys → Stops (state_at s) ys
state_stops s [] h = tt
state_stops s (y ∷ ys) h = state_apart s.body y h

pub state_follows : Follows state_on members_end never
state_follows = record { each = λ p r h. members_stop p r }

state_meets : Meets state_at members_end (λ _. never)
state_meets = record { here = λ s p r h. state_stops s (members_end p ++ r) (members_stop p r) }

abbrev pub states_end : StateTree × (List MemberTree × Span) → List Symbol
states_end = both state members_end

pub states_end_piece : Piece states_end never (λ _. never)
states_end_piece = both_piece state_piece members_end_piece state_follows state_meets

-- { message } state { member } "}"

pub messages_follow : Follows (by_kind opens_message) states_end never
messages_follow = record { each = λ p r h. refl }

messages_meet : Meets {X = List MessageTree} (λ _. by_kind opens_message) states_end (λ _. never)
messages_meet = record { here = λ ms p r h. refl }

pub inside_piece : Piece (both (flat_map message) states_end) never (λ _. never)
inside_piece = both_piece messages_piece states_end_piece messages_follow messages_meet

-- contract = "contract" ID "{" { message } state { member } "}" .

abbrev pub contract_to : ContractTree → Unit {0} × (Span × (Unit {0} × (List MessageTree × (StateTree × (List MemberTree × Span)))))
contract_to c = (tt, (c.name, (tt, (c.messages, (c.state, (c.members, c.close))))))

abbrev pub contract_from : Unit {0} × (Span × (Unit {0} × (List MessageTree × (StateTree × (List MemberTree × Span))))) → ContractTree
contract_from p = record { name = p.1.0; messages = p.1.1.1.0; state = p.1.1.1.1.0; members = p.1.1.1.1.1.0; close = p.1.1.1.1.1.1 }

pub contract_piece : Piece contract never (λ _. never)
contract_piece = via_piece contract_to contract_from (λ _. refl) (next (fixed_piece kind.Contract) (next named_piece (next (fixed_piece kind.OpenBrace) inside_piece)))
