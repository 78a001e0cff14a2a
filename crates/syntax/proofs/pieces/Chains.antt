-- A part, and any number of further ones, each after an operator.
use Rattle.std.proofs.Common.{◌≡◌, Bool, true, false, List, [], ◌∷◌, ◌++◌, sym, refl, ap, ◌∙◌, subst, append_assoc}
use Rattle.std.specs.Prelude.{◌||◌}
use Rattle.std.specs.List.{flat_map}
use Rattle.tree.specs.Symbols.{Symbol}
use Rattle.syntax.specs.Reading.{never, Stops, leads, Fails, Takes, last_at, many_at}
use Rattle.syntax.proofs.pieces.Pieces.{ReadsOneWay, Piece, Follows, both, both_way, both_piece, fails_first, fails_second, fails_here, fails_after, ends, meets, or_right, stops_left, stops_right, stops_both}
use Rattle.syntax.proofs.pieces.Beginnings.{Starts, Splits, Leaves, sequence_starts}
use Rattle.syntax.proofs.pieces.Repeats.{nil_open_way, cons_open_way, many_open_piece, many_stops, many_fails}
use Rattle.syntax.proofs.pieces.Options.{MeetsOpen, open_way, open_piece}
use Rattle.lemmas.proofs.Bools.{or_left}

-- an operator has an end of its own, and no part continues with a symbol that begins one
pub record Joins {X O : Type 0} (a : X → List Symbol) (o : O → List Symbol) (f : Symbol → Bool) (at : X → Symbol → Bool) (starts : Symbol → Bool) : Type 0 where
  pub operator : Piece o never (λ _. never)
  pub begin : Starts o starts
  pub apart : (y : Symbol) → starts y ≡ true → f y ≡ false
  pub wide : (x : X) (y : Symbol) → f y ≡ false → at x y ≡ false

-- operators, each with the part after it
abbrev pub links : {X O : Type 0} → (X → List Symbol) → (O → List Symbol) → List (O × X) → List Symbol
links a o = flat_map (both o a)

abbrev pub chain : {X O : Type 0} → (X → List Symbol) → (O → List Symbol) → X × List (O × X) → List Symbol
chain a o = both a (links a o)

abbrev pub chain_on : (Symbol → Bool) → (Symbol → Bool) → Symbol → Bool
chain_on f starts y = f y || starts y

-- the last part
abbrev pub last_of : {X O : Type 0} → X → List (O × X) → X
last_of x [] = x
last_of x (p ∷ ps) = last_of p.1 ps

abbrev pub chain_at : {X O : Type 0} → (X → Symbol → Bool) → (Symbol → Bool) → X × List (O × X) → Symbol → Bool
chain_at at starts p y = at (last_of p.0 p.1) y || starts y

abbrev pub links_at : {X O : Type 0} → (X → Symbol → Bool) → (Symbol → Bool) → List (O × X) → Symbol → Bool
links_at at starts = many_at starts (λ p. at p.1)

last_is : {X O : Type 0} (at : X → Symbol → Bool) (p : O × X) (ps : List (O × X)) → last_at {X = O × X} (λ q. at q.1) (p ∷ ps) ≡ at (last_of p.1 ps)
last_is at p [] = refl
last_is at p (q ∷ ps) = last_is at q ps

module _ {X O : Type 0} {a : X → List Symbol} {o : O → List Symbol} {f starts : Symbol → Bool} {at : X → Symbol → Bool} (joins : Joins a o f at starts) where
  pub link_way : {op : O} {x : X} → ReadsOneWay a f at x → ReadsOneWay (both o a) f (λ p. at p.1) (op, x)
  link_way {op} {x} way = both_way (joins.operator.each op) way ends meets

  pub link_starts : Starts (both o a) starts
  link_starts = sequence_starts {X = O} {Z = O × X} (λ p. p.0) (λ p. a p.1) joins.begin

  pub link_splits : Splits starts f (chain_on f starts)
  link_splits = record { none = λ y h. or_right (f y) (starts y) h; last = λ y h. or_left (f y) (starts y) h; apart = joins.apart }

  pub link_leaves : Leaves {X = O × X} (λ p. at p.1) starts
  link_leaves = record { apart = λ p y h. joins.wide p.1 y (joins.apart y h) }

  pub no_links_way : ReadsOneWay (links a o) (chain_on f starts) (links_at at starts) []
  no_links_way = nil_open_way link_starts link_splits link_leaves

  pub more_links_way : {op : O} {x : X} {ps : List (O × X)} → ReadsOneWay a f at x → ReadsOneWay (links a o) (chain_on f starts) (links_at at starts) ps → ReadsOneWay (links a o) (chain_on f starts) (links_at at starts) ((op, x) ∷ ps)
  more_links_way {op} {x} {ps} first others = cons_open_way link_starts link_splits link_leaves (link_way first) others

  links_follow : Follows f (links a o) (chain_on f starts)
  links_follow = record { each = λ ps r h. many_stops link_starts link_splits link_leaves ps r h }

  links_meet : MeetsOpen at (links a o) (links_at at starts) (chain_at at starts)
  links_meet = record { here = here; last = last }
    where
      here : (x : X) (ps : List (O × X)) (r : List Symbol) → Stops (chain_at at starts (x, ps)) r → Stops (at x) (links a o ps ++ r)
      here x [] r h = stops_left (at x) starts r h
      here x (p ∷ ps) r h =
          let b = link_starts.each p in
          subst (Stops (at x)) (ap (λ t. (t ++ links a o ps) ++ r) (sym b.is)) (joins.wide x b.head (joins.apart b.head b.first))

      last : (x : X) (ps : List (O × X)) (r : List Symbol) → Stops (chain_at at starts (x, ps)) r → Stops (links_at at starts ps) r
      last x [] r h = stops_right (at x) starts r h
      last x (p ∷ ps) r h = subst (λ g. Stops (λ y. g y || starts y) r) (sym (last_is at p ps)) h

  pub chain_way : {x : X} {ps : List (O × X)} → ReadsOneWay a f at x → ReadsOneWay (links a o) (chain_on f starts) (links_at at starts) ps → ReadsOneWay (chain a o) (chain_on f starts) (chain_at at starts) (x, ps)
  chain_way {x} {ps} first others = open_way first others links_follow links_meet

  -- a first part and links are read
  pub chain_reads : (old mid new : List Symbol) (x : X) (ps : List (O × X)) → Takes a at old mid x → Takes (links a o) (links_at at starts) mid new ps → Takes (chain a o) (chain_at at starts) old new (x, ps)
  chain_reads old mid new x [] first others = (first.0 ∙ ap (λ t. a x ++ t) others.0 ∙ sym (append_assoc (a x) [] new), stops_both (at x) starts new (subst (Stops (at x)) others.0 first.1) others.1)
  chain_reads old mid new x (p ∷ ps) first others = (
    first.0 ∙ ap (λ t. a x ++ t) others.0 ∙ sym (append_assoc (a x) (links a o (p ∷ ps)) new),
    subst (λ g. Stops (λ y. g y || starts y) new) (last_is at p ps) others.1,
  )

-- if the parts are read in one way, so are links and chains

module _ {X O : Type 0} {a : X → List Symbol} {o : O → List Symbol} {f starts : Symbol → Bool} {at : X → Symbol → Bool} (joins : Joins a o f at starts) (part : Piece a f at) where
  pub link_piece : Piece (both o a) f (λ p. at p.1)
  link_piece = both_piece joins.operator part ends meets

  pub links_piece : Piece (links a o) (chain_on f starts) (links_at at starts)
  links_piece = many_open_piece link_piece (link_starts joins) (link_splits joins) (link_leaves joins)

  pub chain_piece : Piece (chain a o) (chain_on f starts) (chain_at at starts)
  chain_piece = open_piece part links_piece (links_follow joins) (links_meet joins)

  -- a link fails if its operator or its part does, links if a further one does, a chain if its first part or its links do

  pub operator_fails : {old new : List Symbol} → Fails o never old new → Fails (both o a) f old new
  operator_fails {old} {new} h = fails_here h part

  pub part_fails : {old mid new : List Symbol} (op : O) → Takes o (λ _. never) old mid op → Fails a f mid new → Fails (both o a) f old new
  part_fails {old} {mid} {new} op read h = fails_after op joins.operator read h

  pub link_fails : {old mid new : List Symbol} (ps : List (O × X)) → old ≡ links a o ps ++ mid → leads starts mid ≡ true → Fails (both o a) f mid new → Fails (links a o) (chain_on f starts) old new
  link_fails {old} {mid} {new} ps read more h = many_fails link_piece (link_starts joins) (link_splits joins) (link_leaves joins) ps read more h

  pub chain_first_fails : {old new : List Symbol} → Fails a f old new → Fails (chain a o) (chain_on f starts) old new
  chain_first_fails {old} {new} h = fails_first h links_piece (links_follow joins)

  pub chain_links_fail : {old mid new : List Symbol} (x : X) → Takes a at old mid x → Fails (links a o) (chain_on f starts) mid new → Fails (chain a o) (chain_on f starts) old new
  chain_links_fail {old} {mid} {new} x read h = fails_second x part read (links_follow joins) h
