-- Parts with commas between them, or no part, if a part could continue with more than a comma.
use Rattle.std.proofs.Common.{◌≡◌, Bool, true, false, List, [], ◌∷◌, ◌++◌, Option, refl, sym, ap, ◌∙◌, subst, append_assoc}
use Rattle.std.specs.Prelude.{◌||◌}
use Rattle.std.specs.List.{flat_map}
use Rattle.source.specs.declared.kind.Kind.{Kind}
use Rattle.source.specs.declared.kind.Kind.TheVariants.{Comma}
use Rattle.tree.specs.Symbols.{Symbol, Fixed, by_kind, is_kind}
use Rattle.tree.specs.Spelling.{comma, comma_list, optional}
use Rattle.syntax.specs.Reading.{never, Stops, leads, Fails, Takes, optional_at, last_at, many_at, listed_open_on, listed_open_at}
use Rattle.syntax.proofs.pieces.Pieces.{Piece, Follows, both, next, via_piece, via_fails, same_piece, same_fails, fails_here, fails_after, fails_first, fails_second, or_right, stops_left}
use Rattle.syntax.proofs.pieces.Beginnings.{Starts, Splits, Leaves, sequence_starts}
use Rattle.syntax.proofs.pieces.Repeats.{many_open_piece, many_fails, at_stops, tail_stops, rest_stops, last_more}
use Rattle.syntax.proofs.pieces.Listed.{to, from, back, there}
use Rattle.syntax.proofs.pieces.Options.{Opens, MeetsOpen, open_piece, open_opt_piece, open_opt_fails}
use Rattle.syntax.proofs.pieces.CursorLemmas.{fixed, fixed_piece}
use Rattle.lemmas.proofs.Bools.{or_left}

-- such a part begins with a token of some kind, and does not continue with a comma
pub record OpenItem {X : Type 0} (a : X → List Symbol) (f : Symbol → Bool) (at : X → Symbol → Bool) (p : Option Kind → Bool) : Type 0 where
  pub piece : Piece a f at
  pub begin : Starts a (by_kind p)
  pub free : (y : Symbol) → is_kind Comma y ≡ true → f y ≡ false
  pub leaves : Leaves at (is_kind Comma)

abbrev comma_to : {X : Type 0} → X → Unit {0} × X
comma_to x = (tt, x)

abbrev comma_from : {X : Type 0} → Unit {0} × X → X
comma_from p = p.1

module _ {X : Type 0} {a : X → List Symbol} {f : Symbol → Bool} {at : X → Symbol → Bool} {p : Option Kind → Bool} (item : OpenItem a f at p) where
  abbrev sequence_on : Symbol → Bool
  sequence_on y = f y || is_kind Comma y

  comma_piece : Piece (comma a) f at
  comma_piece = via_piece comma_to comma_from (λ _. refl) (next (fixed_piece Comma) item.piece)

  pub open_comma_fails : {old new : List Symbol} → Fails (fixed Comma) never old new → Fails (comma a) f old new
  open_comma_fails {old} {new} h = via_fails comma_to comma_from (λ _. refl) (fails_here h item.piece)

  pub open_item_fails : {old mid new : List Symbol} → (old ≡ Fixed Comma ∷ mid) × Stops never mid → Fails a f mid new → Fails (comma a) f old new
  open_item_fails {old} {mid} {new} read h = via_fails comma_to comma_from (λ _. refl) (fails_after tt (fixed_piece Comma) read h)

  comma_starts : Starts (comma a) (is_kind Comma)
  comma_starts = record { each = λ x. record { head = Fixed Comma; tail = a x; is = refl; first = refl } }

  splits : Splits (is_kind Comma) f sequence_on
  splits = record { none = λ y h. or_right (f y) (is_kind Comma y) h; last = λ y h. or_left (f y) (is_kind Comma y) h; apart = item.free }

  commas_piece : Piece (flat_map (comma a)) sequence_on (many_at (is_kind Comma) at)
  commas_piece = many_open_piece comma_piece comma_starts splits item.leaves

  abbrev some_spelled : X × List X → List Symbol
  some_spelled = both a (flat_map (comma a))

  abbrev some_at : X × List X → Symbol → Bool
  some_at q = many_at (is_kind Comma) at (q.0 ∷ q.1)

  follows : Follows f (flat_map (comma a)) sequence_on
  follows = record { each = each }
    where
      each : (xs : List X) (r : List Symbol) → Stops sequence_on r → Stops f (flat_map (comma a) xs ++ r)
      each [] r h = stops_left f (is_kind Comma) r h
      each (x ∷ xs) r h = item.free (Fixed Comma) refl

  some_meets : MeetsOpen at (flat_map (comma a)) (many_at (is_kind Comma) at) some_at
  some_meets = record { here = λ x xs r h. at_stops comma_starts splits item.leaves x xs r h; last = λ x xs r h. tail_stops comma_starts splits item.leaves x xs r h }

  some_piece : Piece some_spelled sequence_on some_at
  some_piece = open_piece item.piece commas_piece follows some_meets

  some_starts : Starts some_spelled (by_kind p)
  some_starts = sequence_starts (λ q. q.0) (λ q. flat_map (comma a) q.1) item.begin

  list_opens : Opens (by_kind p) sequence_on (listed_open_on (by_kind p) f)
  list_opens = record { none = λ y h. or_left (by_kind p y) (sequence_on y) h; last = λ y h. or_right (by_kind p y) (sequence_on y) h }

  spelled : (xs : List X) → optional some_spelled (to xs) ≡ comma_list a xs
  spelled [] = refl
  spelled (x ∷ xs) = refl

  stops : (xs : List X) (r : List Symbol) → Stops (listed_open_at (by_kind p) at xs) r → Stops (optional_at (by_kind p) some_at (to xs)) r
  stops [] r h = h
  stops (x ∷ xs) r h = h

  pub listed_open_piece : Piece (comma_list a) (listed_open_on (by_kind p) f) (listed_open_at (by_kind p) at)
  listed_open_piece = same_piece spelled stops (via_piece to from back (open_opt_piece some_piece some_starts list_opens))

  listed_fails : {old new : List Symbol} → leads (by_kind p) old ≡ true → Fails some_spelled sequence_on old new → Fails (comma_list a) (listed_open_on (by_kind p) f) old new
  listed_fails {old} {new} here h = same_fails spelled (via_fails to from there (open_opt_fails some_piece some_starts list_opens here h))

  -- the first one begins, and fails
  pub open_first_fails : {old new : List Symbol} → leads (by_kind p) old ≡ true → Fails a f old new → Fails (comma_list a) (listed_open_on (by_kind p) f) old new
  open_first_fails {old} {new} here h = listed_fails here (fails_first h commas_piece follows)

  -- some are read, a comma is next, and what it begins fails
  pub open_more_fails : {old mid new : List Symbol} (x : X) (xs : List X) → leads (by_kind p) old ≡ true → old ≡ a x ++ (flat_map (comma a) xs ++ mid) → leads (is_kind Comma) mid ≡ true → Fails (comma a) f mid new → Fails (comma_list a) (listed_open_on (by_kind p) f) old new
  open_more_fails {old} {mid} {new} x xs here read more h =
      listed_fails here (fails_second x item.piece (read, rest_stops comma_starts splits item.leaves x xs mid more) follows
      (many_fails comma_piece comma_starts splits item.leaves xs refl more h))

-- a list that is being read: what is read of it, and where its last part ends
pub record ListRead {X : Type 0} (a : X → List Symbol) (at : X → Symbol → Bool) (all : List X) (old new : List Symbol) : Type 0 where
  pub first : X
  pub others : List X
  pub some : all ≡ first ∷ others
  pub read : old ≡ a first ++ (flat_map (comma a) others ++ new)
  pub ended : Stops (last_at at all) new

flat_more : {X : Type 0} (g : X → List Symbol) (xs : List X) (x : X) (t : List Symbol) → flat_map g (xs ++ x ∷ []) ++ t ≡ flat_map g xs ++ (g x ++ t)
flat_more g [] x t = append_assoc (g x) [] t
flat_more g (y ∷ ys) x t = append_assoc (g y) (flat_map g (ys ++ x ∷ [])) t ∙ ap (λ r. g y ++ r) (flat_more g ys x t) ∙ sym (append_assoc (g y) (flat_map g ys) (g x ++ t))

module _ {X : Type 0} {a : X → List Symbol} {at : X → Symbol → Bool} where
  pub list_begun : (x : X) (all : List X) (old new : List Symbol) → all ≡ x ∷ [] → Takes a at old new x → ListRead a at all old new
  list_begun x all old new is read = record { first = x; others = []; some = is; read = read.0; ended = subst (λ xs. Stops (last_at at xs) new) (sym is) read.1 }

  pub list_more : (x : X) (xs all : List X) (old mid new : List Symbol) → all ≡ xs ++ x ∷ [] → ListRead a at xs old mid → Takes (comma a) at mid new x → ListRead a at all old new
  list_more x xs all old mid new is kept next = record {
    first = kept.first;
    others = kept.others ++ x ∷ [];
    some = is ∙ ap (λ t. t ++ x ∷ []) kept.some;
    read = kept.read ∙ ap (λ t. a kept.first ++ (flat_map (comma a) kept.others ++ t)) next.0 ∙ ap (λ t. a kept.first ++ t) (sym (flat_more (comma a) kept.others x new));
    ended = subst (λ g. Stops g new) (sym (ap (last_at at) is ∙ last_more at xs x)) next.1;
  }
