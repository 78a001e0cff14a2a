-- Parts with commas between them, or no part.
use Rattle.std.proofs.Common.{◌≡◌, Bool, true, false, List, [], ◌∷◌, ◌++◌, Option, Some, None, refl}
use Rattle.std.specs.List.{flat_map}
use Rattle.source.specs.declared.kind.Kind.{Kind}
use Rattle.source.specs.declared.kind.Kind.TheVariants.{Comma}
use Rattle.tree.specs.Symbols.{Symbol, Fixed, by_kind, is_kind}
use Rattle.tree.specs.Spelling.{comma, comma_list, optional}
use Rattle.syntax.specs.Reading.{never, Stops, leads, Fails, optional_at, listed_on, listed_at}
use Rattle.syntax.proofs.pieces.Pieces.{Piece, both, both_piece, via_piece, via_fails, same_piece, same_fails, fails_first, fails_second, ends, meets, stops_never, or_right}
use Rattle.syntax.proofs.pieces.Beginnings.{Starts, Splits, splits_self, sequence_starts}
use Rattle.syntax.proofs.pieces.Repeats.{many_piece, many_fails, ended_leaves}
use Rattle.syntax.proofs.pieces.Options.{opt_piece, opt_fails}
use Rattle.syntax.proofs.pieces.CursorLemmas.{fixed_piece}
use Rattle.syntax.proofs.pieces.KindLemmas.{kinds_apart}
use Rattle.lemmas.proofs.Bools.{or_left}

-- such a part begins with a token of some kind, and never with a comma
pub record Item {X : Type 0} (a : X → List Symbol) (p : Option Kind → Bool) : Type 0 where
  pub piece : Piece a never (λ _. never)
  pub begin : Starts a (by_kind p)
  pub apart : p (Some Comma) ≡ false

abbrev pub to : {X : Type 0} → List X → Option (X × List X)
to [] = None
to (x ∷ xs) = Some (x, xs)

abbrev pub from : {X : Type 0} → Option (X × List X) → List X
from None = []
from (Some p) = p.0 ∷ p.1

pub back : {X : Type 0} (xs : List X) → from (to xs) ≡ xs
back [] = refl
back (x ∷ xs) = refl

pub there : {X : Type 0} (p : Option (X × List X)) → to (from p) ≡ p
there None = refl
there (Some p) = refl

abbrev comma_to : {X : Type 0} → X → Unit {0} × X
comma_to x = (tt, x)

abbrev comma_from : {X : Type 0} → Unit {0} × X → X
comma_from p = p.1

module _ {X : Type 0} {a : X → List Symbol} {p : Option Kind → Bool} (item : Item a p) where
  pub comma_piece : Piece (comma a) never (λ _. never)
  comma_piece = via_piece comma_to comma_from (λ _. refl) (both_piece (fixed_piece Comma) item.piece ends meets)

  pub comma_first_fails : {old new : List Symbol} → Fails {X = Unit {0}} (λ _. Fixed Comma ∷ []) never old new → Fails (comma a) never old new
  comma_first_fails {old} {new} h = via_fails comma_to comma_from (λ _. refl) (fails_first h item.piece ends)

  pub comma_item_fails : {old mid new : List Symbol} → (old ≡ Fixed Comma ∷ mid) × Stops never mid → Fails a never mid new → Fails (comma a) never old new
  comma_item_fails {old} {mid} {new} read h = via_fails comma_to comma_from (λ _. refl) (fails_second tt (fixed_piece Comma) read ends h)

  comma_starts : Starts (comma a) (is_kind Comma)
  comma_starts = record { each = λ x. record { head = Fixed Comma; tail = a x; is = refl; first = refl } }

  commas_piece : Piece (flat_map (comma a)) (is_kind Comma) (λ _. is_kind Comma)
  commas_piece = many_piece comma_starts splits_self comma_piece

  abbrev some_spelled : X × List X → List Symbol
  some_spelled = both a (flat_map (comma a))

  some_piece : Piece some_spelled (is_kind Comma) (λ _. is_kind Comma)
  some_piece = both_piece item.piece commas_piece ends meets

  some_starts : Starts some_spelled (by_kind p)
  some_starts = sequence_starts (λ q. q.0) (λ q. flat_map (comma a) q.1) item.begin

  splits : Splits (by_kind p) (is_kind Comma) (listed_on (by_kind p))
  splits = record { none = λ y h. or_left (by_kind p y) (is_kind Comma y) h; last = λ y h. or_right (by_kind p y) (is_kind Comma y) h; apart = kinds_apart p Comma item.apart }

  spelled : (xs : List X) → optional some_spelled (to xs) ≡ comma_list a xs
  spelled [] = refl
  spelled (x ∷ xs) = refl

  stops : (xs : List X) (r : List Symbol) → Stops (listed_at (by_kind p) xs) r → Stops (optional_at (by_kind p) (λ _. is_kind Comma) (to xs)) r
  stops [] r h = h
  stops (x ∷ xs) r h = h

  pub listed_piece : Piece (comma_list a) (listed_on (by_kind p)) (listed_at (by_kind p))
  listed_piece = same_piece spelled stops (via_piece to from back (opt_piece some_piece some_starts splits))

  listed_fails : {old new : List Symbol} → leads (by_kind p) old ≡ true → Fails some_spelled (is_kind Comma) old new → Fails (comma_list a) (listed_on (by_kind p)) old new
  listed_fails {old} {new} here h = same_fails spelled (via_fails to from there (opt_fails some_piece some_starts splits here h))

  -- the first one begins, and fails
  pub listed_first_fails : {old new : List Symbol} → leads (by_kind p) old ≡ true → Fails a never old new → Fails (comma_list a) (listed_on (by_kind p)) old new
  listed_first_fails {old} {new} here h = listed_fails here (fails_first h commas_piece ends)

  -- some are read, a comma is next, and what it begins fails
  pub listed_more_fails : {old mid new : List Symbol} (x : X) (xs : List X) → leads (by_kind p) old ≡ true → old ≡ a x ++ (flat_map (comma a) xs ++ mid) → leads (is_kind Comma) mid ≡ true → Fails (comma a) never mid new → Fails (comma_list a) (listed_on (by_kind p)) old new
  listed_more_fails {old} {mid} {new} x xs here read more h = listed_fails here (fails_second x item.piece (read, stops_never _) ends (many_fails comma_piece comma_starts splits_self ended_leaves xs refl more h))
