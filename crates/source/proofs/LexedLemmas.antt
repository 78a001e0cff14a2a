-- What the lexer keeps from piece to piece.
use Rattle.std.proofs.Common.{◌≡◌, ℕ, ◌+◌, ◌<◌, ◌≤◌, true, false, not, List, [], ◌∷◌, ◌++◌, length, take, drop, Some, sym, ap, ◌∙◌, subst, refl, arith}
use Rattle.std.specs.Prelude.{◌&&◌, nat_lt}
use Rattle.std.specs.List.{concat}
use Rattle.std.specs.Option.{option_map_or}
use Rattle.std.proofs.Math.Seq.{take-add}
use Rattle.std.proofs.lemmas.Bool.{and_parts}
use Rattle.std.proofs.lemmas.Bool.Decides.{nat_tests}
use Rattle.std.proofs.lemmas.List.{drop-drop, length-take-le, length-drop}
use Rattle.source.specs.Brackets.{depth_after, depth_behind, depth_of}
use Rattle.source.specs.Cutting.{Cuts}
use Rattle.source.specs.Faults.{are_allowed, is_too_deep, is_too_large, StandsAt, HasFirst}
use Rattle.source.specs.Firsts.{IsFirst}
use Rattle.source.specs.Places.{place_of}
use Rattle.source.specs.Tokens.{tokens_of, token_of}
use Rattle.source.specs.declared.kind.Kind.{Kind}
use Rattle.source.specs.declared.place.Place.{Place}
use Rattle.source.specs.declared.pieces.Piece.{Piece}
use Rattle.source.specs.declared.token.Token.{Token}
use Rattle.source.specs.declared.fault.TextFault.{TextFault}
use Rattle.source.specs.declared.fault.TextFault.TheVariants.{TooDeep}
use Rattle.source.proofs.CutLemmas.{before_is, cuts_push, tokens_push}

-- The loop's invariant: the first bytes are cut into pieces without a fault, these are their tokens, the place is the
-- one after them, and this many brackets are open there.
pub record IsReached (mark : ℕ) (body : List ℕ) (at : ℕ) (list : List Token) (place : Place) (depth : ℕ) : Type 0 where
  pub within : at ≤ length body
  pub pieces : List (List ℕ)
  pub cut : Cuts pieces body (drop at body)
  pub allowed : are_allowed 0 pieces ≡ true
  pub tokens_are : list ≡ tokens_of mark [] pieces
  pub place_is : place ≡ place_of (take at body)
  pub depth_is : depth ≡ depth_of 0 pieces
  pub low : depth ≤ 100

-- one more piece without a fault
allowed_push : (d : ℕ) (ps : List (List ℕ)) (p : List ℕ) → are_allowed d ps ≡ true → is_too_deep (depth_of d ps) p ≡ false → is_too_large p ≡ false → are_allowed d (ps ++ p ∷ []) ≡ true
allowed_push d [] p h deep large = λ i. not (deep i) && not (large i) && true
allowed_push d (q ∷ ps) p h deep large =
    let this = (and_parts (not (is_too_deep d q) && not (is_too_large q)) (are_allowed (depth_behind d q) ps) h).0 in
    let others = (and_parts (not (is_too_deep d q) && not (is_too_large q)) (are_allowed (depth_behind d q) ps) h).1 in
    let more = allowed_push (depth_behind d q) ps p others deep large in
    λ i. this i && more i

depth_push : (d : ℕ) (ps : List (List ℕ)) (p : List ℕ) → depth_of d (ps ++ p ∷ []) ≡ depth_behind (depth_of d ps) p
depth_push d [] p = refl
depth_push d (q ∷ ps) p = depth_push (depth_behind d q) ps p

pub shallow : (d : ℕ) → d ≤ 100 → nat_lt 100 d ≡ false
shallow d h = grind (arith, nat_tests)

steep : (d : ℕ) → 100 < d → nat_lt 100 d ≡ true
steep d h = grind (arith, nat_tests)

-- the loop's step
pub reached_more : (mark : ℕ) (body : List ℕ) (at : ℕ) (list more : List Token) (place next : Place) (depth deeper : ℕ) (piece : Piece) → IsReached mark body at list place depth → IsFirst (drop at body) piece → more ≡ list ++ token_of piece.kind mark (take at body) (take piece.len (drop at body)) → next ≡ place_of (take at body ++ take piece.len (drop at body)) → deeper ≡ option_map_or (depth_after depth) piece.kind depth → deeper ≤ 100 → IsReached mark body (at + piece.len) more next deeper
reached_more mark body at list more place next depth deeper piece h f m p d low =
    let n = piece.len in
    let bytes = take n (drop at body) in
    let behind : deeper ≡ depth_behind (depth_of 0 h.pieces) bytes = d ∙ (λ i. option_map_or (depth_after (h.depth_is i)) (f.kind i) (h.depth_is i)) in
    record {
      within = omega (arith, f.first.within, length-drop at body, h.within);
      pieces = h.pieces ++ bytes ∷ [];
      cut = subst (λ r. Cuts (h.pieces ++ bytes ∷ []) body r) (drop-drop n at body) (cuts_push h.pieces body (drop at body) n h.cut f.first);
      allowed = allowed_push 0 h.pieces bytes h.allowed (ap (λ v. nat_lt 100 v) (sym behind) ∙ shallow deeper low) f.fits;
      tokens_are = m ∙ (λ i. h.tokens_are i ++ token_of (f.kind i) mark (sym (before_is body at h.pieces h.cut) i) bytes) ∙ sym (tokens_push mark [] h.pieces bytes);
      place_is = p ∙ ap place_of (sym (take-add at n body));
      depth_is = behind ∙ sym (depth_push 0 h.pieces bytes);
      low = low;
    }

-- the token that the code makes is the one of the piece
pub pushed : (mark : ℕ) (body : List ℕ) (at : ℕ) (list : List Token) (place : Place) (depth : ℕ) (piece : Piece) (kind : Kind) → IsReached mark body at list place depth → IsFirst (drop at body) piece → piece.kind ≡ Some kind → list ++ record { kind = kind; span = record { start = mark + at; end = mark + at + piece.len; place = place } } ∷ [] ≡ list ++ token_of piece.kind mark (take at body) (take piece.len (drop at body))
pushed mark body at list place depth piece kind h f is =
    let before : at ≡ length (take at body) = sym (length-take-le at body h.within) in
    let size : piece.len ≡ length (take piece.len (drop at body)) = sym (length-take-le piece.len (drop at body) f.first.within) in
    (λ i. list ++ record { kind = kind; span = record { start = mark + before i; end = mark + before i + size i; place = h.place_is i } } ∷ [])
    ∙ ap (λ v. list ++ token_of v mark (take at body) (take piece.len (drop at body))) (sym is)

-- the fault at the front of the rest is the first one
pub fault_here : (mark : ℕ) (body : List ℕ) (at : ℕ) (list : List Token) (place : Place) (depth : ℕ) (fault : TextFault) → IsReached mark body at list place depth → StandsAt fault place depth (drop at body) → HasFirst body fault
fault_here mark body at list place depth fault h stands =
    let there : place ≡ place_of (concat h.pieces) = h.place_is ∙ ap place_of (sym (before_is body at h.pieces h.cut)) in
    record {
      pieces = h.pieces;
      rest = drop at body;
      begins = record { cut = h.cut; allowed = h.allowed };
      there = subst (λ d. StandsAt fault (place_of (concat h.pieces)) d (drop at body)) h.depth_is (subst (λ p. StandsAt fault p depth (drop at body)) there stands);
    }

-- a bracket too many
pub deep_here : (place : Place) (depth deeper : ℕ) (rest : List ℕ) (piece : Piece) (kind : Kind) → IsFirst rest piece → piece.kind ≡ Some kind → deeper ≡ depth_after depth kind → 100 < deeper → StandsAt (TooDeep place) place depth rest
deep_here place depth deeper rest piece kind f is d high = (
  refl,
  record {
    len = piece.len;
    first = f.first;
    deep = ap (λ k. nat_lt 100 (option_map_or (depth_after depth) k depth)) (sym f.kind ∙ is) ∙ ap (λ v. nat_lt 100 v) (sym d) ∙ steep deeper high;
  },
)
