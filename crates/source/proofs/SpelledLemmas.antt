-- The bytes of a token's span are the piece that it is.
use Rattle.std.proofs.Common.{◌≡◌, ℕ, ◌+◌, ◌-◌, ◌<◌, ◌≤◌, true, List, [], ◌∷◌, ◌++◌, length, take, drop, Option, Some, None, sym, ap, ◌∙◌, subst, refl, arith, length-append}
use Rattle.std.specs.Prelude.{All, nat_le, ◌&&◌, if◌then◌else◌}
use Rattle.std.proofs.lemmas.Bool.Decides.{nat_tests}
use Rattle.std.proofs.lemmas.List.{drop-drop, length-drop, take_rest}
use Rattle.std.proofs.lemmas.List.Elements.{All-nil, All-cons, All-append}
use Rattle.source.specs.Cutting.{Cuts}
use Rattle.source.specs.Faults.{Begins}
use Rattle.source.specs.Marks.{mark_len, body_of}
use Rattle.source.specs.Pieces.{kind_of}
use Rattle.source.specs.Places.{place_of}
use Rattle.source.specs.Slices.{slice_of}
use Rattle.source.specs.Tokens.{tokens_of, token_of, AreTokens, IsLexed, IsSpelled}
use Rattle.source.specs.declared.kind.Kind.{Kind}
use Rattle.source.specs.declared.place.Place.{Place}
use Rattle.source.specs.declared.token.Token.{Token}

pub within : (s e n : ℕ) → s ≤ e → e ≤ n → (nat_le s e && nat_le e n) ≡ true
within s e n h k = grind (arith, nat_tests)

-- the slice from a piece's first byte to the byte after its last one
slice_is : (text p : List ℕ) (start : ℕ) → 0 < length p → length p ≤ length (drop start text) → take (length p) (drop start text) ≡ p → slice_of text start (start + length p) ≡ p
slice_is text p start some size is =
    let low : start + length p ≤ length text = omega (arith, length-drop start text) in
    (λ i. if within start (start + length p) (length text) (omega arith) low i then take (start + length p - start) (drop start text) else [])
    ∙ ap (λ n. take n (drop start text)) (omega arith) ∙ is

spelled_one : (text : List ℕ) (mark : ℕ) (before p : List ℕ) (kind : Option Kind) → kind ≡ kind_of p → slice_of text (mark + length before) (mark + length before + length p) ≡ p → All (IsSpelled text) (token_of kind mark before p)
spelled_one text mark before p None is slice = All-nil (IsSpelled text)
spelled_one text mark before p (Some k) is slice = All-cons (IsSpelled text) (record { kind = k; span = record { start = mark + length before; end = mark + length before + length p; place = place_of before } }) [] (ap kind_of slice ∙ sym is) (All-nil (IsSpelled text))

spelled_from : (text : List ℕ) (mark : ℕ) (before : List ℕ) (ps : List (List ℕ)) → Cuts ps (drop (mark + length before) text) [] → All (IsSpelled text) (tokens_of mark before ps)
spelled_from text mark before [] h = All-nil (IsSpelled text)
spelled_from text mark before (p ∷ ps) h =
    let start = mark + length before in
    let next : drop (length p) (drop start text) ≡ drop (mark + length (before ++ p)) text = drop-drop (length p) start text ∙ ap (λ n. drop n text) (omega (arith, length-append before p)) in
    All-append (IsSpelled text) (token_of (kind_of p) mark before p) (tokens_of mark (before ++ p) ps)
    (spelled_one text mark before p (kind_of p) refl (slice_is text p start h.0.some h.0.within h.1))
    (spelled_from text mark (before ++ p) ps (subst (λ r. Cuts ps r []) next h.2))

-- each token is spelled by the bytes of its span
pub tokens_spelled : (text : List ℕ) (tokens : List Token) → AreTokens text tokens → All (IsSpelled text) tokens
tokens_spelled text tokens h =
    let front : body_of text ≡ drop (mark_len text + 0) text = ap (λ n. drop n text) (omega arith) in
    subst (λ ts. All (IsSpelled text) ts) (sym h.found) (spelled_from text (mark_len text) [] h.pieces (subst (λ r. Cuts h.pieces r []) front h.begins.cut))

-- the tokens that are cut after the mark are those of the text
pub tokens_of_lexed : (text : List ℕ) (mark : ℕ) (list : List Token) (place : Place) → mark ≡ mark_len text → length text ≤ 4194304 → IsLexed mark (take (length text - mark) (drop mark text)) list place → AreTokens text list
tokens_of_lexed text mark list place is short h =
    let body : take (length text - mark) (drop mark text) ≡ body_of text = take_rest text mark ∙ ap (λ n. drop n text) is in
    record {
      short = short;
      pieces = h.pieces;
      begins = subst (λ r. Begins h.pieces r []) body h.begins;
      found = h.found ∙ ap (λ n. tokens_of n [] h.pieces) is;
    }
