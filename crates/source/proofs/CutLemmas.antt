-- Pieces in a row, and one more at the end.
use Rattle.std.proofs.Common.{◌≡◌, ℕ, List, [], ◌∷◌, ◌++◌, length, take, drop, sym, ap, ◌∙◌, subst, refl, arith, append_assoc, take-append-drop, ⊎_elim}
use Rattle.std.specs.List.{concat}
use Rattle.std.proofs.lemmas.List.{append-nil, append_cancel_right, length-take-le}
use Rattle.std.proofs.lemmas.Bool.{cases_order, false≢true}
use Rattle.source.specs.Cutting.{Cuts, IsFirstPiece, HasNoPiece}
use Rattle.source.specs.Pieces.{kind_of}
use Rattle.source.specs.Tokens.{tokens_of, token_of}

-- the pieces and the rest are the text
pub cuts_whole : (ps : List (List ℕ)) (text rest : List ℕ) → Cuts ps text rest → concat ps ++ rest ≡ text
cuts_whole [] text rest h = sym h
cuts_whole (p ∷ ps) text rest h = append_assoc p (concat ps) rest ∙ ap (λ t. p ++ t) (cuts_whole ps (drop (length p) text) rest h.2) ∙ ap (λ t. t ++ drop (length p) text) (sym h.1) ∙ take-append-drop (length p) text

-- the bytes before the rest
pub before_is : (text : List ℕ) (at : ℕ) (ps : List (List ℕ)) → Cuts ps text (drop at text) → concat ps ≡ take at text
before_is text at ps h = append_cancel_right (concat ps) (take at text) (drop at text) (cuts_whole ps text (drop at text) h ∙ sym (take-append-drop at text))

-- one more piece
pub cuts_push : (ps : List (List ℕ)) (text rest : List ℕ) (n : ℕ) → Cuts ps text rest → IsFirstPiece rest n → Cuts (ps ++ take n rest ∷ []) text (drop n rest)
cuts_push [] text rest n h f =
    let l : length (take n rest) ≡ n = length-take-le n rest f.within in
    subst (λ t. Cuts (take n rest ∷ []) t (drop n rest)) (sym h) (subst (λ k. IsFirstPiece rest k) (sym l) f, ap (λ k. take k rest) l, ap (λ k. drop k rest) l)
cuts_push (p ∷ ps) text rest n h f = (h.0, h.1, cuts_push ps (drop (length p) text) rest n h.2 f)

-- and its token
pub tokens_push : (mark : ℕ) (before : List ℕ) (ps : List (List ℕ)) (p : List ℕ) → tokens_of mark before (ps ++ p ∷ []) ≡ tokens_of mark before ps ++ token_of (kind_of p) mark (before ++ concat ps) p
tokens_push mark before [] p = append-nil (token_of (kind_of p) mark before p) ∙ ap (λ b. token_of (kind_of p) mark b p) (sym (append-nil before))
tokens_push mark before (q ∷ ps) p =
    ap (λ ts. token_of (kind_of q) mark before q ++ ts) (tokens_push mark (before ++ q) ps p)
    ∙ sym (append_assoc (token_of (kind_of q) mark before q) (tokens_of mark (before ++ q) ps) (token_of (kind_of p) mark ((before ++ q) ++ concat ps) p))
    ∙ ap (λ b. (token_of (kind_of q) mark before q ++ tokens_of mark (before ++ q) ps) ++ token_of (kind_of p) mark b p) (append_assoc before q (concat ps))

-- only one piece comes first
pub first_same : (rest : List ℕ) (n m : ℕ) → IsFirstPiece rest n → IsFirstPiece rest m → n ≡ m
first_same rest n m f g = ⊎_elim
    (λ same. same)
    (⊎_elim
    (λ lt. absurd (false≢true (sym (f.longest m lt g.within) ∙ g.piece)))
    (λ gt. absurd (false≢true (sym (g.longest n gt f.within) ∙ f.piece))))
    (cases_order n m)

-- and none does if no piece begins there
pub first_or_none : (rest : List ℕ) (n : ℕ) → IsFirstPiece rest n → HasNoPiece rest → ⊥
first_or_none rest n f h = false≢true (sym (h.none n f.within) ∙ f.piece)

-- the first pieces of two cuttings are the same
pub front_same : (text p q : List ℕ) → IsFirstPiece text (length p) → take (length p) text ≡ p → IsFirstPiece text (length q) → take (length q) text ≡ q → p ≡ q
front_same text p q f ip g iq = sym ip ∙ ap (λ n. take n text) (first_same text (length p) (length q) f g) ∙ iq

-- a text is cut in one way
pub cuts_same : (ps qs : List (List ℕ)) (text : List ℕ) → Cuts ps text [] → Cuts qs text [] → ps ≡ qs
cuts_same [] [] text h k = refl
cuts_same [] (q ∷ qs) text h k = absurd (omega (arith, ap length h, k.0.some, k.0.within))
cuts_same (p ∷ ps) [] text h k = absurd (omega (arith, ap length k, h.0.some, h.0.within))
cuts_same (p ∷ ps) (q ∷ qs) text h k =
    let same = front_same text p q h.0 h.1 k.0 k.1 in
    let rest = cuts_same ps qs (drop (length p) text) h.2 (subst (λ r. Cuts qs (drop (length r) text) []) (sym same) k.2) in
    λ i. same i ∷ rest i
