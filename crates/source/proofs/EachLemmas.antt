-- Each text has tokens or a fault.
use Rattle.std.proofs.Common.{◌≡◌, ◌⊎◌, inl, inr, ⊎_elim, ℕ, zero, suc, ◌<◌, ◌≤◌, true, false, List, [], ◌∷◌, ◌++◌, length, take, drop, sym, ap, ◌∙◌, subst, refl, arith, append_assoc, length-drop}
use Rattle.std.specs.Prelude.{not, ◌&&◌}
use Rattle.std.specs.List.{concat}
use Rattle.std.proofs.lemmas.Bool.{cases_Bool, cases_lt}
use Rattle.std.proofs.lemmas.List.{append-nil, length-take-le}
use Rattle.source.specs.Brackets.{depth_behind, depth_of}
use Rattle.source.specs.Comments.{begins_block}
use Rattle.source.specs.Cutting.{Cuts, IsFirstPiece, HasNoPiece}
use Rattle.source.specs.Faults.{are_allowed, is_too_deep, is_too_large, StandsAt, Begins, HasFirst, IsFault}
use Rattle.source.specs.Marks.{mark_len, body_of}
use Rattle.source.specs.Pieces.{is_piece}
use Rattle.source.specs.Places.{place_of}
use Rattle.source.specs.Tokens.{AreTokens, tokens_of}
use Rattle.source.specs.declared.fault.TextFault.{TextFault}
use Rattle.source.specs.declared.fault.TextFault.TheVariants.{Stray, OpenComment, TooLong, TooDeep, TooLarge, Memory}
use Rattle.source.specs.declared.lexer.TheConstants.{MAX_TEXT}
use Rattle.source.specs.declared.token.Token.{Token}
use Rattle.source.proofs.FaultLemmas.{StandsBehind}

-- a piece comes first
record HasFirstPiece (rest : List ℕ) : Type 0 where
  len : ℕ
  first : IsFirstPiece rest len

-- the longest of the pieces up to this length, if no longer bytes are a piece
longest : (rest : List ℕ) (n : ℕ) → n ≤ length rest
    → ((m : ℕ) → n < m → m ≤ length rest → is_piece (take m rest) ≡ false) → HasFirstPiece rest ⊎ HasNoPiece rest
longest rest zero within above = inr (record { none = none })
  where
    none : (m : ℕ) → m ≤ length rest → is_piece (take m rest) ≡ false
    none zero low = refl
    none (suc m) low = above (suc m) (omega arith) low
longest rest (suc n) within above = ⊎_elim
    (λ is. inl (record { len = suc n; first = record { some = omega arith; within = within; piece = is; longest = above } }))
    (λ is. longest rest n (omega arith) (λ m low high.
    ⊎_elim (λ more. above m more high) (λ less. here m low less is) (cases_lt (suc n) m)))
    (cases_Bool (is_piece (take (suc n) rest)))
  where
    here : (m : ℕ) → n < m → m ≤ suc n → is_piece (take (suc n) rest) ≡ false → is_piece (take m rest) ≡ false
    here m low high is = let same : suc n ≡ m = omega arith in subst (λ k. is_piece (take k rest) ≡ false) same is

-- a piece comes first in a text, or none does
first_or_not : (rest : List ℕ) → HasFirstPiece rest ⊎ HasNoPiece rest
first_or_not rest = longest rest (length rest) (omega arith) (λ m low high. absurd (omega arith))

-- the text is cut whole, without a fault, with this many brackets open before it
record IsCut (depth : ℕ) (text : List ℕ) : Type 0 where
  pieces : List (List ℕ)
  cut : Cuts pieces text []
  allowed : are_allowed depth pieces ≡ true

-- the text has a fault, with these bytes before it and this many brackets open
record HasFault (before : List ℕ) (depth : ℕ) (text : List ℕ) : Type 0 where
  pieces : List (List ℕ)
  rest : List ℕ
  fault : TextFault
  stands : StandsBehind before depth text pieces rest fault

-- a fault at the front
at_front : (before : List ℕ) (depth : ℕ) (text : List ℕ) (fault : TextFault) → StandsAt fault (place_of before) depth text
    → HasFault before depth text
at_front before depth text fault there = record {
  pieces = [];
  rest = text;
  fault = fault;
  stands = record {
    cut = refl;
    allowed = refl;
    there = subst (λ b. StandsAt fault (place_of b) depth text) (sym (append-nil before)) there;
  };
}

-- no piece comes first
none_first : (before : List ℕ) (depth : ℕ) (text : List ℕ) → 0 < length text → HasNoPiece text → HasFault before depth text
none_first before depth text some none = ⊎_elim
    (λ block. at_front before depth text (OpenComment (place_of before)) (refl, record { begins = block; none = none }))
    (λ other. at_front before depth text (Stray (place_of before)) (refl, record { some = some; none = none; other = other }))
    (cases_Bool (begins_block text))

-- this piece comes first, and it is not at fault
record IsGood (depth : ℕ) (text p : List ℕ) : Type 0 where
  first : IsFirstPiece text (length p)
  is : take (length p) text ≡ p
  shallow : is_too_deep depth p ≡ false
  small : is_too_large p ≡ false

-- with what follows it
more_cut : (depth : ℕ) (text p : List ℕ) → IsGood depth text p → IsCut (depth_behind depth p) (drop (length p) text)
    → IsCut depth text
more_cut depth text p good c = record {
  pieces = p ∷ c.pieces;
  cut = (good.first, good.is, c.cut);
  allowed = λ i. not (good.shallow i) && not (good.small i) && c.allowed i;
}

more_fault : (before : List ℕ) (depth : ℕ) (text p : List ℕ) → IsGood depth text p
    → HasFault (before ++ p) (depth_behind depth p) (drop (length p) text) → HasFault before depth text
more_fault before depth text p good f =
    let deeper = depth_of (depth_behind depth p) f.pieces in
    record {
      pieces = p ∷ f.pieces;
      rest = f.rest;
      fault = f.fault;
      stands = record {
        cut = (good.first, good.is, f.stands.cut);
        allowed = λ i. not (good.shallow i) && not (good.small i) && f.stands.allowed i;
        there = subst (λ b. StandsAt f.fault (place_of b) deeper f.rest) (append_assoc before p (concat f.pieces)) f.stands.there;
      };
    }

-- a piece comes first, and what follows is cut or has a fault
with_first : (before : List ℕ) (depth : ℕ) (text p : List ℕ) (n : ℕ) → n ≡ length p → IsFirstPiece text n → take n text ≡ p
    → IsCut (depth_behind depth p) (drop (length p) text) ⊎ HasFault (before ++ p) (depth_behind depth p) (drop (length p) text)
    → IsCut depth text ⊎ HasFault before depth text
with_first before depth text p n size first is others = ⊎_elim too_deep
    (λ shallow. ⊎_elim too_large (λ small. go_on shallow small) (cases_Bool (is_too_large p)))
    (cases_Bool (is_too_deep depth p))
  where
    too_deep : is_too_deep depth p ≡ true → IsCut depth text ⊎ HasFault before depth text
    too_deep h =
        let deep : is_too_deep depth (take n text) ≡ true = ap (is_too_deep depth) is ∙ h in
        inr (at_front before depth text (TooDeep (place_of before)) (refl, record { len = n; first = first; deep = deep }))

    too_large : is_too_large p ≡ true → IsCut depth text ⊎ HasFault before depth text
    too_large h =
        let large : is_too_large (take n text) ≡ true = ap is_too_large is ∙ h in
        inr (at_front before depth text (TooLarge (place_of before)) (refl, record { len = n; first = first; large = large }))

    go_on : is_too_deep depth p ≡ false → is_too_large p ≡ false → IsCut depth text ⊎ HasFault before depth text
    go_on shallow small =
        let good : IsGood depth text p = record {
          first = subst (IsFirstPiece text) size first;
          is = subst (λ m. take m text ≡ p) size is;
          shallow = shallow;
          small = small;
        } in
        ⊎_elim (λ c. inl (more_cut depth text p good c)) (λ f. inr (more_fault before depth text p good f)) others

-- a text of at most n bytes
cut_or_fault : (n : ℕ) (before : List ℕ) (depth : ℕ) (text : List ℕ) → length text ≤ n
    → IsCut depth text ⊎ HasFault before depth text
cut_or_fault n before depth [] short = inl (record { pieces = []; cut = refl; allowed = refl })
cut_or_fault zero before depth (b ∷ bs) short = absurd (omega arith)
cut_or_fault (suc n) before depth (b ∷ bs) short = ⊎_elim
    (λ h.
    let p = take h.len (b ∷ bs) in
    let size = length-take-le h.len (b ∷ bs) h.first.within in
    let less : length (drop (length p) (b ∷ bs)) ≤ n = omega (arith, length-drop (length p) (b ∷ bs), h.first.some, size) in
    with_first before depth (b ∷ bs) p h.len (sym size) h.first refl
    (cut_or_fault n (before ++ p) (depth_behind depth p) (drop (length p) (b ∷ bs)) less))
    (λ none. inr (none_first before depth (b ∷ bs) (omega arith) none))
    (first_or_not (b ∷ bs))

-- the first fault after the mark is the text's
is_fault : (text : List ℕ) (fault : TextFault) → length text ≤ MAX_TEXT → HasFirst (body_of text) fault → IsFault text fault
is_fault text (Stray at) short h = (short, h)
is_fault text (OpenComment at) short h = (short, h)
is_fault text TooLong short h = absurd h.there
is_fault text (TooDeep at) short h = (short, h)
is_fault text (TooLarge at) short h = (short, h)
is_fault text Memory short h = (short, h)

-- each text has tokens or a fault
pub tokens_or_fault : (text : List ℕ)
    → ((tokens : List Token) × AreTokens text tokens) ⊎ ((fault : TextFault) × IsFault text fault)
tokens_or_fault text = ⊎_elim (λ long. inr (TooLong, long)) not_long (cases_lt MAX_TEXT (length text))
  where
    not_long : length text ≤ MAX_TEXT
        → ((tokens : List Token) × AreTokens text tokens) ⊎ ((fault : TextFault) × IsFault text fault)
    not_long short = ⊎_elim
        (λ c.
        let begins : Begins c.pieces (body_of text) [] = record { cut = c.cut; allowed = c.allowed } in
        inl (tokens_of (mark_len text) [] c.pieces, record { short = short; pieces = c.pieces; begins = begins; found = refl }))
        (λ f.
        let begins : Begins f.pieces (body_of text) f.rest = record { cut = f.stands.cut; allowed = f.stands.allowed } in
        let there = f.stands.there in
        let first : HasFirst (body_of text) f.fault = record { pieces = f.pieces; rest = f.rest; begins = begins; there = there } in
        inr (f.fault, is_fault text f.fault short first))
        (cut_or_fault (length (body_of text)) [] 0 (body_of text) (omega arith))
