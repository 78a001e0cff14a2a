-- A text has at most one fault, and none if it is cut whole.
use Rattle.std.proofs.Common.{◌≡◌, ◌≢◌, ◌⊎◌, ◌-◌, inl, inr, ⊎_elim, Some, ℕ, ◌<◌, ◌≤◌, true, false, not, List, [], ◌∷◌, ◌++◌, length, take, drop, sym, ap, ◌∙◌, subst, refl, arith, append_assoc}
use Rattle.std.specs.Prelude.{◌&&◌, nat_lt, if◌then◌else◌}
use Rattle.std.specs.Char.{is_ascii_digit}
use Rattle.std.specs.Option.{option_map_or}
use Rattle.std.specs.List.{concat, list_all}
use Rattle.std.proofs.lemmas.Bool.{false≢true, and_parts, not-true}
use Rattle.std.proofs.lemmas.Bool.Decides.{nat_tests}
use Rattle.std.proofs.lemmas.List.{take_rest}
use Rattle.source.specs.Brackets.{depth_after, depth_behind, depth_of}
use Rattle.source.specs.Classes.{in_word}
use Rattle.source.specs.Cutting.{Cuts, IsFirstPiece}
use Rattle.source.specs.Faults.{are_allowed, is_too_deep, is_too_large, StandsAt, HasFirst, IsFault, IsTooDeep, IsTooLarge}
use Rattle.source.specs.Marks.{mark_len, body_of}
use Rattle.source.specs.Numbers.{number_value}
use Rattle.source.specs.Pieces.{is_number}
use Rattle.source.specs.Places.{place_of}
use Rattle.source.specs.Tokens.{AreTokens}
use Rattle.source.specs.Words.{symbol, word_kind}
use Rattle.source.specs.declared.kind.Kind.TheVariants.{Number}
use Rattle.source.specs.declared.token.Token.{Token}
use Rattle.source.specs.declared.place.Place.{Place}
use Rattle.source.specs.declared.fault.TextFault.{TextFault}
use Rattle.source.specs.declared.fault.TextFault.TheVariants.{Stray, OpenComment, TooLong, TooDeep, TooLarge, Memory}
use Rattle.source.proofs.CutLemmas.{first_same, first_or_none, front_same}
use Rattle.source.proofs.LexedLemmas.{shallow}
use Rattle.source.proofs.FrontLemmas.{digit_no_word}

-- a piece without a fault
pub record IsFine (depth : ℕ) (p : List ℕ) : Type 0 where
  pub shallow : is_too_deep depth p ≡ false
  pub small : is_too_large p ≡ false

pub fine_first : (depth : ℕ) (p : List ℕ) (ps : List (List ℕ)) → are_allowed depth (p ∷ ps) ≡ true → IsFine depth p
fine_first depth p ps h =
    let this = (and_parts (not (is_too_deep depth p) && not (is_too_large p)) (are_allowed (depth_behind depth p) ps) h).0 in
    record {
      shallow = not-true (is_too_deep depth p) ((and_parts (not (is_too_deep depth p)) (not (is_too_large p)) this).0);
      small = not-true (is_too_large p) ((and_parts (not (is_too_deep depth p)) (not (is_too_large p)) this).1);
    }

pub fine_others : (depth : ℕ) (p : List ℕ) (ps : List (List ℕ)) → are_allowed depth (p ∷ ps) ≡ true → are_allowed (depth_behind depth p) ps ≡ true
fine_others depth p ps h = (and_parts (not (is_too_deep depth p) && not (is_too_large p)) (are_allowed (depth_behind depth p) ps) h).1

-- if a piece without a fault comes first, no fault is here
fine_deep : (depth : ℕ) (text p : List ℕ) → IsFirstPiece text (length p) → take (length p) text ≡ p → IsFine depth p → IsTooDeep depth text → ⊥
fine_deep depth text p first is fine f =
    false≢true (sym fine.shallow ∙ ap (is_too_deep depth) (sym is ∙ ap (λ n. take n text) (first_same text (length p) f.len first f.first)) ∙ f.deep)

fine_large : (depth : ℕ) (text p : List ℕ) → IsFirstPiece text (length p) → take (length p) text ≡ p → IsFine depth p → IsTooLarge text → ⊥
fine_large depth text p first is fine f =
    false≢true (sym fine.small ∙ ap is_too_large (sym is ∙ ap (λ n. take n text) (first_same text (length p) f.len first f.first)) ∙ f.large)

pub fine_none : (fault : TextFault) (place : Place) (depth : ℕ) (text p : List ℕ) → IsFirstPiece text (length p) → take (length p) text ≡ p → IsFine depth p → StandsAt fault place depth text → ⊥
fine_none (Stray at) place depth text p first is fine f = first_or_none text (length p) first f.1.none
fine_none (OpenComment at) place depth text p first is fine f = first_or_none text (length p) first f.1.none
fine_none TooLong place depth text p first is fine f = f
fine_none (TooDeep at) place depth text p first is fine f = fine_deep depth text p first is fine f.1
fine_none (TooLarge at) place depth text p first is fine f = fine_large depth text p first is fine f.1
fine_none Memory place depth text p first is fine f = f

-- no fault is at the end of a text
pub end_none : (fault : TextFault) (place : Place) (depth : ℕ) → StandsAt fault place depth [] → ⊥
end_none (Stray at) place depth f = omega (arith, f.1.some)
end_none (OpenComment at) place depth f = false≢true f.1.begins
end_none TooLong place depth f = f
end_none (TooDeep at) place depth f = omega (arith, f.1.first.some, f.1.first.within)
end_none (TooLarge at) place depth f = omega (arith, f.1.first.some, f.1.first.within)
end_none Memory place depth f = f

-- a number opens no bracket
number_depth : (depth : ℕ) (p : List ℕ) → is_number p ≡ true → depth_behind depth p ≡ depth
number_depth depth [] h = absurd (false≢true h)
number_depth depth (b ∷ bs) h =
    let digit = (and_parts (is_ascii_digit b) (list_all is_ascii_digit bs) h).0 in
    λ i. option_map_or (depth_after depth) (if digit_no_word b digit i && list_all in_word bs then Some (word_kind (b ∷ bs)) else (if h i then Some Number else symbol (b ∷ bs))) depth

large_not_deep : (depth : ℕ) (p : List ℕ) → depth ≤ 100 → is_too_large p ≡ true → is_too_deep depth p ≡ true → ⊥
large_not_deep depth p low large deep =
    let same = number_depth depth p ((and_parts (is_number p) (nat_lt 2147483647 (number_value p)) large).0) in
    false≢true (sym (shallow depth low) ∙ ap (λ d. nat_lt 100 d) (sym same) ∙ deep)

deep_or_large : (depth : ℕ) (text : List ℕ) → depth ≤ 100 → IsTooDeep depth text → IsTooLarge text → ⊥
deep_or_large depth text low f g =
    large_not_deep depth (take g.len text) low g.large (ap (λ n. is_too_deep depth (take n text)) (first_same text g.len f.len g.first f.first) ∙ f.deep)

-- only one fault is at a place
same_stands : (f g : TextFault) (place : Place) (depth : ℕ) (text : List ℕ) → depth ≤ 100 → StandsAt f place depth text → StandsAt g place depth text → f ≡ g
same_stands (Stray a) (Stray b) place depth text low s t = ap Stray (s.0 ∙ sym t.0)
same_stands (Stray a) (OpenComment b) place depth text low s t = absurd (false≢true (sym s.1.other ∙ t.1.begins))
same_stands (Stray a) TooLong place depth text low s t = absurd t
same_stands (Stray a) (TooDeep b) place depth text low s t = absurd (first_or_none text t.1.len t.1.first s.1.none)
same_stands (Stray a) (TooLarge b) place depth text low s t = absurd (first_or_none text t.1.len t.1.first s.1.none)
same_stands (Stray a) Memory place depth text low s t = absurd t
same_stands (OpenComment a) (Stray b) place depth text low s t = absurd (false≢true (sym t.1.other ∙ s.1.begins))
same_stands (OpenComment a) (OpenComment b) place depth text low s t = ap OpenComment (s.0 ∙ sym t.0)
same_stands (OpenComment a) TooLong place depth text low s t = absurd t
same_stands (OpenComment a) (TooDeep b) place depth text low s t = absurd (first_or_none text t.1.len t.1.first s.1.none)
same_stands (OpenComment a) (TooLarge b) place depth text low s t = absurd (first_or_none text t.1.len t.1.first s.1.none)
same_stands (OpenComment a) Memory place depth text low s t = absurd t
same_stands TooLong g place depth text low s t = absurd s
same_stands (TooDeep a) (Stray b) place depth text low s t = absurd (first_or_none text s.1.len s.1.first t.1.none)
same_stands (TooDeep a) (OpenComment b) place depth text low s t = absurd (first_or_none text s.1.len s.1.first t.1.none)
same_stands (TooDeep a) TooLong place depth text low s t = absurd t
same_stands (TooDeep a) (TooDeep b) place depth text low s t = ap TooDeep (s.0 ∙ sym t.0)
same_stands (TooDeep a) (TooLarge b) place depth text low s t = absurd (deep_or_large depth text low s.1 t.1)
same_stands (TooDeep a) Memory place depth text low s t = absurd t
same_stands (TooLarge a) (Stray b) place depth text low s t = absurd (first_or_none text s.1.len s.1.first t.1.none)
same_stands (TooLarge a) (OpenComment b) place depth text low s t = absurd (first_or_none text s.1.len s.1.first t.1.none)
same_stands (TooLarge a) TooLong place depth text low s t = absurd t
same_stands (TooLarge a) (TooDeep b) place depth text low s t = absurd (deep_or_large depth text low t.1 s.1)
same_stands (TooLarge a) (TooLarge b) place depth text low s t = ap TooLarge (s.0 ∙ sym t.0)
same_stands (TooLarge a) Memory place depth text low s t = absurd t
same_stands Memory g place depth text low s t = absurd s

-- a fault after pieces without one, with these bytes and brackets before them
pub record StandsBehind (before : List ℕ) (depth : ℕ) (text : List ℕ) (pieces : List (List ℕ)) (rest : List ℕ) (fault : TextFault) : Type 0 where
  pub cut : Cuts pieces text rest
  pub allowed : are_allowed depth pieces ≡ true
  pub there : StandsAt fault (place_of (before ++ concat pieces)) (depth_of depth pieces) rest

low_first : (depth : ℕ) (p : List ℕ) → is_too_deep depth p ≡ false → depth_behind depth p ≤ 100
low_first depth p h = not_above (depth_behind depth p) h
  where
    not_above : (d : ℕ) → nat_lt 100 d ≡ false → d ≤ 100
    not_above d h = grind (arith, nat_tests)

-- after the first piece
behind_first : (before : List ℕ) (depth : ℕ) (text p : List ℕ) (ps : List (List ℕ)) (rest : List ℕ) (fault : TextFault) → StandsBehind before depth text (p ∷ ps) rest fault → StandsBehind (before ++ p) (depth_behind depth p) (drop (length p) text) ps rest fault
behind_first before depth text p ps rest fault s = record {
  cut = s.cut.2;
  allowed = fine_others depth p ps s.allowed;
  there = subst (λ b. StandsAt fault (place_of b) (depth_of (depth_behind depth p) ps) rest) (sym (append_assoc before p (concat ps))) s.there;
}

-- at the front
stands_first : (before : List ℕ) (depth : ℕ) (text rest : List ℕ) (fault : TextFault) → StandsBehind before depth text [] rest fault → StandsAt fault (place_of (before ++ [])) depth text
stands_first before depth text rest fault s = subst (λ t. StandsAt fault (place_of (before ++ [])) depth t) (sym s.cut) s.there

one_behind : (ps qs : List (List ℕ)) (before : List ℕ) (depth : ℕ) (text rest more : List ℕ) (f g : TextFault) → depth ≤ 100 → StandsBehind before depth text ps rest f → StandsBehind before depth text qs more g → f ≡ g
one_behind [] [] before depth text rest more f g low s t = same_stands f g (place_of (before ++ [])) depth text low (stands_first before depth text rest f s) (stands_first before depth text more g t)
one_behind [] (q ∷ qs) before depth text rest more f g low s t = absurd (fine_none f (place_of (before ++ [])) depth text q t.cut.0 t.cut.1 (fine_first depth q qs t.allowed) (stands_first before depth text rest f s))
one_behind (p ∷ ps) [] before depth text rest more f g low s t = absurd (fine_none g (place_of (before ++ [])) depth text p s.cut.0 s.cut.1 (fine_first depth p ps s.allowed) (stands_first before depth text more g t))
one_behind (p ∷ ps) (q ∷ qs) before depth text rest more f g low s t =
    let same = front_same text p q s.cut.0 s.cut.1 t.cut.0 t.cut.1 in
    let next : StandsBehind (before ++ p) (depth_behind depth p) (drop (length p) text) qs more g = subst (λ r. StandsBehind (before ++ r) (depth_behind depth r) (drop (length r) text) qs more g) (sym same) (behind_first before depth text q qs more g t) in
    one_behind ps qs (before ++ p) (depth_behind depth p) (drop (length p) text) rest more f g (low_first depth p (fine_first depth p ps s.allowed).shallow) (behind_first before depth text p ps rest f s) next

none_behind : (ps qs : List (List ℕ)) (before : List ℕ) (depth : ℕ) (text more : List ℕ) (g : TextFault) → Cuts ps text [] → are_allowed depth ps ≡ true → StandsBehind before depth text qs more g → ⊥
none_behind [] [] before depth text more g h allowed t = end_none g (place_of (before ++ [])) depth (subst (λ r. StandsAt g (place_of (before ++ [])) depth r) h (stands_first before depth text more g t))
none_behind [] (q ∷ qs) before depth text more g h allowed t = omega (arith, ap length h, t.cut.0.some, t.cut.0.within)
none_behind (p ∷ ps) [] before depth text more g h allowed t = fine_none g (place_of (before ++ [])) depth text p h.0 h.1 (fine_first depth p ps allowed) (stands_first before depth text more g t)
none_behind (p ∷ ps) (q ∷ qs) before depth text more g h allowed t =
    let same = front_same text p q h.0 h.1 t.cut.0 t.cut.1 in
    let next : StandsBehind (before ++ p) (depth_behind depth p) (drop (length p) text) qs more g = subst (λ r. StandsBehind (before ++ r) (depth_behind depth r) (drop (length r) text) qs more g) (sym same) (behind_first before depth text q qs more g t) in
    none_behind ps qs (before ++ p) (depth_behind depth p) (drop (length p) text) more g h.2 (fine_others depth p ps allowed) next

from_first : (text : List ℕ) (f : TextFault) (h : HasFirst text f) → StandsBehind [] 0 text h.pieces h.rest f
from_first text f h = record { cut = h.begins.cut; allowed = h.begins.allowed; there = h.there }

one_first : (text : List ℕ) (f g : TextFault) → HasFirst text f → HasFirst text g → f ≡ g
one_first text f g h k = one_behind h.pieces k.pieces [] 0 text h.rest k.rest f g (omega arith) (from_first text f h) (from_first text g k)

-- the fault of a text is its length or in it
in_text : (text : List ℕ) (f : TextFault) → IsFault text f → ((f ≡ TooLong) × (4194304 < length text)) ⊎ ((length text ≤ 4194304) × HasFirst (body_of text) f)
in_text text (Stray a) h = inr h
in_text text (OpenComment a) h = inr h
in_text text TooLong h = inl (refl, h)
in_text text (TooDeep a) h = inr h
in_text text (TooLarge a) h = inr h
in_text text Memory h = inr h

-- a text has at most one fault
pub one_fault_lem : (text : List ℕ) (f g : TextFault) → IsFault text f → IsFault text g → f ≡ g
one_fault_lem text f g h k = ⊎_elim
    (λ a. ⊎_elim (λ b. a.0 ∙ sym b.0) (λ b. absurd (omega (arith, a.1, b.0))) (in_text text g k))
    (λ a. ⊎_elim (λ b. absurd (omega (arith, a.0, b.1))) (λ b. one_first (body_of text) f g a.1 b.1) (in_text text g k))
    (in_text text f h)

-- and none if it is cut whole
pub none_of_tokens : (text : List ℕ) (tokens : List Token) (f : TextFault) → AreTokens text tokens → IsFault text f → ⊥
none_of_tokens text tokens f t h = ⊎_elim
    (λ a. omega (arith, a.1, t.short))
    (λ a. none_behind t.pieces a.1.pieces [] 0 (body_of text) a.1.rest f t.begins.cut t.begins.allowed (from_first (body_of text) f a.1))
    (in_text text f h)

-- so the fault of the text is the returned one, or an allocation was refused
pub answered : (text : List ℕ) (r f : TextFault) → (r ≢ Memory → IsFault text r) → IsFault text f → (r ≡ f) ⊎ (r ≡ Memory)
answered text (Stray a) f h k = inl (one_fault_lem text (Stray a) f (h (λ e. cc)) k)
answered text (OpenComment a) f h k = inl (one_fault_lem text (OpenComment a) f (h (λ e. cc)) k)
answered text TooLong f h k = inl (one_fault_lem text TooLong f (h (λ e. cc)) k)
answered text (TooDeep a) f h k = inl (one_fault_lem text (TooDeep a) f (h (λ e. cc)) k)
answered text (TooLarge a) f h k = inl (one_fault_lem text (TooLarge a) f (h (λ e. cc)) k)
answered text Memory f h k = inr refl

-- a fault after the mark is one of the text
pub fault_of_body : (text : List ℕ) (mark : ℕ) (f : TextFault) → mark ≡ mark_len text → length text ≤ 4194304 → HasFirst (take (length text - mark) (drop mark text)) f → IsFault text f
fault_of_body text mark f is short h = by f (subst (λ b. HasFirst b f) (take_rest text mark ∙ ap (λ n. drop n text) is) h)
  where
    by : (f : TextFault) → HasFirst (body_of text) f → IsFault text f
    by (Stray a) h = (short, h)
    by (OpenComment a) h = (short, h)
    by TooLong h = absurd h.there
    by (TooDeep a) h = (short, h)
    by (TooLarge a) h = (short, h)
    by Memory h = (short, h)
