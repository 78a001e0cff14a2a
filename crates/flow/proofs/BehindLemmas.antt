-- Lists whose items are laid from the last one on.
use Rattle.std.proofs.Common.{◌≡◌, ℕ, List, [], ◌∷◌, ◌++◌, length, map, reverse, sym, ap, ◌∙◌, append_assoc, append-nil, subst}
use Rattle.std.specs.List.{push}
use Rattle.std.proofs.lemmas.List.{reverse-append}
use Rattle.flow.specs.declared.graph.Instr.{Instr}
use Rattle.flow.specs.Growths.{Grew, LaysEnd}
use Rattle.flow.specs.Lowering.{Laid, Lays, nothing, both}
use Rattle.flow.proofs.GrowthLemmas.{grew_none, grew_both}

-- mapping a reversed list with one more item at its end puts that item first
pub one_more : {A B : Type 0} (f : A → B) (ys : List A) (y : A) → map f (reverse (ys ++ y ∷ [])) ≡ f y ∷ map f (reverse ys)
one_more f ys y = ap (map f) (reverse-append ys (y ∷ []))

-- `LaysEnd` holds before anything is laid
pub behind_begins : {A : Type 0} (lays : List A → Lays) (all rest : List A) (old : List Instr) (next : ℕ) → lays [] ≡ nothing → rest ≡ all → LaysEnd all rest [] old old next (λ done. lays done (length old) next)
behind_begins lays all rest old next none is = record {
  split = sym is ∙ sym (append-nil rest);
  grew = subst (λ (l : Lays). Grew old old next (l (length old) next)) (sym none) (grew_none old next);
}

-- `LaysEnd` holds after the next item is laid, in front of the laid ones
pub behind_goes_on : {A B : Type 0} (f : B → A) (lays : List A → Lays) (lay : A → Lays) (all rest left : List A) (ys : List B) (y : B) (old mid new : List Instr) (behind entry next : ℕ) → lays (f y ∷ map f (reverse ys)) ≡ both (lay (f y)) (lays (map f (reverse ys))) → rest ≡ push left (f y) → LaysEnd all rest (map f (reverse ys)) old mid behind (λ done. lays done (length old) next) → Grew mid new entry (lay (f y) (length mid) behind) → LaysEnd all left (map f (reverse (ys ++ y ∷ []))) old new entry (λ done. lays done (length old) next)
behind_goes_on f lays lay all rest left ys y old mid new behind entry next step more b g = record {
  split = b.split ∙ ap (λ r. r ++ map f (reverse ys)) more ∙ append_assoc left (f y ∷ []) (map f (reverse ys)) ∙ ap (λ d. left ++ d) (sym (one_more f ys y));
  grew = subst (λ d. Grew old new entry (lays d (length old) next)) (sym (one_more f ys y))
      (subst (λ (l : Lays). Grew old new entry (l (length old) next)) (sym step)
      (grew_both old mid new (lay (f y)) (lays (map f (reverse ys))) behind entry next b.grew g));
}

-- once all items are laid, the instructions grew by those of the whole list
pub behind_ends : {A : Type 0} (lays : List A → Laid) (all rest done : List A) (old new : List Instr) (entry : ℕ) → length rest ≡ 0 → LaysEnd all rest done old new entry lays → Grew old new entry (lays all)
behind_ends lays all [] done old new entry none b = subst (λ d. Grew old new entry (lays d)) (sym b.split) b.grew
behind_ends lays all (x ∷ rest) done old new entry none b = absurd (cc)
