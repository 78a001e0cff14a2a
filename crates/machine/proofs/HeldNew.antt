-- A new block with what is given for its fields: fields still hold exactly what is inside their block.
use Rattle.std.proofs.Common.{◌≡◌, ◌≢◌, ℕ, zero, suc, ◌<◌, ◌≤◌, Bool, true, false, List, [], ◌∷◌, ◌++◌, length}
use Rattle.std.proofs.Common.{refl, sym, ap, ◌∙◌, arith, inl, inr, ⊎_elim}
use Rattle.std.proofs.lemmas.Bool.{cases_Bool, cases_eq, cases_lt}
use Rattle.std.proofs.lemmas.List.{length_push}
use Rattle.std.specs.Prelude.{◌⊎◌, if◌then◌else◌}
use Rattle.program.specs.Lists.{is_among}
use Rattle.program.specs.declared.types.HeapType.{HeapType}
use Rattle.machine.specs.Blocks.{with_new_owner, new_block}
use Rattle.machine.specs.Heaps.{FieldsHold, occurs, one_if}
use Rattle.machine.specs.World.{Block, block_at, change_each, is_freed, is_freed_at, is_inside, no_block, no_type, owns}
use Rattle.machine.specs.declared.worlds.Owner.{Owner}
use Rattle.machine.specs.declared.worlds.Owner.TheVariants.{Inside, Channel}
use Rattle.machine.proofs.ChangeLemmas.{changed_length, eqb_apart, eqb_same}
use Rattle.machine.proofs.Chains.{inside_same, is_inside_is, is_inside_same}
use Rattle.machine.proofs.HeapLemmas.{changed_all, none_occurs, past}
use Rattle.machine.proofs.Holding.{owned_there, process_not_freed, process_not_inside, rooted_put}

-- ---- a new block, with what is given for its fields
added_old : (bs : List Block) (b : Block) (a : ℕ) → a < length bs → block_at (bs ++ b ∷ []) a ≡ block_at bs a
added_old [] b a h = absurd (omega arith)
added_old (x ∷ bs) b zero h = refl
added_old (x ∷ bs) b (suc a) h = let short : a < length bs = omega arith in added_old bs b a short

added_new : (bs : List Block) (b : Block) → block_at (bs ++ b ∷ []) (length bs) ≡ b
added_new [] b = refl
added_new (x ∷ bs) b = added_new bs b

module _ (bs : List Block) (self : ℕ) (given : List ℕ) (ty : HeapType) (h : FieldsHold bs)
    (mine : (x : ℕ) → is_among given x ≡ true → owns bs self x ≡ true)
    (once : (x : ℕ) → occurs given x ≡ one_if (is_among given x)) where
  abbrev pub new_at : ℕ
  new_at = length bs

  abbrev pub put_in : List Block
  put_in = change_each (with_new_owner (Inside new_at) given) bs

  abbrev pub made : Block
  made = new_block ty self 0 0 given

  abbrev pub grown : List Block
  grown = put_in ++ made ∷ []

  pub put_long : length put_in ≡ length bs
  put_long = changed_length (with_new_owner (Inside new_at) given) bs

  pub put_at : (j : ℕ) → block_at put_in j ≡ with_new_owner (Inside new_at) given j (block_at bs j)
  put_at j = changed_all (with_new_owner (Inside new_at) given) bs j (λ past.
      ap (λ (b : Bool). record {
        ty = no_type;
        owner = if b then Inside new_at else Channel;
        peer = 0;
        state = 0;
        queue = [];
        fields = [];
      })
      (⊎_elim (λ t. absurd (let k = owned_there bs self j (mine j t) in omega arith)) (λ e. e) (cases_Bool (is_among given j))))

  -- an address that existed before
  pub grown_old : (j : ℕ) → j < length bs → block_at grown j ≡ with_new_owner (Inside new_at) given j (block_at bs j)
  grown_old j less = added_old put_in made j (let e = put_long in omega arith) ∙ put_at j

  pub grown_new : block_at grown new_at ≡ made
  grown_new = ap (block_at grown) (sym put_long) ∙ added_new put_in made

  pub grown_past : (j : ℕ) → length bs < j → block_at grown j ≡ no_block
  grown_past j more = past grown j (let e = put_long in let k = length_push put_in made in omega arith)

  -- an address existed before, or is the new one, or does not exist
  abbrev Where : ℕ → Type 0
  Where j = (j < length bs) ⊎ ((j ≡ new_at) ⊎ (length bs < j))

  pub where_is : (j : ℕ) → Where j
  where_is j = ⊎_elim (λ l. inl l) (λ le. ⊎_elim (λ e. inr (inl e)) (λ n. inr (inr (omega arith))) (cases_eq j new_at))
      (cases_lt j (length bs))

  pub given_less : (j : ℕ) → is_among given j ≡ true → j < length bs
  given_less j e = owned_there bs self j (mine j e)

  pub owner_put : (j : ℕ) → is_among given j ≡ true → (block_at grown j).owner ≡ Inside new_at
  owner_put j e = ap (λ (b : Block). b.owner) (grown_old j (given_less j e))
      ∙ ap (λ (t : Bool). if t then Inside new_at else (block_at bs j).owner) e

  -- what is not given is inside the same block as before
  pub inside_stays : (j a : ℕ) → is_among given j ≡ false
      → is_inside (block_at grown j).owner a ≡ is_inside (block_at bs j).owner a
  inside_stays j a e = by (where_is j)
    where
      none_past : length bs ≤ j → is_inside (block_at bs j).owner a ≡ false
      none_past le = ap (λ (b : Block). is_inside b.owner a) (past bs j le)

      by : Where j → is_inside (block_at grown j).owner a ≡ is_inside (block_at bs j).owner a
      by (inl less) = ap (λ (b : Block). is_inside b.owner a) (grown_old j less)
          ∙ ap (λ (t : Bool). is_inside (if t then Inside new_at else (block_at bs j).owner) a) e
      by (inr (inl s)) = ap (λ (n : ℕ). is_inside (block_at grown n).owner a) s
          ∙ (ap (λ (b : Block). is_inside b.owner a) grown_new ∙ sym (none_past (omega arith)))
      by (inr (inr more)) = ap (λ (b : Block). is_inside b.owner a) (grown_past j more) ∙ sym (none_past (omega arith))

  pub fields_before : (a : ℕ) → a ≢ new_at → (block_at grown a).fields ≡ (block_at bs a).fields
  fields_before a n = by (where_is a)
    where
      by : Where a → (block_at grown a).fields ≡ (block_at bs a).fields
      by (inl less) = ap (λ (b : Block). b.fields) (grown_old a less)
      by (inr (inl s)) = absurd (n s)
      by (inr (inr more)) = ap (λ (b : Block). b.fields) (grown_past a more)
          ∙ sym (ap (λ (b : Block). b.fields) (past bs a (omega arith)))

  -- nothing was inside the new block before
  none_before : (j : ℕ) → is_inside (block_at bs j).owner new_at ≡ false
  none_before j = by (is_inside (block_at bs j).owner new_at) (sym (ap (λ (b : Block). occurs b.fields j) (past bs new_at (omega arith)))
      ∙ h.holds_are new_at j)
    where
      by : (t : Bool) → 0 ≡ one_if t → t ≡ false
      by true e = absurd (omega arith)
      by false e = refl

  holds_grown : (a j : ℕ) → occurs (block_at grown a).fields j ≡ one_if (is_inside (block_at grown j).owner a)
  holds_grown a j = by (cases_eq a new_at) (is_among given j) refl
    where
      by : (a ≡ new_at) ⊎ (a ≡ new_at → ⊥) → (t : Bool) → is_among given j ≡ t
          → occurs (block_at grown a).fields j ≡ one_if (is_inside (block_at grown j).owner a)
      by (inl e) true t =
          ap (λ (n : ℕ). occurs (block_at grown n).fields j) e
          ∙ (ap (λ (b : Block). occurs b.fields j) grown_new ∙ (once j ∙ (ap one_if t
          ∙ sym (ap one_if (ap (λ (o : Owner). is_inside o a) (owner_put j t) ∙ eqb_same new_at a (sym e))))))
      by (inl e) false t =
          ap (λ (n : ℕ). occurs (block_at grown n).fields j) e
          ∙ (ap (λ (b : Block). occurs b.fields j) grown_new ∙ (none_occurs given j t
          ∙ sym (ap one_if (inside_stays j a t ∙ (ap (λ (n : ℕ). is_inside (block_at bs j).owner n) e ∙ none_before j)))))
      by (inr n) true t =
          ap (λ (xs : List ℕ). occurs xs j) (fields_before a n) ∙ (h.holds_are a j
          ∙ (ap one_if (process_not_inside (block_at bs j).owner self a (mine j t))
          ∙ sym (ap one_if (ap (λ (o : Owner). is_inside o a) (owner_put j t) ∙ eqb_apart new_at a (λ s. n (sym s))))))
      by (inr n) false t =
          ap (λ (xs : List ℕ). occurs xs j) (fields_before a n) ∙ (h.holds_are a j ∙ sym (ap one_if (inside_stays j a t)))

  put_grown : (j b : ℕ) → (block_at grown j).owner ≡ Inside b → (b ≡ new_at) ⊎ ((block_at bs j).owner ≡ Inside b)
  put_grown j b is = ⊎_elim (λ t. inl (inside_same (block_at grown j).owner b new_at is (owner_put j t)))
      (λ t. inr (is_inside_is (block_at bs j).owner b
      (sym (inside_stays j b t) ∙ (ap (λ (o : Owner). is_inside o b) is ∙ is_inside_same b)))) (cases_Bool (is_among given j))

  freed_stays : (a : ℕ) → is_freed_at grown a ≡ is_freed_at bs a
  freed_stays a = by (where_is a)
    where
      put : (t : Bool) → is_among given a ≡ t → is_freed (if t then Inside new_at else (block_at bs a).owner) ≡ is_freed_at bs a
      put true e = sym (process_not_freed (block_at bs a).owner self (mine a e))
      put false e = refl

      none_past : length bs ≤ a → is_freed_at bs a ≡ false
      none_past le = ap (λ (b : Block). is_freed b.owner) (past bs a le)

      by : Where a → is_freed_at grown a ≡ is_freed_at bs a
      by (inl less) = ap (λ (b : Block). is_freed b.owner) (grown_old a less) ∙ put (is_among given a) refl
      by (inr (inl s)) = ap (λ (n : ℕ). is_freed_at grown n) s
          ∙ (ap (λ (b : Block). is_freed b.owner) grown_new ∙ sym (none_past (omega arith)))
      by (inr (inr more)) = ap (λ (b : Block). is_freed b.owner) (grown_past a more) ∙ sym (none_past (omega arith))

  alive_grown : (j a : ℕ) → is_inside (block_at grown j).owner a ≡ true → is_freed_at grown a ≡ false
  alive_grown j a e = ⊎_elim
      (λ s. ap (λ (n : ℕ). is_freed_at grown n) s ∙ ap (λ (b : Block). is_freed b.owner) grown_new)
      (λ was. freed_stays a ∙ h.alive j a (ap (λ (o : Owner). is_inside o a) was ∙ is_inside_same a))
      (put_grown j a (is_inside_is (block_at grown j).owner a e))

  -- fields still hold what is inside their block
  pub new_held : FieldsHold grown
  new_held = record {
    holds_are = holds_grown;
    rooted = λ x. rooted_put bs grown new_at (λ b. ap (λ (y : Block). is_inside y.owner b) grown_new) put_grown x (h.rooted x);
    alive = alive_grown;
  }
