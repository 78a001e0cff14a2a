-- A block and what a field of another holds change places: fields still hold exactly what is inside their block.
use Rattle.std.proofs.Common.{◌≡◌, ◌≢◌, ◌==◌, ℕ, zero, suc, ◌+◌, ◌<◌, Bool, true, false, List, [], ◌∷◌, Some, set}
use Rattle.std.proofs.Common.{refl, sym, ap, ◌∙◌, subst, arith, inl, inr, ⊎_elim}
use Rattle.std.proofs.lemmas.Bool.{cases_eq}
use Rattle.std.specs.Prelude.{◌⊎◌, if◌then◌else◌, slice_get}
use Rattle.machine.specs.Blocks.{exchanged_block}
use Rattle.machine.specs.Heaps.{FieldsHold, occurs, one_if}
use Rattle.machine.specs.World.{Block, block_at, change_each, is_freed, is_freed_at, is_inside, no_type, owns}
use Rattle.machine.specs.declared.worlds.Owner.{Owner}
use Rattle.machine.specs.declared.worlds.Owner.TheVariants.{Process, Inside, Channel}
use Rattle.machine.proofs.ChangeLemmas.{eqb_apart, eqb_same, true≢false}
use Rattle.machine.proofs.Chains.{inside_same, inside_there, is_inside_is, is_inside_same}
use Rattle.machine.proofs.HeapLemmas.{changed_all}
use Rattle.machine.proofs.Holding.{inside_not_process, owned_there, process_not_freed, process_not_inside, rooted_put}

-- ---- what fields hold
pub one_if_true : (b : Bool) → 0 < one_if b → b ≡ true
one_if_true true h = refl
one_if_true false h = absurd (omega arith)

occurs_there : (xs : List ℕ) (i x : ℕ) → slice_get xs i ≡ Some x → 0 < occurs xs x
occurs_there [] i x e = absurd (cc)
occurs_there (y ∷ xs) zero x e =
    let s : y ≡ x = cc in
    let z : one_if (y == x) ≡ 1 = ap one_if (eqb_same y x s) in
    omega arith
occurs_there (y ∷ xs) (suc i) x e = let k = occurs_there xs i x e in omega arith

-- an element of a list is overwritten
occurs_set : (xs : List ℕ) (i x y j : ℕ) → slice_get xs i ≡ Some x
    → occurs (set xs i y) j + one_if (x == j) ≡ occurs xs j + one_if (y == j)
occurs_set [] i x y j e = absurd (cc)
occurs_set (z ∷ xs) zero x y j e =
    let s : z ≡ x = cc in
    let k : one_if (z == j) ≡ one_if (x == j) = ap (λ (n : ℕ). one_if (n == j)) s in
    omega arith
occurs_set (z ∷ xs) (suc i) x y j e = let k = occurs_set xs i x y j e in omega arith

-- an address that a field holds is inside the block of the field
pub field_inside : (bs : List Block) (a i x : ℕ) → FieldsHold bs → slice_get (block_at bs a).fields i ≡ Some x
    → (block_at bs x).owner ≡ Inside a
field_inside bs a i x h e =
    is_inside_is (block_at bs x).owner a (one_if_true (is_inside (block_at bs x).owner a)
    (subst (λ (n : ℕ). 0 < n) (h.holds_are a x) (occurs_there (block_at bs a).fields i x e)))

-- ---- a block and what a field of another holds change places
module _ (bs : List Block) (self at field given held : ℕ) (h : FieldsHold bs) (owned_at : owns bs self at ≡ true)
    (owned_given : owns bs self given ≡ true) (apart : given ≢ at) (found : slice_get (block_at bs at).fields field ≡ Some held) where
  abbrev pub changes : List Block
  changes = change_each (exchanged_block self at field given held) bs

  pub held_is : (block_at bs held).owner ≡ Inside at
  held_is = field_inside bs at field held h found

  pub held_not_given : held ≢ given
  held_not_given e = true≢false owned_given
      (ap (λ (n : ℕ). owns bs self n) (sym e) ∙ inside_not_process (block_at bs held).owner at self held_is)

  pub held_not_at : held ≢ at
  held_not_at e = true≢false owned_at
      (ap (λ (n : ℕ). owns bs self n) (sym e) ∙ inside_not_process (block_at bs held).owner at self held_is)

  pub exchanged_at : (j : ℕ) → block_at changes j ≡ exchanged_block self at field given held j (block_at bs j)
  exchanged_at j = changed_all (exchanged_block self at field given held) bs j (λ past.
      let n1 = eqb_apart j given (λ e. let k = owned_there bs self given owned_given in omega arith) in
      let n2 = eqb_apart j held (λ e. let k = inside_there bs held at held_is in omega arith) in
      let n3 = eqb_apart j at (λ e. let k = owned_there bs self at owned_at in omega arith) in
      ap (λ (b : Bool). record {
        ty = no_type;
        owner = if b then Inside at else (if j == held then Process self else Channel);
        peer = 0;
        state = 0;
        queue = [];
        fields = if j == at then set [] field given else [];
      }) n1
      ∙ (ap (λ (b : Bool). record {
        ty = no_type;
        owner = if b then Process self else Channel;
        peer = 0;
        state = 0;
        queue = [];
        fields = if j == at then set [] field given else [];
      }) n2
      ∙ ap (λ (b : Bool). record {
        ty = no_type;
        owner = Channel;
        peer = 0;
        state = 0;
        queue = [];
        fields = if b then set [] field given else [];
      }) n3))

  pub owner_given : (j : ℕ) → j ≡ given → (block_at changes j).owner ≡ Inside at
  owner_given j e = ap (λ (b : Block). b.owner) (exchanged_at j)
      ∙ ap (λ (b : Bool). if b then Inside at else (if j == held then Process self else (block_at bs j).owner)) (eqb_same j given e)

  pub owner_held : (j : ℕ) → j ≡ held → (block_at changes j).owner ≡ Process self
  owner_held j e = ap (λ (b : Block). b.owner) (exchanged_at j)
      ∙ (ap (λ (b : Bool). if b then Inside at else (if j == held then Process self else (block_at bs j).owner))
      (eqb_apart j given (λ s. held_not_given (sym e ∙ s)))
      ∙ ap (λ (b : Bool). if b then Process self else (block_at bs j).owner) (eqb_same j held e))

  pub owner_other : (j : ℕ) → j ≢ given → j ≢ held → (block_at changes j).owner ≡ (block_at bs j).owner
  owner_other j n1 n2 = ap (λ (b : Block). b.owner) (exchanged_at j)
      ∙ (ap (λ (b : Bool). if b then Inside at else (if j == held then Process self else (block_at bs j).owner)) (eqb_apart j given n1)
      ∙ ap (λ (b : Bool). if b then Process self else (block_at bs j).owner) (eqb_apart j held n2))

  pub fields_at : (a : ℕ) → a ≡ at → (block_at changes a).fields ≡ set (block_at bs a).fields field given
  fields_at a e = ap (λ (b : Block). b.fields) (exchanged_at a)
      ∙ ap (λ (b : Bool). if b then set (block_at bs a).fields field given else (block_at bs a).fields) (eqb_same a at e)

  pub fields_other : (a : ℕ) → a ≢ at → (block_at changes a).fields ≡ (block_at bs a).fields
  fields_other a n = ap (λ (b : Block). b.fields) (exchanged_at a)
      ∙ ap (λ (b : Bool). if b then set (block_at bs a).fields field given else (block_at bs a).fields) (eqb_apart a at n)

  holds_now : (a j : ℕ) → occurs (block_at changes a).fields j ≡ one_if (is_inside (block_at changes j).owner a)
  holds_now a j = by (cases_eq a at) (cases_eq j given) (cases_eq j held)
    where
      was : occurs (block_at bs a).fields j ≡ one_if (is_inside (block_at bs j).owner a)
      was = h.holds_are a j

      set_now : a ≡ at → occurs (set (block_at bs a).fields field given) j + one_if (held == j)
          ≡ occurs (block_at bs a).fields j + one_if (given == j)
      set_now e = occurs_set (block_at bs a).fields field held given j (ap (λ (n : ℕ). slice_get (block_at bs n).fields field) e ∙ found)

      given_out : j ≡ given → is_inside (block_at bs j).owner a ≡ false
      given_out e = process_not_inside (block_at bs j).owner self a (ap (λ (n : ℕ). owns bs self n) e ∙ owned_given)

      by : (a ≡ at) ⊎ (a ≡ at → ⊥) → (j ≡ given) ⊎ (j ≡ given → ⊥) → (j ≡ held) ⊎ (j ≡ held → ⊥)
          → occurs (block_at changes a).fields j ≡ one_if (is_inside (block_at changes j).owner a)
      by (inl e) (inl g) s =
          let k = set_now e in
          let z1 : one_if (held == j) ≡ 0 = ap one_if (eqb_apart held j (λ x. held_not_given (x ∙ g))) in
          let z2 : one_if (given == j) ≡ 1 = ap one_if (eqb_same given j (sym g)) in
          let z3 : one_if (is_inside (block_at bs j).owner a) ≡ 0 = ap one_if (given_out g) in
          let z4 : one_if (is_inside (block_at changes j).owner a) ≡ 1 =
          ap one_if (ap (λ (o : Owner). is_inside o a) (owner_given j g) ∙ eqb_same at a (sym e)) in
          ap (λ (xs : List ℕ). occurs xs j) (fields_at a e) ∙ omega arith
      by (inl e) (inr g) (inl s) =
          let k = set_now e in
          let z1 : one_if (held == j) ≡ 1 = ap one_if (eqb_same held j (sym s)) in
          let z2 : one_if (given == j) ≡ 0 = ap one_if (eqb_apart given j (λ x. g (sym x))) in
          let z3 : one_if (is_inside (block_at bs j).owner a) ≡ 1 =
          ap one_if (ap (λ (n : ℕ). is_inside (block_at bs n).owner a) s
          ∙ (ap (λ (o : Owner). is_inside o a) held_is ∙ eqb_same at a (sym e))) in
          let z4 : one_if (is_inside (block_at changes j).owner a) ≡ 0 = ap one_if (ap (λ (o : Owner). is_inside o a) (owner_held j s)) in
          ap (λ (xs : List ℕ). occurs xs j) (fields_at a e) ∙ omega arith
      by (inl e) (inr g) (inr s) =
          let k = set_now e in
          let z1 : one_if (held == j) ≡ 0 = ap one_if (eqb_apart held j (λ x. s (sym x))) in
          let z2 : one_if (given == j) ≡ 0 = ap one_if (eqb_apart given j (λ x. g (sym x))) in
          let z4 : one_if (is_inside (block_at changes j).owner a) ≡ one_if (is_inside (block_at bs j).owner a) =
          ap (λ (o : Owner). one_if (is_inside o a)) (owner_other j g s) in
          ap (λ (xs : List ℕ). occurs xs j) (fields_at a e) ∙ omega arith
      by (inr n) (inl g) s =
          ap (λ (xs : List ℕ). occurs xs j) (fields_other a n) ∙ (was ∙ (ap one_if (given_out g)
          ∙ sym (ap one_if (ap (λ (o : Owner). is_inside o a) (owner_given j g) ∙ eqb_apart at a (λ x. n (sym x))))))
      by (inr n) (inr g) (inl s) =
          ap (λ (xs : List ℕ). occurs xs j) (fields_other a n) ∙ (was
          ∙ (ap one_if (ap (λ (m : ℕ). is_inside (block_at bs m).owner a) s
          ∙ (ap (λ (o : Owner). is_inside o a) held_is ∙ eqb_apart at a (λ x. n (sym x))))
          ∙ sym (ap one_if (ap (λ (o : Owner). is_inside o a) (owner_held j s)))))
      by (inr n) (inr g) (inr s) =
          ap (λ (xs : List ℕ). occurs xs j) (fields_other a n)
          ∙ (was ∙ sym (ap (λ (o : Owner). one_if (is_inside o a)) (owner_other j g s)))

  at_root : (b : ℕ) → is_inside (block_at changes at).owner b ≡ false
  at_root b = ap (λ (o : Owner). is_inside o b) (owner_other at (λ e. apart (sym e)) (λ e. held_not_at (sym e)))
      ∙ process_not_inside (block_at bs at).owner self b owned_at

  put_now : (j b : ℕ) → (block_at changes j).owner ≡ Inside b → (b ≡ at) ⊎ ((block_at bs j).owner ≡ Inside b)
  put_now j b is = ⊎_elim (λ g. inl (inside_same (block_at changes j).owner b at is (owner_given j g)))
      (λ g. ⊎_elim (λ s. absurd (let k : Process self ≡ Inside b = sym (owner_held j s) ∙ is in cc))
      (λ s. inr (sym (owner_other j g s) ∙ is)) (cases_eq j held)) (cases_eq j given)

  -- nothing is freed
  pub freed_now : (a : ℕ) → is_freed_at changes a ≡ is_freed_at bs a
  freed_now a = ⊎_elim
      (λ g. ap is_freed (owner_given a g) ∙ sym (ap (λ (n : ℕ). is_freed_at bs n) g
      ∙ process_not_freed (block_at bs given).owner self owned_given))
      (λ g. ⊎_elim
      (λ s. ap is_freed (owner_held a s) ∙ sym (ap (λ (n : ℕ). is_freed_at bs n) s ∙ ap is_freed held_is))
      (λ s. ap is_freed (owner_other a g s)) (cases_eq a held)) (cases_eq a given)

  alive_now : (j a : ℕ) → is_inside (block_at changes j).owner a ≡ true → is_freed_at changes a ≡ false
  alive_now j a e = freed_now a ∙ ⊎_elim
      (λ s. ap (λ (n : ℕ). is_freed_at bs n) s ∙ process_not_freed (block_at bs at).owner self owned_at)
      (λ was. h.alive j a (ap (λ (o : Owner). is_inside o a) was ∙ is_inside_same a))
      (put_now j a (is_inside_is (block_at changes j).owner a e))

  -- fields still hold what is inside their block
  pub exchange_held : FieldsHold changes
  exchange_held = record {
    holds_are = holds_now;
    rooted = λ x. rooted_put bs changes at at_root put_now x (h.rooted x);
    alive = alive_now;
  }
