-- The path goes down into what the last field of a block held.
use Rattle.std.proofs.Common.{◌≡◌, ◌≢◌, ◌==◌, ℕ, ◌+◌, Bool, true, false, List, [], ◌∷◌, ◌++◌, length, refl, sym, ap}
use Rattle.std.proofs.Common.{◌∙◌, subst, arith, inl, inr, ⊎_elim}
use Rattle.std.proofs.lemmas.Bool.{cases_Bool, cases_eq}
use Rattle.std.specs.Prelude.{◌⊎◌, ◌||◌, ◌&&◌, if◌then◌else◌}
use Rattle.machine.specs.Blocks.{freed_block, goes_with, lies_in}
use Rattle.machine.specs.Freeing.{fields_left}
use Rattle.machine.specs.Heaps.{occurs, of_process, one_if}
use Rattle.machine.specs.World.{Block, block_at, change_each, is_inside, no_block}
use Rattle.machine.specs.declared.worlds.Owner.{Owner}
use Rattle.machine.specs.declared.worlds.Owner.TheVariants.{Inside, Channel}
use Rattle.machine.proofs.ChangeLemmas.{changed_length, changed_same, changed_twice, eqb_apart, eqb_same, true≢false}
use Rattle.machine.proofs.Chains.{goes_down, is_inside_is, is_inside_same}
use Rattle.machine.proofs.WayKept.{Frees, and_false, freed_as, goes_step, lies_same, no_ring, with_parts, x_there}
use Rattle.machine.proofs.HeapLemmas.{changed_all, queue_of_some}
use Rattle.machine.proofs.Holding.{rooted_less, unqueued}

module _ (bs0 : List Block) (a : ℕ) (bs : List Block) (x : ℕ) (h : Frees bs0 a bs x)
    (rest : List ℕ) (inner : ℕ) (fields : (block_at bs x).fields ≡ rest ++ inner ∷ []) where
  abbrev below_x : List Block
  below_x = change_each (fields_left x rest) bs

  left_at : (j : ℕ) → block_at below_x j ≡ fields_left x rest j (block_at bs j)
  left_at j = changed_all (fields_left x rest) bs j (λ past.
      ap (λ (t : Bool). record {
        ty = no_block.ty;
        owner = Channel;
        peer = 0;
        state = 0;
        queue = [];
        fields = if t then rest else [];
      }) (eqb_apart j x (λ e. let k = x_there bs0 a bs x h in omega arith)))

  owner_same : (j : ℕ) → (block_at below_x j).owner ≡ (block_at bs j).owner
  owner_same j = ap (λ (b : Block). b.owner) (left_at j)

  long : length below_x ≡ length bs
  long = changed_length (fields_left x rest) bs

  goes_same : (c j : ℕ) → goes_with below_x c j ≡ goes_with bs c j
  goes_same c j = ap (λ (n : ℕ). lies_in below_x n c j) long ∙ lies_same bs below_x owner_same (length bs) c j

  occurs_last : (xs : List ℕ) (y j : ℕ) → occurs (xs ++ y ∷ []) j ≡ occurs xs j + one_if (y == j)
  occurs_last [] y j = omega arith
  occurs_last (z ∷ xs) y j = let e = occurs_last xs y j in omega arith

  had : (j : ℕ) → occurs (block_at bs x).fields j ≡ occurs rest j + one_if (inner == j)
  had j = ap (λ (xs : List ℕ). occurs xs j) fields ∙ occurs_last rest inner j

  inner_is : (block_at bs inner).owner ≡ Inside x
  inner_is =
      let e = had inner in
      let z : one_if (inner == inner) ≡ 1 = ap one_if (eqb_same inner inner refl) in
      let k = h.holds x inner in
      is_inside_is (block_at bs inner).owner x (queue_of_some (is_inside (block_at bs inner).owner x) _ (omega arith) refl)

  -- the path did not come down through inner before
  not_before : goes_with bs inner x ≡ false
  not_before = ⊎_elim (λ t. absurd (no_ring bs h.rooted inner x inner_is t)) (λ f. f) (cases_Bool (goes_with bs inner x))

  path_now : (j : ℕ) → goes_with below_x j inner ≡ (inner == j) || goes_with bs j x
  path_now j = goes_same j inner ∙ goes_step bs h.rooted j inner x inner_is

  fields_x : (b : ℕ) → b ≡ x → (block_at below_x b).fields ≡ rest
  fields_x b e = ap (λ (y : Block). y.fields) (left_at b) ∙ ap (λ (t : Bool). if t then rest else (block_at bs b).fields) (eqb_same b x e)

  fields_other : (b : ℕ) → b ≢ x → (block_at below_x b).fields ≡ (block_at bs b).fields
  fields_other b n = ap (λ (y : Block). y.fields) (left_at b)
      ∙ ap (λ (t : Bool). if t then rest else (block_at bs b).fields) (eqb_apart b x n)

  or_false : (t : Bool) → false || t ≡ t
  or_false t = refl

  holds_now : (b j : ℕ) → occurs (block_at below_x b).fields j
      + one_if (is_inside (block_at below_x j).owner b && goes_with below_x j inner)
      ≡ one_if (is_inside (block_at below_x j).owner b)
  holds_now b j =
      subst (λ (o : Owner). occurs (block_at below_x b).fields j + one_if (is_inside o b && goes_with below_x j inner)
      ≡ one_if (is_inside o b)) (sym (owner_same j))
      (subst (λ (t : Bool). occurs (block_at below_x b).fields j + one_if (is_inside (block_at bs j).owner b && t)
      ≡ one_if (is_inside (block_at bs j).owner b)) (sym (path_now j)) (by (cases_eq b x) (cases_eq j inner)))
    where
      by : (b ≡ x) ⊎ (b ≡ x → ⊥) → (j ≡ inner) ⊎ (j ≡ inner → ⊥)
          → occurs (block_at below_x b).fields j + one_if (is_inside (block_at bs j).owner b && ((inner == j) || goes_with bs j x))
          ≡ one_if (is_inside (block_at bs j).owner b)
      by (inl e) (inl s) =
          let k = h.holds x inner in
          let w = had inner in
          let z : one_if (inner == inner) ≡ 1 = ap one_if (eqb_same inner inner refl) in
          let in_x : is_inside (block_at bs inner).owner x ≡ true = ap (λ (o : Owner). is_inside o x) inner_is ∙ is_inside_same x in
          let z1 : one_if (is_inside (block_at bs inner).owner x) ≡ 1 = ap one_if in_x in
          let z2 : one_if (is_inside (block_at bs inner).owner x && goes_with bs inner x) ≡ 0 =
          ap one_if (and_false (is_inside (block_at bs inner).owner x) (goes_with bs inner x) (λ t. not_before)) in
          let none : occurs rest inner ≡ 0 = omega arith in
          let f : occurs (block_at below_x b).fields j ≡ 0 =
          ap (λ (xs : List ℕ). occurs xs j) (fields_x b e) ∙ (ap (occurs rest) s ∙ none) in
          let p : is_inside (block_at bs j).owner b && ((inner == j) || goes_with bs j x) ≡ is_inside (block_at bs j).owner b =
          ap (λ (t : Bool). is_inside (block_at bs j).owner b && (t || goes_with bs j x)) (eqb_same inner j (sym s))
          ∙ and_one (is_inside (block_at bs j).owner b) in
          let q = ap one_if p in
          omega arith
        where
          and_one : (t : Bool) → t && true ≡ t
          and_one true = refl
          and_one false = refl
      by (inl e) (inr s) =
          let k = h.holds b j in
          let w : occurs (block_at bs b).fields j ≡ occurs rest j + one_if (inner == j) =
          ap (λ (n : ℕ). occurs (block_at bs n).fields j) e ∙ had j in
          let apart = eqb_apart inner j (λ z. s (sym z)) in
          let z : one_if (inner == j) ≡ 0 = ap one_if apart in
          let f : occurs (block_at below_x b).fields j ≡ occurs rest j = ap (λ (xs : List ℕ). occurs xs j) (fields_x b e) in
          let p = ap (λ (t : Bool). one_if (is_inside (block_at bs j).owner b && (t || goes_with bs j x))) apart in
          omega arith
      by (inr n) (inl s) =
          let out : is_inside (block_at bs j).owner b ≡ false =
          ap (λ (m : ℕ). is_inside (block_at bs m).owner b) s
          ∙ (ap (λ (o : Owner). is_inside o b) inner_is ∙ eqb_apart x b (λ z. n (sym z))) in
          let k = h.holds b j in
          let z1 : one_if (is_inside (block_at bs j).owner b) ≡ 0 = ap one_if out in
          let f : occurs (block_at below_x b).fields j ≡ occurs (block_at bs b).fields j =
          ap (λ (xs : List ℕ). occurs xs j) (fields_other b n) in
          let p : one_if (is_inside (block_at bs j).owner b && ((inner == j) || goes_with bs j x)) ≡ 0 =
          ap (λ (t : Bool). one_if (t && ((inner == j) || goes_with bs j x))) out in
          omega arith
      by (inr n) (inr s) =
          let k = h.holds b j in
          let apart = eqb_apart inner j (λ z. s (sym z)) in
          let f : occurs (block_at below_x b).fields j ≡ occurs (block_at bs b).fields j =
          ap (λ (xs : List ℕ). occurs xs j) (fields_other b n) in
          let p = ap (λ (t : Bool). one_if (is_inside (block_at bs j).owner b && (t || goes_with bs j x))) apart in
          omega arith

  freed_same : change_each (freed_block (goes_with below_x a)) below_x ≡ change_each (freed_block (goes_with bs a)) bs
  freed_same =
      ap (λ (goes : ℕ → Bool). change_each (freed_block goes) below_x) (λ i j. goes_same a j i)
      ∙ (changed_twice (fields_left x rest) (freed_block (goes_with bs a)) bs
      ∙ changed_same (λ j b. freed_block (goes_with bs a) j (fields_left x rest j b)) (freed_block (goes_with bs a))
      (λ j b. by j b (goes_with bs a j) refl) bs)
    where
      by : (j : ℕ) (b : Block) (t : Bool) → goes_with bs a j ≡ t
          → freed_as (goes_with bs a) t (fields_left x rest j b) ≡ freed_as (goes_with bs a) t b
      by j b true e = refl
      by j b false e = ap (λ (s : Bool). with_parts b (unqueued (goes_with bs a) b.owner) b.queue (if s then rest else b.fields))
          (eqb_apart j x (λ s. true≢false h.goes (ap (goes_with bs a) (sym s) ∙ e)))

  pub goes_down_into : Frees bs0 a below_x inner
  goes_down_into = record {
    goes = goes_same a inner ∙ goes_down bs h.rooted a inner x inner_is h.goes;
    owned = ap of_process (owner_same a) ∙ h.owned;
    holds = holds_now;
    rooted = λ j. rooted_less bs below_x (λ i b is. sym (owner_same i) ∙ is) j (h.rooted j);
    ends = freed_same ∙ h.ends;
  }
