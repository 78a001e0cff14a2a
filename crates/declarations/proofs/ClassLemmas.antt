-- The class that a look-up finds, and the index of its item.
use Rattle.std.proofs.Common.{◌≡◌, ℕ, List, Option, Some, None, sym, refl, ap, subst}
use Rattle.std.specs.Prelude.{option_map, option_and_then, slice_get}
use Rattle.tree.specs.Trees.{ItemTree, ClassTree}
use Rattle.declarations.specs.Program.{ProgramText, item_at, as_class}
use Rattle.declarations.specs.Scopes.{AllMembers, AreMethods, IsClass, as_methods}
use Rattle.declarations.specs.declared.members.ClassMethods.{ClassMethods}
use Rattle.declarations.specs.declared.members.Members.{Members}
use Rattle.declarations.proofs.ScopeLemmas.{class_at}

-- what the look-up found, if anything, has number k
abbrev HasNumber : {X : Type 0} → ℕ → Option (ℕ × X) → Type 0
HasNumber k None = Unit {0}
HasNumber k (Some x) = x.0 ≡ k

numbered : {X : Type 0} (k : ℕ) (o : Option X) → HasNumber k (option_map (λ x. (k, x)) o)
numbered k None = tt
numbered k (Some x) = refl

item_numbered : (k : ℕ) (item : Option ItemTree) → HasNumber k (option_and_then (λ i. option_map (λ c. (k, c)) (as_class i.definition)) item)
item_numbered k None = tt
item_numbered k (Some i) = numbered k (as_class i.definition)

-- the look-up found the class of item k, which has the methods m
pub record LookedClass (text : List ℕ) (o : Option (ℕ × ClassTree)) (k : ℕ) (m : ClassMethods) : Type 0 where
  pub class : ClassTree
  pub is : o ≡ Some (k, class)
  pub methods : AreMethods text class m

looked_class : (text : List ℕ) (o : Option (ℕ × ClassTree)) (k : ℕ) (m : ClassMethods) → HasNumber k o → IsClass text o (Some m) → LookedClass text o k m
looked_class text None k m number h = absurd h
looked_class text (Some c) k m number h = record { class = c.1; is = ap (λ n. Some (n, c.1)) number; methods = h }

no_class : (text : List ℕ) (o : Option (ℕ × ClassTree)) → IsClass text o None → o ≡ None
no_class text None h = refl
no_class text (Some c) h = absurd h

-- if there are no methods at an index, the item there is no class
pub class_missing : (p : ProgramText) (ms : List Members) (n : ℕ) → AllMembers p.text p.items ms → None ≡ option_and_then as_methods (slice_get ms n) → item_at as_class p n ≡ None
class_missing p ms n all is =
    no_class p.text (item_at as_class p n)
    (subst (IsClass p.text (item_at as_class p n)) (sym is) (class_at p.text p.items ms n n all))

-- if there are methods at an index, the item there is their class
pub class_here : (p : ProgramText) (ms : List Members) (n : ℕ) (m : ClassMethods) → AllMembers p.text p.items ms → Some m ≡ option_and_then as_methods (slice_get ms n) → LookedClass p.text (item_at as_class p n) n m
class_here p ms n m all is =
    looked_class p.text (item_at as_class p n) n m (item_numbered n (slice_get p.items n))
    (subst (IsClass p.text (item_at as_class p n)) (sym is) (class_at p.text p.items ms n n all))
