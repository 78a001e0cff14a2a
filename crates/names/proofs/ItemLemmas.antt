-- Items and their members, index by index.
use Rattle.std.proofs.Common.{◌≡◌, ℕ, zero, suc, ◌<◌, List, [], ◌∷◌, length, get_or, sym, refl, subst, arith}
use Rattle.tree.specs.Trees.{ItemTree}
use Rattle.declarations.specs.Scopes.{AllMembers, AreMembers}
use Rattle.declarations.specs.declared.members.Members.{Members}

-- the item at index i, which has these members
pub record Placed (text : List ℕ) (items : List ItemTree) (i : ℕ) (m : Members) : Type 0 where
  pub item : ItemTree
  pub within : i < length items
  pub is : item ≡ get_or items i item
  pub members : AreMembers text item.definition m

pub placed : (text : List ℕ) (items : List ItemTree) (ms : List Members) (i : ℕ) (m : Members) → AllMembers text items ms → i < length ms → m ≡ get_or ms i m → Placed text items i m
placed text [] [] i m all lt is = absurd (omega (arith, lt))
placed text [] (n ∷ ms) i m all lt is = absurd all
placed text (j ∷ items) [] i m all lt is = absurd all
placed text (j ∷ items) (n ∷ ms) zero m all lt is = record { item = j; within = omega arith; is = refl; members = subst (AreMembers text j.definition) (sym is) all.0 }
placed text (j ∷ items) (n ∷ ms) (suc i) m all lt is =
    let rest = placed text items ms i m all.1 (omega (arith, lt)) is in
    record { item = rest.item; within = let less = rest.within in omega (arith, less); is = rest.is; members = rest.members }

pub as_many : (text : List ℕ) (items : List ItemTree) (ms : List Members) → AllMembers text items ms → length items ≡ length ms
as_many text [] [] all = refl
as_many text [] (n ∷ ms) all = absurd all
as_many text (j ∷ items) [] all = absurd all
as_many text (j ∷ items) (n ∷ ms) all = let rest = as_many text items ms all.1 in omega (arith, rest)
