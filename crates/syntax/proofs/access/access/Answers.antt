use Rattle.std.proofs.Common.{◌≡◌, false, refl, sym, ap, ◌∙◌}
use Rattle.tree.specs.Symbols.{is_placed}
use Rattle.tree.specs.Grammar.{access_word}
use Rattle.syntax.specs.Firsts.{access_of}
use Rattle.tree.specs.declared.item.Access.{Access}
use Rattle.tree.specs.declared.item.Access.TheVariants as access
use Rattle.syntax.proofs.pieces.Pieces.{stops_never}
use Rattle.syntax.proofs.pieces.Words.{words_taken}
use Rattle.syntax.proofs.definitions.AccessRules.{accesses}
use Rattle.syntax.proofs.access.access.Goals as goal

pub returns : goal.returns
returns c = (words_taken accesses c.in_ok-access.access _ _ (ap access_of (sym c.peek.ensures.kind) ∙ sym c.access_of.ensures ∙ c.in_ok-access.was) (plain c.in_ok-access.access) c.skip.ensures.fixed, stops_never _)
  where
    plain : (a : Access) → is_placed (access_word a) ≡ false
    plain access.Public = refl
    plain access.Private = refl
    plain access.Internal = refl
