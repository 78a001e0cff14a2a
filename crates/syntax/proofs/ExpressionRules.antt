-- Expressions as parts of the grammar: each is read in one way.
use Rattle.std.proofs.Common.{refl}
use Rattle.std.specs.List.{flat_map}
use Rattle.source.specs.declared.kind.Kind.TheVariants as kind
use Rattle.tree.specs.Symbols.{by_kind}
use Rattle.tree.specs.Operators.{Operators, Level, Single, below}
use Rattle.syntax.specs.OperatorReads.{joins}
use Rattle.tree.specs.Expressions.{LevelTree, StepTrees, AtomTree, TargetTree, Unary, Chain, Done, More, Number, True, False, Target, Parens, Variable, Field, Element, level, atom, target, step}
use Rattle.syntax.specs.ExpressionReads.{level_on, level_at, steps_end, target_on, target_at, atom_at}
use Rattle.syntax.proofs.pieces.Pieces.{ReadsOneWay, both_way, via_way, same_way, wide_way, ends, meets}
use Rattle.syntax.proofs.pieces.Beginnings.{splits_self}
use Rattle.syntax.proofs.pieces.Options.{none_way, some_way}
use Rattle.syntax.proofs.pieces.Choices.{form_way}
use Rattle.syntax.proofs.pieces.Enclosed.{parens_way, brackets_way}
use Rattle.syntax.proofs.pieces.Chains.{chain_on, chain_way, no_links_way, more_links_way}
use Rattle.syntax.proofs.pieces.CursorLemmas.{placed_piece, named_piece}
use Rattle.syntax.proofs.LevelRules.{on_split, level_joins, step_list, chain_to, chain_from, chain_back, chain_spelled, chain_stops}
use Rattle.syntax.proofs.AtomRules.{in_parens, in_brackets, dot_piece, dotted_form, indexed_form, rest_starts, target_to, target_from, target_back, target_spelled, target_stops, number_form, true_form, false_form, target_form, parens_form, prefixes_piece, unary_to, unary_from, unary_back, unary_spelled, unary_stops, prefixes_follow, prefixes_meet}

mutual
  pub level_way : {l : Level} (x : LevelTree l) → ReadsOneWay (level {l = l}) (level_on l) level_at x
  level_way (Unary prefixes a) = same_way unary_spelled unary_stops (via_way unary_to unary_from unary_back (both_way (prefixes_piece.each prefixes) (atom_way a) prefixes_follow prefixes_meet))
  level_way (Chain l first others) = wide_way (on_split l) (same_way (chain_spelled l) (chain_stops l) (via_way chain_to (chain_from l) (chain_back l) (chain_way (level_joins l) (level_way first) (steps_way others))))

  pub steps_way : {l : Operators} (xs : StepTrees l) → ReadsOneWay (flat_map (step l)) (chain_on (level_on (below l)) (by_kind (joins l))) (steps_end l) (step_list xs)
  steps_way (Done l) = no_links_way (level_joins l)
  steps_way (More l o x xs) = more_links_way (level_joins l) (level_way x) (steps_way xs)

  pub atom_way : (a : AtomTree) → ReadsOneWay atom (level_on Single) atom_at a
  atom_way (Number span) = form_way number_form (λ _ r h. h) (wide_way (λ y h. refl) ((placed_piece kind.Number).each span))
  atom_way (True span) = form_way true_form (λ _ r h. h) (wide_way (λ y h. refl) ((placed_piece kind.True).each span))
  atom_way (False span) = form_way false_form (λ _ r h. h) (wide_way (λ y h. refl) ((placed_piece kind.False).each span))
  atom_way (Target t) = form_way target_form (λ _ r h. h) (target_way t)
  atom_way (Parens left inner) = form_way parens_form (λ _ r h. h) (wide_way (λ y h. refl) (parens_way in_parens {x = inner} {span = left} (level_way inner)))

  pub target_way : (t : TargetTree) → ReadsOneWay target target_on target_at t
  target_way (Variable variable) = same_way target_spelled target_stops (via_way target_to target_from target_back (both_way (named_piece.each variable) (none_way rest_starts splits_self) ends meets))
  target_way (Field variable field) = same_way target_spelled target_stops (via_way target_to target_from target_back (both_way (named_piece.each variable) (some_way rest_starts splits_self (form_way dotted_form (λ _ r h. h) (dot_piece.each field))) ends meets))
  target_way (Element variable e) = same_way target_spelled target_stops (via_way target_to target_from target_back (both_way (named_piece.each variable) (some_way rest_starts splits_self (form_way indexed_form (λ _ r h. h) (brackets_way in_brackets (level_way e)))) ends meets))
