-- Sequences of factors: where they fail, and the sums that are read.
use Rattle.std.proofs.Common.{◌≡◌, true, false, List, [], ◌∷◌, ◌++◌, Option, Some, sym, refl, ap, ◌∙◌, subst}
use Rattle.std.specs.List.{flat_map}
use Rattle.std.proofs.Math.Bool.{or_assoc}
use Rattle.std.proofs.lemmas.Bool.{true≢false}
use Rattle.source.specs.declared.kind.Kind.{Kind}
use Rattle.source.specs.declared.kind.Kind.TheVariants as kind
use Rattle.tree.specs.Symbols.{Symbol, by_kind, kind_at}
use Rattle.syntax.specs.Reading.{never, leads, Fails, Takes}
use Rattle.tree.specs.Operators.{Add, Multiply, Single, Joined}
use Rattle.tree.specs.Expressions.{LevelTree, level}
use Rattle.tree.specs.Factors.{FactorTree, factor_operator, factor, sum_of_factors}
use Rattle.tree.specs.declared.expression.FactorOperator.{FactorOperator}
use Rattle.syntax.specs.OperatorReads.{joins, joins_factors, opens_rest}
use Rattle.syntax.specs.ExpressionReads.{level_on, level_at, factor_at, factors_end}
use Rattle.syntax.proofs.pieces.Pieces.{wide_fails, stops_with}
use Rattle.syntax.proofs.pieces.Repeats.{more_fail, more_reads}
use Rattle.syntax.proofs.pieces.Chains.{Joins, chain, chain_on, chain_at, chain_links_fail, chain_reads, operator_fails, part_fails, link_fails, link_piece, link_starts, link_splits, link_leaves}
use Rattle.syntax.proofs.pieces.KindLemmas.{test_stops}
use Rattle.syntax.proofs.OperatorRules.{factor_operator_piece, factor_operator_starts}
use Rattle.syntax.proofs.LevelRules.{level_wide}
use Rattle.syntax.proofs.ExpressionFails.{level_piece}
use Rattle.syntax.proofs.FactorTrees.{gathered_spelled, gathered_ends, spread, spread_spelled}

-- a unary does not continue with an operator that joins factors
factor_apart : (k : Option Kind) → joins_factors k ≡ true → opens_rest k ≡ false
factor_apart (Some kind.Star) h = refl
factor_apart (Some kind.Plus) h = refl
factor_apart (Some kind.Minus) h = refl
factor_apart k h = absurd (true≢false (sym h))

factor_joins : Joins (level {l = Single}) factor_operator (level_on Single) level_at (by_kind joins_factors)
factor_joins = record { operator = factor_operator_piece; begin = factor_operator_starts; apart = λ y h. factor_apart (kind_at (y ∷ [])) h; wide = level_wide }

-- every symbol that continues a sequence of factors continues a sum
sequence_wide : (y : Symbol) → level_on (Joined Add) y ≡ false → chain_on (level_on Single) (by_kind joins_factors) y ≡ false
sequence_wide y h = sym (or_assoc (level_on Single y) (by_kind (joins Multiply) y) (by_kind (joins Add) y)) ∙ h

wide_sequence : (y : Symbol) → chain_on (level_on Single) (by_kind joins_factors) y ≡ false → level_on (Joined Add) y ≡ false
wide_sequence y h = or_assoc (level_on Single y) (by_kind (joins Multiply) y) (by_kind (joins Add) y) ∙ h

sequence_fails : {old new : List Symbol} → Fails (chain (level {l = Single}) factor_operator) (chain_on (level_on Single) (by_kind joins_factors)) old new → Fails (level {l = Joined Add}) (level_on (Joined Add)) old new
sequence_fails {old} {new} h = record {
  front = h.front;
  next = h.next;
  rest = h.rest;
  old_is = h.old_is;
  new_is = h.new_is;
  piece = sum_of_factors h.piece.0 h.piece.1;
  more = h.more;
  begins = gathered_spelled h.piece.0 h.piece.1 ∙ h.begins;
  rejects = λ z r s hr e.
      h.rejects (spread z) r s (stops_with (level_on (Joined Add)) (chain_on (level_on Single) (by_kind joins_factors)) sequence_wide r hr) (ap (λ t. t ++ r) (spread_spelled z) ∙ e);
}

-- a factor fails if its operator fails, or the unary after it; factors fail if one more does

pub factor_mark_fails : {old new : List Symbol} → Fails factor_operator never old new → Fails factor (level_on Single) old new
factor_mark_fails {old} {new} h = operator_fails factor_joins (level_piece Single) h

pub factor_unary_fails : {old mid new : List Symbol} (o : FactorOperator) → Takes factor_operator (λ _. never) old mid o → Fails (level {l = Single}) (level_on Single) mid new → Fails factor (level_on Single) old new
factor_unary_fails {old} {mid} {new} o read h = part_fails factor_joins (level_piece Single) o read h

further_fails : {old mid new : List Symbol} (fs : List FactorTree) → old ≡ flat_map factor fs ++ mid → leads (by_kind joins_factors) mid ≡ true → Fails factor (level_on Single) mid new → Fails (flat_map factor) (chain_on (level_on Single) (by_kind joins_factors)) old new
further_fails {old} {mid} {new} fs read more h = link_fails factor_joins (level_piece Single) fs read more h

pub factor_fails : {old mid new : List Symbol} (fs : List FactorTree) → old ≡ flat_map factor fs ++ mid → leads (by_kind joins_factors) mid ≡ true → Fails factor (level_on Single) mid new → Fails (flat_map factor) (level_on (Joined Add)) old new
factor_fails {old} {mid} {new} fs read more h = wide_fails sequence_wide (further_fails fs read more h)

-- a sum fails if its second factor fails, or the factors after that

pub second_fails : {old mid new : List Symbol} (u : LevelTree Single) → Takes level level_at old mid u → leads (by_kind joins_factors) mid ≡ true → Fails factor (level_on Single) mid new → Fails (level {l = Joined Add}) (level_on (Joined Add)) old new
second_fails {old} {mid} {new} u read more h = sequence_fails (chain_links_fail factor_joins (level_piece Single) u read (further_fails [] refl more h))

pub other_factors_fail : {old mid last new : List Symbol} (u : LevelTree Single) (f : FactorTree) → Takes level level_at old mid u → Takes factor factor_at mid last f → Fails (flat_map factor) (level_on (Joined Add)) last new → Fails (level {l = Joined Add}) (level_on (Joined Add)) old new
other_factors_fail {old} {mid} {last} {new} u f read second h =
    let piece = link_piece factor_joins (level_piece Single) in
    let behind = more_fail piece (link_starts factor_joins) (link_splits factor_joins) (link_leaves factor_joins) f second (wide_fails wide_sequence h) in
    sequence_fails (chain_links_fail factor_joins (level_piece Single) u read behind)

-- a sequence of factors is read as a sum, and so is a unary that no such operator follows

sequence_is_read : (old mid new : List Symbol) (u : LevelTree Single) (fs : List FactorTree) (z : LevelTree (Joined Add)) → z ≡ sum_of_factors u fs → Takes level level_at old mid u → Takes (flat_map factor) factors_end mid new fs → Takes level level_at old new z
sequence_is_read old mid new u fs z is first others =
    let read : Takes (chain (level {l = Single}) factor_operator) (chain_at level_at (by_kind joins_factors)) old new (u, fs) = chain_reads factor_joins old mid new u fs first others in
    let stops = stops_with (chain_at level_at (by_kind joins_factors) (u, fs)) (level_at (sum_of_factors u fs)) (λ y h. gathered_ends u fs y ∙ h) new read.1 in
    subst (Takes level level_at old new) (sym is) (read.0 ∙ ap (λ t. t ++ new) (sym (gathered_spelled u fs)), stops)

pub factors_are_read : (old mid last new : List Symbol) (u : LevelTree Single) (f : FactorTree) (fs : List FactorTree) (z : LevelTree (Joined Add)) → z ≡ sum_of_factors u (f ∷ fs) → Takes level level_at old mid u → Takes factor factor_at mid last f → Takes (flat_map factor) factors_end last new fs → Takes level level_at old new z
factors_are_read old mid last new u f fs z is first second others = sequence_is_read old mid new u (f ∷ fs) z is first (more_reads factor (by_kind joins_factors) factor_at mid last new f fs second others)

pub unary_is_sum : (old new : List Symbol) (u : LevelTree Single) (z : LevelTree (Joined Add)) → z ≡ sum_of_factors u [] → Takes level level_at old new u → joins_factors (kind_at new) ≡ false → Takes level level_at old new z
unary_is_sum old new u z is read ends = sequence_is_read old new new u [] z is read (refl, test_stops joins_factors new refl ends)
