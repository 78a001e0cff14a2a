-- What a sequence of factors reads.
use Rattle.std.proofs.Common.{◌≡◌, ℕ, ◌+◌, ◌<◌, ◌≤◌, List, [], ◌∷◌, ◌++◌, length, map, take, get_or, sym, ap, ◌∙◌, append_assoc, append-nil}
use Rattle.std.specs.List.{flat_map}
use Rattle.std.proofs.lemmas.Grind.{flat_map-append}
use Rattle.std.proofs.lemmas.List.{take_more, take_all, map-append}
use Rattle.tree.specs.Operators.{Add, Single, Joined}
use Rattle.tree.specs.Expressions.{LevelTree, Chain}
use Rattle.tree.specs.Factors.{FactorTree, sum_of_factors, before_sum}
use Rattle.tree.specs.ExpressionTrees.{factor_tree}
use Rattle.tree.specs.declared.expression.Factor.{Factor}
use Rattle.tree.specs.declared.expression.FactorOperator.{FactorOperator}
use Rattle.tree.specs.declared.expression.FactorOperator.TheVariants as operators
use Rattle.program.specs.declared.statement.Mention.{Mention}
use Rattle.resolving.specs.Locals.{Local, LocalFrame}
use Rattle.resolving.specs.Reads.{reads, step_reads}
use Rattle.resolving.specs.Steps.{AddsReads}
use Rattle.resolving.specs.declared.locals.Locals.{Locals}

-- what these factors read, in order
abbrev pub factor_reads : List ℕ → List Local → List FactorTree → List Mention
factor_reads text ls fs = flat_map (λ (f : FactorTree). reads text ls f.1) fs

-- Whatever the operator, a unary before a sum is read before the sum.
before_reads : (text : List ℕ) (ls : List Local) (u : LevelTree Single) (o : FactorOperator) (s : LevelTree (Joined Add)) → reads text ls (before_sum u o s) ≡ reads text ls u ++ reads text ls s
before_reads text ls u operators.Times (Chain _ (Chain _ first others) steps) = append_assoc (reads text ls u) (reads text ls first ++ step_reads text ls others) (step_reads text ls steps)
before_reads text ls u (operators.Sum o) (Chain _ first others) = ap (λ m. m ++ (reads text ls first ++ step_reads text ls others)) (append-nil (reads text ls u))

gathered_reads : (text : List ℕ) (ls : List Local) (u : LevelTree Single) (fs : List FactorTree) → reads text ls (sum_of_factors u fs) ≡ reads text ls u ++ factor_reads text ls fs
gathered_reads text ls u [] = append-nil (reads text ls u ++ [])
gathered_reads text ls u (f ∷ fs) = before_reads text ls u f.0 (sum_of_factors f.1 fs) ∙ ap (λ m. reads text ls u ++ m) (gathered_reads text ls f.1 fs)

-- what the first two parts and the next i factors of a sequence read
abbrev pub sequence_reads : List ℕ → LevelTree Single → FactorTree → List Factor → ℕ → LocalFrame → List Mention
sequence_reads text first second xs i g = reads text g.locals first ++ factor_reads text g.locals (second ∷ map factor_tree (take i xs))

-- one more factor
factors_more : (text : List ℕ) (ls : List Local) (f : FactorTree) (xs : List Factor) (i : ℕ) (x : Factor) → i < length xs → x ≡ get_or xs i x
    → factor_reads text ls (f ∷ map factor_tree (take (i + 1) xs)) ≡ factor_reads text ls (f ∷ map factor_tree (take i xs)) ++ reads text ls (factor_tree x).1
factors_more text ls f xs i x lt is =
    let done = f ∷ map factor_tree (take i xs) in
    ap (λ ys. factor_reads text ls (f ∷ map factor_tree ys)) (take_more xs i x lt ∙ ap (λ y. take i xs ++ y ∷ []) (sym is))
    ∙ ap (λ fs. factor_reads text ls (f ∷ fs)) (map-append factor_tree (take i xs) (x ∷ []))
    ∙ flat_map-append (λ (g : FactorTree). reads text ls g.1) done (factor_tree x ∷ [])
    ∙ ap (λ m. factor_reads text ls done ++ m) (append-nil (reads text ls (factor_tree x).1))

-- before the loop, a sequence has read its first two parts
pub sequence_first : (text : List ℕ) (first second : LevelTree Single) (f : FactorTree) (xs : List Factor) {locals : Locals} {old mid new : List Mention}
    → f.1 ≡ second → AddsReads text locals (λ g. reads text g.locals first) old mid → AddsReads text locals (λ g. reads text g.locals second) mid new → AddsReads text locals (sequence_reads text first f xs 0) old new
sequence_first text first second f xs {old = old} seen before more = record {
  all = λ g here.
      let ls = g.locals in
      more.all g here
      ∙ ap (λ m. m ++ reads text ls second) (before.all g here)
      ∙ append_assoc old (reads text ls first) (reads text ls second)
      ∙ ap (λ (t : LevelTree Single). old ++ (reads text ls first ++ reads text ls t)) (sym seen)
      ∙ ap (λ m. old ++ (reads text ls first ++ m)) (sym (append-nil (reads text ls f.1)));
}

pub sequence_more : (text : List ℕ) (first part : LevelTree Single) (f : FactorTree) (xs : List Factor) (i : ℕ) (x : Factor) {locals : Locals} {old mid new : List Mention}
    → i < length xs → x ≡ get_or xs i x → (factor_tree x).1 ≡ part → AddsReads text locals (sequence_reads text first f xs i) old mid → AddsReads text locals (λ g. reads text g.locals part) mid new
    → AddsReads text locals (sequence_reads text first f xs (i + 1)) old new
sequence_more text first part f xs i x {old = old} lt is seen before more = record {
  all = λ g here.
      let ls = g.locals in
      let done = factor_reads text ls (f ∷ map factor_tree (take i xs)) in
      more.all g here
      ∙ ap (λ m. m ++ reads text ls part) (before.all g here)
      ∙ append_assoc old (reads text ls first ++ done) (reads text ls part)
      ∙ ap (λ m. old ++ m) (append_assoc (reads text ls first) done (reads text ls part))
      ∙ ap (λ (t : LevelTree Single). old ++ (reads text ls first ++ (done ++ reads text ls t))) (sym seen)
      ∙ ap (λ m. old ++ (reads text ls first ++ m)) (sym (factors_more text ls f xs i x lt is));
}

pub sequence_all : (text : List ℕ) (first : LevelTree Single) (f : FactorTree) (xs ys : List Factor) (i : ℕ) (tree : LevelTree (Joined Add)) {locals : Locals} {old new : List Mention}
    → length xs ≤ i → xs ≡ ys → tree ≡ sum_of_factors first (f ∷ map factor_tree ys) → AddsReads text locals (sequence_reads text first f xs i) old new → AddsReads text locals (λ g. reads text g.locals tree) old new
sequence_all text first f xs ys i tree {old = old} le same seen h = record {
  all = λ g here.
      h.all g here
      ∙ ap (λ zs. old ++ (reads text g.locals first ++ factor_reads text g.locals (f ∷ map factor_tree zs))) (take_all i xs le ∙ same)
      ∙ ap (λ m. old ++ m) (sym (gathered_reads text g.locals first (f ∷ map factor_tree ys)))
      ∙ ap (λ (t : LevelTree (Joined Add)). old ++ reads text g.locals t) (sym seen);
}
