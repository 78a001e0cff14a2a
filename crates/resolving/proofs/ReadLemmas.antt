-- What the parts of an expression read, one after another.
use Rattle.std.proofs.Common.{◌≡◌, ℕ, ◌+◌, ◌<◌, ◌≤◌, List, [], ◌∷◌, ◌++◌, length, map, take, get_or, sym, ap, ◌∙◌, append_assoc, append-nil}
use Rattle.std.proofs.lemmas.List.{take_more, take_all, map-append}
use Rattle.tree.specs.Operators as levels
use Rattle.tree.specs.Operators.{Operators, below}
use Rattle.tree.specs.Expressions.{LevelTree, StepOf, Chain}
use Rattle.tree.specs.Factors.{step_sequence}
use Rattle.program.specs.declared.statement.Mention.{Mention}
use Rattle.resolving.specs.Locals.{Local, LocalFrame}
use Rattle.resolving.specs.Reads.{reads, step_reads}
use Rattle.resolving.specs.Steps.{AddsReads}
use Rattle.resolving.specs.declared.locals.Locals.{Locals}

-- one more part of a chain
steps_more : (text : List ℕ) (ls : List Local) (l : Operators) (ps : List (StepOf l)) (p : StepOf l) → step_reads text ls (step_sequence l (ps ++ p ∷ [])) ≡ step_reads text ls (step_sequence l ps) ++ reads text ls p.1
steps_more text ls l [] p = append-nil (reads text ls p.1)
steps_more text ls l (q ∷ ps) p =
    ap (λ xs. reads text ls q.1 ++ xs) (steps_more text ls l ps p)
    ∙ sym (append_assoc (reads text ls q.1) (step_reads text ls (step_sequence l ps)) (reads text ls p.1))

-- what the first part and the first i steps of a chain read
abbrev pub chain_reads : List ℕ → (l : Operators) → {X : Type 0} → (X → StepOf l) → LevelTree (below l) → List X → ℕ → LocalFrame → List Mention
chain_reads text l f first xs i g = reads text g.locals first ++ step_reads text g.locals (step_sequence l (map f (take i xs)))

chain_more : (text : List ℕ) (ls : List Local) (l : Operators) {X : Type 0} (f : X → StepOf l) (xs : List X) (i : ℕ) (x : X) → i < length xs → x ≡ get_or xs i x
    → step_reads text ls (step_sequence l (map f (take (i + 1) xs))) ≡ step_reads text ls (step_sequence l (map f (take i xs))) ++ reads text ls (f x).1
chain_more text ls l f xs i x lt is =
    ap (λ ys. step_reads text ls (step_sequence l (map f ys))) (take_more xs i x lt ∙ ap (λ y. take i xs ++ y ∷ []) (sym is))
    ∙ ap (λ ps. step_reads text ls (step_sequence l ps)) (map-append f (take i xs) (x ∷ []))
    ∙ steps_more text ls l (map f (take i xs)) (f x)

-- before its first step a chain has read its first part
pub reads_first : (text : List ℕ) (l : Operators) {X : Type 0} (f : X → StepOf l) (first : LevelTree (below l)) (xs : List X) {locals : Locals} {old new : List Mention}
    → AddsReads text locals (λ g. reads text g.locals first) old new → AddsReads text locals (chain_reads text l f first xs 0) old new
reads_first text l f first xs {old = old} h = record { all = λ g is. h.all g is ∙ ap (λ m. old ++ m) (sym (append-nil (reads text g.locals first))) }

pub reads_more : (text : List ℕ) (l : Operators) {X : Type 0} (f : X → StepOf l) (first : LevelTree (below l)) (xs : List X) (i : ℕ) (x : X) (part : LevelTree (below l)) {locals : Locals} {old mid new : List Mention}
    → i < length xs → x ≡ get_or xs i x → (f x).1 ≡ part → AddsReads text locals (chain_reads text l f first xs i) old mid → AddsReads text locals (λ g. reads text g.locals part) mid new
    → AddsReads text locals (chain_reads text l f first xs (i + 1)) old new
reads_more text l f first xs i x part {old = old} {new = new} lt is seen before more = record {
  all = λ g here.
      let ls = g.locals in
      let done = step_reads text ls (step_sequence l (map f (take i xs))) in
      more.all g here
      ∙ ap (λ m. m ++ reads text ls part) (before.all g here)
      ∙ append_assoc old (reads text ls first ++ done) (reads text ls part)
      ∙ ap (λ m. old ++ m) (append_assoc (reads text ls first) done (reads text ls part))
      ∙ ap (λ (t : LevelTree (below l)). old ++ (reads text ls first ++ (done ++ reads text ls t))) (sym seen)
      ∙ ap (λ m. old ++ (reads text ls first ++ m)) (sym (chain_more text ls l f xs i x lt is));
}

pub reads_all : (text : List ℕ) (l : Operators) {X : Type 0} (f : X → StepOf l) (first : LevelTree (below l)) (xs ys : List X) (i : ℕ) (tree : LevelTree (levels.Joined l)) {locals : Locals} {old new : List Mention}
    → length xs ≤ i → xs ≡ ys → tree ≡ Chain l first (step_sequence l (map f ys)) → AddsReads text locals (chain_reads text l f first xs i) old new → AddsReads text locals (λ g. reads text g.locals tree) old new
reads_all text l f first xs ys i tree {old = old} le same seen h = record {
  all = λ g is.
      h.all g is
      ∙ ap (λ zs. old ++ (reads text g.locals first ++ step_reads text g.locals (step_sequence l (map f zs)))) (take_all i xs le ∙ same)
      ∙ ap (λ (t : LevelTree (levels.Joined l)). old ++ reads text g.locals t) (sym seen);
}
