-- Mentions that are given again, point by point.
use Rattle.std.proofs.Common.{◌≡◌, ℕ, zero, suc, ◌+◌, ◌<◌, ◌≤◌, ◌==◌, Bool, true, false, List, [], ◌∷◌, ◌++◌, length, map, take, slice_index_or, slice_get, Option, None, Some, IsSomeAnd, if◌then◌else◌, refl, sym, ap, ◌∙◌, arith}
use Rattle.std.specs.Option.{option_and_then, option_map}
use Rattle.std.proofs.lemmas.Bool.Decides.{nat_tests}
use Rattle.std.proofs.lemmas.List.{length-take-le, take_all, take_more}
use Rattle.std.proofs.lemmas.Option.{slice_get-map}
use Rattle.std.proofs.lemmas.Simd.{map-map}
use Rattle.flow.specs.Graphs.{graph_model, instruction_model}
use Rattle.flow.specs.Lowering.{graph_of}
use Rattle.flow.specs.declared.graph.Graph.{Graph}
use Rattle.flow.specs.declared.graph.Instr.{Instr}
use Rattle.program.specs.Methods.{MethodModel}
use Rattle.program.specs.declared.statement.Mention.{Mention}
use Rattle.rules.specs.Repeats.{again_in, given_again, repeated_in}
use Rattle.rules.specs.declared.repeats.Repeats.{Repeats}
use Rattle.rules.proofs.ProgramLemmas.{at_point}

-- the first `done` instructions were looked at, and `repeats` has what they give again
abbrev pub Kept : Repeats → List Instr → (done : ℕ) → Type 0
Kept repeats instructions done = (q : ℕ) → repeated_in repeats q ≡ option_and_then (λ i. given_again (instruction_model i)) (slice_get (take done instructions) q)

zero_suc : (n : ℕ) → (0 == suc n) ≡ false
zero_suc n = grind (arith, nat_tests)

suc_zero : (n : ℕ) → (suc n == 0) ≡ false
suc_zero n = grind (arith, nat_tests)

pub suc_suc : (a b : ℕ) → (suc a == suc b) ≡ (a == b)
suc_suc a b = grind (arith, nat_tests)

-- an element of a list with one more appended
get_behind : {X : Type 0} (xs : List X) (x : X) (q : ℕ) → slice_get (xs ++ x ∷ []) q ≡ (if length xs == q then Some x else slice_get xs q)
get_behind [] x zero = refl
get_behind [] x (suc q) = ap (λ b. if b then Some x else None) (sym (zero_suc q))
get_behind (y ∷ xs) x zero = ap (λ b. if b then Some x else Some y) (sym (suc_zero (length xs)))
get_behind (y ∷ xs) x (suc q) = get_behind xs x q ∙ ap (λ b. if b then Some x else slice_get xs q) (sym (suc_suc (length xs) q))

get_more : {X : Type 0} (xs : List X) (done : ℕ) (d : X) (q : ℕ) → done < length xs → slice_get (take (done + 1) xs) q ≡ (if done == q then Some (slice_index_or xs done d) else slice_get (take done xs) q)
get_more xs done d q lt =
    let size = length-take-le done xs (omega (arith, lt)) in
    ap (λ l. slice_get l q) (take_more xs done d lt) ∙ get_behind (take done xs) (slice_index_or xs done d) q
    ∙ ap (λ n. if n == q then Some (slice_index_or xs done d) else slice_get (take done xs) q) size

choose : {X Y : Type 0} (f : X → Option Y) (b : Bool) (x : X) (o : Option X) → option_and_then f (if b then Some x else o) ≡ (if b then f x else option_and_then f o)
choose f true x o = refl
choose f false x o = refl

-- one more instruction was looked at
pub kept_more : (repeats more : Repeats) (instructions : List Instr) (done : ℕ) (d : Instr) (again : Option Mention) → done < length instructions → again ≡ given_again (instruction_model (slice_index_or instructions done d))
    → ((q : ℕ) → repeated_in more q ≡ (if done == q then again else repeated_in repeats q)) → Kept repeats instructions done → Kept more instructions (done + 1)
kept_more repeats more instructions done d again lt is new h = λ q.
    let told = λ (i : Instr). given_again (instruction_model i) in
    let x = slice_index_or instructions done d in
    let before = option_and_then told (slice_get (take done instructions) q) in
    new q ∙ ap (λ o. if done == q then again else o) (h q) ∙ ap (λ a. if done == q then a else before) is
    ∙ sym (choose told (done == q) x (slice_get (take done instructions) q)) ∙ ap (option_and_then told) (sym (get_more instructions done d q lt))

seen : {X Y Z : Type 0} (f : Y → Option Z) (g : X → Y) (o : Option X) → option_and_then (λ x. f (g x)) o ≡ option_and_then f (option_map g o)
seen f g None = refl
seen f g (Some x) = refl

-- all were looked at
pub kept_all : (repeats : Repeats) (graph : Graph) (done : ℕ) → length graph.instructions.items ≤ done → Kept repeats graph.instructions.items done → repeated_in repeats ≡ again_in (graph_model graph)
kept_all repeats graph done le h = λ j q. at q j
  where
    at : (q : ℕ) → repeated_in repeats q ≡ again_in (graph_model graph) q
    at q =
        h q ∙ ap (λ l. option_and_then (λ i. given_again (instruction_model i)) (slice_get l q)) (take_all done graph.instructions.items le)
        ∙ seen given_again instruction_model (slice_get graph.instructions.items q)
        ∙ ap (option_and_then given_again) (sym (slice_get-map instruction_model graph.instructions.items q))

-- the repeats of methods are those of their graphs
pub told_of : (repeats : List (Repeats)) (graphs : List Graph) (methods : List MethodModel) → map repeated_in repeats ≡ map (λ g. again_in (graph_model g)) graphs → map graph_model graphs ≡ map graph_of methods
    → map repeated_in repeats ≡ map (λ m. again_in (graph_of m)) methods
told_of repeats graphs methods told lowered = told ∙ sym (map-map again_in graph_model graphs) ∙ ap (map again_in) lowered ∙ map-map again_in graph_of methods

-- the repeat at a point is what its instruction gives again
pub told_at : (o : Option MethodModel) (g : Graph) (repeats : Repeats) (point : ℕ) (i : Instr) → IsSomeAnd o (λ m. graph_model g ≡ graph_of m) → IsSomeAnd o (λ m. repeated_in repeats ≡ again_in (graph_of m))
    → slice_get g.instructions.items point ≡ Some i → repeated_in repeats point ≡ given_again (instruction_model i)
told_at None g repeats point i graph told is = absurd graph
told_at (Some m) g repeats point i graph told is = ap (λ f. f point) told ∙ ap (option_and_then given_again) (at_point m g point (Some i) graph is)
