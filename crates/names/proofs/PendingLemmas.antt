-- Findings that are still to be added.
use Rattle.std.proofs.Common.{◌≡◌, ℕ, suc, zero, ◌+◌, ◌<◌, ◌==◌, if◌then◌else◌, List, [], ◌∷◌, ◌++◌, length, map, take, drop, get_or, Option, Some, sym, refl, ap, ◌∙◌, append_assoc, append-nil, arith, add-one, subst}
use Rattle.std.specs.Prelude.{slice_get}
use Rattle.std.proofs.Math.ListN.{get_or-map}
use Rattle.std.proofs.lemmas.List.{length-map, take-map}
use Rattle.source.specs.declared.place.Place.{Place}
use Rattle.declarations.specs.declared.mistake.Mistake.{Mistake}
use Rattle.declarations.specs.declared.mistake.Mistake.TheVariants.{WrongNumber}
use Rattle.tree.specs.Expressions.{ExpressionTree}
use Rattle.tree.specs.Operators.{Joined, Or}
use Rattle.names.specs.Expressions.{InScope}
use Rattle.declarations.specs.Mistakes.{Adds}
use Rattle.names.specs.Shapes.{Shape, shape}
use Rattle.names.specs.Values.{argument_asked, argument_mistakes, number_of_arguments}
use Rattle.declarations.specs.declared.value_type.ValueType.{ValueType}

-- of the mistakes `all` that were to be added, `rest` is still to come
pub record Pends (old new : List Mistake) (all rest : List Mistake) : Type 0 where
  pub is : old ++ all ≡ new ++ rest

pub pends_all : (old : List Mistake) (all : List Mistake) → Pends old old all all
pends_all old all = record { is = refl }

pub pends_less : {old mid new : List Mistake} {all more rest : List Mistake} → Pends old mid all (more ++ rest) → Adds mid new more → Pends old new all rest
pends_less {mid = mid} {more = more} {rest = rest} pends adds =
    record { is = pends.is ∙ sym (append_assoc mid more rest) ∙ ap (λ l. l ++ rest) (sym adds.all) }

pub pends_none : {old new : List Mistake} {all : List Mistake} → Pends old new all [] → Adds old new all
pends_none {new = new} pends = record { all = sym (append-nil new) ∙ sym pends.is }

none_left : (i : ℕ) → drop {A = ValueType} i [] ≡ []
none_left zero = refl
none_left (suc i) = refl

-- an argument, and then those after it
argument_next : (s : InScope) (types : List ValueType) (es : List Shape) (i : ℕ) (e : Shape) → i < length es → argument_mistakes s (drop i types) (drop i es) ≡ argument_asked s (slice_get types i) (get_or es i e) ++ argument_mistakes s (drop (suc i) types) (drop (suc i) es)
argument_next s types [] i e lt = absurd (omega (arith, lt))
argument_next s [] (x ∷ es) zero e lt = refl
argument_next s (k ∷ types) (x ∷ es) zero e lt = refl
argument_next s [] (x ∷ es) (suc i) e lt = ap (λ types. argument_mistakes s types (drop i es)) (sym (none_left i)) ∙ argument_next s [] es i e (omega (arith, lt))
argument_next s (k ∷ types) (x ∷ es) (suc i) e lt = argument_next s types es i e (omega (arith, lt))

-- types past the last argument do not matter
pub types_enough : (s : InScope) (types : List ValueType) (es : List Shape) → argument_mistakes s (take (length es) types) es ≡ argument_mistakes s types es
types_enough s types [] = refl
types_enough s [] (e ∷ es) = refl
types_enough s (k ∷ types) (e ∷ es) = ap (λ l. argument_asked s (Some k) e ++ l) (types_enough s types es)

-- an argument in memory, and then those after it
pub argument_less : {X : Type 0} {old mid new : List Mistake} {all : List Mistake} (tree : X → ExpressionTree) (s : InScope) (types : List ValueType) (xs : List X) (i : ℕ) (x : X) (k : Option ValueType)
    → i < length xs → x ≡ get_or xs i x → k ≡ slice_get types i
    → Pends old mid all (argument_mistakes s (drop i types) (drop i (map shape (map tree xs))))
    → Adds mid new (argument_asked s k (shape (tree x)))
    → Pends old new all (argument_mistakes s (drop (i + 1) types) (drop (i + 1) (map shape (map tree xs))))
argument_less {old = old} {mid = mid} {new = new} {all = all} tree s types xs i x k lt is at pends adds =
    let es : List Shape = map shape (map tree xs) in
    let rest = argument_mistakes s (drop (i + 1) types) (drop (i + 1) es) in
    let here : get_or es i (shape (tree x)) ≡ shape (tree x) = get_or-map shape (map tree xs) i (tree x) ∙ ap shape (get_or-map tree xs i x ∙ ap tree (sym is)) in
    let less : i < length es = omega (arith, lt, length-map (map tree xs) (shape {l = Joined Or}), length-map xs tree) in
    let next = argument_next s types es i (shape (tree x)) less
    ∙ ap (λ n. argument_asked s (slice_get types i) (get_or es i (shape (tree x))) ++ argument_mistakes s (drop n types) (drop n es)) (sym (add-one i))
    ∙ ap (λ e. argument_asked s (slice_get types i) e ++ rest) here ∙ ap (λ o. argument_asked s o (shape (tree x)) ++ rest) (sym at) in
    pends_less (subst (Pends old mid all) next pends) adds

-- the types of as many parameters as there are arguments are enough
pub enough_types : {X Y : Type 0} (tree : X → ExpressionTree) (ty : Y → ValueType) (s : InScope) (params : List Y) (xs : List X) → argument_mistakes s (map ty (take (length xs) params)) (map shape (map tree xs)) ≡ argument_mistakes s (map ty params) (map shape (map tree xs))
enough_types tree ty s params xs =
    let es : List Shape = map shape (map tree xs) in
    let size : length es ≡ length xs = length-map (map tree xs) (shape {l = Joined Or}) ∙ length-map xs tree in
    ap (λ types. argument_mistakes s types es) (sym (take-map ty (length xs) params) ∙ ap (λ n. take n (map ty params)) (sym size)) ∙ types_enough s (map ty params) es

-- the number of arguments is that of the expressions in memory
pub numbered : {X Y : Type 0} {old new : List Mistake} (tree : X → ExpressionTree) (params : List Y) (n : ℕ) (xs : List X) (place : Place) → n ≡ length params → Adds old new (if n == length xs then [] else WrongNumber place n (length xs) ∷ []) → Adds old new (number_of_arguments params (map (shape {l = Joined Or}) (map tree xs)) place)
numbered {old = old} {new = new} tree params n xs place is adds =
    let size = length-map (map tree xs) (shape {l = Joined Or}) ∙ length-map xs tree in
    subst (λ k. Adds old new (if length params == k then [] else WrongNumber place (length params) k ∷ [])) (sym size)
    (subst (λ k. Adds old new (if k == length xs then [] else WrongNumber place k (length xs) ∷ [])) is adds)
