-- Statements and parameters, one after another.
use Rattle.std.proofs.Common.{◌≡◌, ℕ, ◌+◌, ◌<◌, ◌≤◌, List, [], ◌∷◌, ◌++◌, length, map, take, get_or, sym, refl, ap, ◌∙◌, subst}
use Rattle.std.proofs.lemmas.List.{take_more, take_all, map-append}
use Rattle.tree.specs.StatementTrees as trees
use Rattle.tree.specs.StatementTrees.{StatementTree}
use Rattle.tree.specs.declared.class as made
use Rattle.declarations.specs.Program.{ProgramText}
use Rattle.program.specs.Statements as seen
use Rattle.program.specs.Statements.{StatementModel}
use Rattle.resolving.specs.Frames.{IsLocalFrame}
use Rattle.resolving.specs.Locals.{LocalFrame, with_declaration}
use Rattle.resolving.specs.Methods.{parameter_declaration, parameters_frame}
use Rattle.resolving.specs.Steps.{IsResolvedPiece, pieces_in_order}
use Rattle.resolving.specs.Told.{ResolvedPiece, follow, map_piece, statement_told, statements_told}
use Rattle.resolving.specs.Staying.{Staying}
use Rattle.resolving.specs.declared.locals.Locals.{Locals}

walked_push : {T X : Type 0} (go : T → LocalFrame → ResolvedPiece X) (ts : List T) (t : T) (f : LocalFrame) → pieces_in_order go (ts ++ t ∷ []) f ≡ follow (λ xs x. xs ++ x ∷ []) (pieces_in_order go ts f) (go t)
walked_push go [] t f = refl
walked_push go (u ∷ ts) t f = ap (map_piece (λ xs. (go u f).what ∷ xs)) (walked_push go ts t (go u f).frame)

walked_map : {S T X : Type 0} (go : T → LocalFrame → ResolvedPiece X) (tree : S → T) (ss : List S) (f : LocalFrame) → pieces_in_order (λ s. go (tree s)) ss f ≡ pieces_in_order go (map tree ss) f
walked_map go tree [] f = refl
walked_map go tree (s ∷ ss) f = ap (map_piece (λ xs. (go (tree s) f).what ∷ xs)) (walked_map go tree ss (go (tree s) f).frame)

-- one more piece
pub walks_more : {S T X : Type 0} (text : List ℕ) (go : S → LocalFrame → ResolvedPiece X) (seen : T → X) (ss : List S) (i : ℕ) (s : S) (f : LocalFrame) (t : T) (done : List T) (l m : Locals) → i < length ss → s ≡ get_or ss i s
    → IsResolvedPiece text (pieces_in_order go (take i ss) f) (map seen done) l → ((g : LocalFrame) → IsLocalFrame text g l → IsResolvedPiece text (go s g) (seen t) m) → IsResolvedPiece text (pieces_in_order go (take (i + 1) ss) f) (map seen (done ++ t ∷ [])) m
walks_more text go seen ss i s f t done l m lt is before more =
    let taken = take_more ss i s lt ∙ ap (λ y. take i ss ++ y ∷ []) (sym is) in
    let here = more (pieces_in_order go (take i ss) f).frame before.frame in
    subst (λ b. IsResolvedPiece text b (map seen (done ++ t ∷ [])) m) (sym (ap (λ ys. pieces_in_order go ys f) taken ∙ walked_push go (take i ss) s f)) (record {
      is = map-append seen done (t ∷ []) ∙ ap (λ xs. xs ++ seen t ∷ []) before.is ∙ ap (λ x. (pieces_in_order go (take i ss) f).what ++ x ∷ []) here.is;
      frame = here.frame;
    })

-- all of them, as trees
pub walks_all : {S T X : Type 0} (text : List ℕ) (go : T → LocalFrame → ResolvedPiece X) (tree : S → T) (ss : List S) (i : ℕ) (f : LocalFrame) (done : List X) (l : Locals) → length ss ≤ i
    → IsResolvedPiece text (pieces_in_order (λ s. go (tree s)) (take i ss) f) done l → IsResolvedPiece text (pieces_in_order go (map tree ss) f) done l
walks_all text go tree ss i f done l le h = subst (λ t. IsResolvedPiece text t done l) (ap (λ ys. pieces_in_order (λ s. go (tree s)) ys f) (take_all i ss le) ∙ walked_map go tree ss f) h

sequence_walked : (p : ProgramText) (class : ℕ) (stays : Staying) (xs : List StatementTree) (f : LocalFrame) → map_piece seen.statement_sequence (pieces_in_order (statement_told p class stays) xs f) ≡ statements_told p class stays (trees.statement_sequence xs) f
sequence_walked p class stays [] f = refl
sequence_walked p class stays (x ∷ xs) f = ap (map_piece (seen.MoreStatements (statement_told p class stays x f).what)) (sequence_walked p class stays xs (statement_told p class stays x f).frame)

-- statements as a sequence
pub sequence_told : (p : ProgramText) (class : ℕ) (stays : Staying) (xs : List StatementTree) (f : LocalFrame) (done : List StatementModel) (l : Locals) → IsResolvedPiece p.text (pieces_in_order (statement_told p class stays) xs f) done l → IsResolvedPiece p.text (statements_told p class stays (trees.statement_sequence xs) f) (seen.statement_sequence done) l
sequence_told p class stays xs f done l h = subst (λ t. IsResolvedPiece p.text t (seen.statement_sequence done) l) (sequence_walked p class stays xs f) (record { is = ap seen.statement_sequence h.is; frame = h.frame })

parameters_push : (p : ProgramText) (params : List made.Parameter.Parameter) (x : made.Parameter.Parameter) (f : LocalFrame) → parameters_frame p (params ++ x ∷ []) f ≡ with_declaration p.text (parameter_declaration p x) (parameters_frame p params f)
parameters_push p [] x f = refl
parameters_push p (y ∷ params) x f = parameters_push p params x (with_declaration p.text (parameter_declaration p y) f)

-- one more parameter
pub parameters_more : (p : ProgramText) (params : List made.Parameter.Parameter) (i : ℕ) (d : made.Parameter.Parameter) (f : LocalFrame) → i < length params
    → parameters_frame p (take (i + 1) params) f ≡ with_declaration p.text (parameter_declaration p (get_or params i d)) (parameters_frame p (take i params) f)
parameters_more p params i d f lt = ap (λ l. parameters_frame p l f) (take_more params i d lt) ∙ parameters_push p (take i params) (get_or params i d) f
