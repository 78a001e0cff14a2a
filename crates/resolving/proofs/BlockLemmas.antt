-- What blocks and branches resolve to.
use Rattle.std.proofs.Common.{◌≡◌, ℕ, List, [], ◌∷◌, length, take, Option, Some, None, sym, refl, ap, ◌∙◌, subst}
use Rattle.std.specs.Prelude.{Vec, option_map}
use Rattle.std.specs.Global.{Global}
use Rattle.source.specs.declared.place.Place.{Place}
use Rattle.tree.specs.ExpressionTrees.{expression_tree}
use Rattle.tree.specs.StatementTrees as trees
use Rattle.tree.specs.StatementTrees.{StatementTree, BlockTree, TestTree, block_tree, test_tree}
use Rattle.tree.specs.declared.statement as stated
use Rattle.declarations.specs.Program.{ProgramText}
use Rattle.program.specs.Statements as seen
use Rattle.program.specs.Statements.{StatementsModel, StatementModel, BlockModel, TestModel, block_model, test_model}
use Rattle.program.specs.declared.number.VarId.{VarId}
use Rattle.program.specs.declared.statement.Block as found_block
use Rattle.program.specs.declared.statement.Forget.{Forget}
use Rattle.program.specs.declared.statement.Mention.{Mention}
use Rattle.program.specs.declared.statement.Test as found_test
use Rattle.program.specs.declared.statement.Ways.{Ways}
use Rattle.resolving.specs.Frames.{IsLocalFrame, number_model}
use Rattle.resolving.specs.Locals.{LocalFrame, number_of, forget}
use Rattle.resolving.specs.Reads.{reads, ways}
use Rattle.resolving.specs.Steps.{IsResolvedPiece, pieces_in_order}
use Rattle.resolving.specs.Told.{ResolvedPiece, follow, map_piece, block_of, block_told, statement_told, test_told, others_told}
use Rattle.resolving.specs.Staying.{Staying}
use Rattle.resolving.specs.declared.locals.Locals.{Locals}
use Rattle.resolving.proofs.ScopeLemmas.{scoped}
use Rattle.resolving.proofs.SeenTwins.{test_made}
use Rattle.tree.proofs.StatementTwins.{test_is}

same_number : (n : Option ℕ) → number_model (option_map number_of n) ≡ n
same_number None = refl
same_number (Some n) = refl

-- the number in a variable id that is known
pub number_is : (v : Option VarId) (n : Option ℕ) → v ≡ option_map number_of n → number_model v ≡ n
number_is v n is = ap number_model is ∙ same_number n

-- a piece that `make` turns into something else
pub made_told : {X Y : Type 0} (text : List ℕ) (make : X → Y) (t : ResolvedPiece X) (what : X) (l : Locals) → IsResolvedPiece text t what l → IsResolvedPiece text (map_piece make t) (make what) l
made_told text make t what l h = record { is = ap make h.is; frame = h.frame }

-- equal statements resolve to equal models
pub told_as : (p : ProgramText) (class : ℕ) (stays : Staying) (f : LocalFrame) {s s' : StatementTree} {what what' : StatementModel} {l : Locals} → s ≡ s' → what ≡ what' → IsResolvedPiece p.text (statement_told p class stays s' f) what' l → IsResolvedPiece p.text (statement_told p class stays s f) what l
told_as p class stays f {s} {s'} {what} {what'} {l} is seen_is told = subst (λ t. IsResolvedPiece p.text (statement_told p class stays t f) what l) (sym is) (subst (λ w. IsResolvedPiece p.text (statement_told p class stays s' f) w l) (sym seen_is) told)

-- a condition and its block, part by part
pub test_ends : (p : ProgramText) (class : ℕ) (stays : Staying) (f : LocalFrame) (test : stated.Test.Test) (found : Vec Mention Global) (way : Ways) (body : found_block.Block) (l : Locals)
    → found.items ≡ reads p.text f.locals (expression_tree test.test) → way ≡ ways (expression_tree test.test) → IsResolvedPiece p.text (block_told p class stays (block_tree test.body) f) (block_model body) l
    → IsResolvedPiece p.text (test_told p class stays (test_tree test) f) (test_model (found_test.roll-Test (record { place = test.word.place; reads = found; ways = way; body = body }))) l
test_ends p class stays f test found way body l read goes told =
    let tree = expression_tree test.test in
    subst (λ t. IsResolvedPiece p.text (test_told p class stays t f) (test_model (found_test.roll-Test (record { place = test.word.place; reads = found; ways = way; body = body }))) l) (sym (test_is test)) (record {
      is = test_made test.word.place found way body ∙ ap (λ r. seen.Test test.word.place r way (block_model body)) read ∙ ap (λ w. seen.Test test.word.place (reads p.text f.locals tree) w (block_model body)) goes
          ∙ ap (seen.Test test.word.place (reads p.text f.locals tree) (ways tree)) told.is;
      frame = told.frame;
    })

-- a scope that is left
pub block_ends : (text : List ℕ) (place : Place) (f : LocalFrame) (t : ResolvedPiece StatementsModel) (what : StatementsModel) (l m : Locals) (outer : ℕ) (last behind : Option VarId) (gone : Option Forget) → take (length f.locals) t.frame.locals ≡ f.locals
    → outer ≡ length f.locals → last ≡ option_map number_of f.last → behind ≡ option_map number_of t.frame.last → gone ≡ forget place (number_model last) (number_model behind)
    → ((g : LocalFrame) → IsLocalFrame text g l → IsLocalFrame text (scoped (take outer g.locals) (number_model last) g) m)
    → IsResolvedPiece text t what l → IsResolvedPiece text (block_of place f t) (seen.Braces what gone) m
block_ends text place f t what l m outer last behind gone kept size here there forgets leave told =
    let first = number_is last f.last here in
    let second = number_is behind t.frame.last there in
    record {
      is = ap (λ w. seen.Braces w gone) told.is ∙ ap (seen.Braces t.what) (forgets ∙ ap (λ o. forget place o (number_model behind)) first ∙ ap (forget place f.last) second);
      frame = subst (λ ls. IsLocalFrame text (scoped ls f.last t.frame) m) (ap (λ n. take n t.frame.locals) size ∙ kept)
          (subst (λ o. IsLocalFrame text (scoped (take outer t.frame.locals) o t.frame) m) first (leave t.frame told.frame));
    }

-- the rest of an `if` after its first block: further conditions, and then the last block
abbrev others_end : List TestModel → Option BlockModel → LocalFrame → ResolvedPiece seen.OthersModel
others_end tests last f = record { what = seen.other_sequence tests last; frame = f }

others_walked : (p : ProgramText) (class : ℕ) (stays : Staying) (ts : List TestTree) (last : Option BlockTree) (f : LocalFrame) (b : Option BlockModel) → (let t = pieces_in_order (test_told p class stays) ts f in let o = others_told p class stays (trees.last_other last) t.frame in
    seen.last_other b ≡ o.what → others_end t.what b o.frame ≡ others_told p class stays (trees.other_sequence ts last) f)
others_walked p class stays [] last f b is = ap (λ (w : seen.OthersModel). record { what = w; frame = (others_told p class stays (trees.last_other last) f).frame }) is
others_walked p class stays (t ∷ ts) last f b is = ap (map_piece (seen.ElseIf (test_told p class stays t f).what)) (others_walked p class stays ts last (test_told p class stays t f).frame b is)

-- an `if`, part by part
pub if_told : (p : ProgramText) (class : ℕ) (stays : Staying) (first : TestTree) (ts : List TestTree) (last : Option BlockTree) (f : LocalFrame) (x : TestModel) (xs : List TestModel) (b : Option BlockModel) (l m n : Locals)
    → IsResolvedPiece p.text (test_told p class stays first f) x l
    → ((g : LocalFrame) → IsLocalFrame p.text g l → IsResolvedPiece p.text (pieces_in_order (test_told p class stays) ts g) xs m)
    → ((g : LocalFrame) → IsLocalFrame p.text g m → IsResolvedPiece p.text (others_told p class stays (trees.last_other last) g) (seen.last_other b) n)
    → IsResolvedPiece p.text (follow seen.If (test_told p class stays first f) (others_told p class stays (trees.other_sequence ts last))) (seen.If x (seen.other_sequence xs b)) n
if_told p class stays first ts last f x xs b l m n one more end =
    let behind = (test_told p class stays first f).frame in
    let second = more behind one.frame in
    let third = end (pieces_in_order (test_told p class stays) ts behind).frame second.frame in
    let all = others_walked p class stays ts last behind b third.is in
    subst (λ t. IsResolvedPiece p.text (map_piece (seen.If (test_told p class stays first f).what) t) (seen.If x (seen.other_sequence xs b)) n) all (record {
      is = ap (λ y. seen.If y (seen.other_sequence xs b)) one.is ∙ ap (λ ys. seen.If (test_told p class stays first f).what (seen.other_sequence ys b)) second.is;
      frame = third.frame;
    })
