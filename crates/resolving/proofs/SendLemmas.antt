-- The payloads of a message that is sent.
use Rattle.std.proofs.Common.{◌≡◌, ℕ, ◌+◌, ◌<◌, List, [], ◌∷◌, ◌++◌, length, map, take, get_or, sym, ap, ◌∙◌, append-nil}
use Rattle.std.proofs.lemmas.Grind.{flat_map-append}
use Rattle.std.proofs.lemmas.List.{take_more, map-append}
use Rattle.source.specs.declared.place.Place.{Place}
use Rattle.tree.specs.Expressions.{ExpressionTree}
use Rattle.tree.specs.ExpressionTrees.{expression_tree}
use Rattle.tree.specs.declared.expression.Expression.{Expression}
use Rattle.declarations.specs.Program.{ProgramText}
use Rattle.program.specs.declared.number.MessageId.{MessageId}
use Rattle.program.specs.Statements.{SendModel}
use Rattle.program.specs.declared.statement.Mention.{Mention}
use Rattle.resolving.specs.Locals.{LocalFrame}
use Rattle.resolving.specs.Reads.{mention_list}
use Rattle.resolving.specs.Plain.{lone, payloads}

-- one more argument
pub payloads_more : (p : ProgramText) (own : ℕ) (f : LocalFrame) (es : List Expression) (n : ℕ) (e : Expression) → n < length es → e ≡ get_or es n e
    → payloads p own f (map expression_tree (take (n + 1) es)) ≡ payloads p own f (map expression_tree (take n es)) ++ mention_list (lone p own f (expression_tree e))
payloads_more p own f es n e lt is =
    let sends = λ (x : ExpressionTree). mention_list (lone p own f x) in
    let so = payloads p own f (map expression_tree (take n es)) in
    ap (λ (xs : List Expression). payloads p own f (map expression_tree xs)) (take_more es n e lt ∙ ap (λ x. take n es ++ x ∷ []) (sym is))
    ∙ ap (payloads p own f) (map-append expression_tree (take n es) (e ∷ []))
    ∙ flat_map-append sends (map expression_tree (take n es)) (expression_tree e ∷ [])
    ∙ ap (λ l. so ++ l) (append-nil (sends (expression_tree e)))

-- a send with these parts
abbrev pub send_with : List Mention → Place → Mention → MessageId → List Mention → SendModel
send_with reads place endpoint message payloads = record { reads = reads; place = place; endpoint = endpoint; message = message; payloads = payloads }

-- sends with equal parts are equal
pub same_send : (place : Place) (endpoint : Mention) (message : MessageId) (r s a b : List Mention) → r ≡ s → a ≡ b → send_with r place endpoint message a ≡ send_with s place endpoint message b
same_send place endpoint message r s a b reads given = ap (λ l. send_with l place endpoint message a) reads ∙ ap (send_with s place endpoint message) given
