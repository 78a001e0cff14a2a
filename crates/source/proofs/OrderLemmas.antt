-- Tokens are in the order of the text.
use Rattle.std.proofs.Common.{◌≡◌, ℕ, ◌+◌, ◌<◌, ◌≤◌, List, [], ◌∷◌, ◌++◌, length, drop, Option, Some, None, sym, subst, arith, length-append}
use Rattle.std.proofs.lemmas.List.{length-drop}
use Rattle.source.specs.Cutting.{Cuts}
use Rattle.source.specs.Marks.{mark_len, body_of}
use Rattle.source.specs.Pieces.{kind_of}
use Rattle.source.specs.Tokens.{tokens_of, token_of, AreTokens, AreInOrder}
use Rattle.source.specs.declared.kind.Kind.{Kind}
use Rattle.source.specs.declared.lexer.TheConstants.{MAX_TEXT}
use Rattle.source.specs.declared.token.Token.{Token}

-- what is in order from a byte on is in order from any earlier one
order_earlier : (early from to : ℕ) (ts : List Token) → early ≤ from → AreInOrder from to ts → AreInOrder early to ts
order_earlier early from to [] h k = omega arith
order_earlier early from to (t ∷ ts) h k = (omega (arith, k.0), k.1, k.2)

order_one : (mark : ℕ) (before p : List ℕ) (to : ℕ) (kind : Option Kind) (ts : List Token) → 0 < length p → AreInOrder (mark + length before + length p) to ts → AreInOrder (mark + length before) to (token_of kind mark before p ++ ts)
order_one mark before p to None ts some h = order_earlier (mark + length before) (mark + length before + length p) to ts (omega arith) h
order_one mark before p to (Some k) ts some h = (omega arith, omega arith, h)

order_from : (mark to : ℕ) (before rest : List ℕ) (ps : List (List ℕ)) → Cuts ps rest [] → mark + length before + length rest ≡ to → AreInOrder (mark + length before) to (tokens_of mark before ps)
order_from mark to before rest [] h size = omega arith
order_from mark to before rest (p ∷ ps) h size =
    let next : mark + length (before ++ p) ≡ mark + length before + length p = omega (arith, length-append before p) in
    order_one mark before p to (kind_of p) (tokens_of mark (before ++ p) ps) h.0.some
    (subst (λ n. AreInOrder n to (tokens_of mark (before ++ p) ps)) next
    (order_from mark to (before ++ p) (drop (length p) rest) ps h.2 (omega (arith, length-append before p, length-drop (length p) rest, h.0.within))))

-- tokens are in order from the front to the end
pub tokens_in_order : (text : List ℕ) (tokens : List Token) → mark_len text ≤ length text → AreTokens text tokens → AreInOrder 0 (length text) tokens
tokens_in_order text tokens within h =
    let size : mark_len text + 0 + length (body_of text) ≡ length text = omega (arith, length-drop (mark_len text) text, within) in
    subst (λ ts. AreInOrder 0 (length text) ts) (sym h.found)
    (order_earlier 0 (mark_len text + 0) (length text) (tokens_of (mark_len text) [] h.pieces) (omega arith) (order_from (mark_len text) (length text) [] (body_of text) h.pieces h.begins.cut size))

many_between : (from to : ℕ) (ts : List Token) → AreInOrder from to ts → from + length ts ≤ to
many_between from to [] h = omega (arith, h)
many_between from to (t ∷ ts) h =
    let rest = many_between t.span.end to ts h.2 in
    let begins = h.0 in
    let some = h.1 in
    omega (arith, rest, begins, some)

-- each token has a byte of its own
pub tokens_few : (text : List ℕ) (tokens : List Token) → mark_len text ≤ length text → AreTokens text tokens → length tokens ≤ MAX_TEXT
tokens_few text tokens within h =
    let many = many_between 0 (length text) tokens (tokens_in_order text tokens within h) in
    let short = h.short in
    omega (arith, many, short)
