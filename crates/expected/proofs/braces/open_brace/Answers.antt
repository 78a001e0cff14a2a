use Rattle.std.proofs.Common.{◌-◌, sym, ◌∙◌, arith}
use Rattle.expected.proofs.BraceLemmas.{IsAt, at_close, at_open, at_first, at_other}
use Rattle.expected.proofs.braces.open_brace.Goals as goal

pub tokens-preserved-in-CloseBrace : goal.tokens-preserved-in-CloseBrace
tokens-preserved-in-CloseBrace c =
    let ts = c.args.tokens.now.list.items in
    let i = c.tokens.left - 1 in
    let t = c.index-token.result.now in
    let at : IsAt ts i c.tokens.left t = record { within = omega arith; next = omega arith; is = c.index-token.ensures } in
    (omega arith, c.tokens.invariant.1 ∙ at_close ts i c.tokens.left c.tokens.closed t at c.in-CloseBrace.is)

pub returns-then-closed-eq0 : goal.returns-then-closed-eq0
returns-then-closed-eq0 c =
    let ts = c.args.tokens.now.list.items in
    let i = c.tokens.left - 1 in
    let t = c.index-token.result.now in
    let at : IsAt ts i c.tokens.left t = record { within = omega arith; next = omega arith; is = c.index-token.ensures } in
    sym (c.tokens.invariant.1 ∙ at_first ts i c.tokens.left c.tokens.closed t at c.in-OpenBrace.is c.if-closed-eq0.true)

pub tokens-preserved-in-OpenBrace : goal.tokens-preserved-in-OpenBrace
tokens-preserved-in-OpenBrace c =
    let ts = c.args.tokens.now.list.items in
    let i = c.tokens.left - 1 in
    let t = c.index-token.result.now in
    let at : IsAt ts i c.tokens.left t = record { within = omega arith; next = omega arith; is = c.index-token.ensures } in
    (omega arith, c.tokens.invariant.1 ∙ at_open ts i c.tokens.left (c.tokens.closed - 1) c.tokens.closed t at c.in-OpenBrace.is (omega arith))

pub tokens-preserved : goal.tokens-preserved
tokens-preserved c =
    let ts = c.args.tokens.now.list.items in
    let i = c.tokens.left - 1 in
    let t = c.index-token.result.now in
    let at : IsAt ts i c.tokens.left t = record { within = omega arith; next = omega arith; is = c.index-token.ensures } in
    (omega arith, c.tokens.invariant.1 ∙ at_other ts i c.tokens.left c.tokens.closed t at c.in_default.not-OpenBrace c.in_default.not-CloseBrace)
