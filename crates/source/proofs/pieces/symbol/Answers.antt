use Rattle.std.proofs.Common.{◌≡◌, ◌<◌, [], ◌∷◌, length, get_or, sym, refl, ◌∙◌, None, arith}
use Rattle.source.specs.Words.{symbol}
use Rattle.source.proofs.PieceLemmas.{symbol_found}
use Rattle.source.proofs.SymbolLemmas.{first_double, first_single, first_none}
use Rattle.source.proofs.pieces.symbol.Goals as goal
use Rattle.source.proofs.pieces.symbol.Goals.{then-rest-gt1+in_default, else-rest-gt1, After-of_byte}

-- no symbol of two bytes is here
no_double : (c : After-of_byte) → 1 < length c.args.rest.now → symbol (get_or c.args.rest.now 0 0 ∷ get_or c.args.rest.now 1 0 ∷ []) ≡ None
no_double c h = elim c.if-rest-gt1.branch [ then-rest-gt1+in_default w ↦ sym w.of_two.ensures ∙ w.in_default.is | else-rest-gt1 w ↦ absurd (omega (arith, w.if-rest-gt1.false)) ]

pub returns-in-Some-clause-found : goal.returns-in-Some-clause-found
returns-in-Some-clause-found c =
    symbol_found c.args.rest.now 2 c.in-Some.kind c.requires.other
    (first_double c.args.rest.now c.in-Some.kind c.if-rest-gt1.true c.requires.other (sym c.of_two.ensures ∙ c.in-Some.is))

pub returns-in-Some-of_byte-clause-found : goal.returns-in-Some-of_byte-clause-found
returns-in-Some-of_byte-clause-found c =
    symbol_found c.args.rest.now 1 c.in-Some-of_byte.kind c.requires.other
    (first_single c.args.rest.now c.in-Some-of_byte.kind c.requires.some c.requires.other (no_double (goal.at.returns-in-Some-of_byte-clause-found c).After-of_byte) (sym c.of_byte.ensures ∙ c.in-Some-of_byte.is))

pub returns-in-None-clause-fault : goal.returns-in-None-clause-fault
returns-in-None-clause-fault c = λ depth. (
  refl,
  first_none c.args.rest.now c.requires.some c.requires.other (no_double (goal.at.returns-in-None-clause-fault c).After-of_byte) (sym c.of_byte.ensures ∙ c.in-None.is),
)
