use Rattle.std.proofs.Common.{◌-◌, ◌++◌, length, take, drop, sym, ap, ◌∙◌, subst, arith}
use Rattle.std.specs.Option.{option_map_or}
use Rattle.std.proofs.lemmas.List.{take_rest, length-take, append-nil}
use Rattle.std.proofs.lemmas.Result.{err_from_is_err_and}
use Rattle.source.specs.Brackets.{depth_after}
use Rattle.source.specs.Faults.{StandsAt}
use Rattle.source.specs.Firsts.{IsFirst}
use Rattle.source.specs.Places.{place_of}
use Rattle.source.specs.Tokens.{token_of}
use Rattle.source.specs.declared.fault.TextFault.TheVariants.{TooDeep}
use Rattle.source.proofs.LexedLemmas.{reached_more, pushed, fault_here, deep_here}
use Rattle.source.proofs.PlaceLemmas.{place_small}
use Rattle.source.proofs.lexer.cut.Goals as goal
use Rattle.source.proofs.lexer.cut.Goals.{in-Some+else-depth-gt-MAX_DEPTH+in_ok-push, in_default, In_ok-piece}

-- the piece comes first in what is left
piece_is : (c : In_ok-piece) → IsFirst (drop c.pieces.at c.args.body.now) c.in_ok-piece.piece
piece_is c = subst (λ r. IsFirst r c.in_ok-piece.piece) (take_rest c.args.body.now c.pieces.at) c.in_ok-piece.ensures.found

pub returns-in_err-piece-clause-fault : goal.returns-in_err-piece-clause-fault
returns-in_err-piece-clause-fault c =
    let body = c.args.body.now in
    let fault = c.in_err-piece.field-0.0 in
    let exit = err_from_is_err_and c.from_residual-in_err-piece.result c.from_residual-in_err-piece.ensures.1 in
    let stands : StandsAt fault c.pieces.place c.pieces.depth (drop c.pieces.at body) = subst (λ r. StandsAt fault c.pieces.place c.pieces.depth r) (take_rest body c.pieces.at) (c.in_err-piece.ensures.fault c.pieces.depth) in
    rw (exit.1, exit.2)
    (λ _. fault_here c.args.mark body c.pieces.at c.pieces.list.items c.pieces.place c.pieces.depth fault c.pieces.invariant stands)

pub returns-then-depth-gt-MAX_DEPTH-clause-fault :
    goal.returns-then-depth-gt-MAX_DEPTH-clause-fault
returns-then-depth-gt-MAX_DEPTH-clause-fault c = λ _.
    let body = c.args.body.now in
    fault_here c.args.mark body c.pieces.at c.pieces.list.items c.pieces.place c.pieces.depth (TooDeep c.pieces.place) c.pieces.invariant
    (deep_here c.pieces.place c.pieces.depth c.after-depth.result (drop c.pieces.at body) c.in_ok-piece.piece c.in-Some.kind (piece_is (goal.at.returns-then-depth-gt-MAX_DEPTH-clause-fault c).In_ok-piece) c.in-Some.is c.after-depth.ensures c.if-depth-gt-MAX_DEPTH.true)

pub behind-place-requires-clause-first : goal.behind-place-requires-clause-first
behind-place-requires-clause-first c = c.in_ok-piece.ensures.found

pub behind-place-requires-clause-col : goal.behind-place-requires-clause-col
behind-place-requires-clause-col c =
    let body = c.args.body.now in
    let small = place_small (take c.pieces.at body) c.pieces.at (omega (arith, length-take c.pieces.at body)) in
    let at = ap (λ p. p.col) c.pieces.invariant.place_is in
    omega (arith, small.1, at, c.in_ok-piece.ensures.found.first.within, length-take c.in_ok-piece.piece.len (take (length body - c.pieces.at) (drop c.pieces.at body)), length-take (length body - c.pieces.at) (drop c.pieces.at body))

pub pieces-preserved : goal.pieces-preserved
pieces-preserved c =
    let body = c.args.body.now in
    let at = c.pieces.at in
    let piece = c.in_ok-piece.piece in
    let first : IsFirst (drop at body) piece = piece_is (goal.at.pieces-preserved c).In_ok-piece in
    reached_more c.args.mark body at c.pieces.list.items c.match-piece.list.items c.pieces.place c.behind-place.result c.pieces.depth c.match-piece.depth piece c.pieces.invariant first
    (elim c.match-piece.branch [ in-Some+else-depth-gt-MAX_DEPTH+in_ok-push w ↦ ap (λ v. v.items) w.list-is ∙ w.in_ok-push.ensures.items ∙ pushed c.args.mark body at c.pieces.list.items c.pieces.place c.pieces.depth piece w.in-Some.kind c.pieces.invariant first w.in-Some.is | in_default w ↦ ap (λ v. v.items) w.list-is ∙ sym (append-nil c.pieces.list.items) ∙ ap (λ k. c.pieces.list.items ++ token_of k c.args.mark (take at body) (take piece.len (drop at body))) (sym w.in_default.is) ])
    (c.behind-place.ensures (take at body) c.pieces.invariant.place_is ∙ ap (λ r. place_of (take at body ++ take piece.len r)) (take_rest body at))
    (elim c.match-piece.branch [ in-Some+else-depth-gt-MAX_DEPTH+in_ok-push w ↦ w.depth-is ∙ w.after-depth.ensures ∙ ap (λ k. option_map_or (depth_after c.pieces.depth) k c.pieces.depth) (sym w.in-Some.is) | in_default w ↦ w.depth-is ∙ ap (λ k. option_map_or (depth_after c.pieces.depth) k c.pieces.depth) (sym w.in_default.is) ])
    (elim c.match-piece.branch [ in-Some+else-depth-gt-MAX_DEPTH+in_ok-push w ↦ omega (arith, c.pieces.invariant.low) | in_default w ↦ omega (arith, c.pieces.invariant.low) ])
