use Rattle.std.proofs.Common.{◌≡◌, ◌+◌, length, take, sym, ◌∙◌, arith}
use Rattle.std.proofs.lemmas.List.{length-take}
use Rattle.source.specs.Places.{place_of}
use Rattle.source.proofs.LineLemmas.{place_in_line, token_in_line}
use Rattle.source.proofs.lexer.behind.Goals as goal

pub returns-in-Some : goal.returns-in-Some
returns-in-Some c = λ before is.
    let piece = c.args.piece in
    let rest = c.args.rest.now in
    let bytes = take piece.len rest in
    let size : (place_of before).col + piece.len ≡ (place_of before).col + length bytes = omega (arith, length-take piece.len rest, c.requires.first.first.within) in
    (λ i. record { line = (is i).line; col = (is i).col + piece.len })
    ∙ (λ i. record { line = (place_of before).line; col = size i })
    ∙ sym (place_in_line before bytes (token_in_line bytes c.in-Some.field-0 (sym c.requires.first.kind ∙ c.in-Some.is)))
