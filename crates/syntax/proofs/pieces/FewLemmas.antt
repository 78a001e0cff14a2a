-- Each token is one of the symbols that spell a tree.
use Rattle.std.proofs.Common.{◌≡◌, suc, ◌≤◌, List, [], ◌∷◌, ◌++◌, length, refl, ap, arith}
use Rattle.std.proofs.lemmas.List.{length-append}
use Rattle.source.specs.declared.token.Token.{Token}
use Rattle.tree.specs.Symbols.{Symbol, End, symbols}

as_many_symbols : (tokens : List Token) → length (symbols tokens) ≡ suc (length tokens)
as_many_symbols [] = refl
as_many_symbols (t ∷ tokens) = ap suc (as_many_symbols tokens)

-- a tree is spelled with no more symbols than there are tokens
pub few_symbols : (spelled : List Symbol) (tokens : List Token) → spelled ++ End ∷ [] ≡ symbols tokens → length spelled ≤ length tokens
few_symbols spelled tokens is =
    let size = ap length is in
    let end = length-append spelled (End ∷ []) in
    let read = as_many_symbols tokens in
    omega (arith, size, end, read)
