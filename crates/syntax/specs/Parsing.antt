-- Where tokens that do not spell a program go wrong.
use Rattle.std.specs.Prelude.{◌≡◌, ◌+◌, ◌++◌, ℕ, List, take, Result, MatchResult}
use Rattle.source.specs.declared.token.Token.{Token}
use Rattle.tree.specs.Symbols.{Symbol, symbols}
use Rattle.tree.specs.Spelled.{whole, Spells}
use Rattle.syntax.specs.declared.fault.SyntaxFault.{SyntaxFault}
use Rattle.syntax.specs.declared.fault.SyntaxFault.TheVariants.{Memory}

-- the spelling of some tree begins with these symbols
pub record Viable {X : Type 0} (spell : X → List Symbol) (front : List Symbol) : Type 0 where
  pub piece : X
  pub more : List Symbol
  pub begins : spell piece ≡ front ++ more

-- Symbol `k` is the first wrong one: some spelling begins with the first `k` symbols, and none with
-- the first `k + 1`. If `k` is the number of tokens, the end is wrong.
pub record IsFirstWrong {X : Type 0} (spell : X → List Symbol) (tokens : List Token) (k : ℕ) : Type 0 where
  pub good : Viable (whole spell) (take k (symbols tokens))
  pub bad : Viable (whole spell) (take (k + 1) (symbols tokens)) → ⊥

-- If the tokens are the spelling of a tree, the result is this tree or `Memory`.
abbrev pub FindsTree : {X Y : Type 0} → (X → List Symbol) → (Y → X) → List Token → Result Y SyntaxFault → Type 0
FindsTree {X} spell view tokens result = (x : X) → Spells spell x tokens → MatchResult result (λ found. view found ≡ x) (λ e. e ≡ Memory)
