-- For proofs within the crate: what a text becomes before its methods are analysed, or why it has no program.
use Rattle.std.specs.Prelude.{◌≡◌, ◌≢◌, ◌<◌, ◌≤◌, ◌^◌, ℕ, List, [], length, All}
use Rattle.source.specs.Faults.{IsFault}
use Rattle.source.specs.Findings.{FindingModel}
use Rattle.source.specs.Marks.{body_of}
use Rattle.source.specs.Places.{place_of}
use Rattle.source.specs.Tokens.{AreTokens}
use Rattle.source.specs.declared.fault.TextFault.TheVariants as fault
use Rattle.source.specs.declared.token.Tokens.{Tokens}
use Rattle.syntax.specs.Parsing.{IsFirstWrong}
use Rattle.tree.specs.Programs.{program}
use Rattle.tree.specs.Trees.{ItemTree, program_tree}
use Rattle.tree.specs.declared.item.Tree.{Tree}
use Rattle.declarations.specs.Program.{program_of}
use Rattle.declarations.specs.declared.mistake.Mistake.{Mistake}
use Rattle.names.specs.Findings.{program_mistakes}
use Rattle.names.specs.Resolving.{AreMistakes, IsResolution}
use Rattle.program.specs.Parts.{ContractModel, IsWhole}
use Rattle.program.specs.Programs.{ProgramModel, contracts_model}
use Rattle.program.specs.declared.contract.Resolved.{Resolved}
use Rattle.program.specs.declared.limits.TheConstants.{MOST_METHODS}
use Rattle.contracts.specs.Conditions.{AreExactly, IsSound}
use Rattle.wellformed.specs.Told.{program_told}
use Rattle.rules.specs.Programs.{model_of}
use Rattle.rules.specs.declared.lowered.Program.{Program}
use Rattle.singcheck.specs.Answers.{IsBroken, IsProgram, IsResolved}
use Rattle.singcheck.specs.Broken.{IsBrokenIn, found_of}
use Rattle.singcheck.specs.Checks.{HasProgram}
use Rattle.singcheck.specs.Entered.{AreCleanSafe}
use Rattle.singcheck.specs.declared.front.Refused.{Refused}
use Rattle.singcheck.specs.declared.soundness.BrokenContract.{BrokenContract}
use Rattle.singcheck.specs.declared.front.Refused.TheVariants as refused

-- the text is a program of this tree, which fewer than 2^32 symbols spell
pub record IsProgramOf (text : List ℕ) (tree : Tree) : Type 0 where
  pub parsed : IsProgram text (program_tree tree)
  pub few : length (program (program_tree tree)) < 2 ^ 32

-- there are no mistakes in the names of the text, and these are its contracts and its tree
pub record IsResolvedAs (text : List ℕ) (resolved : Resolved) (tree : Tree) : Type 0 where
  pub parsed : IsProgramOf text tree
  pub is : IsResolution (program_of text tree) resolved

-- the text is a program of these items, there are no mistakes in its names, and this is what it yields
pub record HasCleanNames (text : List ℕ) (items : List ItemTree) (p : ProgramModel) : Type 0 where
  pub parsed : IsProgram text items
  pub clean : program_mistakes (record { text = text; items = items }) ≡ []
  pub is : p ≡ program_told (record { text = text; items = items })

-- the same, with what is known of the program
pub record AreNamed (text : List ℕ) (items : List ItemTree) (p : ProgramModel) : Type 0 where
  pub names : HasCleanNames text items p
  pub whole : All (λ c. IsWhole c.parts) p.contracts
  pub room : length p.contracts < 2 ^ 32
  pub few : length p.methods ≤ MOST_METHODS

-- a program with sound contracts, and what is known of it
pub record IsSoundOne (p : ProgramModel) (program : Program) : Type 0 where
  pub same : model_of program ≡ p
  pub sound : All (λ c. IsSound c.parts) (model_of program).contracts
  pub safe : AreCleanSafe (model_of program)

-- the program of a text without findings before its methods, and what is known of it
pub record IsProgramBefore (text : List ℕ) (program : Program) : Type 0 where
  pub has : HasProgram text (model_of program)
  pub safe : AreCleanSafe (model_of program)

-- these are the findings of these contracts, and there are some
pub record AreBroken (contracts : List ContractModel) (found : List FindingModel) : Type 0 where
  pub some : found ≢ []
  pub are : AreExactly (IsBroken contracts) found

-- these are those of these contracts that have findings, with all findings, and there are some
pub record AreBrokenContracts (contracts : List ContractModel) (broken : List BrokenContract) : Type 0 where
  pub found : AreBroken contracts (found_of broken)
  pub each : All (IsBrokenIn contracts) broken

-- the names of the text are resolved, and these are its contracts with findings
pub record AreBrokenOf (text : List ℕ) (contracts : List ContractModel) (broken : List BrokenContract) : Type 0 where
  pub resolved : IsResolved text contracts
  pub are : AreBrokenContracts contracts broken

-- these are the tokens of the text, and the one of this number is the first wrong one
pub record IsWrongAt (text : List ℕ) (tokens : Tokens) (number : ℕ) : Type 0 where
  pub lexed : AreTokens text tokens.list.items
  pub end : tokens.end ≡ place_of (body_of text)
  pub wrong : IsFirstWrong program tokens.list.items number

-- all mistakes in the names of the text, whose tree is this
pub record AreMistaken (text : List ℕ) (tree : Tree) (mistakes : List Mistake) : Type 0 where
  pub parsed : IsProgram text (program_tree tree)
  pub are : AreMistakes (program_of text tree) mistakes

-- the text has no program for this reason
abbrev pub IsRefused : List ℕ → Refused → Type 0
IsRefused text (refused.Text f) = f ≢ fault.Memory → IsFault text f
IsRefused text (refused.Syntax tokens number) = IsWrongAt text tokens number
IsRefused text (refused.Names tree mistakes) = AreMistaken text tree mistakes.items
IsRefused text (refused.Contracts methods broken) = AreBrokenOf text (contracts_model methods) broken.items
IsRefused text refused.Memory = Unit {0}
