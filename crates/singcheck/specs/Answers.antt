-- What is printed for a text. The stages come in order: the text, its tokens, its names, its
-- contracts. A stage has findings only if those before it have none.
use Rattle.std.specs.Prelude.{◌≡◌, ◌≢◌, ℕ, List, [], ◌∷◌, ◌++◌, length, All, Contains, Option, Some, None, slice_get, codes}
use Rattle.std.specs.List.{AllZip, concat}
use Rattle.source.specs.Faults.{IsFault}
use Rattle.source.specs.Findings.{FindingModel, fault_findings}
use Rattle.source.specs.Marks.{body_of}
use Rattle.source.specs.Places.{place_of}
use Rattle.source.specs.Tokens.{AreTokens}
use Rattle.source.specs.declared.fault.TextFault.{TextFault}
use Rattle.source.specs.declared.finding.Code.TheVariants.{S05}
use Rattle.source.specs.declared.token.Token.{Token}
use Rattle.tree.specs.Spelled.{Spells}
use Rattle.syntax.specs.Parsing.{IsFirstWrong}
use Rattle.tree.specs.Programs.{program}
use Rattle.tree.specs.Trees.{ItemTree, contracts_of}
use Rattle.program.specs.declared.types.Side.TheVariants.{Exp, Imp}
use Rattle.names.specs.Findings.{program_findings, program_mistakes}
use Rattle.program.specs.Parts.{ContractModel}
use Rattle.declarations.specs.Resolution.{resolved_contracts}
use Rattle.contracts.specs.Bounds.{IsBound, sign_to}
use Rattle.contracts.specs.Conditions as conditions
use Rattle.contracts.specs.Conditions.{AreExactly, IsSound}
use Rattle.devices.specs.declared.fault.Status.{Status}
use Rattle.devices.specs.declared.fault.Status.TheVariants.{Empty, Found}
use Rattle.singcheck.specs.Lines.{bounds_line, ok_line}
use Rattle.singcheck.specs.Reports.{IsReportOf}

-- the text has a fault, and this is its finding
pub record IsFaulty (text : List ℕ) (found : List FindingModel) : Type 0 where
  pub fault : TextFault
  pub first : IsFault text fault
  pub are : found ≡ fault_findings fault

-- the finding for a wrong token, or for the end if there is none
abbrev pub wrong_token : List ℕ → Option Token → FindingModel
wrong_token text (Some token) = record { place = token.span.place; code = S05; text = codes "unexpected token" }
wrong_token text None = record { place = place_of (body_of text); code = S05; text = codes "unexpected end" }

-- the tokens of the text are no program, and this is the finding for the first wrong one, or the end
pub record IsNoProgram (text : List ℕ) (found : List FindingModel) : Type 0 where
  pub tokens : List Token
  pub lexed : AreTokens text tokens
  pub number : ℕ
  pub wrong : IsFirstWrong program tokens number
  pub are : found ≡ wrong_token text (slice_get tokens number) ∷ []

-- the text is a program of these items
pub record IsProgram (text : List ℕ) (items : List ItemTree) : Type 0 where
  pub tokens : List Token
  pub lexed : AreTokens text tokens
  pub spelled : Spells program items tokens

-- there are mistakes with the names of the program, and these are all their findings
pub record IsMisnamed (text : List ℕ) (found : List FindingModel) : Type 0 where
  pub items : List ItemTree
  pub parsed : IsProgram text items
  pub some : found ≢ []
  pub are : AreExactly (Contains (program_findings (record { text = text; items = items }))) found

-- there are no mistakes with the names of the program, and these are its contracts, with each name resolved to a number
pub record IsResolved (text : List ℕ) (contracts : List ContractModel) : Type 0 where
  pub items : List ItemTree
  pub parsed : IsProgram text items
  pub clean : program_mistakes (record { text = text; items = items }) ≡ []
  pub are : contracts ≡ resolved_contracts text (contracts_of items)

-- a condition is broken in one of the contracts, and this is the finding
abbrev pub IsBroken : List ContractModel → FindingModel → Type 0
IsBroken contracts f = (c : ContractModel) × Contains contracts c × conditions.IsFlaw c.parts f

-- conditions are broken in contracts of the program, and these are all their findings
pub record IsUnsound (text : List ℕ) (found : List FindingModel) : Type 0 where
  pub contracts : List ContractModel
  pub resolved : IsResolved text contracts
  pub some : found ≢ []
  pub are : AreExactly (IsBroken contracts) found

-- these are the findings of the first of the stages text, tokens, names and contracts that has any
pub data AreFindings (text : List ℕ) (found : List FindingModel) : Type 0 where
  OfText : IsFaulty text found → AreFindings text found
  OfSyntax : IsNoProgram text found → AreFindings text found
  OfNames : IsMisnamed text found → AreFindings text found
  OfContracts : IsUnsound text found → AreFindings text found

-- the line of a contract, with the greatest length of each of its two queues
pub record IsBoundsLine (c : ContractModel) (line : List ℕ) : Type 0 where
  pub to_exp : ℕ
  pub to_imp : ℕ
  pub exp : ∥ IsBound c.parts.edges c.parts.first (sign_to Exp) to_exp ∥₁
  pub imp : ∥ IsBound c.parts.edges c.parts.first (sign_to Imp) to_imp ∥₁
  pub is : line ≡ bounds_line c.name to_exp to_imp

-- there are no findings before the methods, and the bytes are a line for each contract of the text
-- in order, and then the line `ok: C contracts`
pub record IsBoundsReport (text bytes : List ℕ) : Type 0 where
  pub contracts : List ContractModel
  pub resolved : IsResolved text contracts
  pub sound : All (λ c. IsSound c.parts) contracts
  pub lines : List (List ℕ)
  pub each : AllZip IsBoundsLine contracts lines
  pub are : bytes ≡ concat lines ++ ok_line (length contracts)

-- these bytes with this status are what `bounds` prints for the text
abbrev pub Answers : List ℕ → List ℕ → Status → Type 0
Answers text bytes Empty = IsBoundsReport text bytes
Answers text bytes Found = IsReportOf (AreFindings text) bytes
