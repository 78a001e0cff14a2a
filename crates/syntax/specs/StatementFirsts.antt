-- The tokens with which statements begin, and the symbols with which they could continue.
use Rattle.std.specs.Prelude.{Bool, ◌||◌, List, [], ◌∷◌, Option, Some, None, is_some}
use Rattle.source.specs.declared.kind.Kind.{Kind}
use Rattle.source.specs.declared.kind.Kind.TheVariants as kind
use Rattle.tree.specs.Symbols.{Symbol, is_kind, by_kind}
use Rattle.syntax.specs.Reading.{never, many_at}
use Rattle.tree.specs.StatementTrees.{StatementTree, If, OtherTrees, NoOther, Else, ElseIf, CaseTree, Case}
use Rattle.tree.specs.StatementTrees.{StatementTrees, NoStatement, MoreStatements, CaseTrees, NoCase, MoreCases}
use Rattle.syntax.specs.declared.leads.Lead.{Lead}
use Rattle.syntax.specs.declared.leads.Lead.TheVariants as lead
use Rattle.syntax.specs.declared.leads.PlainLead.TheVariants as plain_lead

-- what a statement that begins with a token of this kind is
abbrev pub lead_of : Option Kind → Option Lead
lead_of (Some kind.OpenBrace) = Some lead.Block
lead_of (Some kind.If) = Some lead.If
lead_of (Some kind.While) = Some lead.While
lead_of (Some kind.Switch) = Some lead.Switch
lead_of (Some kind.Name) = Some (lead.Plain plain_lead.Name)
lead_of (Some kind.Int) = Some (lead.Plain plain_lead.Scalar)
lead_of (Some kind.Bool) = Some (lead.Plain plain_lead.Scalar)
lead_of (Some kind.Byte) = Some (lead.Plain plain_lead.Scalar)
lead_of (Some kind.Start) = Some (lead.Plain plain_lead.Start)
lead_of (Some kind.Delete) = Some (lead.Plain plain_lead.Delete)
lead_of (Some kind.Exchange) = Some (lead.Plain plain_lead.Exchange)
lead_of (Some kind.Break) = Some (lead.Plain plain_lead.Break)
lead_of (Some kind.Continue) = Some (lead.Plain plain_lead.Continue)
lead_of (Some kind.Return) = Some (lead.Plain plain_lead.Return)
lead_of _ = None

-- whether a statement begins with this token
abbrev pub opens_statement : Option Kind → Bool
opens_statement k = is_some (lead_of k)

-- the symbols with which some statement could continue: an `if` with `else`
abbrev pub statement_on : Symbol → Bool
statement_on = is_kind kind.Else

-- the symbols with which what follows the first block of an `if` could continue
abbrev pub others_at : OtherTrees → Symbol → Bool
others_at NoOther = statement_on
others_at (Else b) = never
others_at (ElseIf t more) = others_at more

-- the symbols with which this statement could continue
abbrev pub statement_at : StatementTree → Symbol → Bool
statement_at (If t more) = others_at more
statement_at _ = never

-- the symbols with which some sequence of statements could continue
abbrev pub statements_on : Symbol → Bool
statements_on y = statement_on y || by_kind opens_statement y

-- the symbols with which these statements could continue
abbrev pub statements_at : List StatementTree → Symbol → Bool
statements_at = many_at (by_kind opens_statement) statement_at

-- a sequence as a list
abbrev pub statement_list : StatementTrees → List StatementTree
statement_list NoStatement = []
statement_list (MoreStatements x xs) = x ∷ statement_list xs

-- the symbols with which this case could continue
abbrev pub case_at : CaseTree → Symbol → Bool
case_at (Case span endpoint message open_paren binds inner) = statements_at (statement_list inner)

-- the symbols with which some sequence of cases could continue
abbrev pub cases_on : Symbol → Bool
cases_on y = statements_on y || is_kind kind.Case y

-- the symbols with which these cases could continue
abbrev pub cases_at : List CaseTree → Symbol → Bool
cases_at = many_at (is_kind kind.Case) case_at

-- a sequence as a list
abbrev pub case_list : CaseTrees → List CaseTree
case_list NoCase = []
case_list (MoreCases x xs) = x ∷ case_list xs
