-- Messages as parts of the grammar.
use Rattle.std.proofs.Common.{◌≡◌, List, [], ◌∷◌, Some, refl, ap}
use Rattle.source.specs.declared.kind.Kind.{Kind}
use Rattle.source.specs.declared.kind.Kind.TheVariants as kind
use Rattle.source.specs.declared.token.Span.{Span}
use Rattle.tree.specs.Symbols.{by_kind}
use Rattle.tree.specs.Spelling.{comma_list, parens}
use Rattle.syntax.specs.Reading.{never, listed_on, listed_at}
use Rattle.tree.specs.Trees.{MessageTree}
use Rattle.tree.specs.Grammar.{direction_word, param, message}
use Rattle.syntax.specs.Firsts.{direction_of, opens_type, opens_message}
use Rattle.program.specs.declared.contract as sign_nodes
use Rattle.tree.specs.declared.contract as contract_nodes
use Rattle.program.specs.declared.contract.Direction.TheVariants as direction
use Rattle.syntax.proofs.pieces.Pieces.{Piece, next, via_piece}
use Rattle.syntax.proofs.pieces.Beginnings.{Starts, sequence_starts}
use Rattle.syntax.proofs.pieces.Enclosed.{InParens, parens_piece}
use Rattle.syntax.proofs.pieces.Listed.{listed_piece}
use Rattle.syntax.proofs.pieces.Words.{Words, words_piece, words_starts, one_some, none_some}
use Rattle.syntax.proofs.pieces.CursorLemmas.{fixed_piece, named_piece}
use Rattle.syntax.proofs.definitions.TypeForms.{param_item}

-- "in" | "out"

pub directions : Words direction_word direction_of
directions = record { some = direction.In; known = known; blank = refl; only = only; plain = plain }
  where
    known : (d : sign_nodes.Direction.Direction) → direction_of (Some (direction_word d)) ≡ Some d
    known direction.In = refl
    known direction.Out = refl

    only : (k : Kind) (d : sign_nodes.Direction.Direction) → direction_of (Some k) ≡ Some d → k ≡ direction_word d
    only kind.In d e = ap direction_word (one_some e)
    only kind.Out d e = ap direction_word (one_some e)
    only k d e = absurd (none_some e)

    plain : (d : sign_nodes.Direction.Direction) → direction_word d ≡ kind.Name → ⊥
    plain direction.In e = cc
    plain direction.Out e = cc

-- params = "(" [ param { "," param } ] ")" .

pub params_inside : InParens (comma_list param) (listed_on (by_kind opens_type)) (listed_at (by_kind opens_type))
params_inside = record { on = refl; here = elim [ [] ↦ refl | p ∷ ps ↦ refl ] }

pub param_list_piece : Piece (comma_list param) (listed_on (by_kind opens_type)) (listed_at (by_kind opens_type))
param_list_piece = listed_piece param_item

pub params_piece : Piece (parens (comma_list param)) never (λ _. never)
params_piece = parens_piece params_inside param_list_piece

-- message = direction "message" ID params ";" .

abbrev pub message_to : MessageTree → sign_nodes.Direction.Direction × (Unit {0} × (Span × ((Span × List contract_nodes.MessageParameter.MessageParameter) × Unit {0})))
message_to m = (m.direction, (tt, (m.name, ((m.open_paren, m.params), tt))))

abbrev pub message_from : sign_nodes.Direction.Direction × (Unit {0} × (Span × ((Span × List contract_nodes.MessageParameter.MessageParameter) × Unit {0}))) → MessageTree
message_from p = record { direction = p.0; name = p.1.1.0; open_paren = p.1.1.1.0.0; params = p.1.1.1.0.1 }

pub message_piece : Piece message never (λ _. never)
message_piece = via_piece message_to message_from (λ _. refl) (next (words_piece directions) (next (fixed_piece kind.Message) (next named_piece (next params_piece (fixed_piece kind.Semicolon)))))

pub message_starts : Starts message (by_kind opens_message)
message_starts = sequence_starts (λ m. m.direction) _ (words_starts directions)
