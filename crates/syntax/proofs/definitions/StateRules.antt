-- Paths and states as parts of the grammar.
use Rattle.std.proofs.Common.{◌≡◌, true, List, [], ◌∷◌, ◌++◌, Some, sym, refl, ap, ◌∙◌, append_assoc}
use Rattle.std.specs.List.{flat_map}
use Rattle.source.specs.declared.kind.Kind.{Kind}
use Rattle.source.specs.declared.kind.Kind.TheVariants as kind
use Rattle.source.specs.declared.token.Span.{Span}
use Rattle.tree.specs.Symbols.{Symbol, by_kind}
use Rattle.tree.specs.Spelling.{word, token_at, name}
use Rattle.syntax.specs.Reading.{never, Stops, leads, Fails}
use Rattle.tree.specs.Trees.{PathTree}
use Rattle.tree.specs.Grammar.{sign_word, edge, path}
use Rattle.syntax.specs.Firsts.{sign_of, opens_sign}
use Rattle.syntax.specs.States.{hop}
use Rattle.tree.specs.declared.contract as contract_nodes
use Rattle.program.specs.declared.contract as sign_nodes
use Rattle.program.specs.declared.contract.Sign.TheVariants as sign
use Rattle.syntax.specs.declared.states.Hop.{Hop}
use Rattle.syntax.proofs.pieces.Pieces.{Piece, both, next, fails_here, fails_after, via_piece, via_fails, same_piece, same_fails, stops_never}
use Rattle.syntax.proofs.pieces.Beginnings.{Starts, splits_self, sequence_starts}
use Rattle.syntax.proofs.pieces.Repeats.{many_piece, many_fails, ended_leaves}
use Rattle.syntax.proofs.pieces.Words.{Words, marks_piece, marks_starts, one_some, none_some}
use Rattle.syntax.proofs.pieces.CursorLemmas.{fixed_piece, named_piece}

-- "!" | "?"

pub signs : Words sign_word sign_of
signs = record { some = sign.Send; known = known; blank = refl; only = only; plain = plain }
  where
    known : (s : sign_nodes.Sign.Sign) → sign_of (Some (sign_word s)) ≡ Some s
    known sign.Send = refl
    known sign.Receive = refl

    only : (k : Kind) (s : sign_nodes.Sign.Sign) → sign_of (Some k) ≡ Some s → k ≡ sign_word s
    only kind.Bang s e = ap sign_word (one_some e)
    only kind.Question s e = ap sign_word (one_some e)
    only k s e = absurd (none_some e)

    plain : (s : sign_nodes.Sign.Sign) → sign_word s ≡ kind.Name → ⊥
    plain sign.Send e = cc
    plain sign.Receive e = cc

-- hop = sign "->" ID .

abbrev pub hop_to : Hop → (sign_nodes.Sign.Sign × Span) × (Unit {0} × Span)
hop_to h = ((h.sign, h.mark), (tt, h.target))

abbrev pub hop_from : (sign_nodes.Sign.Sign × Span) × (Unit {0} × Span) → Hop
hop_from p = record { sign = p.0.0; mark = p.0.1; target = p.1.1 }

pub hop_piece : Piece hop never (λ _. never)
hop_piece = via_piece hop_to hop_from (λ _. refl) (next (marks_piece signs) (next (fixed_piece kind.Arrow) named_piece))

pub hop_starts : Starts hop (by_kind opens_sign)
hop_starts = sequence_starts (λ h. (h.sign, h.mark)) _ (marks_starts signs)

-- path = ID hop { hop } .

abbrev Trail : Type 0
Trail = Span × (Hop × List Hop)

abbrev trail : Trail → List Symbol
trail = both name (both hop (flat_map hop))

-- an edge's sign, and what follows it
abbrev behind : sign_nodes.Sign.Sign → Span → List contract_nodes.Edge.Edge → Span → Hop × List Hop
behind sign mark [] target = (record { sign = sign; mark = mark; target = target }, [])
behind sign mark (e ∷ es) target = (record { sign = sign; mark = mark; target = e.message }, (behind e.sign e.mark es target).0 ∷ (behind e.sign e.mark es target).1)

abbrev trail_of : PathTree → Trail
trail_of p = (p.first.message, behind p.first.sign p.first.mark p.others p.target)

-- a name, and the edges that begin with it
abbrev edges_from : Span → List Hop → List contract_nodes.Edge.Edge × Span
edges_from span [] = ([], span)
edges_from span (h ∷ hs) = (record { message = span; sign = h.sign; mark = h.mark } ∷ (edges_from h.target hs).0, (edges_from h.target hs).1)

abbrev path_of : Trail → PathTree
path_of t = record { first = record { message = t.0; sign = t.1.0.sign; mark = t.1.0.mark }; others = (edges_from t.1.0.target t.1.1).0; target = (edges_from t.1.0.target t.1.1).1 }

behind_sign : (s : sign_nodes.Sign.Sign) (m : Span) (es : List contract_nodes.Edge.Edge) (target : Span) → (behind s m es target).0.sign ≡ s
behind_sign s m [] target = refl
behind_sign s m (e ∷ es) target = refl

behind_mark : (s : sign_nodes.Sign.Sign) (m : Span) (es : List contract_nodes.Edge.Edge) (target : Span) → (behind s m es target).0.mark ≡ m
behind_mark s m [] target = refl
behind_mark s m (e ∷ es) target = refl

edges_back : (s : sign_nodes.Sign.Sign) (m : Span) (es : List contract_nodes.Edge.Edge) (target : Span) → edges_from (behind s m es target).0.target (behind s m es target).1 ≡ (es, target)
edges_back s m [] target = refl
edges_back s m (e ∷ es) target =
    let h = edges_back e.sign e.mark es target in
    λ i. (record { message = e.message; sign = behind_sign e.sign e.mark es target i; mark = behind_mark e.sign e.mark es target i } ∷ (h i).0, (h i).1)

behind_back : (h : Hop) (hs : List Hop) → behind h.sign h.mark (edges_from h.target hs).0 (edges_from h.target hs).1 ≡ (h, hs)
behind_back h [] = refl
behind_back h (g ∷ gs) =
    let e = behind_back g gs in
    λ i. (h, (e i).0 ∷ (e i).1)

trail_back : (p : PathTree) → path_of (trail_of p) ≡ p
trail_back p =
    let e = edges_back p.first.sign p.first.mark p.others p.target in
    λ i. record { first = record { message = p.first.message; sign = behind_sign p.first.sign p.first.mark p.others p.target i; mark = behind_mark p.first.sign p.first.mark p.others p.target i }; others = (e i).0; target = (e i).1 }

path_back : (t : Trail) → trail_of (path_of t) ≡ t
path_back t = λ i. (t.0, behind_back t.1.0 t.1.1 i)

behind_spelled : (s : sign_nodes.Sign.Sign) (m : Span) (es : List contract_nodes.Edge.Edge) (target : Span) → hop (behind s m es target).0 ++ flat_map hop (behind s m es target).1 ≡ token_at (sign_word s) m ++ (word kind.Arrow ++ (flat_map edge es ++ name target))
behind_spelled s m [] target = refl
behind_spelled s m (e ∷ es) target = ap (λ t. token_at (sign_word s) m ++ (word kind.Arrow ++ (name e.message ++ t))) (behind_spelled e.sign e.mark es target)

trail_spelled : (p : PathTree) → trail (trail_of p) ≡ path p
trail_spelled p = ap (λ t. name p.first.message ++ t) (behind_spelled p.first.sign p.first.mark p.others p.target)

hops_piece : Piece (flat_map hop) (by_kind opens_sign) (λ _. by_kind opens_sign)
hops_piece = many_piece hop_starts splits_self hop_piece

pub path_piece : Piece path (by_kind opens_sign) (λ _. by_kind opens_sign)
path_piece = same_piece trail_spelled (λ p r h. h) (via_piece trail_of path_of trail_back (next named_piece (next hop_piece hops_piece)))

trail_fails : {old new : List Symbol} → Fails trail (by_kind opens_sign) old new → Fails path (by_kind opens_sign) old new
trail_fails {old} {new} h = same_fails trail_spelled (via_fails trail_of path_of path_back h)

-- a path fails if its first name, its first hop or a further hop does

pub path_name_fails : {old new : List Symbol} → Fails name never old new → Fails path (by_kind opens_sign) old new
path_name_fails {old} {new} h = trail_fails (fails_here h (next hop_piece hops_piece))

pub path_hop_fails : {old mid new : List Symbol} (span : Span) → (old ≡ name span ++ mid) × Stops never mid → Fails hop never mid new → Fails path (by_kind opens_sign) old new
path_hop_fails {old} {mid} {new} span read h = trail_fails (fails_after span named_piece read (fails_here h hops_piece))

pub path_more_fails : {old mid new : List Symbol} (p : PathTree) → old ≡ path p ++ mid → leads (by_kind opens_sign) mid ≡ true → Fails hop never mid new → Fails path (by_kind opens_sign) old new
path_more_fails {old} {mid} {new} p read more h =
    let t = trail_of p in
    let split : old ≡ name t.0 ++ (hop t.1.0 ++ (flat_map hop t.1.1 ++ mid)) =
    read ∙ ap (λ l. l ++ mid) (sym (trail_spelled p)) ∙ ap (λ l. name t.0 ++ l) (append_assoc (hop t.1.0) (flat_map hop t.1.1) mid) in
    trail_fails (fails_after t.0 named_piece (split, stops_never (hop t.1.0 ++ (flat_map hop t.1.1 ++ mid))) (fails_after t.1.0 hop_piece (refl, stops_never (flat_map hop t.1.1 ++ mid)) (many_fails hop_piece hop_starts splits_self ended_leaves t.1.1 refl more h)))
