-- Parameters of a method, one after another.
use Rattle.std.proofs.Common.{◌≡◌, ℕ, ◌+◌, ◌<◌, List, [], ◌∷◌, ◌++◌, length, take, get_or, sym, ap, ◌∙◌, append_assoc, append-nil}
use Rattle.std.proofs.lemmas.List.{take_more}
use Rattle.declarations.specs.declared.mistake.Mistake.{Mistake}
use Rattle.tree.specs.declared.class as made
use Rattle.declarations.specs.Mistakes.{Adds}
use Rattle.names.specs.Frames.{Turned}
use Rattle.names.specs.Methods.{parameter_turn, parameters_turn}
use Rattle.declarations.specs.Program.{ProgramText}
use Rattle.names.specs.Variables.{NameFrame, CheckedPiece, turn, before, follow}
use Rattle.names.specs.declared.variables.ScopeVariables.{ScopeVariables}
use Rattle.declarations.proofs.AddLemmas.{adds_then}

pub turned_before : {text : List ℕ} {old mid new : List Mistake} {found : List Mistake} {v : ScopeVariables} {t : CheckedPiece} → Adds old mid found → Turned text mid new v t → Turned text old new v (before found t)
turned_before first second = record { found = adds_then first second.found; frame = second.frame }

pub turned_follow : {text : List ℕ} {old mid new : List Mistake} {v w : ScopeVariables} {t : CheckedPiece} (next : NameFrame → CheckedPiece) → Turned text old mid v t → Turned text mid new w (next t.frame) → Turned text old new w (follow t next)
turned_follow next first second = record { found = adds_then first.found second.found; frame = second.frame }

parameters_push : (p : ProgramText) (params : List made.Parameter.Parameter) (x : made.Parameter.Parameter) (f : NameFrame) → parameters_turn p (params ++ x ∷ []) f ≡ follow (parameters_turn p params f) (parameter_turn p x)
parameters_push p [] x f = ap (λ l. turn l (parameter_turn p x f).frame) (append-nil (parameter_turn p x f).found)
parameters_push p (y ∷ params) x f =
    let here = parameter_turn p y f in
    let rest = parameters_turn p params here.frame in
    ap (before here.found) (parameters_push p params x here.frame)
    ∙ ap (λ l. turn l (parameter_turn p x rest.frame).frame) (sym (append_assoc here.found rest.found (parameter_turn p x rest.frame).found))

-- one more parameter
pub parameters_more : (p : ProgramText) (params : List made.Parameter.Parameter) (i : ℕ) (d : made.Parameter.Parameter) (f : NameFrame) → i < length params
    → parameters_turn p (take (i + 1) params) f ≡ follow (parameters_turn p (take i params) f) (parameter_turn p (get_or params i d))
parameters_more p params i d f lt = ap (λ l. parameters_turn p l f) (take_more params i d lt) ∙ parameters_push p (take i params) (get_or params i d) f
