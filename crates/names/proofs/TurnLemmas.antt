-- Pieces of a method, one after another.
use Rattle.std.proofs.Common.{◌≡◌, ℕ, List, [], ◌++◌, length, take, sym, refl, ap, ◌∙◌, subst, append_assoc, append-nil}
use Rattle.std.specs.Prelude.{Result, Ok, Err, OnOk}
use Rattle.declarations.specs.declared.mistake.Mistake.{Mistake}
use Rattle.declarations.specs.Mistakes.{Adds}
use Rattle.names.specs.Frames.{IsNameFrame, Turned}
use Rattle.names.specs.Variables.{NameFrame, CheckedPiece, turn, before, follow, after_block}
use Rattle.names.specs.declared.variables.ScopeVariables.{ScopeVariables}
use Rattle.declarations.proofs.AddLemmas.{adds_then}

-- a piece that declares nothing
pub stays : {text : List ℕ} {old new : List Mistake} {v : ScopeVariables} {more : List Mistake} {f : NameFrame} → IsNameFrame text f v → Adds old new more → Turned text old new v (turn more f)
stays frame adds = record { found = adds; frame = frame }

-- of the piece `whole`, `rest` is still to come
pub record Ongoing (text : List ℕ) (old now : List Mistake) (v : ScopeVariables) (whole : CheckedPiece) (rest : NameFrame → CheckedPiece) : Type 0 where
  pub frame : NameFrame
  pub stands : IsNameFrame text frame v
  pub found : old ++ whole.found ≡ now ++ (rest frame).found
  pub after : whole.frame ≡ (rest frame).frame

pub begins : {text : List ℕ} {v : ScopeVariables} (old : List Mistake) (rest : NameFrame → CheckedPiece) (f : NameFrame) → IsNameFrame text f v → Ongoing text old old v (rest f) rest
begins old rest f frame = record { frame = f; stands = frame; found = refl; after = refl }

pub goes_on : {text : List ℕ} {old mid new : List Mistake} {v w : ScopeVariables} {whole : CheckedPiece} (go rest : NameFrame → CheckedPiece) → (o : Ongoing text old mid v whole (λ f. follow (go f) rest)) → Turned text mid new w (go o.frame) → Ongoing text old new w whole rest
goes_on {mid = mid} go rest o turned =
    let more = (go o.frame).found in
    let left = (rest (go o.frame).frame).found in
    record {
      frame = (go o.frame).frame;
      stands = turned.frame;
      found = o.found ∙ sym (append_assoc mid more left) ∙ ap (λ l. l ++ left) (sym turned.found.all);
      after = o.after;
    }

-- after the first piece, the rest is still to come
pub goes_first : {text : List ℕ} {old new : List Mistake} {w : ScopeVariables} (f : NameFrame) (go rest : NameFrame → CheckedPiece) → Turned text old new w (go f) → Ongoing text old new w (follow (go f) rest) rest
goes_first {old = old} f go rest turned =
    let more = (go f).found in
    let left = (rest (go f).frame).found in
    record {
      frame = (go f).frame;
      stands = turned.frame;
      found = sym (append_assoc old more left) ∙ ap (λ l. l ++ left) (sym turned.found.all);
      after = refl;
    }

pub adds_on : {text : List ℕ} {old mid new : List Mistake} {v : ScopeVariables} {whole : CheckedPiece} (more : NameFrame → List Mistake) (rest : NameFrame → CheckedPiece) → (o : Ongoing text old mid v whole (λ f. before (more f) (rest f))) → Adds mid new (more o.frame) → Ongoing text old new v whole rest
adds_on more rest o adds = goes_on (λ f. turn (more f) f) rest o (stays o.stands adds)

-- the last piece
pub ends_by : {text : List ℕ} {old mid new : List Mistake} {v w : ScopeVariables} {whole : CheckedPiece} (rest : NameFrame → CheckedPiece) → (o : Ongoing text old mid v whole rest) → Turned text mid new w (rest o.frame) → Turned text old new w whole
ends_by {text = text} {old = old} {mid = mid} {w = w} rest o turned = record {
  found = record { all = turned.found.all ∙ sym o.found };
  frame = subst (λ f. IsNameFrame text f w) (sym o.after) turned.frame;
}

pub ends : {text : List ℕ} {old new : List Mistake} {v : ScopeVariables} {whole : CheckedPiece} → Ongoing text old new v whole (turn []) → Turned text old new v whole
ends {new = new} o = ends_by (turn []) o (stays o.stands (record { all = sym (append-nil new) }))

-- the end of a scope
pub closes : {text : List ℕ} {old new : List Mistake} {w : ScopeVariables} (f : NameFrame) (t : CheckedPiece) → take (length f.variables) t.frame.variables ≡ f.variables → Adds old new t.found → IsNameFrame text (record { variables = take (length f.variables) t.frame.variables; heap = t.frame.heap }) w → Turned text old new w (after_block f t)
closes {text = text} {w = w} f t kept adds frame = record {
  found = adds;
  frame = subst (λ vs. IsNameFrame text (record { variables = vs; heap = t.frame.heap }) w) kept frame;
}

-- one piece, and then another
pub turned_then : {text : List ℕ} {old mid new : List Mistake} {v w : ScopeVariables} (t : CheckedPiece) (next : NameFrame → CheckedPiece) → Turned text old mid v t → Turned text mid new w (next t.frame) → Turned text old new w (follow t next)
turned_then t next first second = record { found = adds_then first.found second.found; frame = second.frame }

pub adds_before : {text : List ℕ} {old mid new : List Mistake} {w : ScopeVariables} (more : List Mistake) (t : CheckedPiece) → Adds old mid more → Turned text mid new w t → Turned text old new w (before more t)
adds_before more t adds turned = record { found = adds_then adds turned.found; frame = turned.frame }

-- a scope that is left
pub leaves : {text : List ℕ} {old new : List Mistake} {v w : ScopeVariables} {outer : ℕ} (f : NameFrame) (t : CheckedPiece) → outer ≡ length f.variables
    → ((g : NameFrame) → IsNameFrame text g v → IsNameFrame text (record { variables = take outer g.variables; heap = g.heap }) w)
    → take (length f.variables) t.frame.variables ≡ f.variables → Turned text old new v t → Turned text old new w (after_block f t)
leaves {text = text} {w = w} f t size left kept turned =
    closes f t kept turned.found (subst (λ n. IsNameFrame text (record { variables = take n t.frame.variables; heap = t.frame.heap }) w) size (left t.frame turned.frame))

-- the same of calls that may fail
pub on_stays : {T E : Type 0} (r : Result T E) (text : List ℕ) (old new : List Mistake) (v : ScopeVariables) (more : List Mistake) (f : NameFrame) → IsNameFrame text f v → OnOk r (Adds old new more) → OnOk r (Turned text old new v (turn more f))
on_stays (Ok x) text old new v more f frame adds = stays frame adds
on_stays (Err e) text old new v more f frame adds = tt

pub on_before : {T E : Type 0} (r : Result T E) (text : List ℕ) (old mid new : List Mistake) (w : ScopeVariables) (more : List Mistake) (t : CheckedPiece) → Adds old mid more → OnOk r (Turned text mid new w t) → OnOk r (Turned text old new w (before more t))
on_before (Ok x) text old mid new w more t adds turned = adds_before more t adds turned
on_before (Err e) text old mid new w more t adds turned = tt

pub on_ends : {T E : Type 0} (r : Result T E) (text : List ℕ) (old mid new : List Mistake) (v w : ScopeVariables) (whole : CheckedPiece) (rest : NameFrame → CheckedPiece) → (o : Ongoing text old mid v whole rest) → OnOk r (Turned text mid new w (rest o.frame)) → OnOk r (Turned text old new w whole)
on_ends (Ok x) text old mid new v w whole rest o turned = ends_by rest o turned
on_ends (Err e) text old mid new v w whole rest o turned = tt
