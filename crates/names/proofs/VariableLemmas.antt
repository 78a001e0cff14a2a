-- Variables that come into scope and go out of it.
use Rattle.std.proofs.Common.{◌≡◌, ℕ, if◌then◌else◌, ◌+◌, List, [], ◌∷◌, ◌++◌, Bool, true, sym, refl, ap, ◌∙◌, subst}
use Rattle.std.specs.Prelude.{Result, Ok, Err, OnOk, Option, None, Some, is_some, option_map}
use Rattle.std.proofs.lemmas.List.{map-append}
use Rattle.source.specs.declared.fault.Memory.{Memory}
use Rattle.source.specs.declared.token.Span.{Span}
use Rattle.tables.specs.Scoped.{entries_of, meaning_of, declared_in}
use Rattle.tables.specs.Words.{word_at}
use Rattle.tables.proofs.ScopedLemmas.{meaning_first}
use Rattle.declarations.specs.declared.mistake.Mistake.{Mistake}
use Rattle.declarations.specs.declared.value_type.ValueType.{ValueType}
use Rattle.declarations.specs.Mistakes.{Adds}
use Rattle.declarations.specs.Listed.{twice}
use Rattle.declarations.proofs.AddLemmas.{adds_none, adds_then}
use Rattle.names.specs.Frames.{IsNameFrame, Turned, variable_model, variable_of}
use Rattle.names.specs.Variables as model
use Rattle.names.specs.Variables.{NameFrame, CheckedPiece, turn, variable_named, entered_variable, past_heap, declared_variable}
use Rattle.names.specs.declared.variables.ScopeVariable.{ScopeVariable}
use Rattle.names.specs.declared.variables.ScopeVariables.{ScopeVariables}
use Rattle.names.proofs.TurnLemmas.{on_stays}

as_declared : (o : Option model.ScopeVariable) → option_map variable_model (option_map variable_of o) ≡ o
as_declared None = refl
as_declared (Some v) = refl

-- what a name means is the variable of this name
pub variable_found : (text : List ℕ) (f : NameFrame) (v : ScopeVariables) (name : Span) (word : List ℕ) → IsNameFrame text f v
    → word ≡ word_at text name → option_map variable_model (meaning_of (entries_of v.names) word) ≡ variable_named text f.variables name
variable_found text f v name word h at =
    let first = meaning_first text (λ (x : model.ScopeVariable). x.name) variable_of f.variables (word_at text name) in
    ap (λ w. option_map variable_model (meaning_of (entries_of v.names) w)) at
    ∙ ap (λ l. option_map variable_model (meaning_of l (word_at text name))) h.names
    ∙ ap (option_map variable_model) first ∙ as_declared (variable_named text f.variables name)

abbrev entered_by : Option model.ScopeVariable → Span → ValueType → NameFrame → CheckedPiece
entered_by known name k f = turn (twice name (option_map (λ v. v.name) known))
    (record { variables = if is_some known then f.variables else f.variables ++ record { name = name; ty = k } ∷ []; heap = f.heap })

-- a name that a variable in scope has
pub entered_known : (r : Result (Unit {0}) Memory) (text : List ℕ) (f : NameFrame) (v : ScopeVariables) (x known : ScopeVariable) (old new : List Mistake)
    → IsNameFrame text f v → Some (variable_model known) ≡ variable_named text f.variables x.name
    → OnOk r (Adds old new (twice x.name (Some known.name))) → OnOk r (Turned text old new v (entered_variable text x.name x.ty f))
entered_known r text f v x known old new h is adds =
    subst (λ o. OnOk r (Turned text old new v (entered_by o x.name x.ty f))) is
    (on_stays r text old new v (twice x.name (Some known.name)) f h adds)

-- a new name adds its variable
pub entered_new : (text : List ℕ) (f : NameFrame) (v w : ScopeVariables) (x : ScopeVariable) (word : List ℕ) (old : List Mistake)
    → IsNameFrame text f v → word ≡ word_at text x.name → None ≡ variable_named text f.variables x.name
    → entries_of w.names ≡ entries_of v.names ++ (word, x) ∷ [] → w.heap ≡ v.heap → Turned text old old w (entered_variable text x.name x.ty f)
entered_new text f v w x word old h at unnamed more heap =
    subst (λ o. Turned text old old w (entered_by o x.name x.ty f)) unnamed (record {
      found = adds_none old;
      frame = record {
        names = more ∙ ap (λ l. l ++ (word, x) ∷ []) h.names
            ∙ ap (λ q. declared_in text (λ (y : model.ScopeVariable). y.name) variable_of f.variables ++ (q, x) ∷ []) at
            ∙ sym (map-append _ f.variables (variable_model x ∷ []));
        heap = heap ∙ h.heap;
      };
    })

-- a variable of the exchange heap is counted and comes into scope
pub declared_counted : (text : List ℕ) (f : NameFrame) (v : ScopeVariables) (name : Span) (k : ValueType) (heap : Bool) (old mid new : List Mistake) (r : Result (Unit {0}) Memory) → heap ≡ true → Adds old mid (past_heap name f.heap)
    → OnOk r (Turned text mid new v (entered_variable text name k (record { variables = f.variables; heap = f.heap + 1 }))) → OnOk r (Turned text old new v (declared_variable text name k heap f))
declared_counted text f v name k heap old mid new (Err e) is first second = tt
declared_counted text f v name k heap old mid new (Ok u) is first second =
    subst (λ b. Turned text old new v (declared_variable text name k b f)) (sym is) (record { found = adds_then first second.found; frame = second.frame })
