-- Variables that come into scope.
use Rattle.std.proofs.Common.{◌≡◌, ℕ, if◌then◌else◌, List, [], ◌∷◌, ◌++◌, length, map, Bool, sym, refl, ap, ◌∙◌, subst}
use Rattle.std.specs.Prelude.{Option, None, Some, is_some, option_map}
use Rattle.std.proofs.lemmas.List.{map-append, length-map}
use Rattle.source.specs.declared.token.Span.{Span}
use Rattle.tables.specs.Scoped.{entries_of, meaning_of, declared_in}
use Rattle.tables.specs.Words.{word_at}
use Rattle.tables.proofs.ScopedLemmas.{meaning_first}
use Rattle.program.specs.Methods.{variable_model}
use Rattle.program.specs.declared.types.HeapType.{HeapType}
use Rattle.program.specs.declared.number.VarId.{VarId}
use Rattle.resolving.specs.Frames.{IsLocalFrame, local_of, number_model}
use Rattle.resolving.specs.Locals as model
use Rattle.resolving.specs.Locals.{LocalFrame, local_named, number_of, with_local, with_variable, declared_heap}
use Rattle.resolving.specs.declared.locals.Declaration.{Declaration}
use Rattle.resolving.specs.declared.locals.Local.{Local}
use Rattle.resolving.specs.declared.locals.Locals.{Locals}
use Rattle.resolving.proofs.ScopeLemmas.{scoped}

-- what a name means is the variable of this name
pub local_found : (text : List ℕ) (f : LocalFrame) (l : Locals) (name : Span) (word : List ℕ) → IsLocalFrame text f l
    → word ≡ word_at text name → meaning_of (entries_of l.names) word ≡ option_map local_of (local_named text f.locals name)
local_found text f l name word h at = ap (meaning_of (entries_of l.names)) at ∙ ap (λ names. meaning_of names (word_at text name)) h.names
    ∙ meaning_first text (λ (x : model.Local). x.name) local_of f.locals (word_at text name)

-- whether a name means something is whether a variable in scope has it
local_there : (meaning : Option Local) (known : Option model.Local) → meaning ≡ option_map local_of known → is_some meaning ≡ is_some known
local_there meaning None is = ap is_some is
local_there meaning (Some x) is = ap is_some is

abbrev here : Declaration → Option ℕ → model.Local
here d number = record { name = d.name; ty = d.ty; number = number }

abbrev entered_if : Bool → Declaration → Option ℕ → LocalFrame → LocalFrame
entered_if taken d number f = scoped (if taken then f.locals else f.locals ++ here d number ∷ []) f.last f

-- a name that is already taken adds no variable
pub entered_taken : (text : List ℕ) (f : LocalFrame) (l : Locals) (d : Declaration) (number : Option ℕ) (known : Local) → IsLocalFrame text f l
    → Some known ≡ option_map local_of (local_named text f.locals d.name) → IsLocalFrame text (scoped (with_local text d number f.locals) f.last f) l
entered_taken text f l d number known h is = subst (λ b. IsLocalFrame text (entered_if b d number f) l) (local_there (Some known) (local_named text f.locals d.name) is) h

numbered : (number : Option VarId) → option_map number_of (number_model number) ≡ number
numbered None = refl
numbered (Some v) = refl

-- a new name adds its variable
pub entered_new : (text : List ℕ) (f : LocalFrame) (l m : Locals) (d : Declaration) (number : Option VarId) (word : List ℕ) → IsLocalFrame text f l
    → word ≡ word_at text d.name → None ≡ option_map local_of (local_named text f.locals d.name)
    → entries_of m.names ≡ entries_of l.names ++ (word, record { ty = d.ty; number = number }) ∷ [] → m.last ≡ l.last → m.variables.items ≡ l.variables.items
    → IsLocalFrame text (scoped (with_local text d (number_model number) f.locals) f.last f) m
entered_new text f l m d number word h at is more last variables =
    let in_scope = declared_in text (λ (x : model.Local). x.name) local_of f.locals in
    let new : Option VarId → Local = λ n. record { ty = d.ty; number = n } in
    subst (λ b. IsLocalFrame text (entered_if b d (number_model number) f) m) (local_there None (local_named text f.locals d.name) is) (record {
      names = more ∙ ap (λ names. names ++ (word, new number) ∷ []) h.names ∙ ap (λ w. in_scope ++ (w, new number) ∷ []) at
          ∙ ap (λ n. in_scope ++ (word_at text d.name, new n) ∷ []) (sym (numbered number))
          ∙ sym (map-append _ f.locals (here d (number_model number) ∷ []));
      last = ap number_model last ∙ h.last;
      variables = ap (map _) variables ∙ h.variables;
    })

-- a variable of the exchange heap that was declared is the last one in scope
pub heap_declared : (text : List ℕ) (f : LocalFrame) (l m : Locals) (d : Declaration) (held : HeapType) (n : ℕ) → IsLocalFrame text f l → n ≡ length l.variables.items
    → IsLocalFrame text (record { locals = with_local text d (Some n) f.locals; last = f.last; variables = with_variable text d held f.last f.variables }) m
    → IsLocalFrame text (declared_heap text d held f) (record { names = m.names; last = Some (number_of n); variables = m.variables })
heap_declared text f l m d held n h is both =
    let many : n ≡ length f.variables = is ∙ sym (length-map l.variables.items variable_model) ∙ ap length h.variables in
    subst (λ k. IsLocalFrame text (record { locals = with_local text d (Some k) f.locals; last = Some k; variables = with_variable text d held f.last f.variables }) (record { names = m.names; last = Some (number_of n); variables = m.variables })) many (record {
      names = both.names;
      last = refl;
      variables = both.variables;
    })
