-- The names that a case binds, one after another.
use Rattle.std.proofs.Common.{◌≡◌, ℕ, zero, suc, ◌+◌, ◌<◌, ◌≤◌, List, [], ◌∷◌, ◌++◌, length, drop, get_or, Option, Some, None, sym, refl, ap, ◌∙◌, subst, arith, add-one, append_assoc, append-nil}
use Rattle.std.proofs.lemmas.List.{drop_all}
use Rattle.std.proofs.lemmas.Result.{on_ok_weaker}
use Rattle.std.specs.Prelude.{Result, OnOk, slice_get}
use Rattle.tree.specs.declared.statement.Bind.{Bind}
use Rattle.tree.specs.declared.contract.MessageParameter.{MessageParameter}
use Rattle.declarations.specs.Program.{ProgramText}
use Rattle.program.specs.declared.number.VarId.{VarId}
use Rattle.resolving.specs.Binds.{bind_told, binds_told, bound_as, one_number}
use Rattle.resolving.specs.Frames.{IsLocalFrame, number_model}
use Rattle.resolving.specs.Locals.{LocalFrame, with_declaration, next_number}
use Rattle.resolving.specs.Pieces.{ResolvedPiece, follow}
use Rattle.resolving.specs.Steps.{AddsBinds, IsResolvedPiece}
use Rattle.resolving.specs.declared.locals.Declaration.{Declaration}
use Rattle.resolving.specs.declared.locals.Locals.{Locals}
use Rattle.lemmas.proofs.Lists.{none_left}

-- a name that is declared is bound to its number
pub declared_bound : {T E : Type 0} (p : ProgramText) (param : Option MessageParameter) (b : Bind) (f : LocalFrame) (d : Declaration) (number : Option VarId) (old new : List VarId) (l : Locals) (r : Result T E)
    → d ≡ bound_as p param b.name b.ty → number_model number ≡ next_number d.held f → new ≡ old ++ one_number (number_model number) → OnOk r (IsLocalFrame p.text (with_declaration p.text d f) l) → OnOk r (AddsBinds p.text old new l (bind_told p param b f))
declared_bound p param b f d number old new l r is next adds frame =
    subst (λ e. OnOk r (AddsBinds p.text old new l (record { what = one_number (next_number e.held f); frame = with_declaration p.text e f }))) is
    (on_ok_weaker r (λ h. record { adds = adds ∙ ap (λ n. old ++ one_number n) next; frame = h }) frame)

-- of the whole, the numbers `now` are bound and `rest` is still to come
pub record Binding (text : List ℕ) (now : List VarId) (l : Locals) (whole : ResolvedPiece (List VarId)) (rest : LocalFrame → ResolvedPiece (List VarId)) : Type 0 where
  pub frame : LocalFrame
  pub stands : IsLocalFrame text frame l
  pub what : whole.what ≡ now ++ (rest frame).what
  pub after : whole.frame ≡ (rest frame).frame

-- before the first name, everything is still to come
pub none_bound : {text : List ℕ} {now : List VarId} {l : Locals} (rest : LocalFrame → ResolvedPiece (List VarId)) (f : LocalFrame) → now ≡ [] → IsLocalFrame text f l → Binding text now l (rest f) rest
none_bound rest f none frame = record { frame = f; stands = frame; what = ap (λ xs. xs ++ (rest f).what) (sym none); after = refl }

-- a name, and then the names after it
abbrev bound_next : ProgramText → Option MessageParameter → Bind → List MessageParameter → List Bind → LocalFrame → ResolvedPiece (List VarId)
bound_next p param b params binds f = follow (λ x xs. x ++ xs) (bind_told p param b f) (binds_told p params binds)

next_bound : (p : ProgramText) (params : List MessageParameter) (binds : List Bind) (i : ℕ) (d b : Bind) → i < length binds → b ≡ get_or binds i d → binds_told p (drop i params) (drop i binds) ≡ bound_next p (slice_get params i) b (drop (suc i) params) (drop (suc i) binds)
next_bound p params [] i d b lt is = absurd (omega (arith, lt))
next_bound p [] (c ∷ binds) zero d b lt is = ap (λ k. bound_next p None k [] binds) (sym is)
next_bound p (x ∷ params) (c ∷ binds) zero d b lt is = ap (λ k. bound_next p (Some x) k params binds) (sym is)
next_bound p [] (c ∷ binds) (suc i) d b lt is = ap (λ ps. binds_told p ps (drop i binds)) (sym (none_left i)) ∙ next_bound p [] binds i d b (omega (arith, lt)) is
next_bound p (x ∷ params) (c ∷ binds) (suc i) d b lt is = next_bound p params binds i d b (omega (arith, lt)) is

-- one more name
pub more_bound : {text : List ℕ} {now new : List VarId} {l m : Locals} {whole : ResolvedPiece (List VarId)} (p : ProgramText) (params : List MessageParameter) (binds : List Bind) (i : ℕ) (d b : Bind) (param : Option MessageParameter) → i < length binds → b ≡ get_or binds i d → param ≡ slice_get params i
    → (o : Binding text now l whole (binds_told p (drop i params) (drop i binds))) → AddsBinds text now new m (bind_told p param b o.frame) → Binding text new m whole (binds_told p (drop (i + 1) params) (drop (i + 1) binds))
more_bound {text = text} {now = now} {new = new} {m = m} {whole = whole} p params binds i d b param lt is at o h =
    let rest = binds_told p (drop (suc i) params) (drop (suc i) binds) in
    let turn = bind_told p param b o.frame in
    let next = next_bound p params binds i d b lt is ∙ ap (λ k. bound_next p k b (drop (suc i) params) (drop (suc i) binds)) (sym at) in
    let here = ap (λ (go : LocalFrame → ResolvedPiece (List VarId)). go o.frame) next in
    subst (λ n. Binding text new m whole (binds_told p (drop n params) (drop n binds))) (sym (add-one i)) (record {
      frame = turn.frame;
      stands = h.frame;
      what = o.what ∙ ap (λ (t : ResolvedPiece (List VarId)). now ++ t.what) here ∙ sym (append_assoc now turn.what (rest turn.frame).what) ∙ ap (λ l. l ++ (rest turn.frame).what) (sym h.adds);
      after = o.after ∙ ap (λ (t : ResolvedPiece (List VarId)). t.frame) here;
    })

-- after the last name, nothing is still to come
pub all_bound : {text : List ℕ} {now : List VarId} {l : Locals} {whole : ResolvedPiece (List VarId)} (p : ProgramText) (params : List MessageParameter) (binds : List Bind) (i : ℕ) → length binds ≤ i
    → Binding text now l whole (binds_told p (drop i params) (drop i binds)) → IsResolvedPiece text whole now l
all_bound {text = text} {now = now} {l = l} p params binds i le o =
    let here = ap (λ bs. binds_told p (drop i params) bs o.frame) (drop_all i binds le) in
    record {
      is = sym (o.what ∙ ap (λ (t : ResolvedPiece (List VarId)). now ++ t.what) here ∙ append-nil now);
      frame = subst (λ f. IsLocalFrame text f l) (sym (o.after ∙ ap (λ (t : ResolvedPiece (List VarId)). t.frame) here)) o.stands;
    }
