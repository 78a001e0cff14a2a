-- The method that a name means, and the arguments that are given for its parameters.
use Rattle.std.proofs.Common.{◌≡◌, ℕ, ◌+◌, ◌<◌, List, [], ◌∷◌, ◌++◌, length, map, take, get_or, sym, refl, ap, ◌∙◌, append_assoc, append-nil, Bor, Iter, ◌⊎◌, inl, inr}
use Rattle.std.specs.Prelude.{Option, None, Some, option_map, option_and_then, slice_get}
use Rattle.std.specs.Iterator.Adapters.{zip_first, zip_second}
use Rattle.std.specs.Slice.Iter.{iter_rest}
use Rattle.std.specs.declared.iter.Zip.{Zip}
use Rattle.std.proofs.iter.Yields.{fronts}
use Rattle.std.proofs.lemmas.Grind.{flat_map-append}
use Rattle.std.proofs.lemmas.Iterator.{zips}
use Rattle.std.proofs.lemmas.List.{take_more, map-append}
use Rattle.std.proofs.lemmas.Option.{slice_get-map}
use Rattle.std.proofs.lemmas.Slice.Zip.{Zip-more, either_empty_from_Zip}
use Rattle.source.specs.declared.place.Place.{Place}
use Rattle.source.specs.declared.token.Span.{Span}
use Rattle.tree.specs.Expressions.{ExpressionTree}
use Rattle.tree.specs.ExpressionTrees.{expression_tree}
use Rattle.tree.specs.Trees.{ItemTree, DefinitionTree, Contract, Struct, Class, ClassTree, item_tree, definition_tree, method_tree}
use Rattle.tree.specs.declared.class as made
use Rattle.tree.specs.declared.item as tree
use Rattle.tree.specs.declared.class.Parameter.{Parameter}
use Rattle.tree.specs.declared.expression.Expression.{Expression}
use Rattle.declarations.specs.Declarations.{first_among}
use Rattle.declarations.specs.ItemMistakes.{methods_in}
use Rattle.declarations.specs.Program.{ProgramText, Numbered, as_class, item_at}
use Rattle.program.specs.Statements.{CallModel}
use Rattle.program.specs.declared.call.Argument.{Argument}
use Rattle.program.specs.declared.number.MethodId.{MethodId}
use Rattle.program.specs.declared.statement.Mention.{Mention}
use Rattle.resolving.specs.Callees.{NumberedMethod, methods_before, numbered_method, method_at}
use Rattle.resolving.specs.Locals.{LocalFrame}
use Rattle.resolving.specs.Reads.{reads}
use Rattle.resolving.specs.Steps.{AddsReads}
use Rattle.resolving.specs.Plain.{argument_reads, arguments, argument_of, lone}
use Rattle.resolving.specs.declared.locals.Locals.{Locals}

-- the class of an item, with its index
abbrev class_in : ℕ → Option ItemTree → Option (Numbered ClassTree)
class_in class item = option_and_then (λ i. option_map (λ c. (class, c)) (as_class i.definition)) item

-- the index in a class of the first method with this name, and that method
abbrev index_in : List ℕ → Span → Option (Numbered ClassTree) → Option ℕ
index_in text name c = option_and_then (λ c. first_among text (map (λ m. m.name) c.1.methods) name) c

abbrev found_in : List ℕ → Span → ℕ → Option (Numbered ClassTree) → Option NumberedMethod
found_in text name before c = option_and_then (λ c. option_and_then (numbered_method before c.1.methods) (first_among text (map (λ m. m.name) c.1.methods) name)) c

in_definition : (text : List ℕ) (class : ℕ) (name : Span) (before index : ℕ) (d : DefinitionTree) → Some index ≡ index_in text name (option_map (λ c. (class, c)) (as_class d))
    → found_in text name before (option_map (λ c. (class, c)) (as_class d)) ≡ numbered_method before (methods_in d) index
in_definition text class name before index (Contract c) h = cc
in_definition text class name before index (Struct s) h = cc
in_definition text class name before index (Class c) h = ap (option_and_then (numbered_method before c.methods)) (sym h)

-- the method at the index that the name has in the class
pub method_there : (p : ProgramText) (class : ℕ) (name : Span) (index : ℕ) (i : ItemTree) → Some index ≡ option_and_then (λ c. first_among p.text (map (λ m. m.name) c.1.methods) name) (item_at as_class p class) → slice_get p.items class ≡ Some i
    → method_at p class name ≡ numbered_method (methods_before p.items class) (methods_in i.definition) index
method_there p class name index i h at =
    let before = methods_before p.items class in
    ap (λ o. found_in p.text name before (class_in class o)) at
    ∙ in_definition p.text class name before index i.definition (h ∙ ap (λ o. index_in p.text name (class_in class o)) at)

-- the callee that the code builds from its look-ups is the method that the name means
pub callee_is : (p : ProgramText) (class : ℕ) (name : Span) (index v : ℕ) (items : List tree.Item.Item) (i : tree.Item.Item) (methods : List made.Method.Method) (m : made.Method.Method) → map item_tree items ≡ p.items
    → Some index ≡ option_and_then (λ c. first_among p.text (map (λ m. m.name) c.1.methods) name) (item_at as_class p class) → slice_get items class ≡ Some i
    → map method_tree methods ≡ methods_in (definition_tree i.definition) → slice_get methods index ≡ Some m → v ≡ methods_before (map item_tree items) class
    → Some (record { number = v + index; method = method_tree m }) ≡ method_at p class name
callee_is p class name index v items i methods m same found at within is before =
    let item = sym (ap (λ l. slice_get l class) same) ∙ slice_get-map item_tree items class ∙ ap (option_map item_tree) at in
    let method = sym (ap (λ l. slice_get l index) within) ∙ slice_get-map method_tree methods index ∙ ap (option_map method_tree) is in
    let counted = before ∙ ap (λ l. methods_before l class) same in
    ap (λ n. Some (record { number = n + index; method = method_tree m })) counted
    ∙ sym (ap (option_map (λ x. record { number = methods_before p.items class + index; method = x })) method)
    ∙ sym (method_there p class name index (item_tree i) found item)

-- what the first n arguments read
abbrev pub read_to : ProgramText → ℕ → List Expression → ℕ → LocalFrame → List Mention
read_to p own es n f = argument_reads p own f (map expression_tree (take n es))

-- one more argument
pub read_more : (p : ProgramText) (own : ℕ) (es : List Expression) (n : ℕ) (e : Expression) (locals : Locals) (old now new : List Mention) → n < length es → e ≡ get_or es n e
    → AddsReads p.text locals (read_to p own es n) old now → AddsReads p.text locals (λ f. reads p.text f.locals (expression_tree e)) now new → AddsReads p.text locals (read_to p own es (n + 1)) old new
read_more p own es n e locals old now new lt is before adds = record {
  all = λ f frame.
      let read : ExpressionTree → List Mention = reads p.text f.locals in
      let so = read_to p own es n f in
      let here = read (expression_tree e) in
      let taken = ap (map expression_tree) (take_more es n e lt ∙ ap (λ x. take n es ++ x ∷ []) (sym is)) ∙ map-append expression_tree (take n es) (e ∷ []) in
      let more : read_to p own es (n + 1) f ≡ so ++ here = ap (argument_reads p own f) taken ∙ flat_map-append read (map expression_tree (take n es)) (expression_tree e ∷ []) ∙ ap (λ l. so ++ l) (append-nil here) in
      adds.all f frame ∙ ap (λ l. l ++ here) (before.all f frame) ∙ append_assoc old so here ∙ ap (λ l. old ++ l) (sym more);
}

-- the arguments so far, and then those that the rest of both lists gives
abbrev pub given_to_end : ProgramText → ℕ → LocalFrame → List Argument → Zip (Iter Parameter) (Iter Expression) → List Argument
given_to_end p own f list s = list ++ arguments p own f (iter_rest (zip_first s)) (map expression_tree (iter_rest (zip_second s)))

-- before the first parameter
pub given_first : (p : ProgramText) (own : ℕ) (f : LocalFrame) (list : List Argument) (s : Zip (Iter Parameter) (Iter Expression)) (params : List Parameter) (es : List Expression) → list ≡ [] → iter_rest (zip_first s) ≡ params → iter_rest (zip_second s) ≡ es
    → given_to_end p own f list s ≡ arguments p own f params (map expression_tree es)
given_first p own f list s params es none first second =
    ap (λ l. given_to_end p own f l s) none
    ∙ ap (λ xs. arguments p own f xs (map expression_tree (iter_rest (zip_second s)))) first
    ∙ ap (λ ys. arguments p own f params (map expression_tree ys)) second

-- one more parameter
pub given_more : (p : ProgramText) (own : ℕ) (f : LocalFrame) (list : List Argument) (s t : Zip (Iter Parameter) (Iter Expression)) (r : Option (Bor Parameter × Bor Expression)) (q : Bor Parameter × Bor Expression) → r ≡ Some q → zips fronts fronts s r t
    → given_to_end p own f list s ≡ given_to_end p own f (list ++ argument_of q.0.now (lone p own f (expression_tree q.1.now))) t
given_more p own f list s t r q is step =
    let m = Zip-more s t r q is step in
    let here = argument_of q.0.now (lone p own f (expression_tree q.1.now)) in
    ap (λ xs. list ++ arguments p own f xs (map expression_tree (iter_rest (zip_second s)))) m.0
    ∙ ap (λ es. list ++ arguments p own f (q.0.now ∷ iter_rest (zip_first t)) (map expression_tree es)) m.1
    ∙ sym (append_assoc list here (arguments p own f (iter_rest (zip_first t)) (map expression_tree (iter_rest (zip_second t)))))

none_given : (p : ProgramText) (own : ℕ) (f : LocalFrame) (params : List Parameter) → arguments p own f params [] ≡ []
none_given p own f [] = refl
none_given p own f (x ∷ params) = refl

ended : (p : ProgramText) (own : ℕ) (f : LocalFrame) (list : List Argument) (params : List Parameter) (es : List Expression) → (params ≡ []) ⊎ (es ≡ []) → list ++ arguments p own f params (map expression_tree es) ≡ list
ended p own f list params es (inl none) = ap (λ xs. list ++ arguments p own f xs (map expression_tree es)) none ∙ append-nil list
ended p own f list params es (inr none) = ap (λ xs. list ++ arguments p own f params (map expression_tree xs)) none ∙ ap (λ l. list ++ l) (none_given p own f params) ∙ append-nil list

-- once either list is at its end, no more arguments follow
pub given_all : (p : ProgramText) (own : ℕ) (f : LocalFrame) (list : List Argument) (s t : Zip (Iter Parameter) (Iter Expression)) (r : Option (Bor Parameter × Bor Expression)) → r ≡ None → zips fronts fronts s r t → given_to_end p own f list s ≡ list
given_all p own f list s t r is step = ended p own f list (iter_rest (zip_first s)) (iter_rest (zip_second s)) (either_empty_from_Zip s t r is step)

-- a call with these parts
abbrev pub call_with : List Mention → Place → MethodId → List Argument → Option Mention → List Mention → CallModel
call_with reads place method arguments target behind = record { reads = reads; place = place; method = method; arguments = arguments; target = target; behind = behind }

-- calls with equal parts are equal
pub same_call : (method : MethodId) (target : Option Mention) (behind : List Mention) (r s : List Mention) (x y : Place) (a b : List Argument) → r ≡ s → x ≡ y → a ≡ b → call_with r x method a target behind ≡ call_with s y method b target behind
same_call method target behind r s x y a b reads index args =
    ap (λ l. call_with l x method a target behind) reads ∙ ap (λ l. call_with s l method a target behind) index ∙ ap (λ l. call_with s y method l target behind) args
