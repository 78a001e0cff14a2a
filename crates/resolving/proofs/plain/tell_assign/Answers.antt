use Rattle.std.proofs.Common.{sym, ap, ◌∙◌, ◌++◌, []}
use Rattle.tree.specs.ExpressionTrees.{expression_tree, target_tree}
use Rattle.tree.specs.Values.{value_tree}
use Rattle.tree.specs.declared.expression.ElementTarget as elements
use Rattle.tree.specs.declared.expression.FieldTarget.{FieldTarget}
use Rattle.resolving.specs.Around.{program_in}
use Rattle.resolving.specs.Locals.{mention}
use Rattle.resolving.specs.Reads.{reads}
use Rattle.resolving.specs.Plain.{assign_statement, part_taken, write_statement}
use Rattle.resolving.proofs.FormTwins.{of_variable, of_field, of_element}
use Rattle.resolving.proofs.PlainLemmas.{told_as}
use Rattle.resolving.proofs.plain.tell_assign.Goals as goal

pub returns-in-Variable : goal.returns-in-Variable
returns-in-Variable c = λ items own around.
    let p = program_in c.args.text.now items in
    let text = c.args.text.now in
    let locals = c.args.locals.now in
    let value = value_tree c.args.value.now in
    told_as text locals c.tell_assigned.result (λ f. assign_statement p own f c.mention-target.result value) (λ f. write_statement p own f (target_tree c.args.target.now) value)
    (λ f frame. ap (λ t. assign_statement p own f t value) (c.mention-target.ensures f frame) ∙ ap (λ t. write_statement p own f t value) (sym (ap target_tree c.in-Variable.is ∙ of_variable c.in-Variable.name)))
    (c.tell_assigned.ensures items own around)

pub returns-in-Field : goal.returns-in-Field
returns-in-Field c = λ items own around.
    let p = program_in c.args.text.now items in
    let text = c.args.text.now in
    let locals = c.args.locals.now in
    let value = value_tree c.args.value.now in
    told_as text locals c.tell_part.result (λ f. part_taken p own f c.new-index.result.items c.mention-whole.result value) (λ f. write_statement p own f (target_tree c.args.target.now) value)
    (λ f frame. ap (λ l. part_taken p own f l c.mention-whole.result value) c.new-index.ensures.items
    ∙ ap (λ w. part_taken p own f [] w value) (c.mention-whole.ensures f frame ∙ ap (λ (part : FieldTarget). mention text f.locals part.variable) c.deref.ensures)
    ∙ ap (λ t. write_statement p own f t value) (sym (ap target_tree c.in-Field.is ∙ of_field c.in-Field.part)))
    (c.tell_part.ensures items own around)

pub returns-in_ok-add_reads-in-Element : goal.returns-in_ok-add_reads-in-Element
returns-in_ok-add_reads-in-Element c = λ items own around.
    let p = program_in c.args.text.now items in
    let text = c.args.text.now in
    let locals = c.args.locals.now in
    let value = value_tree c.args.value.now in
    let whole = c.mention-whole-in-Element in
    let part = elements.out-ElementTarget c.in-Element.part.value in
    let read = elements.out-ElementTarget c.deref-in-Element-2.result.now in
    told_as text locals c.tell_part-in-Element.result (λ f. part_taken p own f c.add_reads.new.found.items whole.result value) (λ f. write_statement p own f (target_tree c.args.target.now) value)
    (λ f frame. ap (λ l. part_taken p own f l whole.result value)
    (c.in_ok-add_reads-in-Element.ensures.all f frame ∙ ap (λ l. l ++ reads text f.locals (expression_tree read.index)) c.new-reads.ensures.items
    ∙ ap (λ (e : elements.ElementTarget). reads text f.locals (expression_tree (elements.out-ElementTarget e).index)) c.deref-in-Element-2.ensures)
    ∙ ap (λ w. part_taken p own f (reads text f.locals (expression_tree part.index)) w value)
    (whole.ensures f frame ∙ ap (λ (e : elements.ElementTarget). mention text f.locals (elements.out-ElementTarget e).variable) c.deref-in-Element.ensures)
    ∙ ap (λ t. write_statement p own f t value) (sym (ap target_tree c.in-Element.is ∙ of_element c.in-Element.part)))
    (c.tell_part-in-Element.ensures items own around)
