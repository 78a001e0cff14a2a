use Rattle.declarations.proofs.types.heap_type_meant.Goals as goal

pub returns-in-Some : goal.returns-in-Some
returns-in-Some c = λ p scope. c.find.ensures p c.in-Some.noted scope.noted c.in-Some.is
