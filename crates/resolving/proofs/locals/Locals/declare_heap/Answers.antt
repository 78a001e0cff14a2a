use Rattle.std.proofs.Common.{arith}
use Rattle.resolving.proofs.LocalLemmas.{heap_declared}
use Rattle.resolving.proofs.locals.Locals.declare_heap.Goals as goal

pub returns : goal.returns
returns c = λ f h.
    heap_declared c.args.text.now f c.args.self.now c.count.new.self c.args.declaration c.args.held c.len.result h (let size = c.args.self.now.variables.ok.0 in omega (arith, c.len.ensures)) (c.in_ok-count.ensures _ (c.in_ok-enter.ensures f h))
