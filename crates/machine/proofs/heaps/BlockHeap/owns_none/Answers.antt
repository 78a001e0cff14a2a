use Rattle.std.proofs.Common.{◌≡◌, ◌<◌, ◌==◌, ap, sym, ◌∙◌, length, arith}
use Rattle.std.proofs.lemmas.Bool.{le-leb}
use Rattle.std.proofs.lemmas.List.{get_or_past, get_or_read}
use Rattle.machine.specs.BlockViews.{blocks_model}
use Rattle.machine.specs.Heaps.{owned_by}
use Rattle.machine.proofs.ChangeLemmas.{eqb_same}
use Rattle.machine.proofs.CountLemmas.{none_owned}
use Rattle.machine.proofs.heaps.BlockHeap.owns_none.Goals as goal

pub returns-then-process-len : goal.returns-then-process-len
returns-then-process-len c =
    let bs = blocks_model c.args.self.now.blocks.items in
    let counts = c.args.self.now.counts.items in
    let all : c.len.result ≡ length counts = c.len.ensures ∙ c.args.self.now.counts.ok.0 in
    let none : owned_by bs c.args.process ≡ 0 = sym (c.args.self.now.kept.counted.counts_are c.args.process) ∙ get_or_past counts c.args.process 0 (omega arith) in
    le-leb c.len.result c.args.process (omega arith) ∙ (sym (eqb_same (owned_by bs c.args.process) 0 none) ∙ none_owned bs c.args.process)

pub returns-else-process-len : goal.returns-else-process-len
returns-else-process-len c =
    let bs = blocks_model c.args.self.now.blocks.items in
    let counts = c.args.self.now.counts.items in
    let all : c.len.result ≡ length counts = c.len.ensures ∙ c.args.self.now.counts.ok.0 in
    let short : c.args.process < length counts = omega arith in
    let count : c.index.result.now ≡ owned_by bs c.args.process = get_or_read counts c.args.process c.index.result.now short c.index.ensures 0 ∙ c.args.self.now.kept.counted.counts_are c.args.process in
    ap (λ n. n == 0) count ∙ none_owned bs c.args.process
