use Rattle.std.proofs.Common.{◌++◌, codes, string_bytes}
use Rattle.declarations.specs.Resolution.{printed_name}
use Rattle.remarks.proofs.PieceLemmas.{both_added}
use Rattle.remarks.proofs.mismatches.add_not_received.Goals as goal

pub returns : goal.returns
returns c =
    let end = c.side_words.result.now in
    let verb = codes " does not receive " in
    let name = printed_name c.args.listing.now.text.now c.args.word in
    rw (← c.side_words.ensures)
    (both_added c.add_name.result (string_bytes c.args.text.now) (string_bytes c.add.new.text) (string_bytes c.add_name.new.text) end (verb ++ name)
    c.in_ok-add.ensures
    (both_added c.add_name.result (string_bytes c.add.new.text) (string_bytes c.add-2.new.text) (string_bytes c.add_name.new.text) verb name
    c.in_ok-add-2.ensures c.add_name.ensures))
