use Rattle.std.proofs.Common.{◌≡◌, take, ap, sym, ◌∙◌}
use Rattle.std.specs.Prelude.{◌||◌, not, is_some, position, None, map}
use Rattle.names.specs.Cases.{names_endpoint, awaits_closed}
use Rattle.names.specs.Heads.{is_before, key_at}
use Rattle.tables.specs.Words.{words_at, same_word}
use Rattle.names.proofs.HeadWords.{found_named, found_closed}
use Rattle.names.proofs.heads.Heads.is_lacking.Goals as goal
use Rattle.names.proofs.heads.Heads.is_lacking.Goals.{then-named, else-named}

pub returns : goal.returns
returns c = λ all h is endpoint.
    let text = c.args.text.now in
    let index = c.args.index in
    let name = c.args.endpoint in
    let named : c.stands_before-named.result ≡ names_endpoint text name (take index all) =
    c.stands_before-named.ensures ∙ ap (is_before index) (c.find.ensures _ is.endpoints ∙ ap (λ t. position (same_word t) (words_at text (map (λ k. k.endpoint) all))) c.slice-word.ensures) ∙ found_named text all name index in
    let closed : c.is_some-closed.result ≡ awaits_closed text name all =
    c.is_some-closed.ensures ∙ ap is_some (c.index_of.ensures text all is ∙ ap (λ t. key_at text (t, None) all) c.slice-word.ensures) ∙ found_closed text all name in
    let either : c.if-named.result ≡ (c.stands_before-named.result || c.is_some-closed.result) = elim c.if-named.branch [
      | then-named w ↦ w.result-is ∙ w.if-named.true ∙ sym (ap (λ b. b || c.is_some-closed.result) w.if-named.true)
      | else-named w ↦ w.result-is ∙ sym (ap (λ b. b || c.is_some-closed.result) w.if-named.false)
    ] in
    ap not (either ∙ ap (λ b. b || c.is_some-closed.result) named ∙ ap (λ b. names_endpoint text name (take index all) || b) closed)
    ∙ ap (λ n. not (names_endpoint text n (take index all) || awaits_closed text n all)) endpoint
