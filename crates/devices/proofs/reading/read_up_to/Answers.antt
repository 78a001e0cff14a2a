use Rattle.std.proofs.Common.{refl, subst, sym, ◌∙◌, arith, rules}
use Rattle.std.specs.Io.KnownBytes.{Consumes}
use Rattle.std.proofs.KnownBytes.{Consumes-trans}
use Rattle.devices.proofs.BeginLemmas.{on_err_always}
use Rattle.devices.proofs.Parts.{longer}
use Rattle.devices.proofs.reading.read_up_to.Goals as goal

pub reads-preserved : goal.reads-preserved
reads-preserved g c =
    let kept = c.reads.invariant in
    let more = c.in_ok-extend_from_slice-in-Ok.ensures.items in
    record {
      long = longer _ _ _ c.in-Ok.n c.min-room.result c.args.most more (omega (arith, c.len.ensures, c.reads-test.true, c.reads.bytes.ok.0)) (omega (arith, c.min-room.ensures, c.len.ensures, c.reads.bytes.ok.0)) (search rules);
      bytes = subst (Consumes _ _) (sym more) (Consumes-trans _ _ _ _ _ kept.bytes c.in-Ok.ensures.bytes.0);
      same = c.in-Ok.ensures.failures ∙ kept.same;
    }

pub returns-in_err-extend_from_slice-in-Ok-clause-most :
    goal.returns-in_err-extend_from_slice-in-Ok-clause-most
returns-in_err-extend_from_slice-in-Ok-clause-most g c =
    let front = Consumes-trans _ _ _ c.reads.bytes.items _ c.reads.invariant.bytes c.in-Ok.ensures.bytes.0 in
    on_err_always c.from_residual.result (record {
      taken = _;
      few = longer c.reads.bytes.items _ _ c.in-Ok.n c.min-room.result c.args.most refl (omega (arith, c.len.ensures, c.reads-test.true, c.reads.bytes.ok.0)) (omega (arith, c.min-room.ensures, c.len.ensures, c.reads.bytes.ok.0)) (search rules);
      front = front;
    })
