use Rattle.std.proofs.Common.{◌∙◌, ap}
use Rattle.tta_ifconv.specs.Cited.{Program}
use Rattle.tta_ifconv.proofs.Tabling.{closed_there, procs_more}
use Rattle.tta_ifconv.proofs.conversion.converted_procs.Goals as goal

pub converted_proc-requires-clause-closed : goal.converted_proc-requires-clause-closed
converted_proc-requires-clause-closed c =
    closed_there (record { procs = c.p.inside.procs; main = c.p.inside.main; init = c.p.inside.init }) c.as_slice-q-items.result.now c.loop-q.q-index c.q-item.result
    c.p.invariant c.as_slice-q-items.ensures c.loop-q-test.true c.q-item.is

pub loop-q-preserved : goal.loop-q-preserved
loop-q-preserved c =
    procs_more c.as_slice-q-items.result.now c.args.p.now.procs c.loop-q.new c.push.new.self c.loop-q.q-index c.q-item.result c.in_ok-proc.proc
    c.loop-q.invariant (c.as_slice-q-items.ensures ∙ ap (λ (p : Program). p.procs) c.p.view_is) c.loop-q-test.true c.q-item.is c.in_ok-proc.ensures c.in_ok-push.ensures.ok
