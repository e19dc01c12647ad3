use Rattle.tta_pretty.proofs.Pushing.{procs_short}
use Rattle.tta_pretty.proofs.print.print_program.Goals as goal

pub push_procs-requires-clause-short : goal.push_procs-requires-clause-short
push_procs-requires-clause-short g c =
    procs_short (record { procs = c.p.inside.procs; main = c.p.inside.main; init = c.p.inside.init }) c.as_slice-2.result.now c.p.invariant c.as_slice-2.ensures
