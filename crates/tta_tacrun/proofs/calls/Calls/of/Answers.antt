use Rattle.std.proofs.Common.{◌≡◌, length, ap, ◌∙◌, arith}
use Rattle.std.proofs.lemmas.List.{length-map}
use Rattle.tta_tacrun.specs.Cited.{Program}
use Rattle.tta_tacrun.proofs.First.{calls_first}
use Rattle.tta_tacrun.proofs.Kept.{kept_first}
use Rattle.tta_tacrun.proofs.calls.Calls.of.Goals as goal
use Rattle.tta_program.proofs.Mains.{main-below as main_within}

pub invariant_of-result : goal.invariant_of-result
invariant_of-result c =
    let p : Program = record { procs = c.p.inside.procs; main = c.p.inside.main; init = c.p.inside.init } in
    let zeros = rw (← c.p.view_is) at c.in_ok-variables.ensures in
    let many : length c.in_ok-variables.variables.items ≡ length p.procs = ap length zeros ∙ length-map p.procs _ in
    kept_first c.in_ok-variables.variables.items _ c.in_ok-callers.callers.items _ c.in_ok-callers.ensures.items
    (omega (arith, many, main_within p c.p.invariant)) (omega (arith, c.in_ok-callers.ensures.exact, c.len.ensures))

pub returns-clause-first : goal.returns-clause-first
returns-clause-first c =
    let p : Program = record { procs = c.p.inside.procs; main = c.p.inside.main; init = c.p.inside.init } in
    rw (← c.p.view_is) (calls_first p c.in_ok-variables.variables.items c.in_ok-callers.callers.items (rw (← c.p.view_is) at c.in_ok-variables.ensures) c.in_ok-callers.ensures.items)
