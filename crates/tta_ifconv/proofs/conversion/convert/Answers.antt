use Rattle.std.proofs.Common.{◌∙◌, sym, subst}
use Rattle.tta_ifconv.specs.Cited.{Program, IsProgram}
use Rattle.tta_ifconv.proofs.Unique.{no_triangle_left}
use Rattle.tta_ifconv.proofs.Kept.{program_kept}
use Rattle.tta_ifconv.proofs.Tabling.{converted_whole}
use Rattle.tta_ifconv.proofs.conversion.convert.Goals as goal

pub invariant_of-result : goal.invariant_of-result
invariant_of-result c =
    let inside : Program = record { procs = c.p.inside.procs; main = c.p.inside.main; init = c.p.inside.init } in
    subst (λ init. IsProgram (record { procs = c.in_ok-procs.procs; main = c.p.inside.main; init = init })) (sym (c.in_ok-init.ensures ∙ c.as_slice.ensures))
    (program_kept inside _ (converted_whole inside c.args.p.now c.in_ok-procs.procs c.p.view_is c.in_ok-procs.ensures) c.p.invariant)

pub returns-clause-whole : goal.returns-clause-whole
returns-clause-whole c =
    let inside : Program = record { procs = c.p.inside.procs; main = c.p.inside.main; init = c.p.inside.init } in
    no_triangle_left inside _ (converted_whole inside c.args.p.now c.in_ok-procs.procs c.p.view_is c.in_ok-procs.ensures)
