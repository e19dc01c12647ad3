use Rattle.std.proofs.Common.{◌≡◌, slice_get, Some, true, ap, sym, ◌∙◌, subst}
use Rattle.std.specs.List.{list_all}
use Rattle.std.proofs.lemmas.Option.{slice_get-get_or}
use Rattle.tta_tacrun.specs.Cited.{Program}
use Rattle.tta_tacrun.specs.Flat.{has_variables}
use Rattle.tta_tacrun.proofs.Rules.{proc_variables}
use Rattle.tta_tacrun.proofs.code.flat_code.Goals as goal

pub flat_steps-requires : goal.flat_steps-requires
flat_steps-requires c =
    let p : Program = record { procs = c.p.inside.procs; main = c.p.inside.main; init = c.p.inside.init } in
    let q = c.q-item.result in
    let i = c.loop-q.q-index in
    let here : slice_get p.procs i ≡ Some q =
    ap (λ procs. slice_get procs i) (sym c.as_slice-procs.ensures)
    ∙ slice_get-get_or c.as_slice-procs.result.now i q c.loop-q-test.true ∙ ap Some (sym c.q-item.is) in
    subst (λ steps. list_all (has_variables q.vars) steps ≡ true) (sym c.as_slice.ensures) (proc_variables p c.p.invariant i q here)
