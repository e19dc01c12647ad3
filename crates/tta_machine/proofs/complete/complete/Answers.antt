use Rattle.std.proofs.Common.{◌≡◌, Ok, Err, None, sym, subst, ap, ap₂, ◌∙◌}
use Rattle.std.proofs.lemmas.Result.{err_from_is_err_and}
use Rattle.tta_machine.specs.Cited.{Machine}
use Rattle.tta_machine.specs.Text.{narrow_line}
use Rattle.tta_machine.specs.Whole.{WidthsEnd}
use Rattle.tta_machine.proofs.Completed.{whole_rules, whole_end, narrow_end}
use Rattle.tta_machine.proofs.complete.complete.Goals as goal

pub returns-in_err-check_widths : goal.returns-in_err-check_widths
returns-in_err-check_widths c =
    let d = c.args.draft in
    let bare = c.bare_of-bare in
    let e = c.in_err-check_widths.field-0.0 in
    let ends : WidthsEnd bare.result.machine bare.result.templates bare.result.lines (Err e) =
    subst (λ templates. WidthsEnd bare.result.machine templates bare.result.lines (Err e)) c.as_slice.ensures
    (subst (λ lines. WidthsEnd bare.result.machine c.as_slice.result.now lines (Err e)) c.as_slice-2.ensures c.in_err-check_widths.ensures) in
    let error = err_from_is_err_and c.from_residual-in_err-check_widths.result c.from_residual-in_err-check_widths.ensures.1 in
    rw (error.1, error.2) (narrow_end d c.in_ok-control.control bare.result.machine bare.result.templates bare.result.lines c.in_ok-control.ensures.control
    c.in_ok-control.ensures.bus bare.ensures.machine bare.ensures.templates bare.ensures.lines e ends)

pub whole-requires : goal.whole-requires
whole-requires c =
    let d = c.args.draft in
    let bare = c.bare_of-bare in
    let wide : narrow_line bare.result.machine bare.result.templates bare.result.lines ≡ None =
    sym (ap₂ (narrow_line bare.result.machine) c.as_slice.ensures c.as_slice-2.ensures) ∙ c.in_ok-check_widths.ensures in
    whole_rules d c.in_ok-control.control bare.result.machine bare.result.templates bare.result.lines c.in_ok-control.ensures.control
    c.in_ok-control.ensures.bus bare.ensures.machine bare.ensures.templates bare.ensures.lines c.requires wide

pub returns : goal.returns
returns c =
    let d = c.args.draft in
    let bare = c.bare_of-bare in
    let wide : narrow_line bare.result.machine bare.result.templates bare.result.lines ≡ None =
    sym (ap₂ (narrow_line bare.result.machine) c.as_slice.ensures c.as_slice-2.ensures) ∙ c.in_ok-check_widths.ensures in
    whole_end d c.in_ok-control.control bare.result.machine bare.result.templates bare.result.lines c.in_ok-control.ensures.control
    c.in_ok-control.ensures.bus bare.ensures.machine bare.ensures.templates bare.ensures.lines wide ∙ ap (λ (m : Machine). Ok m) (sym c.whole.ensures)
