use Rattle.std.proofs.Common.{slice_index_or}
use Rattle.std.proofs.lemmas.Bool.{and_parts}
use Rattle.std.proofs.lemmas.Option.{slice_get-get_or}
use Rattle.tta_list.proofs.Lists.{list_all_one}
use Rattle.tta_select.specs.Cited.{stated, At, RStep, Copy}
use Rattle.tta_lir.specs.declared.code.Place.TheVariants.{Reg}
use Rattle.tta_select.specs.Needs.{op_of_step, is_step_of, is_offered, fits_step}
use Rattle.tta_select.proofs.dispatch.put_steps.Goals as goal

pub put_step-requires : goal.put_step-requires
put_step-requires g c =
    let u = stated (λ v. (goal.OpUnit-dyn g v).unit_meaning v.1) c.args.units.now in
    let m = c.args.on.now.machine.now in
    let choice = c.args.on.now.choice.now in
    let steps = c.args.steps.now in
    let none : RStep = Copy (Reg 0) (At (Reg 0)) in
    let step = slice_index_or steps c.loop-step.step-index none in
    let there = slice_get-get_or steps c.loop-step.step-index none c.loop-step-test.true in
    record { inside = (and_parts (is_step_of m choice step) (is_offered m choice (op_of_step u step)) (list_all_one (fits_step u m choice) steps c.loop-step.step-index step c.requires.inside there)).0 }
