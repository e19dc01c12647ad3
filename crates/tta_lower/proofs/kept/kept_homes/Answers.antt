use Rattle.std.proofs.Common.{◌≡◌, ◌∙◌, ap, length, filter, List, Bool, arith}
use Rattle.std.proofs.lemmas.List.{length-replicate}
use Rattle.tta_lower.specs.Cited.{count_of}
use Rattle.tta_lower.specs.Plan.{homes_in, live_in}
use Rattle.tta_lower.specs.Lower.{numbers, owner_of}
use Rattle.tta_lower.specs.Tables.{marked}
use Rattle.tta_lower.specs.Layout.{vars_of}
use Rattle.tta_lower.proofs.Marks.{kept_same, unmarked}
use Rattle.tta_lower.proofs.kept.kept_homes.Goals as goal

pub mark_all-requires-clause-none : goal.mark_all-requires-clause-none
mark_all-requires-clause-none c = λ k lt.
    let size : length c.in_ok-marks.marks.items ≡ c.count-count.result = ap length c.in_ok-marks.ensures ∙ length-replicate _ _ in
    unmarked c.count-count.result k c.in_ok-marks.marks.items c.in_ok-marks.ensures (omega (arith, lt, size))

pub returns : goal.returns
returns c =
    let plan = c.args.plan.now in
    let owner = owner_of c.args.part in
    kept_same (homes_in plan) (vars_of plan.p.now owner) owner (live_in plan c.args.part) (count_of plan.homes.now) c.mark_all.new.marks.items c.in_ok-kept.kept.items
    (c.mark_all.ensures.size ∙ ap length c.in_ok-marks.ensures ∙ length-replicate _ _ ∙ c.count-count.ensures) c.mark_all.ensures.marks
    (c.in_ok-kept.ensures ∙ ap (λ (l : List Bool). filter (marked l) (numbers 0 (length l))) c.as_slice.ensures.value)
