use Rattle.std.proofs.Common.{◌<◌, ◌+◌, ◌-◌, ℕ, List, ◌++◌, sym, ap, ◌∙◌, arith}
use Rattle.std.proofs.lemmas.List.{append-nil}
use Rattle.tta_list.proofs.Lists.{then_more}
use Rattle.tta_list.proofs.Results.{onward}
use Rattle.tta_rtl.specs.Variables.{lines}
use Rattle.tta_rtl.specs.Dividing.{wires_at, wires_from}
use Rattle.tta_rtl.proofs.Divisions.{digits_more, no_digits}
use Rattle.tta_rtl.proofs.dividing.+push_digits.Goals as goal

pub returns : goal.returns
returns t c =
    let declares = c.args.declares in
    let done = c.args.done in
    let some : 0 < c.args.count = omega (arith, c.if-count-eq0.false) in
    onward c.push_digits.result (λ last.
    then_more _ _ _ (lines declares (wires_at done)) (lines declares (wires_from (done + 1) (c.args.count - 1))) c.in_ok-push_digit.ensures last
    ∙ ap (λ (text : List ℕ). c.args.out.now.items ++ text) (sym (digits_more declares done c.args.count some))) c.push_digits.ensures

pub returns-then-count-eq0 : goal.returns-then-count-eq0
returns-then-count-eq0 t c =
    let old = c.args.out.now.items in
    sym (append-nil old) ∙ ap (λ (text : List ℕ). old ++ text) (sym (no_digits c.args.declares c.args.done))
    ∙ ap (λ (n : ℕ). old ++ lines c.args.declares (wires_from c.args.done n)) (sym c.if-count-eq0.true)
