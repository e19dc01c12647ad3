use Rattle.std.proofs.Common.{◌++◌, ◌∷◌, [], List, ℕ, sym, ◌∙◌, ap}
use Rattle.tta_list.proofs.Lists.{then_more}
use Rattle.tta_list.proofs.Results.{onward}
use Rattle.tta_hardware.specs.Signals.{Signal as Named}
use Rattle.tta_rtl.specs.Cited.{Controls, GoalNow, EndsNow, Lands, Asks, Gives, Goes, NextPc, Puts, PutWord}
use Rattle.tta_rtl.specs.Texts.{wire_of, wires_text}
use Rattle.tta_rtl.proofs.Texts.{wires_append}
use Rattle.tta_rtl.proofs.control.push_control.Goals as goal

pub returns : goal.returns
unfolding wire_of
returns c =
    let m = c.args.on.now.m.now in
    let old = c.args.out.now.items in
    let before : List Named = Controls ∷ GoalNow ∷ EndsNow ∷ Lands ∷ Asks ∷ Gives ∷ [] in
    let after : List Named = NextPc ∷ Puts ∷ PutWord ∷ [] in
    onward c.push_outcome.result (λ last.
    then_more _ _ _ (wires_text m before) (wire_of m Goes ++ wires_text m after) c.in_ok-push_steering.ensures
    (then_more _ _ _ (wire_of m Goes) (wires_text m after) c.in_ok-push_goes.ensures last)
    ∙ ap (λ (t : List ℕ). old ++ t) (sym (wires_append m before (Goes ∷ after)))) c.push_outcome.ensures
