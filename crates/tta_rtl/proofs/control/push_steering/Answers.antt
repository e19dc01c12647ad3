use Rattle.std.proofs.Common.{◌≡◌, ◌++◌, ◌∷◌, [], List, ℕ, OnOk, subst, sym, ◌∙◌}
use Rattle.std.proofs.lemmas.List.{append-nil}
use Rattle.tta_rtl.specs.Cited.{Controls, GoalNow, EndsNow, Lands, Asks, Gives}
use Rattle.tta_rtl.specs.Texts.{wires_text}
use Rattle.tta_rtl.proofs.UnitWires.{wire_more}
use Rattle.tta_rtl.proofs.control.push_steering.Goals as goal

pub returns : goal.returns
returns c =
    let m = c.args.on.now.m.now in
    let old = c.args.out.now.items in
    let s1 : c.push_controls.new.out.items ≡ old ++ wires_text m (Controls ∷ []) =
    c.in_ok-push_controls.ensures ∙ wire_more m [] Controls old old (sym (append-nil old)) in
    let s2 : c.push_goal.new.out.items ≡ old ++ wires_text m (Controls ∷ GoalNow ∷ []) =
    c.in_ok-push_goal.ensures ∙ wire_more m (Controls ∷ []) GoalNow old c.push_controls.new.out.items s1 in
    let s3 : c.push_ends.new.out.items ≡ old ++ wires_text m (Controls ∷ GoalNow ∷ EndsNow ∷ []) =
    c.in_ok-push_ends.ensures ∙ wire_more m (Controls ∷ GoalNow ∷ []) EndsNow old c.push_goal.new.out.items s2 in
    let s4 : c.push_lands.new.out.items ≡ old ++ wires_text m (Controls ∷ GoalNow ∷ EndsNow ∷ Lands ∷ []) =
    c.in_ok-push_lands.ensures ∙ wire_more m (Controls ∷ GoalNow ∷ EndsNow ∷ []) Lands old c.push_ends.new.out.items s3 in
    let s5 : c.push_asks.new.out.items ≡ old ++ wires_text m (Controls ∷ GoalNow ∷ EndsNow ∷ Lands ∷ Asks ∷ []) =
    c.in_ok-push_asks.ensures ∙ wire_more m (Controls ∷ GoalNow ∷ EndsNow ∷ Lands ∷ []) Asks old c.push_lands.new.out.items s4 in
    subst (λ (r : List ℕ). OnOk c.push_gives.result (c.push_gives.new.out.items ≡ r))
    (wire_more m (Controls ∷ GoalNow ∷ EndsNow ∷ Lands ∷ Asks ∷ []) Gives old c.push_asks.new.out.items s5) c.push_gives.ensures
