use Rattle.std.proofs.Common.{◌≡◌, sym, ap, ◌∙◌, subst}
use Rattle.std.proofs.lemmas.Result.{IfOk-at_ok}
use Rattle.tta_build.specs.declared.trail.Start.{Start}
use Rattle.tta_build.specs.declared.trail.Rounds.{Rounds}
use Rattle.tta_build.specs.Derivation.{IsStart, start_of, AreRounds}
use Rattle.tta_build.proofs.Trails.{on_ok}
use Rattle.tta_build.proofs.pushing.push_both.Goals as goal

pub returns : goal.returns
returns c m b start first second all =
    let one = c.in_ok-start.ensures in
    let two = c.in_ok-start-2.ensures in
    let copy : c.in_ok-start.copy ≡ c.args.start = IfOk-at_ok (λ (s : Start). s ≡ c.args.start) one.other c.copied_start-copy.ensures in
    let firsts : c.in_ok-start.first ≡ c.args.first = ap (λ (t : Start × Rounds × Rounds). t.1) one.first in
    let starts : c.in_ok-start-2.start ≡ c.args.start =
    ap (λ (t : Start × Rounds). t.0) two.first ∙ ap (λ (t : Start × Rounds × Rounds). t.0) one.first in
    let seconds : c.in_ok-start-2.second ≡ c.args.second =
    ap (λ (t : Start × Rounds). t.1) two.first ∙ ap (λ (t : Start × Rounds × Rounds). t.2) one.first in
    let pushed = on_ok two.other c.push_one-pushed.ensures m b (subst (IsStart m b) (sym copy) start)
    (subst (λ (r : Rounds). AreRounds m (start_of b c.in_ok-start.copy) r) (sym firsts)
    (subst (λ (s : Start). AreRounds m (start_of b s) c.args.first) (sym copy) first)) all in
    c.in_ok-push_one.ensures m b (subst (IsStart m b) (sym starts) start)
    (subst (λ (r : Rounds). AreRounds m (start_of b c.in_ok-start-2.start) r) (sym seconds)
    (subst (λ (s : Start). AreRounds m (start_of b s) c.args.second) (sym starts) second)) pushed
