use Rattle.std.proofs.Common.{◌+◌, Some, option_map, sym, ap, ◌∙◌}
use Rattle.tta_sim.specs.Starts.{kind_and_word}
use Rattle.tta_sim.specs.Controls.{underway, pending_with}
use Rattle.tta_sim.proofs.control.Control.take_move.Goals as goal

pub returns-in-Some-clause-pending : goal.returns-in-Some-clause-pending
returns-in-Some-clause-pending c =
    ap (λ n. Some (underway (record { time = c.args.now + n; acting = c.in-Some.acting }))) c.from.ensures
    ∙ ap (λ o. pending_with c.args.now c.args.delay (option_map underway c.args.self.now.pending) (option_map kind_and_word o)) (sym c.in-Some.is)
