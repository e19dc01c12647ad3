use Rattle.std.proofs.Common.{◌≡◌, List, ℕ, OnOk, codes, subst}
use Rattle.tta_cost.specs.CostText.{count_text, long_text, short_text, table_text}
use Rattle.tta_cost.proofs.Told.{three}
use Rattle.tta_cost.proofs.text.push_table.Goals as goal

pub returns : goal.returns
unfolding table_text
returns c =
    subst (λ (r : List ℕ). OnOk c.push_long.result (c.push_long.new.out.items ≡ r))
    (three c.args.out.now.items (count_text (codes "depths choice ") 1) short_text long_text _ _ c.in_ok-push_count.ensures
    c.in_ok-push_short.ensures) c.push_long.ensures
