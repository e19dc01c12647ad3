use Rattle.tta_reserve.proofs.Kept.{nothing_booked}
use Rattle.tta_reserve.proofs.table.Table.clear.Goals as goal

pub returns-clause-none : goal.returns-clause-none
returns-clause-none c = λ m. nothing_booked m _ c.clear.ensures.items
