use Rattle.std.proofs.Common.{arith, subst, sym}
use Rattle.tta_reserve.specs.Booked.{StandsFor}
use Rattle.tta_reserve.proofs.Kept.{longer}
use Rattle.tta_reserve.proofs.table.Table.reserve.Goals as goal

pub returns-clause-kept : goal.returns-clause-kept
returns-clause-kept c = λ m placed s. longer m c.self.inside.rows.items c.resize.new.self.items placed c.args.cycles _ _ (omega arith) c.in_ok-resize.ensures.items c.empty.ensures (omega arith) (subst (λ t. StandsFor t m placed) (sym c.self.view_is) s)
