use Rattle.std.proofs.Common.{◌<◌, ◌∙◌, length, sym, ap, subst, set}
use Rattle.std.specs.Prelude.{slice_get}
use Rattle.tta_reserve.specs.Cited.{Machine, IsMachine}
use Rattle.tta_reserve.specs.Booked.{StandsFor}
use Rattle.tta_reserve.specs.Adding.{with_item}
use Rattle.tta_reserve.proofs.OneBooked.{booked}
use Rattle.tta_reserve.proofs.table.Table.book.Goals as goal

pub returns : goal.returns
returns c = λ placed s fits.
    booked c.args.m.now (subst IsMachine c.m.view_is c.m.invariant) c.self.inside.rows.items _ placed
    (record { item = c.args.item; cycle = c.args.cycle; slot = c.args.slot }) c.row_at-row.result
    (subst (λ t. c.args.cycle < length t) (sym c.self.view_is) c.requires)
    (ap (λ t. slice_get t c.args.cycle) (sym c.as_slice.ensures.value) ∙ c.row_at-row.ensures)
    (c.put_row.ensures ∙ ap (λ r. set c.self.inside.rows.items c.args.cycle r) (c.with_item-more.ensures
    ∙ ap (λ l. with_item l c.args.item c.args.slot c.row_at-row.result) (c.as_slice-2.ensures ∙ ap (λ (x : Machine). x.templates) c.m.view_is)))
    (subst (λ t. StandsFor t c.args.m.now placed) (sym c.self.view_is) s) fits
