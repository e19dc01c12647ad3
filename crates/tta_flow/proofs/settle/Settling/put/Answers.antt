use Rattle.std.proofs.Common.{◌∙◌, sym, refl}
use Rattle.tta_flow.proofs.PutLemmas.{fits_row, put_new}
use Rattle.tta_flow.proofs.settle.Settling.put.Goals as goal

pub set-requires : goal.set-requires
set-requires c = fits_row c.args.var c.args.place c.args.self.now.rows.items c.index_mut-row.result.now c.requires.fits c.requires.there c.index_mut-row.ensures.value

pub returns : goal.returns
returns c =
    put_new c.args.place c.args.var c.index_mut-row.result.now c.args.self.now c.requires.there c.index_mut-row.ensures.value c.set.new.self _
    (sym c.get.ensures ∙ c.if-get.false) refl c.set.ensures.bits c.set.ensures.room c.in_ok-push.ensures.items
