use Rattle.std.proofs.Common.{List, ℕ, ◌++◌, ap, ◌∙◌}
use Rattle.tta_list.proofs.Results.{onward}
use Rattle.tta_rtl.specs.Cited.{WritePort, Store}
use Rattle.tta_hardware.specs.Signals.{Signal as Named}
use Rattle.tta_rtl.specs.Module.{store_line}
use Rattle.tta_offers.specs.Offers.{places_of}
use Rattle.tta_rtl.proofs.Modules.{stored_is}
use Rattle.tta_rtl.proofs.whole.push_store_of.Goals as goal

pub returns : goal.returns
returns c =
    let m = c.args.m.now in
    let old = c.args.out.now.items in
    let line : WritePort Named Store → List ℕ = store_line m c.args.name.now in
    onward c.push_store.result (λ last.
    last ∙ ap (λ (p : WritePort Named Store). old ++ line p) (stored_is m c.args.size c.args.store (places_of c.as_slice.result.now) (ap places_of c.as_slice.ensures.value ∙ c.in_ok-stores.ensures)))
    c.push_store.ensures
