use Rattle.std.proofs.Common.{◌≡◌, false, IsTrue, sym, ap, ◌∙◌, subst}
use Rattle.std.specs.List.{list_any, AllByRecursion}
use Rattle.std.proofs.lemmas.Bool.{not-true}
use Rattle.tta_sim.specs.Results.{results_at}
use Rattle.tta_sim.specs.Starts.{clashes_at}
use Rattle.tta_sim.specs.Lines.{is_start_there, operand_in}
use Rattle.tta_sim.specs.Ready.{writes_in}
use Rattle.tta_sim.specs.Flat.{start_said, line_said}
use Rattle.tta_sim.proofs.Flats.{all_said, any_said}
use Rattle.tta_sim.proofs.Settled.{still_free, asked_free}
use Rattle.tta_sim.proofs.in_place.is_free.Goals as goal

pub returns-then-is_still-clause-free : goal.returns-then-is_still-clause-free
returns-then-is_still-clause-free c = λ yes'.
    let store = c.args.store.now in
    let r = results_at c.args.part c.args.region.now in
    still_free r _ c.requires.are (c.requires.fits (operand_in store.places (writes_in store r (line_said c.args.row.now)))).fitting (c.is_still.ensures c.if-is_still.true)

pub any_clash-requires : goal.any_clash-requires
any_clash-requires c =
    subst (λ ss. AllByRecursion (λ s. IsTrue (is_start_there c.of.result.units (start_said s))) ss) (sym c.as_slice.ensures)
    (subst (λ r. AllByRecursion (λ s. IsTrue (is_start_there r.units (start_said s))) c.args.row.now.starts) (sym c.of.ensures)
    (all_said (λ s. IsTrue (is_start_there c.args.part.count s)) start_said c.args.row.now.starts c.requires.there.starts))

pub returns-clause-free : goal.returns-clause-free
returns-clause-free c = λ yes'.
    let store = c.args.store.now in
    let line = line_said c.args.row.now in
    let r = results_at c.args.part c.args.region.now in
    let none : c.any_clash.result ≡ false = not-true c.any_clash.result yes' in
    let asked = any_said (λ s. clashes_at r s.unit s.does) start_said c.args.row.now.starts
    ∙ ap (λ ss. list_any (λ s. clashes_at r s.unit s.does) ss) (sym c.as_slice.ensures) ∙ ap (λ q. list_any (λ s. clashes_at q s.unit s.does) c.as_slice.result.now) (sym c.of.ensures)
    ∙ sym c.any_clash.ensures ∙ none in
    asked_free r store.places (operand_in store.places (writes_in store r line)) line.starts asked
