use Rattle.std.proofs.Common.{ℕ, true, false, sym, ap, ◌∙◌}
use Rattle.std.specs.Prelude.{◌==◌}
use Rattle.tta_connect.specs.Cited.{has_bit, Machine}
use Rattle.tta_arch.proofs.SetLemmas.{below-more, no_more}
use Rattle.tta_connect.specs.Coverage.{is_usable_at}
use Rattle.tta_connect.proofs.UnitSets.{unit_at, units_all}
use Rattle.tta_connect.proofs.units.usable_units.Goals as goal
use Rattle.tta_connect.proofs.units.usable_units.Goals.{then-is_usable, else-is_usable}

pub loop-unit-preserved : goal.loop-unit-preserved
loop-unit-preserved c = λ k.
    let m = c.args.on.now.machine.now in
    let test = is_usable_at m c.args.hub in
    let here = unit_at m c.args.hub c.loop-unit.unit _ _ (c.as_slice-v-items.ensures ∙ ap (λ (x : Machine). x.units) c.m.view_is) c.v-item.is c.loop-unit-test.true in
    elim c.if-is_usable.branch [
      | then-is_usable w ↦
          ap (λ (b : ℕ). has_bit b k) w.units-is ∙ w.with_unit-units.ensures k
          ∙ below-more test c.loop-unit.unit k (c.loop-unit.invariant k) true (here ∙ sym c.is_usable.ensures ∙ w.if-is_usable.true)
      | else-is_usable w ↦
          ap (λ (b : ℕ). has_bit b k) w.units-is ∙ no_more (has_bit c.loop-unit.units k) (c.loop-unit.unit == k)
          ∙ below-more test c.loop-unit.unit k (c.loop-unit.invariant k) false (here ∙ sym c.is_usable.ensures ∙ w.if-is_usable.false)
    ]

pub returns : goal.returns
returns c = λ unit.
    let m = c.args.on.now.machine.now in
    c.loop-unit.invariant unit
    ∙ units_all m c.args.hub c.loop-unit.unit unit _ (c.as_slice-v-items.ensures ∙ ap (λ (x : Machine). x.units) c.m.view_is) c.loop-unit-test.false
