use Rattle.std.proofs.Common.{◌≡◌, ◌+◌, suc, sym, subst, arith}
use Rattle.tta_list.proofs.Iterated.{iterate-add}
use Rattle.tta_sim.specs.Cited.{State, iterate, stated, next}
use Rattle.tta_sim.specs.Held.{Stands, IsSilentRun}
use Rattle.tta_sim.proofs.Silent.{pure_more}
use Rattle.tta_sim.proofs.sim.Sim.run_silent.Goals.{After-run_in_place-made}
use Rattle.tta_sim.proofs.sim.Sim.run_silent.Given as given
use Rattle.tta_sim.proofs.sim.Sim.run_silent.Goals as goal

-- once cycles were carried out in place
module _ (g : given.Over) (c : After-run_in_place-made g) where
  in_place : (s : State) → Stands c.args.self.now s
      → IsSilentRun (Stands c.run_in_place-made.new.self) s
      (iterate (c.cycles.made + c.run_in_place-made.result) (next (stated (λ v. (goal.OpUnit-dyn g v).unit_meaning v.1) c.args.units.now) c.args.m.now c.args.code.now) s)
  in_place s same =
      let step = next (stated (λ v. (goal.OpUnit-dyn g v).unit_meaning v.1) c.args.units.now) c.args.m.now c.args.code.now in
      subst (IsSilentRun (Stands c.run_in_place-made.new.self) s) (sym (iterate-add c.cycles.made c.run_in_place-made.result step s))
      (pure_more (Stands c.cycles.self) (Stands c.run_in_place-made.new.self) s (iterate c.cycles.made step s) (iterate c.run_in_place-made.result step (iterate c.cycles.made step s))
      (c.cycles.invariant.next s same) (c.run_in_place-made.ensures.next (iterate c.cycles.made step s)))

pub cycles-preserved : goal.cycles-preserved
cycles-preserved g c =
    let U = stated (λ v. (goal.OpUnit-dyn g v).unit_meaning v.1) c.args.units.now in
    let step = next U c.args.m.now c.args.code.now in
    let made = c.cycles.made + c.run_in_place-made.result in
    let is : suc made ≡ made + 1 = omega arith in
    let did = c.if-not-cycle_silently.ensures in
    record {
      loaded = did.loaded;
      within = omega (arith, c.cycles-test.true, c.run_in_place-made.ensures.within, c.if-made-most.false);
      counted = omega (arith, did.counted, c.run_in_place-made.ensures.counted, c.cycles.invariant.counted);
      next = λ s same. subst (λ n. IsSilentRun (Stands c.cycle_silently.new.self) s (iterate n step s)) is
          (pure_more (Stands c.run_in_place-made.new.self) (Stands c.cycle_silently.new.self) s (iterate made step s) (iterate (suc made) step s)
          (in_place g (goal.at.cycles-preserved g c).After-run_in_place-made s same) (did.next (iterate made step s)));
    }

pub returns-then-made-most-clause-next : goal.returns-then-made-most-clause-next
returns-then-made-most-clause-next g c = in_place g (goal.at.returns-then-made-most-clause-next g c).After-run_in_place-made

pub returns-then-not-cycle_silently-clause-next : goal.returns-then-not-cycle_silently-clause-next
returns-then-not-cycle_silently-clause-next g c = λ s same.
    let step = next (stated (λ v. (goal.OpUnit-dyn g v).unit_meaning v.1) c.args.units.now) c.args.m.now c.args.code.now in
    let made = c.cycles.made + c.run_in_place-made.result in
    pure_more (Stands c.run_in_place-made.new.self) (Stands c.cycle_silently.new.self) s (iterate made step s) (iterate made step s)
    (in_place g (goal.at.returns-then-not-cycle_silently-clause-next g c).After-run_in_place-made s same) (c.if-not-cycle_silently.ensures.next (iterate made step s))
