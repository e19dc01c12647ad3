use Rattle.std.proofs.Common.{◌≡◌, ℕ, map, take}
use Rattle.std.specs.Prelude.{fold}
use Rattle.std.specs.List.{filter_map}
use Rattle.tta_sim.specs.Cited.{stated, store_data, store_frame}
use Rattle.tta_sim.specs.Results.{results_at}
use Rattle.tta_sim.specs.Dues.{started_at}
use Rattle.tta_sim.specs.Flat.{start_said}
use Rattle.tta_sim.specs.InPlace.{begun_here, dues_in, AreStarted}
use Rattle.tta_sim.proofs.in_place.start_in_place.Given as goal

abbrev pub invariant-loop-s : goal.invariant-loop-s
invariant-loop-s g l =
    let U = stated (λ v. (goal.OpUnit-dyn g v).unit_meaning v.1) l.units in
    let r = results_at l.part l.fn.region in
    record {
      places : l.store.places ≡ l.fn.store.places;
      cycle : l.store.cycle ≡ l.fn.store.cycle;
      memory : l.store.memory.items ≡ fold store_data l.fn.store.memory.items (filter_map (begun_here l.fn.store r) (take l.s-index (map start_said l.moves)));
      frame : l.store.frame.items ≡ fold store_frame l.fn.store.frame.items (filter_map (begun_here l.fn.store r) (take l.s-index (map start_said l.moves)));
      started : (now : ℕ) → AreStarted now r (map (started_at now) (dues_in U l.fn.store r (take l.s-index (map start_said l.moves)))) l.region;
    }
