use Rattle.std.proofs.Common.{◌≡◌, drop}
use Rattle.std.specs.Prelude.{fold}
use Rattle.tta_sim.specs.Cited.{store_data, store_frame}
use Rattle.tta_sim.proofs.spaces.store_all.Given as goal

abbrev pub invariant-loop-start : goal.invariant-loop-start
invariant-loop-start l = record {
  memory : fold store_data l.memory.items (drop l.start-index l.starts) ≡ fold store_data l.fn.memory.items l.starts;
  frame : fold store_frame l.frame.items (drop l.start-index l.starts) ≡ fold store_frame l.fn.frame.items l.starts;
}
