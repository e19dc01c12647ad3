use Rattle.std.proofs.Common.{◌≡◌, ◌++◌, drop}
use Rattle.std.specs.Prelude.{slice_get}
use Rattle.std.specs.List.{flat_map, enumerate_from}
use Rattle.tta_play.specs.States.{store_text}
use Rattle.tta_play.proofs.memory.push_stores.Given as goal

abbrev pub invariant-loop-address : goal.invariant-loop-address
invariant-loop-address l =
    l.out.items ++ flat_map (λ e. store_text l.space (slice_get l.before e.0) e.0 e.1) (enumerate_from l.address (drop l.address l.now))
    ≡ l.initial.out.items ++ flat_map (λ e. store_text l.space (slice_get l.before e.0) e.0 e.1) (enumerate_from 0 l.now)
