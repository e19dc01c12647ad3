-- The wires of the module stand in order.
use Rattle.std.proofs.Common.{◌≡◌, ℕ, ◌+◌, Bool, true, false, if◌then◌else◌, List, [], ◌∷◌, Option, None, Some, refl}
use Rattle.tta_circuit.specs.Circuit.{Signal, Both}
use Rattle.tta_circuit.specs.Order.{reads_below}
use Rattle.tta_wiring.specs.Signals.{Room, is_feeder, rooms_of, feeder_at, source_of, queue_wires}
use Rattle.tta_wired.specs.Order.{joint_rank, ReadBefore, NetIsOrdered}

-- whether queues have room is read before whether all have
rooms_first : (feeder core : ℕ) (feeds : List (Option ℕ)) → reads_below joint_rank 2 (rooms_of feeder core feeds) ≡ true
rooms_first feeder core [] = refl
rooms_first feeder core (o ∷ feeds) = by (is_feeder feeder o) (rooms_first feeder (core + 1) feeds) where
  by : (fed : Bool) → reads_below joint_rank 2 (rooms_of feeder (core + 1) feeds) ≡ true
      → reads_below joint_rank 2
      (if fed then Both (Signal (Room core)) (rooms_of feeder (core + 1) feeds) else rooms_of feeder (core + 1) feeds) ≡ true
  by true rest = rest
  by false rest = rest

queue_first : (core : ℕ) (takes : Bool) (feeder : Option ℕ) → ReadBefore (queue_wires core (source_of takes feeder))
queue_first core true None = (refl, (refl, tt))
queue_first core false None = (refl, (refl, tt))
queue_first core takes (Some f) = (refl, (refl, tt))

pub net_is_ordered : NetIsOrdered
net_is_ordered feeds core = record {
  core_shows = refl;
  queue_shows = refl;
  of_core = (rooms_first core 0 feeds, (refl, (refl, (refl, tt))));
  of_queue = λ takes. queue_first core takes (feeder_at feeds core);
}
