-- No wire of the module that joins cores runs in a loop.
use Rattle.std.specs.Prelude.{◌≡◌, ℕ, Bool, true, false, nat_lt, if◌then◌else◌, List, Option}
use Rattle.std.specs.List.{list_all, AllByRecursion}
use Rattle.tta_circuit.specs.Circuit.{Wire}
use Rattle.tta_circuit.specs.Order.{reads_below}
use Rattle.tta_wiring.specs.Signals.{Joint, Reset, Outside, Offers, Offer, Halted, Cycle, Valid, Word, Asks, Room, HasWord, First, Rooms, Ready, Puts, Takes, Fed, Comes, CorePort, ResetOf, HaltedOf, CycleOf, OutValid, OutData, InReady, source_at, core_wires, queue_wires, core_joints, queue_joints}

-- The place of each signal in their order. What comes from outside is there first, and then what queues show, which hangs on what they
-- hold alone (`queue_looks` of tta_queue); then whether words would be taken; then what cores show and do; then what they put out and take;
-- and then what queues are offered.
abbrev pub joint_rank : Joint → ℕ
joint_rank Reset = 0
joint_rank (Outside core) = 0
joint_rank (Offers core) = 0
joint_rank (Offer core) = 0
joint_rank (Room core) = 1
joint_rank (HasWord core) = 1
joint_rank (First core) = 1
joint_rank (Rooms core) = 2
joint_rank (Ready core) = 3
joint_rank (Halted core) = 4
joint_rank (Cycle core) = 4
joint_rank (Valid core) = 4
joint_rank (Word core) = 4
joint_rank (Asks core) = 4
joint_rank (Puts core) = 5
joint_rank (Takes core) = 5
joint_rank (Fed core) = 6
joint_rank (Comes core) = 6

-- whether a core drives a port of its module; it is driven by the others
abbrev pub is_shown_by_core : CorePort → Bool
is_shown_by_core HaltedOf = true
is_shown_by_core CycleOf = true
is_shown_by_core OutValid = true
is_shown_by_core OutData = true
is_shown_by_core InReady = true
is_shown_by_core p = false

-- the same of a queue and the ports of its module
abbrev pub is_shown_by_queue : CorePort → Bool
is_shown_by_queue InReady = true
is_shown_by_queue OutValid = true
is_shown_by_queue OutData = true
is_shown_by_queue p = false

-- the inputs of a queue on which what it shows may hang within a clock
abbrev pub is_looked_through : CorePort → Bool
is_looked_through ResetOf = true
is_looked_through p = false

-- whether each signal that a module drives stands behind each by which it is driven
abbrev pub stand_behind : (drives hangs_on : CorePort → Bool) → List (CorePort × Joint) → Bool
stand_behind drives hangs_on joints =
    list_all (λ shown. if drives shown.0
    then list_all (λ given. if hangs_on given.0 then nat_lt (joint_rank given.1) (joint_rank shown.1) else true) joints else true) joints

-- each wire reads only signals that stand before it
abbrev pub ReadBefore : List (Wire Joint ⊥) → Type 0
ReadBefore wires = AllByRecursion (λ w. reads_below joint_rank (joint_rank w.name) w.word ≡ true) wires

-- whether a core is driven by a port
abbrev pub is_given_to_core : CorePort → Bool
is_given_to_core p = if is_shown_by_core p then false else true

-- All that a core and the queue before it are joined to stands in order, and so do their wires.
pub record IsInOrder (feeds : List (Option ℕ)) (core : ℕ) : Type 0 where
  pub core_shows : stand_behind is_shown_by_core is_given_to_core (core_joints core) ≡ true
  pub queue_shows : stand_behind is_shown_by_queue is_looked_through (queue_joints core) ≡ true
  pub of_core : ReadBefore (core_wires feeds core)
  pub of_queue : (takes : Bool) → ReadBefore (queue_wires core (source_at feeds core takes))

-- So it is with every core, whatever feeds it, and whether or not it can take words.
abbrev pub NetIsOrdered : Type 0
NetIsOrdered = (feeds : List (Option ℕ)) (core : ℕ) → IsInOrder feeds core
