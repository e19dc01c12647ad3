use Rattle.std.proofs.Common.{◌≡◌, length, map, drop}
use Rattle.tta_asm.specs.Cited.{stated}
use Rattle.tta_asm.specs.Assembly.{moves_of}
use Rattle.tta_asm.specs.Seen.{slot_seen}
use Rattle.tta_asm.proofs.SlotWalks.{with_front}
use Rattle.tta_asm.proofs.instruction.moves_of.Given as goal

abbrev pub invariant-loop-bus : goal.invariant-loop-bus
invariant-loop-bus g l =
    let U = stated (λ v. (goal.OpUnit-dyn g v).unit_meaning v.1) l.target.units.now in
    record {
      count : length l.moves ≡ l.bus;
      read : with_front l.moves (moves_of U l.target.machine.now l.labels l.bus (map slot_seen (drop l.bus l.slots))) ≡ moves_of U l.target.machine.now l.labels 0 (map slot_seen l.slots);
    }
