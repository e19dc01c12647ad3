use Rattle.std.proofs.Common.{◌≡◌, ◌≤◌, ◌-◌, ◌++◌}
use Rattle.tta_prompt.specs.Cited.{State, Stands}
use Rattle.tta_prompt.specs.Texts.{register_word, register_lines}
use Rattle.tta_prompt.proofs.registers.push_registers.Given as goal

abbrev pub decreases-registers : goal.decreases-registers
decreases-registers l = l.size - l.index

abbrev pub invariant-registers : goal.invariant-registers
invariant-registers l = record {
  most : l.index ≤ l.size;
  put : (s : State) → Stands l.sim s → l.out.items ++ register_lines l.name (register_word s l.file) l.index (l.size - l.index)
      ≡ l.initial.out.items ++ register_lines l.name (register_word s l.file) 0 l.size;
}
