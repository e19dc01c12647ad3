use Rattle.std.proofs.Common.{◌≡◌, ◌++◌, drop}
use Rattle.std.specs.List.{flat_map, enumerate_from}
use Rattle.tta_prompt.specs.Cited.{State, Stands}
use Rattle.tta_prompt.specs.Texts.{file_lines}
use Rattle.tta_prompt.proofs.registers.push_files.Given as goal

abbrev pub invariant-loop-file : goal.invariant-loop-file
invariant-loop-file l = (s : State) → Stands l.sim s
    → l.out.items ++ flat_map (λ f. file_lines s f.0 f.1) (enumerate_from l.file (drop l.file l.files)) ≡ l.initial.out.items ++ flat_map (λ f. file_lines s f.0 f.1) (enumerate_from 0 l.files)
