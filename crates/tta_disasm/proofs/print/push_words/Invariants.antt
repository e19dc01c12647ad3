use Rattle.std.proofs.Common.{◌≡◌, ◌++◌, take}
use Rattle.std.specs.List.{flat_map}
use Rattle.tta_disasm.specs.Cited.{stated}
use Rattle.tta_disasm.specs.Canonical.{instruction_text}
use Rattle.tta_disasm.proofs.print.push_words.Given as goal

abbrev pub invariant-loop-i : goal.invariant-loop-i
invariant-loop-i g l =
    let U = stated (λ v. (goal.OpUnit-dyn g v).unit_meaning v.1) l.units in
    l.out.items ≡ l.initial.out.items ++ flat_map (instruction_text U l.m) (take l.i-index l.words)
