use Rattle.std.proofs.Common.{◌≡◌, ◌++◌, drop}
use Rattle.std.specs.List.{flat_map, enumerate_from}
use Rattle.tta_stages.specs.Cited.{stated}
use Rattle.tta_stages.specs.ProgramText.{block_text}
use Rattle.tta_stages.proofs.text.program.push_program.Given as goal

abbrev pub invariant-loop-k : goal.invariant-loop-k
invariant-loop-k g l =
    let U = stated (λ v. (goal.OpUnit-dyn g v).unit_meaning v.1) l.units in
    l.out.items ++ flat_map (λ b. block_text U l.p l.live b.0 b.1) (enumerate_from l.k (drop l.k l.blocks)) ≡ l.initial.out.items ++ flat_map (λ b. block_text U l.p l.live b.0 b.1) (enumerate_from 0 l.blocks)
