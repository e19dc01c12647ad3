use Rattle.std.proofs.Common.{◌≡◌, ◌++◌, drop, map}
use Rattle.std.specs.List.{flat_map, enumerate_from}
use Rattle.tta_arch.specs.Fields.{numbers}
use Rattle.tta_arch.specs.declared.ends.Dest.TheVariants as dest
use Rattle.tta_arch.specs.Layout.{file_dests}
use Rattle.tta_arch.proofs.codes.push_all_written.Given as goal

abbrev pub invariant-loop-file : goal.invariant-loop-file
invariant-loop-file l =
    l.list.items ++ flat_map (λ f. map (dest.Reg f.0) (numbers f.1.size)) (enumerate_from l.file (drop l.file l.files)) ≡ l.initial.list.items ++ file_dests l.files
