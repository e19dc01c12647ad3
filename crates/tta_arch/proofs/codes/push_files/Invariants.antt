use Rattle.std.proofs.Common.{◌≡◌, ◌++◌, drop, map}
use Rattle.std.specs.List.{flat_map, enumerate_from}
use Rattle.tta_arch.specs.Fields.{numbers}
use Rattle.tta_arch.specs.declared.ends.Source.TheVariants as source
use Rattle.tta_arch.specs.Layout.{file_sources}
use Rattle.tta_arch.proofs.codes.push_files.Given as goal

abbrev pub invariant-loop-file : goal.invariant-loop-file
invariant-loop-file l =
    l.list.items ++ flat_map (λ f. map (source.Reg f.0) (numbers f.1.size)) (enumerate_from l.file (drop l.file l.files)) ≡ l.initial.list.items ++ file_sources l.files
