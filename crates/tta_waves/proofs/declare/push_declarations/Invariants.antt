use Rattle.std.proofs.Common.{◌≡◌, ◌++◌, drop}
use Rattle.std.specs.List.{flat_map, enumerate_from}
use Rattle.tta_waves.specs.Dump.{declaration_text}
use Rattle.tta_waves.proofs.declare.push_declarations.Given as goal

abbrev pub invariant-loop-number : goal.invariant-loop-number
invariant-loop-number l =
    l.out.items ++ flat_map (λ e. declaration_text l.m e.0 e.1) (enumerate_from l.number (drop l.number l.signals))
    ≡ l.initial.out.items ++ flat_map (λ e. declaration_text l.m e.0 e.1) (enumerate_from 0 l.signals)
