use Rattle.std.proofs.Common.{◌≡◌, ◌++◌, drop, map}
use Rattle.std.specs.List.{enumerate_from}
use Rattle.tta_origins.specs.Cited.{fitting}
use Rattle.tta_origins.specs.Origins.{origin_text}
use Rattle.tta_origins.proofs.blocks.push_origins.Given as goal

abbrev pub invariant-loop-k : goal.invariant-loop-k
invariant-loop-k l =
    let text = origin_text l.of.m.now l.of.homes.now l.of.p.now l.of.lowered.now l.ranges.starts.now l.ranges.placed.now in
    l.out.items ++ fitting l.room (map (λ x. text x.0 x.1) (enumerate_from l.k (drop l.k l.parts)))
    ≡ l.initial.out.items ++ fitting 524288 (map (λ x. text x.0 x.1) (enumerate_from 0 l.parts))
