use Rattle.std.proofs.Common.{◌≡◌, ◌++◌, take}
use Rattle.std.specs.List.{flat_map}
use Rattle.tta_info.specs.Chosen.{home_text}
use Rattle.tta_info.proofs.chosen.push_each_home.Given as goal

abbrev pub invariant-loop-home : goal.invariant-loop-home
invariant-loop-home l = l.out.items ≡ l.initial.out.items ++ flat_map (home_text l.m) (take l.home-index l.homes)
