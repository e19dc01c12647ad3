use Rattle.std.proofs.Common.{◌≡◌, ◌++◌, take}
use Rattle.std.specs.List.{flat_map}
use Rattle.tta_profile.specs.Cited.{stated}
use Rattle.tta_profile.specs.Report.{hot_at_text}
use Rattle.tta_profile.proofs.report.push_hottest.Given as goal

abbrev pub invariant-loop-h : goal.invariant-loop-h
invariant-loop-h g l =
    let U = stated (λ v. (goal.OpUnit-dyn g v).unit_meaning v.1) l.units in
    l.out.items ≡ l.initial.out.items ++ flat_map (hot_at_text U l.profiled.m.now l.profiled.counts.now l.profiled.words.now l.profiled.whole) (take l.h-index l.order)
