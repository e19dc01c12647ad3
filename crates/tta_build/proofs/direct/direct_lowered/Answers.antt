use Rattle.std.proofs.Common.{subst}
use Rattle.tta_build.specs.Cited.{IsCause}
use Rattle.tta_build.proofs.Directs.{never_full}
use Rattle.tta_build.proofs.direct.direct_lowered.Goals as goal

pub unreachable-requires : goal.unreachable-requires
unreachable-requires c =
    let cause = subst (IsCause c.args.p.now 4096) c.in-Err-FrameFull.field-0-is c.in-Err-FrameFull.ensures.cause in
    never_full c.args.m.now c.args.p.now c.requires.program c.requires.direct c.in-Err-FrameFull.field-0-0 c.in-Err-FrameFull.field-0-1 cause.0 cause.1 cause.2
