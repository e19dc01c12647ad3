use Rattle.std.proofs.Common.{◌+◌, ◌*◌, ◌<◌, ◌≤◌, ◌^◌}
use Rattle.tta_prompt.specs.Cited.{stated, IsRunOf, Debugged, Follows}
use Rattle.tta_prompt.proofs.Sessions.{Kept}
use Rattle.tta_prompt.proofs.prompt.run_prompt.Given as goal

abbrev pub decreases-lines : goal.decreases-lines
decreases-lines g l = l.left

abbrev pub invariant-lines : goal.invariant-lines
invariant-lines g l =
    let U = stated (λ v. (goal.OpUnit-dyn g v).unit_meaning v.1) l.basis.units.now in
    record {
      loaded : IsRunOf l.basis.m.now l.basis.code.now l.session.held;
      few : l.session.held.cycle + l.left * 2 ^ 32 < 2 ^ 61;
      short : l.left ≤ 2 ^ 24;
      kept : (d : Debugged) → Follows l.basis.input.now l.initial.session d
          → Kept U l.basis.m.now l.basis.code.now l.basis.input.now d l.session
          (g.L.Lines.come l.initial.lines) (g.L.Lines.come l.lines) (g.S.Sink.output l.initial.sink) (g.S.Sink.output l.sink) l.left;
    }
