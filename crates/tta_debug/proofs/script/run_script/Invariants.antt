use Rattle.std.proofs.Common.{◌≡◌, ◌+◌, ◌*◌, ◌<◌, ◌≤◌, ◌^◌, length}
use Rattle.tta_debug.specs.Cited.{stated, IsRunOf}
use Rattle.tta_debug.specs.Debugged.{Debugged}
use Rattle.tta_debug.specs.Sessions.{Follows}
use Rattle.tta_debug.specs.Scripts.{lines_of}
use Rattle.tta_debug.proofs.Folding.{Taken, Replied}
use Rattle.tta_debug.proofs.script.run_script.Given as goal

abbrev pub decreases-lines : goal.decreases-lines
decreases-lines g l = length l.rest

abbrev pub invariant-lines : goal.invariant-lines
invariant-lines g l =
    let U = stated (λ v. (goal.OpUnit-dyn g v).unit_meaning v.1) l.basis.units.now in
    record {
      loaded : IsRunOf l.basis.m.now l.basis.code.now l.session.held;
      few : l.session.held.cycle + length l.rest * 2 ^ 32 < 2 ^ 61;
      short : length l.rest ≤ 2 ^ 24;
      faults : (g.S.Sink.output l.sink).faults ≡ (g.S.Sink.output l.initial.sink).faults;
      taken : (d : Debugged) → Follows l.basis.input.now l.initial.session d
          → Taken U l.basis.m.now l.basis.code.now l.basis.input.now (lines_of l.script) (lines_of l.rest) d l.session
          (g.S.Sink.output l.initial.sink) (g.S.Sink.output l.sink);
      replied : (d : Debugged) → Follows l.basis.input.now l.initial.session d
          → Replied U l.basis.m.now l.basis.code.now l.basis.input.now (lines_of l.script) (lines_of l.rest) d l.session
          (g.S.Sink.output l.initial.sink) (g.S.Sink.output l.sink);
    }
