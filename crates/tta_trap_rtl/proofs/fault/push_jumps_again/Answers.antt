use Rattle.std.proofs.Common.{◌++◌, map}
use Rattle.std.specs.Prelude.{codes}
use Rattle.std.specs.List.{range_with_len}
use Rattle.tta_hardware.specs.Signals.{Underway}
use Rattle.tta_list.proofs.Lists.{then_more}
use Rattle.tta_list.proofs.Results.{onward}
use Rattle.tta_rtl.specs.Cited.{between}
use Rattle.tta_trap_rtl.specs.Cited.{Signal, any_of, text_of}
use Rattle.tta_trap_rtl.proofs.fault.push_jumps_again.Goals as goal

pub returns : goal.returns
unfolding between
returns c =
    let m = c.args.m.now in
    let rest = text_of m (any_of (map (λ d. Signal (Underway d)) (range_with_len 1 m.control.delay))) in
    onward c.push_text-2.result (λ last.
    then_more _ _ _ (codes "(n_controls)&&(") (rest ++ codes ")") c.in_ok-push_text.ensures
    (then_more _ _ _ rest (codes ")") c.in_ok-push_some_underway.ensures last)) c.push_text-2.ensures
