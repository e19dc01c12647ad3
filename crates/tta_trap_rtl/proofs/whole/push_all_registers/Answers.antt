use Rattle.tta_list.proofs.Lists.{then_more}
use Rattle.tta_list.proofs.Results.{onward}
use Rattle.tta_trap_rtl.specs.Cited.{register_names, registers_text, watch_registers}
use Rattle.tta_trap_rtl.specs.Texts.{watches_text}
use Rattle.tta_trap_rtl.proofs.whole.push_all_registers.Goals as goal

pub returns : goal.returns
returns c =
    let m = c.args.on.now.m.now in
    let d = c.args.declares in
    onward c.push_watches.result (then_more _ _ _ (registers_text m d (register_names m)) (watches_text m d (watch_registers m))
    c.in_ok-push_registers.ensures) c.push_watches.ensures
