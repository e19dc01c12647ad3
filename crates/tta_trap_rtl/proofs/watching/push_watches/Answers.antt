use Rattle.std.proofs.Common.{List, ℕ, ◌++◌, sym, ap, ◌∙◌}
use Rattle.tta_list.proofs.Lists.{then_more}
use Rattle.tta_list.proofs.Results.{onward}
use Rattle.tta_trap_rtl.specs.Cited.{IsPast}
use Rattle.tta_trap_rtl.specs.Texts.{places_lines, watch_line}
use Rattle.tta_trap_rtl.proofs.Registers.{watches_are}
use Rattle.tta_trap_rtl.proofs.watching.push_watches.Goals as goal

pub returns : goal.returns
returns c =
    let m = c.args.on.now.m.now in
    let d = c.args.declares in
    onward c.push_register.result (λ last.
    then_more _ _ _ (places_lines m d) (watch_line m d IsPast) c.in_ok-push_places.ensures last
    ∙ ap (λ (t : List ℕ). c.args.out.now.items ++ t) (sym (watches_are m d))) c.push_register.ensures
