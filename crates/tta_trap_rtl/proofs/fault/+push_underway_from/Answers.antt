use Rattle.std.proofs.Common.{◌+◌, ◌-◌, ◌++◌, List, ℕ, arith, map, sym, ap, ◌∙◌}
use Rattle.std.specs.Prelude.{codes}
use Rattle.std.specs.List.{range_with_len}
use Rattle.tta_hardware.specs.Signals.{Underway}
use Rattle.tta_list.proofs.Lists.{then_more}
use Rattle.tta_list.proofs.Results.{onward}
use Rattle.tta_rtl.specs.Cited.{between}
use Rattle.tta_rtl.specs.Kept.{underway_name}
use Rattle.tta_trap_rtl.specs.Cited.{Signal, any_of, text_of}
use Rattle.tta_trap_rtl.proofs.Finds.{underway_more}
use Rattle.tta_trap_rtl.proofs.fault.+push_underway_from.Goals as goal

pub returns : goal.returns
unfolding between underway_name
returns t c =
    let m = c.args.m.now in
    let rest = text_of m (any_of (map (λ d. Signal (Underway d)) (range_with_len (c.args.delay + 1) (c.args.count - 1)))) in
    let name = underway_name c.from.result in
    let text : ℕ → List ℕ = λ d. codes "(" ++ (underway_name d ++ (codes ")||(" ++ (rest ++ codes ")"))) in
    onward c.push_text-3.result (λ last.
    then_more _ _ _ (codes "(") (name ++ (codes ")||(" ++ (rest ++ codes ")"))) c.in_ok-push_text.ensures
    (then_more _ _ _ name (codes ")||(" ++ (rest ++ codes ")")) c.in_ok-push_underway_name.ensures
    (then_more _ _ _ (codes ")||(") (rest ++ codes ")") c.in_ok-push_text-2.ensures
    (then_more _ _ _ rest (codes ")") c.in_ok-push_underway_from.ensures last)))
    ∙ ap (λ (d : ℕ). c.args.out.now.items ++ text d) c.from.ensures
    ∙ ap (λ (r : List ℕ). c.args.out.now.items ++ r) (sym (underway_more m c.args.delay c.args.count (omega arith)))) c.push_text-3.ensures
