use Rattle.std.proofs.Common.{◌++◌, ℕ, List, sym, ap, ◌∙◌}
use Rattle.std.specs.List.{flat_map}
use Rattle.tta_list.proofs.Lists.{then_more}
use Rattle.tta_list.proofs.Results.{onward}
use Rattle.tta_rtl.specs.Cited.{stated}
use Rattle.tta_rtl.specs.Memories.{words_in}
use Rattle.tta_boxed_rtl.specs.Cited.{UnitOp, Boxes, Shows, circuit_with, memories_text}
use Rattle.tta_boxed_rtl.specs.Left.{functions_text, lefts, told_by}
use Rattle.tta_boxed_rtl.specs.Beside.{made_line}
use Rattle.tta_boxed_rtl.proofs.Lines.{made_are}
use Rattle.tta_boxed_rtl.proofs.whole.push_first_parts.Goals as goal

pub returns : goal.returns
returns g c =
    let of = c.args.of.now in
    let core = of.core.now in
    let m = core.on.now.m.now in
    let leaves = told_by of.leaves.now in
    let old = c.args.out.now.items in
    let memories = memories_text m core.rom (circuit_with m (words_in m core.body.now core.words) core.first.now) in
    let functions = functions_text (stated (λ v. (goal.OpUnit-dyn g v).unit_meaning v.1) core.units.now) m leaves in
    let lines : List (ℕ × (ℕ × UnitOp)) → List ℕ = flat_map (λ l. made_line m (Boxes (Shows l.0 l.1.0), 32)) in
    onward c.push_made_lines.result (λ last.
    then_more _ _ _ memories (functions ++ lines (lefts of.left.now)) c.in_ok-push_memories.ensures
    (then_more _ _ _ functions (lines (lefts of.left.now)) c.in_ok-push_functions.ensures last)
    ∙ ap (λ (ls : List (ℕ × (ℕ × UnitOp))). old ++ (memories ++ (functions ++ lines ls))) of.left_is
    ∙ ap (λ (t : List ℕ). old ++ (memories ++ (functions ++ t))) (sym (made_are m leaves))) c.push_made_lines.ensures
