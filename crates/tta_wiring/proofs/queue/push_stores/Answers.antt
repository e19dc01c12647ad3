use Rattle.std.proofs.Common.{List, ℕ, ◌++◌, sym, ap, ◌∙◌}
use Rattle.std.specs.Prelude.{codes}
use Rattle.std.proofs.lemmas.List.{append-nil}
use Rattle.tta_list.proofs.Lists.{then_more}
use Rattle.tta_list.proofs.Results.{onward}
use Rattle.tta_verilog.specs.Circuits.{write_line}
use Rattle.tta_verilog.specs.Expressions.{part}
use Rattle.tta_wiring.proofs.queue.push_stores.Goals as goal

pub returns : goal.returns
unfolding write_line
returns c =
    let start = codes "always @(posedge clk) if (takes) words[" in
    let address = part (codes "tail") 0 c.args.k in
    let end = codes "] <= in_data;\n" in
    onward c.push_text-2.result (λ last.
    then_more _ _ _ start (address ++ end) c.in_ok-push_text.ensures
    (then_more _ _ _ address end c.in_ok-push_address.ensures last)
    ∙ ap (λ (t : List ℕ). c.args.out.now.items ++ t) (sym (append-nil (start ++ (address ++ end))))) c.push_text-2.ensures
