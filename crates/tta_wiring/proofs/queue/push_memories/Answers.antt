use Rattle.std.proofs.Common.{◌≡◌, ℕ, ◌-◌, ◌^◌, List, ◌++◌, sym, ap, append_assoc, ◌∙◌}
use Rattle.std.specs.Prelude.{codes, decimal}
use Rattle.tta_list.proofs.Lists.{then_more}
use Rattle.tta_list.proofs.Results.{onward}
use Rattle.tta_verilog.specs.Circuits.{range, array_start, array_zeros}
use Rattle.tta_wiring.proofs.Memory.{memory_is}
use Rattle.tta_wiring.proofs.queue.push_memories.Goals as goal

pub returns : goal.returns
unfolding array_start
returns c =
    let old = c.args.out.now.items in
    let size = c.power_of_two-size.result in
    let is : size ≡ 2 ^ c.args.k = c.power_of_two-size.ensures ∙ ap (λ (n : ℕ). 2 ^ n) c.from.ensures in
    let start = codes "words [0:" in
    let last_place = decimal (size - 1) in
    let zeros = array_zeros (codes "words") 32 size in
    let end = codes "end\n" in
    onward c.push_text-3.result (λ last.
    then_more _ _ _ (codes "reg ") (range 32 ++ (start ++ (last_place ++ (zeros ++ end)))) c.in_ok-push_text.ensures
    (then_more _ _ _ (range 32) (start ++ (last_place ++ (zeros ++ end))) c.in_ok-push_range.ensures
    (then_more _ _ _ start (last_place ++ (zeros ++ end)) c.in_ok-push_text-2.ensures
    (then_more _ _ _ last_place (zeros ++ end) c.in_ok-push_number.ensures
    (then_more _ _ _ zeros end c.in_ok-push_zeros.ensures last))))
    ∙ ap (λ (t : List ℕ). old ++ (codes "reg " ++ t))
    (sym (append_assoc (range 32) (start ++ (last_place ++ zeros)) end
    ∙ ap (λ (t : List ℕ). range 32 ++ (start ++ t)) (append_assoc last_place zeros end)))
    ∙ ap (λ (n : ℕ). old ++ (array_start (codes "words") 32 n ++ end)) is
    ∙ ap (λ (t : List ℕ). old ++ t) (sym (memory_is c.args.k))) c.push_text-3.ensures
