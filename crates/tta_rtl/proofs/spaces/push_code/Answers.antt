use Rattle.std.proofs.Common.{ℕ, ◌*◌, List, ◌++◌, sym, ap, ◌∙◌}
use Rattle.std.specs.Prelude.{codes}
use Rattle.std.specs.List.{flat_map}
use Rattle.tta_list.proofs.Lists.{then_more}
use Rattle.tta_list.proofs.Results.{onward}
use Rattle.tta_rtl.specs.Cited.{Layout, numbers, word_width, bits_in, field, case_start, case_line, case_end}
use Rattle.tta_rtl.proofs.Digits.{words_by_number}
use Rattle.tta_rtl.proofs.spaces.push_code.Goals as goal

pub returns : goal.returns
returns c =
    let on = c.args.on.now in
    let old = c.args.out.now.items in
    let code = codes "code" in
    let w = word_width on.m.now in
    let word : ℕ → ℕ → ℕ = λ v k. field (k * v) v (bits_in c.args.bytes.now) in
    let words : ℕ → List ℕ = λ v. flat_map (λ k. case_line code v k (word v k)) (numbers c.args.words) in
    let text : ℕ → List ℕ = λ v. case_start code v ++ (words v ++ case_end code v) in
    let had = on.layout.now.width in
    onward c.end_code.result (λ last.
    then_more _ _ _ (case_start code had) (words had ++ case_end code had) c.in_ok-start_code.ensures
    (then_more _ _ _ (words had) (case_end code had) c.in_ok-push_code_words.ensures last)
    ∙ ap (λ (v : ℕ). old ++ text v) (ap (λ (l : Layout). l.width) on.layout_is)
    ∙ ap (λ (t : List ℕ). old ++ (case_start code w ++ (t ++ case_end code w)))
    (sym (words_by_number (λ k. case_line code w k.0 k.1) (word w) 0 c.args.words))) c.end_code.ensures
