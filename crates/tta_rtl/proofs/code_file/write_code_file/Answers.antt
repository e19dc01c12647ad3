use Rattle.std.proofs.Common.{◌≡◌, ℕ, ◌-◌, ◌*◌, ◌^◌, List, ◌++◌, length, replicate, sym, ap, ◌∙◌, arith}
use Rattle.std.specs.List.{flat_map}
use Rattle.tta_rtl.specs.Cited.{Layout, numbers, word_width, code_words, bits_in, field}
use Rattle.tta_code.specs.Whole.{Whole}
use Rattle.tta_rtl.specs.CodeFile.{hex_line}
use Rattle.tta_rtl.proofs.CodeFiles.{all_lines, code_lines}
use Rattle.tta_rtl.proofs.Layouts.{layout_fits}
use Rattle.tta_rtl.proofs.code_file.write_code_file.Goals as goal

pub invariant_of-on : goal.invariant_of-on
invariant_of-on c = record {
  layout_is = c.in_ok-layout.ensures;
  fits = layout_fits c.args.m.now c.in_ok-layout.layout c.addresses-size.ensures.rules c.in_ok-layout.ensures;
}

pub returns : goal.returns
returns c =
    let m = c.args.m.now in
    let code = c.args.whole.now.code in
    let w = word_width m in
    let items = c.in_ok-body.body.items in
    let lines : ℕ → List ℕ → ℕ → List ℕ = λ v bytes n. flat_map (λ k. hex_line v (field (k * v) v (bits_in bytes))) (numbers n) in
    let zeros : ℕ → ℕ → List ℕ = λ v n. flat_map (hex_line v) (replicate n 0) in
    let had = c.in_ok-layout.layout.width in
    let wide : had ≡ w = ap (λ (l : Layout). l.width) c.in_ok-layout.ensures in
    let many : c.len-words.result ≡ length code.words = c.len-words.ensures ∙ ap (λ (x : Whole). length x.code.words) c.whole.view_is in
    let left : ℕ = c.addresses-size.result - c.len-words.result in
    let rest : left ≡ 2 ^ m.control.address - length code.words = omega (arith, many, c.addresses-size.ensures.all) in
    c.in_ok-push_zero_lines.ensures
    ∙ ap (λ (t : List ℕ). t ++ zeros had left)
    (c.in_ok-push_lines.ensures ∙ ap (λ (o : List ℕ). o ++ lines had c.as_slice.result.now c.len-words.result) c.new-out.ensures.items)
    ∙ ap (λ (v : ℕ). lines v c.as_slice.result.now c.len-words.result ++ zeros v left) wide
    ∙ ap (λ (l : List ℕ). lines w l c.len-words.result ++ zeros w left) c.as_slice.ensures.value
    ∙ ap (λ (n : ℕ). lines w items n ++ zeros w left) many
    ∙ ap (λ (t : List ℕ). t ++ zeros w left) (code_lines m code items c.in_ok-body.ensures (hex_line w))
    ∙ ap (λ (n : ℕ). flat_map (hex_line w) (code_words m code) ++ zeros w n) rest
    ∙ sym (all_lines m code (hex_line w) (2 ^ m.control.address - length code.words))
