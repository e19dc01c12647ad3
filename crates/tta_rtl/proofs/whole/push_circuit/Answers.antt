use Rattle.std.proofs.Common.{◌≡◌, ℕ, List, ◌++◌, length, ap, ◌∙◌}
use Rattle.tta_list.proofs.Results.{onward}
use Rattle.tta_rtl.specs.Cited.{stated, Layout, circuit_with, code_words}
use Rattle.tta_code.specs.Whole.{Whole}
use Rattle.tta_rtl.specs.Memories.{words_in}
use Rattle.tta_rtl.specs.Module.{module_with}
use Rattle.tta_rtl.proofs.Layouts.{layout_fits}
use Rattle.tta_rtl.proofs.whole.push_circuit.Goals as goal

pub invariant_of-on : goal.invariant_of-on
invariant_of-on _ c = record {
  layout_is = c.in_ok-layout.ensures;
  fits = layout_fits c.args.wanted.now.m.now c.in_ok-layout.layout c.rules.ensures c.in_ok-layout.ensures;
}

pub invariant_of-core : goal.invariant_of-core
invariant_of-core _ c =
    let b = c.in_ok-body.ensures in
    let many : c.len.result ≡ length c.args.whole.now.code.words = c.len.ensures ∙ ap (λ (w : Whole). length w.code.words) c.whole.view_is in
    let wide = ap (λ (l : Layout). l.width) c.in_ok-layout.ensures in
    let body = c.as_slice.ensures.value in
    record { inside = rw (many, wide, body) b.inside; few = rw body b.few; sized = c.args.wanted.now.sized }

pub returns : goal.returns
returns g c =
    let wanted = c.args.wanted.now in
    let m = wanted.m.now in
    let whole = c.args.whole.now in
    let U = stated (λ v. (goal.OpUnit-dyn g v).unit_meaning v.1) wanted.units.now in
    let text : List ℕ → List ℕ = λ words. module_with U m c.args.rom wanted.name.now wanted.gives wanted.takes (circuit_with m words wanted.first.now) in
    let b = c.in_ok-body.ensures in
    let many : c.len.result ≡ length whole.code.words = c.len.ensures ∙ ap (λ (w : Whole). length w.code.words) c.whole.view_is in
    let words : words_in m c.as_slice.result.now c.len.result ≡ code_words m whole.code =
    ap (λ (l : List ℕ). words_in m l c.len.result) c.as_slice.ensures.value ∙ ap (words_in m c.in_ok-body.body.items) many ∙ b.words in
    onward c.push_module.result (λ put. put ∙ ap (λ (ws : List ℕ). c.args.out.now.items ++ text ws) words) c.push_module.ensures
