use Rattle.std.proofs.Common.{◌≡◌, ℕ, List, ◌++◌, Bool, length, ap, ◌∙◌}
use Rattle.tta_hardware.specs.Signals.{Signal as Named}
use Rattle.tta_rtl.specs.Cited.{stated, Layout}
use Rattle.tta_rtl.specs.Memories.{words_in}
use Rattle.tta_rtl.proofs.Layouts.{layout_fits}
use Rattle.tta_rtl.proofs.Modules.{first_count}
use Rattle.tta_boxed_rtl.specs.Cited.{Circuit, Store, Whole, boxed, code_words, first_words}
use Rattle.tta_boxed_rtl.specs.Beside.{dividers_text}
use Rattle.tta_boxed_rtl.specs.Left.{leaves_of, told_by}
use Rattle.tta_boxed_rtl.specs.Parts.{circuit_by}
use Rattle.tta_boxed_rtl.specs.Module.{module_text}
use Rattle.tta_boxed_rtl.proofs.Parts.{circuit_is}
use Rattle.tta_boxed_rtl.proofs.whole.write_boxed_rtl.Goals as goal

pub invariant_of-on : goal.invariant_of-on
invariant_of-on _ c = record {
  layout_is = c.in_ok-layout.ensures;
  fits = layout_fits c.args.wanted.now.m.now c.in_ok-layout.layout c.rules.ensures c.in_ok-layout.ensures;
}

pub invariant_of-core : goal.invariant_of-core
invariant_of-core _ c =
    let b = c.in_ok-body.ensures in
    let many : c.len.result ≡ length c.args.whole.now.code.words =
    c.len.ensures ∙ ap (λ (w : Whole). length w.code.words) c.whole.view_is in
    let wide = ap (λ (l : Layout). l.width) c.in_ok-layout.ensures in
    let body = c.as_slice.ensures.value in
    record {
      inside = rw (many, wide, body) b.inside;
      few = rw body b.few;
      sized = ap length (c.as_slice-2.ensures.value ∙ c.in_ok-first.ensures) ∙ first_count c.args.wanted.now.m.now c.args.whole.now;
    }

pub returns : goal.returns
returns g c =
    let wanted = c.args.wanted.now in
    let m = wanted.m.now in
    let whole = c.args.whole.now in
    let u = stated (λ v. (goal.OpUnit-dyn g v).unit_meaning v.1) wanted.units.now in
    let text : (ℕ → Bool) → Circuit Named Store → List ℕ = λ leaves x.
    module_text u m wanted.rom wanted.faults leaves (boxed m leaves x) ++ dividers_text u m leaves in
    let circuit : ℕ → List ℕ → List ℕ → Circuit Named Store = λ count words first. circuit_by wanted.faults m count words first in
    let b = c.in_ok-body.ensures in
    let first = c.as_slice-2.result.now in
    let body = words_in m c.as_slice.result.now c.len.result in
    let many : c.len.result ≡ length whole.code.words = c.len.ensures ∙ ap (λ (w : Whole). length w.code.words) c.whole.view_is in
    let words : body ≡ code_words m whole.code =
    ap (λ (l : List ℕ). words_in m l c.len.result) c.as_slice.ensures.value ∙ ap (words_in m c.in_ok-body.body.items) many ∙ b.words in
    let test : List Bool → List ℕ = λ leaves. text (told_by leaves) (circuit c.len.result body first) in
    c.in_ok-push_modules.ensures
    ∙ ap (λ (o : List ℕ). o ++ test c.as_slice-3.result.now) c.new-out.ensures.items
    ∙ ap test (c.as_slice-3.ensures.value ∙ c.in_ok-leaves.ensures)
    ∙ ap (λ (x : Circuit Named Store). text (leaves_of u) x)
    (ap (λ (n : ℕ). circuit n body first) many
    ∙ ap (λ (ws : List ℕ). circuit (length whole.code.words) ws first) words
    ∙ ap (circuit (length whole.code.words) (code_words m whole.code)) (c.as_slice-2.ensures.value ∙ c.in_ok-first.ensures)
    ∙ circuit_is wanted.faults m whole.code (first_words m whole))
