use Rattle.std.proofs.Common.{◌≡◌, ℕ, List, ◌++◌, Bool, length, ap, ◌∙◌}
use Rattle.tta_hardware.specs.Hardware.{code_words}
use Rattle.tta_rtl.specs.Cited.{stated, Layout}
use Rattle.tta_rtl.specs.Memories.{words_in}
use Rattle.tta_rtl.proofs.Layouts.{layout_fits}
use Rattle.tta_rtl.proofs.Modules.{first_count}
use Rattle.tta_trap.specs.Trap.{trap_with}
use Rattle.tta_trap_rtl.specs.Cited.{Out, Take, Whole, offers}
use Rattle.tta_trap_rtl.specs.Module.{module_with}
use Rattle.tta_trap_rtl.proofs.whole.write_trap.Goals as goal

pub invariant_of-on : goal.invariant_of-on
invariant_of-on _ c = record {
  layout_is = c.in_ok-layout.ensures;
  fits = layout_fits c.args.m.now c.in_ok-layout.layout c.rules.ensures c.in_ok-layout.ensures;
}

pub invariant_of-core : goal.invariant_of-core
invariant_of-core _ c =
    let b = c.in_ok-body.ensures in
    let many : c.len.result ≡ length c.args.whole.now.code.words = c.len.ensures ∙ ap (λ (w : Whole). length w.code.words) c.whole.view_is in
    let wide = ap (λ (l : Layout). l.width) c.in_ok-layout.ensures in
    let body = c.as_slice.ensures.value in
    record {
      inside = rw (many, wide, body) b.inside;
      few = rw body b.few;
      sized = ap length (c.as_slice-2.ensures.value ∙ c.in_ok-first.ensures) ∙ first_count c.args.m.now c.args.whole.now;
    }

pub returns : goal.returns
returns g c =
    let m = c.args.m.now in
    let whole = c.args.whole.now in
    let U = stated (λ v. (goal.OpUnit-dyn g v).unit_meaning v.1) c.args.units.now in
    let text : Bool → Bool → ℕ → List ℕ → List ℕ → List ℕ =
    λ gives takes count words first. module_with U m c.args.rom gives takes (trap_with m count words first) in
    let b = c.in_ok-body.ensures in
    let first = c.as_slice-2.result.now in
    let body = words_in m c.as_slice.result.now c.len.result in
    let many : c.len.result ≡ length whole.code.words = c.len.ensures ∙ ap (λ (w : Whole). length w.code.words) c.whole.view_is in
    let words : body ≡ code_words m whole.code =
    ap (λ (l : List ℕ). words_in m l c.len.result) c.as_slice.ensures.value ∙ ap (words_in m c.in_ok-body.body.items) many ∙ b.words in
    c.in_ok-push_module.ensures
    ∙ ap (λ (o : List ℕ). o ++ text c.in_ok-gives.gives c.in_ok-takes.takes c.len.result body first) c.new-out.ensures.items
    ∙ ap (λ (x : Bool). text x c.in_ok-takes.takes c.len.result body first) c.in_ok-gives.ensures
    ∙ ap (λ (x : Bool). text (offers m Out) x c.len.result body first) c.in_ok-takes.ensures
    ∙ ap (λ (n : ℕ). text (offers m Out) (offers m Take) n body first) many
    ∙ ap (λ (ws : List ℕ). text (offers m Out) (offers m Take) (length whole.code.words) ws first) words
    ∙ ap (text (offers m Out) (offers m Take) (length whole.code.words) (code_words m whole.code)) (c.as_slice-2.ensures.value ∙ c.in_ok-first.ensures)
