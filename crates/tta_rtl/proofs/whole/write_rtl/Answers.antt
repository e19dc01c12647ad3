use Rattle.std.proofs.Common.{ℕ, List, ◌++◌, Bool, length, ap, ◌∙◌}
use Rattle.std.specs.Prelude.{codes}
use Rattle.tta_rtl.specs.Cited.{stated, Out, Take, circuit_of}
use Rattle.tta_rtl.specs.Module.{module_with, offers}
use Rattle.tta_rtl.proofs.Modules.{first_count}
use Rattle.tta_rtl.proofs.whole.write_rtl.Goals as goal

pub invariant_of-wanted : goal.invariant_of-wanted
invariant_of-wanted _ c = record { sized = ap length (c.as_slice.ensures.value ∙ c.in_ok-first.ensures) ∙ first_count c.args.m.now c.args.whole.now }

pub returns : goal.returns
returns g c =
    let m = c.args.m.now in
    let whole = c.args.whole.now in
    let U = stated (λ v. (goal.OpUnit-dyn g v).unit_meaning v.1) c.args.units.now in
    let text : Bool → Bool → List ℕ → List ℕ = λ gives takes first. module_with U m c.args.rom (codes "tta_core") gives takes (circuit_of m whole.code first) in
    let first = c.as_slice.result.now in
    c.in_ok-push_circuit.ensures
    ∙ ap (λ (o : List ℕ). o ++ text c.in_ok-gives.gives c.in_ok-takes.takes first) c.new-out.ensures.items
    ∙ ap (λ (b : Bool). text b c.in_ok-takes.takes first) c.in_ok-gives.ensures
    ∙ ap (λ (b : Bool). text (offers m Out) b first) c.in_ok-takes.ensures
    ∙ ap (text (offers m Out) (offers m Take)) (c.as_slice.ensures.value ∙ c.in_ok-first.ensures)
