use Rattle.std.proofs.Common.{ℕ, List, ◌++◌, true, ap, ◌∙◌}
use Rattle.std.specs.Prelude.{codes}
use Rattle.tta_list.proofs.Results.{onward}
use Rattle.tta_ops.specs.Set.{stated}
use Rattle.tta_hardware.specs.Hardware.{circuit_of}
use Rattle.tta_rtl.specs.Module.{module_of}
use Rattle.tta_wiring.specs.Queues.{numbered}
use Rattle.tta_netlist.specs.Net.{core_module}
use Rattle.tta_netlist.proofs.cores.push_module.Goals as goal

pub invariant_of-wanted : goal.invariant_of-wanted
invariant_of-wanted _ c = record { sized = c.requires.size }

pub returns : goal.returns
unfolding core_module
returns g c =
    let core = c.args.core in
    let U = stated (λ v. (goal.OpUnit-dyn g v).unit_meaning v.1) c.args.units.now in
    let text : List ℕ → List ℕ = λ name. module_of U core.machine name true true (circuit_of core.machine core.code c.args.first.now) in
    onward c.push_core.result (λ put.
    put ∙ ap (λ (name : List ℕ). c.args.out.now.items ++ text name)
    (c.as_slice.ensures.value ∙ c.in_ok-push_numbered.ensures
    ∙ ap (λ (l : List ℕ). l ++ numbered (codes "tta_core_") c.args.k) c.new-name.ensures.items)) c.push_core.ensures
