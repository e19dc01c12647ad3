use Rattle.tta_exit_laws.specs.Cited.{no_memory, IsAssemblyFor, RefusesAssembly, IsAssembled}
use Rattle.tta_load.proofs.Statuses.{assembly_refusal, memory_lack}
use Rattle.tta_load.proofs.ByStatus.{write_by_status}
use Rattle.tta_exit_laws.proofs.laws.asm_by_status.Goals as goal

pub returns : goal.returns
returns c = λ u M A OUT before after.
    write_by_status u (IsAssemblyFor u) (RefusesAssembly u) IsAssembled (λ file whole. no_memory) M A OUT before after
    (assembly_refusal u) (λ file whole. memory_lack)
