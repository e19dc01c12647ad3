-- Files that were not touched are the files as they were.
use Rattle.std.proofs.Common.{◌≡◌, ℕ, Option, ap, ◌∙◌}
use Rattle.tta_ports.specs.declared.fault.Fault.{Fault}
use Rattle.tta_ports.specs.Store.{Store}
use Rattle.tta_ports.specs.World.{World, IsUntouched}

pub same_world : (before after : World) → IsUntouched before after → after ≡ before
same_world before after e =
    let of : Option Store → ℕ → Option Fault → World = λ c n l. record { contents = c; faults = n; latest = l } in
    ap (λ c. of c after.faults after.latest) e.contents ∙ ap (λ n. of before.contents n after.latest) e.faults
    ∙ ap (λ l. of before.contents before.faults l) e.latest
