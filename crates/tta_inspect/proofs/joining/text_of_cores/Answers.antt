use Rattle.std.proofs.Common.{◌≡◌, ◌≤◌, ◌∙◌, ℕ, List, length, ap, sym, subst, arith}
use Rattle.std.specs.List.{AllByRecursion}
use Rattle.tta_inspect.specs.Depths.{depths_in}
use Rattle.tta_inspect.proofs.Powers.{depths_count, depths_small}
use Rattle.tta_inspect.proofs.Joined.{sound}
use Rattle.tta_inspect.proofs.joining.text_of_cores.Goals as goal

pub write_net-requires-clause-depths : goal.write_net-requires-clause-depths
write_net-requires-clause-depths g c =
    let few = c.requires.few in
    let many : length c.as_slice.result.now ≡ c.args.count = ap length (c.as_slice.ensures.value ∙ c.in-Ok.ensures) ∙ depths_count c.args.count c.args.depths.now in
    omega (arith, many, few)

pub write_net-requires-clause-sizes : goal.write_net-requires-clause-sizes
write_net-requires-clause-sizes g c =
    let same : c.as_slice.result.now ≡ depths_in c.args.count c.args.depths.now = c.as_slice.ensures.value ∙ c.in-Ok.ensures in
    subst (λ (l : List ℕ). AllByRecursion (λ k. k ≤ 16) l) (sym same) (depths_small c.args.count c.args.depths.now)

pub write_net-requires-clause-sound : goal.write_net-requires-clause-sound
write_net-requires-clause-sound g c =
    rw c.as_slice-2.ensures.value (sound c.args.taken.cores.items _ c.requires.load.each)
