use Rattle.std.proofs.Common.{ℕ, ap, ◌∙◌}
use Rattle.std.specs.Prelude.{bit_or, ◌||◌}
use Rattle.tta_arch.specs.Joins.{has_bit}
use Rattle.tta_arch.proofs.SetLemmas.{has_bit-or, has_bit-one}
use Rattle.tta_arch.proofs.sets.with_bus.Goals as goal

pub returns : goal.returns
returns c = λ k.
    ap (λ (n : ℕ). has_bit (bit_or c.args.buses n) k) c.bus_bit.ensures ∙ has_bit-or c.args.buses _ k
    ∙ ap (λ b. has_bit c.args.buses k || b) (has_bit-one c.args.bus k)
