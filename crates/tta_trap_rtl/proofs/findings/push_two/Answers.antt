use Rattle.std.proofs.Common.{◌≡◌, ◌++◌, List, ℕ, OnOk, subst}
use Rattle.tta_trap_rtl.proofs.Finds.{two_text}
use Rattle.tta_trap_rtl.proofs.findings.push_two.Goals as goal

pub returns : goal.returns
returns c =
    subst (λ (r : List ℕ). OnOk c.push_two_from.result (c.push_two_from.new.out.items ≡ c.args.out.now.items ++ r))
    (two_text c.args.on.now.m.now c.args.unit c.ops_at.result.now c.ops_at.ensures.all) c.push_two_from.ensures
