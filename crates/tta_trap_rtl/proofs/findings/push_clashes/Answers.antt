use Rattle.std.proofs.Common.{◌≡◌, ◌++◌, List, ℕ, OnOk, subst}
use Rattle.tta_trap_rtl.proofs.Finds.{clash_text}
use Rattle.tta_trap_rtl.proofs.findings.push_clashes.Goals as goal

pub returns : goal.returns
returns c =
    subst (λ (r : List ℕ). OnOk c.push_clashes_from.result (c.push_clashes_from.new.out.items ≡ c.args.out.now.items ++ r))
    (clash_text c.args.on.now.m.now c.args.unit c.ops_at.result.now c.ops_at.ensures.all) c.push_clashes_from.ensures
