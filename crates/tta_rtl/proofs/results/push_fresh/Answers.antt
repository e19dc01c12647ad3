use Rattle.std.proofs.Common.{◌≡◌, ◌++◌, List, ℕ, OnOk, subst, sym}
use Rattle.tta_rtl.proofs.Shown.{fresh_text}
use Rattle.tta_rtl.proofs.results.push_fresh.Goals as goal

pub returns : goal.returns
returns c =
    subst (λ (r : List ℕ). OnOk c.push_fresh_from.result (c.push_fresh_from.new.out.items ≡ c.args.out.now.items ++ r))
    (sym (fresh_text c.args.on.now.m.now c.args.unit c.args.latency c.ops_at.result.now c.ops_at.ensures.all)) c.push_fresh_from.ensures
