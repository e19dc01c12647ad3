use Rattle.std.proofs.Common.{◌≡◌, ◌++◌, List, ℕ, OnOk, subst, sym}
use Rattle.tta_rtl.proofs.Shown.{begins_text}
use Rattle.tta_rtl.proofs.results.push_begins.Goals as goal

pub returns : goal.returns
returns c =
    subst (λ (r : List ℕ). OnOk c.push_begins_from.result (c.push_begins_from.new.out.items ≡ c.args.out.now.items ++ r))
    (sym (begins_text c.args.on.now.m.now c.args.unit c.args.latency c.ops_at.result.now c.ops_at.ensures.all)) c.push_begins_from.ensures
