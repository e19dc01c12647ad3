use Rattle.std.proofs.Common.{◌≡◌, List, ℕ, OnOk, subst}
use Rattle.std.specs.List.{flat_map, enumerate_from}
use Rattle.tta_rtl.specs.Cited.{made, constant, text_of}
use Rattle.tta_rtl.specs.Texts.{made_choice}
use Rattle.tta_rtl.proofs.Pieces.{two}
use Rattle.tta_rtl.proofs.Shown.{made_text}
use Rattle.tta_rtl.proofs.results.push_made.Goals as goal

pub returns : goal.returns
returns c =
    let m = c.args.on.now.m.now in
    let ops = c.ops_at.result.now in
    subst (λ (r : List ℕ). OnOk c.push_constant.result (c.push_constant.new.out.items ≡ r))
    (two c.args.out.now.items (flat_map (made_choice m c.args.unit c.args.latency) (enumerate_from 0 ops)) (constant 32 0)
    (text_of m (made m c.args.unit c.args.latency)) c.push_made_from.new.out.items c.in_ok-push_made_from.ensures
    (made_text m c.args.unit c.args.latency ops c.ops_at.ensures.all)) c.push_constant.ensures
