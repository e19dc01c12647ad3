use Rattle.std.proofs.Common.{◌≡◌, ℕ, List, true, false, sym, ap, ◌∙◌}
use Rattle.std.specs.Prelude.{not}
use Rattle.std.specs.List.{list_all}
use Rattle.tta_loadelim.specs.Cited.{KeptReg, Item, reads, lives}
use Rattle.tta_loadelim.proofs.SpareRegisters.{spare_more}
use Rattle.tta_loadelim.proofs.sparing.add_spare.Goals as goal

pub returns-in_ok-push : goal.returns-in_ok-push
returns-in_ok-push c spare =
    let dead : lives c.args.b.now.live_out (KeptReg c.args.hub c.args.index) ≡ false = ap (λ (l : List (ℕ × ℕ)). lives l (KeptReg c.args.hub c.args.index)) (sym c.as_slice.ensures) ∙ sym c.lives.ensures ∙ c.if-lives.false in
    let unread : list_all (λ x. not (reads (KeptReg c.args.hub c.args.index) x)) c.args.b.now.items ≡ true =
    ap (λ (l : List Item). list_all (λ x. not (reads (KeptReg c.args.hub c.args.index) x)) l) (sym c.as_slice-2.ensures) ∙ sym c.is_unread.ensures ∙ c.if-is_unread.true in
    rw c.in_ok-push.ensures.items (spare_more c.args.hub c.args.index c.args.b.now c.args.fresh.now.items unread dead c.requires spare)
