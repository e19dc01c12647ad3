use Rattle.std.proofs.Common.{refl}
use Rattle.tta_flow.proofs.Walks.{goes_on}
use Rattle.tta_flow.proofs.order.Walk.go_on.Goals as goal

pub returns-in_ok-come_to-in-Some : goal.returns-in_ok-come_to-in-Some
returns-in_ok-come_to-in-Some c =
    goes_on _ _ _ c.args.self.now _ c.come_to.new.self c.requires.walk c.requires.there c.in-Some.ensures refl c.in_ok-push-in-Some.ensures.items refl
    c.in_ok-come_to-in-Some.ensures
