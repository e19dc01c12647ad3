use Rattle.std.proofs.Common.{◌≡◌, List, true, sym, subst, IfOk}
use Rattle.std.proofs.lemmas.Result.{IfOk-at_ok}
use Rattle.tta_build.specs.Cited.{BlockList, Item, Placed, Respects, IsFirstFit, is_list, HasRoom}
use Rattle.tta_build.specs.declared.trail.Round.{Round}
use Rattle.tta_build.specs.Derivation.{IsRound}
use Rattle.tta_build.proofs.Trails.{round_list}
use Rattle.tta_build.proofs.second_round.round_fit.Goals as goal

pub place-placed-requires : goal.place-placed-requires
place-placed-requires c = record {
  list = subst (λ (b : BlockList). is_list c.args.on.now.joined.machine.now b.items ≡ true) (sym c.last.ensures)
      (round_list c.args.on.now.joined.machine.now c.args.list.now c.args.round c.requires.round c.requires.list);
}

pub returns : goal.returns
returns c =
    let m = c.args.on.now.joined.machine.now in
    let p = c.in_ok-round.placed in
    let both = c.in_ok-round.ensures in
    let last : c.last.result.now ≡ c.in_ok-round.round.passed.lively = subst (λ (r : Round). c.last.result.now ≡ r.passed.lively) (sym both.first) c.last.ensures in
    let here : (P : List Item → Placed → Type 0) → IfOk c.place-placed.result (P c.last.result.now.items) → P c.in_ok-round.round.passed.lively.items p =
    λ P has. subst (λ (b : BlockList). P b.items p) last (IfOk-at_ok (P c.last.result.now.items) both.other has) in record {
      round = subst (IsRound m c.args.list.now) (sym both.first) c.requires.round;
      first = here (IsFirstFit m) c.place-placed.ensures.first;
      respects = here (Respects m) c.place-placed.ensures.respects;
      room = here (HasRoom m) c.place-placed.ensures.room;
    }
