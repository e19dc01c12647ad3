use Rattle.std.proofs.Common.{◌≡◌, List, true, sym, subst, IfOk}
use Rattle.std.proofs.lemmas.Result.{IfOk-at_ok}
use Rattle.tta_build.specs.Cited.{BlockList, Item, Placed, Respects, IsFirstFit, is_list, HasRoom}
use Rattle.tta_build.specs.Derivation.{last_of}
use Rattle.tta_build.proofs.best_candidate.fit_of.Goals as goal

pub place-placed-requires : goal.place-placed-requires
place-placed-requires c = record {
  list = subst (λ (b : BlockList). is_list c.args.on.now.joined.machine.now b.items ≡ true) (sym c.last.ensures) c.requires.list;
}

pub returns : goal.returns
returns c =
    let m = c.args.on.now.joined.machine.now in
    let p = c.in_ok-trail.placed in
    let here : (P : List Item → Placed → Type 0) → IfOk c.place-placed.result (P c.last.result.now.items) → P (last_of c.args.trail).items p =
    λ P has. subst (λ (b : BlockList). P b.items p) c.last.ensures (IfOk-at_ok (P c.last.result.now.items) c.in_ok-trail.ensures.other has) in record {
      is = c.in_ok-trail.ensures.first;
      first = here (IsFirstFit m) c.place-placed.ensures.first;
      respects = here (Respects m) c.place-placed.ensures.respects;
      room = here (HasRoom m) c.place-placed.ensures.room;
    }
