use Rattle.std.proofs.Common.{◌≡◌, [], ◌∷◌, length, sym, ap, subst, ◌∙◌, append_assoc, arith, refl}
use Rattle.std.proofs.lemmas.Result.{IfOk-at_ok}
use Rattle.std.specs.Vec.Iter.{into_iter_items}
use Rattle.tta_build.specs.declared.best_candidate.Chosen.{Chosen}
use Rattle.tta_build.specs.Placing.{IsFitOf, IsBest}
use Rattle.tta_build.proofs.Trails.{trail_list, next_trail}
use Rattle.tta_build.proofs.Shortest.{best_more}
use Rattle.tta_build.proofs.best_candidate.shortest.Goals as goal

pub loop-trail-init : goal.loop-trail-init
loop-trail-init c = (refl, c.requires.best, search)

pub fit_of-other-requires : goal.fit_of-other-requires
fit_of-other-requires c =
    let m = c.args.on.now.joined.machine.now in
    let at = c.loop-trail in
    let x = c.in-Some.trail in
    let steps : into_iter_items at.trail-iterator ≡ x ∷ into_iter_items c.next.new.self = c.in-Some.ensures.steps.0 in
    let all = rw steps at at.invariant.0 ∙ c.into_iter-trail-iterator.ensures.into_iter_gives.0 in
    let is = next_trail m c.args.b.now c.args.others.items at.yielded (into_iter_items c.next.new.self) x c.requires.others all in
    record { list = trail_list m c.args.b.now x is c.requires.list }

pub loop-trail-preserved : goal.loop-trail-preserved
loop-trail-preserved c =
    let m = c.args.on.now.joined.machine.now in
    let b = c.args.b.now in
    let at = c.loop-trail in
    let x = c.in-Some.trail in
    let both = c.in_ok-one.ensures in
    let steps : into_iter_items at.trail-iterator ≡ x ∷ into_iter_items c.next.new.self = c.in-Some.ensures.steps.0 in
    let all = rw steps at at.invariant.0 ∙ c.into_iter-trail-iterator.ensures.into_iter_gives.0 in
    let is = next_trail m b c.args.others.items at.yielded (into_iter_items c.next.new.self) x c.requires.others all in (
      append_assoc at.yielded (x ∷ []) _ ∙ rw (← steps) at.invariant.0,
      best_more m b x c.in_ok-one.one c.in_ok-one.other c.chosen-best.result (subst (IsBest m b) (sym both.first) at.invariant.1) is
          (IfOk-at_ok (λ (r : Chosen). IsFitOf m x r) both.other c.fit_of-other.ensures) c.chosen-best.ensures,
      let was = at.invariant.2 in
          let gone = c.in-Some.ensures.steps.1 in
          let short = ap length steps in
          omega arith,
    )

pub returns : goal.returns
returns c = c.loop-trail.invariant.1
