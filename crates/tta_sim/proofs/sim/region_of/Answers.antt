use Rattle.std.proofs.Common.{length, replicate, ap, ◌∙◌, subst}
use Rattle.tta_sim.specs.Cited.{IsMachine}
use Rattle.tta_sim.proofs.Owning.{own_size, has_room, has_none}
use Rattle.tta_sim.proofs.sim.region_of.Goals as goal

pub returns-clause-units : goal.returns-clause-units
returns-clause-units c =
    let same = c.as_slice.ensures.value ∙ c.in_ok-longest.ensures ∙ ap (λ n. replicate n 16) (c.len.ensures ∙ ap (λ m. length m.units) c.m.view_is) in
    own_size c.args.m.now _ c.in_ok-region.region same c.in_ok-region.ensures.units

pub returns-clause-has_units : goal.returns-clause-has_units
returns-clause-has_units c =
    let same = c.as_slice.ensures.value ∙ c.in_ok-longest.ensures ∙ ap (λ n. replicate n 16) (c.len.ensures ∙ ap (λ m. length m.units) c.m.view_is) in
    has_room c.args.m.now _ c.in_ok-region.region (subst IsMachine c.m.view_is c.m.invariant) same c.in_ok-region.ensures.units c.in_ok-region.ensures.longest

pub returns-clause-none : goal.returns-clause-none
returns-clause-none c =
    let same = c.as_slice.ensures.value ∙ c.in_ok-longest.ensures ∙ ap (λ n. replicate n 16) (c.len.ensures ∙ ap (λ m. length m.units) c.m.view_is) in
    let has = has_room c.args.m.now _ c.in_ok-region.region (subst IsMachine c.m.view_is c.m.invariant) same c.in_ok-region.ensures.units c.in_ok-region.ensures.longest in
    has_none c.args.m.now c.in_ok-region.region has c.in_ok-region.ensures.none
