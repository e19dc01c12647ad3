use Rattle.std.proofs.Common.{◌≡◌, length, refl, ap, subst, ◌∙◌, rules}
use Rattle.tta_check.specs.Cited.{IsMachine}
use Rattle.tta_check.specs.Carries.{Carried}
use Rattle.tta_check.specs.Joins.{IsFirst}
use Rattle.tta_check.proofs.Solving.{can_carry, solving_on, solving_ends, solved}
use Rattle.tta_check.proofs.Checking.{start_goes, start_ends, checks, nothing}
use Rattle.tta_check.proofs.solve.check.Goals as goal

pub returns-in-Some : goal.returns-in-Some
returns-in-Some c = record {
  verdict =
      checks c.args.m.now c.args.code.now c.in-Some.verdict
      (start_ends c.args.m.now c.args.code.now c.in_ok-locations.locations.items c.m.inside.control.delay c.len-len.result c.len.result c.in_ok-state.state c.in_ok-table.table
      (record {
        given = record { rules = subst IsMachine c.m.view_is c.m.invariant; legal = c.requires; has = c.in_ok-locations.ensures };
        delay_is = ap (λ m. m.control.delay) c.m.view_is;
        len_is = c.len-len.ensures;
        units_is = c.len.ensures ∙ ap (λ m. length m.units) c.m.view_is;
        first = subst (λ xs. IsFirst xs c.len.result c.in_ok-state.state) c.deref.ensures.value c.in_ok-state.ensures;
        entries = c.in_ok-table.ensures.entries;
        worklist = c.in_ok-table.ensures.worklist;
      }) c.put.new.self c.in_ok-verdict.field-0 c.in-Some.verdict c.in_ok-verdict.ensures c.in-Some.is);
}

pub loop-place-init : goal.loop-place-init
loop-place-init c =
    start_goes c.args.m.now c.args.code.now c.in_ok-locations.locations.items c.m.inside.control.delay c.len-len.result c.len.result c.in_ok-state.state c.in_ok-table.table
    (record {
      given = record { rules = subst IsMachine c.m.view_is c.m.invariant; legal = c.requires; has = c.in_ok-locations.ensures };
      delay_is = ap (λ m. m.control.delay) c.m.view_is;
      len_is = c.len-len.ensures;
      units_is = c.len.ensures ∙ ap (λ m. length m.units) c.m.view_is;
      first = subst (λ xs. IsFirst xs c.len.result c.in_ok-state.state) c.deref.ensures.value c.in_ok-state.ensures;
      entries = c.in_ok-table.ensures.entries;
      worklist = c.in_ok-table.ensures.worklist;
    }) c.put.new.self c.in_ok-verdict.field-0 c.in_ok-verdict.ensures c.in_default.is

pub carry-requires : goal.carry-requires
carry-requires c =
    can_carry c.args.m.now c.args.code.now c.in_ok-locations.locations.items (record { rules = subst IsMachine c.m.view_is c.m.invariant; legal = c.requires; has = c.in_ok-locations.ensures })
    c.loop-place.table (record { entries = c.loop-place.table.entries; worklist = c.pop.new.self }) c.in-Some-pop.place c.loop-place.invariant.sound refl c.in-Some-pop.ensures.items

pub returns-in-Some-2 : goal.returns-in-Some-2
returns-in-Some-2 c = record {
  verdict =
      checks c.args.m.now c.args.code.now c.in-Some-2.verdict
      (solving_ends c.args.m.now c.args.code.now c.in_ok-locations.locations.items (record { rules = subst IsMachine c.m.view_is c.m.invariant; legal = c.requires; has = c.in_ok-locations.ensures })
      c.loop-place.table (record { entries = c.loop-place.table.entries; worklist = c.pop.new.self }) c.carry.new.self c.in-Some-pop.place c.in-Some-2.verdict c.loop-place.invariant refl c.in-Some-pop.ensures.items
      (subst (Carried c.args.m.now c.args.code.now c.in-Some-pop.place (record { entries = c.loop-place.table.entries; worklist = c.pop.new.self }) c.carry.new.self) c.in-Some-2.is c.in_ok-verdict-2.ensures));
}

pub loop-place-smaller : goal.loop-place-smaller
loop-place-smaller c =
    (solving_on c.args.m.now c.args.code.now c.in_ok-locations.locations.items (record { rules = subst IsMachine c.m.view_is c.m.invariant; legal = c.requires; has = c.in_ok-locations.ensures })
    c.loop-place.table (record { entries = c.loop-place.table.entries; worklist = c.pop.new.self }) c.carry.new.self c.in-Some-pop.place c.loop-place.invariant refl c.in-Some-pop.ensures.items
    (subst (Carried c.args.m.now c.args.code.now c.in-Some-pop.place (record { entries = c.loop-place.table.entries; worklist = c.pop.new.self }) c.carry.new.self) c.in_default-2.is c.in_ok-verdict-2.ensures)).1

pub loop-place-preserved : goal.loop-place-preserved
loop-place-preserved c =
    (solving_on c.args.m.now c.args.code.now c.in_ok-locations.locations.items (record { rules = subst IsMachine c.m.view_is c.m.invariant; legal = c.requires; has = c.in_ok-locations.ensures })
    c.loop-place.table (record { entries = c.loop-place.table.entries; worklist = c.pop.new.self }) c.carry.new.self c.in-Some-pop.place c.loop-place.invariant refl c.in-Some-pop.ensures.items
    (subst (Carried c.args.m.now c.args.code.now c.in-Some-pop.place (record { entries = c.loop-place.table.entries; worklist = c.pop.new.self }) c.carry.new.self) c.in_default-2.is c.in_ok-verdict-2.ensures)).0

pub returns : goal.returns
returns c = record {
  verdict =
      checks c.args.m.now c.args.code.now _
      (solved c.args.m.now c.args.code.now c.in_ok-locations.locations.items (record { rules = subst IsMachine c.m.view_is c.m.invariant; legal = c.requires; has = c.in_ok-locations.ensures })
      c.loop-place.table c.loop-place.invariant (nothing c.loop-place.table.worklist.items (let e : length c.loop-place.table.worklist.items ≡ 0 = search rules in e)));
}
