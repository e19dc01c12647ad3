use Rattle.std.proofs.Common.{ℕ, List, sym, ap, subst}
use Rattle.std.proofs.lemmas.Result.{IfOk-at_ok}
use Rattle.tta_build.specs.Cited.{stated, Machine, SlotsAsScanned, Rir, BlockList, selected}
use Rattle.tta_lower.specs.Statement.{IsCodeOf}
use Rattle.tta_build.specs.declared.best_candidate.Planned.{Planned}
use Rattle.tta_build.specs.Placing.{ArePlanned}
use Rattle.tta_build.proofs.CoveredCode.{lowered_with, blocks_fit, selected_with, selected_lists}
use Rattle.tta_build.proofs.placed_program.homed_with.Goals as goal

pub lower-requires-clause-homes : goal.lower-requires-clause-homes
lower-requires-clause-homes g c =
    subst (λ (n : ℕ). SlotsAsScanned c.args.p.now n c.args.homes) (sym c.requires.kept.count) c.requires.kept

pub select-requires-clause-fits : goal.select-requires-clause-fits
select-requires-clause-fits g c =
    let U = stated (λ v. (goal.OpUnit-dyn g v).unit_meaning v.1) c.args.units.now in
    let on = c.args.on.now in
    blocks_fit U on.joined.machine.now on.choice.now c.args.p.now c.rules.ensures c.requires.over on.choice_of c.rules-2.ensures c.requires.offered
    c.in_ok-code.code
    (lowered_with c.args.p.now c.args.known.now c.args.homes _ _ _ c.in_ok-code.code c.requires.known c.requires.kept
    (ap (λ (x : Machine). x.frame_words) c.m.view_is) c.in_ok-code.ensures.code)

pub plan_lists-planned-requires : goal.plan_lists-planned-requires
plan_lists-planned-requires g c =
    let U = stated (λ v. (goal.OpUnit-dyn g v).unit_meaning v.1) c.args.units.now in
    let on = c.args.on.now in
    let words = ap (λ (x : Machine). x.frame_words) c.m.view_is in
    record {
      lists = selected_lists U on.joined.machine.now on.choice.now c.args.p.now c.rules.ensures c.requires.over on.choice_of c.rules-2.ensures c.requires.offered
          c.in_ok-selected.selected.items
          (selected_with U on.joined.machine.now on.choice.now c.args.p.now c.rules.ensures c.requires.over on.choice_of c.rules-2.ensures c.requires.offered
          c.args.known.now c.args.homes _ c.in_ok-code.code c.in_ok-selected.selected.items c.requires.known c.requires.kept
          words c.in_ok-code.ensures.code c.in_ok-selected.ensures.lists).of;
    }

pub returns-clause-listed : goal.returns-clause-listed
returns-clause-listed g c =
    let U = stated (λ v. (goal.OpUnit-dyn g v).unit_meaning v.1) c.args.units.now in
    let m = c.args.on.now.joined.machine.now in
    let choice = c.args.on.now.choice.now in
    let known = c.args.known.now in
    let both = c.in_ok-code-2.ensures in
    let words = ap (λ (x : Machine). x.frame_words) c.m.view_is in
    let code = subst (λ (k : ℕ). IsCodeOf c.args.p.now known.flow.blocks known.live c.args.homes k c.in_ok-code.code) words c.in_ok-code.ensures.code in
    let planned = IfOk-at_ok (λ (r : Planned). ArePlanned m c.in_ok-selected.selected.items r) both.other c.plan_lists-planned.ensures in
    let lists = subst (λ (l : List BlockList). ArePlanned m l c.in_ok-code-2.planned) c.in_ok-selected.ensures.lists planned in
    record {
      code = subst (λ (r : Rir). IsCodeOf c.args.p.now known.flow.blocks known.live c.args.homes m.frame_words r) (sym both.first) code;
      planned = subst (λ (r : Rir). ArePlanned m (selected m choice U r) c.in_ok-code-2.planned) (sym both.first) lists;
    }
