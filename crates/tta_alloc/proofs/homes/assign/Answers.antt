use Rattle.tta_alloc.proofs.AllotLemmas.{scans_allot}
use Rattle.std.proofs.Common.{refl, ◌∙◌, ap}
use Rattle.tta_flow.proofs.Programs.{procs_are, proc_is}
use Rattle.tta_alloc.specs.Scan.{scan}
use Rattle.tta_alloc.specs.Homes.{IsScanOf}
use Rattle.tta_alloc.proofs.HomeLemmas.{held, back, known, given_none, given_more, scanned_all}
use Rattle.tta_alloc.proofs.homes.assign.Goals as goal

pub loop-owner-init : goal.loop-owner-init
loop-owner-init c = rw c.new-all.ensures.items (given_none (λ q answer. IsScanOf q c.args.homes answer) c.args.p.now)

pub taken_of-requires : goal.taken_of-requires
taken_of-requires c =
    known _ _ _ c.loop-owner.owner c.index-procs-owner.result _ _ c.in_ok-steps.steps _ c.p.view_is c.p.invariant c.as_slice-procs.ensures c.loop-owner-test.true
    c.index-procs-owner.is c.requires.flow c.requires.live (λ o i small. held c.as_slice.ensures (c.in_ok-steps.ensures.sound o i small))
    (λ o i small h. c.in_ok-steps.ensures.whole o i small (back c.as_slice.ensures h)) c.at.ensures

pub loop-owner-preserved : goal.loop-owner-preserved
loop-owner-preserved c =
    given_more (λ q answer. IsScanOf q c.args.homes answer) _ _ _ _ c.index-procs-owner.result _
    (proc_is _ _ _ c.p.view_is c.as_slice-procs.ensures c.loop-owner.owner c.index-procs-owner.result c.loop-owner-test.true c.index-procs-owner.is)
    c.loop-owner.invariant
    (record {
      taken = c.in_ok-taken.taken.items;
      are = c.in_ok-taken.ensures;
      is = c.in_ok-scan_homes.ensures ∙ ap (scan c.args.homes c.index-procs-owner.result.vars) c.as_slice-in-loop-owner.ensures.value;
    })
    c.in_ok-push.ensures.items

pub returns-clause-scan : goal.returns-clause-scan
returns-clause-scan c = scanned_all _ _ _ _ _ refl (procs_are _ _ _ c.p.view_is c.as_slice-procs.ensures) c.loop-owner-test.false c.loop-owner.invariant

pub returns-clause-allotted : goal.returns-clause-allotted
returns-clause-allotted c =
    scans_allot _ _ _ (scanned_all _ _ _ _ _ refl (procs_are _ _ _ c.p.view_is c.as_slice-procs.ensures) c.loop-owner-test.false c.loop-owner.invariant)
