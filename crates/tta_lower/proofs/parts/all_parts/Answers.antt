use Rattle.std.proofs.Common.{◌<◌, ◌∙◌, arith}
use Rattle.tta_lower.specs.LoweringInput.{first_by}
use Rattle.tta_lower.proofs.Facts.{span-is}
use Rattle.tta_lower.proofs.Split.{row-read, row-spans, main-first, others-more, others-none}
use Rattle.tta_lower.proofs.parts.all_parts.Goals as goal
use Rattle.tta_program.proofs.Mains.{main-below}

pub push_proc-requires-clause-spans : goal.push_proc-requires-clause-spans
push_proc-requires-clause-spans c =
    let table = c.in_ok-table.table.items in
    let size = c.in_ok-table.ensures.size in
    let main = main-below c.args.p.now c.requires.sound in
    let lt : c.main_of-main.result < c.proc_count-procs.result = omega (arith, main, c.main_of-main.ensures, c.proc_count-procs.ensures) in
    row-spans c.args.p.now c.proc_count-procs.result c.args.blocks.now table c.main_of-main.result c.as_slice.result.now (span-is c.args.p.now c.requires.sound c.args.blocks.now c.requires.flow) c.in_ok-table.ensures lt
    (row-read table c.main_of-main.result _ _ (omega (arith, lt, size)) c.index.ensures c.as_slice.ensures.value)

pub loop-owner-init : goal.loop-owner-init
loop-owner-init c =
    let table = c.in_ok-table.table.items in
    let size = c.in_ok-table.ensures.size in
    let main = main-below c.args.p.now c.requires.sound in
    let lt : c.main_of-main.result < c.proc_count-procs.result = omega (arith, main, c.main_of-main.ensures, c.proc_count-procs.ensures) in
    main-first c.args.p.now c.args.blocks.now (first_by c.args.p.now c.args.live.now) c.main_of-main.result c.as_slice.result.now _ _
    c.main_of-main.ensures c.new-into.ensures.items
    (row-read table c.main_of-main.result _ _ (omega (arith, lt, size)) c.index.ensures c.as_slice.ensures.value ∙ c.in_ok-table.ensures.rows c.main_of-main.result lt)
    c.in_ok-push_proc.ensures

pub push_other-requires-clause-spans : goal.push_other-requires-clause-spans
push_other-requires-clause-spans c =
    let table = c.in_ok-table.table.items in
    let size = c.in_ok-table.ensures.size in
    let lt : c.loop-owner.owner < c.proc_count-procs.result = c.loop-owner-test.true in
    row-spans c.args.p.now c.proc_count-procs.result c.args.blocks.now table c.loop-owner.owner c.as_slice-in-loop-owner.result.now (span-is c.args.p.now c.requires.sound c.args.blocks.now c.requires.flow)
    c.in_ok-table.ensures lt (row-read table c.loop-owner.owner _ _ (omega (arith, lt, size)) c.index-in-loop-owner.ensures c.as_slice-in-loop-owner.ensures.value)

pub loop-owner-preserved : goal.loop-owner-preserved
loop-owner-preserved c =
    let table = c.in_ok-table.table.items in
    let size = c.in_ok-table.ensures.size in
    let lt : c.loop-owner.owner < c.proc_count-procs.result = c.loop-owner-test.true in
    others-more c.args.p.now c.args.blocks.now (first_by c.args.p.now c.args.live.now) c.loop-owner.owner
    c.as_slice-in-loop-owner.result.now _ _ (omega (arith, lt, c.proc_count-procs.ensures))
    (row-read table c.loop-owner.owner _ _ (omega (arith, lt, size)) c.index-in-loop-owner.ensures c.as_slice-in-loop-owner.ensures.value
    ∙ c.in_ok-table.ensures.rows c.loop-owner.owner lt)
    c.in_ok-push_other.ensures
    ∙ c.loop-owner.invariant

pub returns : goal.returns
returns c =
    others-none c.args.p.now c.args.blocks.now (first_by c.args.p.now c.args.live.now) c.loop-owner.owner c.loop-owner.into.items _
    (omega (arith, c.loop-owner-test.false, c.proc_count-procs.ensures)) c.loop-owner.invariant
