use Rattle.std.proofs.Common.{ap, ◌∙◌, length}
use Rattle.std.specs.Prelude.{max}
use Rattle.tta_depend.specs.Rows.{against}
use Rattle.tta_depend.specs.Stands.{Kept}
use Rattle.tta_depend.proofs.Spots.{reads_below, writes_below}
use Rattle.tta_depend.proofs.Keeping.{least_kept}
use Rattle.tta_depend.proofs.bounds.Bounds.least.Goals as goal

pub against_shown-read-requires : goal.against_shown-read-requires
against_shown-read-requires c =
    reads_below c.args.m.now c.args.item.now _ c.as_slice-2.result.now c.requires (ap length c.as_slice.ensures.value ∙ c.self.invariant.rows.size) (c.as_slice-2.ensures.value ∙ c.reads_by-reads.ensures.items)

pub against_free-written-requires : goal.against_free-written-requires
against_free-written-requires c =
    writes_below c.args.m.now c.args.item.now _ c.as_slice-4.result.now c.requires (ap length c.as_slice-3.ensures.value ∙ c.self.invariant.rows.size) (c.as_slice-4.ensures.value ∙ c.writes_by-writes.ensures.items)

pub returns : goal.returns
returns c = λ placed s.
    c.max-2.ensures ∙ ap (λ n. max n c.over_end-over.result) c.max.ensures
    ∙ least_kept c.args.m.now c.args.self.now c.args.item.now placed c.as_slice-2.result.now c.as_slice-4.result.now c.against_shown-read.result c.against_free-written.result c.over_end-over.result s c.requires
    (c.as_slice-2.ensures.value ∙ c.reads_by-reads.ensures.items) (c.as_slice-4.ensures.value ∙ c.writes_by-writes.ensures.items)
    (c.against_shown-read.ensures ∙ ap (λ (b : Kept). against (λ r. r.shown) b.round c.as_slice.result.now c.as_slice-2.result.now) c.self.view_is
    ∙ ap (λ l. against (λ r. r.shown) c.args.self.now.round l c.as_slice-2.result.now) (c.as_slice.ensures.value ∙ ap (λ (b : Kept). b.rows) c.self.view_is))
    (c.against_free-written.ensures ∙ ap (λ (b : Kept). against (λ r. r.free) b.round c.as_slice-3.result.now c.as_slice-4.result.now) c.self.view_is
    ∙ ap (λ l. against (λ r. r.free) c.args.self.now.round l c.as_slice-4.result.now) (c.as_slice-3.ensures.value ∙ ap (λ (b : Kept). b.rows) c.self.view_is))
    c.over_end-over.ensures
