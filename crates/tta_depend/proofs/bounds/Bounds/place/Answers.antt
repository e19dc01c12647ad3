use Rattle.std.proofs.Common.{◌+◌, sym, ap, subst, ◌∙◌, refl}
use Rattle.std.specs.Prelude.{max}
use Rattle.tta_depend.specs.Stands.{Kept, Stands}
use Rattle.tta_depend.proofs.Spots.{reads_below, writes_below}
use Rattle.tta_depend.proofs.Keeping.{stands_push}
use Rattle.tta_depend.proofs.bounds.Bounds.place.Goals as goal

pub enter_writes-requires-clause-within : goal.enter_writes-requires-clause-within
enter_writes-requires-clause-within c = writes_below c.args.m.now c.args.item.now _ c.as_slice.result.now c.requires.within c.self.invariant.rows.size (c.as_slice.ensures.value ∙ c.writes_by-writes.ensures.items)

pub enter_reads-requires-clause-within : goal.enter_reads-requires-clause-within
enter_reads-requires-clause-within c =
    reads_below c.args.m.now c.args.item.now _ c.as_slice-2.result.now c.requires.within (c.enter_writes.ensures.rows c.self.invariant.rows).size (c.as_slice-2.ensures.value ∙ c.reads_by-reads.ensures.items)

pub returns : goal.returns
returns c = λ placed slot s.
    stands_push c.args.m.now (record { rows = c.self.inside.rows.items; round = c.self.inside.round; end = c.self.inside.end; control = c.self.inside.control; delay = c.self.inside.delay }) _ placed
    (record { item = c.args.item.now; cycle = c.args.cycle; slot = slot }) c.enter_writes.new.rows.items c.as_slice-2.result.now c.as_slice.result.now
    (subst (λ b. Stands b c.args.m.now placed) (sym c.self.view_is) s) c.requires.within c.self.invariant.rows (c.enter_writes.ensures.rows c.self.invariant.rows)
    (c.as_slice-2.ensures.value ∙ c.reads_by-reads.ensures.items) (c.as_slice.ensures.value ∙ c.writes_by-writes.ensures.items)
    c.enter_writes.ensures.value c.enter_reads.ensures.value refl
    (c.max-end.ensures ∙ ap (λ n. max c.self.inside.end (c.args.cycle + n)) c.lasts.ensures.value)
    (ap (λ (b : Kept). b.control) c.self.view_is ∙ c.requires.last)
    c.control_at-control.ensures.value
    refl
