use Rattle.std.proofs.Common.{◌≡◌, Bool, true, false, refl, sym, ap, ◌∙◌}
use Rattle.std.specs.Prelude.{◌&&◌}
use Rattle.std.specs.List.{filter_map, list_any}
use Rattle.tta_sim.specs.Cited.{stated}
use Rattle.tta_sim.specs.Results.{shown_by}
use Rattle.tta_sim.specs.Starts.{clashes_with}
use Rattle.tta_sim.specs.Lines.{write_brought, operand_in}
use Rattle.tta_sim.specs.Dues.{shown_from}
use Rattle.tta_sim.specs.Ready.{starts_in}
use Rattle.tta_sim.proofs.Noting.{are_noted, noted_are, ready_with, none_stopped}
use Rattle.tta_sim.proofs.Pure.{pure_acting}
use Rattle.tta_sim.proofs.ready.is_pure_ready.Goals as goal

pub returns-clause-ready : goal.returns-clause-ready
returns-clause-ready g c = λ p.
    let places = c.args.store.now.places in
    let results = c.args.results.now in
    let line = c.args.line.now in
    sym (ready_with places results p line _ _ _ c.as_slice.ensures c.as_slice-writes.ensures _ c.note_writes.ensures.read c.if-not-note_writes.false c.note_writes.ensures.writes
    _ c.as_slice-moves.ensures _ c.note_dues.ensures.can ∙ ap (λ b. c.note_dues.result && b) (pure_acting _ line places (shown_by results) p c.requires.there c.requires.pure)
    ∙ and_true c.note_dues.result)
  where
    and_true : (b : Bool) → (b && true) ≡ b
    and_true true = refl
    and_true false = refl

pub returns-clause-left : goal.returns-clause-left
returns-clause-left g c = λ ready.
    let U = stated (λ v. (goal.OpUnit-dyn g v).unit_meaning v.1) c.args.units.now in
    let store = c.args.store.now in
    let results = c.args.results.now in
    let line = c.args.line.now in
    let words = c.as_slice-writes.result.now in
    let noted = noted_are store.places results false line _ _ _ c.as_slice.ensures
    c.as_slice-writes.ensures _ c.note_writes.ensures.read c.if-not-note_writes.false c.note_writes.ensures.writes in
    let starts_are = ap (starts_in store results words) c.as_slice-moves.ensures ∙ ap (λ ws. starts_in store results ws line.starts) noted in
    record {
      writes = c.note_writes.ensures.writes c.if-not-note_writes.false ∙ ap (filter_map (write_brought store.places (shown_by results))) c.as_slice.ensures;
      dues = c.note_dues.ensures.dues ready ∙ ap (filter_map (shown_from U 0 store)) starts_are;
      free =
          ap (list_any (clashes_with results)) (sym starts_are)
          ∙ none_stopped store.places results (operand_in store.places words) c.as_slice-moves.result.now _ c.note_dues.ensures.can ready;
    }

pub returns-then-not-note_writes-clause-noted : goal.returns-then-not-note_writes-clause-noted
returns-then-not-note_writes-clause-noted g c =
    are_noted c.args.store.now.places c.args.results.now c.args.line.now _ _ _ c.as_slice.ensures c.note_writes.ensures.read c.note_writes.ensures.writes
