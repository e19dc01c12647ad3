use Rattle.std.proofs.Common.{sym, ap, ◌∙◌}
use Rattle.std.specs.Prelude.{◌&&◌, is_some}
use Rattle.std.specs.List.{filter_map, list_any}
use Rattle.tta_sim.specs.Results.{shown_by}
use Rattle.tta_sim.specs.Starts.{clashes_with}
use Rattle.tta_sim.specs.Lines.{write_brought, operand_in, controls_well}
use Rattle.tta_sim.specs.Ready.{starts_in}
use Rattle.tta_sim.proofs.Noting.{are_noted, noted_are, ready_with, none_stopped}
use Rattle.tta_sim.proofs.ready.is_ready.Goals as goal

pub returns-then-not-note_starts-clause-ready : goal.returns-then-not-note_starts-clause-ready
returns-then-not-note_starts-clause-ready c =
    let places = c.args.store.now.places in
    let results = c.args.results.now in
    let p = is_some c.args.control.now.pending in
    let line = c.args.line.now in
    sym (ready_with places results p line _ _ _ c.as_slice.ensures c.as_slice-writes.ensures _ c.note_writes.ensures.read c.if-not-note_writes.false c.note_writes.ensures.writes
    _ c.as_slice-moves.ensures _ c.note_starts.ensures.can ∙ ap (λ b. b && controls_well places (shown_by results) p line.controls) c.if-not-note_starts.true)

pub returns-clause-ready : goal.returns-clause-ready
returns-clause-ready c =
    let places = c.args.store.now.places in
    let results = c.args.results.now in
    let p = is_some c.args.control.now.pending in
    let line = c.args.line.now in
    c.controls_well.ensures ∙ ap (λ b. controls_well places (shown_by results) b line.controls) c.is_some.ensures
    ∙ sym (ready_with places results p line _ _ _ c.as_slice.ensures c.as_slice-writes.ensures _ c.note_writes.ensures.read c.if-not-note_writes.false c.note_writes.ensures.writes
    _ c.as_slice-moves.ensures _ c.note_starts.ensures.can ∙ ap (λ b. b && controls_well places (shown_by results) p line.controls) c.if-not-note_starts.false)

pub returns-clause-left : goal.returns-clause-left
returns-clause-left c = λ ready.
    let store = c.args.store.now in
    let results = c.args.results.now in
    let line = c.args.line.now in
    let noted = noted_are store.places results (is_some c.args.control.now.pending) line _ _ _ c.as_slice.ensures
    c.as_slice-writes.ensures _ c.note_writes.ensures.read c.if-not-note_writes.false c.note_writes.ensures.writes in
    record {
      writes = c.note_writes.ensures.writes c.if-not-note_writes.false ∙ ap (filter_map (write_brought store.places (shown_by results))) c.as_slice.ensures;
      starts = c.note_starts.ensures.starts ∙ ap (starts_in store results c.as_slice-writes.result.now) c.as_slice-moves.ensures ∙ ap (λ xs. starts_in store results xs line.starts) noted;
      free =
          ap (list_any (clashes_with results)) c.note_starts.ensures.starts
          ∙ none_stopped store.places results (operand_in store.places c.as_slice-writes.result.now) c.as_slice-moves.result.now _ c.note_starts.ensures.can c.if-not-note_starts.false;
    }

pub returns-then-not-note_writes-clause-noted : goal.returns-then-not-note_writes-clause-noted
returns-then-not-note_writes-clause-noted c = are_noted c.args.store.now.places c.args.results.now c.args.line.now _ _ _ c.as_slice.ensures c.note_writes.ensures.read c.note_writes.ensures.writes

pub returns-then-not-note_starts-clause-noted : goal.returns-then-not-note_starts-clause-noted
returns-then-not-note_starts-clause-noted c = are_noted c.args.store.now.places c.args.results.now c.args.line.now _ _ _ c.as_slice.ensures c.note_writes.ensures.read c.note_writes.ensures.writes

pub returns-clause-noted : goal.returns-clause-noted
returns-clause-noted c = are_noted c.args.store.now.places c.args.results.now c.args.line.now _ _ _ c.as_slice.ensures c.note_writes.ensures.read c.note_writes.ensures.writes
