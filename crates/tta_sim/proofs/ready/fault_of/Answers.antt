use Rattle.std.proofs.Common.{sym, ◌∙◌}
use Rattle.tta_sim.proofs.Facing.{place_fault, port_fault, writes_could, start_fault, control_fault}
use Rattle.tta_sim.proofs.ready.fault_of.Goals as goal

pub returns-then-reads_unset : goal.returns-then-reads_unset
returns-then-reads_unset c = λ p not_ready m back i decoded size.
    place_fault m decoded.rules i decoded.legal back c.args.line.now decoded.line c.args.store.now.places c.args.results p not_ready
    (sym (c.reads_unset.ensures m back i decoded) ∙ c.if-reads_unset.true)

pub returns-then-reads_unset-2 : goal.returns-then-reads_unset-2
returns-then-reads_unset-2 c = λ p not_ready m back i decoded size.
    port_fault m decoded.rules i decoded.legal back c.args.line.now decoded.line c.args.store.now.places c.args.results p not_ready
    (sym (c.reads_unset.ensures m back i decoded) ∙ c.if-reads_unset.false) (sym (c.reads_unset-2.ensures m back i decoded) ∙ c.if-reads_unset-2.true)

pub returns-then-not-note_starts : goal.returns-then-not-note_starts
returns-then-not-note_starts c = λ p not_ready m back i decoded size.
    let places = c.args.store.now.places in
    let results = c.args.results in
    let line = c.args.line.now in
    let no_place = sym (c.reads_unset.ensures m back i decoded) ∙ c.if-reads_unset.false in
    let no_port = sym (c.reads_unset-2.ensures m back i decoded) ∙ c.if-reads_unset-2.false in
    let noted = c.as_slice-writes.ensures
    ∙ c.requires.noted (writes_could m decoded.rules i decoded.legal back line decoded.line places results p not_ready no_place no_port) in
    start_fault m decoded.rules i decoded.legal back line decoded.line places results p not_ready no_place no_port _ noted _ c.as_slice.ensures
    _ c.note_starts.ensures.can c.if-not-note_starts.true _ (c.as_slice-then-not-note_starts.ensures ∙ c.note_starts.ensures.starts) _ c.fault_of.ensures

pub returns : goal.returns
returns c = λ p not_ready m back i decoded size.
    let places = c.args.store.now.places in
    let results = c.args.results in
    let line = c.args.line.now in
    let no_place = sym (c.reads_unset.ensures m back i decoded) ∙ c.if-reads_unset.false in
    let no_port = sym (c.reads_unset-2.ensures m back i decoded) ∙ c.if-reads_unset-2.false in
    let noted = c.as_slice-writes.ensures
    ∙ c.requires.noted (writes_could m decoded.rules i decoded.legal back line decoded.line places results p not_ready no_place no_port) in
    control_fault m decoded.rules i decoded.legal back line decoded.line places results p not_ready no_place no_port _ noted _ c.as_slice.ensures
    _ c.note_starts.ensures.can c.if-not-note_starts.false
