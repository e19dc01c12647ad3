use Rattle.std.proofs.Common.{◌≡◌, ◌≤◌, ◌∙◌, sym, ap, subst, false, length}
use Rattle.std.specs.Prelude.{nat_lt, nat_le, Ok}
use Rattle.std.proofs.lemmas.Bool.{le-ltb, lt-leb}
use Rattle.tta_tac.specs.Cited.{texts}
use Rattle.tta_tac.specs.Draft.{draft_seen}
use Rattle.tta_tac.proofs.Lines.{take_proc_taken, none_begun}
use Rattle.tta_tac.proofs.Seen.{texts_length}
use Rattle.tta_tac.proofs.draft.Draft.take_proc.Goals as goal

pub returns : goal.returns
returns c =
    let d = draft_seen c.args.self.now in
    let params = texts c.args.params.now in
    let full : nat_le 65536 c.args.self.now.lines ≡ false = lt-leb 65536 c.args.self.now.lines c.if-self-ge-MOST_LINES.false in
    let few = subst (λ n. n ≤ 8) (sym (texts_length c.args.params.now)) c.if-params-gt-MOST_PARAMS.false in
    let many : nat_lt 8 (length params) ≡ false = le-ltb 8 (length params) few in
    let none = none_begun c.args.self.now.begun c.is_some.result c.is_some.ensures c.if-is_some.false in
    let main = sym c.is_main_with_params.ensures ∙ c.if-is_main_with_params.false in
    let twice = sym c.in_ok-is_taken.ensures ∙ c.if-branch.false in
    take_proc_taken d c.args.line c.args.name.now params none main twice full many
    ∙ ap Ok (sym c.in_ok-begin.ensures)

pub begin-requires-clause-few : goal.begin-requires-clause-few
begin-requires-clause-few c = c.if-params-gt-MOST_PARAMS.false
