-- A program that a text is keeps the rules of programs.
use Rattle.std.proofs.Common.{◌≡◌, ℕ, List, Some, sym, ◌∙◌, ap, subst}
use Rattle.std.specs.Prelude.{codes}
use Rattle.tta_tac.specs.Cited.{lines_of, named_in, Units, Program, IsProgram}
use Rattle.tta_parse.proofs.Steps.{then-ok}
use Rattle.tta_tac.specs.Draft.{nothing}
use Rattle.tta_tac.specs.SecondPass.{link_procs}
use Rattle.tta_tac.specs.Text.{Linked, take_lines, linked_text, ProgramText}
use Rattle.tta_tac.specs.Cycles.{IsAcyclic}
use Rattle.tta_tac.proofs.KeptRules.{keeps_rules}
use Rattle.tta_tac.proofs.TextsKept.{text_kept}

pub program_rules : (u : Units) (text : List ℕ) (p : Program) → ProgramText u text p → IsProgram p
unfolding linked_text
program_rules u text p t =
    let read = then-ok (take_lines u 1 nothing (lines_of text)) _ t.linked t.passes in
    let link = then-ok (link_procs read.0 read.0.procs) _ t.linked read.2 in
    let linked : Linked = record { draft = read.0; procs = link.0 } in
    let same : linked ≡ t.linked = cc link.2 in
    let kept = text_kept u text read.0 read.1 in
    let procs : p.procs ≡ link.0 = t.procs ∙ ap (λ (l : Linked). l.procs) (sym same) in
    let init : p.init ≡ read.0.init = t.init ∙ ap (λ (l : Linked). l.draft.init) (sym same) in
    let main : named_in read.0.names (codes "main") ≡ Some p.main = ap (λ (l : Linked). named_in l.draft.names (codes "main")) same ∙ t.main in
    let acyclic : IsAcyclic link.0 = subst IsAcyclic (ap (λ (l : Linked). l.procs) (sym same)) t.acyclic in
    subst (λ qs. IsProgram (record { procs = qs; main = p.main; init = p.init })) (sym procs)
    (subst (λ data_lines. IsProgram (record { procs = link.0; main = p.main; init = data_lines })) (sym init)
    (keeps_rules read.0 link.0 p.main kept.0 kept.1 link.1 main acyclic))
