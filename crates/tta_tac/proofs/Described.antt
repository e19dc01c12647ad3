-- A text is a program exactly where the grammar describes it.
use Rattle.std.proofs.Common.{◌≡◌, ℕ, List, Some, Ok, Err, Result, sym, ◌∙◌, ap, subst, refl}
use Rattle.std.specs.Prelude.{IfOk, codes}
use Rattle.tta_tac.specs.Cited.{lines_of, named_in, Units, Proc, Program, Reaches}
use Rattle.tta_parse.proofs.Steps.{then-ok}
use Rattle.tta_tac.specs.declared.refusal.TacError.{TacError}
use Rattle.tta_tac.specs.Draft.{Draft, nothing}
use Rattle.tta_tac.specs.SecondPass.{link_procs}
use Rattle.tta_tac.specs.Text.{Linked, take_lines, linked_text, with_main, ProgramText}
use Rattle.tta_tac.specs.Grammar.{said_from, draft_said, IsProgramText}
use Rattle.tta_tac.proofs.TextsKept.{text_kept}
use Rattle.tta_tac.proofs.Grammatical.{lines_continue, lines_have_forms, declared}
use Rattle.tta_tac.proofs.Following.{lines_keep_rules}
use Rattle.tta_tac.proofs.Accepting.{rules_follow, lines_are_taken}

module _ (u : Units) where
  -- the grammar describes a text that is a program
  pub program_said : (text : List ℕ) (p : Program) → ProgramText u text p → IsProgramText u (lines_of text) p
  unfolding linked_text
  program_said text p t =
      let read = then-ok (take_lines u 1 nothing (lines_of text)) _ t.linked t.passes in
      let link = then-ok (link_procs read.0 read.0.procs) _ t.linked read.2 in
      let linked : Linked = record { draft = read.0; procs = link.0 } in
      let same : linked ≡ t.linked = cc link.2 in
      let continues = lines_continue u (lines_of text) 1 nothing read.0 read.1 in
      let draft : read.0 ≡ draft_said u (said_from 1 (lines_of text)) = declared u read.0 (said_from 1 (lines_of text)) continues in
      let procs : p.procs ≡ link.0 = t.procs ∙ ap (λ (l : Linked). l.procs) (sym same) in
      let main : named_in read.0.names (codes "main") ≡ Some p.main = ap (λ (l : Linked). named_in l.draft.names (codes "main")) same ∙ t.main in
      record {
        all = lines_have_forms u (lines_of text) 1 nothing read.0 read.1;
        nested = continues.nested;
        rules = lines_keep_rules u (lines_of text) read.0 (text_kept u text read.0 read.1).0 read.1;
        procs = subst (λ (d : Draft). link_procs d d.procs ≡ Ok p.procs) draft (link.1 ∙ ap (λ qs. Ok qs) (sym procs));
        acyclic = subst (λ (qs : List Proc). (k : ℕ) → Reaches (with_main qs 0) k k → ⊥) (sym t.procs) t.acyclic;
        main = subst (λ (d : Draft). named_in d.names (codes "main") ≡ Some p.main) draft main;
        init = t.init ∙ ap (λ (l : Linked). l.draft.init) (sym same) ∙ continues.init;
      }

  -- the same of what was read
  pub read_said : (text : List ℕ) (r : Result Program TacError) → IfOk r (ProgramText u text) → IfOk r (IsProgramText u (lines_of text))
  read_said text (Ok p) t = program_said text p t
  read_said text (Err e) t = tt

  -- a text that the grammar describes is a program
  pub said_program : (text : List ℕ) (p : Program) → IsProgramText u (lines_of text) p → ProgramText u text p
  unfolding linked_text
  said_program text p t =
      let lines = lines_of text in
      let read = lines_are_taken u lines 1 nothing t.all (rules_follow u (said_from 1 lines) t.rules) t.nested in
      let same : read.0 ≡ draft_said u (said_from 1 lines) = declared u read.0 (said_from 1 lines) (lines_continue u lines 1 nothing read.0 read.1) in
      let linked : Linked = record { draft = read.0; procs = p.procs } in
      let link : link_procs read.0 read.0.procs ≡ Ok p.procs = subst (λ (d : Draft). link_procs d d.procs ≡ Ok p.procs) (sym same) t.procs in
      record {
        linked = linked;
        passes = rw (read.1, link) refl;
        procs = refl;
        main = subst (λ (d : Draft). named_in d.names (codes "main") ≡ Some p.main) (sym same) t.main;
        init = t.init ∙ ap (λ (d : Draft). d.init) (sym same);
        acyclic = t.acyclic;
      }
