-- A program that a text is stands over the set of units that it is read with.
use Rattle.std.proofs.Common.{◌≡◌, ◌<◌, ℕ, ◌+◌, Bool, true, false, List, [], ◌∷◌, length, Option, Some, None, Ok, Err, refl, sym, ◌∙◌, ap, subst}
use Rattle.std.specs.Prelude.{◌==◌, ◌&&◌, not, is_none, slice_get, IfOk, Result}
use Rattle.std.specs.Option.{option_map_or, IfSome}
use Rattle.std.specs.List.{list_all, AllByRecursion}
use Rattle.std.proofs.lemmas.Bool.{and_from, not-false, eqb-true}
use Rattle.std.proofs.lemmas.Option.{slice_get_within, slice_get-get_or}
use Rattle.std.proofs.lemmas.List.Folds.{list_all-append}
use Rattle.tta_list.proofs.Lists.{all_push}
use Rattle.tta_list.proofs.Tests.{and_map}
use Rattle.tta_tac.specs.Cited.{Line, lines_of, Declared, named_in, or_refuse, refuse_if, at_line, Units, named, Rel, Step, Proc, StandsOver, is_over, has_test, test_name, Program}
use Rattle.tta_parse.proofs.Steps.{then-ok, some-ok, at_line-ok}
use Rattle.tta_ops.proofs.Named.{named_get}
use Rattle.tta_program.specs.declared.step.Step.TheVariants as step
use Rattle.tta_tac.specs.declared.refusal.Refusal.TheVariants.{Syntax, UnknownLabel, Arity}
use Rattle.tta_tac.specs.declared.refusal.TacError.{TacError}
use Rattle.tta_tac.specs.Forms.{Form, ApplyForm, IfForm, WhenForm, CallForm, ReturnForm, form_of}
use Rattle.tta_tac.specs.Draft.{Unlinked, Plain, IfTo, GotoTo, CallTo, ProcDraft, Draft, nothing}
use Rattle.tta_tac.specs.FirstPass.{vars_after, lacks_op, has_wrong_arity, arity_of, step_of, is_end, close_if, with_step, take_line}
use Rattle.tta_tac.specs.SecondPass.{callee_named, params_of, link_step, link_steps, link_procs}
use Rattle.tta_tac.specs.Text.{take_lines, linked_text, ProgramText}
use Rattle.tta_tac.proofs.Taken.{Taken, ProcBegins, DatumIsLaid, LabelIsPut, StepIsMade, form_taken}
use Rattle.tta_tac.proofs.TextsKept.{closed}
use Rattle.tta_tac.proofs.Finished.{procs_cons}
use Rattle.tta_tac.proofs.LinkedSteps.{steps_cons}
use Rattle.tta_tac.proofs.KeptRules.{proc_ok}

module _ (u : Units) where
  -- ---- steps of a draft

  -- whether the operation of a step is there
  abbrev pub step_over : Unlinked → Bool
  step_over (Plain s) = is_over u s
  step_over (IfTo rel a b label) = has_test u rel
  step_over (GotoTo label) = true
  step_over (CallTo d callee args) = true

  -- what the tests of a line have found of the operation that it asks for
  record IsOffered (name : List ℕ) (words : ℕ) : Type 0 where
    pub op : ℕ
    pub named : named u name ≡ Some op
    pub takes : slice_get u.arities op ≡ Some words

  -- an operation that is there takes as many words as it is given
  offered : (name : List ℕ) (words : ℕ) → is_none (named u name) ≡ false
      → option_map_or (λ op. not (arity_of u op == words)) (named u name) false ≡ false → IsOffered name words
  offered name words there fits = by (named u name) refl there fits where
    by : (o : Option ℕ) → named u name ≡ o → is_none o ≡ false → option_map_or (λ op. not (arity_of u op == words)) o false ≡ false
        → IsOffered name words
    by None at there fits = absurd cc
    by (Some op) at there fits =
        let within : op < length u.names = slice_get_within u.names op name (named_get u name op at) in
        let same : arity_of u op ≡ words = eqb-true (arity_of u op) words (not-false (arity_of u op == words) fits) in
        record { op = op; named = at; takes = slice_get-get_or u.arities op 0 (rw u.paired within) ∙ ap (λ n. Some n) same }

  -- so a condition that it decides can be tested
  tested : (rel : Rel) → IsOffered (test_name rel) 2 → has_test u rel ≡ true
  tested rel h = rw (h.named, h.takes) refl

  -- the step of a line that was taken
  pub made_over : (vars : Declared ℕ) (f : Form) → lacks_op u f ≡ false → has_wrong_arity u f ≡ false
      → option_map_or step_over (step_of u vars f) true ≡ true
  made_over vars (ApplyForm d op []) there fits = refl
  made_over vars (ApplyForm d op (only ∷ [])) there fits = let h = offered op 1 there fits in rw (h.named, h.takes) refl
  made_over vars (ApplyForm d op (a ∷ b ∷ [])) there fits = let h = offered op 2 there fits in rw (h.named, h.takes) refl
  made_over vars (ApplyForm d op (a ∷ b ∷ c ∷ more)) there fits = refl
  made_over vars (IfForm rel a b label) there fits = tested rel (offered (test_name rel) 2 there fits)
  made_over vars (WhenForm rel a b d s) there fits = tested rel (offered (test_name rel) 2 there fits)
  made_over vars (CallForm (Some d) callee args) there fits = refl
  made_over vars (CallForm None callee args) there fits = refl
  made_over vars (ReturnForm (Some s)) there fits = refl
  made_over vars (ReturnForm None) there fits = refl
  made_over vars f there fits = refl

  -- ---- drafts

  -- the operations of a procedure's steps are there
  abbrev pub ProcOver : ProcDraft → Type 0
  ProcOver q = list_all step_over q.steps ≡ true

  -- so are those of all procedures of a draft
  pub record DraftOver (d : Draft) : Type 0 where
    pub ended : AllByRecursion ProcOver d.procs
    pub begun : IfSome d.begun ProcOver

  -- a step of a line more
  one_more : (q : ProcDraft) (vars : Declared ℕ) (s : Unlinked) (line : ℕ) → ProcOver q → step_over s ≡ true → ProcOver (with_step q vars s line)
  one_more q vars s line h is =
      list_all-append step_over q.steps (s ∷ []) ∙ and_from (list_all step_over q.steps) (step_over s && true) h (and_from (step_over s) true is refl)

  -- which may end its procedure
  stepped_over : (ends : Bool) (d : Draft) (q : ProcDraft) → DraftOver d → ProcOver q → DraftOver (close_if ends d q)
  stepped_over true d q h is = record { ended = all_push ProcOver d.procs q h.ended is; begun = tt }
  stepped_over false d q h is = record { ended = h.ended; begun = is }

  -- a line that was taken
  taken_over : (d e : Draft) (line : ℕ) (f : Form) → DraftOver d → Taken u d e line f → DraftOver e
  taken_over d e line f h (ProcBegins name params is t) = subst DraftOver t.made (record { ended = h.ended; begun = refl })
  taken_over d e line f h (DatumIsLaid address value is t) = subst DraftOver t.made (record { ended = h.ended; begun = h.begun })
  taken_over d e line f h (LabelIsPut q name begun says t) =
      let before : ProcOver q = subst (λ o. IfSome o ProcOver) begun h.begun in
      subst DraftOver t.made (record { ended = h.ended; begun = before })
  taken_over d e line f h (StepIsMade q begun t) =
      let before : ProcOver q = subst (λ o. IfSome o ProcOver) begun h.begun in
      let vars = vars_after q.vars f in
      let is : step_over t.step ≡ true = subst (λ o. option_map_or step_over o true ≡ true) t.is (made_over vars f t.offered t.fits) in
      let next : DraftOver (record d { lines = d.lines + 1 }) = record { ended = h.ended; begun = h.begun } in
      subst DraftOver t.made (stepped_over (is_end f) (record d { lines = d.lines + 1 }) (with_step q vars t.step line) next (one_more q vars t.step line before is))

  -- a line, blank or not
  line_over : (line : ℕ) (d e : Draft) (words : Line) → DraftOver d → take_line u line d words ≡ Ok e → DraftOver e
  unfolding take_line
  line_over line d e [] h taken = let same : d ≡ e = cc in subst DraftOver same h
  line_over line d e (key ∷ words) h taken =
      let f = some-ok Syntax (form_of key words) _ e taken in
      taken_over d e line f.0 h (form_taken u d e line f.0 f.2)

  -- all lines
  lines_over : (lines : List Line) (line : ℕ) (d e : Draft) → DraftOver d → take_lines u line d lines ≡ Ok e → DraftOver e
  lines_over [] line d e h taken = subst DraftOver (closed u line d.names d.procs d.begun d.init d.lines e taken).0 h
  lines_over (words ∷ lines) line d e h taken =
      let c = then-ok (at_line line (take_line u line d words)) _ e taken in
      lines_over lines (line + 1) c.0 e (line_over line d c.0 words h (at_line-ok line (take_line u line d words) c.0 c.1)) c.2

  -- ---- the second pass

  module _ (d : Draft) where
    -- a step with its label or callee as a number
    linked_step : (labels : Declared ℕ) (s : Unlinked) (x : Step) → step_over s ≡ true → link_step d labels s ≡ Ok x → is_over u x ≡ true
    linked_step labels (Plain s) x h e = let same : s ≡ x = cc in subst (λ y. is_over u y ≡ true) same h
    linked_step labels (IfTo rel a b label) x h e =
        let to = then-ok (or_refuse UnknownLabel (named_in labels label)) _ x e in
        let same : step.If rel a b to.0 ≡ x = cc to.2 in subst (λ y. is_over u y ≡ true) same h
    linked_step labels (GotoTo label) x h e =
        let to = then-ok (or_refuse UnknownLabel (named_in labels label)) _ x e in
        let same : step.Goto to.0 ≡ x = cc to.2 in subst (λ y. is_over u y ≡ true) same refl
    linked_step labels (CallTo dst name args) x h e =
        let found = then-ok (callee_named d.names name) _ x e in
        by found.0 (not (params_of d.procs found.0 == length args)) found.2
      where
        by : (k : ℕ) (t : Bool) → refuse_if t Arity (Ok (step.Invoke dst k args)) ≡ Ok x → is_over u x ≡ true
        by k false e = let same : step.Invoke dst k args ≡ x = cc in subst (λ y. is_over u y ≡ true) same refl
        by k true e = absurd cc

    -- the steps of a procedure
    linked_steps : (labels : Declared ℕ) (ss : List Unlinked) (lines : List ℕ) (steps : List Step) → list_all step_over ss ≡ true
        → link_steps d labels ss lines ≡ Ok steps → list_all (is_over u) steps ≡ true
    linked_steps labels [] lines steps h e = let none : [] ≡ steps = cc in ap (list_all (is_over u)) (sym none)
    linked_steps labels (s ∷ ss) [] steps h e = let none : [] ≡ steps = cc in ap (list_all (is_over u)) (sym none)
    linked_steps labels (s ∷ ss) (line ∷ lines) steps h e =
        let c = steps_cons d labels s ss line lines steps e in
        ap (list_all (is_over u)) (sym c.4)
        ∙ and_map (λ t. linked_step labels s c.0 t c.2) (λ t. linked_steps labels ss lines c.1 t c.3) h

    -- all procedures
    linked_procs : (qs : List ProcDraft) (procs : List Proc) → AllByRecursion ProcOver qs → link_procs d qs ≡ Ok procs
        → list_all (λ q. list_all (is_over u) q.steps) procs ≡ true
    linked_procs [] procs h e = let none : [] ≡ procs = cc in ap (list_all (λ q. list_all (is_over u) q.steps)) (sym none)
    linked_procs (q ∷ qs) procs h e =
        let c = procs_cons d q qs procs e in
        let made = proc_ok d q c.0 c.2 in
        let first : list_all (is_over u) c.0.steps ≡ true =
        ap (λ r. list_all (is_over u) r.steps) made.2 ∙ linked_steps q.labels q.steps q.lines made.0 h.0 made.1 in
        ap (list_all (λ q. list_all (is_over u) q.steps)) (sym c.4)
        ∙ and_from (list_all (is_over u) c.0.steps) _ first (linked_procs qs c.1 h.1 c.3)

  -- ---- texts

  -- a program that a text is stands over the set
  pub program_over : (text : List ℕ) (p : Program) → ProgramText u text p → StandsOver u p
  unfolding linked_text
  program_over text p t =
      let read = then-ok (take_lines u 1 nothing (lines_of text)) _ t.linked t.passes in
      let link = then-ok (link_procs read.0 read.0.procs) _ t.linked read.2 in
      let over : DraftOver read.0 = lines_over (lines_of text) 1 nothing read.0 (record { ended = tt; begun = tt }) read.1 in
      let all : list_all (λ q. list_all (is_over u) q.steps) link.0 ≡ true = linked_procs read.0 read.0.procs link.0 over.ended link.1 in
      let same : link.0 ≡ t.linked.procs = cc link.2 in
      record { steps = ap (list_all (λ q. list_all (is_over u) q.steps)) (t.procs ∙ sym same) ∙ all }

  -- the same of what was read
  pub read_over : (text : List ℕ) (r : Result Program TacError) → IfOk r (ProgramText u text) → IfOk r (StandsOver u)
  read_over text (Ok p) t = program_over text p t
  read_over text (Err e) t = tt
