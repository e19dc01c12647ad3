-- The draft that lines make one after another is what all of them declare.
use Rattle.std.proofs.Common.{◌≡◌, ℕ, ◌+◌, Bool, true, false, List, [], ◌∷◌, ◌++◌, length, map, Option, Some, None, Ok, refl, sym, ◌∙◌, ap, subst, arith, append-nil, append_assoc, length-append}
use Rattle.std.specs.Prelude.{is_some, option_to_list}
use Rattle.std.specs.List.{list_all}
use Rattle.std.proofs.lemmas.Bool.{and_from}
use Rattle.tta_list.proofs.Tests.{none_from_is_some}
use Rattle.tta_tac.specs.Cited.{Line, Declared, at_line, Units, DataLine}
use Rattle.tta_parse.proofs.Steps.{then-ok, some-ok, at_line-ok}
use Rattle.tta_tac.specs.declared.refusal.Refusal.TheVariants.{Syntax}
use Rattle.tta_tac.specs.Forms.{Form, ProcForm, DataForm, LabelForm, form_of}
use Rattle.tta_tac.specs.Draft.{Unlinked, ProcDraft, Draft, nothing}
use Rattle.tta_tac.specs.FirstPass.{vars_after, step_of, is_end, close_if, with_step, numbered, with_fresh, with_datum, take_line}
use Rattle.tta_tac.specs.Text.{take_lines}
use Rattle.tta_tac.specs.Grammar.{Said, said_from, is_line, proc_in, datum_in, label_in, are_nested, Block, up_to_end, blocks, data_said, vars_said, labels_said, steps_said, step_lines, proc_said, draft_said}
use Rattle.tta_tac.proofs.Taken.{with_label, Taken, ProcBegins, DatumIsLaid, LabelIsPut, StepIsMade, form_taken}
use Rattle.tta_tac.proofs.TextsKept.{closed}

module _ (u : Units) where
  -- ---- a procedure that has begun

  -- a procedure with the lines after those that were read
  abbrev pub with_lines : ProcDraft → List Said → ProcDraft
  with_lines q xs = record q {
    vars = vars_said q.vars xs;
    labels = q.labels ++ labels_said (length q.steps) xs;
    steps = q.steps ++ steps_said u q.vars xs;
    lines = q.lines ++ step_lines xs;
  }

  -- procedures with the same parts are one
  same_parts : (q : ProcDraft) (vars labels labels' : Declared ℕ) (steps steps' : List Unlinked) (lines lines' : List ℕ)
      → labels ≡ labels' → steps ≡ steps' → lines ≡ lines'
      → record q { vars = vars; labels = labels; steps = steps; lines = lines } ≡ record q { vars = vars; labels = labels'; steps = steps'; lines = lines' }
  same_parts q vars labels labels' steps steps' lines lines' e f g = rw (e, f, g) refl

  -- no line more
  no_lines : (q : ProcDraft) → with_lines q [] ≡ q
  no_lines q = same_parts q q.vars (q.labels ++ []) q.labels (q.steps ++ []) q.steps (q.lines ++ []) q.lines (append-nil q.labels) (append-nil q.steps) (append-nil q.lines)

  -- a label, and then other lines
  label_line : (q : ProcDraft) (line : ℕ) (name : List ℕ) (xs : List Said) → with_lines (with_label q name) xs ≡ with_lines q ((line, LabelForm name) ∷ xs)
  label_line q line name xs =
      same_parts q (vars_said q.vars xs) ((q.labels ++ (name, length q.steps) ∷ []) ++ labels_said (length q.steps) xs)
      (q.labels ++ (name, length q.steps) ∷ labels_said (length q.steps) xs) (q.steps ++ steps_said u q.vars xs) (q.steps ++ steps_said u q.vars xs)
      (q.lines ++ step_lines xs) (q.lines ++ step_lines xs)
      (append_assoc q.labels ((name, length q.steps) ∷ []) (labels_said (length q.steps) xs)) refl refl

  -- what a step is not
  pub record IsStep (f : Form) : Type 0 where
    pub proc : proc_in f ≡ None
    pub datum : (line : ℕ) → datum_in line f ≡ None
    pub label : label_in f ≡ None

  -- a line of which a step was made is one
  pub is_step : (vars : Declared ℕ) (f : Form) (s : Unlinked) → step_of u vars f ≡ Some s → IsStep f
  is_step vars (ProcForm name params) s e = cc
  is_step vars (DataForm address value) s e = cc
  is_step vars (LabelForm name) s e = cc
  is_step vars f s e = record { proc = refl; datum = λ line. refl; label = refl }

  -- a step, and then other lines
  step_line : (q : ProcDraft) (line : ℕ) (f : Form) (s : Unlinked) (xs : List Said) → step_of u (vars_after q.vars f) f ≡ Some s
      → with_lines (with_step q (vars_after q.vars f) s line) xs ≡ with_lines q ((line, f) ∷ xs)
  step_line q line f s xs is =
      let kind = is_step (vars_after q.vars f) f s is in
      let size : length (q.steps ++ s ∷ []) ≡ length q.steps + 1 = length-append q.steps (s ∷ []) in
      rw (is, kind.label, size)
      (same_parts q (vars_said (vars_after q.vars f) xs) (q.labels ++ labels_said (length q.steps + 1) xs) (q.labels ++ labels_said (length q.steps + 1) xs)
      ((q.steps ++ s ∷ []) ++ steps_said u (vars_after q.vars f) xs) (q.steps ++ s ∷ steps_said u (vars_after q.vars f) xs)
      ((q.lines ++ line ∷ []) ++ step_lines xs) (q.lines ++ line ∷ step_lines xs)
      refl (append_assoc q.steps (s ∷ []) (steps_said u (vars_after q.vars f) xs)) (append_assoc q.lines (line ∷ []) (step_lines xs)))

  -- ---- drafts

  -- the procedure that has begun, with its lines up to its end
  abbrev pub ended : Option ProcDraft → List Said → List ProcDraft
  ended None xs = []
  ended (Some q) xs = with_lines q (up_to_end xs) ∷ []

  -- what the names of a draft are after such lines
  abbrev pub names_after : Draft → List Said → Declared ℕ
  names_after d xs = d.names ++ numbered (length d.procs + length (option_to_list d.begun)) (map (λ b. b.name) (blocks xs))

  -- and what its procedures are
  abbrev pub procs_after : Draft → List Said → List ProcDraft
  procs_after d xs = d.procs ++ (ended d.begun xs ++ map (proc_said u) (blocks xs))

  -- a draft after lines that are well nested has all that they declare
  pub record Continues (d e : Draft) (xs : List Said) : Type 0 where
    pub names : e.names ≡ names_after d xs
    pub procs : e.procs ≡ procs_after d xs
    pub begun : e.begun ≡ None
    pub init : e.init ≡ d.init ++ data_said xs
    pub lines : e.lines ≡ d.lines + length xs
    pub nested : are_nested (is_some d.begun) xs ≡ true

  -- where no line is left
  none_left : (d : Draft) → d.begun ≡ None → Continues d d []
  none_left d none =
      record {
        names = sym (append-nil d.names);
        procs = rw none (sym (append-nil d.procs));
        begun = none;
        init = sym (append-nil d.init);
        lines = omega arith;
        nested = rw none refl;
      }

  -- a procedure begins
  proc_continues : (d e : Draft) (line : ℕ) (name : List ℕ) (params : List (List ℕ)) (rest : List Said) → d.begun ≡ None
      → Continues (with_fresh d line name params) e rest → Continues d e ((line, ProcForm name params) ∷ rest)
  proc_continues d e line name params rest none k =
      let place : length d.procs + length (option_to_list d.begun) ≡ length d.procs = rw none (omega arith) in
      let names = map (λ (b : Block). b.name) (blocks rest) in
      record {
        names = rw place (k.names ∙ append_assoc d.names ((name, length d.procs) ∷ []) (numbered (length d.procs + 1) names));
        procs = rw none k.procs;
        begun = k.begun;
        init = k.init;
        lines = omega (arith, k.lines);
        nested = rw none k.nested;
      }

  -- a word of data
  datum_continues : (d e : Draft) (line address value : ℕ) (rest : List Said) → d.begun ≡ None
      → Continues (with_datum d (record { address = address; value = value; line = line })) e rest
      → Continues d e ((line, DataForm address value) ∷ rest)
  datum_continues d e line address value rest none k =
      let datum : DataLine = record { address = address; value = value; line = line } in
      record {
        names = k.names;
        procs = rw none (rw none at k.procs);
        begun = k.begun;
        init = k.init ∙ append_assoc d.init (datum ∷ []) (data_said rest);
        lines = omega (arith, k.lines);
        nested = rw none (rw none at k.nested);
      }

  -- a label
  label_continues : (d e : Draft) (q : ProcDraft) (line : ℕ) (name : List ℕ) (rest : List Said) → d.begun ≡ Some q
      → Continues (record d { begun = Some (with_label q name); lines = d.lines + 1 }) e rest
      → Continues d e ((line, LabelForm name) ∷ rest)
  label_continues d e q line name rest begun k = record {
    names = rw begun k.names;
    procs = rw begun (k.procs ∙ ap (λ p. d.procs ++ (p ∷ map (proc_said u) (blocks rest))) (label_line q line name (up_to_end rest)));
    begun = k.begun;
    init = k.init;
    lines = omega (arith, k.lines);
    nested = rw begun k.nested;
  }

  -- a step
  step_continues : (d e : Draft) (q : ProcDraft) (line : ℕ) (f : Form) (s : Unlinked) (rest : List Said) → d.begun ≡ Some q
      → step_of u (vars_after q.vars f) f ≡ Some s
      → Continues (close_if (is_end f) (record d { lines = d.lines + 1 }) (with_step q (vars_after q.vars f) s line)) e rest
      → Continues d e ((line, f) ∷ rest)
  step_continues d e q line f s rest begun is k = by (is_end f) refl k where
    kind : IsStep f
    kind = is_step (vars_after q.vars f) f s is

    next : ProcDraft
    next = with_step q (vars_after q.vars f) s line

    names : List (List ℕ)
    names = map (λ (b : Block). b.name) (blocks rest)

    by : (ends : Bool) → is_end f ≡ ends
        → Continues (close_if ends (record d { lines = d.lines + 1 }) (with_step q (vars_after q.vars f) s line)) e rest
        → Continues d e ((line, f) ∷ rest)
    by true at k =
        let size : length (d.procs ++ with_step q (vars_after q.vars f) s line ∷ []) ≡ length d.procs + 1 = length-append d.procs (next ∷ []) in
        let place : length (d.procs ++ with_step q (vars_after q.vars f) s line ∷ []) + 0 ≡ length d.procs + 1 = omega (arith, size) in
        let whole : with_step q (vars_after q.vars f) s line ≡ with_lines q ((line, f) ∷ []) = sym (no_lines next) ∙ step_line q line f s [] is in
        record {
          names = rw (begun, kind.proc) (k.names ∙ ap (λ n. d.names ++ numbered n names) place);
          procs = rw (begun, kind.proc, at) (k.procs ∙ append_assoc d.procs (next ∷ []) (map (proc_said u) (blocks rest))
              ∙ ap (λ p. d.procs ++ (p ∷ map (proc_said u) (blocks rest))) whole);
          begun = k.begun;
          init = rw (kind.datum line) k.init;
          lines = omega (arith, k.lines);
          nested = rw (begun, kind.proc, kind.datum line, at) k.nested;
        }
    by false at k = record {
      names = rw (begun, kind.proc) k.names;
      procs = rw (begun, kind.proc, at) (k.procs
          ∙ ap (λ p. d.procs ++ (p ∷ map (proc_said u) (blocks rest))) (step_line q line f s (up_to_end rest) is));
      begun = k.begun;
      init = rw (kind.datum line) k.init;
      lines = omega (arith, k.lines);
      nested = rw (begun, kind.proc, kind.datum line, at) k.nested;
    }

  -- any line that is not blank
  taken_continues : (d next e : Draft) (line : ℕ) (f : Form) (rest : List Said) → Taken u d next line f → Continues next e rest
      → Continues d e ((line, f) ∷ rest)
  taken_continues d next e line f rest (ProcBegins name params is t) k =
      subst (λ g. Continues d e ((line, g) ∷ rest)) (sym is)
      (proc_continues d e line name params rest (none_from_is_some d.begun t.closed) (subst (λ x. Continues x e rest) (sym t.made) k))
  taken_continues d next e line f rest (DatumIsLaid address value is t) k =
      subst (λ g. Continues d e ((line, g) ∷ rest)) (sym is)
      (datum_continues d e line address value rest (none_from_is_some d.begun t.closed) (subst (λ x. Continues x e rest) (sym t.made) k))
  taken_continues d next e line f rest (LabelIsPut q name begun is t) k =
      subst (λ g. Continues d e ((line, g) ∷ rest)) (sym is)
      (label_continues d e q line name rest begun (subst (λ x. Continues x e rest) (sym t.made) k))
  taken_continues d next e line f rest (StepIsMade q begun t) k =
      step_continues d e q line f t.step rest begun t.is (subst (λ x. Continues x e rest) (sym t.made) k)

  -- ---- texts

  -- all lines
  pub lines_continue : (lines : List Line) (line : ℕ) (d e : Draft) → take_lines u line d lines ≡ Ok e → Continues d e (said_from line lines)
  unfolding take_line
  lines_continue [] line d e taken =
      let c = closed u line d.names d.procs d.begun d.init d.lines e taken in subst (λ x. Continues d x []) c.0 (none_left d c.1)
  lines_continue ([] ∷ lines) line d e taken = lines_continue lines (line + 1) d e taken
  lines_continue ((key ∷ words) ∷ lines) line d e taken =
      let c = then-ok (at_line line (take_line u line d (key ∷ words))) _ e taken in
      let f = some-ok Syntax (form_of key words) _ c.0 (at_line-ok line (take_line u line d (key ∷ words)) c.0 c.1) in
      rw f.1 (taken_continues d c.0 e line f.0 (said_from (line + 1) lines) (form_taken u d c.0 line f.0 f.2) (lines_continue lines (line + 1) c.0 e c.2))

  -- each of them has a form
  pub lines_have_forms : (lines : List Line) (line : ℕ) (d e : Draft) → take_lines u line d lines ≡ Ok e → list_all is_line lines ≡ true
  unfolding take_line
  lines_have_forms [] line d e taken = refl
  lines_have_forms ([] ∷ lines) line d e taken = lines_have_forms lines (line + 1) d e taken
  lines_have_forms ((key ∷ words) ∷ lines) line d e taken =
      let c = then-ok (at_line line (take_line u line d (key ∷ words))) _ e taken in
      let f = some-ok Syntax (form_of key words) _ c.0 (at_line-ok line (take_line u line d (key ∷ words)) c.0 c.1) in
      and_from (is_some (form_of key words)) (list_all is_line lines) (ap is_some f.1) (lines_have_forms lines (line + 1) c.0 e c.2)

  -- what lines make of no draft is what they declare
  pub declared : (d : Draft) (xs : List Said) → Continues nothing d xs → d ≡ draft_said u xs
  declared d xs k = parts d.names d.procs d.begun d.init d.lines k.names k.procs k.begun k.init k.lines where
    parts : (names : Declared ℕ) (procs : List ProcDraft) (begun : Option ProcDraft) (init : List DataLine) (lines : ℕ)
        → names ≡ numbered 0 (map (λ b. b.name) (blocks xs)) → procs ≡ map (proc_said u) (blocks xs) → begun ≡ None → init ≡ data_said xs
        → lines ≡ 0 + length xs
        → record { names = names; procs = procs; begun = begun; init = init; lines = lines } ≡ draft_said u xs
    parts names procs begun init lines e f g h i = let count : lines ≡ length xs = omega (arith, i) in rw (e, f, g, h, count) refl
