-- One step that only goes on: the program's run and that of the register code make it alike.
use Rattle.std.proofs.Common.{◌≡◌, ◌≢◌, ◌<◌, ◌+◌, ◌==◌, ◌&&◌, ◌++◌, ◌∷◌, [], ℕ, Bool, List, Option, Some, None, true, false, length, slice_set, slice_index, refl, sym, ap, ◌∙◌, arith, inl, inr, nat_lt, get_or-set_same, get_or-set_other, length-set}
use Rattle.std.proofs.lemmas.Bool.{eq-eqb, cases_eq, and_parts, or_left, or_right, ltb-true}
use Rattle.tta_lower.specs.Cited.{Units, OpId, Rel, Src, Var, Step, Load, Take, Store, When, Proc, Program, IsProgram, is_step, is_src, Running, Waiting, step_at, holds, goes_through, next, RStep, Kept, Plain, found, plain, word, put_reg, put_slot, step}
use Rattle.tta_program.specs.declared.operand.Src.TheVariants.{Word}
use Rattle.tta_program.specs.declared.step.Step.TheVariants.{Copy, Apply, Put}
use Rattle.tta_program.specs.Sequential as program
use Rattle.tta_program.specs.Sequential.{Frame}
use Rattle.tta_lir.specs.Meaning as code
use Rattle.tta_lower.specs.Liveness.{LiveBefore, Reads, Leads, LiveAfter, After, Reached, ByAssigned, ByAfter, Homes, IsHomes, is_plain, is_var, reads, assigned}
use Rattle.tta_lower.specs.Layout.{vars_of, var_slot, place, place_by, source, steps_for}
use Rattle.tta_lower.specs.Relation.{running, going, HeldBefore, HeldAfter, Untouched}
use Rattle.tta_lower.proofs.Lookups.{found-other, word-same, word-other}
use Rattle.tta_lower.proofs.Steps.{step_of, places-apart}
use Rattle.tta_list.proofs.Tests.{some_same}

-- ---- what a step leaves

module _ (u : Units) (p : Program) (home : Homes) (homes : IsHomes p home) (sound : IsProgram p) where
  -- a step that went on, in both runs
  pub record Went (k : ℕ) (f : Frame) (rest : List Frame) (at : ℕ) (regs : List (ℕ × ℕ)) (frame : List (ℕ × Kept)) (ra : Option ℕ)
      (memory input output : List ℕ) (r : RStep) : Type 0 where
    pub vars : List ℕ
    pub regs_new : List (ℕ × ℕ)
    pub frame_new : List (ℕ × Kept)
    pub memory_new : List ℕ
    pub input_new : List ℕ
    pub output_new : List ℕ
    pub program : next u p (running k (f ∷ rest) memory input output Running)
        ≡ running (k + 1) (record f { at = f.at + 1; vars = vars } ∷ rest) memory_new input_new output_new Running
    pub code : step u (going at regs frame ra memory input output Running) r ≡ going at regs_new frame_new ra memory_new input_new output_new Running
    pub size : length vars ≡ length f.vars
    pub held : HeldAfter p home (record f { vars = vars }) regs_new frame_new f.at
    pub untouched : Untouched p f.proc frame frame_new

  -- a step at which both runs wait
  pub record Waited (k : ℕ) (f : Frame) (rest : List Frame) (at : ℕ) (regs : List (ℕ × ℕ)) (frame : List (ℕ × Kept)) (ra : Option ℕ)
      (memory input output : List ℕ) (r : RStep) : Type 0 where
    pub program : next u p (running k (f ∷ rest) memory input output Running) ≡ running k (f ∷ rest) memory input output Waiting
    pub code : step u (going at regs frame ra memory input output Running) r ≡ going at regs frame ra memory input output Waiting

  -- a step goes on, or waits
  pub data PlainStep (k : ℕ) (f : Frame) (rest : List Frame) (at : ℕ) (regs : List (ℕ × ℕ)) (frame : List (ℕ × Kept)) (ra : Option ℕ)
      (memory input output : List ℕ) (rs : List RStep) : Type 0 where
    GoesOn : (r : RStep) → rs ≡ r ∷ [] → Went k f rest at regs frame ra memory input output r → PlainStep k f rest at regs frame ra memory input output rs
    Waits : (r : RStep) → rs ≡ r ∷ [] → Waited k f rest at regs frame ra memory input output r → PlainStep k f rest at regs frame ra memory input output rs

  module _ (f : Frame) (regs : List (ℕ × ℕ)) (frame : List (ℕ × Kept)) (st : Step) (there : step_at p f.proc f.at ≡ Some st)
      (reached : Reached p f.proc f.at) (size : length f.vars ≡ vars_of p f.proc) (held : HeldBefore p home f regs frame f.at) where
    -- what is live after the step and not assigned by it is live before it
    pub live-before : (x : ℕ) → LiveAfter p f.proc x f.at → assigned st ≢ Some x → LiveBefore p f.proc x f.at
    live-before x (After to s is goes live) ne =
        let same : s ≡ st = some_same (sym is ∙ there) in
        Leads f.at to s is (λ e. ne (ap assigned (sym same) ∙ e)) goes live

    -- nothing was assigned
    pub held-kept : assigned st ≡ None → HeldAfter p home f regs frame f.at
    held-kept none x live = held x (live-before x live (λ e. cc))

    -- the destination is read too, and keeps its word
    held-same : (d : ℕ) → assigned st ≡ Some d → reads st d ≡ true → HeldAfter p home f regs frame f.at
    held-same d is reads_d x live = elim (cases_eq x d) as (λ c. word regs frame (place p home f.proc x) ≡ Some (slice_index f.vars x)) [
      | inl e ↦ held x (Reads f.at st there (ap (reads st) e ∙ reads_d))
      | inr ne ↦ held x (live-before x live (λ e. ne (some_same (sym e ∙ is))))
    ]

    -- a variable was assigned
    held-assigned : (d w : ℕ) → assigned st ≡ Some d → d < vars_of p f.proc
        → HeldAfter p home (record f { vars = slice_set f.vars d w }) (put_reg (place p home f.proc d) w regs) (put_slot (place p home f.proc d) w frame) f.at
    held-assigned d w is within x live = elim (cases_eq x d) as (λ c. word (put_reg (place p home f.proc d) w regs) (put_slot (place p home f.proc d) w frame) (place p home f.proc x) ≡ Some (slice_index (slice_set f.vars d w) x)) [
      | inl e ↦ rw (e, get_or-set_same f.vars d w 0 (omega (arith, within, size))) (word-same (place p home f.proc d) w regs frame)
      | inr ne ↦
          rw (get_or-set_other f.vars d x w 0 ne)
          (word-other (place p home f.proc d) (place p home f.proc x) w regs frame
          (λ e. places-apart p home homes f.proc f.at d x reached (ByAssigned st there is) (ByAfter live) (λ s. ne (sym s)) e)
          ∙ held x (live-before x live (λ e. ne (some_same (sym e ∙ is)))))
    ]

    untouched-put : (d w : ℕ) → d < vars_of p f.proc → Untouched p f.proc frame (put_slot (place p home f.proc d) w frame)
    untouched-put d w within slot ne = by (home f.proc d) where
      by : (h : Option ℕ) → found slot (put_slot (place_by p home f.proc d h) w frame) ≡ found slot frame
      by (Some k) = refl
      by None = found-other (var_slot p f.proc d) slot (Plain w) frame (λ e. ne d within (sym e))

    -- an operand that the step reads is set, to the word that it stands for
    pub operand-set : (s : Src) (at : ℕ) (ra : Option ℕ) (memory input output : List ℕ) → ((x : ℕ) → is_var x s ≡ true → reads st x ≡ true)
        → code.operand (going at regs frame ra memory input output Running) (source p home f.proc s) ≡ Some (program.operand f.vars s)
    operand-set (Var y) at ra memory input output is_read = held y (Reads f.at st there (is_read y (eq-eqb y y refl)))
    operand-set (Word w) at ra memory input output is_read = refl

    -- what a step is whose destination gets a word
    pub went : (k : ℕ) (rest : List Frame) (at : ℕ) (ra : Option ℕ) (memory input output input_new : List ℕ) (r : RStep) (d w : ℕ)
        → assigned st ≡ Some d → d < vars_of p f.proc
        → next u p (running k (f ∷ rest) memory input output Running)
        ≡ running (k + 1) (record f { at = f.at + 1; vars = slice_set f.vars d w } ∷ rest) memory input_new output Running
        → step u (going at regs frame ra memory input output Running) r
        ≡ going at (put_reg (place p home f.proc d) w regs) (put_slot (place p home f.proc d) w frame) ra memory input_new output Running
        → Went k f rest at regs frame ra memory input output r
    went k rest at ra memory input output input_new r d w is within by_program by_code = record {
      vars = slice_set f.vars d w;
      regs_new = put_reg (place p home f.proc d) w regs;
      frame_new = put_slot (place p home f.proc d) w frame;
      memory_new = memory;
      input_new = input_new;
      output_new = output;
      program = by_program;
      code = by_code;
      size = length-set f.vars d w;
      held = held-assigned d w is within;
      untouched = untouched-put d w within;
    }

    -- what a step is that leaves the variables alone
    pub went-by : (k : ℕ) (rest : List Frame) (at : ℕ) (ra : Option ℕ) (memory input output memory_new output_new : List ℕ) (r : RStep)
        → HeldAfter p home f regs frame f.at
        → next u p (running k (f ∷ rest) memory input output Running)
        ≡ running (k + 1) (record f { at = f.at + 1 } ∷ rest) memory_new input output_new Running
        → step u (going at regs frame ra memory input output Running) r ≡ going at regs frame ra memory_new input output_new Running
        → Went k f rest at regs frame ra memory input output r
    went-by k rest at ra memory input output memory_new output_new r after by_program by_code = record {
      vars = f.vars;
      regs_new = regs;
      frame_new = frame;
      memory_new = memory_new;
      input_new = input;
      output_new = output_new;
      program = by_program;
      code = by_code;
      size = refl;
      held = after;
      untouched = λ slot ne. refl;
    }

    pub next-is : (k : ℕ) (rest : List Frame) (memory input output : List ℕ)
        → next u p (running k (f ∷ rest) memory input output Running) ≡ goes_through u p (running k (f ∷ rest) memory input output Running) f rest st
    unfolding next
    next-is k rest memory input output = rw there refl

    pub within-vars : (d : ℕ) → ((q : Proc) → is_step p q st ≡ true → nat_lt d q.vars ≡ true) → d < vars_of p f.proc
    within-vars d test =
        let of_step = step_of p sound f.proc f.at st there in
        let vars : vars_of p f.proc ≡ of_step.proc.vars = rw (of_step.is) refl in
        omega (arith, vars, ltb-true d of_step.proc.vars (test of_step.proc of_step.rules))

  module _ (f : Frame) (regs : List (ℕ × ℕ)) (frame : List (ℕ × Kept)) (reached : Reached p f.proc f.at) (size : length f.vars ≡ vars_of p f.proc)
      (held : HeldBefore p home f regs frame f.at) (k : ℕ) (rest : List Frame) (at : ℕ) (ra : Option ℕ) (memory input output : List ℕ) where
    -- what is claimed of a step
    abbrev Claim : Step → Type 0
    Claim st = step_at p f.proc f.at ≡ Some st → PlainStep k f rest at regs frame ra memory input output (steps_for p home f.proc st)

    -- an operand of a step, set
    set-by : (st : Step) → step_at p f.proc f.at ≡ Some st → (s : Src) → ((x : ℕ) → is_var x s ≡ true → reads st x ≡ true)
        → code.operand (going at regs frame ra memory input output Running) (source p home f.proc s) ≡ Some (program.operand f.vars s)
    set-by st there s is_read = operand-set f regs frame st there reached size held s at ra memory input output is_read

    -- the next state of the program
    program-by : (st : Step) → step_at p f.proc f.at ≡ Some st
        → next u p (running k (f ∷ rest) memory input output Running) ≡ goes_through u p (running k (f ∷ rest) memory input output Running) f rest st
    program-by st there = next-is f regs frame st there reached size held k rest memory input output

    below-by : (st : Step) → step_at p f.proc f.at ≡ Some st → (d : ℕ) → ((q : Proc) → is_step p q st ≡ true → nat_lt d q.vars ≡ true) → d < vars_of p f.proc
    below-by st there d test = within-vars f regs frame st there reached size held d test

    plain-copy : (d : ℕ) (s : Src) → Claim (Copy d s)
    unfolding step
    plain-copy d s there =
        let set = set-by (Copy d s) there s (λ x e. e) in
        GoesOn _ refl (went f regs frame (Copy d s) there reached size held k rest at ra memory input output input _ d (program.operand f.vars s) refl
        (below-by (Copy d s) there d (λ q t. (and_parts (nat_lt d q.vars) _ t).0))
        (program-by (Copy d s) there)
        (rw set refl))

    plain-apply : (d : ℕ) (op : OpId) (a b : Src) → Claim (Apply d op a b)
    unfolding step
    plain-apply d op a b there =
        let st = Apply d op a b in
        let set_a = set-by st there a (λ x e. or_left (is_var x a) (is_var x b) e) in
        let set_b = set-by st there b (λ x e. or_right (is_var x a) (is_var x b) e) in
        GoesOn _ refl (went f regs frame st there reached size held k rest at ra memory input output input _ d (u.value op.0 (program.operand f.vars a) (program.operand f.vars b)) refl
        (below-by st there d (λ q t. (and_parts (nat_lt d q.vars) (is_src q.vars a) (and_parts (nat_lt d q.vars && is_src q.vars a) _ t).0).0))
        (program-by st there)
        (rw (set_a, set_b) refl))

    plain-load : (d : ℕ) (a : Src) → Claim (Load d a)
    unfolding step
    plain-load d a there =
        let st = Load d a in
        let set = set-by st there a (λ x e. e) in
        GoesOn _ refl (went f regs frame st there reached size held k rest at ra memory input output input _ d (slice_index memory (program.operand f.vars a)) refl
        (below-by st there d (λ q t. (and_parts (nat_lt d q.vars) _ t).0))
        (program-by st there)
        (rw set refl))

    plain-store : (a v : Src) → Claim (Store a v)
    unfolding step
    plain-store a v there =
        let st = Store a v in
        let set_a = set-by st there a (λ x e. or_left (is_var x a) (is_var x v) e) in
        let set_v = set-by st there v (λ x e. or_right (is_var x a) (is_var x v) e) in
        GoesOn _ refl (went-by f regs frame st there reached size held k rest at ra memory input output
        (slice_set memory (program.operand f.vars a) (program.operand f.vars v)) output _
        (held-kept f regs frame st there reached size held refl)
        (program-by st there)
        (rw (set_a, set_v) refl))

    plain-put : (v : Src) → Claim (Put v)
    unfolding step
    plain-put v there =
        let st = Put v in
        let set = set-by st there v (λ x e. e) in
        GoesOn _ refl (went-by f regs frame st there reached size held k rest at ra memory input output memory (output ++ program.operand f.vars v ∷ []) _
        (held-kept f regs frame st there reached size held refl)
        (program-by st there)
        (rw set refl))

    plain-when : (rel : Rel) (a b : Src) (d : ℕ) (s : Src) → Claim (When rel a b d s)
    unfolding step
    plain-when rel a b d s there = by (holds u rel (program.operand f.vars a) (program.operand f.vars b)) refl where
      st : Step
      st = When rel a b d s

      set_a : code.operand (going at regs frame ra memory input output Running) (source p home f.proc a) ≡ Some (program.operand f.vars a)
      set_a = set-by (When rel a b d s) there a (λ x e. or_left (is_var x a) _ e)

      set_b : code.operand (going at regs frame ra memory input output Running) (source p home f.proc b) ≡ Some (program.operand f.vars b)
      set_b = set-by (When rel a b d s) there b (λ x e. or_right (is_var x a) _ (or_left (is_var x b) _ e))

      set_d : code.operand (going at regs frame ra memory input output Running) (source p home f.proc (Var d)) ≡ Some (program.operand f.vars (Var d))
      set_d = set-by (When rel a b d s) there (Var d) (λ x e. or_right (is_var x a) _ (or_right (is_var x b) _ (or_left (d == x) _ e)))

      set_s : code.operand (going at regs frame ra memory input output Running) (source p home f.proc s) ≡ Some (program.operand f.vars s)
      set_s = set-by (When rel a b d s) there s (λ x e. or_right (is_var x a) _ (or_right (is_var x b) _ (or_right (d == x) _ e)))

      below : d < vars_of p f.proc
      below = below-by (When rel a b d s) there d (λ q t. (and_parts (is_src q.vars a && is_src q.vars b) (nat_lt d q.vars) (and_parts (is_src q.vars a && is_src q.vars b && nat_lt d q.vars) _ t).0).1)

      by : (c : Bool) → holds u rel (program.operand f.vars a) (program.operand f.vars b) ≡ c
          → PlainStep k f rest at regs frame ra memory input output (steps_for p home f.proc (When rel a b d s))
      by true is = GoesOn _ refl (went f regs frame (When rel a b d s) there reached size held k rest at ra memory input output input _ d (program.operand f.vars s) refl below
          (program-by (When rel a b d s) there ∙ (rw is refl))
          (rw (set_a, set_b, set_d, set_s, is) refl))
      by false is = GoesOn _ refl (went-by f regs frame (When rel a b d s) there reached size held k rest at ra memory input output memory output _
          (held-same f regs frame (When rel a b d s) there reached size held d refl (or_right (is_var d a) _ (or_right (is_var d b) _ (or_left (d == d) _ (eq-eqb d d refl)))))
          (program-by (When rel a b d s) there ∙ (rw is refl))
          (rw (set_a, set_b, set_d, set_s, is) refl))

  -- a step that takes a word of the input
  plain-take : (f : Frame) (regs : List (ℕ × ℕ)) (frame : List (ℕ × Kept)) (reached : Reached p f.proc f.at) (size : length f.vars ≡ vars_of p f.proc)
      (held : HeldBefore p home f regs frame f.at) (k : ℕ) (rest : List Frame) (at : ℕ) (ra : Option ℕ) (memory input output : List ℕ)
      (d : ℕ) (there : step_at p f.proc f.at ≡ Some (Take d)) → PlainStep k f rest at regs frame ra memory input output (steps_for p home f.proc (Take d))
  unfolding step
  plain-take f regs frame reached size held k rest at ra memory [] output d there =
      Waits _ refl (record {
        program = next-is f regs frame (Take d) there reached size held k rest memory [] output;
        code = refl;
      })
  plain-take f regs frame reached size held k rest at ra memory (w ∷ input) output d there =
      GoesOn _ refl (went f regs frame (Take d) there reached size held k rest at ra memory (w ∷ input) output input _ d w refl
      (within-vars f regs frame (Take d) there reached size held d (λ q t. t))
      (next-is f regs frame (Take d) there reached size held k rest memory (w ∷ input) output)
      refl)

  -- one step that only goes on
  pub plain-step : (f : Frame) (regs : List (ℕ × ℕ)) (frame : List (ℕ × Kept)) → Reached p f.proc f.at → length f.vars ≡ vars_of p f.proc
      → HeldBefore p home f regs frame f.at → (k : ℕ) (rest : List Frame) (at : ℕ) (ra : Option ℕ) (memory input output : List ℕ)
      (st : Step) → step_at p f.proc f.at ≡ Some st → is_plain st ≡ true
      → PlainStep k f rest at regs frame ra memory input output (steps_for p home f.proc st)
  plain-step f regs frame reached size held k rest at ra memory input output (Copy d s) there plain =
      plain-copy f regs frame reached size held k rest at ra memory input output d s there
  plain-step f regs frame reached size held k rest at ra memory input output (Apply d op a b) there plain =
      plain-apply f regs frame reached size held k rest at ra memory input output d op a b there
  plain-step f regs frame reached size held k rest at ra memory input output (Load d a) there plain =
      plain-load f regs frame reached size held k rest at ra memory input output d a there
  plain-step f regs frame reached size held k rest at ra memory input output (Take d) there plain =
      plain-take f regs frame reached size held k rest at ra memory input output d there
  plain-step f regs frame reached size held k rest at ra memory input output (Store a v) there plain =
      plain-store f regs frame reached size held k rest at ra memory input output a v there
  plain-step f regs frame reached size held k rest at ra memory input output (Put v) there plain =
      plain-put f regs frame reached size held k rest at ra memory input output v there
  plain-step f regs frame reached size held k rest at ra memory input output (When rel a b d s) there plain =
      plain-when f regs frame reached size held k rest at ra memory input output rel a b d s there
  plain-step f regs frame reached size held k rest at ra memory input output st there plain = cc
