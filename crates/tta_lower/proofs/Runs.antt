-- Several steps that only go on.
use Rattle.std.proofs.Common.{◌≡◌, ◌<◌, ◌≤◌, ◌+◌, ◌++◌, ◌∷◌, [], ℕ, zero, suc, List, Option, Some, true, length, refl, ap, ◌∙◌, arith}
use Rattle.std.proofs.lemmas.Bool.{eq-eqb}
use Rattle.tta_lower.specs.Cited.{iterate, Units, Step, Load, Take, Store, When, Program, IsProgram, Running, Waiting, step_at, next, RStep, Kept, steps_of}
use Rattle.tta_program.specs.declared.step.Step.TheVariants.{Copy, Apply, Put}
use Rattle.tta_program.specs.Sequential.{Frame}
use Rattle.tta_lower.specs.Liveness.{After, Reached, Homes, IsHomes, PlainAt, is_plain, leads}
use Rattle.tta_lower.specs.Layout.{vars_of, steps_for, code_from}
use Rattle.tta_lower.specs.Relation.{running, going, HeldBefore, HeldAfter, Untouched}
use Rattle.tta_lower.proofs.Plain.{PlainStep, GoesOn, Waits, Went, plain-step}

-- ---- steps in a row

-- one step before the others
pub iterate-first : {S : Type 0} (n : ℕ) (f : S → S) (s : S) → iterate (suc n) f s ≡ iterate n f (f s)
iterate-first zero f s = refl
iterate-first (suc n) f s = ap f (iterate-first n f s)

-- a plain step leads to the next one
pub plain-leads : (st : Step) (at : ℕ) → is_plain st ≡ true → leads st at (at + 1) ≡ true
plain-leads (Copy d s) at plain = eq-eqb (at + 1) (at + 1) refl
plain-leads (Apply d op a b) at plain = eq-eqb (at + 1) (at + 1) refl
plain-leads (Load d a) at plain = eq-eqb (at + 1) (at + 1) refl
plain-leads (Take d) at plain = eq-eqb (at + 1) (at + 1) refl
plain-leads (Store a v) at plain = eq-eqb (at + 1) (at + 1) refl
plain-leads (Put v) at plain = eq-eqb (at + 1) (at + 1) refl
plain-leads (When rel a b d s) at plain = eq-eqb (at + 1) (at + 1) refl
plain-leads st at plain = cc

module _ (u : Units) (p : Program) (home : Homes) (homes : IsHomes p home) (sound : IsProgram p) where
  -- so many steps were made, and the code of these steps was carried out
  pub record Ran (n k : ℕ) (f : Frame) (rest : List Frame) (at : ℕ) (regs : List (ℕ × ℕ)) (frame : List (ℕ × Kept)) (ra : Option ℕ)
      (memory input output : List ℕ) : Type 0 where
    pub to : ℕ
    pub come : to ≡ f.at + n
    pub steps : ℕ
    pub vars : List ℕ
    pub regs_new : List (ℕ × ℕ)
    pub frame_new : List (ℕ × Kept)
    pub memory_new : List ℕ
    pub input_new : List ℕ
    pub output_new : List ℕ
    pub program : iterate n (next u p) (running k (f ∷ rest) memory input output Running)
        ≡ running steps (record f { at = to; vars = vars } ∷ rest) memory_new input_new output_new Running
    pub code : (tail : List RStep) → steps_of u (code_from p home f.proc f.at n ++ tail) (going at regs frame ra memory input output Running)
        ≡ steps_of u tail (going at regs_new frame_new ra memory_new input_new output_new Running)
    pub size : length vars ≡ length f.vars
    pub held : HeldBefore p home (record f { at = to; vars = vars }) regs_new frame_new to
    pub untouched : Untouched p f.proc frame frame_new

  -- both runs wait at one of so many steps
  pub record Stopped (n k : ℕ) (f : Frame) (rest : List Frame) (at : ℕ) (regs : List (ℕ × ℕ)) (frame : List (ℕ × Kept)) (ra : Option ℕ)
      (memory input output : List ℕ) : Type 0 where
    pub made : ℕ
    pub some : 0 < made
    pub few : made ≤ n
    pub steps : ℕ
    pub stack : List Frame
    pub regs_new : List (ℕ × ℕ)
    pub frame_new : List (ℕ × Kept)
    pub memory_new : List ℕ
    pub input_new : List ℕ
    pub output_new : List ℕ
    pub program : iterate made (next u p) (running k (f ∷ rest) memory input output Running) ≡ running steps stack memory_new input_new output_new Waiting
    pub code : (tail : List RStep) → steps_of u (code_from p home f.proc f.at n ++ tail) (going at regs frame ra memory input output Running)
        ≡ going at regs_new frame_new ra memory_new input_new output_new Waiting

  -- some steps go on, or wait
  pub data PlainRun (n k : ℕ) (f : Frame) (rest : List Frame) (at : ℕ) (regs : List (ℕ × ℕ)) (frame : List (ℕ × Kept)) (ra : Option ℕ)
      (memory input output : List ℕ) : Type 0 where
    AllMade : Ran n k f rest at regs frame ra memory input output → PlainRun n k f rest at regs frame ra memory input output
    OneWaits : Stopped n k f rest at regs frame ra memory input output → PlainRun n k f rest at regs frame ra memory input output

  -- a row of code that begins with the code of one step
  row : (f : Frame) (n : ℕ) (st : Step) (r : RStep) (tail : List RStep) → step_at p f.proc f.at ≡ Some st → steps_for p home f.proc st ≡ r ∷ []
      → code_from p home f.proc f.at (suc n) ++ tail ≡ r ∷ (code_from p home f.proc (f.at + 1) n ++ tail)
  row f n st r tail there one = rw (there, one) refl

  -- the first of them went on, and then the others
  went-on : (n k : ℕ) (f : Frame) (rest : List Frame) (at : ℕ) (regs : List (ℕ × ℕ)) (frame : List (ℕ × Kept)) (ra : Option ℕ) (memory input output : List ℕ)
      (st : Step) (r : RStep) → step_at p f.proc f.at ≡ Some st → steps_for p home f.proc st ≡ r ∷ []
      → (w : Went u p home homes sound k f rest at regs frame ra memory input output r)
      → PlainRun n (k + 1) (record f { at = f.at + 1; vars = w.vars }) rest at w.regs_new w.frame_new ra w.memory_new w.input_new w.output_new
      → PlainRun (suc n) k f rest at regs frame ra memory input output
  went-on n k f rest at regs frame ra memory input output st r there one w (AllMade a) = AllMade (record {
    to = a.to;
    come = a.come ∙ omega arith;
    steps = a.steps;
    vars = a.vars;
    regs_new = a.regs_new;
    frame_new = a.frame_new;
    memory_new = a.memory_new;
    input_new = a.input_new;
    output_new = a.output_new;
    program = iterate-first n (next u p) (running k (f ∷ rest) memory input output Running) ∙ ap (iterate n (next u p)) w.program ∙ a.program;
    code = λ tail. rw (row f n st r tail there one, w.code) (a.code tail);
    size = a.size ∙ w.size;
    held = a.held;
    untouched = λ slot ne. a.untouched slot ne ∙ w.untouched slot ne;
  })
  went-on n k f rest at regs frame ra memory input output st r there one w (OneWaits a) = OneWaits (record {
    made = suc a.made;
    some = omega arith;
    few = omega (arith, a.few);
    steps = a.steps;
    stack = a.stack;
    regs_new = a.regs_new;
    frame_new = a.frame_new;
    memory_new = a.memory_new;
    input_new = a.input_new;
    output_new = a.output_new;
    program = iterate-first a.made (next u p) (running k (f ∷ rest) memory input output Running) ∙ ap (iterate a.made (next u p)) w.program ∙ a.program;
    code = λ tail. rw (row f n st r tail there one, w.code) (a.code tail);
  })

  -- what is live before the next step is live after a plain one
  before-next : (f : Frame) (vars : List ℕ) (regs : List (ℕ × ℕ)) (frame : List (ℕ × Kept)) (st : Step) → step_at p f.proc f.at ≡ Some st → is_plain st ≡ true
      → HeldAfter p home (record f { vars = vars }) regs frame f.at → HeldBefore p home (record f { at = f.at + 1; vars = vars }) regs frame (f.at + 1)
  before-next f vars regs frame st there plain held x live = held x (After (f.at + 1) st there (plain-leads st f.at plain) live)

  -- a run of plain steps
  pub plain-run : (n k : ℕ) (f : Frame) (rest : List Frame) (at : ℕ) (regs : List (ℕ × ℕ)) (frame : List (ℕ × Kept)) (ra : Option ℕ) (memory input output : List ℕ)
      → ((i : ℕ) → f.at ≤ i → i < f.at + n → PlainAt p f.proc i) → ((i : ℕ) → f.at ≤ i → i < f.at + n → Reached p f.proc i)
      → length f.vars ≡ vars_of p f.proc → HeldBefore p home f regs frame f.at
      → PlainRun n k f rest at regs frame ra memory input output
  plain-run zero k f rest at regs frame ra memory input output plain reached size held = AllMade (record {
    to = f.at;
    come = omega arith;
    steps = k;
    vars = f.vars;
    regs_new = regs;
    frame_new = frame;
    memory_new = memory;
    input_new = input;
    output_new = output;
    program = refl;
    code = λ tail. refl;
    size = refl;
    held = held;
    untouched = λ slot ne. refl;
  })
  plain-run (suc n) k f rest at regs frame ra memory input output plain reached size held =
      let now = plain f.at (omega arith) (omega arith) in
      by now (λ r w. plain-run n (k + 1) (record f { at = f.at + 1; vars = w.vars }) rest at w.regs_new w.frame_new ra w.memory_new w.input_new w.output_new
      (λ i lo hi. plain i (omega (arith, lo)) (omega (arith, hi)))
      (λ i lo hi. reached i (omega (arith, lo)) (omega (arith, hi)))
      (w.size ∙ size)
      (before-next f w.vars w.regs_new w.frame_new now.st now.there now.plain w.held))
      (plain-step u p home homes sound f regs frame (reached f.at (omega arith) (omega arith)) size held k rest at ra memory input output now.st now.there now.plain) where
        by : (now : PlainAt p f.proc f.at)
            → ((r : RStep) (w : Went u p home homes sound k f rest at regs frame ra memory input output r)
            → PlainRun n (k + 1) (record f { at = f.at + 1; vars = w.vars }) rest at w.regs_new w.frame_new ra w.memory_new w.input_new w.output_new)
            → PlainStep u p home homes sound k f rest at regs frame ra memory input output (steps_for p home f.proc now.st)
            → PlainRun (suc n) k f rest at regs frame ra memory input output
        by now more (GoesOn r one w) = went-on n k f rest at regs frame ra memory input output now.st r now.there one w (more r w)
        by now more (Waits r one w) = OneWaits (record {
          made = 1;
          some = omega arith;
          few = omega arith;
          steps = k;
          stack = f ∷ rest;
          regs_new = regs;
          frame_new = frame;
          memory_new = memory;
          input_new = input;
          output_new = output;
          program = w.program;
          code = λ tail. rw (row f n now.st r tail now.there one, w.code) refl;
        })
