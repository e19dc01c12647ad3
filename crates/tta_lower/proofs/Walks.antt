-- A run of the program and a walk of the register code that come to states that stand together, or end alike.
use Rattle.std.proofs.Common.{◌≡◌, ◌<◌, ◌≤◌, ◌+◌, ◌∷◌, ℕ, List, Option, false, drop, sym, ap, ◌∙◌, subst, arith}
use Rattle.tta_lower.specs.Cited.{iterate, Units, Program, step_count, Outcome, Running, next, RBlock, Rir, Kept, walk, is_running}
use Rattle.tta_program.specs.Sequential as program
use Rattle.tta_program.specs.Sequential.{Frame}
use Rattle.tta_lir.specs.Meaning.{State}
use Rattle.tta_lower.specs.Liveness.{LoweringInput}
use Rattle.tta_lower.specs.Shape.{Counts}
use Rattle.tta_lower.specs.Relation.{running, going, AtBlock, Stands}
use Rattle.tta_list.proofs.Iterated.{iterate-add}

module _ (u : Units) (p : Program) (known : LoweringInput) (r : Rir) (number : ℕ → ℕ → ℕ) (entry : ℕ → ℕ) (before : Counts) where
  -- a run of the program comes, in one step or more, to a state that stands beside one of the register code
  pub record Comes (s : program.State) (t : State) (low : ℕ) : Type 0 where
    pub made : ℕ
    pub some : 0 < made
    pub few : low + made ≤ step_count p
    pub steps : ℕ
    pub f : Frame
    pub rest : List Frame
    pub at : ℕ
    pub regs : List (ℕ × ℕ)
    pub frame : List (ℕ × Kept)
    pub ra : Option ℕ
    pub memory : List ℕ
    pub input : List ℕ
    pub output : List ℕ
    pub program : iterate made (next u p) s ≡ running steps (f ∷ rest) memory input output Running
    pub code : t ≡ going at regs frame ra memory input output Running
    pub stands : Stands p known r number entry before f rest at regs frame ra

  -- both end alike
  pub record Ends (s : program.State) (t : State) (low : ℕ) : Type 0 where
    pub made : ℕ
    pub some : 0 < made
    pub few : low + made ≤ step_count p
    pub steps : ℕ
    pub stack : List Frame
    pub at : ℕ
    pub regs : List (ℕ × ℕ)
    pub frame : List (ℕ × Kept)
    pub ra : Option ℕ
    pub memory : List ℕ
    pub input : List ℕ
    pub output : List ℕ
    pub outcome : Outcome
    pub ended : is_running outcome ≡ false
    pub program : iterate made (next u p) s ≡ running steps stack memory input output outcome
    pub code : t ≡ going at regs frame ra memory input output outcome

  -- both come to states that stand together, or end alike
  pub data Walked (s : program.State) (t : State) (low : ℕ) : Type 0 where
    GoOn : Comes s t low → Walked s t low
    Over : Ends s t low → Walked s t low

  -- some steps were made before
  pub walked-after : (m : ℕ) (s s' : program.State) (t : State) (low low' : ℕ) → iterate m (next u p) s ≡ s' → low + m ≤ low' → Walked s' t low' → Walked s t low
  walked-after m s s' t low low' e le (GoOn c) = GoOn (record {
    made = m + c.made;
    some = omega (arith, c.some);
    few = omega (arith, c.few, le);
    steps = c.steps;
    f = c.f;
    rest = c.rest;
    at = c.at;
    regs = c.regs;
    frame = c.frame;
    ra = c.ra;
    memory = c.memory;
    input = c.input;
    output = c.output;
    program = iterate-add m c.made (next u p) s ∙ ap (iterate c.made (next u p)) e ∙ c.program;
    code = c.code;
    stands = c.stands;
  })
  walked-after m s s' t low low' e le (Over c) = Over (record {
    made = m + c.made;
    some = omega (arith, c.some);
    few = omega (arith, c.few, le);
    steps = c.steps;
    stack = c.stack;
    at = c.at;
    regs = c.regs;
    frame = c.frame;
    ra = c.ra;
    memory = c.memory;
    input = c.input;
    output = c.output;
    outcome = c.outcome;
    ended = c.ended;
    program = iterate-add m c.made (next u p) s ∙ ap (iterate c.made (next u p)) e ∙ c.program;
    code = c.code;
  })

  -- the same of an equal state of the code
  pub walked-code : (s : program.State) (t t' : State) (low : ℕ) → t ≡ t' → Walked s t' low → Walked s t low
  walked-code s t t' low e w = subst (λ x. Walked s x low) (sym e) w

  -- a transfer of both at one step
  pub comes-now : (s : program.State) (t : State) (low high : ℕ) (steps : ℕ) (f : Frame) (rest : List Frame) (at : ℕ) (regs : List (ℕ × ℕ)) (frame : List (ℕ × Kept))
      (ra : Option ℕ) (memory input output : List ℕ) → low + 1 ≤ high → high ≤ step_count p
      → next u p s ≡ running steps (f ∷ rest) memory input output Running → t ≡ going at regs frame ra memory input output Running
      → Stands p known r number entry before f rest at regs frame ra → Walked s t low
  comes-now s t low high steps f rest at regs frame ra memory input output le all by_program by_code stands = GoOn (record {
    made = 1;
    some = omega arith;
    few = omega (arith, le, all);
    steps = steps;
    f = f;
    rest = rest;
    at = at;
    regs = regs;
    frame = frame;
    ra = ra;
    memory = memory;
    input = input;
    output = output;
    program = by_program;
    code = by_code;
    stands = stands;
  })

  -- an end of both at one step
  pub ends-now : (s : program.State) (t : State) (low high : ℕ) (steps : ℕ) (stack : List Frame) (at : ℕ) (regs : List (ℕ × ℕ)) (frame : List (ℕ × Kept))
      (ra : Option ℕ) (memory input output : List ℕ) (outcome : Outcome) → low + 1 ≤ high → high ≤ step_count p → is_running outcome ≡ false
      → next u p s ≡ running steps stack memory input output outcome → t ≡ going at regs frame ra memory input output outcome
      → Walked s t low
  ends-now s t low high steps stack at regs frame ra memory input output outcome le all ended by_program by_code = Over (record {
    made = 1;
    some = omega arith;
    few = omega (arith, le, all);
    steps = steps;
    stack = stack;
    at = at;
    regs = regs;
    frame = frame;
    ra = ra;
    memory = memory;
    input = input;
    output = output;
    outcome = outcome;
    ended = ended;
    program = by_program;
    code = by_code;
  })

  -- what is claimed of the blocks from one on
  abbrev pub WalkFrom : List RBlock → Type 0
  WalkFrom bs = (f : Frame) (rest : List Frame) (at : ℕ) (regs : List (ℕ × ℕ)) (frame : List (ℕ × Kept)) (ra : Option ℕ) (k : ℕ) (memory input output : List ℕ)
      → AtBlock p known r number entry before f rest at regs frame → drop at r.blocks ≡ bs
      → Walked (running k (f ∷ rest) memory input output Running) (walk u bs (going at regs frame ra memory input output Running)) (before at)
