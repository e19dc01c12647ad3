-- Whole runs.
use Rattle.std.proofs.Common.{◌≡◌, ◌≤◌, ◌+◌, ◌*◌, ◌∷◌, [], ℕ, zero, suc, List, Option, None, true, false, refl, sym, ap, ◌∙◌, subst, arith, inl, inr}
use Rattle.std.proofs.lemmas.Bool.{cases_lt, false≢true}
use Rattle.tta_lower.specs.Cited.{IsPrefixOf, iterate, Units, Program, step_count, IsProgram, Outcome, Running, enter, next, seq, Rir, Kept, is_running, leg, rrun}
use Rattle.tta_program.specs.Sequential as program
use Rattle.tta_program.specs.Sequential.{Frame}
use Rattle.tta_program.proofs.Growing.{later_output}
use Rattle.tta_lower.specs.Liveness.{LoweringInput, IsFlow, IsHomes}
use Rattle.tta_lower.specs.Shape.{Counts, IsLowered}
use Rattle.tta_lower.specs.Relation.{running, going, Stands}
use Rattle.tta_lower.specs.Keeps.{EndAlike, KeepsMeaning}
use Rattle.tta_lower.proofs.Walks.{Walked, GoOn, Over}
use Rattle.tta_lower.proofs.Entries.{one-leg, starts}
use Rattle.tta_lower.proofs.Ended.{later-end}
use Rattle.tta_list.proofs.Iterated.{iterate-add}
use Rattle.tta_list.proofs.Prefixes.{prefix_same}

-- a run that has ended stays
leg-stays : (u : Units) (r : Rir) (at : ℕ) (regs : List (ℕ × ℕ)) (frame : List (ℕ × Kept)) (ra : Option ℕ) (memory input output : List ℕ) (outcome : Outcome)
    → is_running outcome ≡ false → leg u r (going at regs frame ra memory input output outcome) ≡ going at regs frame ra memory input output outcome
unfolding leg
leg-stays u r at regs frame ra memory input output outcome ended = rw ended refl

module _ (u : Units) (p : Program) (known : LoweringInput) (r : Rir) (number : ℕ → ℕ → ℕ) (entry : ℕ → ℕ) (before : Counts)
    (flow : IsFlow p known.blocks) (homes : IsHomes p known.home) (sound : IsProgram p) (lowered : IsLowered p known r number entry before) where
  -- the first state of the program
  abbrev first : (memory input : List ℕ) → program.State
  first memory input = program.start p memory input

  -- after n legs both runs go on
  record OnWay (memory input : List ℕ) (n : ℕ) : Type 0 where
    made : ℕ
    enough : n ≤ made
    few : made ≤ step_count p * n
    steps : ℕ
    f : Frame
    rest : List Frame
    at : ℕ
    regs : List (ℕ × ℕ)
    frame : List (ℕ × Kept)
    ra : Option ℕ
    memory_now : List ℕ
    input_now : List ℕ
    output_now : List ℕ
    program : seq u p memory input made ≡ running steps (f ∷ rest) memory_now input_now output_now Running
    code : rrun u r memory input n ≡ going at regs frame ra memory_now input_now output_now Running
    stands : Stands p known r number entry before f rest at regs frame ra

  -- after n legs both runs have ended
  record AtEnd (memory input : List ℕ) (n : ℕ) : Type 0 where
    made : ℕ
    few : made ≤ step_count p * n
    steps : ℕ
    stack : List Frame
    at : ℕ
    regs : List (ℕ × ℕ)
    frame : List (ℕ × Kept)
    ra : Option ℕ
    memory_now : List ℕ
    input_now : List ℕ
    output_now : List ℕ
    outcome : Outcome
    ended : is_running outcome ≡ false
    program : seq u p memory input made ≡ running steps stack memory_now input_now output_now outcome
    code : rrun u r memory input n ≡ going at regs frame ra memory_now input_now output_now outcome

  -- a run of legs beside a run of steps
  data Beside (memory input : List ℕ) (n : ℕ) : Type 0 where
    BothGo : OnWay memory input n → Beside memory input n
    BothEnded : AtEnd memory input n → Beside memory input n

  -- a run that goes on
  more : (made n m : ℕ) → made ≤ step_count p * n → m ≤ step_count p → made + m ≤ step_count p * suc n
  more made n m le lm = omega (arith, le, lm)

  -- one leg more
  one-more : (memory input : List ℕ) (n : ℕ) → Beside memory input n → Beside memory input (suc n)
  one-more memory input n (BothEnded a) = BothEnded (record {
    made = a.made;
    few = omega (arith, more a.made n 0 a.few (omega arith));
    steps = a.steps;
    stack = a.stack;
    at = a.at;
    regs = a.regs;
    frame = a.frame;
    ra = a.ra;
    memory_now = a.memory_now;
    input_now = a.input_now;
    output_now = a.output_now;
    outcome = a.outcome;
    ended = a.ended;
    program = a.program;
    code = ap (leg u r) a.code ∙ leg-stays u r a.at a.regs a.frame a.ra a.memory_now a.input_now a.output_now a.outcome a.ended;
  })
  one-more memory input n (BothGo a) =
      by (one-leg u p known r number entry before flow homes sound lowered a.f a.rest a.at a.regs a.frame a.ra a.steps a.memory_now a.input_now a.output_now a.stands) where
        by : Walked u p known r number entry before (running a.steps (a.f ∷ a.rest) a.memory_now a.input_now a.output_now Running)
            (leg u r (going a.at a.regs a.frame a.ra a.memory_now a.input_now a.output_now Running)) (before a.at) → Beside memory input (suc n)
        by (GoOn c) = BothGo (record {
          made = a.made + c.made;
          enough = omega (arith, a.enough, c.some);
          few = more a.made n c.made a.few (omega (arith, c.few));
          steps = c.steps;
          f = c.f;
          rest = c.rest;
          at = c.at;
          regs = c.regs;
          frame = c.frame;
          ra = c.ra;
          memory_now = c.memory;
          input_now = c.input;
          output_now = c.output;
          program = iterate-add a.made c.made (next u p) (program.start p memory input) ∙ ap (iterate c.made (next u p)) a.program ∙ c.program;
          code = ap (leg u r) a.code ∙ c.code;
          stands = c.stands;
        })
        by (Over c) = BothEnded (record {
          made = a.made + c.made;
          few = more a.made n c.made a.few (omega (arith, c.few));
          steps = c.steps;
          stack = c.stack;
          at = c.at;
          regs = c.regs;
          frame = c.frame;
          ra = c.ra;
          memory_now = c.memory;
          input_now = c.input;
          output_now = c.output;
          outcome = c.outcome;
          ended = c.ended;
          program = iterate-add a.made c.made (next u p) (program.start p memory input) ∙ ap (iterate c.made (next u p)) a.program ∙ c.program;
          code = ap (leg u r) a.code ∙ c.code;
        })

  -- each run of legs has a run of steps beside it
  beside : (memory input : List ℕ) (n : ℕ) → Beside memory input n
  beside memory input zero = BothGo (record {
    made = 0;
    enough = omega arith;
    few = omega arith;
    steps = 0;
    f = enter p p.main [];
    rest = [];
    at = 0;
    regs = [];
    frame = [];
    ra = None;
    memory_now = memory;
    input_now = input;
    output_now = [];
    program = refl;
    code = refl;
    stands = starts u p known r number entry before flow homes sound lowered memory input;
  })
  beside memory input (suc n) = one-more memory input n (beside memory input n)

  -- ---- what follows at each bound

  module _ (memory input : List ℕ) (n : ℕ) where
    meaning : Beside memory input n → (rrun u r memory input n).sound ≡ true
    meaning (BothGo a) = ap (λ s. s.sound) a.code
    meaning (BothEnded a) = ap (λ s. s.sound) a.code

    alike : (a : AtEnd memory input n) → EndAlike (seq u p memory input a.made) (rrun u r memory input n)
    alike a = record {
      outcome = ap (λ s. s.outcome) a.code ∙ sym (ap (λ s. s.outcome) a.program);
      memory = ap (λ s. s.memory) a.code ∙ sym (ap (λ s. s.memory) a.program);
      output = ap (λ s. s.output) a.code ∙ sym (ap (λ s. s.output) a.program);
      rest = ap (λ s. s.rest) a.code ∙ sym (ap (λ s. s.rest) a.program);
    }

    program-ended : (a : AtEnd memory input n) → is_running (seq u p memory input a.made).outcome ≡ false
    program-ended a = ap (λ s. is_running s.outcome) a.program ∙ a.ended

    -- the program's run at any later bound, or at any bound where it has ended, is the same
    ends-at : (m : ℕ) → m ≤ n → is_running (seq u p memory input m).outcome ≡ false → Beside memory input n → EndAlike (seq u p memory input m) (rrun u r memory input n)
    ends-at m le ended (BothGo a) =
        let same = later-end u p m a.made (program.start p memory input) (omega (arith, le, a.enough)) ended in
        absurd (false≢true (sym ended ∙ ap (λ s. is_running s.outcome) (sym same ∙ a.program)))
    ends-at m le ended (BothEnded a) = elim (cases_lt m a.made) as (λ c. EndAlike (seq u p memory input m) (rrun u r memory input n)) [
      | inl lt ↦ subst (λ s. EndAlike s (rrun u r memory input n)) (later-end u p m a.made (program.start p memory input) (omega (arith, lt)) ended) (alike a)
      | inr ge ↦ subst (λ s. EndAlike s (rrun u r memory input n)) (sym (later-end u p a.made m (program.start p memory input) ge (program-ended a))) (alike a)
    ]

    ends-only : is_running (rrun u r memory input n).outcome ≡ false → Beside memory input n → EndAlike (seq u p memory input (step_count p * n)) (rrun u r memory input n)
    ends-only ended (BothGo a) = absurd (false≢true (sym ended ∙ ap (λ s. is_running s.outcome) a.code))
    ends-only ended (BothEnded a) =
        subst (λ s. EndAlike s (rrun u r memory input n)) (sym (later-end u p a.made (step_count p * n) (program.start p memory input) a.few (program-ended a))) (alike a)

    output-at : (m : ℕ) → m ≤ n → Beside memory input n → IsPrefixOf (seq u p memory input m).output (rrun u r memory input n).output
    output-at m le (BothGo a) =
        subst (λ o. IsPrefixOf (seq u p memory input m).output o) (ap (λ s. s.output) a.program ∙ sym (ap (λ s. s.output) a.code))
        (later_output u p m a.made (program.start p memory input) (omega (arith, le, a.enough)))
    output-at m le (BothEnded a) = elim (cases_lt m a.made) as (λ c. IsPrefixOf (seq u p memory input m).output (rrun u r memory input n).output) [
      | inl lt ↦
          subst (λ o. IsPrefixOf (seq u p memory input m).output o) (ap (λ s. s.output) a.program ∙ sym (ap (λ s. s.output) a.code))
          (later_output u p m a.made (program.start p memory input) (omega (arith, lt)))
      | inr ge ↦ prefix_same (seq u p memory input m).output (rrun u r memory input n).output
          (sym ((alike a).output ∙ sym (ap (λ s. s.output) (later-end u p a.made m (program.start p memory input) ge (program-ended a)))))
    ]

    output-only : Beside memory input n → IsPrefixOf (rrun u r memory input n).output (seq u p memory input (step_count p * n)).output
    output-only (BothGo a) =
        subst (λ o. IsPrefixOf o (seq u p memory input (step_count p * n)).output) (ap (λ s. s.output) a.program ∙ sym (ap (λ s. s.output) a.code))
        (later_output u p a.made (step_count p * n) (program.start p memory input) a.few)
    output-only (BothEnded a) =
        subst (λ o. IsPrefixOf o (seq u p memory input (step_count p * n)).output) (ap (λ s. s.output) a.program ∙ sym (ap (λ s. s.output) a.code))
        (later_output u p a.made (step_count p * n) (program.start p memory input) a.few)

  -- register code of this shape has the meaning of its program
  pub keeps-meaning : KeepsMeaning u p r
  keeps-meaning = record {
    meaning = λ memory input n. meaning memory input n (beside memory input n);
    ends = λ memory input n ended. ends-at memory input (n + 1) n (omega arith) ended (beside memory input (n + 1));
    ends_only = λ memory input n ended. ends-only memory input n ended (beside memory input n);
    output = λ memory input n. output-at memory input (n + 1) n (omega arith) (beside memory input (n + 1));
    output_only = λ memory input n. output-only memory input n (beside memory input n);
  }
