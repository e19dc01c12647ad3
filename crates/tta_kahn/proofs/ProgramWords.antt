-- What a program keeps and outputs are words, where it is given words.
use Rattle.std.proofs.Common.{◌≡◌, ℕ, zero, suc, ◌+◌, ◌-◌, ◌<◌, ◌^◌, ◌&&◌, Bool, true, false, List, [], ◌∷◌, ◌++◌, length, map, drop, replicate, Option, Some, None, refl, arith}
use Rattle.std.specs.Prelude.{if◌then◌else◌, slice_get, slice_index, nat_lt}
use Rattle.std.specs.Option.{option_map_or}
use Rattle.std.specs.List.{list_all, AllByRecursion}
use Rattle.std.proofs.lemmas.Bool.{ltb-true, and_parts}
use Rattle.tta_list.proofs.Lists.{all_append, all_one, list_all_one}
use Rattle.tta_kahn.specs.Cited.{Units, Src, Var, Word, Step, Copy, Apply, Load, Store, Put, If, Goto, When, Invoke, Return, Halt, End, Proc, DataLine, over, Program, data_of, datum_of, IsProgram, IsProc, is_src, is_step, is_call, is_datum, Frame, step_at, holds, operand, enter, go_on, goes_through, take_value, assigns, goes_to, AreWords}
use Rattle.tta_program.specs.declared.step.Step.TheVariants.{Take}
use Rattle.tta_program.specs.Sequential.{State, Outcome, Running, Halted, Waiting, next, next_of, carry_out, waits, returns}
use Rattle.tta_refines.proofs.Words.{set_words, none_words, laid_words}

-- ---- lists of words

no_word : 0 < 2 ^ 32
no_word = omega arith

pub index_word : (ws : List ℕ) (k : ℕ) → AreWords ws → slice_index ws k < 2 ^ 32
index_word [] k all = no_word
index_word (w ∷ ws) zero all = all.0
index_word (w ∷ ws) (suc k) all = index_word ws k all.1

pub drop_words : (n : ℕ) (ws : List ℕ) → AreWords ws → AreWords (drop n ws)
drop_words zero ws all = all
drop_words (suc n) [] all = tt
drop_words (suc n) (w ∷ ws) all = drop_words n ws all.1

pub prefix_words : (xs ys : List ℕ) → AreWords (xs ++ ys) → AreWords xs
prefix_words [] ys all = tt
prefix_words (x ∷ xs) ys all = (all.0, prefix_words xs ys all.1)

data_words : (init : List DataLine) → list_all is_datum init ≡ true → AllByRecursion (λ (d : ℕ × ℕ). d.1 < 2 ^ 32) (map datum_of init)
data_words [] all = tt
data_words (d ∷ init) all =
    let both = and_parts (is_datum d) (list_all is_datum init) all in
    (ltb-true d.value (2 ^ 32) (and_parts (nat_lt d.address (2 ^ 32)) (nat_lt d.value (2 ^ 32)) both.0).1, data_words init both.1)

pub over_words : (p : Program) (memory : List ℕ) → IsProgram p → AreWords memory → AreWords (over (data_of p) memory)
over_words p memory rules words = laid_words (data_of p) memory (data_words p.init rules.init) words

-- ---- states

-- All that a state keeps are words.
pub record KeepsWords (s : State) : Type 0 where
  pub vars : AllByRecursion (λ f. AreWords f.vars) s.stack
  pub memory : AreWords s.memory
  pub rest : AreWords s.rest
  pub output : AreWords s.output

-- the step that comes next is one of a procedure
step_rules : (p : Program) → IsProgram p → (proc at : ℕ) (step : Step) → step_at p proc at ≡ Some step → (q : Proc) × (is_step p q step ≡ true)
step_rules p rules proc at step is = by (slice_get p.procs proc) refl is where
  by : (o : Option Proc) → slice_get p.procs proc ≡ o → option_map_or (λ q. slice_get q.steps at) o None ≡ Some step → (q : Proc) × (is_step p q step ≡ true)
  by None there is = absurd cc
  by (Some q) there is =
      let rule = all_one (IsProc p) p.procs proc q rules.procs there in
      (q, list_all_one (is_step p q) q.steps at step rule.steps is)

module _ (u : Units) (p : Program) (rules : IsProgram p) where
  operand_word : (vars : List ℕ) (count : ℕ) (s : Src) → AreWords vars → is_src count s ≡ true → operand vars s < 2 ^ 32
  operand_word vars count (Var x) all is = index_word vars x all
  operand_word vars count (Word w) all is = ltb-true w (2 ^ 32) is

  operand_words : (vars : List ℕ) (count : ℕ) (ss : List Src) → AreWords vars → list_all (is_src count) ss ≡ true → AreWords (map (operand vars) ss)
  operand_words vars count [] all are = tt
  operand_words vars count (s ∷ ss) all are =
      let both = and_parts (is_src count s) (list_all (is_src count) ss) are in
      (operand_word vars count s all both.0, operand_words vars count ss all both.1)

  value_words : (s : State) (g : Frame) (callers : List Frame) (v : ℕ) (step : Option Step) → KeepsWords (record s { stack = g ∷ callers }) → v < 2 ^ 32
      → KeepsWords (take_value s g callers v step)
  value_words s g callers v (Some (Invoke (Some d) callee args)) keeps word =
      record { vars = (set_words g.vars d v keeps.vars.0 word, keeps.vars.1); memory = keeps.memory; rest = keeps.rest; output = keeps.output }
  value_words s g callers v (Some (Invoke None callee args)) keeps word = record { vars = keeps.vars; memory = keeps.memory; rest = keeps.rest; output = keeps.output }
  value_words s g callers v step keeps word = record { vars = keeps.vars; memory = keeps.memory; rest = keeps.rest; output = keeps.output }

  returns_words : (s : State) (callers : List Frame) (v : ℕ) → KeepsWords (record s { stack = callers }) → v < 2 ^ 32 → KeepsWords (returns p s callers v)
  returns_words s [] v keeps word = record { vars = tt; memory = keeps.memory; rest = keeps.rest; output = keeps.output }
  returns_words s (g ∷ callers) v keeps word = value_words s g callers v (step_at p g.proc g.at) keeps word

  module _ (s : State) (f : Frame) (callers : List Frame) (keeps : KeepsWords s) (stack : AllByRecursion (λ g. AreWords g.vars) (f ∷ callers)) (q : Proc) where
    assigned : (d v : ℕ) → v < 2 ^ 32 → KeepsWords (assigns s f callers d v)
    assigned d v word = record { vars = (set_words f.vars d v stack.0 word, stack.1); memory = keeps.memory; rest = keeps.rest; output = keeps.output }

    gone : (to : ℕ) → KeepsWords (goes_to s f callers to)
    gone to = record { vars = stack; memory = keeps.memory; rest = keeps.rest; output = keeps.output }

    returned : (v : ℕ) → v < 2 ^ 32 → KeepsWords (returns p s callers v)
    returned v word = returns_words s callers v (record { vars = stack.1; memory = keeps.memory; rest = keeps.rest; output = keeps.output }) word

    when_words : (d v to : ℕ) (b : Bool) → v < 2 ^ 32 → KeepsWords (if b then assigns s f callers d v else goes_to s f callers to)
    when_words d v to true word = assigned d v word
    when_words d v to false word = gone to

    carry_words : (step : Step) → is_step p q step ≡ true → KeepsWords (carry_out u p s f callers step)
    carry_words (Copy d v) is = assigned d (operand f.vars v) (operand_word f.vars q.vars v stack.0 (and_parts (nat_lt d q.vars) (is_src q.vars v) is).1)
    carry_words (Apply d op a b) is = assigned d (u.value op.0 (operand f.vars a) (operand f.vars b)) (u.word op.0 (operand f.vars a) (operand f.vars b))
    carry_words (Load d a) is = assigned d (slice_index s.memory (operand f.vars a)) (index_word s.memory (operand f.vars a) keeps.memory)
    carry_words (Take d) is =
        record {
          vars = (set_words f.vars d (slice_index s.rest 0) stack.0 (index_word s.rest 0 keeps.rest), stack.1);
          memory = keeps.memory;
          rest = drop_words 1 s.rest keeps.rest;
          output = keeps.output;
        }
    carry_words (Store a v) is =
        record {
          vars = stack;
          memory = set_words s.memory (operand f.vars a) (operand f.vars v) keeps.memory (operand_word f.vars q.vars v stack.0 (and_parts (is_src q.vars a) (is_src q.vars v) is).1);
          rest = keeps.rest;
          output = keeps.output;
        }
    carry_words (Put v) is =
        record {
          vars = stack;
          memory = keeps.memory;
          rest = keeps.rest;
          output = all_append (λ (w : ℕ). w < 2 ^ 32) s.output (operand f.vars v ∷ []) keeps.output (operand_word f.vars q.vars v stack.0 is, tt);
        }
    carry_words (If rel a b to) is = gone (if holds u rel (operand f.vars a) (operand f.vars b) then to else f.at + 1)
    carry_words (Goto to) is = gone to
    carry_words (When rel a b d v) is =
        when_words d (operand f.vars v) (f.at + 1) (holds u rel (operand f.vars a) (operand f.vars b))
        (operand_word f.vars q.vars v stack.0 (and_parts (is_src q.vars a && is_src q.vars b && nat_lt d q.vars) (is_src q.vars v) is).1)
    carry_words (Invoke d callee args) is =
        let are = (and_parts (option_map_or (λ x. nat_lt x q.vars) d true) (list_all (is_src q.vars) args)
        (and_parts (option_map_or (λ x. nat_lt x q.vars) d true && list_all (is_src q.vars) args) (is_call p callee args) is).0).1 in
        let words = map (operand f.vars) args in
        record {
          vars = (all_append (λ (w : ℕ). w < 2 ^ 32) words (replicate (option_map_or (λ r. r.vars) (slice_get p.procs callee) 0 - length words) 0) (operand_words f.vars q.vars args stack.0 are) (none_words _), stack);
          memory = keeps.memory;
          rest = keeps.rest;
          output = keeps.output;
        }
    carry_words (Return (Some v)) is = returned (operand f.vars v) (operand_word f.vars q.vars v stack.0 is)
    carry_words (Return None) is = returned 0 no_word
    carry_words Halt is = record { vars = keeps.vars; memory = keeps.memory; rest = keeps.rest; output = keeps.output }
    carry_words End is = returned 0 no_word

  through_words : (s : State) (f : Frame) (callers : List Frame) (step : Step) → KeepsWords s → AllByRecursion (λ g. AreWords g.vars) (f ∷ callers)
      → (q : Proc) × (is_step p q step ≡ true) → KeepsWords (goes_through u p s f callers step)
  through_words s f callers step keeps stack rule = by (waits s step) where
    by : (b : Bool) → KeepsWords (if b then record s { outcome = Waiting } else carry_out u p (record s { steps = s.steps + 1 }) f callers step)
    by true = record { vars = keeps.vars; memory = keeps.memory; rest = keeps.rest; output = keeps.output }
    by false = carry_words (record s { steps = s.steps + 1 }) f callers (record { vars = keeps.vars; memory = keeps.memory; rest = keeps.rest; output = keeps.output }) stack rule.0 step rule.1

  go_words : (s : State) (stack : List Frame) → KeepsWords s → AllByRecursion (λ g. AreWords g.vars) stack → KeepsWords (go_on u p s stack)
  go_words s [] keeps all = keeps
  go_words s (f ∷ callers) keeps all = by (step_at p f.proc f.at) refl where
    by : (o : Option Step) → step_at p f.proc f.at ≡ o → KeepsWords (option_map_or (goes_through u p s f callers) o s)
    by None at = keeps
    by (Some step) at = through_words s f callers step keeps all (step_rules p rules f.proc f.at step at)

  pub next_words : (s : State) → KeepsWords s → KeepsWords (next u p s)
  unfolding next
  next_words s keeps = by s.outcome where
    by : (o : Outcome) → KeepsWords (next_of u p s o)
    by Running = go_words s s.stack keeps keeps.vars
    by Halted = keeps
    by Waiting = keeps

  pub start_words : (memory : List ℕ) → AreWords memory → KeepsWords (record { stack = enter p p.main [] ∷ []; memory = memory; rest = []; output = []; steps = 0; outcome = Running })
  start_words memory words = record { vars = (none_words _, tt); memory = words; rest = tt; output = tt }
