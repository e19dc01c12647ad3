-- The lines of a program can be printed, and say their forms.
use Rattle.std.proofs.Common.{◌≡◌, ◌≤◌, ℕ, zero, suc, ◌+◌, ◌<◌, ◌^◌, ◌==◌, Bool, true, false, List, [], ◌∷◌, ◌++◌, length, get_or, map, refl, arith}
use Rattle.std.specs.Prelude.{Option, Some, None, codes, decimal, not, nat_lt, ◌&&◌, if◌then◌else◌, slice_get}
use Rattle.std.specs.Option.{option_map_or}
use Rattle.std.specs.List.{list_all, AllByRecursion}
use Rattle.std.proofs.lemmas.Fmt.{decimal_is_IsNumeral}
use Rattle.std.proofs.lemmas.Bool.{ltb-true}
use Rattle.std.proofs.lemmas.Option.{slice_get_within}
use Rattle.tta_roundtrip.specs.Cited.{is_name, is_run, lines_of, Units, Src, Var, Word, Rel, Eq, Ne, Lt, Ge, Ltu, Geu, Step, Copy, Apply, Load, Store, Put, Take, If, Goto, When, Invoke, Return, Halt, End, Proc, DataLine, Program, IsProgram, IsProc, is_src, is_call, is_step, is_datum, StandsOver, is_over, LabelForm, is_target}
use Rattle.tta_list.proofs.Tests.{and_left, and_right}
use Rattle.tta_list.proofs.Lists.{all_append}
use Rattle.tta_pretty.specs.Printed.{Words, Label, word, var_name, label_name, proc_name, var_names, words, src_word, src_words, rel_name, operand_words, lines_printed, data_lines, proc_lines, step_lines, label_before, step_line, printed}
use Rattle.tta_pretty.proofs.Pushing.{steps_short}
use Rattle.tta_roundtrip.specs.Readable.{is_named, IsReadable}
use Rattle.tta_roundtrip.proofs.ScannedLines.{IsWord, AreWords, CanBePrinted, words_of, lines_of_printed}
use Rattle.tta_roundtrip.proofs.Forms.{IsShort, Reads, proc_read, data_read, label_read, store_read, put_read, if_read, goto_read, when_read, call_read, return_read, return_none_read, halt_read, end_read, assign_read, copy_read, take_read, load_read, called_read}
use Rattle.tta_roundtrip.proofs.Said.{step_said, label_said, steps_form, procs_form, data_form, program_form, AreRead, read_append}
use Rattle.tta_roundtrip.proofs.Operations.{operation_of, apply_read}
use Rattle.tta_text.proofs.ShownWords.{digits_of_values, digits-run}

-- ---- names

digits_named : (k : ℕ) → k < 2 ^ 32 → is_run (decimal k) ≡ true
digits_named k small = digits-run (decimal k) (digits_of_values (decimal k) (decimal_is_IsNumeral k (omega arith)).0.1)

pub var_named : (k : ℕ) → k < 2 ^ 32 → is_name (var_name k) ≡ true
var_named k small = digits_named k small

pub label_named : (k : ℕ) → k < 2 ^ 32 → is_name (label_name k) ≡ true
label_named k small = digits_named k small

pub proc_named : (main k : ℕ) → k < 2 ^ 32 → is_name (proc_name main k) ≡ true
proc_named main k small = by (k == main) where
  by : (b : Bool) → is_name (if b then codes "main" else codes "p" ++ decimal k) ≡ true
  by true = refl
  by false = digits_named k small

rel_named : (rel : Rel) → is_name (rel_name rel) ≡ true
rel_named Eq = refl
rel_named Ne = refl
rel_named Lt = refl
rel_named Ge = refl
rel_named Ltu = refl
rel_named Geu = refl

-- ---- operands

pub short_src : (vars : ℕ) (s : Src) → is_src vars s ≡ true → IsShort s
short_src vars (Var x) is = tt
short_src vars (Word w) is = ltb-true w (2 ^ 32) is

pub short_srcs : (vars : ℕ) (ss : List Src) → list_all (is_src vars) ss ≡ true → AllByRecursion IsShort ss
short_srcs vars [] are = tt
short_srcs vars (s ∷ ss) are = (short_src vars s (and_left (is_src vars s) (list_all (is_src vars) ss) are), short_srcs vars ss (and_right (is_src vars s) (list_all (is_src vars) ss) are))

word_src : (vars : ℕ) (s : Src) → vars ≤ 4096 → is_src vars s ≡ true → IsWord (src_word s)
word_src vars (Var x) few is = let less = ltb-true x vars is in var_named x (omega arith)
word_src vars (Word w) few is = (w, refl, ltb-true w (2 ^ 32) is)

words_srcs : (vars : ℕ) (ss : List Src) → vars ≤ 4096 → list_all (is_src vars) ss ≡ true → AreWords (src_words ss)
words_srcs vars [] few are = tt
words_srcs vars (s ∷ ss) few are = (word_src vars s few (and_left (is_src vars s) (list_all (is_src vars) ss) are), words_srcs vars ss few (and_right (is_src vars s) (list_all (is_src vars) ss) are))

words_vars : (k count : ℕ) → k + count < 2 ^ 32 → AreWords (words (var_names k count))
words_vars k zero small = tt
words_vars k (suc count) small = (var_named k (omega arith), words_vars (k + 1) count (omega arith))

-- ---- steps

module _ (u : Units) (p : Program) (q : Proc) (few : length p.procs ≤ 65536) (vars : q.vars ≤ 4096) where
  callee_small : (callee : ℕ) (args : List Src) → is_call p callee args ≡ true → callee < 2 ^ 32
  callee_small callee args call = by (slice_get p.procs callee) refl (and_right (not (callee == p.main)) (option_map_or (λ x. length args == x.params) (slice_get p.procs callee) false) call) where
    by : (o : Option Proc) → slice_get p.procs callee ≡ o → option_map_or (λ x. length args == x.params) o false ≡ true → callee < 2 ^ 32
    by None there e = absurd cc
    by (Some x) there e = let w = slice_get_within p.procs callee x there in omega arith

  -- a step says its form
  pub step_reads : (step : Step) → is_step p q step ≡ true → is_over u step ≡ true → Reads (step_line u p.main step) (step_said u p.main step)
  step_reads (Copy d s) ok over = assign_read d (src_word s ∷ []) _ (copy_read d s (short_src q.vars s (and_right (nat_lt d q.vars) (is_src q.vars s) ok)))
  step_reads (Apply d op a b) ok over =
      let first = and_left (nat_lt d q.vars && is_src q.vars a) (is_src q.vars b) ok in
      apply_read u p.main d op a b (operation_of u d op a b over) (short_src q.vars a (and_right (nat_lt d q.vars) (is_src q.vars a) first))
      (short_src q.vars b (and_right (nat_lt d q.vars && is_src q.vars a) (is_src q.vars b) ok))
  step_reads (Load d a) ok over = assign_read d (word (codes "load") ∷ src_word a ∷ []) _ (load_read d a (short_src q.vars a (and_right (nat_lt d q.vars) (is_src q.vars a) ok)))
  step_reads (Store a v) ok over = store_read a v (short_src q.vars a (and_left (is_src q.vars a) (is_src q.vars v) ok)) (short_src q.vars v (and_right (is_src q.vars a) (is_src q.vars v) ok))
  step_reads (Put v) ok over = put_read v (short_src q.vars v ok)
  step_reads (Take d) ok over = assign_read d (word (codes "in") ∷ []) _ (take_read d)
  step_reads (If rel a b to) ok over =
      let both = and_left (is_src q.vars a && is_src q.vars b) (nat_lt to (length q.steps)) ok in
      if_read rel a b to (short_src q.vars a (and_left (is_src q.vars a) (is_src q.vars b) both)) (short_src q.vars b (and_right (is_src q.vars a) (is_src q.vars b) both))
  step_reads (Goto to) ok over = goto_read to
  step_reads (When rel a b d s) ok over =
      let three = and_left (is_src q.vars a && is_src q.vars b && nat_lt d q.vars) (is_src q.vars s) ok in
      let both = and_left (is_src q.vars a && is_src q.vars b) (nat_lt d q.vars) three in
      when_read rel a b d s (short_src q.vars a (and_left (is_src q.vars a) (is_src q.vars b) both)) (short_src q.vars b (and_right (is_src q.vars a) (is_src q.vars b) both))
      (short_src q.vars s (and_right (is_src q.vars a && is_src q.vars b && nat_lt d q.vars) (is_src q.vars s) ok))
  step_reads (Invoke (Some d) callee args) ok over =
      let first = and_left (nat_lt d q.vars && list_all (is_src q.vars) args) (is_call p callee args) ok in
      let call = and_right (nat_lt d q.vars && list_all (is_src q.vars) args) (is_call p callee args) ok in
      assign_read d (word (codes "call") ∷ word (proc_name p.main callee) ∷ src_words args) _
      (called_read d p.main callee args (callee_small callee args call) (short_srcs q.vars args (and_right (nat_lt d q.vars) (list_all (is_src q.vars) args) first)))
  step_reads (Invoke None callee args) ok over =
      let first = and_left (true && list_all (is_src q.vars) args) (is_call p callee args) ok in
      let call = and_right (true && list_all (is_src q.vars) args) (is_call p callee args) ok in
      call_read p.main callee args (callee_small callee args call) (short_srcs q.vars args (and_right true (list_all (is_src q.vars) args) first))
  step_reads (Return (Some s)) ok over = return_read s (short_src q.vars s ok)
  step_reads (Return None) ok over = return_none_read
  step_reads Halt ok over = halt_read
  step_reads End ok over = end_read

  -- its line is made of words
  d_word : (d : ℕ) → nat_lt d q.vars ≡ true → is_name (var_name d) ≡ true
  d_word d is = let less = ltb-true d q.vars is in var_named d (omega arith)

  operands_words : (arity : ℕ) (a b : Src) → is_src q.vars a ≡ true → is_src q.vars b ≡ true → AreWords (operand_words arity a b)
  operands_words arity a b sa sb = by (arity == 2) where
    by : (two : Bool) → AreWords (if two then src_word a ∷ src_word b ∷ [] else src_word b ∷ [])
    by true = (word_src q.vars a vars sa, (word_src q.vars b vars sb, tt))
    by false = (word_src q.vars b vars sb, tt)

  pub step_words : (step : Step) → is_step p q step ≡ true → is_named u step ≡ true → length q.steps < 2 ^ 32 → AreWords (step_line u p.main step)
  step_words (Copy d s) ok named short = (d_word d (and_left (nat_lt d q.vars) (is_src q.vars s) ok), (refl, (word_src q.vars s vars (and_right (nat_lt d q.vars) (is_src q.vars s) ok), tt)))
  step_words (Apply d op a b) ok named short =
      let first = and_left (nat_lt d q.vars && is_src q.vars a) (is_src q.vars b) ok in (
        d_word d (and_left (nat_lt d q.vars) (is_src q.vars a) first),
        (
          refl,
          (
            named,
            operands_words (get_or u.arities op.0 0) a b (and_right (nat_lt d q.vars) (is_src q.vars a) first) (and_right (nat_lt d q.vars && is_src q.vars a) (is_src q.vars b) ok),
          ),
        ),
      )
  step_words (Load d a) ok named short = (d_word d (and_left (nat_lt d q.vars) (is_src q.vars a) ok), (refl, (refl, (word_src q.vars a vars (and_right (nat_lt d q.vars) (is_src q.vars a) ok), tt))))
  step_words (Store a v) ok named short = (refl, (word_src q.vars a vars (and_left (is_src q.vars a) (is_src q.vars v) ok), (word_src q.vars v vars (and_right (is_src q.vars a) (is_src q.vars v) ok), tt)))
  step_words (Put v) ok named short = (refl, (word_src q.vars v vars ok, tt))
  step_words (Take d) ok named short = (d_word d ok, (refl, (refl, tt)))
  step_words (If rel a b to) ok named short =
      let both = and_left (is_src q.vars a && is_src q.vars b) (nat_lt to (length q.steps)) ok in
      let below = ltb-true to (length q.steps) (and_right (is_src q.vars a && is_src q.vars b) (nat_lt to (length q.steps)) ok) in
      (refl, (rel_named rel, (word_src q.vars a vars (and_left (is_src q.vars a) (is_src q.vars b) both), (word_src q.vars b vars (and_right (is_src q.vars a) (is_src q.vars b) both), (refl, (label_named to (omega arith), tt))))))
  step_words (Goto to) ok named short = let below = ltb-true to (length q.steps) ok in (refl, (label_named to (omega arith), tt))
  step_words (When rel a b d s) ok named short =
      let three = and_left (is_src q.vars a && is_src q.vars b && nat_lt d q.vars) (is_src q.vars s) ok in
      let both = and_left (is_src q.vars a && is_src q.vars b) (nat_lt d q.vars) three in (
        refl,
        (
          rel_named rel,
          (
            word_src q.vars a vars (and_left (is_src q.vars a) (is_src q.vars b) both),
            (
              word_src q.vars b vars (and_right (is_src q.vars a) (is_src q.vars b) both),
              (d_word d (and_right (is_src q.vars a && is_src q.vars b) (nat_lt d q.vars) three), (refl, (word_src q.vars s vars (and_right (is_src q.vars a && is_src q.vars b && nat_lt d q.vars) (is_src q.vars s) ok), tt))),
            ),
          ),
        ),
      )
  step_words (Invoke (Some d) callee args) ok named short =
      let first = and_left (nat_lt d q.vars && list_all (is_src q.vars) args) (is_call p callee args) ok in
      let call = and_right (nat_lt d q.vars && list_all (is_src q.vars) args) (is_call p callee args) ok in
      (d_word d (and_left (nat_lt d q.vars) (list_all (is_src q.vars) args) first), (refl, (refl, (proc_named p.main callee (callee_small callee args call), words_srcs q.vars args vars (and_right (nat_lt d q.vars) (list_all (is_src q.vars) args) first)))))
  step_words (Invoke None callee args) ok named short =
      let first = and_left (true && list_all (is_src q.vars) args) (is_call p callee args) ok in
      let call = and_right (true && list_all (is_src q.vars) args) (is_call p callee args) ok in
      (refl, (proc_named p.main callee (callee_small callee args call), words_srcs q.vars args vars (and_right true (list_all (is_src q.vars) args) first)))
  step_words (Return (Some s)) ok named short = (refl, (word_src q.vars s vars ok, tt))
  step_words (Return None) ok named short = (refl, tt)
  step_words Halt ok named short = (refl, tt)
  step_words End ok named short = (refl, tt)

  -- all steps, each with its label
  pub steps_read : (all : List Step) (k : ℕ) (steps : List Step) → list_all (is_step p q) steps ≡ true → list_all (is_over u) steps ≡ true
      → AreRead (step_lines u p.main all k steps) (steps_form u p.main all k steps)
  steps_read all k [] ok over = tt
  steps_read all k (step ∷ steps) ok over =
      read_append (label_before all k) (Words (step_line u p.main step) ∷ step_lines u p.main all (k + 1) steps) (label_said all k) (step_said u p.main step ∷ steps_form u p.main all (k + 1) steps)
      (label (is_target all k)) (
        step_reads step (and_left (is_step p q step) (list_all (is_step p q) steps) ok) (and_left (is_over u step) (list_all (is_over u) steps) over),
        steps_read all (k + 1) steps (and_right (is_step p q step) (list_all (is_step p q) steps) ok) (and_right (is_over u step) (list_all (is_over u) steps) over),
      )
    where
      label : (b : Bool) → AreRead (if b then Label (label_name k) ∷ [] else []) (if b then LabelForm (label_name k) ∷ [] else [])
      label true = (label_read k, tt)
      label false = tt

  pub steps_printed : (all : List Step) (k : ℕ) (steps : List Step) → list_all (is_step p q) steps ≡ true → list_all (is_named u) steps ≡ true → length q.steps < 2 ^ 32 → k + length steps < 2 ^ 32
      → AllByRecursion CanBePrinted (step_lines u p.main all k steps)
  steps_printed all k [] ok named short small = tt
  steps_printed all k (step ∷ steps) ok named short small =
      all_append CanBePrinted (label_before all k) (Words (step_line u p.main step) ∷ step_lines u p.main all (k + 1) steps)
      (label (is_target all k)) (
        step_words step (and_left (is_step p q step) (list_all (is_step p q) steps) ok) (and_left (is_named u step) (list_all (is_named u) steps) named) short,
        steps_printed all (k + 1) steps (and_right (is_step p q step) (list_all (is_step p q) steps) ok) (and_right (is_named u step) (list_all (is_named u) steps) named) short (omega arith),
      )
    where
      label : (b : Bool) → AllByRecursion CanBePrinted (if b then Label (label_name k) ∷ [] else [])
      label true = (label_named k (omega arith), tt)
      label false = tt

-- ---- programs

data_read_all : (init : List DataLine) → list_all is_datum init ≡ true → AreRead (data_lines init) (data_form init)
data_read_all [] ok = tt
data_read_all (d ∷ ds) ok =
    let here = and_left (is_datum d) (list_all is_datum ds) ok in (
      data_read d.address d.value (ltb-true d.address (2 ^ 32) (and_left (nat_lt d.address (2 ^ 32)) (nat_lt d.value (2 ^ 32)) here)) (ltb-true d.value (2 ^ 32) (and_right (nat_lt d.address (2 ^ 32)) (nat_lt d.value (2 ^ 32)) here)),
      data_read_all ds (and_right (is_datum d) (list_all is_datum ds) ok),
    )

data_printed : (init : List DataLine) → list_all is_datum init ≡ true → AllByRecursion CanBePrinted (data_lines init)
data_printed [] ok = tt
data_printed (d ∷ ds) ok =
    let here = and_left (is_datum d) (list_all is_datum ds) ok in (
      (
        refl,
        (
          (d.address, refl, ltb-true d.address (2 ^ 32) (and_left (nat_lt d.address (2 ^ 32)) (nat_lt d.value (2 ^ 32)) here)),
          ((d.value, refl, ltb-true d.value (2 ^ 32) (and_right (nat_lt d.address (2 ^ 32)) (nat_lt d.value (2 ^ 32)) here)), tt),
        ),
      ),
      data_printed ds (and_right (is_datum d) (list_all is_datum ds) ok),
    )

module _ (u : Units) (p : Program) (few : length p.procs ≤ 65536) where
  procs_read : (k : ℕ) (qs : List Proc) → k + length qs ≤ 65536 → AllByRecursion (IsProc p) qs → list_all (λ q. list_all (is_over u) q.steps) qs ≡ true
      → AreRead (proc_lines u p.main k qs) (procs_form u p.main k qs)
  procs_read k [] small rules over = tt
  procs_read k (q ∷ qs) small rules over = (
    proc_read p.main k q.params (omega arith),
    read_append (step_lines u p.main q.steps 0 q.steps) (proc_lines u p.main (k + 1) qs) (steps_form u p.main q.steps 0 q.steps) (procs_form u p.main (k + 1) qs)
        (steps_read u p q few rules.0.vars q.steps 0 q.steps rules.0.steps (and_left (list_all (is_over u) q.steps) (list_all (λ q. list_all (is_over u) q.steps) qs) over))
        (procs_read (k + 1) qs (omega arith) rules.1 (and_right (list_all (is_over u) q.steps) (list_all (λ q. list_all (is_over u) q.steps) qs) over)),
  )

  procs_printed : (k : ℕ) (qs : List Proc) → k + length qs ≤ 65536 → AllByRecursion (IsProc p) qs → AllByRecursion (λ q. length q.steps ≤ 65536) qs → list_all (λ q. list_all (is_named u) q.steps) qs ≡ true
      → AllByRecursion CanBePrinted (proc_lines u p.main k qs)
  procs_printed k [] small rules short named = tt
  procs_printed k (q ∷ qs) small rules short named =
      let params = rules.0.params in
      let steps = short.0 in (
        (refl, (proc_named p.main k (omega arith), words_vars 0 q.params (omega arith))),
        all_append CanBePrinted (step_lines u p.main q.steps 0 q.steps) (proc_lines u p.main (k + 1) qs)
            (steps_printed u p q few rules.0.vars q.steps 0 q.steps rules.0.steps (and_left (list_all (is_named u) q.steps) (list_all (λ q. list_all (is_named u) q.steps) qs) named) (omega arith) (omega arith))
            (procs_printed (k + 1) qs (omega arith) rules.1 short.1 (and_right (list_all (is_named u) q.steps) (list_all (λ q. list_all (is_named u) q.steps) qs) named)),
      )

-- the lines of a program say its forms, and can be printed
pub program_read : (u : Units) (p : Program) → IsProgram p → StandsOver u p → AreRead (lines_printed u p) (program_form u p)
program_read u p rules over =
    read_append (data_lines p.init) (proc_lines u p.main 0 p.procs) (data_form p.init) (procs_form u p.main 0 p.procs) (data_read_all p.init rules.init)
    (procs_read u p (omega (arith, rules.lines)) 0 p.procs (omega (arith, rules.lines)) rules.procs over.steps)

pub program_printed : (u : Units) (p : Program) → IsProgram p → IsReadable u p → AllByRecursion CanBePrinted (lines_printed u p)
program_printed u p rules readable =
    all_append CanBePrinted (data_lines p.init) (proc_lines u p.main 0 p.procs) (data_printed p.init rules.init)
    (procs_printed u p (omega (arith, rules.lines)) 0 p.procs (omega (arith, rules.lines)) rules.procs (steps_short p.procs 65536 (omega (arith, rules.lines))) readable.named)

-- the lines of the printed text
pub printed_lines : (u : Units) (p : Program) → IsProgram p → IsReadable u p → lines_of (printed u p) ≡ map words_of (lines_printed u p)
unfolding printed
printed_lines u p rules readable = lines_of_printed (lines_printed u p) (program_printed u p rules readable)
