-- The program of a sample has a shape that halts.
use Rattle.std.proofs.Common.{◌≡◌, ℕ, zero, suc, ◌+◌, ◌*◌, ◌<◌, ◌≤◌, ◌%◌, ◌==◌, Bool, true, false, List, [], ◌∷◌, ◌++◌, length, map, refl, sym, ap, ◌∙◌, subst, arith}
use Rattle.std.specs.Prelude.{Option, Some, None, Ok, not, if◌then◌else◌, is_none, codes, nat_eq}
use Rattle.std.specs.Option.{option_map_or}
use Rattle.std.specs.List.{flat_map, list_all, AllByRecursion}
use Rattle.std.proofs.lemmas.Bool.{not-true}
use Rattle.std.proofs.lemmas.List.Folds.{list_all-append}
use Rattle.tta_list.proofs.Tests.{and_left, and_right, offered}
use Rattle.tta_list.proofs.Lists.{all_append}
use Rattle.tta_sample_laws.specs.Cited.{lines_of, Declared, named_in, Units, named, truth, Var, Word, Ne, Step, Proc, Program, Halted, seq, holds, UnknownLabel, Form, ProcForm, Unlinked, Plain, IfTo, Draft, vars_after, op_id, is_end, numbered, link_steps, link_proc, link_procs, Said, Block, said_from, proc_in, up_to_end, blocks, vars_said, labels_said, steps_said, step_lines, proc_said, draft_said, is_fit, IsBlock, KeepsRules, IsProgramText, sample_text}
use Rattle.tta_parse.specs.Steps.{◌>>=◌}
use Rattle.tta_parse.proofs.Steps.{same_ok, then-ok, some-ok}
use Rattle.tta_ops.specs.Arithmetic.{arith as arithmetic}
use Rattle.tta_program.specs.declared.step.Step.TheVariants as step
use Rattle.tta_tac.proofs.Described.{program_said}
use Rattle.tta_roundtrip.proofs.Said.{numbered_from, numbered_append}
use Rattle.tta_sample_laws.specs.Statement.{SamplesHalt, bound_of}
use Rattle.tta_sample_laws.proofs.Drawn.{Drawn, Two, One, Shown, Fixed, Loaded, Stored, Chosen, Skipped, IsDrawn, IsSample, sample_is}
use Rattle.tta_sample_laws.proofs.SampleForms.{forms_of, before_forms, after_forms, procedure_forms, sample_forms, sample_said}
use Rattle.tta_sample_laws.proofs.Shape.{before, after, counting, AreMild}
use Rattle.tta_sample_laws.proofs.Going.{shaped_halts}
use Rattle.tta_sample_laws.proofs.Linking.{sample_vars, line_stays, Links, peel, Plainly, plainly, few_steps, body_made}
use Rattle.tta_sample_laws.proofs.Places.{round_begins, all_placed}

-- ---- one procedure

-- a line inside a procedure that does not end it
abbrev IsInside : Form → Type 0
IsInside f = (is_end f ≡ false) × (proc_in f ≡ None)

line_inside : (l : Drawn) → AllByRecursion IsInside (forms_of l)
line_inside (Two op v a b) = ((refl, refl), tt)
line_inside (One op v a c) = ((refl, refl), tt)
line_inside (Shown a) = ((refl, refl), tt)
line_inside (Fixed v c) = ((refl, refl), tt)
line_inside (Loaded v c) = ((refl, refl), tt)
line_inside (Stored c a) = ((refl, refl), tt)
line_inside (Chosen a b v s) = ((refl, refl), tt)
line_inside (Skipped label a b v) = ((refl, refl), ((refl, refl), ((refl, refl), tt)))

body_inside : (ls : List Drawn) → AllByRecursion IsInside (flat_map forms_of ls)
body_inside [] = tt
body_inside (l ∷ ls) = all_append IsInside (forms_of l) (flat_map forms_of ls) (line_inside l) (body_inside ls)

-- lines that end with a procedure's end, and with which no other begins
record IsWhole (fs : List Form) : Type 0 where
  ends : (line : ℕ) → up_to_end (numbered_from line fs) ≡ numbered_from line fs
  alone : (line : ℕ) → blocks (numbered_from line fs) ≡ []

inside_first : (fs gs : List Form) → AllByRecursion IsInside fs → IsWhole gs → IsWhole (fs ++ gs)
inside_first [] gs are whole = whole
inside_first (f ∷ fs) gs are whole =
    let rest = inside_first fs gs are.1 whole in
    record {
      ends = λ line. ap (λ b. if b then (line, f) ∷ [] else (line, f) ∷ up_to_end (numbered_from (line + 1) (fs ++ gs))) are.0.0 ∙ ap (λ xs. (line, f) ∷ xs) (rest.ends (line + 1));
      alone = λ line.
          ap (λ o. option_map_or (λ begun. record { line = line; name = begun.0; params = begun.1; body = up_to_end (numbered_from (line + 1) (fs ++ gs)) } ∷ blocks (numbered_from (line + 1) (fs ++ gs))) o (blocks (numbered_from (line + 1) (fs ++ gs)))) are.0.1
          ∙ rest.alone (line + 1);
    }

after_whole : IsWhole after_forms
after_whole = record { ends = λ line. refl; alone = λ line. refl }

before_whole : (gs : List Form) → IsWhole gs → IsWhole (before_forms ++ gs)
before_whole gs whole =
    inside_first before_forms gs
    ((refl, refl), ((refl, refl), ((refl, refl), ((refl, refl), ((refl, refl), ((refl, refl), ((refl, refl), ((refl, refl), ((refl, refl), ((refl, refl), tt)))))))))) whole

-- the procedure of a sample
abbrev main_block : List Drawn → Block
main_block ls = record { line = 1; name = codes "main"; params = []; body = numbered_from 2 (procedure_forms ls) }

one_block : (ls : List Drawn) → blocks (numbered_from 1 (sample_forms ls)) ≡ main_block ls ∷ []
one_block ls =
    let whole = before_whole (flat_map forms_of ls ++ after_forms) (inside_first (flat_map forms_of ls) after_forms (body_inside ls) after_whole) in
    ap (λ xs. record { line = 1; name = codes "main"; params = []; body = xs } ∷ blocks (numbered_from 2 (procedure_forms ls))) (whole.ends 2)
    ∙ ap (λ bs. main_block ls ∷ bs) (whole.alone 2)

-- ---- its variables

stay : (fs : List Form) (line : ℕ) (more : List Said) → AllByRecursion (λ f. vars_after sample_vars f ≡ sample_vars) fs
    → vars_said sample_vars (numbered_from line fs ++ more) ≡ vars_said sample_vars more
stay [] line more are = refl
stay (f ∷ fs) line more are = ap (λ vars. vars_said vars (numbered_from (line + 1) fs ++ more)) are.0 ∙ stay fs (line + 1) more are.1

body_stays : (ls : List Drawn) → AllByRecursion IsDrawn ls → AllByRecursion (λ f. vars_after sample_vars f ≡ sample_vars) (flat_map forms_of ls)
body_stays [] are = tt
body_stays (l ∷ ls) are = all_append (λ f. vars_after sample_vars f ≡ sample_vars) (forms_of l) (flat_map forms_of ls) (line_stays l are.0) (body_stays ls are.1)

nine_vars : (ls : List Drawn) → AllByRecursion IsDrawn ls → vars_said [] (numbered_from 2 (procedure_forms ls)) ≡ sample_vars
nine_vars ls are =
    ap (vars_said sample_vars) (numbered_append 12 (flat_map forms_of ls) after_forms)
    ∙ stay (flat_map forms_of ls) 12 (numbered_from (12 + length (flat_map forms_of ls)) after_forms) (body_stays ls are)

-- ---- its operations

-- a line of the body's end fits the units
last_fits : (u : Units) (ls : List Drawn) → list_all (is_fit u) (numbered_from 1 (sample_forms ls)) ≡ true
    → list_all (is_fit u) (numbered_from (12 + length (flat_map forms_of ls)) after_forms) ≡ true
last_fits u ls fits =
    let first : List Said = numbered_from 1 (ProcForm (codes "main") [] ∷ before_forms) in
    let later = and_right (list_all (is_fit u) first) (list_all (is_fit u) (numbered_from 12 (flat_map forms_of ls ++ after_forms)))
    (sym (list_all-append (is_fit u) first (numbered_from 12 (flat_map forms_of ls ++ after_forms))) ∙ fits) in
    let split = ap (list_all (is_fit u)) (numbered_append 12 (flat_map forms_of ls) after_forms) in
    and_right (list_all (is_fit u) (numbered_from 12 (flat_map forms_of ls))) (list_all (is_fit u) (numbered_from (12 + length (flat_map forms_of ls)) after_forms))
    (sym (list_all-append (is_fit u) (numbered_from 12 (flat_map forms_of ls)) (numbered_from (12 + length (flat_map forms_of ls)) after_forms)) ∙ sym split ∙ later)

-- the operations that count
record Offers (u : Units) : Type 0 where
  sub : ℕ
  sub_is : named u (codes "sub") ≡ Some sub
  eq : ℕ
  eq_is : named u (codes "eq") ≡ Some eq

offers : (u : Units) (ls : List Drawn) → list_all (is_fit u) (numbered_from 1 (sample_forms ls)) ≡ true → Offers u
offers u ls fits =
    let last = last_fits u ls fits in
    let first = and_left _ _ last in
    let second = and_left _ _ (and_right _ _ last) in
    let sub = offered (named u (codes "sub")) (not-true (is_none (named u (codes "sub"))) (and_left _ _ (and_left _ (not false) first))) in
    let eq = offered (named u (codes "eq")) (not-true (is_none (named u (codes "eq"))) (and_left _ _ (and_left _ (not false) second))) in
    record { sub = sub.0; sub_is = sub.1; eq = eq.0; eq_is = eq.1 }

one_less : (n : ℕ) → n < 16 → (arithmetic 1).value (n + 1) 1 ≡ n
one_less n small = omega arith

is_more : (n : ℕ) → not (truth (nat_eq n 0) % 2 == 1) ≡ not (n == 0)
is_more n = by (n == 0) where
  by : (b : Bool) → not (truth b % 2 == 1) ≡ not b
  by true = refl
  by false = refl

-- ---- its steps

-- so many numbers of lines, from one on
abbrev numbers : (count line : ℕ) → List ℕ
numbers zero line = []
numbers (suc n) line = line ∷ numbers n (line + 1)

module _ (u : Units) (d : Draft) (labels : Declared ℕ) where
  -- the steps before the body
  first_steps : (fs : List Form) (out : List Step)
      → link_steps d labels (steps_said u [] (numbered_from 2 (before_forms ++ fs))) (step_lines (numbered_from 2 (before_forms ++ fs))) ≡ Ok out
      → Plainly u d labels before (steps_said u sample_vars (numbered_from 12 fs)) (step_lines (numbered_from 12 fs)) out
  first_steps fs out e = plainly u d labels before (steps_said u sample_vars (numbered_from 12 fs)) (numbers 9 2) (step_lines (numbered_from 12 fs)) out refl e

  -- and those after it
  last_steps : (line : ℕ) (out : List Step) → named_in labels (codes "T") ≡ Some 9 → Links u d labels line after_forms out → out ≡ counting (op_id u (codes "sub"))
  last_steps line out there e =
      let sub : Step = step.Apply 8 (op_id u (codes "sub")) (Var 8) (Word 1) in
      let again : Unlinked = IfTo Ne (Var 8) (Word 0) (codes "T") in
      let back : Step = step.If Ne (Var 8) (Word 0) 9 in
      let lines : List ℕ = numbers 10 ((line + 1) + 1) in
      let first = peel u d labels (Plain sub) (again ∷ map Plain after) line ((line + 1) ∷ lines) out e in
      let second = peel u d labels again (map Plain after) (line + 1) lines first.others first.rest in
      let to = some-ok UnknownLabel (named_in labels (codes "T")) (λ to. Ok (step.If Ne (Var 8) (Word 0) to)) second.first second.links in
      let same : to.0 ≡ 9 = let f : Some to.0 ≡ Some 9 = sym to.1 ∙ there in cc in
      let jump : second.first ≡ back = sym (same_ok (step.If Ne (Var 8) (Word 0) to.0) second.first to.2) ∙ ap (step.If Ne (Var 8) (Word 0)) same in
      let rest = plainly u d labels after [] lines [] second.others refl second.rest in
      let none : rest.others ≡ [] = sym (same_ok [] rest.others rest.rest) in
      first.is ∙ ap (λ x. x ∷ first.others) (sym (same_ok sub first.first first.links))
      ∙ ap (λ xs. sub ∷ xs) (second.is ∙ ap (λ x. x ∷ second.others) jump ∙ ap (λ xs. back ∷ xs) (rest.is ∙ ap (λ xs. after ++ xs) none))

-- ---- the program

-- a program of one procedure that is shaped so
record IsShaped (u : Units) (p : Program) (n : ℕ) : Type 0 where
  body : List Step
  lines : List ℕ
  procs : p.procs ≡ record { params = 0; vars = 9; steps = before ++ (body ++ counting (op_id u (codes "sub"))); lines = lines } ∷ []
  main : p.main ≡ 0
  mild : AreMild 9 (9 + length body) body
  few : length body ≤ 2 * n

module _ (u : Units) (text : List ℕ) (n : ℕ) (s : IsSample text n) (p : Program) (g : IsProgramText u (lines_of text) p) where
  ls : List Drawn
  ls = s.lines

  is_shaped : IsShaped u p n
  is_shaped =
      let said = sample_said text n s in
      let d : Draft = draft_said u (said_from 1 (lines_of text)) in
      let rules = subst (KeepsRules u) said g.rules in
      let is_block = subst (AllByRecursion IsBlock) (one_block s.lines) rules.procs in
      let one = ap blocks said ∙ one_block s.lines in
      let whole : List Said = numbered_from 2 (procedure_forms s.lines) in
      let labels : Declared ℕ = labels_said 0 whole in
      let linked : link_procs d (map (proc_said u) (main_block s.lines ∷ [])) ≡ Ok p.procs = ap (λ bs. link_procs d (map (proc_said u) bs)) (sym one) ∙ g.procs in
      let named_main : Some 0 ≡ Some p.main = ap (λ bs. named_in (numbered 0 (map (λ (b : Block). b.name) bs)) (codes "main")) (sym one) ∙ g.main in
      let proc = then-ok (link_proc d (proc_said u (main_block s.lines))) (λ first. link_procs d [] >>= λ rest. Ok (first ∷ rest)) p.procs linked in
      let steps = then-ok (link_steps d labels (steps_said u [] whole) (step_lines whole))
      (λ (ss : List Step). Ok (record { params = 0; vars = length (vars_said [] whole); steps = ss; lines = step_lines whole })) proc.0 proc.1 in
      let first = first_steps u d labels (flat_map forms_of s.lines ++ after_forms) steps.0 steps.1 in
      let places = all_placed u d whole is_block.0.labels 9 12 s.lines after_forms (numbered_from 2 before_forms) refl refl in
      let made = body_made u d labels 9 12 s.lines after_forms first.others s.drawn places first.rest in
      let last = last_steps u d labels made.line made.others (round_begins u d whole is_block.0.labels (flat_map forms_of s.lines ++ after_forms) refl) made.rest in
      let all : steps.0 ≡ before ++ (made.steps ++ counting (op_id u (codes "sub")))
      = first.is ∙ ap (λ xs. before ++ xs) (made.is ∙ ap (λ xs. made.steps ++ xs) last) in
      let shape : proc.0 ≡ record { params = 0; vars = 9; steps = before ++ (made.steps ++ counting (op_id u (codes "sub"))); lines = step_lines whole }
      = sym (same_ok _ proc.0 steps.2)
      ∙ ap (λ (vars : Declared ℕ). record { params = 0; vars = length vars; steps = steps.0; lines = step_lines whole }) (nine_vars s.lines s.drawn)
      ∙ ap (λ (ss : List Step). record { params = 0; vars = 9; steps = ss; lines = step_lines whole }) all in
      let long = made.long in
      let count = s.count in
      let few = few_steps s.lines in
      record {
        body = made.steps;
        lines = step_lines whole;
        procs = sym (same_ok (proc.0 ∷ []) p.procs proc.2) ∙ ap (λ q. q ∷ []) shape;
        main = let e = named_main in sym (let f : 0 ≡ p.main = cc in f);
        mild = made.mild (9 + length made.steps) (omega arith);
        few = omega arith;
      }

pub samples_halt_holds : SamplesHalt
samples_halt_holds u seed n p memory input counts fits is =
    let s = sample_is seed n fits in
    let g = program_said u (sample_text seed n) p is in
    let shape = is_shaped u (sample_text seed n) n s p g in
    let o = offers u s.lines (subst (λ xs. list_all (is_fit u) xs ≡ true) (sample_said (sample_text seed n) n s) g.rules.fit) in
    let less : (k : ℕ) → k < 16 → u.value (op_id u (codes "sub")).0 (k + 1) 1 ≡ k
    = λ k small. ap (λ (x : Option ℕ). u.value (option_map_or (λ op. op) x 0) (k + 1) 1) o.sub_is ∙ counts.sub o.sub (k + 1) 1 o.sub_is ∙ one_less k small in
    let more : (k : ℕ) → k < 16 → holds u Ne k 0 ≡ not (k == 0)
    = λ k small. ap (λ (x : Option ℕ). not (option_map_or (λ op. u.value op k 0 % 2 == 1) x false)) o.eq_is ∙ ap (λ v. not (v % 2 == 1)) (counts.eq o.eq k 0 o.eq_is) ∙ is_more k in
    let few = shape.few in
    let halts = shaped_halts u (op_id u (codes "sub")) shape.body shape.lines p.init less more shape.mild memory input (bound_of n) (omega arith) in
    subst (λ (procs : List Proc). (seq u (record { procs = procs; main = p.main; init = p.init }) memory input (bound_of n)).outcome ≡ Halted) (sym shape.procs)
    (subst (λ main. (seq u (record { procs = record { params = 0; vars = 9; steps = before ++ (shape.body ++ counting (op_id u (codes "sub"))); lines = shape.lines } ∷ []; main = main; init = p.init }) memory input (bound_of n)).outcome ≡ Halted) (sym shape.main) halts)
