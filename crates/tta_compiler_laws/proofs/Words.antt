-- The constants of a program's register code are words.
use Rattle.std.proofs.Common.{◌≡◌, ◌+◌, ◌-◌, ℕ, zero, suc, Bool, true, false, List, [], ◌∷◌, Option, Some, None, refl, length}
use Rattle.std.specs.Prelude.{if◌then◌else◌, ◌==◌, ◌&&◌, nat_lt, is_none}
use Rattle.std.specs.Option.{option_map_or}
use Rattle.std.specs.List.{list_all}
use Rattle.std.proofs.lemmas.Bool.{and_parts}
use Rattle.tta_compiler_laws.specs.Cited.{Src, Var, Step, Return, End, Proc, Program, IsProgram, is_src, is_step, is_call, step_at, Part, Entry, Steps, Returned, RSrc, LoweringInput, block_of, number_of, entry_number, vars_of, params_of, value_slot, var_slot, place, source, steps_for, passes, gives, code_from, exit_for, keeps_ra, sets, first_value, sets_from, back, word_src, word_step, word_exit}
use Rattle.tta_program.specs.declared.operand.Src.TheVariants.{Word}
use Rattle.tta_program.specs.declared.step.Step.TheVariants.{Copy, Apply, Load, Take, Store, Put, If, Goto, When, Invoke, Halt}
use Rattle.tta_lir.specs.declared.code.RSrc.TheVariants as rsrc
use Rattle.tta_lir.specs.declared.code.RStep.TheVariants as rstep
use Rattle.tta_lir.specs.declared.code.Exit.TheVariants as exit
use Rattle.tta_lir.specs.declared.code.Place.TheVariants as place_of
use Rattle.tta_lower.proofs.Steps.{step_of}
use Rattle.tta_list.proofs.Lists.{and_both as both}

module _ (p : Program) (known : LoweringInput) where
  word_of : (owner vars : ℕ) (s : Src) → is_src vars s ≡ true → word_src (source p known.home owner s) ≡ true
  word_of owner vars (Var x) e = refl
  word_of owner vars (Word w) e = e

  of_passes : (owner vars callee x : ℕ) (ss : List Src) → list_all (is_src vars) ss ≡ true → list_all word_step (passes p known.home owner callee x ss) ≡ true
  of_passes owner vars callee x [] e = refl
  of_passes owner vars callee x (s ∷ ss) e =
      let parts = and_parts (is_src vars s) (list_all (is_src vars) ss) e in
      rw (word_of owner vars s parts.0, of_passes owner vars callee (x + 1) ss parts.1) refl

  of_gives : (owner : ℕ) (s : RSrc) → word_src s ≡ true → list_all word_step (gives p known.home owner s) ≡ true
  of_gives owner s w = on (owner == p.main) where
    on : (b : Bool) → list_all word_step (if b then [] else rstep.Copy (place_of.Frame (value_slot p owner)) s ∷ []) ≡ true
    on true = refl
    on false = rw w refl

  two : (vars : ℕ) (a b : Src) (owner : ℕ) → is_src vars a ≡ true → is_src vars b ≡ true → (word_src (source p known.home owner a) && word_src (source p known.home owner b)) ≡ true
  two vars a b owner e f = rw (word_of owner vars a e, word_of owner vars b f) refl

  of_step : (owner : ℕ) (q : Proc) (st : Step) → is_step p q st ≡ true → list_all word_step (steps_for p known.home owner st) ≡ true
  of_step owner q (Copy d s) e = rw (word_of owner q.vars s (and_parts (nat_lt d q.vars) (is_src q.vars s) e).1) refl
  of_step owner q (Apply d op a b) e =
      let f = and_parts (nat_lt d q.vars && is_src q.vars a) (is_src q.vars b) e in
      let g = and_parts (nat_lt d q.vars) (is_src q.vars a) f.0 in
      rw (word_of owner q.vars a g.1, word_of owner q.vars b f.1) refl
  of_step owner q (Load d a) e = rw (word_of owner q.vars a (and_parts (nat_lt d q.vars) (is_src q.vars a) e).1) refl
  of_step owner q (Take d) e = refl
  of_step owner q (Store a v) e =
      let f = and_parts (is_src q.vars a) (is_src q.vars v) e in
      rw (word_of owner q.vars a f.0, word_of owner q.vars v f.1) refl
  of_step owner q (Put v) e = rw (word_of owner q.vars v e) refl
  of_step owner q (If rel a b to) e = refl
  of_step owner q (Goto to) e = refl
  of_step owner q (When rel a b d s) e =
      let f = and_parts (is_src q.vars a && is_src q.vars b && nat_lt d q.vars) (is_src q.vars s) e in
      let g = and_parts (is_src q.vars a && is_src q.vars b) (nat_lt d q.vars) f.0 in
      let h = and_parts (is_src q.vars a) (is_src q.vars b) g.0 in
      rw (word_of owner q.vars a h.0, word_of owner q.vars b h.1, word_of owner q.vars s f.1) refl
  of_step owner q (Invoke d callee args) e =
      let f = and_parts (option_map_or (λ x. nat_lt x q.vars) d true && list_all (is_src q.vars) args) (is_call p callee args) e in
      of_passes owner q.vars callee 0 args (and_parts (option_map_or (λ x. nat_lt x q.vars) d true) (list_all (is_src q.vars) args) f.0).1
  of_step owner q (Return (Some s)) e = of_gives owner (source p known.home owner s) (word_of owner q.vars s e)
  of_step owner q (Return None) e = of_gives owner (rsrc.Word 0) refl
  of_step owner q Halt e = refl
  of_step owner q End e = of_gives owner (rsrc.Word 0) refl

  module _ (rules : IsProgram p) where
    of_code : (owner at n : ℕ) → list_all word_step (code_from p known.home owner at n) ≡ true
    of_code owner at zero = refl
    of_code owner at (suc n) =
        both word_step (option_map_or (steps_for p known.home owner) (step_at p owner at) []) (code_from p known.home owner (at + 1) n) (on (step_at p owner at) refl) (of_code owner (at + 1) n) where
          on : (o : Option Step) → step_at p owner at ≡ o → list_all word_step (option_map_or (steps_for p known.home owner) o []) ≡ true
          on None e = refl
          on (Some st) e = let s = step_of p rules owner at st e in of_step owner s.proc st s.rules

    of_ra : (owner : ℕ) → list_all word_step (keeps_ra p known.home owner) ≡ true
    of_ra owner = on (owner == p.main) refl where
      on : (b : Bool) → (owner == p.main) ≡ b → list_all word_step (keeps_ra p known.home owner) ≡ true
      on true e = rw e refl
      on false e = rw e refl

    first_word : (owner x : ℕ) → word_src (first_value p known.home owner x) ≡ true
    first_word owner x = on (nat_lt x (params_of p owner)) where
      on : (b : Bool) → word_src (if b then rsrc.At (place_of.Frame (var_slot p owner x)) else rsrc.Word 0) ≡ true
      on true = refl
      on false = refl

    of_sets : (live : ℕ → Bool) (owner x n : ℕ) → list_all word_step (sets_from p known.home live owner x n) ≡ true
    of_sets live owner x zero = refl
    of_sets live owner x (suc n) =
        both word_step (if live x then sets p known.home owner x else []) (sets_from p known.home live owner (x + 1) n) (on (live x)) (of_sets live owner (x + 1) n) where
          one : (b : Bool) → list_all word_step (if b then [] else rstep.Copy (place p known.home owner x) (first_value p known.home owner x) ∷ []) ≡ true
          one true = refl
          one false = rw (first_word owner x) refl

          on : (b : Bool) → list_all word_step (if b then sets p known.home owner x else []) ≡ true
          on true = one (nat_lt x (params_of p owner) && is_none (known.home owner x))
          on false = refl

    module _ (homes : ℕ) where
      pub steps_words : (x : Part) → list_all word_step (block_of p known homes x).steps ≡ true
      steps_words (Entry owner) = both word_step (keeps_ra p known.home owner) (sets_from p known.home (known.first owner) owner 0 (vars_of p owner)) (of_ra owner) (of_sets (known.first owner) owner 0 (vars_of p owner))
      steps_words (Steps b) = of_code b.owner b.first (b.last + 1 - b.first)
      steps_words (Returned b d callee) = refl

      back_words : (owner : ℕ) → word_exit (back p known.home (number_of p known.blocks known.first) (entry_number p known.blocks known.first) owner) ≡ true
      back_words owner = on (owner == p.main) refl where
        on : (b : Bool) → (owner == p.main) ≡ b → word_exit (back p known.home (number_of p known.blocks known.first) (entry_number p known.blocks known.first) owner) ≡ true
        on true e = rw e refl
        on false e = rw e refl

      of_exit : (owner : ℕ) (q : Proc) (st : Step) → is_step p q st ≡ true → word_exit (exit_for p known.home (number_of p known.blocks known.first) (entry_number p known.blocks known.first) owner st) ≡ true
      of_exit owner q (Copy d s) e = refl
      of_exit owner q (Apply d op a b) e = refl
      of_exit owner q (Load d a) e = refl
      of_exit owner q (Take d) e = refl
      of_exit owner q (Store a v) e = refl
      of_exit owner q (Put v) e = refl
      of_exit owner q (If rel a b to) e =
          let f = and_parts (is_src q.vars a && is_src q.vars b) (nat_lt to (length q.steps)) e in
          let g = and_parts (is_src q.vars a) (is_src q.vars b) f.0 in
          two q.vars a b owner g.0 g.1
      of_exit owner q (Goto to) e = refl
      of_exit owner q (When rel a b d s) e = refl
      of_exit owner q (Invoke d callee args) e = refl
      of_exit owner q (Return s) e = back_words owner
      of_exit owner q Halt e = refl
      of_exit owner q End e = back_words owner

      pub exit_words : (x : Part) → word_exit (block_of p known homes x).exit ≡ true
      exit_words (Entry owner) = refl
      exit_words (Returned b d callee) = refl
      exit_words (Steps b) = on (step_at p b.owner b.last) refl where
        on : (o : Option Step) → step_at p b.owner b.last ≡ o
            → word_exit (option_map_or (exit_for p known.home (number_of p known.blocks known.first) (entry_number p known.blocks known.first) b.owner) o exit.Halt) ≡ true
        on None e = refl
        on (Some st) e = let s = step_of p rules b.owner b.last st e in of_exit b.owner s.proc st s.rules
