-- Register code of a program asks for nothing but what the program asks for.
use Rattle.std.proofs.Common.{◌≡◌, ℕ, zero, suc, ◌+◌, ◌-◌, Bool, true, false, List, [], ◌∷◌, Option, Some, None, refl, slice_get}
use Rattle.std.specs.Prelude.{if◌then◌else◌, ◌==◌}
use Rattle.std.specs.Option.{option_map_or}
use Rattle.std.specs.List.{list_all}
use Rattle.tta_list.proofs.Lists.{list_all_one, and_both as both}
use Rattle.tta_compiler_laws.specs.Cited.{Units, Machine, Choice, Src, Step, Return, End, Proc, Program, step_at, RSrc, RStep, LoweringInput, Part, Entry, Steps, Returned, block_of, number_of, entry_number, vars_of, place, steps_for, passes, gives, code_from, exit_for, keeps_ra, sets, sets_from, back, op_of_step, op_of_exit, is_offered}
use Rattle.tta_program.specs.declared.step.Step.TheVariants.{Copy, Apply, Load, Take, Store, Put, If, Goto, When, Invoke, Halt}
use Rattle.tta_lir.specs.declared.code.RStep.TheVariants as rstep
use Rattle.tta_lir.specs.declared.code.Exit.TheVariants as exit
use Rattle.tta_compiler_laws.specs.Needs.{need_of, are_offered}

module _ (u : Units) (m : Machine) (c : Choice) (p : Program) (known : LoweringInput) where
  -- a step of register code that needs only what is offered
  abbrev pub offers : RStep → Bool
  offers r = is_offered m c (op_of_step u r)

  of_passes : (owner callee x : ℕ) (ss : List Src) → list_all offers (passes p known.home owner callee x ss) ≡ true
  of_passes owner callee x [] = refl
  of_passes owner callee x (s ∷ ss) = of_passes owner callee (x + 1) ss

  of_gives : (owner : ℕ) (s : RSrc) → list_all offers (gives p known.home owner s) ≡ true
  of_gives owner s = on (owner == p.main) refl where
    on : (b : Bool) → (owner == p.main) ≡ b → list_all offers (gives p known.home owner s) ≡ true
    on true e = rw e refl
    on false e = rw e refl

  of_step : (owner : ℕ) (st : Step) → is_offered m c (need_of u st) ≡ true → list_all offers (steps_for p known.home owner st) ≡ true
  of_step owner (Copy d s) e = refl
  of_step owner (Apply d op a b) e = rw e refl
  of_step owner (Load d a) e = rw e refl
  of_step owner (Take d) e = rw e refl
  of_step owner (Store a v) e = rw e refl
  of_step owner (Put v) e = rw e refl
  of_step owner (If rel a b to) e = refl
  of_step owner (Goto to) e = refl
  of_step owner (When rel a b d s) e = rw e refl
  of_step owner (Invoke d callee args) e = of_passes owner callee 0 args
  of_step owner (Return (Some s)) e = of_gives owner _
  of_step owner (Return None) e = of_gives owner _
  of_step owner Halt e = refl
  of_step owner End e = of_gives owner _

  -- a step of the program needs only what is offered
  step_offered : are_offered u m c p ≡ true → (owner at : ℕ) (st : Step) → step_at p owner at ≡ Some st → is_offered m c (need_of u st) ≡ true
  step_offered all owner at st e = on (slice_get p.procs owner) refl e where
    on : (o : Option Proc) → slice_get p.procs owner ≡ o → option_map_or (λ q. slice_get q.steps at) o None ≡ Some st → is_offered m c (need_of u st) ≡ true
    on None is e = absurd cc
    on (Some q) is e =
        list_all_one (λ s. is_offered m c (need_of u s)) q.steps at st
        (list_all_one (λ q. list_all (λ s. is_offered m c (need_of u s)) q.steps) p.procs owner q all is) e

  of_code : are_offered u m c p ≡ true → (owner at n : ℕ) → list_all offers (code_from p known.home owner at n) ≡ true
  of_code all owner at zero = refl
  of_code all owner at (suc n) =
      both offers (option_map_or (steps_for p known.home owner) (step_at p owner at) []) (code_from p known.home owner (at + 1) n) (on (step_at p owner at) refl) (of_code all owner (at + 1) n) where
        on : (o : Option Step) → step_at p owner at ≡ o → list_all offers (option_map_or (steps_for p known.home owner) o []) ≡ true
        on None e = refl
        on (Some st) e = of_step owner st (step_offered all owner at st e)

  of_ra : (owner : ℕ) → list_all offers (keeps_ra p known.home owner) ≡ true
  of_ra owner = on (owner == p.main) refl where
    on : (b : Bool) → (owner == p.main) ≡ b → list_all offers (keeps_ra p known.home owner) ≡ true
    on true e = rw e refl
    on false e = rw e refl

  of_sets : (live : ℕ → Bool) (owner x n : ℕ) → list_all offers (sets_from p known.home live owner x n) ≡ true
  of_sets live owner x zero = refl
  of_sets live owner x (suc n) =
      both offers (if live x then sets p known.home owner x else []) (sets_from p known.home live owner (x + 1) n) (on (live x)) (of_sets live owner (x + 1) n) where
        one : (b : Bool) (r : RSrc) → list_all offers (if b then [] else rstep.Copy (place p known.home owner x) r ∷ []) ≡ true
        one true r = refl
        one false r = refl

        on : (b : Bool) → list_all offers (if b then sets p known.home owner x else []) ≡ true
        on true = one _ _
        on false = refl

  module _ (homes : ℕ) where
    pub part_steps : are_offered u m c p ≡ true → (x : Part) → list_all offers (block_of p known homes x).steps ≡ true
    part_steps all (Entry owner) =
        both offers (keeps_ra p known.home owner) (sets_from p known.home (known.first owner) owner 0 (vars_of p owner)) (of_ra owner) (of_sets (known.first owner) owner 0 (vars_of p owner))
    part_steps all (Steps b) = of_code all b.owner b.first (b.last + 1 - b.first)
    part_steps all (Returned b d callee) = refl

    back_needs : (owner : ℕ) → is_offered m c (op_of_exit u (back p known.home (number_of p known.blocks known.first) (entry_number p known.blocks known.first) owner)) ≡ true
    back_needs owner = on (owner == p.main) refl where
      on : (b : Bool) → (owner == p.main) ≡ b → is_offered m c (op_of_exit u (back p known.home (number_of p known.blocks known.first) (entry_number p known.blocks known.first) owner)) ≡ true
      on true e = rw e refl
      on false e = rw e refl

    of_exit : (owner : ℕ) (st : Step) → is_offered m c (need_of u st) ≡ true
        → is_offered m c (op_of_exit u (exit_for p known.home (number_of p known.blocks known.first) (entry_number p known.blocks known.first) owner st)) ≡ true
    of_exit owner (Copy d s) e = refl
    of_exit owner (Apply d op a b) e = refl
    of_exit owner (Load d a) e = refl
    of_exit owner (Take d) e = refl
    of_exit owner (Store a v) e = refl
    of_exit owner (Put v) e = refl
    of_exit owner (If rel a b to) e = e
    of_exit owner (Goto to) e = refl
    of_exit owner (When rel a b d s) e = refl
    of_exit owner (Invoke d callee args) e = refl
    of_exit owner (Return s) e = back_needs owner
    of_exit owner Halt e = refl
    of_exit owner End e = back_needs owner

    pub part_exit : are_offered u m c p ≡ true → (x : Part) → is_offered m c (op_of_exit u (block_of p known homes x).exit) ≡ true
    part_exit all (Entry owner) = refl
    part_exit all (Returned b d callee) = refl
    part_exit all (Steps b) = on (step_at p b.owner b.last) refl where
      on : (o : Option Step) → step_at p b.owner b.last ≡ o
          → is_offered m c (op_of_exit u (option_map_or (exit_for p known.home (number_of p known.blocks known.first) (entry_number p known.blocks known.first) b.owner) o exit.Halt)) ≡ true
      on None e = refl
      on (Some st) e = of_exit b.owner st (step_offered all b.owner b.last st e)
