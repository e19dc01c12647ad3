-- The register code of a program is closed.
use Rattle.std.proofs.Common.{◌≡◌, ◌≢◌, ◌<◌, ◌≤◌, ◌+◌, ◌&&◌, ◌∷◌, [], ℕ, zero, suc, Bool, List, Option, Some, None, true, false, length, nat_lt, is_none, refl, ap, ◌∙◌, arith, inl, inr}
use Rattle.std.specs.Prelude.{if◌then◌else◌}
use Rattle.std.specs.Option.{option_map_or}
use Rattle.std.specs.List.{list_all}
use Rattle.std.proofs.lemmas.Bool.{eq-eqb, ne_eqb, and_from, and_parts, ltb-true, cases_eq}
use Rattle.std.proofs.lemmas.List.Folds.{list_all-append}
use Rattle.std.proofs.lemmas.Option.{slice_get_within}
use Rattle.tta_list.proofs.Lists.{all_one}
use Rattle.tta_lower.specs.Cited.{Src, Var, Step, Load, Take, Store, When, End, Proc, Program, IsProgram, IsProc, is_step, is_src, step_at, Place, RSrc, src_passes, step_passes, exit_passes}
use Rattle.tta_program.specs.declared.operand.Src.TheVariants.{Word}
use Rattle.tta_program.specs.declared.step.Step.TheVariants.{Copy, Apply, Put, If, Goto, Invoke, Return, Halt}
use Rattle.tta_lir.specs.declared.code.Place.TheVariants.{Frame}
use Rattle.tta_lir.specs.declared.code.RSrc.TheVariants as rsrc
use Rattle.tta_lir.specs.declared.code.RStep.TheVariants as rstep
use Rattle.tta_lower.specs.Liveness.{Homes}
use Rattle.tta_lower.specs.Layout
use Rattle.tta_lower.specs.Layout.{vars_of, params_of, var_slot, value_slot, back_slot, place, source, passes, gives, steps_for, code_from, exit_for, keeps_ra, first_value, sets, sets_from}
use Rattle.tta_lower.proofs.Steps.{StepOf, step_of}
use Rattle.tta_lower.proofs.Callers.{called, vars-are}

-- ---- what passes in all blocks

module _ (p : Program) (home : Homes) (sound : IsProgram p) (test : Place → Bool) (slot : ℕ → Bool)
    (place_ok : (owner x : ℕ) → x < vars_of p owner → test (place p home owner x) ≡ true)
    (var_ok : (owner x : ℕ) → x < vars_of p owner → test (Frame (var_slot p owner x)) ≡ true)
    (value_ok : (owner : ℕ) → owner < length p.procs → owner ≢ p.main → test (Frame (value_slot p owner)) ≡ true)
    (slot_ok : (owner : ℕ) → owner < length p.procs → owner ≢ p.main → slot (back_slot p owner) ≡ true) where
  src-ok : (owner : ℕ) (s : Src) → is_src (vars_of p owner) s ≡ true → src_passes test (source p home owner s) ≡ true
  src-ok owner (Var x) is = place_ok owner x (ltb-true x (vars_of p owner) is)
  src-ok owner (Word w) is = refl

  -- the passing of arguments
  pass-ok : (owner callee x : ℕ) (args : List Src) → list_all (is_src (vars_of p owner)) args ≡ true → x + length args ≤ vars_of p callee
      → list_all (step_passes test slot) (passes p home owner callee x args) ≡ true
  pass-ok owner callee x [] all room = refl
  pass-ok owner callee x (s ∷ args) all room =
      let both = and_parts (is_src (vars_of p owner) s) _ all in
      and_from (test (Frame (var_slot p callee x)) && src_passes test (source p home owner s)) _
      (and_from (test (Frame (var_slot p callee x))) _ (var_ok callee x (omega (arith, room))) (src-ok owner s both.0))
      (pass-ok owner callee (x + 1) args both.1 (omega (arith, room)))

  -- the giving of a returned value
  gives-ok : (owner : ℕ) (s : RSrc) → owner < length p.procs → src_passes test s ≡ true → list_all (step_passes test slot) (gives p home owner s) ≡ true
  gives-ok owner s lt is = elim (cases_eq owner p.main) as (λ c. list_all (step_passes test slot) (gives p home owner s) ≡ true) [
    | inl e ↦ rw (eq-eqb owner p.main e) refl
    | inr ne ↦ rw (ne_eqb owner p.main ne) (and_from (test (Frame (value_slot p owner)) && src_passes test s) _ (and_from (test (Frame (value_slot p owner))) _ (value_ok owner lt ne) is) refl)
  ]

  -- a return
  back-ok : (number : ℕ → ℕ → ℕ) (entry : ℕ → ℕ) (owner : ℕ) → owner < length p.procs → exit_passes test slot (Layout.back p home number entry owner) ≡ true
  back-ok number entry owner lt = elim (cases_eq owner p.main) as (λ c. exit_passes test slot (Layout.back p home number entry owner) ≡ true) [
    | inl e ↦ rw (eq-eqb owner p.main e) refl
    | inr ne ↦ rw (ne_eqb owner p.main ne) (slot_ok owner lt ne)
  ]

  -- what a step becomes
  pub step-ok : (owner at : ℕ) (st : Step) → step_at p owner at ≡ Some st → list_all (step_passes test slot) (steps_for p home owner st) ≡ true
  step-ok owner at st there = by st there of_step.rules where
    of_step : StepOf p owner st
    of_step = step_of p sound owner at st there

    q : Proc
    q = of_step.proc

    lt : owner < length p.procs
    lt = slice_get_within p.procs owner of_step.proc of_step.is

    is_vars : vars_of p owner ≡ (of_step.proc).vars
    is_vars = vars-are p owner of_step.proc of_step.is

    src : (s : Src) → is_src (of_step.proc).vars s ≡ true → src_passes test (source p home owner s) ≡ true
    src s is = src-ok owner s (ap (λ n. is_src n s) is_vars ∙ is)

    dst : (d : ℕ) → nat_lt d (of_step.proc).vars ≡ true → test (place p home owner d) ≡ true
    dst d is = place_ok owner d (omega (arith, is_vars, ltb-true d (of_step.proc).vars is))

    one : (b : Bool) → b ≡ true → (b && true) ≡ true
    one b is = and_from b true is refl

    by : (s : Step) → step_at p owner at ≡ Some s → is_step p of_step.proc s ≡ true → list_all (step_passes test slot) (steps_for p home owner s) ≡ true
    by (Copy d s) here is =
        let a = and_parts (nat_lt d (of_step.proc).vars) (is_src (of_step.proc).vars s) is in
        one _ (and_from (test (place p home owner d)) _ (dst d a.0) (src s a.1))
    by (Apply d op s t) here is =
        let a = and_parts (nat_lt d (of_step.proc).vars && is_src (of_step.proc).vars s) (is_src (of_step.proc).vars t) is in
        let c = and_parts (nat_lt d (of_step.proc).vars) (is_src (of_step.proc).vars s) a.0 in
        one _ (and_from (test (place p home owner d)) _ (dst d c.0) (and_from (src_passes test (source p home owner s)) _ (src s c.1) (src t a.1)))
    by (Load d s) here is =
        let a = and_parts (nat_lt d (of_step.proc).vars) (is_src (of_step.proc).vars s) is in
        one _ (and_from (test (place p home owner d)) _ (dst d a.0) (src s a.1))
    by (Take d) here is = one _ (dst d is)
    by (Store s t) here is =
        let a = and_parts (is_src (of_step.proc).vars s) (is_src (of_step.proc).vars t) is in
        one _ (and_from (src_passes test (source p home owner s)) _ (src s a.0) (src t a.1))
    by (Put s) here is = one _ (src s is)
    by (If rel s t to) here is = refl
    by (Goto to) here is = refl
    by (When rel s t d v) here is =
        let a = and_parts (is_src (of_step.proc).vars s && is_src (of_step.proc).vars t && nat_lt d (of_step.proc).vars) (is_src (of_step.proc).vars v) is in
        let c = and_parts (is_src (of_step.proc).vars s && is_src (of_step.proc).vars t) (nat_lt d (of_step.proc).vars) a.0 in
        let e = and_parts (is_src (of_step.proc).vars s) (is_src (of_step.proc).vars t) c.0 in
        one _ (and_from (src_passes test (source p home owner s)) _ (src s e.0)
        (and_from (src_passes test (source p home owner t)) _ (src t e.1) (and_from (test (place p home owner d)) _ (dst d c.1) (src v a.1))))
    by (Invoke d callee args) here is =
        let of_call = called p sound owner at callee d args here in
        let many = (all_one (IsProc p) p.procs callee of_call.proc sound.procs of_call.is).among in
        let a = and_parts (option_map_or (λ x. nat_lt x (of_step.proc).vars) d true && list_all (is_src (of_step.proc).vars) args) _ is in
        let c = and_parts (option_map_or (λ x. nat_lt x (of_step.proc).vars) d true) (list_all (is_src (of_step.proc).vars) args) a.0 in
        pass-ok owner callee 0 args (ap (λ n. list_all (is_src n) args) is_vars ∙ c.1) (omega (arith, of_call.count, many, vars-are p callee of_call.proc of_call.is))
    by (Return (Some s)) here is = gives-ok owner (source p home owner s) lt (src s is)
    by (Return None) here is = gives-ok owner (rsrc.Word 0) lt refl
    by Halt here is = refl
    by End here is = gives-ok owner (rsrc.Word 0) lt refl

  -- and its exit
  pub exit-ok : (number : ℕ → ℕ → ℕ) (entry : ℕ → ℕ) (owner at : ℕ) (st : Step) → step_at p owner at ≡ Some st → exit_passes test slot (exit_for p home number entry owner st) ≡ true
  exit-ok number entry owner at st there = by st of_step.rules where
    of_step : StepOf p owner st
    of_step = step_of p sound owner at st there

    lt : owner < length p.procs
    lt = slice_get_within p.procs owner of_step.proc of_step.is

    src : (s : Src) → is_src (of_step.proc).vars s ≡ true → src_passes test (source p home owner s) ≡ true
    src s is = src-ok owner s (ap (λ n. is_src n s) (vars-are p owner of_step.proc of_step.is) ∙ is)

    by : (s : Step) → is_step p of_step.proc s ≡ true → exit_passes test slot (exit_for p home number entry owner s) ≡ true
    by (If rel s t to) is =
        let a = and_parts (is_src (of_step.proc).vars s && is_src (of_step.proc).vars t) _ is in
        let c = and_parts (is_src (of_step.proc).vars s) (is_src (of_step.proc).vars t) a.0 in
        and_from (src_passes test (source p home owner s)) _ (src s c.0) (src t c.1)
    by (Goto to) is = refl
    by (Invoke d callee args) is = refl
    by (Return s) is = back-ok number entry owner lt
    by Halt is = refl
    by End is = back-ok number entry owner lt
    by (Copy d s) is = refl
    by (Apply d op s t) is = refl
    by (Load d s) is = refl
    by (Take d) is = refl
    by (Store s t) is = refl
    by (Put s) is = refl
    by (When rel s t d v) is = refl

  -- the steps of a block
  pub code-ok : (owner at n : ℕ) → list_all (step_passes test slot) (code_from p home owner at n) ≡ true
  code-ok owner at zero = refl
  code-ok owner at (suc n) =
      list_all-append (step_passes test slot) (option_map_or (steps_for p home owner) (step_at p owner at) []) (code_from p home owner (at + 1) n)
      ∙ and_from _ _ (by (step_at p owner at) refl) (code-ok owner (at + 1) n) where
        by : (o : Option Step) → step_at p owner at ≡ o → list_all (step_passes test slot) (option_map_or (steps_for p home owner) o []) ≡ true
        by None there = refl
        by (Some st) there = step-ok owner at st there

  -- what sets variables at an entry
  pub sets-ok : (live : ℕ → Bool) (owner x n : ℕ) → x + n ≤ vars_of p owner → list_all (step_passes test slot) (sets_from p home live owner x n) ≡ true
  sets-ok live owner x zero room = refl
  sets-ok live owner x (suc n) room =
      list_all-append (step_passes test slot) (if live x then sets p home owner x else []) (sets_from p home live owner (x + 1) n)
      ∙ and_from _ _ (by (live x) (nat_lt x (params_of p owner) && is_none (home owner x))) (sets-ok live owner (x + 1) n (omega (arith, room))) where
        first : src_passes test (first_value p home owner x) ≡ true
        first = value (nat_lt x (params_of p owner)) where
          value : (b : Bool) → src_passes test (if b then rsrc.At (Frame (var_slot p owner x)) else rsrc.Word 0) ≡ true
          value true = var_ok owner x (omega (arith, room))
          value false = refl

        by : (b c : Bool) → list_all (step_passes test slot) (if b then (if c then [] else rstep.Copy (place p home owner x) (first_value p home owner x) ∷ []) else []) ≡ true
        by true true = refl
        by true false = and_from (test (place p home owner x) && src_passes test (first_value p home owner x)) _ (and_from (test (place p home owner x)) _ (place_ok owner x (omega (arith, room))) first) refl
        by false c = refl

  -- the keeping of a return address
  pub keeps-ok : (owner : ℕ) → owner < length p.procs → list_all (step_passes test slot) (keeps_ra p home owner) ≡ true
  keeps-ok owner lt = elim (cases_eq owner p.main) as (λ c. list_all (step_passes test slot) (keeps_ra p home owner) ≡ true) [
    | inl e ↦ rw (eq-eqb owner p.main e) refl
    | inr ne ↦ rw (ne_eqb owner p.main ne) (and_from (slot (back_slot p owner)) _ (slot_ok owner lt ne) refl)
  ]
