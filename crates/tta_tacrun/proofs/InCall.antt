-- Steps that stay in one call.
use Rattle.std.proofs.Common.{◌≡◌, ◌+◌, ℕ, suc, true, List, [], ◌∷◌, is_some, Option, Some, None, refl, ap, sym, ◌∙◌, arith}
use Rattle.std.specs.Prelude.{IfSome}
use Rattle.tta_tacrun.specs.Cited.{iterate, Units, Step, Program, IsProgram, State, Frame, step_at, next}
use Rattle.tta_tacrun.specs.Run.{GoesTo, frame, going, is_path, is_placed, silent_at}
use Rattle.tta_tacrun.proofs.Coded.{silent_step}
use Rattle.tta_tacrun.proofs.Placed.{carried_placed}

module _ (u : Units) (at to : ℕ) (vars new_vars memory new_memory : List ℕ) (p : Program) (proc : ℕ) (callers : List Frame) where
  -- one more step
  pub one_more_step : (step : Option Step) → is_some step ≡ true → IfSome step (GoesTo u at to vars new_vars memory new_memory)
      → silent_at p proc at ≡ step → (rest output : List ℕ) (start : State) (n k : ℕ)
      → iterate k (next u p) start ≡ going proc at vars callers memory rest output (n + k)
      → iterate (suc k) (next u p) start ≡ going proc to new_vars callers new_memory rest output (n + suc k)
  unfolding next
  one_more_step None some goes here rest output start n k comes = cc
  one_more_step (Some step) some goes here rest output start n k comes =
      let many : n + k + 1 ≡ n + suc k = omega arith in
      ap (next u p) comes ∙ rw (silent_step p proc at step here, goes.0) (goes.1 p proc callers rest output (n + k + 1))
      ∙ ap (λ m. going proc to new_vars callers new_memory rest output m) many

  pub one_more_placed : (step : Option Step) → is_some step ≡ true → IfSome step (GoesTo u at to vars new_vars memory new_memory)
      → silent_at p proc at ≡ step → IsProgram p → is_path p (frame proc at vars ∷ callers) ≡ true → is_some (step_at p proc to) ≡ true
  one_more_placed None some goes here rules path = cc
  one_more_placed (Some step) some goes here rules path =
      ap (λ s. is_placed p s.stack) (sym (goes.1 p proc callers [] [] 0))
      ∙ carried_placed p rules u (going proc at vars callers memory [] [] 0) (frame proc at vars) callers path refl step
      (silent_step p proc at step here)
