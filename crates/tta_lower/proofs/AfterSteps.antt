-- What comes after the last step of a block: a return, or nothing.
use Rattle.std.proofs.Common.{◌≡◌, [], ℕ, Option, Some, None, true, false, refl}
use Rattle.std.specs.List.{sum_by}
use Rattle.tta_lower.specs.Cited.{Step, Program}
use Rattle.tta_program.specs.declared.step.Step.TheVariants.{Invoke}
use Rattle.tta_lower.specs.Liveness.{LoweringInput, Block}
use Rattle.tta_lower.specs.Shape.{may_fall, is_call}
use Rattle.tta_lower.specs.Lower.{return_after, homes_of, live_past, steps_in}

-- no part comes after a step that falls through
pub return-none : (b : Block) (st : Step) → may_fall st ≡ true → return_after b (Some st) ≡ []
return-none b (Invoke d callee args) may = cc
return-none b st may = refl

-- what stays after a step that is no call
pub live-past : (p : Program) (known : LoweringInput) (homes : ℕ)
    (b : Block) (st : Step) → is_call st ≡ false
    → live_past p known homes b st ≡ homes_of p known homes b.owner (known.after b.owner b.last)
live-past p known homes b (Invoke d callee args) none = cc
live-past p known homes b st none = refl

-- a return stands for no steps
pub return-steps : (b : Block) (o : Option Step) → sum_by steps_in (return_after b o) ≡ 0
return-steps b (Some (Invoke (Some d) callee args)) = refl
return-steps b (Some (Invoke None callee args)) = refl
return-steps b o = refl
