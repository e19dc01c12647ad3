-- What blocks and register code say of a step is the same.
use Rattle.std.proofs.Common.{◌≡◌, ℕ, ◌+◌, Bool, true, false, List, [], ◌∷◌, Some, None, refl}
use Rattle.std.specs.Prelude.{◌==◌, ◌||◌, not}
use Rattle.std.specs.List.{list_any}
use Rattle.std.specs.Option.{option_map_or}
use Rattle.std.proofs.Math.Bool.{or-false, or_comm}
use Rattle.tta_lower.specs.Cited.{Src, Var, Step, Load, Take, Store, When, End}
use Rattle.tta_program.specs.declared.operand.Src.TheVariants.{Word}
use Rattle.tta_program.specs.declared.step.Step.TheVariants.{Copy, Apply, Put, If, Goto, Invoke, Return, Halt}
use Rattle.tta_flow.specs.Steps as flow
use Rattle.tta_lower.specs.Liveness as lower
use Rattle.tta_lower.specs.FlowFacts.{names_step}

-- four tests in another order
or_four : (a b c d : Bool) → (a || b || c || d) ≡ (a || (b || (d || c)))
or_four true b c d = refl
or_four false true c d = refl
or_four false false c d = or_comm c d

-- an operand names the same variable
same_var : (s : Src) (x : ℕ) → flow.is_var s x ≡ lower.is_var x s
same_var (Var y) x = refl
same_var (Word w) x = refl

-- the same for some operands
same_any : (args : List Src) (x : ℕ) → list_any (λ s. flow.is_var s x) args ≡ list_any (lower.is_var x) args
same_any [] x = refl
same_any (s ∷ args) x = rw (same_var s x, same_any args x) refl

-- a step reads the same variables
pub same_reads : (st : Step) (x : ℕ) → flow.reads st x ≡ lower.reads st x
same_reads (Copy d s) x = same_var s x
same_reads (Apply d op a b) x = rw (same_var a x, same_var b x) refl
same_reads (Load d a) x = same_var a x
same_reads (Take d) x = refl
same_reads (Store a v) x = rw (same_var a x, same_var v x) refl
same_reads (Put v) x = same_var v x
same_reads (If rel a b to) x = rw (same_var a x, same_var b x) refl
same_reads (Goto to) x = refl
same_reads (When rel a b d s) x = rw (same_var a x, same_var b x, same_var s x) (or_four (lower.is_var x a) (lower.is_var x b) (lower.is_var x s) (d == x))
same_reads (Invoke d callee args) x = same_any args x
same_reads (Return (Some s)) x = same_var s x
same_reads (Return None) x = refl
same_reads Halt x = refl
same_reads End x = refl

-- a step assigns the same variable
pub same_assigned : (st : Step) → flow.assigned st ≡ lower.assigned st
same_assigned (Copy d s) = refl
same_assigned (Apply d op a b) = refl
same_assigned (Load d a) = refl
same_assigned (Take d) = refl
same_assigned (Store a v) = refl
same_assigned (Put v) = refl
same_assigned (If rel a b to) = refl
same_assigned (Goto to) = refl
same_assigned (When rel a b d s) = refl
same_assigned (Invoke d callee args) = refl
same_assigned (Return s) = refl
same_assigned Halt = refl
same_assigned End = refl

-- a step leads to the same steps
pub same_leads : (st : Step) (at to : ℕ) → flow.follows st at to ≡ lower.leads st at to
same_leads (Copy d s) at to = or-false (at + 1 == to)
same_leads (Apply d op a b) at to = or-false (at + 1 == to)
same_leads (Load d a) at to = or-false (at + 1 == to)
same_leads (Take d) at to = or-false (at + 1 == to)
same_leads (Store a v) at to = or-false (at + 1 == to)
same_leads (Put v) at to = or-false (at + 1 == to)
same_leads (If rel a b target) at to = or_comm (at + 1 == to) (target == to)
same_leads (Goto target) at to = refl
same_leads (When rel a b d s) at to = or-false (at + 1 == to)
same_leads (Invoke d callee args) at to = or-false (at + 1 == to)
same_leads (Return s) at to = refl
same_leads Halt at to = refl
same_leads End at to = refl

-- a step cuts where it is not plain
pub same_cuts : (st : Step) → flow.cuts st ≡ not (lower.is_plain st)
same_cuts (Copy d s) = refl
same_cuts (Apply d op a b) = refl
same_cuts (Load d a) = refl
same_cuts (Take d) = refl
same_cuts (Store a v) = refl
same_cuts (Put v) = refl
same_cuts (If rel a b to) = refl
same_cuts (Goto to) = refl
same_cuts (When rel a b d s) = refl
same_cuts (Invoke d callee args) = refl
same_cuts (Return s) = refl
same_cuts Halt = refl
same_cuts End = refl

-- a step names the same target
pub same_names : (st : Step) (to : ℕ) → option_map_or (λ t. t == to) (flow.target st) false ≡ names_step st to
same_names (Copy d s) to = refl
same_names (Apply d op a b) to = refl
same_names (Load d a) to = refl
same_names (Take d) to = refl
same_names (Store a v) to = refl
same_names (Put v) to = refl
same_names (If rel a b target) to = refl
same_names (Goto target) to = refl
same_names (When rel a b d s) to = refl
same_names (Invoke d callee args) to = refl
same_names (Return s) to = refl
same_names Halt to = refl
same_names End to = refl
