-- What a step reads and assigns, and which steps can follow it.
use Rattle.std.specs.Prelude.{ℕ, ◌+◌, ◌==◌, Bool, true, false, ◌&&◌, ◌||◌, List, Option, Some, None, slice_get}
use Rattle.std.specs.Option.{option_map_or}
use Rattle.std.specs.List.{list_any}
use Rattle.tta_flow.specs.Cited.{Src, Var, Word, Step, Copy, Apply, Load, Take, Store, Put, If, Goto, When, Invoke, Return, Halt, End}

-- ---- variables

-- whether an operand is a variable
abbrev pub is_var : Src → ℕ → Bool
is_var (Var y) x = y == x
is_var (Word w) x = false

-- whether a step reads a variable; a copy under a condition reads its destination too
abbrev pub reads : Step → ℕ → Bool
reads (Copy d s) x = is_var s x
reads (Apply d op a b) x = is_var a x || is_var b x
reads (Load d a) x = is_var a x
reads (Store a v) x = is_var a x || is_var v x
reads (Put v) x = is_var v x
reads (If rel a b to) x = is_var a x || is_var b x
reads (When rel a b d s) x = is_var a x || is_var b x || is_var s x || d == x
reads (Invoke d callee args) x = list_any (λ s. is_var s x) args
reads (Return s) x = option_map_or (λ v. is_var v x) s false
reads step x = false

-- the variable that a step assigns, if it assigns one
abbrev pub assigned : Step → Option ℕ
assigned (Copy d s) = Some d
assigned (Apply d op a b) = Some d
assigned (Load d a) = Some d
assigned (Take d) = Some d
assigned (When rel a b d s) = Some d
assigned (Invoke d callee args) = d
assigned step = None

-- whether a step assigns a variable
abbrev pub assigns : Step → ℕ → Bool
assigns step x = option_map_or (λ d. d == x) (assigned step) false

-- ---- what follows

-- the step that a branch names
abbrev pub target : Step → Option ℕ
target (If rel a b to) = Some to
target (Goto to) = Some to
target step = None

-- whether the step in the next place can follow; after a call it does
abbrev pub falls_through : Step → Bool
falls_through (Goto to) = false
falls_through (Return s) = false
falls_through Halt = false
falls_through End = false
falls_through step = true

-- whether a block ends with this step: a branch, a call, a return or a halt
abbrev pub cuts : Step → Bool
cuts (If rel a b to) = true
cuts (Goto to) = true
cuts (Invoke d callee args) = true
cuts (Return s) = true
cuts Halt = true
cuts End = true
cuts step = false

-- whether the step at a place can be followed by that at another
abbrev pub follows : Step → (at next : ℕ) → Bool
follows step at next = (falls_through step && at + 1 == next) || option_map_or (λ to. to == next) (target step) false

-- ---- the same of the steps of a procedure, by their places

abbrev pub reads_at : List Step → (at x : ℕ) → Bool
reads_at steps at x = option_map_or (λ s. reads s x) (slice_get steps at) false

abbrev pub assigns_at : List Step → (at x : ℕ) → Bool
assigns_at steps at x = option_map_or (λ s. assigns s x) (slice_get steps at) false

abbrev pub cuts_at : List Step → ℕ → Bool
cuts_at steps at = option_map_or cuts (slice_get steps at) false

abbrev pub branches : List Step → (at to : ℕ) → Bool
branches steps at to = option_map_or (λ s. option_map_or (λ t. t == to) (target s) false) (slice_get steps at) false

abbrev pub leads : List Step → (at next : ℕ) → Bool
leads steps at next = option_map_or (λ s. follows s at next) (slice_get steps at) false
