-- The intervals of variables.
use Rattle.std.specs.Prelude.{◌≡◌, ℕ, ◌+◌, ◌<◌, ◌≤◌, ◌==◌, Bool, true, false, not, List, Some, slice_get, ◌⊎◌}
use Rattle.std.specs.Option.{option_map_or}
use Rattle.std.specs.List.{Contains}
use Rattle.tta_alloc.specs.Cited.{Step, Invoke, Proc, reads_at, assigns_at, Reached, LiveBefore, LiveAfter}
use Rattle.tta_alloc.specs.declared.interval.Interval.{Interval}

-- ---- positions

-- A position that counts for a variable: 0 is the entry of the procedure, and i + 1 its step i, where paths come to it.
-- At the entry parameters are assigned, and so are the other variables that are live there.
pub data Counts (q : Proc) (x : ℕ) : ℕ → Type 0 where
  IsParam : x < q.params → Counts q x 0
  IsLiveAtEntry : LiveBefore q.steps x 0 → Counts q x 0
  IsRead : (i : ℕ) → Reached q.steps i → reads_at q.steps i x ≡ true → Counts q x (i + 1)
  IsAssigned : (i : ℕ) → Reached q.steps i → assigns_at q.steps i x ≡ true → Counts q x (i + 1)
  IsLiveBefore : (i : ℕ) → Reached q.steps i → LiveBefore q.steps x i → Counts q x (i + 1)
  IsLiveAfter : (i : ℕ) → Reached q.steps i → LiveAfter q.steps x i → Counts q x (i + 1)

-- the least range that holds each position that counts
pub record IsInterval (q : Proc) (x start end : ℕ) : Type 0 where
  pub first : Counts q x start
  pub last : Counts q x end
  pub all : (at : ℕ) → Counts q x at → (start ≤ at) × (at ≤ end)

-- ---- variables that are kept over calls

-- whether a step is a call that does not assign the variable
abbrev pub keeps : Step → ℕ → Bool
keeps (Invoke d callee args) x = not (option_map_or (λ v. v == x) d false)
keeps step x = false

abbrev pub keeps_at : List Step → (at x : ℕ) → Bool
keeps_at steps at x = option_map_or (λ s. keeps s x) (slice_get steps at) false

-- a variable is live after a call that paths come to, and is not the call's destination
pub record IsKept (q : Proc) (x : ℕ) : Type 0 where
  pub at : ℕ
  pub reached : Reached q.steps at
  pub keeps : keeps_at q.steps at x ≡ true
  pub live : LiveAfter q.steps x at

-- ---- the intervals that take part, in the order in which they are taken

-- one interval is taken before another: by its start, ties by the number of the variable
abbrev pub IsBefore : Interval → Interval → Type 0
IsBefore a b = (a.start < b.start) ⊎ ((a.start ≡ b.start) × (a.var < b.var))

-- an interval of a variable of the procedure that no call keeps
pub record TakesPart (q : Proc) (iv : Interval) : Type 0 where
  pub var : iv.var < q.vars
  pub interval : IsInterval q iv.var iv.start iv.end
  pub free : IsKept q iv.var → ⊥

-- a call keeps the variable, or no position counts for it, or its interval is in the list
abbrev pub IsSettled : (q : Proc) (taken : List Interval) (x : ℕ) → Type 0
IsSettled q taken x =
    (IsKept q x) ⊎ (((at : ℕ) → Counts q x at → ⊥) ⊎ ((iv : Interval) × ((Contains taken iv) × (iv.var ≡ x))))

-- all of them, in order; so each variable is settled
pub record AreTaken (q : Proc) (taken : List Interval) : Type 0 where
  pub sound : (k : ℕ) (iv : Interval) → slice_get taken k ≡ Some iv → TakesPart q iv
  pub whole : (iv : Interval) → TakesPart q iv → (k : ℕ) × (slice_get taken k ≡ Some iv)
  pub rising : (j k : ℕ) (a b : Interval) → j < k → slice_get taken j ≡ Some a → slice_get taken k ≡ Some b → IsBefore a b
  pub each : (x : ℕ) → x < q.vars → IsSettled q taken x
