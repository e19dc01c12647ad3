-- Which variables are live where, as it is kept in rows.
use Rattle.std.specs.Prelude.{◌≡◌, ◌↔◌, ℕ, ◌+◌, ◌<◌, Bool, true, false, ◌&&◌, if◌then◌else◌, List, Some, map, slice_get}
use Rattle.std.specs.Option.{option_map_or}
use Rattle.tta_flow.specs.Cited.{Step, Proc, Program}
use Rattle.tta_flow.specs.declared.bits.BitRow.{BitRow}
use Rattle.tta_flow.specs.declared.live.Live.{Live}
use Rattle.tta_flow.specs.declared.live.LiveProc.{LiveProc}
use Rattle.tta_flow.specs.declared.live.Next.{Next}
use Rattle.tta_flow.specs.Rows.{has_at}
use Rattle.tta_flow.specs.Steps.{falls_through, target}
use Rattle.tta_flow.specs.Paths.{LiveBefore, LiveAfter}

-- ---- what is answered

abbrev pub before_in : LiveProc → (step x : ℕ) → Bool
before_in l step x = has_at l.rows.items step x

abbrev pub after_next : LiveProc → Next → (step x : ℕ) → Bool
after_next l next step x =
    if next.falls_through && before_in l (step + 1) x then true else option_map_or (λ to. before_in l to x) next.target false

abbrev pub after_in : LiveProc → (step x : ℕ) → Bool
after_in l step x = option_map_or (λ next. after_next l next step x) (slice_get l.nexts.items step) false

-- what `before` answers
unfoldable pub live_before : Live → (owner step x : ℕ) → Bool
live_before l owner step x = option_map_or (λ q. before_in q step x) (slice_get l.procs.items owner) false

-- what `after` answers
unfoldable pub live_after : Live → (owner step x : ℕ) → Bool
live_after l owner step x = option_map_or (λ q. after_in q step x) (slice_get l.procs.items owner) false

-- ---- what is kept

-- a row for each step: the variables that are live before it
pub record AreRows (steps : List Step) (vars : ℕ) (rows : List BitRow) : Type 0 where
  pub sound : (x k : ℕ) → x < vars → has_at rows k x ≡ true → LiveBefore steps x k
  pub whole : (x k : ℕ) → x < vars → LiveBefore steps x k → has_at rows k x ≡ true

abbrev pub next_of : Step → Next
next_of s = record { falls_through = falls_through s; target = target s }

pub record IsLiveProc (q : Proc) (l : LiveProc) : Type 0 where
  pub rows : AreRows q.steps q.vars l.rows.items
  pub nexts : l.nexts.items ≡ map next_of q.steps

-- ---- what is live in a program

-- The answers are those of a program: they say of each of its variables, by paths, whether it is live.
pub record IsLive (p : Program) (l : Live) : Type 0 where
  pub before : (owner step x : ℕ) (q : Proc) → slice_get p.procs owner ≡ Some q → x < q.vars
      → (live_before l owner step x ≡ true) ↔ LiveBefore q.steps x step
  pub after : (owner step x : ℕ) (q : Proc) → slice_get p.procs owner ≡ Some q → x < q.vars
      → (live_after l owner step x ≡ true) ↔ LiveAfter q.steps x step
