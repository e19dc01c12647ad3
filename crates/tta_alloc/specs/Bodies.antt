-- A procedure with what is known of it, and which variables are found at its positions.
use Rattle.std.specs.Prelude.{◌≡◌, ◌↔◌, ℕ, ◌+◌, ◌-◌, ◌^◌, ◌<◌, ◌/◌, ◌==◌, nat_lt, Bool, true, ◌&&◌, ◌||◌, if◌then◌else◌, length}
use Rattle.tta_alloc.specs.Cited.{BitRow, has, live_before, Reached, IsClosed, LiveBefore, assigns_at}
use Rattle.tta_alloc.specs.declared.body.Body.{Body}
use Rattle.tta_alloc.specs.Intervals.{keeps_at}

-- the steps that paths come to stand in a row, and the answers on what is live are those of the procedure
pub record IsKnown (b : Body) : Type 0 where
  pub closed : IsClosed b.q.now.steps
  pub few : length b.q.now.steps < 2 ^ 32 - 1
  pub sound : (i : ℕ) → i < length b.q.now.steps → has b.reached.now i ≡ true → Reached b.q.now.steps i
  pub whole : (i : ℕ) → Reached b.q.now.steps i → has b.reached.now i ≡ true
  pub before : (step x : ℕ) → x < b.q.now.vars → (live_before b.live.now b.owner step x ≡ true) ↔ LiveBefore b.q.now.steps x step

-- ---- positions

-- whether a variable is assigned at the entry
abbrev pub at_entry : Body → (x : ℕ) → Bool
at_entry b x = nat_lt x b.q.now.params || live_before b.live.now b.owner 0 x

-- whether paths come to a step, and it assigns a variable or has it live before
abbrev pub at_step : Body → (at x : ℕ) → Bool
at_step b at x = has b.reached.now at && (live_before b.live.now b.owner at x || assigns_at b.q.now.steps at x)

-- whether a position is found to count for a variable
abbrev pub counted : Body → (place x : ℕ) → Bool
counted b place x = if place == 0 then at_entry b x else at_step b (place - 1) x

-- ---- calls

-- whether a variable is live after a step that is a call and does not assign it
abbrev pub is_held_over : Body → (at x : ℕ) → Bool
is_held_over b at x = live_before b.live.now b.owner (at + 1) x && keeps_at b.q.now.steps at x

-- the same of a step that paths come to
abbrev pub is_held : Body → (at x : ℕ) → Bool
is_held b at x = has b.reached.now at && is_held_over b at x

-- ---- rows

-- a row has the same room as before, and as far as that goes the numbers that pass a test
pub record Fills (test : ℕ → Bool) (old new : BitRow) : Type 0 where
  pub room : length new.words.items ≡ length old.words.items
  pub bits : (k : ℕ) → k / 64 < length old.words.items → has new k ≡ test k
