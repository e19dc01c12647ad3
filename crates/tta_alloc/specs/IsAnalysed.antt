-- What is known of a procedure when its intervals are made.
use Rattle.std.specs.Prelude.{◌≡◌, ◌↔◌, ℕ, ◌<◌, ◌-◌, ◌^◌, true, List, length}
use Rattle.tta_alloc.specs.Cited.{Proc, Live, Reached, IsClosed, LiveBefore, live_before, is_found}

-- the steps that paths come to stand in a list, and the answers on what is live are those of the procedure
pub record IsAnalysed (q : Proc) (owner : ℕ) (reached : List ℕ) (live : Live) : Type 0 where
  pub closed : IsClosed q.steps
  pub few : length q.steps < 2 ^ 32 - 1
  pub sound : (i : ℕ) → is_found reached i ≡ true → Reached q.steps i
  pub whole : (i : ℕ) → Reached q.steps i → is_found reached i ≡ true
  pub before : (step x : ℕ) → x < q.vars → (live_before live owner step x ≡ true) ↔ LiveBefore q.steps x step
