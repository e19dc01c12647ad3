-- The intervals that take part, before they are brought in order.
use Rattle.std.specs.Prelude.{◌≡◌, ◌↔◌, ℕ, ◌==◌, ◌<◌, ◌≤◌, Bool, true, false, List, Option, Some, None, count_by}
use Rattle.std.specs.List.{Contains}
use Rattle.std.specs.Option.{MatchOption}
use Rattle.tta_alloc.specs.Cited.{Proc, BitRow, has}
use Rattle.tta_alloc.specs.declared.interval.Interval.{Interval}
use Rattle.tta_alloc.specs.declared.met.Seen.{Seen}
use Rattle.tta_alloc.specs.Intervals.{Counts, IsKept, TakesPart, IsSettled}
use Rattle.tta_alloc.specs.Meetings.{met}

-- for each variable the first position that counts for it, if one does
abbrev pub AreFirst : Proc → Seen → Type 0
AreFirst q m = (x : ℕ) → x < q.vars → MatchOption (met m x) ((k : ℕ) → Counts q x k → ⊥)
    (λ first. Counts q x first × ((k : ℕ) → Counts q x k → first ≤ k))

-- for each variable the last position that counts for it, if one does
abbrev pub AreLast : Proc → Seen → Type 0
AreLast q m = (x : ℕ) → x < q.vars → MatchOption (met m x) ((k : ℕ) → Counts q x k → ⊥)
    (λ last. Counts q x last × ((k : ℕ) → Counts q x k → k ≤ last))

-- the variables of a row are those that calls keep
abbrev pub AreKept : Proc → BitRow → Type 0
AreKept q row = (x : ℕ) → x < q.vars → (has row x ≡ true) ↔ IsKept q x

-- the interval of a variable that is not kept, by its first position and its last
abbrev pub interval_of : (kept : Bool) → (first last : Option ℕ) → (x : ℕ) → Option Interval
interval_of true first last x = None
interval_of false None last x = None
interval_of false (Some first) None x = None
interval_of false (Some first) (Some last) x = Some (record { start = first; var = x; end = last })

-- those of the variables below a number, each once
pub record AreAmong (q : Proc) (n : ℕ) (taken : List Interval) : Type 0 where
  pub sound : (iv : Interval) → Contains taken iv → TakesPart q iv
  pub below : (iv : Interval) → Contains taken iv → iv.var < n
  pub whole : (iv : Interval) → iv.var < n → TakesPart q iv → Contains taken iv
  pub once : (x : ℕ) → count_by (λ iv. iv.var == x) taken ≤ 1
  pub each : (x : ℕ) → x < n → IsSettled q taken x
