-- A search along edges, and the places that it finds.
use Rattle.std.specs.Prelude.{◌≡◌, ℕ, suc, zero, ◌+◌, ◌*◌, ◌<◌, ◌≤◌, ◌==◌, nat_lt, Bool, true, ◌&&◌, ◌||◌, if◌then◌else◌, List, ◌++◌, length}
use Rattle.std.specs.List.{list_any}
use Rattle.tta_flow.specs.declared.search.Search.{Search}
use Rattle.tta_flow.specs.Bits.{has}

-- whether a place was found
abbrev pub is_found : List ℕ → ℕ → Bool
is_found found k = list_any (λ place. place == k) found

-- how many numbers below one pass a test
abbrev pub count_below : (ℕ → Bool) → ℕ → ℕ
count_below test zero = 0
count_below test (suc n) = (if test n then 1 else 0) + count_below test n

-- the mark of a place says whether it was found, and none was found twice
pub record IsMarked (s : Search) : Type 0 where
  pub same : (k : ℕ) → has s.marks k ≡ is_found s.queue.items k
  pub once : count_below (has s.marks) s.places ≡ length s.queue.items
  pub small : (k : ℕ) → is_found s.queue.items k ≡ true → k < s.places
  pub room : s.places ≤ 64 * length s.marks.words.items

-- besides the places that were found, those that pass a test are, after the others
pub record Finds (test : ℕ → Bool) (old new : Search) : Type 0 where
  pub marked : IsMarked new
  pub places : new.places ≡ old.places
  pub all : (k : ℕ) → is_found new.queue.items k ≡ (is_found old.queue.items k || (nat_lt k old.places && test k))
  pub more : List ℕ
  pub prefix : new.queue.items ≡ old.queue.items ++ more

-- a place from which edges lead on
pub data Spread (seed : ℕ → Bool) (edge : ℕ → ℕ → Bool) : ℕ → Type 0 where
  AtSeed : (i : ℕ) → seed i ≡ true → Spread seed edge i
  Along : (i j : ℕ) → Spread seed edge i → edge i j ≡ true → Spread seed edge j
