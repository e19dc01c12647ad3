-- How it is found out whether a procedure leads back to itself by calls.
use Rattle.std.specs.Prelude.{◌≡◌, ℕ, ◌+◌, ◌<◌, ◌==◌, nat_le, nat_lt, Bool, true, false, ◌&&◌, ◌||◌, if◌then◌else◌, List, [], ◌∷◌, ◌++◌, length, slice_get, slice_index_or}
use Rattle.std.specs.Option.{option_map_or}
use Rattle.std.specs.List.{list_all, list_any}
use Rattle.tta_tac.specs.Cited.{Step, Invoke, Proc, Reaches}
use Rattle.tta_tac.specs.Text.{with_main}

-- no procedure leads back to itself
abbrev pub IsAcyclic : List Proc → Type 0
IsAcyclic procs = (k : ℕ) → Reaches (with_main procs 0) k k → ⊥

-- ---- numbers that never rise along calls

-- whether a step calls only procedures whose number passes a test
abbrev pub passes : (test : ℕ → Bool) (numbers : List ℕ) → Step → Bool
passes test numbers (Invoke d callee args) = option_map_or test (slice_get numbers callee) true
passes test numbers step = true

-- each procedure calls only procedures whose number is no greater than its own
abbrev pub AreLevel : List Proc → (numbers : List ℕ) → Type 0
AreLevel procs numbers =
    (i : ℕ) (q : Proc) → i < length procs → q ≡ slice_index_or procs i q
    → list_all (passes (λ n. nat_le n (slice_index_or numbers i 0)) numbers) q.steps ≡ true

-- ---- a search along calls

-- whether a place was found
abbrev pub is_found : List ℕ → ℕ → Bool
is_found found k = list_any (λ place. place == k) found

-- how many marks are not set
abbrev pub unset : List Bool → ℕ
unset [] = 0
unset (mark ∷ marks) = (if mark then 0 else 1) + unset marks

-- the mark of a place says whether it was found, and none was found twice
pub record IsMarked (marks : List Bool) (found : List ℕ) : Type 0 where
  pub same : (k : ℕ) → slice_index_or marks k false ≡ is_found found k
  pub once : unset marks + length found ≡ length marks

-- besides the places that were found, those that pass a test are, after the others
pub record Finds (places : ℕ) (test : ℕ → Bool) (old new : List ℕ) : Type 0 where
  pub all : (k : ℕ) → is_found new k ≡ (is_found old k || (nat_lt k places && test k))
  pub more : List ℕ
  pub front : new ≡ old ++ more
