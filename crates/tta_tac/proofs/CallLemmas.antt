-- Procedures that others lead to by calls.
use Rattle.std.proofs.Common.{◌≡◌, ℕ, ◌<◌, ◌≤◌, Bool, true, false, List, [], ◌∷◌, length, get_or, Option, Some, None, nat_le, refl, sym, ap, ◌∙◌, arith}
use Rattle.std.specs.Prelude.{◌||◌, slice_get}
use Rattle.std.specs.List.{list_all, list_any}
use Rattle.std.specs.Option.{option_map_or}
use Rattle.std.proofs.lemmas.Bool.{leb-true}
use Rattle.std.proofs.lemmas.Option.{slice_get_read, slice_get_within, slice_get-get_or, get_or_from_slice_get}
use Rattle.tta_list.proofs.Tests.{and_left, and_right}
use Rattle.tta_tac.specs.Cited.{Step, Invoke, Proc, calls, calls_proc, Reaches, ByCall, ByMore}
use Rattle.tta_tac.specs.Text.{with_main}
use Rattle.tta_tac.specs.Cycles.{AreLevel, passes, is_found}

-- what a procedure calls, by its steps
pub calls_of : (procs : List Proc) (i j : ℕ) (q : Proc) → i < length procs → q ≡ get_or procs i q
    → calls (with_main procs 0) i j ≡ list_any (calls_proc j) q.steps
calls_of procs i j q below e =
    ap (λ o. option_map_or (λ q. list_any (calls_proc j) q.steps) o false) (slice_get_read procs (length procs) i q refl below e)

-- only a procedure that there is calls
pub calls_within : (procs : List Proc) (i j : ℕ) → calls (with_main procs 0) i j ≡ true → i < length procs
calls_within procs i j e = by (slice_get procs i) refl e where
  by : (o : Option Proc) → slice_get procs i ≡ o → option_map_or (λ q. list_any (calls_proc j) q.steps) o false ≡ true → i < length procs
  by None at e = absurd cc
  by (Some q) at e = slice_get_within procs i q at

-- a procedure that calls, with its steps
pub caller : (procs : List Proc) (i j : ℕ) → calls (with_main procs 0) i j ≡ true
    → (q : Proc) × (q ≡ get_or procs i q) × (list_any (calls_proc j) q.steps ≡ true)
caller procs i j e = by (slice_get procs i) refl e where
  by : (o : Option Proc) → slice_get procs i ≡ o → option_map_or (λ q. list_any (calls_proc j) q.steps) o false ≡ true
      → (q : Proc) × (q ≡ get_or procs i q) × (list_any (calls_proc j) q.steps ≡ true)
  by None at e = absurd cc
  by (Some q) at e = (q, sym (get_or_from_slice_get procs i q q at), e)

pub reaches_within : (procs : List Proc) (i j : ℕ) → Reaches (with_main procs 0) i j → i < length procs
reaches_within procs i j (ByCall _ _ e) = calls_within procs i j e
reaches_within procs i j (ByMore _ via _ e r) = calls_within procs i via e

-- ---- numbers that never rise

module _ (test : ℕ → Bool) (numbers : List ℕ) (j : ℕ) (below : j < length numbers) where
  pass_one : (s : Step) → passes test numbers s ≡ true → calls_proc j s ≡ true → test (get_or numbers j 0) ≡ true
  pass_one (Invoke d k args) pass call = grind (arith, slice_get-get_or numbers j 0 below)
  pass_one s pass call = absurd cc

  pub pass_all : (ss : List Step) → list_all (passes test numbers) ss ≡ true → list_any (calls_proc j) ss ≡ true
      → test (get_or numbers j 0) ≡ true
  pass_all [] pass call = absurd cc
  pass_all (s ∷ ss) pass call = by (pass_all ss (and_right (passes test numbers s) _ pass)) (calls_proc j s) refl call where
    by : (list_any (calls_proc j) ss ≡ true → test (get_or numbers j 0) ≡ true)
        → (t : Bool) → calls_proc j s ≡ t → (t || list_any (calls_proc j) ss) ≡ true → test (get_or numbers j 0) ≡ true
    by rest true at e = pass_one s (and_left (passes test numbers s) (list_all (passes test numbers) ss) pass) at
    by rest false at e = rest e

module _ (procs : List Proc) (numbers : List ℕ) (size : length numbers ≡ length procs) (level : AreLevel procs numbers) where
  -- the numbers that a procedure calls pass what its steps pass
  call_passes : (test : ℕ → Bool) (i j : ℕ) (q : Proc) → i < length procs → q ≡ get_or procs i q → list_all (passes test numbers) q.steps ≡ true
      → calls (with_main procs 0) i j ≡ true → j < length procs → test (get_or numbers j 0) ≡ true
  call_passes test i j q within at pass e below =
      let there : j < length numbers = omega arith in
      pass_all test numbers j there q.steps pass (sym (calls_of procs i j q within at) ∙ e)

  call_level : (i j : ℕ) → calls (with_main procs 0) i j ≡ true → j < length procs → get_or numbers j 0 ≤ get_or numbers i 0
  call_level i j e below =
      let found = caller procs i j e in
      let within = calls_within procs i j e in
      leb-true (get_or numbers j 0) (get_or numbers i 0)
      (call_passes (λ n. nat_le n (get_or numbers i 0)) i j found.0 within found.1 (level i found.0 within found.1) e below)

  reach_level : (i j : ℕ) → Reaches (with_main procs 0) i j → j < length procs → get_or numbers j 0 ≤ get_or numbers i 0
  reach_level i j (ByCall _ _ e) below = call_level i j e below
  reach_level i j (ByMore _ via _ e r) below =
      let first = call_level i via e (reaches_within procs via j r) in
      let rest = reach_level via j r below in
      omega arith

  -- a procedure all of whose calls go to smaller numbers does not lead back to itself
  pub not_back : (k : ℕ) (q : Proc) (most : ℕ) → k < length procs → q ≡ get_or procs k q → most < get_or numbers k 0
      → list_all (passes (λ n. nat_le n most) numbers) q.steps ≡ true → Reaches (with_main procs 0) k k → ⊥
  not_back k q most within at less falls (ByCall _ _ e) =
      let one = leb-true (get_or numbers k 0) most (call_passes (λ n. nat_le n most) k k q within at falls e within) in
      absurd (omega arith)
  not_back k q most within at less falls (ByMore _ via _ e r) =
      let one = leb-true (get_or numbers via 0) most (call_passes (λ n. nat_le n most) k via q within at falls e (reaches_within procs via k r)) in
      let back = reach_level via k r within in
      absurd (omega arith)

-- ---- what is closed under calls

module _ (procs : List Proc) (found : List ℕ)
    (closed : (i j : ℕ) → is_found found i ≡ true → j < length procs → calls (with_main procs 0) i j ≡ true → is_found found j ≡ true) where
  onward : (i j : ℕ) → is_found found i ≡ true → Reaches (with_main procs 0) i j → j < length procs → is_found found j ≡ true
  onward i j f (ByCall _ _ e) below = closed i j f below e
  onward i j f (ByMore _ via _ e r) below = onward via j (closed i via f (reaches_within procs via j r) e) r below

  pub all_found : (from j : ℕ)
      → ((j : ℕ) → j < length procs → calls (with_main procs 0) from j ≡ true → is_found found j ≡ true)
      → Reaches (with_main procs 0) from j → j < length procs → is_found found j ≡ true
  all_found from j start (ByCall _ _ e) below = start j below e
  all_found from j start (ByMore _ via _ e r) below = onward via j (start via (reaches_within procs via j r) e) r below

-- one call more
pub reaches_on : (procs : List Proc) (i via j : ℕ) → Reaches (with_main procs 0) i via → calls (with_main procs 0) via j ≡ true
    → Reaches (with_main procs 0) i j
reaches_on procs i via j (ByCall _ _ e) f = ByMore i via j e (ByCall via j f)
reaches_on procs i via j (ByMore _ m _ e r) f = ByMore i m j e (reaches_on procs m via j r f)
