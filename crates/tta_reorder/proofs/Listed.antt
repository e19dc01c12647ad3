-- A list, item by item.
use Rattle.std.proofs.Common.{◌≡◌, ℕ, zero, suc, ◌≤◌, true, false, List, [], ◌∷◌, Some, None, refl, ap, subst, arith, ◌∙◌}
use Rattle.std.specs.Prelude.{not, ◌||◌, map, length, slice_get}
use Rattle.std.proofs.lemmas.Bool.{and_from, and_parts, not-true}
use Rattle.tta_reorder.specs.Cited.{Units, Machine, Item, is_waiting, Held, effect_of, does, lacks, do_items, has_meaning}
use Rattle.tta_moves.proofs.Places.{either}
use Rattle.tta_optim.proofs.Copies.{first_means}
use Rattle.tta_reorder.specs.Channels.{may_wait}
use Rattle.tta_reorder.specs.Orders.{goes_through, settled}
use Rattle.tta_reorder.proofs.Carried.{still_runs}
use Rattle.tta_moves.proofs.Waiting.{stuck_all}

module _ (u : Units) (m : Machine) (addr : List ℕ) (back : ℕ) where
  abbrev pub step : Held → Item → Held
  step h x = does u m back h (effect_of addr x)

  -- what the first n items leave
  abbrev pub state : Held → List Item → ℕ → Held
  state h xs zero = h
  state h [] (suc n) = h
  state h (x ∷ xs) (suc n) = state (step h x) xs n

  pub next : (h : Held) (xs : List Item) (n : ℕ) (x : Item) → slice_get xs n ≡ Some x → state h xs (suc n) ≡ step (state h xs n) x
  next h [] n x e = absurd cc
  next h (y ∷ xs) zero x e = let same : y ≡ x = cc in ap (step h) same
  next h (y ∷ xs) (suc n) x e = next (step h y) xs n x e

  pub past : (h : Held) (xs : List Item) (n : ℕ) → slice_get xs n ≡ None → state h xs (suc n) ≡ state h xs n
  past h [] zero e = refl
  past h [] (suc n) e = refl
  past h (y ∷ xs) zero e = absurd cc
  past h (y ∷ xs) (suc n) e = past (step h y) xs n e

  pub ends : (h : Held) (xs : List Item) → state h xs (length xs) ≡ do_items u m addr back h xs
  ends h [] = refl
  ends h (x ∷ xs) = ends (step h x) xs

  -- ---- a list that does not wait

  stuck : (h : Held) (xs : List Item) (n : ℕ) → is_waiting h.exit ≡ true → state h xs n ≡ h
  stuck h xs zero waits = refl
  stuck h [] (suc n) waits = refl
  stuck h (x ∷ xs) (suc n) waits =
      let same = stuck_all u m back h (effect_of addr x ∷ []) waits in
      ap (λ (k : Held). state k xs n) same ∙ stuck h xs n waits

  runs_first : (h : Held) (xs : List Item) (n : ℕ) → is_waiting (state h xs n).exit ≡ false → is_waiting h.exit ≡ false
  runs_first h xs n runs = either (is_waiting h.exit)
      (λ waits. let same = ap (λ (k : Held). is_waiting k.exit) (stuck h xs n waits) in absurd cc)
      (λ is. is)

  runs_dry : (h : Held) (xs : List Item) (n : ℕ) → is_waiting h.exit ≡ false → goes_through m xs ≡ true → is_waiting (state h xs n).exit ≡ false
  runs_dry h xs zero runs dry = runs
  runs_dry h [] (suc n) runs dry = runs
  runs_dry h (x ∷ xs) (suc n) runs dry =
      let two = and_parts (not (may_wait m x)) (goes_through m xs) dry in
      runs_dry (step h x) xs n (still_runs u m addr back h x runs (not-true (may_wait m x) two.0)) two.1

  -- a list that does not wait after the last item that may wait never does
  pub runs_at : (h : Held) (xs : List Item) → is_waiting (state h xs (settled m xs)).exit ≡ false → (n : ℕ) → is_waiting (state h xs n).exit ≡ false
  runs_at h [] runs zero = runs
  runs_at h [] runs (suc n) = runs
  runs_at h (x ∷ xs) runs n = either (goes_through m (x ∷ xs))
      (λ dry. runs_dry h (x ∷ xs) n (rw dry at runs) dry)
      (λ wet. let later : is_waiting (state (step h x) xs (settled m xs)).exit ≡ false = rw wet at runs in
      on n (runs_first h (x ∷ xs) (suc (settled m xs)) later) (runs_at (step h x) xs later)) where
        on : (n : ℕ) → is_waiting h.exit ≡ false → ((k : ℕ) → is_waiting (state (step h x) xs k).exit ≡ false) → is_waiting (state h (x ∷ xs) n).exit ≡ false
        on zero first later = first
        on (suc n) first later = later n

  dry_at : (xs : List Item) (n : ℕ) (x : Item) → goes_through m xs ≡ true → slice_get xs n ≡ Some x → may_wait m x ≡ false
  dry_at [] n x dry e = absurd cc
  dry_at (y ∷ xs) zero x dry e =
      let same : y ≡ x = cc in
      subst (λ (z : Item). may_wait m z ≡ false) same (not-true (may_wait m y) (and_parts (not (may_wait m y)) (goes_through m xs) dry).0)
  dry_at (y ∷ xs) (suc n) x dry e = dry_at xs n x (and_parts (not (may_wait m y)) (goes_through m xs) dry).1 e

  -- an item after the last that may wait does not
  pub dry_after : (xs : List Item) (n : ℕ) (x : Item) → settled m xs ≤ n → slice_get xs n ≡ Some x → may_wait m x ≡ false
  dry_after [] n x le e = absurd cc
  dry_after (y ∷ xs) n x le e = either (goes_through m (y ∷ xs))
      (λ dry. dry_at (y ∷ xs) n x dry e)
      (λ wet. on n (rw wet at le) e (λ k. dry_after xs k x)) where
        on : (n : ℕ) → suc (settled m xs) ≤ n → slice_get (y ∷ xs) n ≡ Some x → ((k : ℕ) → settled m xs ≤ k → slice_get xs k ≡ Some x → may_wait m x ≡ false) → may_wait m x ≡ false
        on zero le e later = absurd (omega (arith, le))
        on (suc n) le e later = later n (omega (arith, le)) e

  pub fine_at : (h : Held) (xs : List Item) (n : ℕ) (x : Item) → ((k : ℕ) → is_waiting (state h xs k).exit ≡ false) → has_meaning u m addr back h xs ≡ true
      → slice_get xs n ≡ Some x → lacks m (state h xs n) (effect_of addr x) ≡ false
  fine_at h [] n x runs ok e = absurd cc
  fine_at h (y ∷ xs) zero x runs ok e =
      let same : y ≡ x = cc in
      subst (λ (z : Item). lacks m h (effect_of addr z) ≡ false) same (first_means u m back h (effect_of addr y) (map (effect_of addr) xs) (runs 0) ok).0
  fine_at h (y ∷ xs) (suc n) x runs ok e =
      fine_at (step h y) xs n x (λ k. runs (suc k)) (first_means u m back h (effect_of addr y) (map (effect_of addr) xs) (runs 0) ok).1 e

  -- each item has what it needs, or the list waits
  pub means_at : (h : Held) (xs : List Item) (n : ℕ) (x : Item) → has_meaning u m addr back h xs ≡ true → slice_get xs n ≡ Some x
      → (is_waiting (state h xs n).exit || not (lacks m (state h xs n) (effect_of addr x))) ≡ true
  means_at h [] n x ok e = absurd cc
  means_at h (y ∷ xs) zero x ok e =
      let same : y ≡ x = cc in
      subst (λ (z : Item). (is_waiting h.exit || not (lacks m h (effect_of addr z))) ≡ true) same
      (and_parts (is_waiting h.exit || not (lacks m h (effect_of addr y))) (has_meaning u m addr back (step h y) xs) ok).0
  means_at h (y ∷ xs) (suc n) x ok e =
      means_at (step h y) xs n x (and_parts (is_waiting h.exit || not (lacks m h (effect_of addr y))) (has_meaning u m addr back (step h y) xs) ok).1 e

  -- and a list of which each item has what it needs, or that waits, has a meaning
  pub means_from : (h : Held) (xs : List Item)
      → ((n : ℕ) (x : Item) → slice_get xs n ≡ Some x → (is_waiting (state h xs n).exit || not (lacks m (state h xs n) (effect_of addr x))) ≡ true)
      → has_meaning u m addr back h xs ≡ true
  means_from h [] each = refl
  means_from h (x ∷ xs) each = and_from _ _ (each 0 x refl) (means_from (step h x) xs (λ n y is. each (suc n) y is))

  -- a list that waits after some items stays as it is
  pub waits_still : (h : Held) (xs : List Item) (n : ℕ) → is_waiting (state h xs n).exit ≡ true → state h xs (length xs) ≡ state h xs n
  waits_still h [] zero waits = refl
  waits_still h [] (suc n) waits = refl
  waits_still h (x ∷ xs) zero waits = stuck h (x ∷ xs) (length (x ∷ xs)) waits
  waits_still h (x ∷ xs) (suc n) waits = waits_still (step h x) xs n waits
