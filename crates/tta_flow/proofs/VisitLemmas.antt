-- One step is looked at.
use Rattle.std.proofs.Common.{◌≡◌, ◌≢◌, ◌<◌, ◌/◌, ◌+◌, ℕ, Bool, true, false, List, length, get_or, Option, Some, None, refl, sym, ap, ◌∙◌, ◌⊎◌, inl, inr, arith, subst}
use Rattle.std.specs.Prelude.{◌==◌, ◌||◌, ◌&&◌, not, slice_get, slice_set}
use Rattle.std.specs.Option.{option_map_or}
use Rattle.std.proofs.lemmas.Bool.{cases_eq, eq-eqb, ne_eqb, or_cases}
use Rattle.std.proofs.lemmas.Option.{slice_get_read}
use Rattle.std.proofs.lemmas.List.{length-set}
use Rattle.std.proofs.Math.Bool.{or-true}
use Rattle.tta_list.proofs.Tests.{and_left, and_right, some_same}
use Rattle.tta_flow.specs.Cited.{Step}
use Rattle.tta_flow.specs.declared.bits.BitRow.{BitRow}
use Rattle.tta_flow.specs.declared.rows.Work.{Work}
use Rattle.tta_flow.specs.Bits.{has}
use Rattle.tta_flow.specs.Growth.{Grows}
use Rattle.tta_flow.specs.Paths.{LiveBefore}
use Rattle.tta_flow.specs.Rows.{has_at, wanted, AreWide, IsSettled, IsWork, Visits}
use Rattle.tta_flow.specs.Steps.{leads}
use Rattle.tta_flow.proofs.GrowthLemmas.{bit_in, has_within}
use Rattle.tta_flow.proofs.RowLemmas.{no, wanted_from, wanted_live}
use Rattle.tta_list.proofs.Sets.{set_same as get_set_same, set_other as get_set_other}

-- a step's row takes what the step wants; the others stay
pub record Takes (steps : List Step) (vars at : ℕ) (step : Step) (grown : Bool) (old new : Work) : Type 0 where
  pub count : length new.rows.items ≡ length old.rows.items
  pub wide : AreWide new.rows.items (vars / 64 + 1)
  pub room : length new.room.words.items ≡ length old.room.words.items
  pub flags : length new.due.words.items ≡ length old.due.words.items
  pub there : slice_get steps at ≡ Some step
  pub others : (k : ℕ) → at ≢ k → slice_get new.rows.items k ≡ slice_get old.rows.items k
  pub here : (x : ℕ) → x / 64 < vars / 64 + 1 → has_at new.rows.items at x ≡ (has_at old.rows.items at x || wanted old.rows.items step at x)
  pub same : grown ≡ false → (x : ℕ) → has_at new.rows.items at x ≡ has_at old.rows.items at x
  pub calm : grown ≡ false → (i : ℕ) → has new.due i ≡ (has old.due i && not (at == i))
  pub due : grown ≡ true → (i : ℕ) → i < length steps → has new.due i ≡ ((has old.due i && not (at == i)) || leads steps i at)

module _ (steps : List Step) (vars at : ℕ) (step : Step) (grown : Bool) (old new : Work) (small : at < length steps) (h : IsWork steps vars old)
    (t : Takes steps vars at step grown old new) where
  stays : (k x : ℕ) → at ≢ k → has_at new.rows.items k x ≡ has_at old.rows.items k x
  stays k x other = ap (λ o. option_map_or (λ row. has row x) o false) (t.others k other)

  row_within : (rows : List BitRow) → AreWide rows (vars / 64 + 1) → (i x : ℕ) → has_at rows i x ≡ true → x / 64 < vars / 64 + 1
  row_within rows wide i x e = by (slice_get rows i) refl e where
    by : (o : Option BitRow) → slice_get rows i ≡ o → option_map_or (λ row. has row x) o false ≡ true → x / 64 < vars / 64 + 1
    by None is e = absurd cc
    by (Some row) is e = let w = has_within row x e in let l = wide i row is in omega arith

  sound : (i x : ℕ) → has_at new.rows.items i x ≡ true → LiveBefore steps x i
  sound i x e = elim (cases_eq at i) [
    | inl same ↦ subst (λ (n : ℕ). LiveBefore steps x n) same (now (ap (λ n. has_at new.rows.items n x) same ∙ e))
    | inr other ↦ h.sound i x (sym (stays i x other) ∙ e)
  ] where
    now : has_at new.rows.items at x ≡ true → LiveBefore steps x at
    now f =
        elim (or_cases (has_at old.rows.items at x) (wanted old.rows.items step at x)
        (sym (t.here x (row_within new.rows.items t.wide at x f)) ∙ f)) [
          | inl g ↦ h.sound at x g
          | inr g ↦ wanted_live steps old.rows.items at x step t.there (λ k. h.sound k x) g
        ]

  -- a step that has to be looked at, or the rows that it leads to are the same
  touched : (i : ℕ) → i < length steps
      → (has new.due i ≡ true) ⊎ ((k x : ℕ) → leads steps i k ≡ true → has_at new.rows.items k x ≡ has_at old.rows.items k x)
  touched i below = by grown refl (leads steps i at) refl where
    by : (g : Bool) → grown ≡ g → (l : Bool) → leads steps i at ≡ l
        → (has new.due i ≡ true) ⊎ ((k x : ℕ) → leads steps i k ≡ true → has_at new.rows.items k x ≡ has_at old.rows.items k x)
    by true g true l = inl (t.due g i below ∙ ap (λ b. (has old.due i && not (at == i)) || b) l ∙ or-true (has old.due i && not (at == i)))
    by true g false l = inr (λ k x e. stays k x (λ s. no (sym e ∙ ap (leads steps i) (sym s) ∙ l)))
    by false g l is = inr (λ k x e. elim (cases_eq at k) [
      | inl s ↦ ap (λ n. has_at new.rows.items n x) (sym s) ∙ t.same g x ∙ ap (λ n. has_at old.rows.items n x) s
      | inr other ↦ stays k x other
    ])

  still_due : (i : ℕ) → i < length steps → at ≢ i → has old.due i ≡ true → has new.due i ≡ true
  still_due i below other e = by grown refl where
    kept : (has old.due i && not (at == i)) ≡ true
    kept = ap (λ b. b && not (at == i)) e ∙ ap not (ne_eqb at i other)

    by : (g : Bool) → grown ≡ g → has new.due i ≡ true
    by true g = t.due g i below ∙ ap (λ b. b || leads steps i at) kept
    by false g = t.calm g i ∙ kept

  settled_here : ((k x : ℕ) → leads steps at k ≡ true → has_at new.rows.items k x ≡ has_at old.rows.items k x) → IsSettled steps vars new.rows.items at
  settled_here same x below e =
      let w : wanted new.rows.items step at x ≡ true = sym (ap (λ o. option_map_or (λ s. wanted new.rows.items s at x) o false) t.there) ∙ e in
      let v = wanted_from steps old.rows.items new.rows.items at x step t.there (λ k l f. sym (same k x l) ∙ f) w in
      t.here x (fits x below) ∙ ap (λ b. has_at old.rows.items at x || b) v ∙ or-true (has_at old.rows.items at x)
    where
      fits : (x : ℕ) → x < vars → x / 64 < vars / 64 + 1
      fits x below = omega arith

  settled_there : (i : ℕ) → at ≢ i → ((k x : ℕ) → leads steps i k ≡ true → has_at new.rows.items k x ≡ has_at old.rows.items k x)
      → IsSettled steps vars old.rows.items i → IsSettled steps vars new.rows.items i
  settled_there i other same before x below e = by (slice_get steps i) refl e where
    by : (o : Option Step) → slice_get steps i ≡ o → option_map_or (λ s. wanted new.rows.items s i x) o false ≡ true → has_at new.rows.items i x ≡ true
    by None is e = absurd cc
    by (Some s) is e =
        stays i x other
        ∙ before x below
        (ap (λ o. option_map_or (λ s. wanted old.rows.items s i x) o false) is
        ∙ wanted_from steps old.rows.items new.rows.items i x s is (λ k l f. sym (same k x l) ∙ f) e)

  left : (i : ℕ) → i < length steps → (has new.due i ≡ true) ⊎ (IsSettled steps vars new.rows.items i)
  left i below = elim (touched i below) [
    | inl e ↦ inl e
    | inr same ↦ by same (cases_eq at i)
  ] where
    by : ((k x : ℕ) → leads steps i k ≡ true → has_at new.rows.items k x ≡ has_at old.rows.items k x) → (at ≡ i) ⊎ (at ≢ i)
        → (has new.due i ≡ true) ⊎ (IsSettled steps vars new.rows.items i)
    by same (inl e) =
        inr (subst (λ (n : ℕ). IsSettled steps vars new.rows.items n) e
        (settled_here (subst (λ (n : ℕ). (k x : ℕ) → leads steps n k ≡ true → has_at new.rows.items k x ≡ has_at old.rows.items k x) (sym e) same)))
    by same (inr other) = elim (h.left i below) [
      | inl o ↦ inl (still_due i below other o)
      | inr s ↦ inr (settled_there i other same s)
    ]

  pub takes_visits : Visits steps vars at grown old new
  takes_visits = record {
    work = record {
      count = t.count ∙ h.count;
      wide = t.wide;
      room = t.room ∙ h.room;
      flags = t.flags ∙ h.flags;
      sound = sound;
      left = left;
    };
    calm = λ g i e.
        let f = sym (t.calm g i) ∙ e in
        (and_left (has old.due i) _ f, λ (s : i ≡ at). no (sym (and_right (has old.due i) _ f) ∙ ap not (eq-eqb at i (sym s))));
  }

-- a step's row takes the room, which has what the step wants
pub record Filled (steps : List Step) (vars at : ℕ) (step : Step) (grown : Bool) (row filled : BitRow) (old new : Work) : Type 0 where
  pub work : IsWork steps vars old
  pub below : at < length steps
  pub there : slice_get steps at ≡ Some step
  pub is : row ≡ get_or old.rows.items at row
  pub set : new.rows.items ≡ slice_set old.rows.items at filled
  pub wants : (x : ℕ) → x / 64 < length old.room.words.items → has new.room x ≡ wanted old.rows.items step at x
  pub room : length new.room.words.items ≡ length old.room.words.items
  pub bits : (k : ℕ) → has filled k ≡ (has row k || has new.room k)
  pub grows : Grows grown row filled
  pub flags : length new.due.words.items ≡ length old.due.words.items
  pub calm : grown ≡ false → (i : ℕ) → has new.due i ≡ (has old.due i && not (at == i))
  pub due : grown ≡ true → (i : ℕ) → i < length steps → has new.due i ≡ ((has old.due i && not (at == i)) || leads steps i at)

module _ (steps : List Step) (vars at : ℕ) (step : Step) (grown : Bool) (row filled : BitRow) (old new : Work)
    (f : Filled steps vars at step grown row filled old new) where
  row_below : at < length old.rows.items
  row_below = let c = f.work.count in let b = f.below in omega arith

  row_there : slice_get old.rows.items at ≡ Some row
  row_there = slice_get_read old.rows.items (length old.rows.items) at row refl row_below f.is

  filled_there : slice_get new.rows.items at ≡ Some filled
  filled_there = ap (λ l. slice_get l at) f.set ∙ get_set_same old.rows.items at filled row_below

  other_rows : (k : ℕ) → at ≢ k → slice_get new.rows.items k ≡ slice_get old.rows.items k
  other_rows k other = ap (λ l. slice_get l k) f.set ∙ get_set_other old.rows.items at k filled other

  filled_wide : (k : ℕ) (r : BitRow) → slice_get new.rows.items k ≡ Some r → length r.words.items ≡ vars / 64 + 1
  filled_wide k r e = elim (cases_eq at k) [
    | inl same ↦
        let alike : filled ≡ r = some_same (sym filled_there ∙ ap (slice_get new.rows.items) same ∙ e) in
        ap (λ (b : BitRow). length b.words.items) (sym alike) ∙ f.grows.room ∙ f.work.wide at row row_there
    | inr other ↦ f.work.wide k r (sym (other_rows k other) ∙ e)
  ]

  has_filled : (x : ℕ) → has_at new.rows.items at x ≡ has filled x
  has_filled x = ap (λ o. option_map_or (λ row. has row x) o false) filled_there

  has_row : (x : ℕ) → has row x ≡ has_at old.rows.items at x
  has_row x = sym (ap (λ o. option_map_or (λ row. has row x) o false) row_there)

  pub filled_takes : Takes steps vars at step grown old new
  filled_takes = record {
    count = ap length f.set ∙ length-set old.rows.items at filled;
    wide = filled_wide;
    room = f.room;
    flags = f.flags;
    there = f.there;
    others = other_rows;
    here = λ x small. has_filled x ∙ f.bits x
        ∙ ap (λ b. has row x || b) (f.wants x (let r = f.work.room in omega arith))
        ∙ ap (λ b. b || wanted old.rows.items step at x) (has_row x);
    same = λ g x. has_filled x ∙ ap (λ ws. bit_in ws x) (f.grows.same g) ∙ has_row x;
    calm = f.calm;
    due = f.due;
  }

  pub filled_visits : Visits steps vars at grown old new
  filled_visits = takes_visits steps vars at step grown old new f.below f.work filled_takes

-- a step that has not to be looked at
pub visits_none : (steps : List Step) (vars at : ℕ) (work : Work) → IsWork steps vars work → has work.due at ≡ false
    → Visits steps vars at false work work
visits_none steps vars at work h closed = record {
  work = h;
  calm = λ g i e. (e, λ (s : i ≡ at). no (sym e ∙ ap (has work.due) s ∙ closed));
}
