-- What holds of the holders and of the homes from interval to interval.
use Rattle.std.proofs.Common.{◌≡◌, ◌≢◌, ℕ, ◌+◌, ◌<◌, ◌≤◌, Bool, cond, List, [], ◌∷◌, ◌++◌, length, Some, sym, ◌∙◌, ap, subst, arith, ◌⊎◌, inl, inr}
use Rattle.std.specs.Prelude.{slice_get, slice_set, count_by}
use Rattle.std.proofs.lemmas.Bool.{cases_eq}
use Rattle.tta_alloc.specs.declared.interval.Interval.{Interval}
use Rattle.tta_alloc.specs.declared.home.Home.{Home}
use Rattle.tta_alloc.specs.declared.home.Home.TheVariants.{Reg, Slot}
use Rattle.tta_alloc.specs.Scan.{Scan}
use Rattle.tta_alloc.specs.Law.{stands_at}
use Rattle.tta_alloc.proofs.TakenLemmas.{count_push}
use Rattle.tta_alloc.proofs.ListLemmas.{In, in_front, in_last, in_cases}
use Rattle.tta_list.proofs.Sets.{set_same, set_other}
use Rattle.tta_list.proofs.Tests.{some_same}

pub record Kept (homes : ℕ) (done : List Interval) (s : Scan) : Type 0 where
  pub holds : (k : ℕ) (h : Interval) → slice_get s.holders k ≡ Some h → (In done h) × (slice_get s.homes h.var ≡ Some (Reg k))
  pub regs : (a : Interval) (k : ℕ) → In done a → slice_get s.homes a.var ≡ Some (Reg k)
      → (h : Interval) × ((slice_get s.holders k ≡ Some h) × ((a ≡ h) ⊎ (a.end < h.start)))
  pub apart : (a b : Interval) (k : ℕ) → In done a → In done b → slice_get s.homes a.var ≡ Some (Reg k) → slice_get s.homes b.var ≡ Some (Reg k)
      → (a ≡ b) ⊎ ((a.end < b.start) ⊎ (b.end < a.start))
  pub fresh : (x : ℕ) (home : Home) → slice_get s.homes x ≡ Some home
      → (home ≡ Slot x) ⊎ ((a : Interval) × ((In done a) × ((a.var ≡ x) × ((k : ℕ) × (home ≡ Reg k)))))
  pub few : length s.holders ≤ homes
  pub count : (p : Interval → Bool) → count_by p s.holders ≤ count_by p done
  pub full : (a : Interval) → In done a → slice_get s.homes a.var ≡ Some (Slot a.var)
      → (at : ℕ) × ((a.start ≤ at) × ((at ≤ a.end) × (homes < count_by (stands_at at) done)))

pub reg_slot : {A : Type 0} (k x : ℕ) → Reg k ≡ Slot x → A
reg_slot k x e = absurd cc

pub reg_same : (j k : ℕ) → Reg j ≡ Reg k → j ≡ k
reg_same j k e = cc

-- an interval takes a place; the one that held it has ended or went to its slot
module _ (homes : ℕ) (done : List Interval) (s : Scan) (new : Interval) (place : ℕ) (holders : List Interval) (between : List Home)
    (h : Kept homes done s)
    (sane : (a : Interval) → In done a → (a.start ≤ a.end) × ((a.start ≤ new.start) × (a.var ≢ new.var)))
    (small : new.var < length between) (room : length holders ≤ homes)
    (put_same : slice_get holders place ≡ Some new)
    (put_back : (k : ℕ) (g : Interval) → k ≢ place → slice_get holders k ≡ Some g → slice_get s.holders k ≡ Some g)
    (put_there : (k : ℕ) (g : Interval) → k ≢ place → slice_get s.holders k ≡ Some g → slice_get holders k ≡ Some g)
    (put_count : (p : Interval → Bool) → count_by p holders ≤ count_by p s.holders + cond (p new) 1 0)
    (less : (x k : ℕ) → slice_get between x ≡ Some (Reg k) → slice_get s.homes x ≡ Some (Reg k))
    (stays : (a : Interval) (k : ℕ) → In done a → slice_get s.homes a.var ≡ Some (Reg k) → k ≢ place → slice_get between a.var ≡ Some (Reg k))
    (ended : (a : Interval) → In done a → slice_get between a.var ≡ Some (Reg place) → a.end < new.start)
    (slots : (x : ℕ) (home : Home) → slice_get between x ≡ Some home → (home ≡ Slot x) ⊎ (slice_get s.homes x ≡ Some home))
    (crowd : (a : Interval) → In done a → slice_get between a.var ≡ Some (Slot a.var)
    → (at : ℕ) × ((a.start ≤ at) × ((at ≤ a.end) × (homes < count_by (stands_at at) (done ++ new ∷ []))))) where
  now : Scan
  now = record { holders = holders; homes = slice_set between new.var (Reg place) }

  mine : slice_get (slice_set between new.var (Reg place)) new.var ≡ Some (Reg place)
  mine = set_same between new.var (Reg place) small

  -- the home of an earlier one
  earlier : (a : Interval) → In done a → slice_get (slice_set between new.var (Reg place)) a.var ≡ slice_get between a.var
  earlier a i = set_other between new.var a.var (Reg place) (λ e. (sane a i).1.1 (sym e))

  place_is : (k : ℕ) → slice_get (slice_set between new.var (Reg place)) new.var ≡ Some (Reg k) → k ≡ place
  place_is k e = reg_same k place (some_same (sym e ∙ mine))

  pub taken_one : Kept homes (done ++ new ∷ []) (record { holders = holders; homes = slice_set between new.var (Reg place) })
  taken_one = record {
    holds = λ k g e. holds k g e (cases_eq k place);
    regs = λ a k i e. regs a k e (in_cases done new a i);
    apart = λ a b k i j e f. apart a b k e f (in_cases done new a i) (in_cases done new b j);
    fresh = λ x home e. fresh x home e (cases_eq new.var x);
    few = room;
    count = λ p. let a = put_count p in let b = h.count p in let c = count_push p done new in omega arith;
    full = λ a i e. full a e (in_cases done new a i);
  } where
    holds : (k : ℕ) (g : Interval) → slice_get holders k ≡ Some g → (k ≡ place) ⊎ (k ≢ place)
        → (In (done ++ new ∷ []) g) × (slice_get (slice_set between new.var (Reg place)) g.var ≡ Some (Reg k))
    holds k g e (inl at) =
        let same : new ≡ g = some_same (sym put_same ∙ ap (slice_get holders) (sym at) ∙ e) in (
          subst (In (done ++ new ∷ [])) same (in_last done new),
          subst (λ (x : Interval). slice_get (slice_set between new.var (Reg place)) x.var ≡ Some (Reg k)) same (mine ∙ ap (λ (n : ℕ). Some (Reg n)) (sym at)),
        )
    holds k g e (inr other) =
        let o = h.holds k g (put_back k g other e) in
        (in_front done (new ∷ []) g o.0, earlier g o.0 ∙ stays g k o.0 o.1 other)

    regs : (a : Interval) (k : ℕ) → slice_get (slice_set between new.var (Reg place)) a.var ≡ Some (Reg k) → (In done a) ⊎ (new ≡ a)
        → (g : Interval) × ((slice_get holders k ≡ Some g) × ((a ≡ g) ⊎ (a.end < g.start)))
    regs a k e (inl i) = by (cases_eq k place) where
      was : slice_get between a.var ≡ Some (Reg k)
      was = sym (earlier a i) ∙ e

      by : (k ≡ place) ⊎ (k ≢ place) → (g : Interval) × ((slice_get holders k ≡ Some g) × ((a ≡ g) ⊎ (a.end < g.start)))
      by (inl at) = (new, (ap (slice_get holders) at ∙ put_same, inr (ended a i (was ∙ ap (λ (n : ℕ). Some (Reg n)) at))))
      by (inr other) =
          let o = h.regs a k i (less a.var k was) in
          (o.0, (put_there k o.0 other o.1.0, o.1.1))
    regs a k e (inr n) =
        let at : k ≡ place = place_is k (ap (λ (x : Interval). slice_get (slice_set between new.var (Reg place)) x.var) n ∙ e) in
        (new, (ap (slice_get holders) at ∙ put_same, inl (sym n)))

    apart : (a b : Interval) (k : ℕ) → slice_get (slice_set between new.var (Reg place)) a.var ≡ Some (Reg k)
        → slice_get (slice_set between new.var (Reg place)) b.var ≡ Some (Reg k) → (In done a) ⊎ (new ≡ a) → (In done b) ⊎ (new ≡ b)
        → (a ≡ b) ⊎ ((a.end < b.start) ⊎ (b.end < a.start))
    apart a b k e f (inl i) (inl j) = h.apart a b k i j (less a.var k (sym (earlier a i) ∙ e)) (less b.var k (sym (earlier b j) ∙ f))
    apart a b k e f (inl i) (inr n) =
        let at : k ≡ place = place_is k (ap (λ (x : Interval). slice_get (slice_set between new.var (Reg place)) x.var) n ∙ f) in
        let l = ended a i (sym (earlier a i) ∙ e ∙ ap (λ (m : ℕ). Some (Reg m)) at) in
        inr (inl (subst (λ (x : Interval). a.end < x.start) n l))
    apart a b k e f (inr n) (inl j) =
        let at : k ≡ place = place_is k (ap (λ (x : Interval). slice_get (slice_set between new.var (Reg place)) x.var) n ∙ e) in
        let l = ended b j (sym (earlier b j) ∙ f ∙ ap (λ (m : ℕ). Some (Reg m)) at) in
        inr (inr (subst (λ (x : Interval). b.end < x.start) n l))
    apart a b k e f (inr n) (inr m) = inl (sym n ∙ m)

    fresh : (x : ℕ) (home : Home) → slice_get (slice_set between new.var (Reg place)) x ≡ Some home → (new.var ≡ x) ⊎ (new.var ≢ x)
        → (home ≡ Slot x) ⊎ ((a : Interval) × ((In (done ++ new ∷ []) a) × ((a.var ≡ x) × ((k : ℕ) × (home ≡ Reg k)))))
    fresh x home e (inl same) =
        inr (new, (in_last done new, (same, (place, some_same (sym e ∙ ap (slice_get (slice_set between new.var (Reg place))) (sym same) ∙ mine)))))
    fresh x home e (inr other) = elim (slots x home (sym (set_other between new.var x (Reg place) other) ∙ e)) [
      | inl t ↦ inl t
      | inr t ↦ elim (h.fresh x home t) [
        | inl u ↦ inl u
        | inr u ↦ inr (u.0, (in_front done (new ∷ []) u.0 u.1.0, u.1.1))
      ]
    ]

    full : (a : Interval) → slice_get (slice_set between new.var (Reg place)) a.var ≡ Some (Slot a.var) → (In done a) ⊎ (new ≡ a)
        → (at : ℕ) × ((a.start ≤ at) × ((at ≤ a.end) × (homes < count_by (stands_at at) (done ++ new ∷ []))))
    full a e (inl i) = crowd a i (sym (earlier a i) ∙ e)
    full a e (inr n) = reg_slot place a.var (some_same (sym mine ∙ ap (λ (x : Interval). slice_get (slice_set between new.var (Reg place)) x.var) n ∙ e))
