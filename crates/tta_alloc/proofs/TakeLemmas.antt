-- One interval more is taken.
use Rattle.std.proofs.Common.{◌≡◌, ◌≢◌, ℕ, suc, ◌+◌, ◌<◌, ◌≤◌, Bool, true, false, cond, List, [], ◌∷◌, ◌++◌, length, Option, Some, None, refl, sym, ◌∙◌, ap, subst, arith, ◌⊎◌, inl, inr, length-append, if◌then◌else◌}
use Rattle.std.specs.Prelude.{nat_lt, slice_get, slice_set, count_by}
use Rattle.std.specs.Option.{option_map_or}
use Rattle.std.proofs.lemmas.Bool.{ltb-true, ltb-false, le-leb, cases_eq}
use Rattle.std.proofs.lemmas.List.{length-set}
use Rattle.std.proofs.lemmas.Option.{slice_get_within}
use Rattle.tta_list.proofs.Lists.{slice_get-push, slice_get-longer, slice_get-back}
use Rattle.tta_alloc.specs.declared.interval.Interval.{Interval}
use Rattle.tta_alloc.specs.declared.home.Home.{Home}
use Rattle.tta_alloc.specs.declared.home.Home.TheVariants.{Reg, Slot}
use Rattle.tta_alloc.specs.Scan.{Scan, first_free, last_from, take_free, take_from, turn_out, scan_step}
use Rattle.tta_alloc.specs.Law.{stands_at}
use Rattle.tta_alloc.proofs.TakenLemmas.{count_push}
use Rattle.tta_alloc.proofs.ListLemmas.{In, in_front, in_cases, count_set, count_all}
use Rattle.tta_alloc.proofs.ScanLemmas.{free_ended, free_held, free_within}
use Rattle.tta_alloc.proofs.HolderLemmas.{Kept, reg_slot, reg_same, taken_one}
use Rattle.tta_list.proofs.Sets.{set_same, set_other}
use Rattle.tta_list.proofs.Tests.{some_same}

stands : (at : ℕ) (a : Interval) → a.start ≤ at → at ≤ a.end → stands_at at a ≡ true
stands at a low high = rw (le-leb a.start at low, le-leb at a.end high) refl

count_grows : (p : Interval → Bool) (done : List Interval) (new : Interval) → count_by p done ≤ count_by p (done ++ new ∷ [])
count_grows p done new = let c = count_push p done new in omega arith

count_stands : (p : Interval → Bool) (done : List Interval) (new : Interval) → p new ≡ true → count_by p (done ++ new ∷ []) ≡ suc (count_by p done)
count_stands p done new t = by (p new) _ _ (count_push p done new) t where
  by : (b : Bool) (m n : ℕ) → m ≡ n + cond b 1 0 → b ≡ true → m ≡ suc n
  by true m n e t = omega arith
  by false m n e t = absurd cc

module _ (homes : ℕ) (done : List Interval) (s : Scan) (new : Interval) (h : Kept homes done s)
    (sane : (a : Interval) → In done a → (a.start ≤ a.end) × ((a.start ≤ new.start) × (a.var ≢ new.var)))
    (once : (a b : Interval) → In done a → In done b → a.var ≡ b.var → a ≡ b)
    (right : new.start ≤ new.end) (small : new.var < length s.homes) where
  -- one that was crowded out still is
  still : (a : Interval) → In done a → slice_get s.homes a.var ≡ Some (Slot a.var)
      → (at : ℕ) × ((a.start ≤ at) × ((at ≤ a.end) × (homes < count_by (stands_at at) (done ++ new ∷ []))))
  still a i e =
      let f = h.full a i e in
      let more = f.1.1.1 in
      let grows = count_grows (stands_at f.0) done new in
      (f.0, (f.1.0, (f.1.1.0, omega arith)))

  -- what held a free place has ended
  freed : (place : ℕ) → place ≡ first_free s.holders new.start → (a : Interval) → In done a → slice_get s.homes a.var ≡ Some (Reg place) → a.end < new.start
  freed place at a i e =
      let o = h.regs a place i e in
      let gone = free_ended s.holders new.start o.0 (ap (slice_get s.holders) (sym at) ∙ o.1.0) in
      let w = (sane o.0 (h.holds place o.0 o.1.0).0).0 in
      by o.0 gone w o.1.1
    where
      by : (g : Interval) → g.end < new.start → g.start ≤ g.end → (a ≡ g) ⊎ (a.end < g.start) → a.end < new.start
      by g gone w (inl same) = let n = ap (λ (x : Interval). x.end) same in omega arith
      by g gone w (inr before) = omega arith

  free_step : (b : Bool) → nat_lt (first_free s.holders new.start) (length s.holders) ≡ b → first_free s.holders new.start < homes
      → Kept homes (done ++ new ∷ []) (record {
        holders = if b then slice_set s.holders (first_free s.holders new.start) new else s.holders ++ new ∷ [];
        homes = slice_set s.homes new.var (Reg (first_free s.holders new.start));
      })
  free_step true t fits =
      let place = first_free s.holders new.start in
      let below = ltb-true place (length s.holders) t in
      taken_one homes done s new place (slice_set s.holders place new) s.homes h sane small
      (let e = length-set s.holders place new in let f = h.few in omega arith)
      (set_same s.holders place new below)
      (λ k g other e. sym (set_other s.holders place k new (λ n. other (sym n))) ∙ e)
      (λ k g other e. set_other s.holders place k new (λ n. other (sym n)) ∙ e)
      (λ p. count_set p s.holders place new)
      (λ x k e. e) (λ a k i e other. e) (freed place refl) (λ x home e. inr e) still
  free_step false t fits =
      let place = first_free s.holders new.start in
      let past = ltb-false place (length s.holders) t in
      let within = free_within s.holders new.start in
      let at : place ≡ length s.holders = omega arith in
      taken_one homes done s new place (s.holders ++ new ∷ []) s.homes h sane small
      (let e = length-append s.holders (new ∷ []) in omega arith)
      (ap (slice_get (s.holders ++ new ∷ [])) (plus_zero place (length s.holders) at) ∙ slice_get-back s.holders (new ∷ []) 0)
      (λ k g other e. not_last k g (λ n. other (n ∙ sym at)) (slice_get-push s.holders new k g e))
      (λ k g other e. slice_get-longer s.holders (new ∷ []) k g e)
      (λ p. let c = count_push p s.holders new in omega arith)
      (λ x k e. e) (λ a k i e other. e) (freed place refl) (λ x home e. inr e) still
    where
      plus_zero : (m n : ℕ) → m ≡ n → m ≡ n + 0
      plus_zero m n e = omega arith

      not_last : (k : ℕ) (g : Interval) → k ≢ length s.holders → (slice_get s.holders k ≡ Some g) ⊎ ((k ≡ length s.holders) × (new ≡ g))
          → slice_get s.holders k ≡ Some g
      not_last k g other (inl e) = e
      not_last k g other (inr e) = absurd (other e.0)

  -- where no place is free, all that hold one stand at the new start
  crowded : homes ≤ first_free s.holders new.start → homes < count_by (stands_at new.start) (done ++ new ∷ [])
  crowded none =
      let within = free_within s.holders new.start in
      let few = h.few in
      let all = count_all (stands_at new.start) s.holders (λ k g e.
      let w = slice_get_within s.holders k g e in
      let i = (h.holds k g e).0 in
      stands new.start g (sane g i).1.0 (free_held s.holders new.start k g (omega arith) e)) in
      let c = h.count (stands_at new.start) in
      let one = count_stands (stands_at new.start) done new (stands new.start new (omega arith) right) in
      omega arith

  out_step : homes ≤ first_free s.holders new.start → (place : ℕ) (o : Option Interval) → slice_get s.holders place ≡ o
      → Kept homes (done ++ new ∷ []) (option_map_or (take_from s place new) o s)
  out_step none place None e = record {
    holds = λ k g f. let o = h.holds k g f in (in_front done (new ∷ []) g o.0, o.1);
    regs = λ a k i f. regs a k f (in_cases done new a i);
    apart = λ a b k i j f g. apart a b k f g (in_cases done new a i) (in_cases done new b j);
    fresh = λ x home f. elim (h.fresh x home f) [
      | inl u ↦ inl u
      | inr u ↦ inr (u.0, (in_front done (new ∷ []) u.0 u.1.0, u.1.1))
    ];
    few = h.few;
    count = λ p. let a = h.count p in let b = count_grows p done new in omega arith;
    full = λ a i f. full a f (in_cases done new a i);
  } where
    -- the new one has no home register
    no_reg : {A : Type 0} (a : Interval) (k : ℕ) → new ≡ a → slice_get s.homes a.var ≡ Some (Reg k) → A
    no_reg a k n f = by (h.fresh a.var (Reg k) f) where
      by : {A : Type 0} → (Reg k ≡ Slot a.var) ⊎ ((b : Interval) × ((In done b) × ((b.var ≡ a.var) × ((j : ℕ) × (Reg k ≡ Reg j))))) → A
      by (inl e) = reg_slot k a.var e
      by (inr b) = absurd ((sane b.0 b.1.0).1.1 (b.1.1.0 ∙ ap (λ (x : Interval). x.var) (sym n)))

    regs : (a : Interval) (k : ℕ) → slice_get s.homes a.var ≡ Some (Reg k) → (In done a) ⊎ (new ≡ a)
        → (g : Interval) × ((slice_get s.holders k ≡ Some g) × ((a ≡ g) ⊎ (a.end < g.start)))
    regs a k f (inl i) = h.regs a k i f
    regs a k f (inr n) = no_reg a k n f

    apart : (a b : Interval) (k : ℕ) → slice_get s.homes a.var ≡ Some (Reg k) → slice_get s.homes b.var ≡ Some (Reg k)
        → (In done a) ⊎ (new ≡ a) → (In done b) ⊎ (new ≡ b) → (a ≡ b) ⊎ ((a.end < b.start) ⊎ (b.end < a.start))
    apart a b k f g (inl i) (inl j) = h.apart a b k i j f g
    apart a b k f g (inr n) j = no_reg a k n f
    apart a b k f g (inl i) (inr n) = no_reg b k n g

    full : (a : Interval) → slice_get s.homes a.var ≡ Some (Slot a.var) → (In done a) ⊎ (new ≡ a)
        → (at : ℕ) × ((a.start ≤ at) × ((at ≤ a.end) × (homes < count_by (stands_at at) (done ++ new ∷ []))))
    full a f (inl i) = still a i f
    full a f (inr n) =
        let start = ap (λ (x : Interval). x.start) n in
        let end = ap (λ (x : Interval). x.end) n in
        (new.start, (omega arith, (omega arith, crowded none)))
  out_step none place (Some old) e =
      taken_one homes done s new place (slice_set s.holders place new) (slice_set s.homes old.var (Slot old.var)) h sane
      (let n = length-set s.homes old.var (Slot old.var) in omega arith)
      (let n = length-set s.holders place new in let f = h.few in omega arith)
      (set_same s.holders place new (slice_get_within s.holders place old e))
      (λ k g other f. sym (set_other s.holders place k new (λ n. other (sym n))) ∙ f)
      (λ k g other f. set_other s.holders place k new (λ n. other (sym n)) ∙ f)
      (λ p. count_set p s.holders place new)
      (λ x k f. less x k f (cases_eq old.var x))
      (λ a k i f other. stays a k f other (cases_eq old.var a.var))
      (λ a i f. ended a i f (cases_eq old.var a.var))
      (λ x home f. slots x home f (cases_eq old.var x))
      (λ a i f. crowd a i f (cases_eq old.var a.var))
    where
      held : (In done old) × (slice_get s.homes old.var ≡ Some (Reg place))
      held = h.holds place old e

      out : slice_get (slice_set s.homes old.var (Slot old.var)) old.var ≡ Some (Slot old.var)
      out = set_same s.homes old.var (Slot old.var) (home_within s.homes old.var (Reg place) held.1) where
        home_within : (hs : List Home) (i : ℕ) (x : Home) → slice_get hs i ≡ Some x → i < length hs
        home_within hs i x f = slice_get_within hs i x f

      is_out : (x : ℕ) → old.var ≡ x → slice_get (slice_set s.homes old.var (Slot old.var)) x ≡ Some (Slot x)
      is_out x same = subst (λ (n : ℕ). slice_get (slice_set s.homes old.var (Slot old.var)) n ≡ Some (Slot n)) same out

      less : (x k : ℕ) → slice_get (slice_set s.homes old.var (Slot old.var)) x ≡ Some (Reg k) → (old.var ≡ x) ⊎ (old.var ≢ x) → slice_get s.homes x ≡ Some (Reg k)
      less x k f (inl same) = reg_slot k x (some_same (sym f ∙ is_out x same))
      less x k f (inr other) = sym (set_other s.homes old.var x (Slot old.var) other) ∙ f

      stays : (a : Interval) (k : ℕ) → slice_get s.homes a.var ≡ Some (Reg k) → k ≢ place → (old.var ≡ a.var) ⊎ (old.var ≢ a.var)
          → slice_get (slice_set s.homes old.var (Slot old.var)) a.var ≡ Some (Reg k)
      stays a k f other (inl same) = absurd (other (reg_same k place (some_same (sym f ∙ ap (slice_get s.homes) (sym same) ∙ held.1))))
      stays a k f other (inr differ) = set_other s.homes old.var a.var (Slot old.var) differ ∙ f

      ended : (a : Interval) → In done a → slice_get (slice_set s.homes old.var (Slot old.var)) a.var ≡ Some (Reg place)
          → (old.var ≡ a.var) ⊎ (old.var ≢ a.var) → a.end < new.start
      ended a i f (inl same) = reg_slot place a.var (some_same (sym f ∙ is_out a.var same))
      ended a i f (inr differ) =
          let o = h.regs a place i (sym (set_other s.homes old.var a.var (Slot old.var) differ) ∙ f) in
          let same : old ≡ o.0 = some_same (sym e ∙ o.1.0) in
          before o.0 same o.1.1
        where
          before : (g : Interval) → old ≡ g → (a ≡ g) ⊎ (a.end < g.start) → a.end < new.start
          before g same (inl n) = absurd (differ (ap (λ (x : Interval). x.var) (same ∙ sym n)))
          before g same (inr l) =
              let start = ap (λ (x : Interval). x.start) same in
              let w = (sane old held.0).1.0 in omega arith

      slots : (x : ℕ) (home : Home) → slice_get (slice_set s.homes old.var (Slot old.var)) x ≡ Some home → (old.var ≡ x) ⊎ (old.var ≢ x)
          → (home ≡ Slot x) ⊎ (slice_get s.homes x ≡ Some home)
      slots x home f (inl same) = inl (some_same (sym f ∙ is_out x same))
      slots x home f (inr other) = inr (sym (set_other s.homes old.var x (Slot old.var) other) ∙ f)

      crowd : (a : Interval) → In done a → slice_get (slice_set s.homes old.var (Slot old.var)) a.var ≡ Some (Slot a.var)
          → (old.var ≡ a.var) ⊎ (old.var ≢ a.var)
          → (at : ℕ) × ((a.start ≤ at) × ((at ≤ a.end) × (homes < count_by (stands_at at) (done ++ new ∷ []))))
      crowd a i f (inr differ) = still a i (sym (set_other s.homes old.var a.var (Slot old.var) differ) ∙ f)
      crowd a i f (inl same) =
          let alike = ap (λ (x : Interval). x.end) (once a old i held.0 (sym same)) in
          let within = slice_get_within s.holders place old e in
          let few = h.few in
          let on = free_held s.holders new.start place old (omega arith) e in
          let low = (sane a i).1.0 in
          (new.start, (low, (omega arith, crowded none)))

pub kept_step : (homes : ℕ) (done : List Interval) (s : Scan) (new : Interval) → Kept homes done s
    → ((a : Interval) → In done a → (a.start ≤ a.end) × ((a.start ≤ new.start) × (a.var ≢ new.var)))
    → ((a b : Interval) → In done a → In done b → a.var ≡ b.var → a ≡ b) → new.start ≤ new.end → new.var < length s.homes
    → Kept homes (done ++ new ∷ []) (scan_step homes s new)
unfolding scan_step
kept_step homes done s new h sane once right small = by (nat_lt (first_free s.holders new.start) homes) refl where
  by : (b : Bool) → nat_lt (first_free s.holders new.start) homes ≡ b
      → Kept homes (done ++ new ∷ []) (if b then take_free s (first_free s.holders new.start) new else turn_out s new)
  by true t =
      free_step homes done s new h sane once right small (nat_lt (first_free s.holders new.start) (length s.holders)) refl
      (ltb-true (first_free s.holders new.start) homes t)
  by false t =
      out_step homes done s new h sane once right small (ltb-false (first_free s.holders new.start) homes t)
      (last_from s.holders 0 (length s.holders) new) (slice_get s.holders (last_from s.holders 0 (length s.holders) new)) refl
