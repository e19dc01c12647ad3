-- What a placed list keeps apart, item by item.
use Rattle.std.proofs.Common.{◌≡◌, inl, inr, ℕ, zero, suc, ◌+◌, ◌<◌, ◌≤◌, Bool, true, false, List, [], ◌∷◌, Option, Some, None, refl, sym, ap, ◌∙◌, arith, length, take, get_or, map}
use Rattle.std.specs.Prelude.{slice_index, ◌==◌, is_some, if◌then◌else◌}
use Rattle.std.specs.Option.{option_map_or}
use Rattle.std.proofs.lemmas.Bool.{cases_lt}
use Rattle.std.proofs.lemmas.Bool.Decides.{nat_tests}
use Rattle.std.proofs.lemmas.List.{take_more}
use Rattle.std.proofs.lemmas.Grind.{fold-append}
use Rattle.std.proofs.lemmas.List.{map-append}
use Rattle.tta_sched_laws.specs.Cited.{Machine, Effect, Place, KeptPort, moved, or_else, Units, State, Result', later, port, waits, Exit, Next, Leaves, Held, read_held, exit_after, Spot, At, Started, Code}
use Rattle.tta_arch.specs.Effects.{kept as lookup, first_some as pick}
use Rattle.tta_code.specs.Cycle.{Running}
use Rattle.tta_moves.specs.Meaning.{Waits as Stops}
use Rattle.tta_sched_laws.proofs.Total.{do_move, Timed, is_control}
use Rattle.tta_code.specs.Cycle as machine
use Rattle.tta_sched_laws.proofs.Cut.{IsCut, Right}
use Rattle.tta_sched_laws.proofs.Ports.{due_then}
use Rattle.tta_sched_laws.proofs.Steps.{into_other, is_kept, kept_after, port_after, starting, shown_of, shown_other, control_other, exit_then}
use Rattle.tta_sched_laws.proofs.Starts.{Covers}
use Rattle.tta_sched_laws.specs.Overlap.{space_by}
use Rattle.tta_sched_laws.proofs.Spaces.{Space, once_noop, triggers_of, trigger_write, out_space}
use Rattle.tta_sched_laws.proofs.Touches.{own_later}
use Rattle.tta_sched_laws.proofs.Placing as placing
use Rattle.tta_sched_laws.proofs.Placing.{Carries, idle, after, or_zero, some_is, Fits}
use Rattle.tta_moves.proofs.Places.{either}
use Rattle.tta_list.proofs.Tests.{none_from_is_some}

-- a placed list with what it begins with, and code that carries it
pub record Run : Type 0 where
  pub u : Units
  pub m : Machine
  pub back : ℕ
  pub placed : List Timed
  pub h : Held
  pub len : ℕ
  pub f : Fits u m back placed h len
  pub code : Code
  pub base : ℕ
  pub begin : ℕ
  pub carries : Carries m code base len placed
  pub back_is : back ≡ base + len

module _ (run : Run) where
  open run use {u, m, back, placed, h, len, f, code, base, begin, carries, back_is}

  abbrev pub n : ℕ
  n = length placed

  abbrev pub move_at : ℕ → Effect
  move_at = placing.move_at u m back placed h

  abbrev pub cycle_at : ℕ → ℕ
  cycle_at = placing.cycle_at u m back placed h

  abbrev pub held_at : ℕ → Held
  held_at = placing.held_at u m back placed h

  abbrev pub write_at : Place → ℕ → Option ℕ
  write_at = placing.write_at u m back placed h

  abbrev pub touch_of : Spot → ℕ → Option ℕ
  touch_of = placing.touch_of u m back placed h

  abbrev pub read_at : Place → ℕ → Option ℕ
  read_at = placing.read_at u m back placed h

  abbrev pub writes : Place → ℕ → Bool
  writes = placing.writes u m back placed h

  abbrev pub shows : Place → ℕ → ℕ
  shows = placing.shows u m back placed h

  abbrev pub value : Place → ℕ → Option ℕ
  value = placing.value u m back placed h

  pub after_suc : (k : ℕ) → k < n → held_at (suc k) ≡ do_move u m back (held_at k) (move_at k)
  after_suc k lt =
      let e : suc k ≡ k + 1 = omega arith in
      rw (e, take_more placed k idle lt, map-append (λ (p : Timed). p.does) (take k placed) (get_or placed k idle ∷ []), fold-append (do_move u m back) h (map (λ (p : Timed). p.does) (take k placed)) (move_at k ∷ [])) refl

  -- whether the k-th move brings a result to a port at a moment, and the result
  abbrev pub slot : ℕ → ℕ → ℕ → Bool
  slot unit d k = option_map_or (λ a. cycle_at k + a == d) (write_at (KeptPort unit) k) false

  abbrev pub slot_shows : ℕ → ℕ
  slot_shows k = suc (cycle_at k)

  abbrev pub result_at : ℕ → ℕ → Option ℕ
  result_at unit k = shown_of u (held_at k).memory (held_at k).frame (slice_index (held_at k).rest 0) unit (starting m (held_at k).written (move_at k).target (moved (read_held (held_at k).written) (move_at k)))

  -- the result that the first k moves bring to a port at a moment
  abbrev pub coming : ℕ → ℕ → ℕ → Option ℕ
  coming unit d zero = None
  coming unit d (suc k) = if slot unit d k then or_else (result_at unit k) (coming unit d k) else coming unit d k

  pub coming_other : (unit d k : ℕ) → slot unit d k ≡ false → coming unit d (suc k) ≡ coming unit d k
  coming_other unit d k e = rw e refl

  pub coming_none : (unit d k : ℕ) → ((i : ℕ) → i < k → slot unit d i ≡ false) → coming unit d k ≡ None
  coming_none unit d zero none = refl
  coming_none unit d (suc k) none = rw (none k (omega arith)) (coming_none unit d k (λ i li. none i (omega arith)))

  pub show_rises : (x : Place) (i j : ℕ) → i < j → j < n → writes x i ≡ true → writes x j ≡ true → shows x i < shows x j
  show_rises x i j lt lt' wi wj = f.rises i j (At x) _ _ lt lt' (some_is (write_at x i) wi) (some_is (write_at x j) wj)

  pub kept_same : (x : Place) → is_kept x ≡ true → (j : ℕ) → j < n → writes x j ≡ false → value x (suc j) ≡ value x j
  kept_same x kept j lt w =
      rw (after_suc j lt) (kept_after u m back (held_at j) (move_at j) x (f.plain j lt) kept
      ∙ ap (λ o. or_else o (value x j)) (into_other m back x (move_at j) _ (f.plain j lt) (none_from_is_some (write_at x j) w)))

  pub port_same : (unit : ℕ) (j : ℕ) → j < n → writes (KeptPort unit) j ≡ false → value (KeptPort unit) (suc j) ≡ value (KeptPort unit) j
  port_same unit j lt w =
      rw (after_suc j lt) (port_after u m back (held_at j) (move_at j) unit (f.plain j lt)
      ∙ ap (λ o. or_else o (value (KeptPort unit) j)) (shown_other u m (held_at j).memory (held_at j).frame (slice_index (held_at j).rest 0) (held_at j).written unit (move_at j) (moved (read_held (held_at j).written) (move_at j)) (f.plain j lt) (none_from_is_some (write_at (KeptPort unit) j) w)))

  -- whether a move touches a space
  abbrev pub touches : ℕ → ℕ → Bool
  touches q k = space_by m (move_at k).target == q

  pub space_rises : (q : ℕ) → 0 < q → (i j : ℕ) → i < j → j < n → touches q i ≡ true → touches q j ≡ true → slot_shows i < slot_shows j
  space_rises q lt i j li lj ti tj =
      let ei : space_by m (move_at i).target ≡ q = grind (arith, nat_tests) in
      let ej : space_by m (move_at j).target ≡ q = grind (arith, nat_tests) in
      let a = triggers_of m (move_at i).target (f.plain i (omega arith)) (omega arith) in
      let b = triggers_of m (move_at j).target (f.plain j lj) (omega arith) in
      let same : a.unit ≡ b.unit = f.owners.owner a.unit b.unit a.k b.k a.o b.o a.at b.at (a.space ∙ ei ∙ sym ej ∙ sym b.space) (let g = a.space in omega arith) in
      let wi = trigger_write m (move_at i) a.unit a.k a.is in
      let wj : touch_of (Started a.unit) j ≡ Some 1 = rw same (trigger_write m (move_at j) b.unit b.k b.is) in
      let r = f.rises i j (Started a.unit) 1 1 li lj wi wj in
      omega arith

  pub one_toucher : (q : ℕ) → 0 < q → (i j : ℕ) → i < n → j < n → touches q i ≡ true → touches q j ≡ true → slot_shows i ≡ slot_shows j → i ≡ j
  one_toucher q pos i j li lj ti tj e =
      elim (cases_lt i j) [
        | inl lt ↦ let r = space_rises q pos i j lt lj ti tj in absurd (omega arith)
        | inr le ↦ elim (cases_lt j i) [
          | inl lt ↦ let r = space_rises q pos j i lt li tj ti in absurd (omega arith)
          | inr le' ↦ omega arith
        ]
      ]

  pub space_same : (q : Space) (j : ℕ) → j < n → touches q.number j ≡ false → q.of (held_at (suc j)) ≡ q.of (held_at j)
  space_same q j lj e =
      rw (after_suc j lj) (q.after u m back (held_at j) (move_at j) (f.plain j lj)
      ∙ once_noop q m (held_at j).written (q.of (held_at j)) (move_at j) (moved (read_held (held_at j).written) (move_at j)) (f.plain j lj) (grind (arith, nat_tests)))

  pub out_same : (j : ℕ) → j < n → touches 3 j ≡ false → (held_at (suc j)).output ≡ (held_at j).output
  unfolding out_space
  out_same j lj e = space_same out_space j lj e

  pub space_cut : (q j c : ℕ) → 0 < q → j < n → touches q j ≡ true → cycle_at j ≡ c → IsCut (touches q) slot_shows n c j
  space_cut q j c pos lj t e = record {
    before = λ i li t'. let r = space_rises q pos i j li lj t' t in omega arith;
    later = λ i le li t'. elim (cases_lt j i) [
      | inl more ↦ let r = space_rises q pos j i more li t t' in omega arith
      | inr less ↦ let same : i ≡ j = omega arith in let g = ap cycle_at same in omega arith
    ];
  }

  -- a read finds the value after the moves before it
  pub cut_at_read : (x : Place) (j b : ℕ) → j < n → read_at x j ≡ Some b → IsCut (writes x) (shows x) n (cycle_at j + b) j
  cut_at_read x j b lt r = record {
    before = λ i lt' w. f.finds i j x _ b lt' lt (some_is (write_at x i) w) r;
    later = λ i le lt' w. elim (cases_lt j i) [
      | inl more ↦ f.waits j i x b _ more lt' r (some_is (write_at x i) w)
      | inr less ↦
          let e : i ≡ j = omega arith in
          let own : write_at x j ≡ Some (or_zero (write_at x i)) = ap (write_at x) (sym e) ∙ some_is (write_at x i) w in
          let late = own_later m (move_at j) x (or_zero (write_at x i)) b (f.plain j lt) own r in
          let c : cycle_at i ≡ cycle_at j = ap cycle_at e in
          omega arith
    ];
  }

  pub slot_writes : (unit d k : ℕ) → slot unit d k ≡ true → (writes (KeptPort unit) k ≡ true) × (shows (KeptPort unit) k ≡ d)
  slot_writes unit d k e = on (write_at (KeptPort unit) k) refl e where
    on : (o : Option ℕ) → write_at (KeptPort unit) k ≡ o → option_map_or (λ a. cycle_at k + a == d) o false ≡ true → (writes (KeptPort unit) k ≡ true) × (shows (KeptPort unit) k ≡ d)
    on None q e = cc
    on (Some a) q e = (ap is_some q, let g : cycle_at k + a ≡ d = grind (arith, nat_tests) in rw q g)

  pub writes_slot : (unit d k : ℕ) → writes (KeptPort unit) k ≡ true → shows (KeptPort unit) k ≡ d → slot unit d k ≡ true
  writes_slot unit d k w e = rw (some_is (write_at (KeptPort unit) k) w) (let g : cycle_at k + or_zero (write_at (KeptPort unit) k) ≡ d = e in grind (arith, nat_tests))

  -- one move alone brings a result to a port at a moment
  pub one_slot : (unit d i j : ℕ) → i < n → j < n → slot unit d i ≡ true → slot unit d j ≡ true → i ≡ j
  one_slot unit d i j li lj si sj =
      let a = slot_writes unit d i si in
      let b = slot_writes unit d j sj in
      elim (cases_lt i j) [
        | inl lt ↦ let r = show_rises (KeptPort unit) i j lt lj a.0 b.0 in absurd (omega (arith, a.1, b.1))
        | inr le ↦ elim (cases_lt j i) [
          | inl lt ↦ let r = show_rises (KeptPort unit) j i lt li b.0 a.0 in absurd (omega (arith, a.1, b.1))
          | inr le' ↦ omega arith
        ]
      ]

  -- one move alone writes a place so that it shows from a moment on
  pub one_writer : (x : Place) (i j : ℕ) → i < n → j < n → writes x i ≡ true → writes x j ≡ true → shows x i ≡ shows x j → i ≡ j
  one_writer x i j li lj wi wj e =
      elim (cases_lt i j) [
        | inl lt ↦ let r = show_rises x i j lt lj wi wj in absurd (omega arith)
        | inr le ↦ elim (cases_lt j i) [
          | inl lt ↦ let r = show_rises x j i lt li wj wi in absurd (omega arith)
          | inr le' ↦ omega arith
        ]
      ]

  pub slot_rises : (unit d : ℕ) (i j : ℕ) → i < j → j < n → slot unit d i ≡ true → slot unit d j ≡ true → slot_shows i < slot_shows j
  slot_rises unit d i j lt lj si sj = let e = one_slot unit d i j (omega arith) lj si sj in absurd (omega arith)

  abbrev pub ctl : ℕ → Bool
  ctl k = is_control (move_at k).target

  pub ctl_rises : (i j : ℕ) → i < j → j < n → ctl i ≡ true → ctl j ≡ true → slot_shows i < slot_shows j
  ctl_rises i j lt lj ci cj = let e = f.last i (omega arith) ci in absurd (omega arith)

  pub exit_same : (j : ℕ) → j < n → ctl j ≡ false → (held_at (suc j)).exit ≡ (held_at j).exit
  exit_same j lj e =
      rw (after_suc j lj) (exit_then u m back (held_at j) (move_at j) (f.plain j lj)
      ∙ ap (exit_after (held_at j).exit) (control_other m (move_at j).target (moved (read_held (held_at j).written) (move_at j)) (f.plain j lj) e))

  pub exit_none : (k : ℕ) → k ≤ n → ((i : ℕ) → i < k → ctl i ≡ false) → (held_at k).exit ≡ Next
  exit_none zero le none = f.opens
  exit_none (suc k) le none = exit_same k (omega arith) (none k (omega arith)) ∙ exit_none k (omega arith) (λ i lt. none i (omega arith))

  -- the control move is the last one
  pub ctl_first : (j : ℕ) → j < n → ctl j ≡ true → (i : ℕ) → i < j → ctl i ≡ false
  ctl_first j lj w i lt = either (ctl i) (λ w'. let e = f.last i (omega arith) w' in absurd (omega arith)) (λ w'. w')

  pub ctl_one : (i j : ℕ) → i < n → j < n → ctl i ≡ true → ctl j ≡ true → i ≡ j
  ctl_one i j li lj wi wj = let a = f.last i li wi in let b = f.last j lj wj in omega arith

  abbrev pub as_pending : Exit → Option machine.Pending
  as_pending Next = None
  as_pending (Leaves kind word) = Some (record { time = begin + len; kind = kind; word = word })
  as_pending Stops = None

  abbrev pub as_result : (unit d : ℕ) → Option ℕ → Option Result'
  as_result unit d o = option_map_or (λ w. Some (record { unit = unit; due = begin + d; value = w })) o None

  -- what the machine is at a moment of the list
  pub record Stands (c : ℕ) (s : State) : Type 0 where
    pub outcome : s.outcome ≡ Running
    pub pc : s.pc ≡ base + c
    pub cycle : s.cycle ≡ begin + c
    pub pending : Right ◌≡◌ ctl slot_shows n (λ k. as_pending (held_at k).exit) c s.pending
    pub kept : (x : Place) → is_kept x ≡ true → Right Covers (writes x) (shows x) n (value x) c (lookup s.written x)
    pub ports : (unit : ℕ) → Right Covers (writes (KeptPort unit)) (shows (KeptPort unit)) n (value (KeptPort unit)) c (port s unit)
    pub memory : Right ◌≡◌ (touches 1) slot_shows n (λ k. (held_at k).memory) c s.memory
    pub frame : Right ◌≡◌ (touches 2) slot_shows n (λ k. (held_at k).frame) c s.frame
    pub rest : Right ◌≡◌ (touches 3) slot_shows n (λ k. (held_at k).rest) c s.rest
    pub output : Right ◌≡◌ (touches 3) slot_shows n (λ k. (held_at k).output) c s.output
    pub flights : (unit d : ℕ) → c < d → Right ◌≡◌ (slot unit d) slot_shows n (λ k. as_result unit d (coming unit d k)) c (pick (due_then unit (begin + d)) s.started)
