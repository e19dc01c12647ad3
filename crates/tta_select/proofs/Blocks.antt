-- The lists of a leg do what the blocks of the leg do.
use Rattle.std.proofs.Common.{◌≡◌, ◌<◌, ◌+◌, ℕ, suc, Bool, true, false, List, [], ◌∷◌, ◌++◌, Option, Some, None, refl, sym, ap, subst, ◌∙◌, length, map, slice_index, is_some, add-one}
use Rattle.std.specs.Prelude.{if◌then◌else◌}
use Rattle.std.specs.List.{flat_map, list_all}
use Rattle.std.proofs.lemmas.Bool.{and_parts}
use Rattle.tta_select.specs.Cited.{Units, Ldf, Stf, Op, Machine, Choice, offered, Running, Halted, Waiting, holds, Item, BlockList, Waits, is_waiting, Held, do_items, Leave, ToNext, ToBlock, ToHalt, ToWait, ToNowhere, Run, restart, leave_of, go_list, RStep, Copy, Apply, Load, Store, Put, When, SaveRa, RBlock, State, is_ready, puts_at, takes, carries, lost, step, goes_on, steps_of, can_leave, falls_through, transfers, to_block, unset, leaves, falls, walk, StandsOver}
use Rattle.tta_moves.specs.Meaning.{Exit, Next}
use Rattle.tta_list.specs.Legs as legs
use Rattle.tta_moves.proofs.Places.{either}
use Rattle.tta_lir.specs.declared.code.RStep.TheVariants.{Take}
use Rattle.tta_lir.specs.Meaning.{value}
use Rattle.tta_select.specs.Select.{home_pair, items_of_step, items_of_exit, items_of_block, list_of}
use Rattle.tta_select.specs.Ground.{IsGround, IsServed}
use Rattle.tta_select.specs.Relation.{Matches}
use Rattle.tta_select.specs.Keeps.{as_legs}
use Rattle.tta_select.specs.Needs.{op_of_step, op_of_exit, Served, is_step_of, is_exit_of, is_offered, fits_step, fits_exit, fits_block}
use Rattle.tta_select.proofs.Goes.{Goes, stays, chain, waits}
use Rattle.tta_select.proofs.Results.{Landed, landed_behind}
use Rattle.tta_select.proofs.Steps.{Stepped, Goes_on, Stops, steps}
use Rattle.tta_select.proofs.Exits.{Rises, Left, Falls, Moves, Ends, exits}
use Rattle.tta_select.proofs.Restart.{restarts}

pub clash : {P : Type 0} (b : Bool) → b ≡ true → b ≡ false → P
clash b p q = let e : true ≡ false = sym p ∙ q in absurd cc

-- a step changes neither the block's number nor whether all was set
carries_keeps : (u : Units) (s : State) (r : RStep) → ((carries u s r).sound ≡ s.sound) × ((carries u s r).at ≡ s.at)
carries_keeps u s (Copy d a) = (refl, refl)
carries_keeps u s (Apply d op a b) = (refl, refl)
carries_keeps u s (Load d a) = (refl, refl)
carries_keeps u s (Take d) = on s.rest where
  on : (rest : List ℕ) → ((takes s d rest).sound ≡ s.sound) × ((takes s d rest).at ≡ s.at)
  on [] = (refl, refl)
  on (w ∷ rest) = (refl, refl)
carries_keeps u s (Store a v) = (refl, refl)
carries_keeps u s (Put v) = (refl, refl)
carries_keeps u s (When rel a b d v) = on (holds u rel (value s a) (value s b)) where
  on : (t : Bool) → ((if t then puts_at s d (value s v) else s).sound ≡ s.sound) × ((if t then puts_at s d (value s v) else s).at ≡ s.at)
  on true = (refl, refl)
  on false = (refl, refl)
carries_keeps u s (SaveRa slot) = (refl, refl)

-- the steps from one that is ready on, and from one that is not
steps_ready : (u : Units) (s : State) (r : RStep) (rs : List RStep) → is_ready s r ≡ true
    → steps_of u (r ∷ rs) s ≡ (if goes_on (carries u s r) then steps_of u rs (carries u s r) else carries u s r)
unfolding step
steps_ready u s r rs e = rw e refl

steps_lost : (u : Units) (s : State) (r : RStep) (rs : List RStep) → is_ready s r ≡ false → steps_of u (r ∷ rs) s ≡ lost s
unfolding step
steps_lost u s r rs e = rw e refl

module _ (u : Units) (m : Machine) (c : Choice) (addr : List ℕ) (g : IsGround m c) (loads : IsServed m c Ldf) (store : IsServed m c Stf) (over : StandsOver u m) (up : Rises addr)
    (serve : (op : Op) → is_some (offered m c.usable op) ≡ true → IsServed m c op) where
  served : (o : Option Op) → is_offered m c o ≡ true → Served m c o
  served None e op is = absurd cc
  served (Some p) e op is = let same : p ≡ op = cc in subst (λ q. IsServed m c q) same (serve p e)

  -- ---- the steps of a block

  module _ (back : ℕ) where
    -- what the items of some steps come to
    data Ran (at : ℕ) (s : State) (h : Held) (items : List Item) : Type 0 where
      Goes_through : s.outcome ≡ Running → s.at ≡ at → Landed u m c addr back g Next s h items → Ran at s h items
      Stands : s.outcome ≡ Waiting → Landed u m c addr back g Waits s h items → Ran at s h items

    ran_behind : (at : ℕ) (s : State) (h k : Held) (xs ys : List Item) → Goes u m addr back h xs k → Ran at s k ys → Ran at s h (xs ++ ys)
    ran_behind at s h k xs ys a (Goes_through o i b) = Goes_through o i (landed_behind u m c addr back g Next s h k xs ys a b)
    ran_behind at s h k xs ys a (Stands o b) = Stands o (landed_behind u m c addr back g Waits s h k xs ys a b)

    all_steps : (rs : List RStep) (s : State) (h : Held) → s.outcome ≡ Running → s.sound ≡ true → Matches m c addr Next s h → list_all (fits_step u m c) rs ≡ true
        → (steps_of u rs s).sound ≡ true → Ran s.at (steps_of u rs s) h (flat_map (items_of_step m c u) rs)
    all_steps [] s h runs sound match fits ends = Goes_through runs refl (record { end = h; match = match; leads = stays u m addr back h })
    all_steps (r ∷ rs) s h runs sound match fits ends = either (is_ready s r) (ready (λ k o a b f e. all_steps rs (carries u s r) k o a b f e)) (λ e. unready (subst (λ t. t.sound ≡ true) (steps_lost u s r rs e) ends)) where
      items : List Item
      items = flat_map (items_of_step m c u) (r ∷ rs)

      t : State
      t = carries u s r

      fit : fits_step u m c r ≡ true
      fit = (and_parts (fits_step u m c r) (list_all (fits_step u m c) rs) fits).0

      rest : list_all (fits_step u m c) rs ≡ true
      rest = (and_parts (fits_step u m c r) (list_all (fits_step u m c) rs) fits).1

      keeps : (t.sound ≡ s.sound) × (t.at ≡ s.at)
      keeps = carries_keeps u s r

      unready : (lost s).sound ≡ true → Ran s.at (steps_of u (r ∷ rs) s) h items
      unready e = absurd cc

      Ih : Type 0
      Ih = (k : Held) → t.outcome ≡ Running → t.sound ≡ true → Matches m c addr Next t k → list_all (fits_step u m c) rs ≡ true → (steps_of u rs t).sound ≡ true
          → Ran t.at (steps_of u rs t) k (flat_map (items_of_step m c u) rs)

      ready : Ih → is_ready s r ≡ true → Ran s.at (steps_of u (r ∷ rs) s) h items
      ready ih e = subst (λ t. Ran s.at t h items) (sym eq) (on (steps u m c addr back g loads store over s h r match e (and_parts (is_step_of m c r) (is_offered m c (op_of_step u r)) fit).0 (served (op_of_step u r) (and_parts (is_step_of m c r) (is_offered m c (op_of_step u r)) fit).1)) (subst (λ t. t.sound ≡ true) eq ends)) where
        eq : steps_of u (r ∷ rs) s ≡ (if goes_on t then steps_of u rs t else t)
        eq = steps_ready u s r rs e

        on : Stepped u m c addr back g loads store over s t h (items_of_step m c u r) → (if goes_on t then steps_of u rs t else t).sound ≡ true
            → Ran s.at (if goes_on t then steps_of u rs t else t) h items
        on (Goes_on o l) ends =
            let going : goes_on t ≡ true = let a = keeps.0 ∙ sound in let b = o ∙ runs in rw (a, b) refl in
            rw going (subst (λ at. Ran at (steps_of u rs t) h items) (keeps.1)
            (ran_behind t.at (steps_of u rs t) h l.end (items_of_step m c u r) (flat_map (items_of_step m c u) rs) l.leads
            (ih l.end (o ∙ runs) (keeps.0 ∙ sound) l.match rest (rw going at ends))))
        on (Stops o l) ends =
            let going : goes_on t ≡ false = let a = keeps.0 ∙ sound in rw (a, o) refl in
            rw going (Stands o (landed_behind u m c addr back g Waits t h l.end (items_of_step m c u r) (flat_map (items_of_step m c u) rs) l.leads
            (record { end = l.end; match = l.match; leads = waits u m addr back (flat_map (items_of_step m c u) rs) l.end (ap is_waiting l.match.exits) })))

  -- ---- a block

  -- what comes after a block that was left so, in a state
  abbrev left_so : (k : ℕ) → List BlockList → (h : Held) → Held × Leave → Run Held
  left_so k lists h left =
      legs.after_block k h left.0 left.1 (λ t. legs.leg (go_list u m addr) (suc k) lists t)

  list_leg : (k : ℕ) (b : BlockList) (lists : List BlockList) (h end : Held) (l : Leave) → Goes u m addr (slice_index addr (k + 1)) h b.items end → leave_of addr end.exit ≡ l
      → legs.leg (go_list u m addr) k (b ∷ lists) h ≡ left_so k lists h (restart b.live_out end, l)
  list_leg k b lists h end l a e = ap (λ (left : Held × Leave). left_so k lists h left) goes where
    last : Held
    last = do_items u m addr (slice_index addr (k + 1)) h b.items

    goes : go_list u m addr k b h ≡ (restart b.live_out end, l)
    goes =
        ap (λ (t : Bool). if t then (restart b.live_out last, leave_of addr last.exit) else (h, ToNowhere)) a.meaning
        ∙ ap (λ (d : Held). (restart b.live_out d, leave_of addr d.exit)) a.leads
        ∙ ap (λ (l : Leave). (restart b.live_out end, l)) e

  -- a run of register code and one of its lists stand alike between two legs
  pub record Alike (s : State) (r : Run Held) : Type 0 where
    pub outcome : r.outcome ≡ as_legs s.outcome
    pub memory : r.state.memory ≡ s.memory
    pub rest : r.state.rest ≡ s.rest
    pub output : r.state.output ≡ s.output
    pub next : s.outcome ≡ Running → (r.block ≡ s.at) × Matches m c addr Next s r.state

  -- where a block is left to
  ends_alike : (k : ℕ) (s : State) (h : Held) (x : Exit) (b : RBlock) (o : legs.Outcome) (block : ℕ) → Matches m c addr x s h → o ≡ as_legs s.outcome → (s.outcome ≡ Running → block ≡ s.at)
      → Alike (unset b s) (record { block = block; state = restart (map (home_pair m c) b.live_out) h; outcome = o })
  ends_alike k s h x b o block a same at = record {
    outcome = same;
    memory = a.memory;
    rest = a.rest;
    output = a.output;
    next = λ runs. (at runs, restarts m c addr x b s h a);
  }

  waits_alike : (k : ℕ) (s : State) (h : Held) (live : List (ℕ × ℕ)) → s.outcome ≡ Waiting → Matches m c addr Waits s h
      → Alike s (record { block = k; state = restart live h; outcome = legs.Waiting })
  waits_alike k s h live is a = record {
    outcome = ap as_legs (sym is);
    memory = a.memory;
    rest = a.rest;
    output = a.output;
    next = λ runs. absurd (other (sym is ∙ runs));
  } where
    other : Waiting ≡ Running → ⊥
    other e = cc

  -- what is left of a block after its steps
  leaves_stopped : (b : RBlock) (t behind : State) → goes_on t ≡ false → leaves u b t behind ≡ t
  leaves_stopped b t behind e = rw e refl

  leaves_lost : (b : RBlock) (t behind : State) → goes_on t ≡ true → can_leave t b.exit ≡ false → leaves u b t behind ≡ lost t
  leaves_lost b t behind e f = rw (e, f) refl

  leaves_falls : (b : RBlock) (t behind : State) → goes_on t ≡ true → can_leave t b.exit ≡ true → falls_through u t b.exit ≡ true → leaves u b t behind ≡ behind
  leaves_falls b t behind e f d = rw (e, f, d) refl

  leaves_moves : (b : RBlock) (t behind : State) → goes_on t ≡ true → can_leave t b.exit ≡ true → falls_through u t b.exit ≡ false → leaves u b t behind ≡ unset b (transfers t b.exit)
  leaves_moves b t behind e f d = rw (e, f, d) refl

  block_goes : (back : ℕ) (b : RBlock) (h end : Held) → Goes u m addr back h (flat_map (items_of_step m c u) b.steps ++ items_of_exit m c u b.exit) end → Goes u m addr back h (items_of_block m c u b) end
  unfolding items_of_block
  block_goes back b h end a = a

  -- the state at the next block
  next_block : (s : State) (at : ℕ) (h : Held) → Matches m c addr Next s h → Matches m c addr Next (to_block s at) h
  next_block s at h a = record { memory = a.memory; rest = a.rest; output = a.output; exits = a.exits; homes = a.homes; size = a.size; slots = a.slots; back = a.back }

  -- what blocks leave that end soundly, and at a block that has a word
  abbrev pub Walked : State → Run Held → Type 0
  Walked s r = s.sound ≡ true → (s.outcome ≡ Running → suc s.at < length addr) → Alike s r

  -- the exit of a block
  one_exit : (total k : ℕ) (b : RBlock) (lists : List BlockList) (t : State) (h end : Held) (behind : State) → t.at ≡ k → t.outcome ≡ Running → t.sound ≡ true
      → Goes u m addr (slice_index addr (k + 1)) h (flat_map (items_of_step m c u) b.steps) end → Matches m c addr Next t end → fits_exit u m c total b.exit ≡ true
      → ((l : Held) → Matches m c addr Next (falls b t) l → Walked behind (legs.leg (go_list u m addr) (suc k) lists l))
      → Walked (leaves u b t behind) (legs.leg (go_list u m addr) k (list_of m c u b ∷ lists) h)
  one_exit total k b lists t h end behind at runs sound leads match fits ih = either (can_leave t b.exit) can (λ e. subst (λ v. Walked v list) (sym (leaves_lost b t behind going e)) (λ s a. unsound s)) where
    back : ℕ
    back = slice_index addr (k + 1)

    list : Run Held
    list = legs.leg (go_list u m addr) k (list_of m c u b ∷ lists) h

    going : goes_on t ≡ true
    going = rw (sound, runs) refl

    unsound : (lost t).sound ≡ true → Alike (lost t) list
    unsound e = absurd cc

    fit : (is_exit_of m c total b.exit ≡ true) × (is_offered m c (op_of_exit u b.exit) ≡ true)
    fit = and_parts (is_exit_of m c total b.exit) (is_offered m c (op_of_exit u b.exit)) fits

    whole : (last : Held) → Goes u m addr back end (items_of_exit m c u b.exit) last → Goes u m addr back h (items_of_block m c u b) last
    whole last a = block_goes back b h last (chain u m addr back (flat_map (items_of_step m c u) b.steps) (items_of_exit m c u b.exit) h end last leads a)

    on : can_leave t b.exit ≡ true → Left u m c addr back g loads store over up t end b.exit (items_of_exit m c u b.exit) → Walked (leaves u b t behind) list
    on can (Falls f l) =
        let goes = list_leg k (list_of m c u b) lists h l.end ToNext (whole l.end l.leads) (ap (λ x. leave_of addr x) l.match.exits) in
        let again = restarts m c addr Next b (to_block t (t.at + 1)) l.end (next_block t (t.at + 1) l.end l.match) in
        subst (λ v. Walked v list) (sym (leaves_falls b t behind going can f))
        (subst (λ r. Walked behind r) (sym goes) (ih (restart (map (home_pair m c) b.live_out) l.end) again))
    on can (Moves x f l o lead) =
        subst (λ v. Walked v list) (sym (leaves_moves b t behind going can f)) (λ s low.
        let goes = list_leg k (list_of m c u b) lists h l.end (ToBlock (transfers t b.exit).at) (whole l.end l.leads) (ap (λ x. leave_of addr x) l.match.exits ∙ lead (low (o ∙ runs))) in
        subst (λ r. Alike (unset b (transfers t b.exit)) r) (sym goes)
        (ends_alike k (transfers t b.exit) l.end x b legs.Running (transfers t b.exit).at l.match (ap as_legs (sym (o ∙ runs))) (λ r. refl)))
    on can (Ends x f l o lead) =
        subst (λ v. Walked v list) (sym (leaves_moves b t behind going can f)) (λ s low.
        let goes = list_leg k (list_of m c u b) lists h l.end ToHalt (whole l.end l.leads) (ap (λ x. leave_of addr x) l.match.exits ∙ lead) in
        subst (λ r. Alike (unset b (transfers t b.exit)) r) (sym goes)
        (ends_alike k (transfers t b.exit) l.end x b legs.Halted k l.match (ap as_legs (sym o)) (λ r. absurd (other (sym o ∙ r))))) where
          other : Halted ≡ Running → ⊥
          other e = cc

    can : can_leave t b.exit ≡ true → Walked (leaves u b t behind) list
    can e = on e (exits u m c addr back g loads store over up total t end b.exit match e fit.0 (served (op_of_exit u b.exit) fit.1) (ap (λ i. slice_index addr (i + 1)) (sym at)))

  -- one block, where the blocks after it are alike
  one_block : (total k : ℕ) (b : RBlock) (lists : List BlockList) (s : State) (h : Held) (behind : State) → s.at ≡ k → s.outcome ≡ Running → s.sound ≡ true → Matches m c addr Next s h
      → fits_block u m c total b ≡ true
      → ((l : Held) → (steps_of u b.steps s).sound ≡ true → (steps_of u b.steps s).outcome ≡ Running → (steps_of u b.steps s).at ≡ k → Matches m c addr Next (falls b (steps_of u b.steps s)) l
      → Walked behind (legs.leg (go_list u m addr) (suc k) lists l))
      → Walked (leaves u b (steps_of u b.steps s) behind) (legs.leg (go_list u m addr) k (list_of m c u b ∷ lists) h)
  one_block total k b lists s h behind at runs sound match fits ih = either t.sound ended unsound where
    back : ℕ
    back = slice_index addr (k + 1)

    t : State
    t = steps_of u b.steps s

    list : Run Held
    list = legs.leg (go_list u m addr) k (list_of m c u b ∷ lists) h

    fit : (list_all (fits_step u m c) b.steps ≡ true) × (fits_exit u m c total b.exit ≡ true)
    fit = and_parts (list_all (fits_step u m c) b.steps) (fits_exit u m c total b.exit) fits

    unsound : t.sound ≡ false → Walked (leaves u b t behind) list
    unsound e = let stopped : goes_on t ≡ false = rw e refl in subst (λ v. Walked v list) (sym (leaves_stopped b t behind stopped)) (λ s a. clash t.sound s e)

    on : t.sound ≡ true → Ran back s.at t h (flat_map (items_of_step m c u) b.steps) → Walked (leaves u b t behind) list
    on e (Goes_through o i l) = one_exit total k b lists t h l.end behind (i ∙ at) o e l.leads l.match fit.1 (λ k a. ih k e o (i ∙ at) a)
    on e (Stands o l) =
        let stopped : goes_on t ≡ false = rw (e, o) refl in
        let whole = block_goes back b h l.end (chain u m addr back (flat_map (items_of_step m c u) b.steps) (items_of_exit m c u b.exit) h l.end l.end l.leads (waits u m addr back (items_of_exit m c u b.exit) l.end (ap is_waiting l.match.exits))) in
        let goes = list_leg k (list_of m c u b) lists h l.end ToWait whole (ap (λ x. leave_of addr x) l.match.exits) in
        subst (λ v. Walked v list) (sym (leaves_stopped b t behind stopped)) (λ s low.
        subst (λ r. Alike t r) (sym goes) (waits_alike k t l.end (map (home_pair m c) b.live_out) o l.match))

    ended : t.sound ≡ true → Walked (leaves u b t behind) list
    ended e = on e (all_steps back b.steps s h runs sound match fit.0 e)

  -- the blocks of a leg, from the number k on
  pub walks : (total : ℕ) (bs : List RBlock) (k : ℕ) (s : State) (h : Held) → s.at ≡ k → s.outcome ≡ Running → s.sound ≡ true → Matches m c addr Next s h
      → list_all (fits_block u m c total) bs ≡ true → Walked (walk u bs s) (legs.leg (go_list u m addr) k (map (list_of m c u) bs) h)
  walks total [] k s h at runs sound match fits = λ e low. unsound e where
    unsound : (lost s).sound ≡ true → Alike (walk u [] s) (legs.leg (go_list u m addr) k (map (list_of m c u) []) h)
    unsound e = absurd cc
  walks total (b ∷ bs) k s h at runs sound match fits =
      let fit = and_parts (fits_block u m c total b) (list_all (fits_block u m c total) bs) fits in
      one_block total k b (map (list_of m c u) bs) s h (walk u bs (falls b (steps_of u b.steps s))) at runs sound match fit.0
      (λ l e o i a. walks total bs (suc k) (falls b (steps_of u b.steps s)) l (add-one (steps_of u b.steps s).at ∙ ap suc i) o e a fit.1)
