-- A list that waits does up to there what it does where a word that is not there is 0.
use Rattle.std.proofs.Common.{◌≡◌, ◌⊎◌, inl, inr, ℕ, zero, suc, ◌≤◌, Bool, true, false, List, [], ◌∷◌, ◌++◌, Option, Some, None, refl, sym, ap, ◌∙◌, arith, length, take, drop, replicate}
use Rattle.std.specs.Prelude.{slice_get, slice_index, is_none, not, ◌&&◌, ◌||◌, if◌then◌else◌}
use Rattle.std.specs.Option.{option_map_or, option_to_list}
use Rattle.std.specs.List.{list_any}
use Rattle.tta_sched_laws.specs.Cited.{Machine, Kind, Effect, Brought, bring, Start, start_of, takes, control_of, Units, Exit, is_waiting, Held, read_held, exit_after, waits_for, arrives, does, does_all, means, lacks}
use Rattle.tta_moves.specs.Meaning.{Waits as Stops, acts}
use Rattle.tta_sched_laws.proofs.Total.{started_by, total, do_move, do_moves, has_meaning, wants, waits_at}
use Rattle.tta_sched_laws.proofs.Items.{and_parts as and_split}
use Rattle.tta_moves.proofs.Waiting.{stuck_all as does_stay}

-- ---- one effect

any_of : (o : Option Start) → list_any takes (option_to_list o) ≡ option_map_or takes o false
any_of None = refl
any_of (Some t) = on (takes t) where
  on : (b : Bool) → (b || false) ≡ b
  on true = refl
  on false = refl

-- an effect that wants no word does the same in both meanings
pub does_same : (u : Units) (m : Machine) (back : ℕ) (h : Held) (e : Effect) → is_waiting h.exit ≡ false → wants m h e ≡ false → does u m back h e ≡ do_move u m back h e
unfolding does do_move
does_same u m back h e runs w = rw runs (on (bring (read_held h.written) e) w) where
  on : (o : Option Brought) → (option_map_or takes (started_by m h o) false && is_none (slice_get h.rest 0)) ≡ false → arrives u m back h o ≡ total u m back h o
  on None w = refl
  on (Some b) w = let g : waits_for h (option_to_list (start_of m h.written b)) ≡ false = ap (λ (c : Bool). c && is_none (slice_get h.rest 0)) (any_of (start_of m h.written b)) ∙ w in rw g refl

-- an effect that wants a word waits for it
pub does_wait : (u : Units) (m : Machine) (back : ℕ) (h : Held) (e : Effect) → is_waiting h.exit ≡ false → wants m h e ≡ true → does u m back h e ≡ record h { exit = Stops }
unfolding does
does_wait u m back h e runs w = rw runs (on (bring (read_held h.written) e) w) where
  on : (o : Option Brought) → (option_map_or takes (started_by m h o) false && is_none (slice_get h.rest 0)) ≡ true → arrives u m back h o ≡ record h { exit = Stops }
  on None w = absurd cc
  on (Some b) w = let g : waits_for h (option_to_list (start_of m h.written b)) ≡ true = ap (λ (c : Bool). c && is_none (slice_get h.rest 0)) (any_of (start_of m h.written b)) ∙ w in rw g refl

-- a list that waits stays as it is

exit_runs : (exit : Exit) (o : Option (Kind × ℕ)) → is_waiting exit ≡ false → is_waiting (exit_after exit o) ≡ false
exit_runs exit None r = r
exit_runs exit (Some c) r = refl

pub move_runs : (u : Units) (m : Machine) (back : ℕ) (h : Held) (e : Effect) → is_waiting h.exit ≡ false → is_waiting (do_move u m back h e).exit ≡ false
unfolding do_move
move_runs u m back h e r = on (bring (read_held h.written) e) where
  on : (o : Option Brought) → is_waiting (total u m back h o).exit ≡ false
  on None = r
  on (Some b) = exit_runs h.exit (control_of b) r

-- ---- a list

pub some_or_none : (o : Option ℕ) → ((k : ℕ) × (o ≡ Some k)) ⊎ (o ≡ None)
some_or_none None = inr refl
some_or_none (Some k) = inl (k, refl)

-- how the rest of a list waits
pub next_none : (b : Bool) (o : Option ℕ) → (if b then Some 0 else option_map_or (λ k. Some (suc k)) o None) ≡ None → (b ≡ false) × (o ≡ None)
next_none true o e = absurd cc
next_none false None e = (refl, refl)
next_none false (Some k) e = absurd cc

pub next_some : (b : Bool) (o : Option ℕ) (k : ℕ) → (if b then Some 0 else option_map_or (λ k. Some (suc k)) o None) ≡ Some k
    → ((b ≡ true) × (k ≡ 0)) ⊎ ((b ≡ false) × ((i : ℕ) × (o ≡ Some i) × (k ≡ suc i)))
next_some true o k e = inl (refl, let z : 0 ≡ k = cc in sym z)
next_some false None k e = absurd cc
next_some false (Some i) k e = inr (refl, (i, refl, let z : suc i ≡ k = cc in sym z))

pub all_same : (u : Units) (m : Machine) (back : ℕ) (es : List Effect) (h : Held) → is_waiting h.exit ≡ false → waits_at u m back h es ≡ None → does_all u m back h es ≡ do_moves u m back h es
all_same u m back [] h r w = refl
all_same u m back (e ∷ es) h r w =
    let p = next_none (wants m h e) (waits_at u m back (do_move u m back h e) es) w in
    rw (does_same u m back h e r p.0) (all_same u m back es (do_move u m back h e) (move_runs u m back h e r) p.1)

pub all_wait : (u : Units) (m : Machine) (back : ℕ) (es : List Effect) (h : Held) (k : ℕ) → is_waiting h.exit ≡ false → waits_at u m back h es ≡ Some k
    → does_all u m back h es ≡ record (do_moves u m back h (take k es)) { exit = Stops }
all_wait u m back [] h k r w = absurd cc
all_wait u m back (e ∷ es) h k r w = elim (next_some (wants m h e) (waits_at u m back (do_move u m back h e) es) k w) [
  | inl p ↦ rw (p.1, does_wait u m back h e r p.0) (does_stay u m back (record h { exit = Stops }) es refl)
  | inr p ↦ rw (p.1.2, does_same u m back h e r p.0) (all_wait u m back es (do_move u m back h e) p.1.0 (move_runs u m back h e r) p.1.1)
]

pub all_runs : (u : Units) (m : Machine) (back : ℕ) (es : List Effect) (h : Held) → is_waiting h.exit ≡ false → is_waiting (do_moves u m back h es).exit ≡ false
all_runs u m back [] h r = r
all_runs u m back (e ∷ es) h r = all_runs u m back es (do_move u m back h e) (move_runs u m back h e r)

-- a list that does not wait has its meaning in both
pub meaning_same : (u : Units) (m : Machine) (back : ℕ) (es : List Effect) (h : Held) → is_waiting h.exit ≡ false → waits_at u m back h es ≡ None → means u m back h es ≡ true → has_meaning u m back h es ≡ true
meaning_same u m back [] h r w e = refl
meaning_same u m back (v ∷ es) h r w e =
    let p = next_none (wants m h v) (waits_at u m back (do_move u m back h v) es) w in
    let g : (not (lacks m h v) && means u m back (does u m back h v) es) ≡ true = rw r at e in
    let q = and_split (not (lacks m h v)) (means u m back (does u m back h v) es) g in
    let more : means u m back (do_move u m back h v) es ≡ true = rw (does_same u m back h v r p.0) at q.1 in
    rw (q.0, meaning_same u m back es (do_move u m back h v) (move_runs u m back h v r) p.1 more) refl

-- ---- more input

-- the same with zeros after the input
abbrev pub pad : ℕ → Held → Held
pad n h = record h { rest = h.rest ++ replicate n 0 }

pub first_pad : (n : ℕ) (r : List ℕ) → slice_index (r ++ replicate n 0) 0 ≡ slice_index r 0
first_pad zero [] = refl
first_pad (suc n) [] = refl
first_pad n (x ∷ r) = refl

-- what is left where a word was there, and where none was
pub left_pad : (n : ℕ) (r : List ℕ) (b : Bool) → (b && is_none (slice_get r 0)) ≡ false → (if b then drop 1 (r ++ replicate n 0) else r ++ replicate n 0) ≡ (if b then drop 1 r else r) ++ replicate n 0
left_pad n r false w = refl
left_pad n [] true w = absurd cc
left_pad n (x ∷ r) true w = refl

-- a move that wants no word does the same with more input
pub move_pad : (u : Units) (m : Machine) (back n : ℕ) (h : Held) (e : Effect) → wants m h e ≡ false → do_move u m back (pad n h) e ≡ pad n (do_move u m back h e)
unfolding do_move
move_pad u m back n h e w = on (bring (read_held h.written) e) w where
  one : (b : Brought) (o : Option Start) → (option_map_or takes o false && is_none (slice_get h.rest 0)) ≡ false → acts u m back (pad n h) b (option_to_list o) ≡ pad n (acts u m back h b (option_to_list o))
  one b None w = refl
  one b (Some t) w = rw (first_pad n h.rest, left_pad n h.rest (takes t) w) refl

  on : (o : Option Brought) → (option_map_or takes (started_by m h o) false && is_none (slice_get h.rest 0)) ≡ false → total u m back (pad n h) o ≡ pad n (total u m back h o)
  on None w = refl
  on (Some b) w = one b (start_of m h.written b) w

pub longer : (n : ℕ) (r : List ℕ) (b : Bool) → (b && is_none (slice_get r 0)) ≡ false → (b && is_none (slice_get (r ++ replicate n 0) 0)) ≡ false
longer n r false w = refl
longer n [] true w = absurd cc
longer n (x ∷ r) true w = refl

pub wants_pad : (m : Machine) (n : ℕ) (h : Held) (e : Effect) → wants m h e ≡ false → wants m (pad n h) e ≡ false
wants_pad m n h e w = longer n h.rest (option_map_or takes (started_by m h (bring (read_held h.written) e)) false) w

enough : (n : ℕ) (r : List ℕ) (b : Bool) → (b && is_none (slice_get (r ++ replicate (suc n) 0) 0)) ≡ false
enough n r false = refl
enough n [] true = refl
enough n (x ∷ r) true = refl

-- with zeros after it no effect wants a word
pub never_wants : (m : Machine) (n : ℕ) (h : Held) (e : Effect) → wants m (pad (suc n) h) e ≡ false
never_wants m n h e = enough n h.rest (option_map_or takes (started_by m h (bring (read_held h.written) e)) false)

pub lacks_pad : (m : Machine) (n : ℕ) (h : Held) (e : Effect) → lacks m (pad n h) e ≡ lacks m h e
unfolding lacks
lacks_pad m n h e = refl

-- one effect takes at most one of the zeros
left_some : (n : ℕ) (r : List ℕ) (b : Bool) → (i : ℕ) × (n ≤ i) × ((if b then drop 1 (r ++ replicate (suc n) 0) else r ++ replicate (suc n) 0) ≡ (if b then drop 1 r else r) ++ replicate i 0)
left_some n r false = (suc n, omega arith, refl)
left_some n [] true = (n, omega arith, refl)
left_some n (x ∷ r) true = (suc n, omega arith, refl)

move_takes : (u : Units) (m : Machine) (back n : ℕ) (h : Held) (e : Effect) → (i : ℕ) × (n ≤ i) × (do_move u m back (pad (suc n) h) e ≡ pad i (do_move u m back h e))
unfolding do_move
move_takes u m back n h e = on (bring (read_held h.written) e) where
  one : (b : Brought) (o : Option Start) → (i : ℕ) × (n ≤ i) × (acts u m back (pad (suc n) h) b (option_to_list o) ≡ pad i (acts u m back h b (option_to_list o)))
  one b None = (suc n, omega arith, refl)
  one b (Some t) = let l = left_some n h.rest (takes t) in (l.0, l.1, rw (first_pad (suc n) h.rest, l.2) refl)

  on : (o : Option Brought) → (i : ℕ) × (n ≤ i) × (total u m back (pad (suc n) h) o ≡ pad i (total u m back h o))
  on None = (suc n, omega arith, refl)
  on (Some b) = one b (start_of m h.written b)

-- a list that has a meaning with a zero for each of its effects has one where missing words are 0
pub meaning_padded : (u : Units) (m : Machine) (back : ℕ) (es : List Effect) (h : Held) (n : ℕ) → is_waiting h.exit ≡ false → length es ≤ n → means u m back (pad n h) es ≡ true → has_meaning u m back h es ≡ true
meaning_padded u m back [] h n r le e = refl
meaning_padded u m back (v ∷ es) h zero r le e = absurd (omega arith)
meaning_padded u m back (v ∷ es) h (suc n) r le e =
    let g : (not (lacks m (pad (suc n) h) v) && means u m back (does u m back (pad (suc n) h) v) es) ≡ true = rw r at e in
    let q = and_split (not (lacks m (pad (suc n) h) v)) (means u m back (does u m back (pad (suc n) h) v) es) g in
    let none : not (lacks m h v) ≡ true = rw (lacks_pad m (suc n) h v) at q.0 in
    let step = move_takes u m back n h v in
    let same : does u m back (pad (suc n) h) v ≡ pad step.0 (do_move u m back h v) = does_same u m back (pad (suc n) h) v r (never_wants m n h v) ∙ step.2 in
    let more : means u m back (pad step.0 (do_move u m back h v)) es ≡ true = rw same at q.1 in
    rw (none, meaning_padded u m back es (do_move u m back h v) step.0 (move_runs u m back h v r) (let l = step.1 in omega arith) more) refl

-- a list that does not wait does the same with more input
pub all_pad : (u : Units) (m : Machine) (back n : ℕ) (es : List Effect) (h : Held) → waits_at u m back h es ≡ None → do_moves u m back (pad n h) es ≡ pad n (do_moves u m back h es)
all_pad u m back n [] h w = refl
all_pad u m back n (e ∷ es) h w =
    let p = next_none (wants m h e) (waits_at u m back (do_move u m back h e) es) w in
    rw (move_pad u m back n h e p.0) (all_pad u m back n es (do_move u m back h e) p.1)

pub waits_pad : (u : Units) (m : Machine) (back n : ℕ) (es : List Effect) (h : Held) → waits_at u m back h es ≡ None → waits_at u m back (pad n h) es ≡ None
waits_pad u m back n [] h w = refl
waits_pad u m back n (e ∷ es) h w =
    let p = next_none (wants m h e) (waits_at u m back (do_move u m back h e) es) w in
    rw (wants_pad m n h e p.0, move_pad u m back n h e p.0, waits_pad u m back n es (do_move u m back h e) p.1) refl
