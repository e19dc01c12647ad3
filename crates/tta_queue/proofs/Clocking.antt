-- A clock of a queue.
use Rattle.std.proofs.Common.{◌≡◌, ℕ, ◌+◌, ◌-◌, ◌%◌, ◌/◌, ◌^◌, ◌<◌, ◌≤◌, ◌==◌, Bool, true, false, not, ◌&&◌, ◌||◌, nat_lt, List, [], ◌∷◌, length, drop, refl, sym, ap, ◌∙◌, subst, arith, append-nil}
use Rattle.std.specs.Prelude.{if◌then◌else◌, slice_index, slice_set}
use Rattle.std.proofs.lemmas.Bool.{ltb-true, ltb-false, eqb-true, eq-eqb, and_parts, false≢true, and_right}
use Rattle.std.proofs.lemmas.Nat.{pow_pos}
use Rattle.tta_ops.specs.Units.{Units}
use Rattle.tta_circuit.specs.Meaning.{Held, bit, is_set, settled, clocked}
use Rattle.tta_queue.specs.Queue.{Pin, InValid, InData, OutReady, IsReset, Head, Tail, Fill, InReady, OutValid, OutData, Takes, Gives, NextHead, Passes, Store, Words, same_pin, same_store, queue_of}
use Rattle.tta_queue.specs.Laws.{Stand, HasInside, takes, gives, after_clock, Shows, HasBegun, QueueClocks, QueueBegins, QueueLooks}
use Rattle.tta_queue.proofs.Round.{distance, twice}
use Rattle.tta_queue.proofs.Standing.{one_goes, one_comes, first_after, stands_alike, none_stand}

-- ---- tests

-- the word of a test tells whether it holds
set_bit : (b : Bool) → is_set (bit b) ≡ b
set_bit true = refl
set_bit false = refl

-- what a queue shows unless it begins anew
unless : (reset filled : Bool)
    → is_set (bit (is_set (bit (not reset)) && is_set (bit (not (is_set (bit filled)))))) ≡ (not reset && not filled)
unless true filled = refl
unless false true = refl
unless false false = refl

-- there is room where not all is full
room : (n m : ℕ) → n ≤ m → not (n == m) ≡ nat_lt n m
room n m le = by (n == m) refl where
  by : (b : Bool) → (n == m) ≡ b → not b ≡ nat_lt n m
  by true is = let same : n ≡ m = eqb-true n m is in other (nat_lt n m) refl same where
    other : (b : Bool) → nat_lt n m ≡ b → n ≡ m → false ≡ b
    other true less same = absurd (let l : n < m = ltb-true n m less in omega (arith, l, same))
    other false less same = refl
  by false is = other (nat_lt n m) refl where
    other : (b : Bool) → nat_lt n m ≡ b → true ≡ b
    other true less = refl
    other false less =
        let no = ltb-false n m less in
        absurd (false≢true (sym is ∙ eq-eqb n m (omega (arith, no, le))))

-- a register that counts, at a clock that goes on and at one that begins anew
counts_on : (reset passes : Bool) (next old : ℕ) → reset ≡ false
    → (if is_set (bit (reset || is_set (bit passes))) then (if reset then 0 else next) else old) ≡ (if passes then next else old)
counts_on reset passes next old on =
    ap (λ r. if is_set (bit (r || is_set (bit passes))) then (if r then 0 else next) else old) on
    ∙ ap (λ b. if is_set (bit b) then next else old) (set_bit passes) ∙ ap (λ b. if b then next else old) (set_bit passes)

counts_anew : (reset passes : Bool) (next old : ℕ) → reset ≡ true
    → (if is_set (bit (reset || passes)) then (if reset then 0 else next) else old) ≡ 0
counts_anew reset passes next old on = ap (λ r. if is_set (bit (r || passes)) then (if r then 0 else next) else old) on

-- ---- a clock that goes on

module _ (u : Units) (k width : ℕ) (h : Held Pin Store) (words : List ℕ) (inputs : Pin → ℕ) (inside : HasInside k h words)
    (on : is_set (inputs IsReset) ≡ false) where
  abbrev env : Pin → ℕ
  env = settled same_pin u (queue_of k width) h inputs

  abbrev stand : Stand k (h.words Head) (h.words Tail) (h.memories Words) words
  stand = inside.stand

  fill : env Fill ≡ length words
  fill =
      ap (λ n. (2 ^ (1 + k) + n - h.words Head) % 2 ^ (1 + k)) stand.ends
      ∙ ap (λ n. (2 ^ (1 + k) + (stand.first + length words) % 2 ^ (1 + k) - n) % 2 ^ (1 + k)) stand.starts
      ∙ distance stand.first (length words) (2 ^ (1 + k)) (omega (arith, stand.fits, twice k, pow_pos k))

  -- where it is not filled so far
  unfilled : (count : ℕ)
      → is_set (bit (is_set (bit (not (is_set (inputs IsReset)))) && is_set (bit (not (is_set (bit (env Fill == count)))))))
      ≡ not (length words == count)
  unfilled count =
      unless (is_set (inputs IsReset)) (env Fill == count) ∙ ap (λ r. not r && not (env Fill == count)) on
      ∙ ap (λ n. not (n == count)) fill

  shows : Shows k env words
  shows = record {
    ready = unfilled (2 ^ k) ∙ room (length words) (2 ^ k) stand.fits;
    valid = unfilled 0;
    word = inside.first;
  }

  -- where a word goes in
  abbrev place : ℕ
  place = h.words Tail / 2 ^ 0 % 2 ^ k

  -- one more, around
  abbrev next : ℕ → ℕ
  next n = (n + 1) % 2 ^ (1 + k)

  -- where the first word stands afterwards
  abbrev head_after : Bool → ℕ
  head_after g = if g then next (h.words Head) else h.words Head

  -- the words, once the first is gone, if it is given
  record HasGone (g : Bool) : Type 0 where
    pub stands : Stand k (head_after g) (h.words Tail) (h.memories Words) (if g then drop 1 words else words)
    pub fewer : length (if g then drop 1 words else words) ≤ length words

  gone : (g : Bool) → gives env ≡ g → HasGone g
  gone true is = record {
    stands =
        one_goes k (h.words Head) (h.words Tail) (h.memories Words) words
        (sym shows.valid ∙ (and_parts (is_set (env OutValid)) (is_set (env OutReady)) is).0) stand;
    fewer = less words;
  } where
    less : (ws : List ℕ) → length (drop 1 ws) ≤ length ws
    less [] = omega arith
    less (w ∷ ws) = omega arith
  gone false is = record { stands = stand; fewer = omega arith }

  -- a word is taken only where there is room
  free : takes env ≡ true → length words < 2 ^ k
  free is = ltb-true (length words) (2 ^ k) (sym shows.ready ∙ (and_parts (is_set (env InValid)) (is_set (env InReady)) is).1)

  -- what the clock leaves
  clocks : (g t : Bool) → gives env ≡ g → takes env ≡ t
      → Stand k (head_after g) (if t then next (h.words Tail) else h.words Tail)
      (if t then slice_set (h.memories Words) place (inputs InData) else h.memories Words) (after_clock g t (inputs InData) words)
  clocks g true g_is t_is =
      let before = gone g g_is in
      let room = free t_is in
      one_comes k (head_after g) (h.words Tail) (inputs InData) (h.memories Words) (if g then drop 1 words else words)
      (let le = before.fewer in omega (arith, le, room)) before.stands
  clocks g false g_is t_is =
      subst (Stand k (head_after g) (h.words Tail) (h.memories Words)) (sym (append-nil (if g then drop 1 words else words)))
      (gone g g_is).stands

  -- the word that the register of the first word takes
  front_after : (w : ℕ) (rest : List ℕ) → after_clock (gives env) (takes env) (inputs InData) words ≡ w ∷ rest
      → (clocked same_pin same_store u (queue_of k width) env h).words OutData ≡ w
  front_after w rest is =
      ap (λ (b : Bool). if b then inputs InData else slice_index (h.memories Words) (env NextHead / 2 ^ 0 % 2 ^ k)) passes
      ∙ ap (λ n. if takes env && (place == n / 2 ^ 0 % 2 ^ k) then inputs InData else slice_index (h.memories Words) (n / 2 ^ 0 % 2 ^ k)) head
      ∙ first_after k (head_after (gives env)) (h.words Tail) (inputs InData) (h.memories Words) (if gives env then drop 1 words else words)
      (takes env) (λ t. let le = (gone (gives env) refl).fewer in let room = free t in omega (arith, le, room)) (gone (gives env) refl).stands w
      rest is
    where
      passes : is_set (env Passes) ≡ (takes env && (place == env NextHead / 2 ^ 0 % 2 ^ k))
      passes =
          set_bit (is_set (env Takes) && is_set (bit (place == env NextHead / 2 ^ 0 % 2 ^ k)))
          ∙ ap (λ b. b && is_set (bit (place == env NextHead / 2 ^ 0 % 2 ^ k))) (set_bit (takes env))
          ∙ ap (λ b. takes env && b) (set_bit (place == env NextHead / 2 ^ 0 % 2 ^ k))

      head : env NextHead ≡ head_after (gives env)
      head = ap head_after (set_bit (gives env))

  left : HasInside k (clocked same_pin same_store u (queue_of k width) env h) (after_clock (gives env) (takes env) (inputs InData) words)
  left = record {
    stand =
        stands_alike (counts_on (is_set (inputs IsReset)) (gives env) (next (h.words Head)) (h.words Head) on)
        (counts_on (is_set (inputs IsReset)) (takes env) (next (h.words Tail)) (h.words Tail) on)
        (ap (λ (b : Bool). if b then slice_set (h.memories Words) place (inputs InData) else h.memories Words) (set_bit (takes env)))
        (clocks (gives env) (takes env) refl refl);
    first = front_after;
  }

pub queue_clocks : QueueClocks
queue_clocks u k width h words inputs inside on = (shows u k width h words inputs inside on, left u k width h words inputs inside on)

-- ---- a clock that begins anew

module _ (u : Units) (k width : ℕ) (h : Held Pin Store) (inputs : Pin → ℕ) (size : length (h.memories Words) ≡ 2 ^ k)
    (reset : is_set (inputs IsReset) ≡ true) where
  abbrev first_env : Pin → ℕ
  first_env = settled same_pin u (queue_of k width) h inputs

  not_shown : (count : ℕ)
      → is_set (bit (is_set (bit (not (is_set (inputs IsReset)))) && is_set (bit (not (is_set (bit (first_env Fill == count))))))) ≡ false
  not_shown count =
      unless (is_set (inputs IsReset)) (first_env Fill == count) ∙ ap (λ r. not r && not (first_env Fill == count)) reset

  untaken : takes first_env ≡ false
  untaken = and_right (is_set (inputs InValid)) (is_set (first_env InReady)) (not_shown (2 ^ k))

  same_memory : (clocked same_pin same_store u (queue_of k width) first_env h).memories Words ≡ h.memories Words
  same_memory =
      ap (λ (b : Bool). if b then slice_set (h.memories Words) (h.words Tail / 2 ^ 0 % 2 ^ k) (inputs InData) else h.memories Words)
      (set_bit (takes first_env) ∙ untaken)

  begins : HasBegun k first_env h (clocked same_pin same_store u (queue_of k width) first_env h)
  begins = record {
    untaken = untaken;
    ungiven = ap (λ b. b && is_set (inputs OutReady)) (not_shown 0);
    kept = same_memory;
    empty = record {
      stand =
          stands_alike
          (counts_anew (is_set (inputs IsReset)) (is_set (first_env Gives)) ((h.words Head + 1) % 2 ^ (1 + k)) (h.words Head) reset)
          (counts_anew (is_set (inputs IsReset)) (is_set (first_env Takes)) ((h.words Tail + 1) % 2 ^ (1 + k)) (h.words Tail) reset)
          same_memory (none_stand k (h.memories Words) size);
      first = λ w rest is. absurd cc;
    };
  }

pub queue_begins : QueueBegins
queue_begins u k width h inputs size reset = begins u k width h inputs size reset

-- ---- what is shown

pub queue_looks : QueueLooks
queue_looks u k width h inputs others reset = (shown (2 ^ k), (shown 0, refl)) where
  shown : (count : ℕ)
      → bit (is_set (bit (not (is_set (inputs IsReset)))) && is_set
      (bit (not (is_set (bit ((2 ^ (1 + k) + h.words Tail - h.words Head) % 2 ^ (1 + k) == count))))))
      ≡ bit (is_set (bit (not (is_set (others IsReset)))) && is_set
      (bit (not (is_set (bit ((2 ^ (1 + k) + h.words Tail - h.words Head) % 2 ^ (1 + k) == count))))))
  shown count =
      ap (λ r. bit (is_set (bit (not (is_set r)))
      && is_set (bit (not (is_set (bit ((2 ^ (1 + k) + h.words Tail - h.words Head) % 2 ^ (1 + k) == count))))))) reset
