-- Any number of clocks of cores with queues.
use Rattle.std.proofs.Common.{◌≡◌, ℕ, zero, suc, ◌+◌, ◌-◌, ◌≤◌, Bool, true, false, List, [], ◌∷◌, ◌++◌, length, drop, Option, Some, None, refl, sym, ap, subst, ◌∙◌, arith, length-append, append_assoc}
use Rattle.std.specs.Prelude.{slice_get, if◌then◌else◌}
use Rattle.std.specs.Option.{option_map_or}
use Rattle.std.proofs.lemmas.Bool.{and_parts}
use Rattle.std.proofs.lemmas.List.{drop-append-le, drop-drop, length-drop}
use Rattle.std.proofs.lemmas.List.Sums.{fold-append}
use Rattle.tta_ops.specs.Units.{Units}
use Rattle.tta_circuit.specs.Meaning.{Held, bit, is_set, settled, clocked}
use Rattle.tta_queue.specs.Queue.{Pin, InData, OutValid, OutData, OutReady, IsReset, Store, same_pin, same_store, queue_of}
use Rattle.tta_queue.specs.Laws.{HasInside, Shows, takes, gives, after_clock, queue, pins, BeginUpTo}
use Rattle.tta_queue.proofs.Clocking.{queue_clocks}
use Rattle.tta_queue.proofs.Running.{waited, first_word, none_inside}
use Rattle.tta_list.specs.Prefix.{IsPrefixOf}
use Rattle.tta_list.proofs.Prefixes.{prefix_same, prefix_chain}
use Rattle.tta_kahn.specs.Network.{Network, NetworkCore, output_of, feeder_of, fed_to, stepped, turn, interleaved, joined}
use Rattle.tta_kahn.specs.Queues.{UsesQueues}
use Rattle.tta_joint.specs.Joint.{is_among, seen, new_words, CoresClock, where_came, HaveCome, come_with, steps_by, waiting_for}
use Rattle.tta_joint.specs.Laws.{IsShown, IsQueued, AreQueued, JointClock, come_by, HaveJoined, JointRuns}
use Rattle.tta_joint.proofs.AtOnce.{interleave, stepped_goes}

-- what is seen of a queue is how it begins
pub seen_first : (k : ℕ) (env : Pin → ℕ) (words : List ℕ) → Shows k env words → (later : List ℕ) × (words ≡ seen env ++ later)
seen_first k env words shows = by (is_set (env OutValid)) refl where
  by : (b : Bool) → is_set (env OutValid) ≡ b → (later : List ℕ) × (words ≡ (if b then env OutData ∷ [] else []) ++ later)
  by true valid = (drop 1 words, first_word k env words shows valid)
  by false none = (words, refl)

-- a queue that gives a word has one, and shows one
gives_one : (env : Pin → ℕ) → gives env ≡ true → length (seen env) ≡ 1
gives_one env is =
    ap (λ (b : Bool). length (if b then env OutData ∷ [] else [])) (and_parts (is_set (env OutValid)) (is_set (env OutReady)) is).0

-- where more was taken, and more put
more_of : (g : Bool) (taken : ℕ) (fed new : List ℕ) → taken + bit g ≤ length fed
    → drop (taken + bit g) (fed ++ new) ≡ (if g then drop 1 (drop taken fed) else drop taken fed) ++ new
more_of true taken fed new within = drop-append-le (taken + 1) fed new within ∙ ap (λ ws. ws ++ new) (sym (drop-drop 1 taken fed))
more_of false taken fed new within =
    let none : taken + 0 ≡ taken = omega arith in
    ap (λ n. drop n (fed ++ new)) none ∙ drop-append-le taken fed new (omega (arith, within))

-- ---- words from outside

module _ {S : Type 0} (net : Network S) (came : ℕ → List ℕ) (begins : HaveCome net came) where
  -- what is fed to a core so far begins all that is
  pub fed_begins : (cores : List (NetworkCore S)) (core : ℕ) → IsPrefixOf (fed_to (where_came net came) cores core) (fed_to net cores core)
  fed_begins cores core = by (feeder_of net core) refl where
    by : (o : Option ℕ) → feeder_of net core ≡ o
        → IsPrefixOf (option_map_or (output_of net cores) o (came core)) (option_map_or (output_of net cores) o (net.given core))
    by None none = begins core none
    by (Some feeder) is = prefix_same _ _ refl

  -- and so what is left for it
  pub left_begins : (cores : List (NetworkCore S)) (core : ℕ) (c : NetworkCore S) → c.taken ≤ length (fed_to (where_came net came) cores core)
      → IsPrefixOf (waiting_for (where_came net came) cores core c) (waiting_for net cores core c)
  left_begins cores core c within =
      let more = fed_begins cores core in
      (more.0, ap (drop c.taken) more.1 ∙ drop-append-le c.taken (fed_to (where_came net came) cores core) more.0 within)

  -- so a core that is shown how the one begins is shown how the other does
  pub shown_of_all : (cores : List (NetworkCore S)) (core : ℕ) (shown : List ℕ) (c : NetworkCore S)
      → IsShown (where_came net came) cores core shown c → IsShown net cores core shown c
  shown_of_all cores core shown c is =
      let fed = fed_begins cores core in
      let more = left_begins cores core c is.within in
      let l : length (fed_to net cores core) ≡ length (fed_to (where_came net came) cores core) + length fed.0 = ap length fed.1
      ∙ length-append (fed_to (where_came net came) cores core) fed.0 in
      record {
        within = let w = is.within in omega (arith, l, w);
        later = is.later ++ more.0;
        begins = more.1 ∙ ap (λ (ws : List ℕ). ws ++ more.0) is.begins ∙ append_assoc shown is.later more.0;
        goes = is.goes;
      }

-- what came by fewer clocks begins what came by more
pub came_before : {S : Type 0} (net : Network S) (came : ℕ → List ℕ) (env : ℕ → Pin → ℕ) → HaveCome net (come_with came env)
    → HaveCome net came
came_before net came env have core none =
    prefix_chain (came core) (come_with came env core) (net.given core) (new_words (env core), refl) (have core none)

module _ {S : Type 0} (net : Network S) (uses : UsesQueues net) (came : ℕ → List ℕ) (begins : HaveCome net came) (u : Units) (k : ℕ → ℕ)
    (width : ℕ) (h : ℕ → Held Pin Store) (inputs : ℕ → Pin → ℕ) (going : List ℕ) (before after : List (NetworkCore S))
    (queued : AreQueued k h (where_came net came) before) (on : (core : ℕ) → is_set (inputs core IsReset) ≡ false)
    (clock : CoresClock net (λ core. settled same_pin u (queue_of (k core) width) (h core) (inputs core)) going before after) where
  abbrev env : ℕ → Pin → ℕ
  env core = settled same_pin u (queue_of (k core) width) (h core) (inputs core)

  abbrev so_far : Network S
  so_far = where_came net came

  abbrev so_then : Network S
  so_then = where_came net (come_with came env)

  abbrev later : ℕ → Held Pin Store
  later core = clocked same_pin same_store u (queue_of (k core) width) (env core) (h core)

  shows : (core : ℕ) (c : NetworkCore S) → slice_get before core ≡ Some c → Shows (k core) (env core) (waiting_for so_far before core c)
  shows core c there =
      (queue_clocks u (k core) width (h core) (waiting_for so_far before core c) (inputs core) (queued core c there).inside (on core)).0

  -- a clock is the steps of its cores
  one_leads : after ≡ interleaved net before going
  one_leads =
      interleave net uses (λ core. seen (env core)) going before after clock.apart
      (λ core c among there.
      let first = seen_first (k core) (env core) (waiting_for so_far before core c) (shows core c there) in
      shown_of_all net came begins before core (seen (env core)) c
      (record { within = (queued core c there).within; later = first.0; begins = first.1; goes = clock.goes core c among there }))
      clock.at_once

  -- a core's feeder has output what the core's queue takes, or it has come from outside
  fed_more : (core : ℕ) → fed_to so_then after core ≡ fed_to so_far before core ++ new_words (env core)
  fed_more core = by (feeder_of net core) refl where
    by : (o : Option ℕ) → feeder_of net core ≡ o
        → option_map_or (output_of net after) o (come_with came env core)
        ≡ option_map_or (output_of net before) o (came core) ++ new_words (env core)
    by None none = refl
    by (Some feeder) is = clock.puts core feeder is

  -- the core that a core comes to be has taken what its queue gave
  record HasTaken (core : ℕ) (c d : NetworkCore S) : Type 0 where
    count : d.taken ≡ c.taken + bit (gives (env core))
    there : slice_get after core ≡ Some d

  takes_so : (core : ℕ) (c : NetworkCore S) → slice_get before core ≡ Some c → (d : NetworkCore S) × HasTaken core c d
  takes_so core c there = by (is_among core going) refl where
    by : (b : Bool) → is_among core going ≡ b → (d : NetworkCore S) × HasTaken core c d
    by false out = (
      c,
      record {
        count = (let none : c.taken ≡ c.taken + 0 = omega arith in none) ∙ ap (λ b. c.taken + bit b) (sym (clock.stays core out));
        there = clock.at_once.some core c there ∙ ap (λ (b : Bool). Some (if b then stepped net core (seen (env core)) c else c)) out;
      },
    )
    by true among =
        let goes = clock.goes core c among there in (
          stepped net core (seen (env core)) c,
          record {
            count = ap (λ (d : NetworkCore S). d.taken) (stepped_goes net uses core c (seen (env core)) goes)
                ∙ ap (λ n. c.taken + n) (used (gives (env core)) refl (clock.asks core c among there));
            there = clock.at_once.some core c there ∙ ap (λ (b : Bool). Some (if b then stepped net core (seen (env core)) c else c)) among;
          },
        )
      where
        used : {rest : List ℕ} → (g : Bool) → gives (env core) ≡ g → rest ≡ (if g then [] else seen (env core))
            → length (seen (env core)) - length rest ≡ bit g
        used {rest} true is left = let none : length rest ≡ 0 = ap length left in let one =
            gives_one (env core) is in omega (arith, none, one)
        used {rest} false is left = let all : length rest ≡ length (seen (env core)) = ap length left in omega (arith, all)

  -- and so its queue has what it has not taken
  one_queued : AreQueued k later so_then after
  one_queued core d at = by (slice_get before core) refl where
    by : (o : Option (NetworkCore S)) → slice_get before core ≡ o → IsQueued (k core) (later core) so_then after core d
    by None none = absurd (let e : Some d ≡ None = sym at ∙ clock.at_once.none core none in cc)
    by (Some c) there =
        let next = takes_so core c there in
        let same : next.0 ≡ d = (let e : Some next.0 ≡ Some d = sym next.1.there ∙ at in cc) in
        let was = queued core c there in
        let fed = fed_to so_far before core in
        let new = new_words (env core) in
        let within : c.taken + bit (gives (env core)) ≤ length fed = room (gives (env core)) refl in
        let count : d.taken ≡ c.taken + bit (gives (env core)) = sym (ap (λ (x : NetworkCore S). x.taken) same) ∙ next.1.count in
        let longer : length (fed_to so_then after core) ≡ length fed + length new = ap length (fed_more core) ∙ length-append fed new in
        let words : waiting_for so_then after core d ≡ after_clock (gives (env core)) (takes (env core)) (inputs core InData)
        (waiting_for so_far before core c) =
        ap (λ n. drop n (fed_to so_then after core)) count ∙ ap (drop (c.taken + bit (gives (env core)))) (fed_more core)
        ∙ more_of (gives (env core)) c.taken fed new within in
        record {
          within = omega (arith, count, longer, within);
          inside = subst (HasInside (k core) (later core)) (sym words)
              (queue_clocks u (k core) width (h core) (waiting_for so_far before core c) (inputs core) was.inside (on core)).1;
        }
      where
        some_left : (ws : List ℕ) (w : ℕ) → ws ≡ w ∷ drop 1 ws → 1 ≤ length ws
        some_left ws w is = let l : length ws ≡ suc (length (drop 1 ws)) = ap length is in omega (arith, l)

        room : (g : Bool) → gives (env core) ≡ g → c.taken + bit g ≤ length (fed_to so_far before core)
        room false is = let w = (queued core c there).within in omega (arith, w)
        room true is =
            let one : 1 ≤ length (waiting_for so_far before core c) =
            some_left (waiting_for so_far before core c) (env core OutData)
            (first_word (k core) (env core) (waiting_for so_far before core c) (shows core c there)
            (and_parts (is_set (env core OutValid)) (is_set (env core OutReady)) is).0) in
            let l : length (waiting_for so_far before core c) ≡ length (fed_to so_far before core) - c.taken =
            length-drop c.taken (fed_to so_far before core) in
            omega (arith, one, l)

pub joint_clock : (S : Type 0) → JointClock S
joint_clock S net uses came begins u k width h inputs going before after queued on clock = (
  one_leads net uses came begins u k width h inputs going before after queued on clock,
  one_queued net uses came begins u k width h inputs going before after queued on clock,
)

-- ---- many clocks

-- cores that have made no step, of which none has output anything, have taken nothing, and nothing is fed to them where nothing has come
pub untaken : {S : Type 0} (starts : List S) (core : ℕ) (c : NetworkCore S) → slice_get (joined starts) core ≡ Some c → c.taken ≡ 0
untaken [] core c is = absurd cc
untaken (s ∷ starts) zero c is = let e : record { state = s; taken = 0 } ≡ c = cc in sym (ap (λ (x : NetworkCore _). x.taken) e)
untaken (s ∷ starts) (suc core) c is = untaken starts core c is

pub unfed : {S : Type 0} (net : Network S) (starts : List S) → ((core : ℕ) → output_of net (joined starts) core ≡ [])
    → ((core : ℕ) → net.given core ≡ []) → (core : ℕ) → fed_to net (joined starts) core ≡ []
unfed net starts silent none core = by (feeder_of net core) where
  by : (o : Option ℕ) → option_map_or (output_of net (joined starts)) o (net.given core) ≡ []
  by None = none core
  by (Some feeder) = silent feeder

-- empty queues have what they have not taken
pub first_queued : {S : Type 0} (net : Network S) (starts : List S) → ((core : ℕ) → output_of net (joined starts) core ≡ [])
    → ((core : ℕ) → net.given core ≡ []) → (k : ℕ → ℕ) (h : ℕ → Held Pin Store) → ((core : ℕ) → HasInside (k core) (h core) [])
    → AreQueued k h net (joined starts)
first_queued net starts silent given k h empty core c at =
    let none : fed_to net (joined starts) core ≡ [] = unfed net starts silent given core in
    let zero_taken : c.taken ≡ 0 = untaken starts core c at in
    let left : waiting_for net (joined starts) core c ≡ [] = ap (λ n. drop n (fed_to net (joined starts) core)) zero_taken ∙ none in
    record { within = omega (arith, zero_taken); inside = subst (HasInside (k core) (h core)) (sym left) (empty core) }

module _ {S : Type 0} (net : Network S) (uses : UsesQueues net) (starts : List S)
    (silent : (core : ℕ) → output_of net (joined starts) core ≡ [])
    (u : Units) (k : ℕ → ℕ) (width : ℕ) (powers : ℕ → Pin → ℕ) (inputs : ℕ → ℕ → Pin → ℕ) (last : ℕ)
    (anew : (core : ℕ) → BeginUpTo last (inputs core)) (going : ℕ → List ℕ) (cores : ℕ → List (NetworkCore S)) (begins : cores 0 ≡ joined starts)
    (clock : (n : ℕ) → CoresClock net (λ core. pins u (k core) width (powers core) (inputs core) (suc (last + n))) (going n) (cores n)
    (cores (suc n))) where
  abbrev held : ℕ → ℕ → Held Pin Store
  held t core = queue u (k core) width (powers core) (inputs core) t

  abbrev come : ℕ → ℕ → List ℕ
  come t = come_by u k width powers inputs t

  abbrev Queued : ℕ → List (NetworkCore S) → Type 0
  Queued t joined = AreQueued k (held t) (where_came net (come t)) joined

  at_first : Queued (suc last) (joined starts)
  at_first = first_queued (where_came net (come (suc last))) starts silent
      (λ core. (waited u (k core) width (powers core) (inputs core) last (anew core) (suc last) (omega arith)).untaken) k (held (suc last))
      (λ core. none_inside u (k core) width (powers core) (inputs core) last (anew core))

  every : (n : ℕ) → HaveCome net (come (suc (last + n)))
      → HaveJoined u k width powers inputs (suc (last + n)) net starts (steps_by going n) (cores n)
  every zero have = record {
    lead = begins;
    queued = subst (Queued (suc (last + 0))) (sym begins) (subst (λ t. Queued (suc t) (joined starts)) none_more at_first);
  } where
    none_more : last ≡ last + 0
    none_more = omega arith
  every (suc n) have =
      let now : HaveCome net (come (suc (last + n))) = came_before net (come (suc (last + n)))
      (λ core. pins u (k core) width (powers core) (inputs core) (suc (last + n)))
      (subst (λ t. HaveCome net (come (suc t))) (sym one_more) have) in
      let before = every n now in
      let next = joint_clock S net uses (come (suc (last + n))) now u k width (held (suc (last + n)))
      (λ core. inputs core (suc (last + n))) (going n) (cores n) (cores (suc n)) before.queued
      (λ core. (anew core).on (suc (last + n)) (omega arith)) (clock n) in
      record {
        lead = next.0 ∙ ap (λ cs. interleaved net cs (going n)) before.lead
            ∙ sym (fold-append (turn net) (joined starts) (steps_by going n) (going n));
        queued = subst (λ t. Queued (suc t) (cores (suc n))) one_more next.1;
      }
    where
      one_more : suc (last + n) ≡ last + suc n
      one_more = omega arith

pub joint_runs : (S : Type 0) → JointRuns S
joint_runs S net uses starts silent u k width powers inputs last anew going cores begins clock n have =
    every net uses starts silent u k width powers inputs last anew going cores begins clock n have
