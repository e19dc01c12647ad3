-- One clock of circuits that stand for cores of a network.
use Rattle.std.proofs.Common.{◌≡◌, ℕ, Bool, true, false, ◌&&◌, List, [], ◌∷◌, ◌++◌, Option, Some, None, refl, sym, ap, ◌∙◌, subst, append-nil}
use Rattle.std.specs.Prelude.{slice_get, if◌then◌else◌}
use Rattle.std.specs.Option.{option_map_or}
use Rattle.std.specs.List.{AllByRecursion}
use Rattle.tta_board.specs.Cited.{Units, State, next, is_set, Asks, Puts, PutWord, Hardware, StandsFor, is_fault, is_waiting, HasStepped, Pin, InData, OutReady, OutValid, OutData, gives, Core, Network, NetworkCore, output_of, feeder_of, after_step, stepped, interleaved, cycles_given, IsCore, HaveCome, UsesQueues, is_among, StepAtOnce, seen, new_words, CoresClock, waiting_for, IsShown}
use Rattle.tta_hardware.specs.Signals.{Signal as Named}
use Rattle.tta_hardware.proofs.Circuits.{words_stay, data_stays, frame_stays, rom_stays}
use Rattle.tta_kahn.proofs.CoreQueues.{cores_use}
use Rattle.tta_joint.proofs.AtOnce.{in_turn, none_in_turn, stepped_goes}
use Rattle.tta_joint.proofs.Joining.{seen_first, shown_of_all, joint_clock}
use Rattle.tta_board.specs.Board.{Board, Inputs, lines, pins_of, AreWired, core_after, board_after}
use Rattle.tta_board.specs.Laws.{StandsAmong, StandForCores, AreFine, HasClocked, BoardClock}
use Rattle.tta_board.proofs.Going.{places_apart}
use Rattle.tta_board.proofs.Entering.{quiet}
use Rattle.tta_board.proofs.Passing as passing
use Rattle.tta_board.proofs.Making as making
use Rattle.tta_hardware.proofs.Still.{stands_too}
use Rattle.tta_board.proofs.Standing.{same_waits}

module _ (u : Units) (cores : List Core) (feeds : List (Option ℕ)) (memories : ℕ → List ℕ) (k : ℕ → ℕ) (given came : ℕ → List ℕ)
    (b : Board) (i : Inputs) (joined : List (NetworkCore State)) (all : AllByRecursion IsCore cores)
    (have : HaveCome (cycles_given u cores feeds given) came) (wired : AreWired u cores feeds memories k b i)
    (on : i.reset ≡ false) (stand : StandForCores u cores feeds memories k came b joined)
    (fine : AreFine u cores feeds memories k came joined) where
  abbrev net : Network State
  net = cycles_given u cores feeds given

  -- the network where only this has come from outside
  abbrev so_far : Network State
  so_far = cycles_given u cores feeds came

  uses : UsesQueues net
  uses = cores_use u cores all feeds given

  abbrev env : ℕ → Pin → ℕ
  env core = pins_of u cores feeds memories k b i core

  abbrev line : ℕ → Core → Named → ℕ
  line core c = lines u cores feeds memories k b i core c

  abbrev goes_at : ℕ → Core → Bool
  goes_at core c = passing.goes_at u cores feeds memories k b i core c

  abbrev going : List ℕ
  going = passing.going u cores feeds memories k b i

  abbrev shown : ℕ → List ℕ
  shown core = seen (env core)

  abbrev held : ℕ → Core → Hardware
  held core c = core_after u cores feeds memories k b i core (Some c)

  abbrev at : ℕ → NetworkCore State → State
  at core j = record j.state { rest = shown core }

  abbrev Among : ℕ → Core → Type 0
  Among core c = StandsAmong u cores feeds memories k b joined core c

  -- ---- the cores that carry an instruction out make their cycles

  among_goes : (core : ℕ) (c : Core) → slice_get cores core ≡ Some c → is_among core going ≡ goes_at core c
  among_goes core c there = passing.among_goes u cores feeds memories k b i core c there

  step_is : (core : ℕ) (c : Core) (j : NetworkCore State) → slice_get cores core ≡ Some c
      → after_step net core (shown core) j ≡ next u c.machine c.code (at core j)
  step_is core c j there = making.step_is u cores feeds memories k came b i joined all wired on stand fine core c j there

  makes : (core : ℕ) (c : Core) → slice_get cores core ≡ Some c → (s : Among core c) → goes_at core c ≡ true
      → HasStepped u c.machine c.code (held core c) (line core c) (at core s.now) (next u c.machine c.code (at core s.now))
  makes core c there s goes = making.makes u cores feeds memories k came b i joined all wired on stand fine core c there s goes

  -- what is at a core's place is what its circuit stands for
  record Which (core : ℕ) (j : NetworkCore State) : Type 0 where
    pub core_is : Core
    pub there : slice_get cores core ≡ Some core_is
    pub among : Among core core_is
    pub same : among.now ≡ j

  which : (core : ℕ) (j : NetworkCore State) → slice_get joined core ≡ Some j → Which core j
  which core j there = by (slice_get cores core) refl where
    by : (o : Option Core) → slice_get cores core ≡ o → Which core j
    by None none = absurd (let e : Some j ≡ None = sym there ∙ stand.none core none in cc)
    by (Some c) is =
        let s = stand.each core c is in
        record { core_is = c; there = is; among = s; same = (let e : Some s.now ≡ Some j = sym s.there ∙ there in cc) }

  waits_not : (core : ℕ) (j : NetworkCore State) → is_among core going ≡ true → slice_get joined core ≡ Some j
      → net.waits (after_step net core (shown core) j) ≡ false
  waits_not core j among there =
      let w = which core j there in
      let goes : goes_at core w.core_is ≡ true = sym (among_goes core w.core_is w.there) ∙ among in
      ap (λ (x : NetworkCore State). net.waits (after_step net core (shown core) x)) (sym w.same)
      ∙ ap net.waits (step_is core w.core_is w.among.now w.there) ∙ same_waits _ ∙ (makes core w.core_is w.there w.among goes).goes_on

  are_shown : (core : ℕ) (j : NetworkCore State) → is_among core going ≡ true → slice_get joined core ≡ Some j
      → IsShown net joined core (shown core) j
  are_shown core j among there =
      let shows = making.shows u cores feeds memories k came b i joined all wired on stand fine core j there in
      let first = seen_first (k core) (env core) (waiting_for so_far joined core j) shows in
      shown_of_all net came have joined core (shown core) j
      (record { within = (stand.queued core j there).within; later = first.0; begins = first.1; goes = waits_not core j among there })

  abbrev after : List (NetworkCore State)
  after = interleaved net joined going

  at_once : StepAtOnce net shown going joined after
  at_once = record {
    some = λ core j there. in_turn net uses shown going joined (places_apart goes_at 0 cores) are_shown core j there;
    none = λ core none. none_in_turn net uses going joined core none;
  }

  -- ---- what passes between circuits

  asks : (core : ℕ) (j : NetworkCore State) → is_among core going ≡ true → slice_get joined core ≡ Some j
      → net.rest (after_step net core (shown core) j) ≡ (if gives (env core) then [] else shown core)
  asks core j among there =
      let w = which core j there in
      let goes : goes_at core w.core_is ≡ true = sym (among_goes core w.core_is w.there) ∙ among in
      ap (λ (x : NetworkCore State). net.rest (after_step net core (shown core) x)) (sym w.same)
      ∙ ap net.rest (step_is core w.core_is w.among.now w.there) ∙ (makes core w.core_is w.there w.among goes).rest
      ∙ passing.left_of (is_set (env core OutValid)) (is_set (env core OutReady)) (is_set (line core w.core_is Asks)) (env core OutData)
      ((wired.each core w.core_is w.there).asked ∙ ap (λ g. g && is_set (line core w.core_is Asks)) goes)

  -- the state of a core after its step
  abbrev new_state : (core : ℕ) (c : Core) → NetworkCore State → State
  new_state core c j = record (next u c.machine c.code (at core j)) { rest = [] }

  state_is : (core : ℕ) (c : Core) (s : Among core c) → slice_get cores core ≡ Some c → goes_at core c ≡ true
      → (stepped net core (shown core) s.now).state ≡ new_state core c s.now
  state_is core c s there goes =
      ap (λ (x : NetworkCore State). x.state)
      (stepped_goes net uses core s.now (shown core) (waits_not core s.now (among_goes core c there ∙ goes) s.there))
      ∙ ap (λ (t : State). record t { rest = [] }) (step_is core c s.now there)

  -- where a core is after the clock
  now_is : (core : ℕ) (c : Core) (s : Among core c) → slice_get cores core ≡ Some c → (g : Bool) → goes_at core c ≡ g
      → slice_get after core ≡ Some (if g then stepped net core (shown core) s.now else s.now)
  now_is core c s there g is =
      at_once.some core s.now s.there
      ∙ ap (λ (x : Bool). Some (if x then stepped net core (shown core) s.now else s.now)) (among_goes core c there ∙ is)

  abbrev put_of : Option (NetworkCore State) → List ℕ
  put_of o = option_map_or (λ x. net.output x.state) o []

  -- a core has put out what its circuit puts out
  put_out : (core : ℕ) (c : Core) → slice_get cores core ≡ Some c
      → output_of net after core ≡ output_of net joined core ++ (if is_set (line core c Puts) then line core c PutWord ∷ [] else [])
  put_out core c there = goes (goes_at core c) refl where
    s : Among core c
    s = stand.each core c there

    before : output_of net joined core ≡ s.now.state.output
    before = ap put_of s.there

    goes : (g : Bool) → goes_at core c ≡ g
        → output_of net after core ≡ output_of net joined core ++ (if is_set (line core c Puts) then line core c PutWord ∷ [] else [])
    goes true is =
        ap put_of (now_is core c s there true is) ∙ ap (λ (t : State). t.output) (state_is core c s there is)
        ∙ (makes core c there s is).output
        ∙ ap (λ (ws : List ℕ). ws ++ (if is_set (line core c Puts) then line core c PutWord ∷ [] else [])) (sym before)
    goes false is =
        ap put_of (now_is core c s there false is) ∙ sym before ∙ sym (append-nil (output_of net joined core))
        ∙ ap (λ (t : Bool). output_of net joined core ++ (if t then line core c PutWord ∷ [] else []))
        (sym (quiet u c.machine c.code (memories core) (b.cores core) (i.cores core) is))

  puts : (core feeder : ℕ) → feeder_of net core ≡ Some feeder
      → output_of net after feeder ≡ output_of net joined feeder ++ new_words (env core)
  puts core feeder feeds_it = by (slice_get cores feeder) refl where
    by : (o : Option Core) → slice_get cores feeder ≡ o → output_of net after feeder ≡ output_of net joined feeder ++ new_words (env core)
    by None none =
        let out : slice_get joined feeder ≡ None = stand.none feeder none in
        ap put_of (at_once.none feeder out)
        ∙ sym (ap (λ (o : Option (NetworkCore State)). put_of o ++ new_words (env core)) out
        ∙ ap (λ (t : Bool). if t then env core InData ∷ [] else [])
        (passing.not_taken u cores feeds memories k b i wired core (wired.no_core core feeder feeds_it none)))
    by (Some f) there =
        put_out feeder f there
        ∙ ap (λ (w : ℕ). output_of net joined feeder ++ (if is_set (line feeder f Puts) then w ∷ [] else []))
        (sym (wired.fed core feeder f feeds_it there).1)
        ∙ ap (λ (t : Bool). output_of net joined feeder ++ (if t then env core InData ∷ [] else []))
        (sym (passing.taken_where u cores feeds memories k b i wired core feeder f feeds_it there))

  clock : CoresClock net env going joined after
  clock = record {
    apart = places_apart goes_at 0 cores;
    at_once = at_once;
    goes = waits_not;
    asks = asks;
    stays = passing.stays u cores feeds memories k b i wired;
    puts = puts;
  }

  -- ---- after it

  abbrev AmongAfter : ℕ → Core → Type 0
  AmongAfter core c = StandsAmong u cores feeds memories k (board_after u cores feeds memories k b i) after core c

  -- what a core's circuit holds is what it held and has clocked
  held_after : (core : ℕ) (c : Core) (s : State) → slice_get cores core ≡ Some c → StandsFor c.machine c.code (held core c) s
      → StandsFor c.machine c.code ((board_after u cores feeds memories k b i).cores core) s
  held_after core c s there stands =
      subst (λ (o : Option Core). StandsFor c.machine c.code (core_after u cores feeds memories k b i core o) s) (sym there) stands

  stands_after : (core : ℕ) (c : Core) → slice_get cores core ≡ Some c → AmongAfter core c
  stands_after core c there = by (goes_at core c) refl where
    s : Among core c
    s = stand.each core c there

    by : (g : Bool) → goes_at core c ≡ g → AmongAfter core c
    by true goes =
        let has = makes core c there s goes in
        let is = state_is core c s there goes in
        record {
          now = stepped net core (shown core) s.now;
          there = now_is core c s there true goes;
          stands = held_after core c (stepped net core (shown core) s.now).state there
              (subst (StandsFor c.machine c.code (held core c)) (sym is)
              (stands_too c.machine c.code (held core c) (held core c) (next u c.machine c.code (at core s.now)) []
              (λ n. refl) refl refl refl
              has.stands));
          goes_on = ap (λ (t : State). is_waiting t.outcome) is ∙ has.goes_on;
          fine =
              ap (λ (t : State). is_fault t.outcome) is
              ∙ making.fine_at u cores feeds memories k came b i joined all wired on stand fine core c s there;
        }
    by false stops = record {
      now = s.now;
      there = now_is core c s there false stops;
      stands = held_after core c s.now.state there
          (stands_too c.machine c.code (b.cores core) (held core c) s.now.state s.now.state.rest
          (words_stay u c.machine c.code (memories core) (b.cores core) (i.cores core) stops
          (passing.not_reset u cores feeds memories k b i wired on core c there))
          (data_stays u c.machine c.code (memories core) (b.cores core) (i.cores core) stops)
          (frame_stays u c.machine c.code (memories core) (b.cores core) (i.cores core) stops)
          (rom_stays u c.machine c.code (memories core) (b.cores core) (i.cores core)) s.stands);
      goes_on = s.goes_on;
      fine = s.fine;
    }

  clocked : HasClocked u cores feeds memories k given came b i joined
  clocked = record {
    going = going;
    exactly = among_goes;
    stand = record {
      each = stands_after;
      none = λ core none. at_once.none core (stand.none core none);
      queued = (joint_clock State net uses came have u k 32 b.queues i.queues going joined after stand.queued
          (λ core. wired.reset core ∙ on) clock).1;
    };
    puts = put_out;
  }

pub board_clock : BoardClock
board_clock u cores feeds memories k given came b i joined all have wired on stand fine =
    clocked u cores feeds memories k given came b i joined all have wired on stand fine
