-- Circuits that are joined by queues do what a network of the machines does in some order of their cycles.
use Rattle.std.specs.Prelude.{◌≡◌, ℕ, suc, ◌<◌, Bool, false, List, [], ◌∷◌, ◌++◌, map, Option, Some, None, length, slice_get, if◌then◌else◌}
use Rattle.std.specs.List.{AllByRecursion}
use Rattle.tta_board.specs.Cited.{IsPrefixOf, Units, State, is_set, Goes, Puts, PutWord, StandsFor, is_fault, is_waiting, Core, NetworkCore, joined, output_of, after_step, interleaved, AreComparable, feeder_of, cycles, cycles_given, first_states, cluster_given, output_given, group_output, IsGroupRest, AreWords, IsCore, Pair, IsPair, core_in, core_memory, program_memory, is_among, HaveCome, come_with, waiting_for, AreQueued, InValid, InData}
use Rattle.tta_board.specs.Board.{Board, Inputs, Powers, lines, pins_of, AreWired, board_after, board_at, put_by, came_by, AreBoardClocks}

module _ (u : Units) (cores : List Core) (feeds : List (Option ℕ)) (memories : ℕ → List ℕ) (k : ℕ → ℕ) where
  -- ---- what circuits stand for

  -- A core's circuit stands for its state, which neither waits nor is at a fault.
  pub record StandsAmong (b : Board) (joined : List (NetworkCore State)) (core : ℕ) (c : Core) : Type 0 where
    pub now : NetworkCore State
    pub there : slice_get joined core ≡ Some now
    pub stands : StandsFor c.machine c.code (b.cores core) now.state
    pub goes_on : is_waiting now.state.outcome ≡ false
    pub fine : is_fault now.state.outcome ≡ false

  -- The circuits stand for cores of a network, where these words have come from outside: each core's circuit for its state, and its queue
  -- holds exactly what the core's feeder has put out, or has come from outside for it, and the core has not taken.
  pub record StandForCores (came : ℕ → List ℕ) (b : Board) (joined : List (NetworkCore State)) : Type 0 where
    pub each : (core : ℕ) (c : Core) → slice_get cores core ≡ Some c → StandsAmong b joined core c
    pub none : (core : ℕ) → slice_get cores core ≡ None → slice_get joined core ≡ None
    pub queued : AreQueued k b.queues (cycles_given u cores feeds came) joined

  -- ---- one clock

  -- no core meets a fault in its next cycle on what is in its queue
  abbrev pub AreFine : (came : ℕ → List ℕ) → List (NetworkCore State) → Type 0
  AreFine came joined =
      let net = cycles_given u cores feeds came in
      (core : ℕ) (j : NetworkCore State) → slice_get joined core ≡ Some j
      → is_fault (after_step net core (waiting_for net joined core j) j).outcome ≡ false

  -- What a clock comes to: some cores make a cycle, one after another, those that the clock lets carry an instruction out; and each has
  -- put out what its circuit puts out. What came from outside before is followed by what comes at the clock.
  pub record HasClocked (given came : ℕ → List ℕ) (b : Board) (i : Inputs) (joined : List (NetworkCore State)) : Type 0 where
    pub going : List ℕ
    pub exactly : (core : ℕ) (c : Core) → slice_get cores core ≡ Some c
        → is_among core going ≡ is_set (lines u cores feeds memories k b i core c Goes)
    pub stand : StandForCores (come_with came (pins_of u cores feeds memories k b i)) (board_after u cores feeds memories k b i)
        (interleaved (cycles_given u cores feeds given) joined going)
    pub puts : (core : ℕ) (c : Core) → slice_get cores core ≡ Some c
        → output_of (cycles u cores feeds) (interleaved (cycles_given u cores feeds given) joined going) core
        ≡ output_of (cycles u cores feeds) joined core
        ++ (if is_set (lines u cores feeds memories k b i core c Puts) then lines u cores feeds memories k b i core c PutWord ∷ [] else [])

-- One clock of wired circuits that stand for cores of a network, and that do not begin anew: of any network whose cores are given words
-- from outside that begin with those that have come.
abbrev pub BoardClock : Type 0
BoardClock =
    (u : Units) (cores : List Core) (feeds : List (Option ℕ)) (memories : ℕ → List ℕ) (k : ℕ → ℕ) (given came : ℕ → List ℕ) (b : Board)
    (i : Inputs) (joined : List (NetworkCore State)) → AllByRecursion IsCore cores → HaveCome (cycles_given u cores feeds given) came
    → AreWired u cores feeds memories k b i → i.reset ≡ false → StandForCores u cores feeds memories k came b joined
    → AreFine u cores feeds memories k came joined → HasClocked u cores feeds memories k given came b i joined

-- ---- any number of clocks

-- Each data space begins with the words of its core, and they are as many as the machine has.
abbrev pub AreSpaces : List Core → (memories : ℕ → List ℕ) → (spaces : List (List ℕ)) → Type 0
AreSpaces cores memories spaces =
    (core : ℕ) (c : Core) → slice_get cores core ≡ Some c
    → (slice_get spaces core ≡ Some (memories core)) × (length (memories core) ≡ c.machine.data_words)

-- After the clocks that begin anew nothing has come from outside, and the circuits stand for the network before its first cycle.
abbrev pub BoardBegins : Type 0
BoardBegins =
    (u : Units) (cores : List Core) (feeds : List (Option ℕ)) (memories : ℕ → List ℕ) (spaces : List (List ℕ)) (k : ℕ → ℕ)
    (powers : Powers) (i : ℕ → Inputs) (last : ℕ) → AllByRecursion IsCore cores → AreSpaces cores memories spaces
    → AreBoardClocks u cores feeds memories k powers i last
    → ((core : ℕ) → came_by u cores feeds memories k powers i (suc last) core ≡ [])
    × StandForCores u cores feeds memories k (came_by u cores feeds memories k powers i (suc last))
    (board_at u cores feeds memories k powers i (suc last)) (joined (first_states cores spaces))

-- No core meets a fault in any order of cycles, where cores are given these words from outside.
abbrev pub NeverFault : Units → List Core → (feeds : List (Option ℕ)) → (given : ℕ → List ℕ) → (spaces : List (List ℕ)) → Type 0
NeverFault u cores feeds given spaces =
    (steps : List ℕ) (core : ℕ) (j : NetworkCore State) → slice_get (cluster_given u cores feeds given spaces steps) core ≡ Some j
    → is_fault j.state.outcome ≡ false

-- What has come from outside by so many clocks begins what cores are given.
abbrev pub HasComeBy : Units → List Core → (feeds : List (Option ℕ)) → (given : ℕ → List ℕ) → (memories : ℕ → List ℕ) → (k : ℕ → ℕ) → Powers
    → (i : ℕ → Inputs) → (t : ℕ) → Type 0
HasComeBy u cores feeds given memories k powers i t =
    HaveCome (cycles_given u cores feeds given) (came_by u cores feeds memories k powers i t)

-- After so many clocks the circuits stand for the network after these cycles, and each core has put out its output there. The network's
-- cores are given words from outside that begin with those that have come.
pub record HasRun (u : Units) (cores : List Core) (feeds : List (Option ℕ)) (given : ℕ → List ℕ) (memories : ℕ → List ℕ)
    (spaces : List (List ℕ)) (k : ℕ → ℕ) (powers : Powers) (i : ℕ → Inputs) (t : ℕ) (steps : List ℕ) : Type 0 where
  pub come : HasComeBy u cores feeds given memories k powers i t
  pub stand : StandForCores u cores feeds memories k (came_by u cores feeds memories k powers i t)
      (board_at u cores feeds memories k powers i t) (cluster_given u cores feeds given spaces steps)
  pub put : (core : ℕ) (c : Core) → slice_get cores core ≡ Some c
      → put_by u cores feeds memories k powers i core c t ≡ output_given u cores feeds given spaces steps core

-- After some clocks that begin anew, at least one, and every number of further clocks, there is an order of cycles of the network for
-- which the circuits stand: of cores with queues of any sizes, whatever words registers have when the power comes, whenever the outside
-- takes words, and whatever it offers at whatever clocks, as long as no core meets a fault. So it is in each network whose cores are given
-- words from outside that begin with those that have come: in that of these words alone, and in that of all that come later.
abbrev pub BoardRuns : Type 0
BoardRuns =
    (u : Units) (cores : List Core) (feeds : List (Option ℕ)) (given : ℕ → List ℕ) (memories : ℕ → List ℕ) (spaces : List (List ℕ))
    (k : ℕ → ℕ) (powers : Powers) (i : ℕ → Inputs) (last : ℕ) → AllByRecursion IsCore cores → AreSpaces cores memories spaces
    → NeverFault u cores feeds given spaces → AreBoardClocks u cores feeds memories k powers i last → (t : ℕ) → last < t
    → HasComeBy u cores feeds given memories k powers i t
    → (steps : List ℕ) × HasRun u cores feeds given memories spaces k powers i t steps

-- ---- wires

-- What the outside does at a clock: whether it would take a word that a core puts out; and whether it offers one to the queue of a core
-- that no other feeds, and that word.
pub record Surroundings : Type 0 where
  pub takes : ℕ → Bool
  pub offers : ℕ → Bool
  pub word : ℕ → ℕ

-- So it is with what comes in at a clock.
pub record ComesFrom (u : Units) (cores : List Core) (feeds : List (Option ℕ)) (o : Surroundings) (i : Inputs) : Type 0 where
  pub takes : (core : ℕ) → i.outside core ≡ o.takes core
  pub offers : (core : ℕ) → feeder_of (cycles u cores feeds) core ≡ None → is_set (i.queues core InValid) ≡ o.offers core
  pub word : (core : ℕ) → feeder_of (cycles u cores feeds) core ≡ None → i.queues core InData ≡ o.word core

-- Circuits can be wired at every clock, for all that the outside does at all times: what queues show is there first, then what cores
-- do, and then what queues take and give, and no wire runs in a loop.
abbrev pub BoardSettles : Type 0
BoardSettles =
    (u : Units) (cores : List Core) (feeds : List (Option ℕ)) (memories : ℕ → List ℕ) (k : ℕ → ℕ) (powers : Powers) (last : ℕ)
    (outside : ℕ → Surroundings)
    → (i : ℕ → Inputs)
    × (AreBoardClocks u cores feeds memories k powers i last × ((t : ℕ) → ComesFrom u cores feeds (outside t) (i t)))

-- ---- programs

-- Beside the programs that cores agree with, what a core has put out and what its program puts out in any order of steps begin one
-- another: the one the other, or the other way round; and where the programs are at rest, all that was put out is theirs.
pub record AgreesSo (put : List ℕ) (output : (others : List ℕ) → List ℕ) (IsRest : (others : List ℕ) → Type 0) : Type 0 where
  pub comparable : (others : List ℕ) → AreComparable put (output others)
  pub within : (others : List ℕ) → IsRest others → IsPrefixOf put (output others)

-- So it is at every clock with the words that each core puts out, which are those that pass through each queue that it feeds: of circuits
-- with code that agrees with programs, joined by queues of any sizes, where the programs are given words from outside that begin with those
-- that have come. That no core meets a fault is not asked: no core of such code ever does (PairsNeverFault of tta_kahn).
abbrev pub BoardAgrees : Type 0
BoardAgrees =
    (u : Units) (pairs : List Pair) (feeds : List (Option ℕ)) (given : ℕ → List ℕ) (memories : ℕ → List ℕ) (k : ℕ → ℕ) (powers : Powers)
    (i : ℕ → Inputs) (last : ℕ) → AllByRecursion (IsPair u) pairs → ((core : ℕ) → AreWords (given core))
    → ((core : ℕ) (p : Pair) → slice_get pairs core ≡ Some p → memories core ≡ core_memory p)
    → AreBoardClocks u (map core_in pairs) feeds memories k powers i last → (t : ℕ) → last < t
    → HasComeBy u (map core_in pairs) feeds given memories k powers i t → (core : ℕ) (p : Pair) → slice_get pairs core ≡ Some p
    → let programs = map (λ q. q.program) pairs in
    let begin = map program_memory pairs in
    AgreesSo (put_by u (map core_in pairs) feeds memories k powers i core (core_in p) t)
    (λ others. group_output u programs feeds given begin others core)
    (IsGroupRest u programs feeds given begin)
