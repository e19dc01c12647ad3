-- No clock of joined circuits is lost, and a standstill is final.
use Rattle.std.specs.Prelude.{◌≡◌, ℕ, ◌<◌, ◌≤◌, Bool, true, false, List, length, Option, Some, None, slice_get}
use Rattle.std.specs.List.{AllByRecursion}
use Rattle.tta_ops.specs.Units.{Units}
use Rattle.tta_code.specs.Cycle.{State}
use Rattle.tta_circuit.specs.Meaning.{is_set}
use Rattle.tta_hardware.specs.Signals.{Goes}
use Rattle.tta_hardware.specs.Stands.{is_halted}
use Rattle.tta_kahn.specs.declared.cores.Core.{Core}
use Rattle.tta_kahn.specs.Network.{NetworkCore, feeder_of, after_step}
use Rattle.tta_kahn.specs.Cluster.{cycles_given, cluster_given, IsRestGiven}
use Rattle.tta_kahn.specs.Laws.{IsCore}
use Rattle.tta_joint.specs.Joint.{waiting_for}
use Rattle.tta_board.specs.Board.{Board, Inputs, Powers, lines, AreWired, board_at, came_by, AreBoardClocks}
use Rattle.tta_board.specs.Laws.{StandForCores, AreFine, AreSpaces, NeverFault, HasComeBy, HasRun}
use Rattle.tta_progress.specs.Moves.{has_room, can_go, has_word_to_put}

-- At a clock of wired circuits that stand for cores of a network, and that do not begin anew, exactly those cores make a cycle that can.
-- Each core has a queue before it, and no other core has.
abbrev pub BoardMoves : Type 0
BoardMoves =
    (u : Units) (cores : List Core) (feeds : List (Option ℕ)) (memories : ℕ → List ℕ) (k : ℕ → ℕ) (came : ℕ → List ℕ) (b : Board)
    (i : Inputs) (joined : List (NetworkCore State)) → AllByRecursion IsCore cores → length feeds ≡ length cores
    → AreWired u cores feeds memories k b i → i.reset ≡ false → StandForCores u cores feeds memories k came b joined
    → AreFine u cores feeds memories k came joined → (core : ℕ) (c : Core) (j : NetworkCore State) → slice_get cores core ≡ Some c
    → slice_get joined core ≡ Some j
    → is_set (lines u cores feeds memories k b i core c Goes) ≡ can_go u cores feeds came k i.outside joined core j

-- no core makes a cycle at a clock
abbrev pub AreStill : Units → List Core → (feeds : List (Option ℕ)) → (memories : ℕ → List ℕ) → (k : ℕ → ℕ) → Board → Inputs → Type 0
AreStill u cores feeds memories k b i =
    (core : ℕ) (c : Core) → slice_get cores core ≡ Some c → is_set (lines u cores feeds memories k b i core c Goes) ≡ false

-- From a clock on no word comes from outside to a core that waits for one.
abbrev pub NoneComes : Units → List Core → (feeds : List (Option ℕ)) → (came : ℕ → ℕ → List ℕ) → (t : ℕ) → List (NetworkCore State) → Type 0
NoneComes u cores feeds came t joined =
    let net = cycles_given u cores feeds (came t) in
    (later core : ℕ) (j : NetworkCore State) → t ≤ later → feeder_of net core ≡ None → slice_get joined core ≡ Some j
    → net.waits (after_step net core (waiting_for net joined core j) j) ≡ true → came later core ≡ came t core

-- Where no core makes a cycle at a clock, the outside takes no word at a later one that it would not take at this, and none comes from it
-- to a core that waits, none ever does: after every number of further clocks the circuits stand for the network after the same cycles, and
-- have put out the same words.
abbrev pub BoardRests : Type 0
BoardRests =
    (u : Units) (cores : List Core) (feeds : List (Option ℕ)) (given : ℕ → List ℕ) (memories : ℕ → List ℕ) (spaces : List (List ℕ))
    (k : ℕ → ℕ) (powers : Powers) (i : ℕ → Inputs) (last : ℕ) → AllByRecursion IsCore cores → length feeds ≡ length cores
    → AreSpaces cores memories spaces → NeverFault u cores feeds given spaces → AreBoardClocks u cores feeds memories k powers i last
    → (t : ℕ) (steps : List ℕ) → last < t → HasRun u cores feeds given memories spaces k powers i t steps
    → AreStill u cores feeds memories k (board_at u cores feeds memories k powers i t) (i t)
    → ((later core : ℕ) → t ≤ later → (i later).outside core ≡ true → (i t).outside core ≡ true)
    → NoneComes u cores feeds (came_by u cores feeds memories k powers i) t (cluster_given u cores feeds given spaces steps)
    → (later : ℕ) → t ≤ later → HasComeBy u cores feeds given memories k powers i later
    → HasRun u cores feeds given memories spaces k powers i later steps
    × AreStill u cores feeds memories k (board_at u cores feeds memories k powers i later) (i later)

-- ---- links in a row, or in a tree

-- Links lead upwards alone: each core has a height, which is more than that of the core that feeds it.
pub record AreUpwards (feeds : List (Option ℕ)) : Type 0 where
  pub height : ℕ → ℕ
  pub most : ℕ
  pub rises : (core feeder : ℕ) → slice_get feeds core ≡ Some (Some feeder)
      → (height feeder < height core) × (height core ≤ most)

-- where a core has halted, the queue before it has room
abbrev pub HaltedHaveRoom : Units → List Core → (feeds : List (Option ℕ)) → (came : ℕ → List ℕ) → (k : ℕ → ℕ) → List (NetworkCore State) → Type 0
HaltedHaveRoom u cores feeds came k joined =
    (core : ℕ) (j : NetworkCore State) → slice_get joined core ≡ Some j → is_halted j.state.outcome ≡ true
    → has_room u cores feeds came k joined core ≡ true

-- the outside takes the words of each core that has one to put out
abbrev pub OutsideTakes : Units → List Core → (feeds : List (Option ℕ)) → (came : ℕ → List ℕ) → (k : ℕ → ℕ) → (outside : ℕ → Bool)
    → List (NetworkCore State) → Type 0
OutsideTakes u cores feeds came k outside joined =
    (core : ℕ) (j : NetworkCore State) → slice_get joined core ≡ Some j → has_word_to_put u cores feeds came k joined core j ≡ true
    → outside core ≡ true

-- all that a core is given from outside has come, where the core has not halted
abbrev pub AllHasCome : Units → List Core → (feeds : List (Option ℕ)) → (given came : ℕ → List ℕ) → List (NetworkCore State) → Type 0
AllHasCome u cores feeds given came joined =
    (core : ℕ) (j : NetworkCore State) → feeder_of (cycles_given u cores feeds given) core ≡ None → slice_get joined core ≡ Some j
    → is_halted j.state.outcome ≡ false → came core ≡ given core

-- Where links lead upwards, the outside takes all words, and all that cores are given from outside has come, joined circuits come to a
-- stand only where the network is at rest, or where a core has halted before a full queue. So with queues of any sizes they put out all
-- that the network puts out in any order of cycles (`beyond` of `cores_compare`).
abbrev pub BoardFinishes : Type 0
BoardFinishes =
    (u : Units) (cores : List Core) (feeds : List (Option ℕ)) (given : ℕ → List ℕ) (memories : ℕ → List ℕ) (spaces : List (List ℕ))
    (k : ℕ → ℕ) (powers : Powers) (i : ℕ → Inputs) (last : ℕ) → AllByRecursion IsCore cores → length feeds ≡ length cores
    → AreSpaces cores memories spaces → NeverFault u cores feeds given spaces → AreBoardClocks u cores feeds memories k powers i last
    → (t : ℕ) (steps : List ℕ) → last < t → HasRun u cores feeds given memories spaces k powers i t steps
    → AreStill u cores feeds memories k (board_at u cores feeds memories k powers i t) (i t)
    → let came = came_by u cores feeds memories k powers i t in
    let joined = cluster_given u cores feeds given spaces steps in
    OutsideTakes u cores feeds came k (i t).outside joined → AreUpwards feeds → HaltedHaveRoom u cores feeds came k joined
    → AllHasCome u cores feeds given came joined → IsRestGiven u cores feeds given spaces steps
