-- The module that `rtl net` prints does what the network of its machines does in some order of their cycles.
use Rattle.std.specs.Prelude.{◌≡◌, ℕ, ◌<◌, Bool, true, false, List, length, map, drop, Option, Some, None, slice_get}
use Rattle.std.specs.List.{AllByRecursion}
use Rattle.tta_list.specs.Prefix.{IsPrefixOf}
use Rattle.tta_ops.specs.Units.{Units}
use Rattle.tta_code.specs.Cycle.{State}
use Rattle.tta_circuit.specs.Meaning.{is_set}
use Rattle.tta_hardware.specs.Stands.{is_halted}
use Rattle.tta_kahn.specs.declared.cores.Core.{Core}
use Rattle.tta_kahn.specs.Network.{NetworkCore}
use Rattle.tta_kahn.specs.Cited.{AreWords}
use Rattle.tta_kahn.specs.Cluster.{cluster_given, output_given}
use Rattle.tta_kahn.specs.Programs.{IsGroupRest, group_output}
use Rattle.tta_kahn.specs.Laws.{IsCore, IsPair, Pair, core_in, core_memory, program_memory}
use Rattle.tta_board.specs.Board.{Board, Inputs, Powers, AreWired}
use Rattle.tta_board.specs.Laws.{AreSpaces, NeverFault, HasRun, Surroundings, AgreesSo}
use Rattle.tta_progress.specs.Laws.{AreUpwards}
use Rattle.tta_wiring.specs.Signals.{Joint, Outside, Offers, Offer, Halted, Cycle, Valid, Room, feeder_at}
use Rattle.tta_wired.specs.Joining.{AreLinked, AreNet, AreNetClocks, is_open, passed_by, entered_by, HaveEntered}

-- Circuits that are joined as the module says are wired as the theorem of such circuits asks for, at every clock and whatever they hold.
abbrev pub NetIsWired : Type 0
NetIsWired =
    (u : Units) (cores : List Core) (feeds : List (Option ℕ)) (takes : ℕ → Bool) (memories : ℕ → List ℕ) (k : ℕ → ℕ) (b : Board)
    (i : Inputs) (signals : Joint → ℕ) → AreLinked cores feeds → AreNet u cores feeds takes memories k b i signals
    → AreWired u cores feeds memories k b i

-- After so many clocks the circuits of the module stand for the network after these cycles. The words that have gone to the outside at a
-- core's ports are exactly those that the core has output there, and `halted` says whether the core has halted.
pub record HasRunAsNet (u : Units) (cores : List Core) (feeds : List (Option ℕ)) (takes : ℕ → Bool) (given : ℕ → List ℕ)
    (memories : ℕ → List ℕ) (spaces : List (List ℕ)) (k : ℕ → ℕ) (powers : Powers) (i : ℕ → Inputs) (signals : ℕ → Joint → ℕ) (t : ℕ)
    (steps : List ℕ) : Type 0 where
  pub run : HasRun u cores feeds given memories spaces k powers i t steps
  pub passed : (core : ℕ) (c : Core) → slice_get cores core ≡ Some c
      → passed_by u cores feeds takes memories k powers i signals core t ≡ output_given u cores feeds given spaces steps core
  pub halted : (core : ℕ) (c : Core) (now : NetworkCore State) → slice_get cores core ≡ Some c
      → slice_get (cluster_given u cores feeds given spaces steps) core ≡ Some now
      → is_set (signals t (Halted core)) ≡ is_halted now.state.outcome

-- After some clocks of the module that begin anew, at least one, and every number of further clocks, there is an order of cycles of the
-- network that the module has made: of linked cores with queues of any sizes, whatever words registers have when the power comes,
-- whenever the outside takes words, and whatever it offers at whatever clocks, as long as no core meets a fault in any order. The cores of
-- the network are given any words from outside that begin with those that have come in.
abbrev pub NetRuns : Type 0
NetRuns =
    (u : Units) (cores : List Core) (feeds : List (Option ℕ)) (takes : ℕ → Bool) (given : ℕ → List ℕ) (memories : ℕ → List ℕ)
    (spaces : List (List ℕ)) (k : ℕ → ℕ) (powers : Powers) (i : ℕ → Inputs) (signals : ℕ → Joint → ℕ) (last : ℕ)
    → AllByRecursion IsCore cores → AreLinked cores feeds → AreSpaces cores memories spaces → NeverFault u cores feeds given spaces
    → AreNetClocks u cores feeds takes memories k powers i signals last → (t : ℕ) → last < t
    → HaveEntered u cores feeds takes memories k powers i signals given t
    → (steps : List ℕ) × HasRunAsNet u cores feeds takes given memories spaces k powers i signals t steps

-- The outside offers the words of an input in order, at whatever clocks: what it offers to a core is the next word that has not come in.
abbrev pub AreOffered : (cores : List Core) (feeds : List (Option ℕ)) (takes : ℕ → Bool) (given : ℕ → List ℕ) (signals : ℕ → Joint → ℕ)
    (entered : (core t : ℕ) → List ℕ) → Type 0
AreOffered cores feeds takes given signals entered =
    (core t : ℕ) → core < length cores → is_open feeds takes core ≡ true → is_set (signals t (Offers core)) ≡ true
    → slice_get (drop (length (entered core t)) (given core)) 0 ≡ Some (signals t (Offer core))

-- So what has come in by any clock begins the input, as NetRuns asks for: of all inputs, however fast or slowly they are offered.
abbrev pub InputsComeIn : Type 0
InputsComeIn =
    (u : Units) (cores : List Core) (feeds : List (Option ℕ)) (takes : ℕ → Bool) (given : ℕ → List ℕ) (memories : ℕ → List ℕ)
    (k : ℕ → ℕ) (powers : Powers) (i : ℕ → Inputs) (signals : ℕ → Joint → ℕ)
    → AreOffered cores feeds takes given signals (λ core t. entered_by u cores feeds takes memories k powers i signals core t)
    → (t : ℕ) → HaveEntered u cores feeds takes memories k powers i signals given t

-- At a clock of the module no core carries an instruction out; the outside takes each word that the module shows; and where a core has halted,
-- the queue before it has room.
pub record HasStopped (cores : List Core) (signals : Joint → ℕ) : Type 0 where
  pub still : (core : ℕ) → core < length cores → is_set (signals (Cycle core)) ≡ false
  pub taken : (core : ℕ) → core < length cores → is_set (signals (Valid core)) ≡ true → is_set (signals (Outside core)) ≡ true
  pub room : (core : ℕ) → core < length cores → is_set (signals (Halted core)) ≡ true → is_set (signals (Room core)) ≡ true

-- All that a core is given from outside has come in, where the core has not halted.
abbrev pub AllHasEntered : List Core → (feeds : List (Option ℕ)) → (given : ℕ → List ℕ) → (signals : Joint → ℕ) → (entered : ℕ → List ℕ)
    → Type 0
AllHasEntered cores feeds given signals entered =
    (core : ℕ) → core < length cores → feeder_at feeds core ≡ None → is_set (signals (Halted core)) ≡ false → entered core ≡ given core

-- Where links lead upwards, the module has stopped so, and all that cores are given has come in, the words that have gone to the outside at
-- a core's ports are all that the core outputs in any order of cycles of the network.
abbrev pub NetFinishes : Type 0
NetFinishes =
    (u : Units) (cores : List Core) (feeds : List (Option ℕ)) (takes : ℕ → Bool) (given : ℕ → List ℕ) (memories : ℕ → List ℕ)
    (spaces : List (List ℕ)) (k : ℕ → ℕ) (powers : Powers) (i : ℕ → Inputs) (signals : ℕ → Joint → ℕ) (last : ℕ)
    → AllByRecursion IsCore cores → AreLinked cores feeds → AreSpaces cores memories spaces → NeverFault u cores feeds given spaces
    → AreNetClocks u cores feeds takes memories k powers i signals last → AreUpwards feeds → (t : ℕ) → last < t
    → HaveEntered u cores feeds takes memories k powers i signals given t → HasStopped cores (signals t)
    → AllHasEntered cores feeds given (signals t) (λ core. entered_by u cores feeds takes memories k powers i signals core t)
    → (core : ℕ) (c : Core) → slice_get cores core ≡ Some c → (others : List ℕ)
    → IsPrefixOf (output_given u cores feeds given spaces others core) (passed_by u cores feeds takes memories k powers i signals core t)

-- What the outside does at a clock comes in at the ports.
pub record ComesIn (o : Surroundings) (i : Inputs) (signals : Joint → ℕ) : Type 0 where
  pub takes : (core : ℕ) → i.outside core ≡ o.takes core
  pub offers : (core : ℕ) → is_set (signals (Offers core)) ≡ o.offers core
  pub word : (core : ℕ) → signals (Offer core) ≡ o.word core

-- The module can be joined at every clock, for all that the outside does at all times: each of its signals has a word. So there are
-- clocks of it of every kind.
abbrev pub NetSettles : Type 0
NetSettles =
    (u : Units) (cores : List Core) (feeds : List (Option ℕ)) (takes : ℕ → Bool) (memories : ℕ → List ℕ) (k : ℕ → ℕ) (powers : Powers)
    (last : ℕ) (outside : ℕ → Surroundings)
    → (i : ℕ → Inputs) × (signals : ℕ → Joint → ℕ)
    × (AreNetClocks u cores feeds takes memories k powers i signals last × ((t : ℕ) → ComesIn (outside t) (i t) (signals t)))

-- Beside the programs that cores agree with, the words that have gone to the outside at a core's ports begin what its program puts out in
-- any order of steps, or the other way round; and where the programs are at rest, all of them are theirs. The programs are given words from
-- outside that begin with those that have come in. That no core meets a fault is not asked, as in BoardAgrees.
abbrev pub NetAgrees : Type 0
NetAgrees =
    (u : Units) (pairs : List Pair) (feeds : List (Option ℕ)) (takes : ℕ → Bool) (given : ℕ → List ℕ) (memories : ℕ → List ℕ)
    (k : ℕ → ℕ) (powers : Powers) (i : ℕ → Inputs) (signals : ℕ → Joint → ℕ) (last : ℕ) → AllByRecursion (IsPair u) pairs
    → AreLinked (map core_in pairs) feeds → ((core : ℕ) → AreWords (given core))
    → ((core : ℕ) (p : Pair) → slice_get pairs core ≡ Some p → memories core ≡ core_memory p)
    → AreNetClocks u (map core_in pairs) feeds takes memories k powers i signals last → (t : ℕ) → last < t
    → HaveEntered u (map core_in pairs) feeds takes memories k powers i signals given t
    → (core : ℕ) (p : Pair) → slice_get pairs core ≡ Some p
    → let programs = map (λ q. q.program) pairs in
    let begin = map program_memory pairs in
    AgreesSo (passed_by u (map core_in pairs) feeds takes memories k powers i signals core t)
    (λ others. group_output u programs feeds given begin others core)
    (IsGroupRest u programs feeds given begin)

-- Where links lead upwards, the module has stopped so, and all that cores are given has come in, the words that have gone to the outside at
-- a core's ports are all that the program which the core agrees with puts out in any order of steps. That no core meets a fault is not
-- asked.
abbrev pub NetPutsAll : Type 0
NetPutsAll =
    (u : Units) (pairs : List Pair) (feeds : List (Option ℕ)) (takes : ℕ → Bool) (given : ℕ → List ℕ) (memories : ℕ → List ℕ)
    (k : ℕ → ℕ) (powers : Powers) (i : ℕ → Inputs) (signals : ℕ → Joint → ℕ) (last : ℕ) → AllByRecursion (IsPair u) pairs
    → AreLinked (map core_in pairs) feeds → ((core : ℕ) → AreWords (given core))
    → ((core : ℕ) (p : Pair) → slice_get pairs core ≡ Some p → memories core ≡ core_memory p)
    → AreNetClocks u (map core_in pairs) feeds takes memories k powers i signals last → AreUpwards feeds → (t : ℕ) → last < t
    → HaveEntered u (map core_in pairs) feeds takes memories k powers i signals given t → HasStopped (map core_in pairs) (signals t)
    → AllHasEntered (map core_in pairs) feeds given (signals t)
    (λ core. entered_by u (map core_in pairs) feeds takes memories k powers i signals core t)
    → (core : ℕ) (p : Pair) → slice_get pairs core ≡ Some p → (others : List ℕ)
    → let programs = map (λ q. q.program) pairs in
    let begin = map program_memory pairs in
    IsPrefixOf (group_output u programs feeds given begin others core)
    (passed_by u (map core_in pairs) feeds takes memories k powers i signals core t)
