-- What cores can do where more words have come from outside.
use Rattle.std.proofs.Common.{◌≡◌, ℕ, suc, ◌+◌, ◌^◌, ◌≤◌, Bool, true, false, not, ◌&&◌, ◌||◌, nat_lt, List, [], ◌∷◌, ◌++◌, length, drop, Option, Some, None, refl, sym, ap, ◌∙◌, arith}
use Rattle.std.specs.Prelude.{slice_get}
use Rattle.std.specs.Option.{option_map_or}
use Rattle.std.specs.List.{AllByRecursion}
use Rattle.tta_ops.specs.Units.{Units}
use Rattle.tta_code.specs.Cycle.{State}
use Rattle.tta_kahn.specs.declared.cores.Core.{Core}
use Rattle.tta_kahn.specs.Network.{Network, NetworkCore, output_of, feeder_of, fed_to, after_step}
use Rattle.tta_kahn.specs.Cluster.{cycles_given}
use Rattle.tta_kahn.specs.Laws.{IsCore}
use Rattle.tta_kahn.proofs.CoreQueues.{cores_use}
use Rattle.tta_joint.specs.Joint.{HaveCome, waiting_for}
use Rattle.tta_joint.proofs.AtOnce.{step_more}
use Rattle.tta_joint.proofs.Joining.{left_begins}
use Rattle.tta_board.specs.Board.{is_feeder, have_room}
use Rattle.tta_progress.specs.Moves.{has_room, puts_between}

-- a core has the same room before it where all queues that it feeds have
rooms_alike : (ready other : ℕ → Bool) (feeder core : ℕ) (feeds : List (Option ℕ))
    → ((n f : ℕ) → slice_get feeds n ≡ Some (Some f) → ready (core + n) ≡ other (core + n))
    → have_room ready feeder core feeds ≡ have_room other feeder core feeds
rooms_alike ready other feeder core [] alike = refl
rooms_alike ready other feeder core (o ∷ feeds) alike =
    by o refl
    ∙ ap (λ r. (not (is_feeder feeder o) || other core) && r)
    (rooms_alike ready other feeder (suc core) feeds (λ n f at.
    let on : core + suc n ≡ suc core + n = omega arith in sym (ap ready on) ∙ alike (suc n) f at ∙ ap other on))
  where
    here : core + 0 ≡ core
    here = omega arith

    by : (p : Option ℕ) → o ≡ p
        → ((not (is_feeder feeder o) || ready core) && have_room ready feeder (suc core) feeds)
        ≡ ((not (is_feeder feeder o) || other core) && have_room ready feeder (suc core) feeds)
    by None is =
        ap (λ (x : Option ℕ). (not (is_feeder feeder x) || ready core) && have_room ready feeder (suc core) feeds) is
        ∙ sym (ap (λ (x : Option ℕ). (not (is_feeder feeder x) || other core) && have_room ready feeder (suc core) feeds) is)
    by (Some f) is =
        ap (λ r. (not (is_feeder feeder o) || r) && have_room ready feeder (suc core) feeds)
        (sym (ap ready here) ∙ alike 0 f (ap (λ (x : Option ℕ). Some x) is) ∙ ap other here)

module _ (u : Units) (cores : List Core) (feeds : List (Option ℕ)) (came more : ℕ → List ℕ) (k : ℕ → ℕ) (all : AllByRecursion IsCore cores)
    (begins : HaveCome (cycles_given u cores feeds more) came) (joined : List (NetworkCore State)) where
  abbrev so_far : Network State
  so_far = cycles_given u cores feeds came

  abbrev so_then : Network State
  so_then = cycles_given u cores feeds more

  -- a core that another feeds is fed the same
  fed_same : (core feeder : ℕ) → feeder_of so_far core ≡ Some feeder → fed_to so_far joined core ≡ fed_to so_then joined core
  fed_same core feeder is =
      ap (λ o. option_map_or (output_of so_far joined) o (came core)) is
      ∙ sym (ap (λ o. option_map_or (output_of so_far joined) o (more core)) is)

  -- and so is one to which nothing more has come
  pub fed_alike : (core : ℕ) → (feeder_of so_far core ≡ None → more core ≡ came core)
      → fed_to so_far joined core ≡ fed_to so_then joined core
  fed_alike core none = by (feeder_of so_far core) refl where
    by : (o : Option ℕ) → feeder_of so_far core ≡ o → fed_to so_far joined core ≡ fed_to so_then joined core
    by None is = ap (λ ws. option_map_or (output_of so_far joined) (feeder_of so_far core) ws) (sym (none is))
    by (Some feeder) is = fed_same core feeder is

  room_same : (core feeder : ℕ) → feeder_of so_far core ≡ Some feeder
      → has_room u cores feeds came k joined core ≡ has_room u cores feeds more k joined core
  room_same core feeder is =
      ap (λ (ws : List ℕ). nat_lt (length (option_map_or (λ j. drop j.taken ws) (slice_get joined core) [])) (2 ^ k core))
      (fed_same core feeder is)

  -- a core finds the same room
  pub rooms_same : (core : ℕ)
      → have_room (has_room u cores feeds more k joined) core 0 feeds ≡ have_room (has_room u cores feeds came k joined) core 0 feeds
  rooms_same core = rooms_alike (has_room u cores feeds more k joined) (has_room u cores feeds came k joined) core 0 feeds same where
    same : (n f : ℕ) → slice_get feeds n ≡ Some (Some f)
        → has_room u cores feeds more k joined (0 + n) ≡ has_room u cores feeds came k joined (0 + n)
    same n f at =
        let on : 0 + n ≡ n = omega arith in
        ap (has_room u cores feeds more k joined) on
        ∙ sym (room_same n f (ap (λ (o : Option (Option ℕ)). option_map_or (λ x. x) o None) at))
        ∙ sym (ap (has_room u cores feeds came k joined) on)

  -- A core does the same on what has come by now as on what has come by then.
  pub record DoesSo (core : ℕ) (j : NetworkCore State) : Type 0 where
    pub waits : so_then.waits (after_step so_then core (waiting_for so_then joined core j) j)
        ≡ so_far.waits (after_step so_far core (waiting_for so_far joined core j) j)
    pub puts : puts_between u cores feeds more k j.state (after_step so_then core (waiting_for so_then joined core j) j)
        ≡ puts_between u cores feeds came k j.state (after_step so_far core (waiting_for so_far joined core j) j)

  -- so it is where it does not wait, or is fed the same
  pub does_so : (core : ℕ) (j : NetworkCore State) → j.taken ≤ length (fed_to so_far joined core)
      → (so_far.waits (after_step so_far core (waiting_for so_far joined core j) j) ≡ true
      → fed_to so_far joined core ≡ fed_to so_then joined core) → DoesSo core j
  does_so core j within same = by (so_far.waits now) refl where
    now : State
    now = after_step so_far core (waiting_for so_far joined core j) j

    alike : (t : State) → after_step so_then core (waiting_for so_then joined core j) j ≡ t → t.outcome ≡ now.outcome
        → t.output ≡ now.output → DoesSo core j
    alike t is outcome output = record {
      waits = ap so_far.waits is ∙ ap (λ o. so_far.waits (record now { outcome = o })) outcome;
      puts = ap (λ (s : State). nat_lt (length j.state.output) (length s.output)) is
          ∙ ap (λ (ws : List ℕ). nat_lt (length j.state.output) (length ws)) output;
    }

    by : (w : Bool) → so_far.waits now ≡ w → DoesSo core j
    by true waits = alike now (ap (λ (ws : List ℕ). after_step so_far core (drop j.taken ws) j) (sym (same waits))) refl refl
    by false goes =
        let rest = left_begins so_then came begins joined core j within in
        alike (record now { rest = now.rest ++ rest.0 })
        (ap (λ (ws : List ℕ). after_step so_far core ws j) rest.1
        ∙ step_more so_far (cores_use u cores all feeds came) core j (waiting_for so_far joined core j) rest.0 goes) refl refl
