-- Cores that have made rounds and were reported, and what became of that, is how the command ends.
use Rattle.std.proofs.Common.{◌≡◌, ℕ, inl, inr, Bool, true, false, List, length, Option, None, Some, refl, sym, ap, subst, ◌∙◌, arith}
use Rattle.std.specs.Option.{option_map_or}
use Rattle.std.proofs.lemmas.Bool.{cases_lt}
use Rattle.std.proofs.lemmas.Option.{slice_get_past}
use Rattle.tta_net_command.specs.Cited.{World, Output, IsPut, IsCut, lines_text, Units, State, Core, Network, NetworkCore, joined, AreAtRest, cycles, first_states, StepResult, HeldCluster, IsClusterOf, StandsFor, words_of, fault_by, fault_told, output_at, fault_at, after_rounds, HasEnded, Status, IsTaken}
use Rattle.tta_ports.proofs.Worlds.{same_world}
use Rattle.tta_net.proofs.Together.{output_same, fault_same}
use Rattle.tta_net.proofs.Rest.{rounds_rest}
use Rattle.tta_load.specs.declared.status.Status.TheVariants as status
use Rattle.tta_net_command.specs.CoreFiles.{AreLinks, cores_in, TakesCores}
use Rattle.tta_net_command.specs.Net.{net_lines, net_text, first_fault, rounds_status, NetPuts, HasMadeRounds, NetReports, CoresReport, Nets}
use Rattle.tta_net_command.proofs.NetLines.{net_same, first_same, none_first}

-- what rounds came to, with something else that is true of the cores then
pub ended_with : {net : Network State} {count : ℕ} {cs : List (NetworkCore State)} {most : ℕ} {is_running : Bool} {last : List StepResult} {P Q : List (NetworkCore State) → Type 0}
    → (ended : HasEnded net count cs most is_running last P) → Q (after_rounds net count cs ended.made) → HasEnded net count cs most is_running last Q
ended_with ended is = record {
  made = ended.made;
  stops = ended.stops;
  running = ended.running;
  resting = ended.resting;
  answers = ended.answers;
  stands = is;
}

-- a text that was put, and the status that goes with it
put_well : (is_running : Bool) (last : List StepResult) (cs : List (NetworkCore State)) (old new : Output) (fault : Option (ℕ × ℕ))
    → fault ≡ first_fault (fault_at cs) (length last) → IsPut (net_text cs last) old new → NetPuts is_running last cs old new (rounds_status is_running fault)
put_well true last cs old new fault is put = (refl, put)
put_well false last cs old new (Some f) is put = (ap (rounds_status false) is, put)
put_well false last cs old new None is put = (ap (rounds_status false) is, put)

module _ (u : Units) (feeds : List (Option ℕ)) (cores : List Core) (memories : List (List ℕ)) (rounds : ℕ) (h : HeldCluster) (last : List StepResult) (old new : Output)
    (loaded : IsClusterOf cores h) (turns : length last ≡ length cores) where
  abbrev net : Network State
  net = cycles u cores feeds

  abbrev begin : List (NetworkCore State)
  begin = joined (first_states cores memories)

  abbrev Ended : Bool → Type 0
  Ended is_running = HasEnded net (length cores) begin rounds is_running last (StandsFor cores h)

  module _ (cs : List (NetworkCore State)) (stands : StandsFor cores h cs) where
    text_same : lines_text (net_lines (words_of h) (fault_by h) 0 last) ≡ net_text cs last
    text_same =
        ap lines_text (net_same (words_of h) (fault_by h) (output_at cs) (fault_at cs) (output_same cores h loaded cs stands) (fault_same cores h loaded cs stands) 0 last)

    fault_is : first_fault (fault_by h) (length last) ≡ first_fault (fault_at cs) (length last)
    fault_is = first_same (fault_by h) (fault_at cs) (fault_same cores h loaded cs stands) (length last)

    -- where no core that has had a turn is at a fault, none is
    none_at : first_fault (fault_by h) (length last) ≡ None → (k : ℕ) → fault_at cs k ≡ None
    none_at none k = elim (cases_lt k (length last)) as (λ e. fault_at cs k ≡ None) [
      | inl less ↦ none_first (fault_at cs) (length last) k (sym fault_is ∙ none) less
      | inr past ↦
          ap (λ o. option_map_or (λ c. fault_told c.state.outcome) o None)
          (slice_get_past cs k (omega (arith, past, turns, loaded.count, stands.count)))
    ]

  -- where the command ends well, the cores are at rest
  rests : (is_running : Bool) (ended : Ended is_running) (fault : Option (ℕ × ℕ)) → fault ≡ first_fault (fault_by h) (length last)
      → rounds_status is_running fault ≡ status.Ok → AreAtRest net (after_rounds net (length cores) begin ended.made)
  rests true ended fault is ok = absurd cc
  rests false ended (Some f) is ok = absurd cc
  rests false ended None is ok =
      rounds_rest u cores feeds memories rounds last h ended (none_at (after_rounds net (length cores) begin ended.made) ended.stands (sym is))

  -- the rounds were made, and the text was put
  pub made_rounds : (is_running : Bool) → Ended is_running → (fault : Option (ℕ × ℕ)) → fault ≡ first_fault (fault_by h) (length last)
      → IsPut (lines_text (net_lines (words_of h) (fault_by h) 0 last)) old new
      → HasMadeRounds u feeds cores memories rounds old new (rounds_status is_running fault)
  made_rounds is_running ended fault is put =
      let cs = after_rounds net (length cores) begin ended.made in
      record {
        is_running = is_running;
        last = last;
        ended = ended_with ended (
          put_well is_running last cs old new fault (is ∙ fault_is cs ended.stands) (subst (λ t. IsPut t old new) (text_same cs ended.stands) put),
          rests is_running ended fault is,
        );
      }

  -- the rounds were made, and a prefix of the text was put
  pub cut_rounds : (is_running : Bool) → Ended is_running → IsCut (lines_text (net_lines (words_of h) (fault_by h) 0 last)) old new
      → HasMadeRounds u feeds cores memories rounds old new status.WriteFault
  cut_rounds is_running ended cut =
      let cs = after_rounds net (length cores) begin ended.made in
      record {
        is_running = is_running;
        last = last;
        ended = ended_with ended (subst (λ t. IsCut t old new) (text_same cs ended.stands) cut, λ odd. absurd cc);
      }

-- what was made is what is reported
pub reports : (u : Units) (feeds : List (Option ℕ)) (cores : List Core) (memories : List (List ℕ)) (rounds : ℕ) (old new : Output) (s : Status)
    → HasMadeRounds u feeds cores memories rounds old new s → NetReports u feeds cores memories rounds old new s
reports u feeds cores memories rounds old new status.NoMemory made = absurd (lacks made.last made.is_running made.ended) where
  lacks : (last : List StepResult) (is_running : Bool) → HasEnded (cycles u cores feeds) (length cores) (joined (first_states cores memories)) rounds is_running last
      (λ cs. NetPuts is_running last cs old new status.NoMemory × (status.NoMemory ≡ status.Ok → AreAtRest (cycles u cores feeds) cs)) → ⊥
  lacks last true ended = let odd = ended.stands.0.0 in cc
  lacks last false ended = other (first_fault (fault_at (after_rounds (cycles u cores feeds) (length cores) (joined (first_states cores memories)) ended.made)) (length last)) ended.stands.0.0 where
    other : (o : Option (ℕ × ℕ)) → status.NoMemory ≡ rounds_status false o → ⊥
    other (Some f) odd = cc
    other None odd = cc
reports u feeds cores memories rounds old new s made = made

-- ---- the files

-- cores that were taken, and how they are reported
pub cores_report : (u : Units) (feeds : List (Option ℕ)) (rounds : ℕ) (names : List (List ℕ)) (cores : List Core) (memories : List (List ℕ)) (before after : World)
    (old new : Output) (s : Status) → TakesCores u names (cores_in (length names)) cores memories before after
    → NetReports u feeds cores memories rounds old new s → CoresReport u feeds rounds names before after old new s
cores_report u feeds rounds names cores memories before after old new s takes reports =
    inr (record { cores = cores; memories = memories; many = takes.many; are = takes.are }, takes.untouched, reports)

-- links that were taken, and what became of all that follows
pub links_then : (u : Units) (rounds : ℕ) (LINKS : List ℕ) (names : List (List ℕ)) (feeds : List (Option ℕ)) (before between after : World) (old new : Output) (s : Status)
    → IsTaken (AreLinks (cores_in (length names))) LINKS feeds before between → CoresReport u feeds rounds names between after old new s
    → Nets u rounds LINKS names before after old new s
links_then u rounds LINKS names feeds before between after old new s taken ends =
    inr (
      record { value = feeds; held = taken.held },
      subst (λ w. CoresReport u feeds rounds names w after old new s) (same_world before between taken.untouched) ends,
    )
