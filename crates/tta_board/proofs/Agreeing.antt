-- What circuits put out beside the programs that their code agrees with.
use Rattle.std.proofs.Common.{◌≡◌, ◌≢◌, ℕ, false, List, [], ◌∷◌, length, map, Option, Some, refl, sym, ap, ◌∙◌, subst}
use Rattle.std.specs.Prelude.{slice_get}
use Rattle.std.specs.List.{AllByRecursion}
use Rattle.tta_board.specs.Cited.{IsPrefixOf, Units, data_in, Outcome, Running, Halted, Waiting, Fault, is_fault, Core, AreComparable, output_given, group_output, AreWords, IsCore, Pair, IsPair, core_in, core_memory, program_memory}
use Rattle.tta_list.proofs.Lists.{all_one}
use Rattle.tta_list.proofs.Sets.{over-length}
use Rattle.tta_kahn.proofs.Pairs.{made_at, made_from, pairs_never_fault, cores_agree}
use Rattle.tta_board.specs.Board.{put_by}
use Rattle.tta_board.specs.Laws.{AreSpaces, NeverFault, BoardAgrees}
use Rattle.tta_board.proofs.Running.{board_runs}

-- the cores of pairs are cores
pub are_cores : (u : Units) (pairs : List Pair) → AllByRecursion (IsPair u) pairs → AllByRecursion IsCore (map core_in pairs)
are_cores u [] all = tt
are_cores u (p ∷ pairs) all = (record { machine = all.0.machine; legal = all.0.legal }, are_cores u pairs all.1)

-- an outcome that is none of the faults
fine : (o : Outcome) → ((number at : ℕ) → o ≢ Fault number at) → is_fault o ≡ false
fine Running none = refl
fine Halted none = refl
fine Waiting none = refl
fine (Fault number at) none = absurd (none number at refl)

-- none of them meets a fault
pub never_fault : (u : Units) (pairs : List Pair) (feeds : List (Option ℕ)) (given : ℕ → List ℕ) → AllByRecursion (IsPair u) pairs
    → ((core : ℕ) → AreWords (given core)) → NeverFault u (map core_in pairs) feeds given (map core_memory pairs)
never_fault u pairs feeds given all words steps core j there =
    fine j.state.outcome (pairs_never_fault u pairs feeds given all words steps core j there)

module _ (u : Units) (pairs : List Pair) (feeds : List (Option ℕ)) (memories : ℕ → List ℕ) (all : AllByRecursion (IsPair u) pairs)
    (same : (core : ℕ) (p : Pair) → slice_get pairs core ≡ Some p → memories core ≡ core_memory p) where
  abbrev cores : List Core
  cores = map core_in pairs

  abbrev spaces : List (List ℕ)
  spaces = map core_memory pairs

  pub are_spaces : AreSpaces cores memories spaces
  are_spaces core c there =
      let of = made_from core_in pairs core c there in
      let is = all_one (IsPair u) pairs core of.0 all of.1 in
      let memory : memories core ≡ core_memory of.0 = same core of.0 of.1 in (
        made_at core_memory pairs core of.0 of.1 ∙ ap (λ (ws : List ℕ). Some ws) (sym memory),
        ap length memory ∙ over-length (data_in of.0.whole) of.0.memory ∙ is.size ∙ ap (λ (x : Core). x.machine.data_words) of.2,
      )

pub board_agrees : BoardAgrees
board_agrees u pairs feeds given memories k powers i last all words same clocks t less have core p there =
    let run = board_runs u (cores u pairs feeds memories all same) feeds given memories (spaces u pairs feeds memories all same) k powers i
    last (are_cores u pairs all) (are_spaces u pairs feeds memories all same) (never_fault u pairs feeds given all words)
    clocks t less have in
    let put : put_by u (map core_in pairs) feeds memories k powers i core (core_in p) t
    ≡ output_given u (map core_in pairs) feeds given (map core_memory pairs) run.0 core =
    run.1.put core (core_in p) (made_at core_in pairs core p there) in
    let agree = cores_agree u pairs feeds given all words in
    let programs = map (λ (q : Pair). q.program) pairs in
    let begin = map program_memory pairs in
    record {
      comparable = λ others.
          subst (λ (l : List ℕ). AreComparable l (group_output u programs feeds given begin others core)) (sym put)
          (agree.comparable run.0 others core);
      within = λ others rest.
          subst (λ (l : List ℕ). IsPrefixOf l (group_output u programs feeds given begin others core)) (sym put)
          (agree.within run.0 others core rest);
    }
