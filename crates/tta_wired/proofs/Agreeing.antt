-- What the module shows the outside beside the programs that its cores agree with.
use Rattle.std.proofs.Common.{◌≡◌, ℕ, List, map, sym, subst}
use Rattle.tta_list.specs.Prefix.{IsPrefixOf}
use Rattle.tta_kahn.specs.Network.{AreComparable}
use Rattle.tta_kahn.specs.Cluster.{output_given}
use Rattle.tta_kahn.specs.Programs.{group_output}
use Rattle.tta_kahn.specs.Laws.{Pair, core_in, core_memory, program_memory}
use Rattle.tta_kahn.proofs.Pairs.{made_at, cores_agree}
use Rattle.tta_board.proofs.Agreeing.{are_cores, are_spaces, never_fault}
use Rattle.tta_wired.specs.Joining.{passed_by}
use Rattle.tta_wired.specs.Laws.{NetAgrees, NetPutsAll}
use Rattle.tta_wired.proofs.Running.{net_runs}
use Rattle.tta_wired.proofs.Finishing.{made, rest}

pub net_agrees : NetAgrees
net_agrees u pairs feeds takes given memories k powers i signals last all linked words same clocks t less have core p there =
    let run = net_runs u (map core_in pairs) feeds takes given memories (map core_memory pairs) k powers i signals last
    (are_cores u pairs all) linked (are_spaces u pairs feeds memories all same)
    (never_fault u pairs feeds given all words) clocks t less have in
    let passed : passed_by u (map core_in pairs) feeds takes memories k powers i signals core t
    ≡ output_given u (map core_in pairs) feeds given (map core_memory pairs) run.0 core =
    run.1.passed core (core_in p) (made_at core_in pairs core p there) in
    let agree = cores_agree u pairs feeds given all words in
    let programs = map (λ (q : Pair). q.program) pairs in
    let begin = map program_memory pairs in
    record {
      comparable = λ others.
          subst (λ (l : List ℕ). AreComparable l (group_output u programs feeds given begin others core)) (sym passed)
          (agree.comparable run.0 others core);
      within = λ others rest.
          subst (λ (l : List ℕ). IsPrefixOf l (group_output u programs feeds given begin others core)) (sym passed)
          (agree.within run.0 others core rest);
    }

-- the network is at rest then, and so it has put out all that its programs put out
pub net_puts_all : NetPutsAll
net_puts_all u pairs feeds takes given memories k powers i signals last all linked words same clocks up t less have stopped whole core p
    there others =
    let cores = map core_in pairs in
    let spaces = map core_memory pairs in
    let never = never_fault u pairs feeds given all words in
    let sized = are_spaces u pairs feeds memories all same in
    let is = are_cores u pairs all in
    let run = made u cores feeds takes given memories spaces k powers i signals last is linked sized never clocks up t less have stopped whole in
    subst (IsPrefixOf (group_output u (map (λ (q : Pair). q.program) pairs) feeds given (map program_memory pairs) others core))
    (sym (run.1.passed core (core_in p) (made_at core_in pairs core p there)))
    ((cores_agree u pairs feeds given all words).beyond run.0 others core
    (rest u cores feeds takes given memories spaces k powers i signals last is linked sized never clocks up t less have stopped whole))
