use Rattle.std.proofs.Common.{◌++◌, ◌∷◌, [], ◌+◌, ◌<◌, List, ℕ, map, sym, subst, arith}
use Rattle.std.proofs.lemmas.Result.{err_from_is_err_and}
use Rattle.std.specs.String.{string_bytes}
use Rattle.tta_net_command.specs.Cited.{stated, Core}
use Rattle.tta_net_command.proofs.CoresTaken.{AreTakenSoFar, one_more_taken, next_refused, next_lacks}
use Rattle.tta_net_command.proofs.cores.core_files.Goals as goal

pub returns-in_err-file-clause-ends : goal.returns-in_err-file-clause-ends
returns-in_err-file-clause-ends g c =
    let f = g.F.Files in
    let U = stated (λ v. (goal.OpUnit-dyn g v).unit_meaning v.1) c.args.units.now in
    let names = map (λ w. string_bytes w) c.args.names.now in
    let error = err_from_is_err_and c.from_residual.result c.from_residual.ensures.1 in
    rw (error.1, error.2) (next_refused U names c.args.count (f.world c.args.files.now) (f.world c.cores.files) (f.world c.core_file.new.files)
    c.cores.taken.cores.items (map (λ v. v.items) c.cores.taken.memories.items) c.cores.core c.in_err-file.field-0.0 c.cores.invariant.taken c.cores-test.true c.in_err-file.ensures.ends)

pub returns-in_default-clause-ends : goal.returns-in_default-clause-ends
returns-in_default-clause-ends g c =
    let f = g.F.Files in
    let U = stated (λ v. (goal.OpUnit-dyn g v).unit_meaning v.1) c.args.units.now in
    let names = map (λ w. string_bytes w) c.args.names.now in
    next_lacks U names c.args.count (f.world c.args.files.now) (f.world c.cores.files) (f.world c.core_file.new.files)
    c.cores.taken.cores.items (map (λ v. v.items) c.cores.taken.memories.items) c.cores.core c.in_ok-file.file.core c.in_ok-file.file.memory.items
    c.cores.invariant.taken c.cores-test.true c.in_ok-file.ensures.ends

pub cores-preserved : goal.cores-preserved
cores-preserved g c =
    let f = g.F.Files in
    let U = stated (λ v. (goal.OpUnit-dyn g v).unit_meaning v.1) c.args.units.now in
    let names = map (λ w. string_bytes w) c.args.names.now in
    let before = f.world c.args.files.now in
    let after = f.world c.core_file.new.files in
    let cores = c.cores.taken.cores.items in
    let memories = map (λ v. v.items) c.cores.taken.memories.items in
    let less : c.cores.core < 8 = omega (arith, c.cores-test.true, c.requires.few) in
    let taken = one_more_taken U names before (f.world c.cores.files) after cores memories c.cores.core c.in_ok-file.file.core c.in_ok-file.file.memory.items
    c.cores.invariant.taken less c.in_ok-file.ensures.ends c.in_ok-file.ensures.load in
    record {
      within = omega (arith, c.cores-test.true);
      taken =
          subst (λ (cs : List Core). AreTakenSoFar U names before after cs (map (λ v. v.items) c.add.new.self.memories.items) (c.cores.core + 1)) (sym c.in-Ok.ensures.cores)
          (subst (λ (ms : List (List ℕ)). AreTakenSoFar U names before after (cores ++ c.in_ok-file.file.core ∷ []) ms (c.cores.core + 1)) (sym c.in-Ok.ensures.memories) taken);
    }
