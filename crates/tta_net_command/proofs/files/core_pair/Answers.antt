use Rattle.std.proofs.Common.{ℕ, List, map, subst, inl}
use Rattle.std.proofs.lemmas.Result.{err_from_is_err_and}
use Rattle.std.specs.String.{string_bytes}
use Rattle.tta_net_command.specs.Cited.{stated, IsTaken, IsDescribed, RefusesMachine, RefusesImage}
use Rattle.tta_net_command.specs.CoreFiles.{name_of, CoreFileFails}
use Rattle.tta_net_command.proofs.CoresTaken.{image_refused}
use Rattle.tta_net_command.proofs.files.core_pair.Goals as goal

pub returns-in_err-whole-clause-ends : goal.returns-in_err-whole-clause-ends
returns-in_err-whole-clause-ends g c =
    let f = g.F.Files in
    let U = stated (λ v. (goal.OpUnit-dyn g v).unit_meaning v.1) c.args.units.now in
    let names = map (λ w. string_bytes w) c.args.names.now in
    let file = c.in_ok-file.file in
    let status = c.in_err-whole.field-0.0 in
    let before = f.world c.args.files.now in
    let between = f.world c.core_machine.new.files in
    let after = f.world c.core_code.new.files in
    let Taken : List ℕ → Type 0 = λ name. IsTaken (IsDescribed U) name file before between in
    let Fails : List ℕ → ℕ → Type 0 = λ name word. CoreFileFails (RefusesImage file) name word between after status in
    let error = err_from_is_err_and c.from_residual-in_err-whole.result c.from_residual-in_err-whole.ensures.1 in
    rw (error.1, error.2) (image_refused U names c.args.core file before between after status (subst Taken c.name_at-machine.ensures c.in_ok-file.ensures)
    (subst (Fails (name_of names c.args.core 1)) c.word_at-2.ensures
    (subst (λ name. Fails name c.word_at-2.result) c.name_at-image.ensures c.in_err-whole.ensures)))

pub returns-in_err-file-clause-ends : goal.returns-in_err-file-clause-ends
returns-in_err-file-clause-ends g c =
    let f = g.F.Files in
    let U = stated (λ v. (goal.OpUnit-dyn g v).unit_meaning v.1) c.args.units.now in
    let names = map (λ w. string_bytes w) c.args.names.now in
    let status = c.in_err-file.field-0.0 in
    let before = f.world c.args.files.now in
    let after = f.world c.core_machine.new.files in
    let Fails : List ℕ → ℕ → Type 0 = λ name word. CoreFileFails (RefusesMachine U) name word before after status in
    let error = err_from_is_err_and c.from_residual.result c.from_residual.ensures.1 in
    rw (error.1, error.2) (inl (subst (Fails (name_of names c.args.core 0)) c.word_at.ensures
    (subst (λ name. Fails name c.word_at.result) c.name_at-machine.ensures c.in_err-file.ensures)))
