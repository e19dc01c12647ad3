use Rattle.std.proofs.Common.{option_map, subst, inl}
use Rattle.std.proofs.lemmas.Result.{err_from_is_err_and}
use Rattle.tta_inspect.specs.Cited.{stated}
use Rattle.tta_load.specs.Inputs.{ReadsGiven, GivenFails}
use Rattle.tta_inspect.proofs.Prompted.{files_read, files_refused}
use Rattle.tta_inspect.proofs.prompting.read_all.Goals as goal

pub returns-clause-ends : goal.returns-clause-ends
returns-clause-ends g c =
    let f = g.F.Files in
    let U = stated (λ v. (goal.OpUnit-dyn g v).unit_meaning v.1) c.args.units.now in
    let request = c.args.request.now in
    let pair = c.in_ok-pair.pair in
    let given = c.in_ok-given.given in
    let stream = option_map (λ s. s.now) request.stream in
    let between = f.world c.image_pair.new.files in
    let after = f.world c.given_files.new.files in
    files_read U request.machine.now request.image.now request.input.now stream pair.file pair.whole given.memory.items given.words.items
    (f.world c.args.files.now) between after c.in_ok-pair.ensures.ends
    (subst (λ n. ReadsGiven n request.input.now stream given.memory.items given.words.items between after) c.data_words-space.ensures c.in_ok-given.ensures.ends)

pub returns-in_err-given-clause-ends : goal.returns-in_err-given-clause-ends
returns-in_err-given-clause-ends g c =
    let f = g.F.Files in
    let error = err_from_is_err_and c.from_residual-in_err-given.result c.from_residual-in_err-given.ensures.1 in
    let U = stated (λ v. (goal.OpUnit-dyn g v).unit_meaning v.1) c.args.units.now in
    let request = c.args.request.now in
    let pair = c.in_ok-pair.pair in
    let stream = option_map (λ s. s.now) request.stream in
    let between = f.world c.image_pair.new.files in
    let after = f.world c.given_files.new.files in
    rw (error.1, error.2) (files_refused U request.machine.now request.image.now request.input.now stream pair.file pair.whole
    (f.world c.args.files.now) between after c.in_err-given.field-0.0 c.in_ok-pair.ensures.ends
    (subst (λ n. GivenFails 4 n request.input.now stream between after c.in_err-given.field-0.0) c.data_words-space.ensures c.in_err-given.ensures.ends))

pub returns-in_err-pair-clause-ends : goal.returns-in_err-pair-clause-ends
returns-in_err-pair-clause-ends g c =
    let error = err_from_is_err_and c.from_residual.result c.from_residual.ensures.1 in
    rw (error.1, error.2) (inl c.in_err-pair.ensures.ends)
