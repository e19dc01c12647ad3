use Rattle.std.proofs.Common.{ℕ, List, map, subst, inl}
use Rattle.std.proofs.lemmas.Result.{err_from_is_err_and}
use Rattle.std.specs.String.{string_bytes}
use Rattle.tta_net_command.specs.Cited.{stated, RefusesInput}
use Rattle.tta_net_command.specs.CoreFiles.{name_of, CoreFileFails}
use Rattle.tta_net_command.proofs.CoresTaken.{words_refused}
use Rattle.tta_net_command.proofs.files.core_file.Goals as goal

pub returns-in_err-words-clause-ends : goal.returns-in_err-words-clause-ends
returns-in_err-words-clause-ends g c =
    let f = g.F.Files in
    let U = stated (λ v. (goal.OpUnit-dyn g v).unit_meaning v.1) c.args.units.now in
    let names = map (λ w. string_bytes w) c.args.names.now in
    let pair = c.in_ok-pair.pair in
    let status = c.in_err-words.field-0.0 in
    let before = f.world c.args.files.now in
    let between = f.world c.core_pair.new.files in
    let after = f.world c.core_words.new.files in
    let Fails : (space : ℕ) (name : List ℕ) (word : ℕ) → Type 0 = λ space name word. CoreFileFails (RefusesInput space) name word between after status in
    let error = err_from_is_err_and c.from_residual-in_err-words.result c.from_residual-in_err-words.ensures.1 in
    rw (error.1, error.2) (words_refused U names c.args.core pair.file pair.whole before between after status c.in_ok-pair.ensures.ends
    (subst (Fails pair.file.machine.data_words (name_of names c.args.core 2)) c.word_at.ensures
    (subst (λ name. Fails pair.file.machine.data_words name c.word_at.result) c.name_at-input.ensures
    (subst (λ space. Fails space c.name_at-input.result.now c.word_at.result) c.data_words-space.ensures c.in_err-words.ensures.ends))))

pub returns-in_err-pair-clause-ends : goal.returns-in_err-pair-clause-ends
returns-in_err-pair-clause-ends g c =
    let error = err_from_is_err_and c.from_residual.result c.from_residual.ensures.1 in
    rw (error.1, error.2) (inl c.in_err-pair.ensures.ends)
