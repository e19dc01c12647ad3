use Rattle.std.proofs.Common.{true, false, nat_lt, Some, sym, ap, ◌∙◌}
use Rattle.std.proofs.lemmas.Bool.{lt-ltb}
use Rattle.tta_debug.specs.Cited.{File, Machine}
use Rattle.tta_debug.specs.Debugged.{value}
use Rattle.tta_debug.proofs.Seeing.{register_is, is_not_below}
use Rattle.tta_debug.proofs.query.register.Goals as goal

pub returns-then-index-from : goal.returns-then-index-from
returns-then-index-from c = λ s stands.
    let size = ap (λ (f : File). nat_lt c.args.index f.size) c.index-files-k.is ∙ ap (nat_lt c.args.index) (sym c.from.ensures) ∙ lt-ltb c.args.index c.from.result c.if-index-from.true in
    ap Some (c.value.ensures ∙ ap value (c.reg.ensures s stands))
    ∙ sym (register_is c.args.m.now s c.args.file.now c.args.index c.in_ok-k.k c.as_slice-files.result.now c.index-files-k.result true
    (c.as_slice-files.ensures ∙ ap (λ (m : Machine). m.files) c.m.view_is) (sym c.file_named.ensures ∙ c.in_ok-k.was) c.index-files-k.is size)

pub returns-else-index-from : goal.returns-else-index-from
returns-else-index-from c = λ s stands.
    let size = ap (λ (f : File). nat_lt c.args.index f.size) c.index-files-k.is ∙ ap (nat_lt c.args.index) (sym c.from.ensures) ∙ is_not_below c.args.index c.from.result c.if-index-from.false in
    sym (register_is c.args.m.now s c.args.file.now c.args.index c.in_ok-k.k c.as_slice-files.result.now c.index-files-k.result false
    (c.as_slice-files.ensures ∙ ap (λ (m : Machine). m.files) c.m.view_is) (sym c.file_named.ensures ∙ c.in_ok-k.was) c.index-files-k.is size)
