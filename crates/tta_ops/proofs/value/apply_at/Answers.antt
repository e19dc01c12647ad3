use Rattle.std.proofs.Common.{arith, ◌≡◌, ◌%◌, ◌^◌, Some, length, slice_get, ap, sym, ◌∙◌, refl}
use Rattle.std.proofs.lemmas.Bool.{ltb-true}
use Rattle.std.proofs.lemmas.Option.{slice_get_read}
use Rattle.tta_ops.proofs.value.apply_at.Goals as goal

pub returns-clause-meant : goal.returns-clause-meant
returns-clause-meant g c =
    let units = c.args.units.now in
    let place = c.in-Some.place in
    let unit = c.in-Some-get.unit.now in
    let item = c.in-Some-get.ensures.lookup in
    let found : slice_get units place.unit ≡ Some unit =
    slice_get_read units (length units) place.unit unit refl (ltb-true _ _ (sym item.0)) item.1 in
    rw (c.in-Some.is, found, ← c.first_word.ensures) c.apply.ensures.value

pub returns-clause-value : goal.returns-clause-value
returns-clause-value g c =
    let word : c.apply.result % 2 ^ 32 ≡ c.apply.result = omega (arith, c.apply.type_inv) in
    sym word ∙ ap (λ n. n % 2 ^ 32) (returns-clause-meant g c)
