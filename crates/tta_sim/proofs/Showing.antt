-- Results that become due, and results that begin.
use Rattle.std.proofs.Common.{◌≡◌, ◌<◌, ◌+◌, ℕ, List, [], ◌∷◌, ◌++◌, Option, None, Some, refl, ap, sym, ◌∙◌, arith}
use Rattle.std.specs.Prelude.{fold}
use Rattle.std.specs.Option.{option_or}
use Rattle.std.specs.List.{AllByRecursion}
use Rattle.std.proofs.lemmas.List.Folds.{find-append}
use Rattle.std.proofs.lemmas.List.Sums.{fold-append}
use Rattle.tta_sim.specs.Cited.{Result', later, Rings, shown_in, due_in, latest, is_due, due_at, word_due}
use Rattle.tta_sim.specs.Results.{Results, AreResultsOf}
use Rattle.tta_code.proofs.Latest.{latest-next}

-- ---- the port

-- results that are due later do not show
latest-later : (unit now : ℕ) (best : Option Result') (rs : List Result') → AllByRecursion (λ r. now < r.due) rs → fold (later unit now) best rs ≡ best
latest-later unit now best [] all = refl
latest-later unit now best (r ∷ rs) all =
    let skipped : later unit now best r ≡ best = skips best all.0 in
    ap (λ b. fold (later unit now) b rs) skipped ∙ latest-later unit now best rs all.1
  where
    skips : (best : Option Result') → now < r.due → later unit now best r ≡ best
    skips best less = grind arith

-- ---- the next cycle

-- the word of one of two results
word_either : (a b : Option Result') → option_or (word_due a) (word_due b) ≡ word_due (option_or a b)
word_either None b = refl
word_either (Some r) b = refl

-- the first of three
or_assoc : (a b c : Option Result') → option_or a (option_or b c) ≡ option_or (option_or a b) c
or_assoc None b c = refl
or_assoc (Some r) b c = refl

-- results of the next cycle, where new ones that are due after this one stand beside the others
pub results_more : (started new : List Result') (now : ℕ) (r : Results) (rings : Rings) → AreResultsOf started now r → AllByRecursion (λ q. now < q.due) new
    → ((unit : ℕ) → unit < r.units → shown_in rings (r.base + unit)
    ≡ option_or (word_due (due_at unit (now + 1) new)) (option_or (due_in r.rings (r.base + unit) 1) (shown_in r.rings (r.base + unit))))
    → ((unit delay : ℕ) → unit < r.units
    → due_in rings (r.base + unit) delay ≡ option_or (word_due (due_at unit (now + 1 + delay) new)) (due_in r.rings (r.base + unit) (delay + 1)))
    → AreResultsOf (new ++ started) (now + 1) (record r { rings = rings })
results_more started new now r rings same after shown due = record {
  shown = λ unit less.
      let here : Option Result' = due_at unit (now + 1) new in
      let had : Option Result' = due_at unit (now + 1) started in
      shown unit less ∙ ap (λ o. option_or (word_due here) (option_or o (shown_in r.rings (r.base + unit)))) (same.due unit 1 less)
      ∙ ap (λ o. option_or (word_due here) (option_or (word_due had) o)) (same.shown unit less)
      ∙ ap (option_or (word_due here)) (word_either had (latest unit now started)) ∙ word_either here (option_or had (latest unit now started))
      ∙ ap word_due (or_assoc here had (latest unit now started)
      ∙ ap (λ o. option_or o (latest unit now started)) (sym (find-append (is_due unit (now + 1)) new started)) ∙ ap (option_or (due_at unit (now + 1) (new ++ started))) (sym (skips unit))
      ∙ sym (latest-next unit now (new ++ started)));
  due = λ unit delay less.
      let sum : now + (delay + 1) ≡ now + 1 + delay = omega arith in
      due unit delay less ∙ ap (option_or (word_due (due_at unit (now + 1 + delay) new))) (same.due unit (delay + 1) less ∙ ap (λ n. word_due (due_at unit n started)) sum)
      ∙ word_either (due_at unit (now + 1 + delay) new) (due_at unit (now + 1 + delay) started) ∙ ap word_due (sym (find-append (is_due unit (now + 1 + delay)) new started));
}
  where
    skips : (unit : ℕ) → latest unit now (new ++ started) ≡ latest unit now started
    skips unit = fold-append (later unit now) None new started ∙ ap (λ best. fold (later unit now) best started) (latest-later unit now None new after)
