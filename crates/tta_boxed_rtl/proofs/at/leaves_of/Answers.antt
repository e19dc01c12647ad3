use Rattle.std.proofs.Common.{◌<◌, ◌∷◌, [], ◌++◌, ℕ, List, Bool, get_or, map, take, length, arith, ap, sym, ◌∙◌}
use Rattle.std.proofs.lemmas.List.{map-append, take_more}
use Rattle.tta_rtl.specs.Cited.{stated}
use Rattle.tta_boxed_rtl.specs.Left.{may_be_left}
use Rattle.tta_boxed_rtl.proofs.at.leaves_of.Goals as goal

pub loop-op-preserved : goal.loop-op-preserved
loop-op-preserved g c =
    let names : List (List ℕ) = (stated (λ v. (goal.OpUnit-dyn g v).unit_meaning v.1) c.args.units.now).names in
    let op = c.loop-op.op in
    let below : op < length names = omega arith in
    c.in_ok-push.ensures.items
    ∙ ap (λ (t : List Bool). t ++ c.tells-told.result ∷ []) c.loop-op.invariant
    ∙ ap (λ (b : Bool). map may_be_left (take op names) ++ b ∷ []) c.tells-told.ensures
    ∙ sym (ap (map may_be_left) (take_more names op [] below) ∙ map-append may_be_left (take op names) (get_or names op [] ∷ []))
