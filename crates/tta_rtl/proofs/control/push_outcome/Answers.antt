use Rattle.std.proofs.Common.{◌≡◌, ◌++◌, ◌∷◌, [], List, ℕ, OnOk, subst, sym, ◌∙◌}
use Rattle.std.proofs.lemmas.List.{append-nil}
use Rattle.tta_rtl.specs.Cited.{NextPc, Puts, PutWord}
use Rattle.tta_rtl.specs.Texts.{wires_text}
use Rattle.tta_rtl.proofs.UnitWires.{wire_more}
use Rattle.tta_rtl.proofs.control.push_outcome.Goals as goal

pub returns : goal.returns
returns c =
    let m = c.args.on.now.m.now in
    let old = c.args.out.now.items in
    let s1 : c.push_next_pc.new.out.items ≡ old ++ wires_text m (NextPc ∷ []) =
    c.in_ok-push_next_pc.ensures ∙ wire_more m [] NextPc old old (sym (append-nil old)) in
    let s2 : c.push_puts.new.out.items ≡ old ++ wires_text m (NextPc ∷ Puts ∷ []) =
    c.in_ok-push_puts.ensures ∙ wire_more m (NextPc ∷ []) Puts old c.push_next_pc.new.out.items s1 in
    subst (λ (r : List ℕ). OnOk c.push_put.result (c.push_put.new.out.items ≡ r))
    (wire_more m (NextPc ∷ Puts ∷ []) PutWord old c.push_puts.new.out.items s2) c.push_put.ensures
