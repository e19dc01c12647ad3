use Rattle.std.proofs.Common.{◌≡◌, ◌<◌, ◌-◌, false, List, ℕ, sym, ap, ◌∙◌, subst, arith}
use Rattle.std.specs.Prelude.{IfOk}
use Rattle.std.specs.Str.{bytes_eq}
use Rattle.tta_own_circuits.specs.Included as i
use Rattle.tta_own_circuits.proofs.Inclusions.{passed_by}
use Rattle.tta_own_circuits.proofs.included.+push_function_at.Goals as goal

pub returns-then-not-branch : goal.returns-then-not-branch
returns-then-not-branch g t c =
    let called = g.U.OpUnit.unit_name c.args.unit.now in
    let line = c.args.line.now in
    let some : 0 < c.args.below = omega (arith, c.if-below-eq0.false) in
    let no : bytes_eq line (i.include_line (called (c.args.below - 1))) ≡ false =
    ap (λ (n : List ℕ). bytes_eq line (i.include_line n)) (sym (c.as_bytes-name.ensures.value ∙ c.name.ensures))
    ∙ sym c.in_ok-includes.ensures ∙ c.if-not-branch.true in
    subst (λ o. IfOk c.push_function_at.result (λ put. i.IsPutIfAny o put c.args.out.now.items c.push_function_at.new.out.items))
    (passed_by called (g.U.CircuitUnit.unit_circuit c.args.unit.now) c.args.below line some no) c.push_function_at.ensures
