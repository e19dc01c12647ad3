use Rattle.std.proofs.Common.{ℕ, ◌/◌, ◌^◌, ◌∙◌, sym, ap, arith}
use Rattle.tta_arch.proofs.Widths.{width_for-is, enough_from_high}
use Rattle.tta_arch.proofs.layout.width_for.Goals as goal

pub returns-then-highest-width-eq0-clause-least : goal.returns-then-highest-width-eq0-clause-least
returns-then-highest-width-eq0-clause-least c =
    let none = ap (λ (n : ℕ). n / 2 ^ c.loop-width.width) (sym c.saturating_sub-highest.ensures) ∙ c.if-highest-width-eq0.true in
    sym (width_for-is c.args.codes c.loop-width.width (enough_from_high c.args.codes c.loop-width.width none) c.loop-width.invariant)

pub returns-clause-least : goal.returns-clause-least
returns-clause-least c =
    sym (width_for-is c.args.codes 64 (omega arith) (λ v lt. c.loop-width.invariant v (omega arith)))
