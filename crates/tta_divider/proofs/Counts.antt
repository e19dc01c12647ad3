-- How many digits stages make.
use Rattle.std.proofs.Common.{◌≡◌, ℕ, ◌<◌, ◌≤◌, ◌+◌, ◌*◌, ◌/◌, ◌%◌, ap, ◌∙◌, arith, div-add-mod'}
use Rattle.std.proofs.lemmas.Nat.{div_below, div-mul-add, le-div}
use Rattle.tta_divider.specs.Divider.{made_before, made_by}

-- none before the first stage
pub none_before : (stages : ℕ) → made_before stages 0 ≡ 0
unfolding made_before
none_before stages = let less : 0 / (stages + 1) < 1 = div_below 0 (stages + 1) 1 (omega arith) (omega arith) in omega (arith, less)

-- all before the one behind the last
pub all_before : (stages : ℕ) → made_before stages (stages + 1) ≡ 32
unfolding made_before
all_before stages =
    let same : 32 * (stages + 1) ≡ 32 * (stages + 1) + 0 = omega arith in
    ap (λ (n : ℕ). n / (stages + 1)) same ∙ div-mul-add 32 (stages + 1) 0 (omega arith)

-- not more before than behind
pub grows : (stages a b : ℕ) → a ≤ b → made_before stages a ≤ made_before stages b
unfolding made_before
grows stages a b less =
    let cut : 32 * a / (stages + 1) * (stages + 1) + 32 * a % (stages + 1) ≡ 32 * a = div-add-mod' (32 * a) (stages + 1) in
    le-div (32 * a / (stages + 1)) (32 * b) (stages + 1) (omega arith) (omega (arith, cut, less))

-- 32 at most
pub at_most : (stages stage : ℕ) → stage ≤ stages → made_before stages (stage + 1) ≤ 32
at_most stages stage few = omega (arith, grows stages (stage + 1) (stages + 1) (omega (arith, few)), all_before stages)

-- those of a stage follow those before it
pub follow : (stages stage : ℕ) → made_by stages stage + made_before stages stage ≡ made_before stages (stage + 1)
follow stages stage = omega (arith, grows stages stage (stage + 1) (omega arith))
