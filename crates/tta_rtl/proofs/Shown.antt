-- What operations show.
use Rattle.std.proofs.Common.{◌≡◌, ◌+◌, ◌++◌, ℕ, List, map, ap, ◌∙◌}
use Rattle.std.specs.Prelude.{filter, ◌==◌, ◌&&◌}
use Rattle.std.specs.List.{flat_map, enumerate_from}
use Rattle.tta_rtl.specs.Cited.{UnitOp, Machine, has_result, Signal, HasBegun, Starts, Expression, any_of, ops_of, is_load, loads, read_word, fresh, result_of, timed, made, begins, nothing, constant, text_of}
use Rattle.tta_rtl.specs.Texts.{fresh_choice, fresh_choices, made_choice}
use Rattle.tta_rtl.proofs.Choices.{text_first, choices_passed}

-- the fresh words of a unit, one operation after another
pub fresh_text : (m : Machine) (unit latency : ℕ) (ops : List UnitOp) → ops_of m unit ≡ enumerate_from 0 ops
    → fresh_choices m unit latency ≡ flat_map (fresh_choice m unit latency) (enumerate_from 0 ops)
unfolding fresh_choice
fresh_text m unit latency ops all =
    choices_passed m (λ (o : ℕ × UnitOp). is_load o.1.op && o.1.latency == latency) (λ (o : ℕ × UnitOp). Signal (HasBegun unit o.0))
    (λ (o : ℕ × UnitOp). read_word unit o.0) (ops_of m unit)
    ∙ ap (flat_map (fresh_choice m unit latency)) all

-- a fresh word, or another
pub fresh_or : (m : Machine) (unit latency : ℕ) (other : Expression)
    → text_of m (fresh m unit latency other) ≡ fresh_choices m unit latency ++ text_of m other
fresh_or m unit latency other =
    text_first m (map (λ (o : ℕ × UnitOp). (Signal (HasBegun unit o.0), read_word unit o.0)) (loads m unit latency)) other

-- the words that a unit makes, one operation after another
pub made_text : (m : Machine) (unit latency : ℕ) (ops : List UnitOp) → ops_of m unit ≡ enumerate_from 0 ops
    → text_of m (made m unit latency) ≡ flat_map (made_choice m unit latency) (enumerate_from 0 ops) ++ constant 32 0
unfolding made_choice
made_text m unit latency ops all =
    text_first m (map (λ (o : ℕ × UnitOp). (Signal (Starts unit o.0), result_of m unit o.1)) (timed m unit latency)) nothing
    ∙ ap (λ (r : List ℕ). r ++ constant 32 0) (
    choices_passed m (λ (o : ℕ × UnitOp). has_result o.1.op && o.1.latency == latency) (λ (o : ℕ × UnitOp). Signal (Starts unit o.0))
    (λ (o : ℕ × UnitOp). result_of m unit o.1) (ops_of m unit)
    ∙ ap (flat_map (made_choice m unit latency)) all)

-- whether one starts
pub begins_text : (m : Machine) (unit latency : ℕ) (ops : List UnitOp) → ops_of m unit ≡ enumerate_from 0 ops
    → text_of m (begins m unit latency)
    ≡ text_of m (any_of (map (λ (o : ℕ × UnitOp). Signal (Starts unit o.0))
    (filter (λ (o : ℕ × UnitOp). has_result o.1.op && o.1.latency == latency) (enumerate_from 0 ops))))
begins_text m unit latency ops all =
    ap (λ (os : List (ℕ × UnitOp)). text_of m (any_of (map (λ (o : ℕ × UnitOp). Signal (Starts unit o.0))
    (filter (λ (o : ℕ × UnitOp). has_result o.1.op && o.1.latency == latency) os)))) all
