use Rattle.std.proofs.Common.{List, ℕ, ◌++◌, ap, ◌∙◌, inr}
use Rattle.tta_own_circuits.specs.Texts.{head_text, made_text}
use Rattle.tta_own_circuits.proofs.Found.{none_too, function_is}
use Rattle.tta_own_circuits.proofs.command.function_text.Goals as goal

pub returns-in_default-circuit : goal.returns-in_default-circuit
returns-in_default-circuit g c =
    inr (record { place = c.in-Some.i; inside = c.in-Some.ensures.0; name_is = c.in-Some.ensures.1 }, none_too _ c.in_default-circuit.ensures)

pub returns-in-Ok : goal.returns-in-Ok
returns-in-Ok g c =
    let text = c.in-Some-circuit.text in
    let of : List ℕ → List ℕ = λ name. head_text name ++ made_text name text.before.now text.word.now in (
      record { place = c.in-Some.i; inside = c.in-Some.ensures.0; name_is = c.in-Some.ensures.1 },
      function_is _ text c.args.name.now _ c.in-Some-circuit.ensures
          (c.in-Ok.ensures ∙ ap (λ (begun : List ℕ). begun ++ of c.as_bytes.result.now) c.new-out.ensures.items ∙ ap of c.as_bytes.ensures.value),
    )
