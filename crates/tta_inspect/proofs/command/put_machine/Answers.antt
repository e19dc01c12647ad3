use Rattle.std.proofs.Common.{◌≡◌, inr}
use Rattle.tta_inspect.specs.Cited.{stated, no_memory}
use Rattle.tta_load.proofs.Endings.{text_ends}
use Rattle.tta_inspect.specs.Views.{machine_view}
use Rattle.tta_inspect.proofs.command.put_machine.Goals as goal

pub returns-in-Ok : goal.returns-in-Ok
returns-in-Ok g c =
    let sink = g.S.Sink in
    let U = stated (λ v. (goal.OpUnit-dyn g v).unit_meaning v.1) c.args.units.now in
    let file = c.in-Ok.file in
    let made = c.text_of_machine-made.result in
    inr (
      record { value = file; held = c.in-Ok.ensures.ends.held },
      c.in-Ok.ensures.ends.untouched,
      text_ends (λ text. text ≡ machine_view U c.args.names.now.view file) no_memory (sink.output c.args.sink.now) (sink.output c.put_made.new.sink) (λ v. v.items) made c.put_made.result
          c.text_of_machine-made.ensures c.put_made.ensures,
    )
