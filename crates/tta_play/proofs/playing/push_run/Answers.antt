use Rattle.std.proofs.Common.{◌≡◌, ◌++◌, sym, ap, ◌∙◌, inl, inr, length}
use Rattle.tta_play.specs.Cited.{iterate, stated, next}
use Rattle.tta_list.proofs.Results.{onward}
use Rattle.tta_play.specs.Statement.{played_text}
use Rattle.tta_play.proofs.Skipped.{played_waiting}
use Rattle.tta_play.proofs.playing.push_run.Goals as goal

pub returns : goal.returns
returns g c = λ s was given.
    let on = c.args.basis.now in
    let U = stated (λ v. (goal.OpUnit-dyn g v).unit_meaning v.1) on.units.now in
    let m = on.m.now in
    let code = on.code.now in
    let bound = c.args.span.bound in
    let at = c.skip-rest.ensures.stands s was given in
    let bytes = length c.args.out.now.items in
    let same : played_text U m code bytes s (iterate c.args.span.first (next U m code) s) bound ≡ played_text U m code bytes s at.state bound =
    elim at.is [
      | inl is ↦ ap (λ t. played_text U m code bytes s t bound) is
      | inr waits ↦ ap (λ t. played_text U m code bytes s t bound) waits.1 ∙ played_waiting U m code bytes s at.state bound waits.0
    ] in
    onward c.push_played.result (λ is. is ∙ ap (λ l. c.args.out.now.items ++ l) (sym same))
    (c.push_played.ensures s at.state (record { words = c.in_ok-remember.ensures.memory ∙ was.stands.memory; frames = c.in_ok-remember.ensures.frame ∙ was.stands.frame })
    at.stands at.left)
