use Rattle.std.proofs.Common.{◌∙◌, ap, arith}
use Rattle.tta_image.proofs.BitLemmas.{bytes_of_full, bytes_of_filled}
use Rattle.tta_image.proofs.sink.BitSink.into_bytes.Goals as goal
use Rattle.tta_image.proofs.sink.BitSink.into_bytes.Goals.{then-filled-gt0+in_ok-push, else-filled-gt0}

pub returns : goal.returns
returns c = elim c.if-filled-gt0.branch [
  | then-filled-gt0+in_ok-push w ↦ bytes_of_filled c.self.inside.bytes.items _ c.self.inside.filled c.self.inside.last _ _ w.if-filled-gt0.true c.self.invariant.0 c.self.invariant.1
      w.filled_up.ensures w.filled_up.type_inv (ap (λ v. v.items) w.bytes-is ∙ w.in_ok-push.ensures.items) c.self.invariant.2 c.self.view_is
  | else-filled-gt0 w ↦ rw w.bytes-is (bytes_of_full _ _ _ _ (omega arith) c.self.invariant.2 c.self.view_is)
]
