use Rattle.std.proofs.Common.{ℕ, ◌+◌, ◌*◌, ◌%◌, ◌^◌, ap, ◌∙◌, arith}
use Rattle.std.proofs.lemmas.Nat.{mod_below, pow_pos}
use Rattle.tta_arch.proofs.Widths.{pow_le}
use Rattle.tta_image.proofs.BitParts.{more_below, front_full, front_more}
use Rattle.tta_image.proofs.sink.BitSink.push_front.Goals as goal
use Rattle.tta_image.proofs.sink.BitSink.push_front.Goals.{then-count-room+in_ok-push, else-count-room}

pub with_bits-last-requires-clause-room : goal.with_bits-last-requires-clause-room
with_bits-last-requires-clause-room c =
    let k = c.min-count.result in let filled = c.self.inside.filled in
    let part = mod_below c.without_low.result (2 ^ k) (pow_pos k) in
    let below = more_below filled k c.self.inside.last (c.without_low.result % 2 ^ k) c.self.invariant.1 part in
    let most = pow_le (filled + k) 8 (omega arith) in
    omega arith

pub invariant_of-self-else-count-room : goal.invariant_of-self-else-count-room
invariant_of-self-else-count-room c =
    let k = c.min-count.result in let filled = c.self.inside.filled in
    let part = mod_below c.without_low.result (2 ^ k) (pow_pos k) in
    let below = more_below filled k c.self.inside.last (c.without_low.result % 2 ^ k) c.self.invariant.1 part in
    (omega arith, omega arith, c.self.invariant.2)

pub returns-clause-ok : goal.returns-clause-ok
returns-clause-ok c =
    let last = c.with_bits-last.ensures ∙ ap (λ (n : ℕ). c.self.inside.last * 2 ^ c.min-count.result + n % 2 ^ c.min-count.result) c.without_low.ensures in
    elim c.if-count-room.branch [
      | then-count-room+in_ok-push w ↦
          rw w.self-is
          (front_full c.self.inside.bytes.items w.push.new.self.items c.args.self.now c.self.inside.filled c.self.inside.last c.with_bits-last.result c.args.left c.min-count.result c.args.number
          (omega arith) (omega arith) last w.in_ok-push.ensures.items c.self.view_is)
      | else-count-room w ↦
          rw w.self-is
          (front_more c.self.inside.bytes.items c.args.self.now c.self.inside.filled c.self.inside.last c.with_bits-last.result c.args.left c.min-count.result c.args.number
          (omega arith) last c.self.view_is)
    ]
