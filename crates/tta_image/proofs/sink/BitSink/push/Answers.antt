use Rattle.tta_image.proofs.BitLemmas.{shows_full, shows_more}
use Rattle.tta_image.proofs.sink.BitSink.push.Goals as goal

pub returns-in_ok-push : goal.returns-in_ok-push
returns-in_ok-push c = record {
  ok = shows_full _ _ _ _ _ _ _ c.if-self-eq7.true c.with_bit-last.ensures c.in_ok-push.ensures.items c.self.view_is;
}

pub returns-else-self-eq7 : goal.returns-else-self-eq7
returns-else-self-eq7 c = record { ok = shows_more _ _ _ _ _ _ c.with_bit-last.ensures c.self.view_is }
