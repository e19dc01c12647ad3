use Rattle.tta_build.proofs.candidates.Candidates.plain.Goals as goal

pub returns-clause-trail : goal.returns-clause-trail
returns-clause-trail c = record {
  start = record { served = tt; bound = tt };
  rounds = record { first = c.in_ok-first.ensures.round; second = tt };
}

pub returns-clause-last : goal.returns-clause-last
returns-clause-last c = c.in_ok-first.ensures.last
