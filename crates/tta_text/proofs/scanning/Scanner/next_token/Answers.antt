use Rattle.std.proofs.Common.{arith}
use Rattle.std.proofs.lemmas.Grind.{common_steps}
use Rattle.tta_text.proofs.Turns.{tokens_from-piece, tokens_from-closed, tokens_from-open}
use Rattle.tta_text.proofs.scanning.Scanner.next_token.Goals as goal

pub returns-in-Some-clause-next : goal.returns-in-Some-clause-next
returns-in-Some-clause-next c =
    let at = c.loop-self.self-inside in
    let turn = tokens_from-piece at.text.now at.is_open at.line at.at c.loop-self-test.true (grind (arith, common_steps)) (grind (arith, common_steps)) in
    grind (arith, common_steps)

pub loop-self-preserved : goal.loop-self-preserved
loop-self-preserved c =
    let at = c.loop-self.self-inside in
    let turn = tokens_from-piece at.text.now at.is_open at.line at.at c.loop-self-test.true (grind (arith, common_steps)) (grind (arith, common_steps)) in
    grind (arith, common_steps)

pub returns-in-Some-clause-none : goal.returns-in-Some-clause-none
returns-in-Some-clause-none c = let next = returns-in-Some-clause-next c in (λ e. cc, λ e. cc)

pub returns-then-not-self-clause-none : goal.returns-then-not-self-clause-none
returns-then-not-self-clause-none c =
    let at = c.loop-self.self-inside in
    let closed = tokens_from-closed at.text.now at.line at.at c.loop-self-test.false in
    grind (arith, common_steps)

pub returns-clause-next : goal.returns-clause-next
returns-clause-next c =
    let at = c.loop-self.self-inside in
    let closed = tokens_from-closed at.text.now at.line at.at c.loop-self-test.false in
    let open_line = tokens_from-open at.text.now at.line at.at c.loop-self-test.false in
    grind (arith, common_steps)

pub returns-clause-none : goal.returns-clause-none
returns-clause-none c = let next = returns-clause-next c in (λ e. cc, λ e. cc)
