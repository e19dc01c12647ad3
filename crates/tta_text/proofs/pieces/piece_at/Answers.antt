use Rattle.std.proofs.Common.{◌+◌, ap, sym, ◌∙◌}
use Rattle.tta_text.specs.Tokens.{token}
use Rattle.tta_text.specs.declared.lexeme.Kind.TheVariants.{Name}
use Rattle.tta_text.proofs.Turns.{piece_at-name}
use Rattle.tta_text.proofs.pieces.piece_at.Goals as goal

pub returns-in_default-2-clause-piece : goal.returns-in_default-2-clause-piece
returns-in_default-2-clause-piece c =
    c.token.ensures
    ∙ ap (λ len. token Name (1 + len)) c.run_len.ensures.len
    ∙ sym (piece_at-name c.args.byte c.args.rest.now (sym c.is_name_start.ensures ∙ c.if-is_name_start.true))
