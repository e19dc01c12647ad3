-- How many tokens a text can have.
use Rattle.std.proofs.Common.{ℕ, zero, suc, ◌+◌, ◌-◌, ◌≤◌, Bool, true, false, not, List, [], ◌∷◌, length, Option, None, Some, arith}
use Rattle.tta_text.specs.declared.lexeme.Kind.{Kind}
use Rattle.tta_text.specs.declared.lexeme.Token.{Token}
use Rattle.tta_text.specs.Tokens.{tokens_from, with_token, piece_of, line_after}
use Rattle.tta_text.specs.Bytes.{is_newline}

-- a prefix has at most one token
length-with_token : (kind : Option Kind) (line start end : ℕ) (tokens : List Token) → length (with_token kind line start end tokens) ≤ length tokens + 1
length-with_token None line start end tokens = omega arith
length-with_token (Some kind) line start end tokens = omega arith

-- bytes have at most one token each, and one after the last
pub length-tokens_from : (bytes : List ℕ) (skip : ℕ) (is_open : Bool) (line at : ℕ) → length (tokens_from skip is_open line at bytes) ≤ length bytes + 1
unfolding tokens_from
length-tokens_from [] skip false line at = omega arith
length-tokens_from [] skip true line at = omega arith
length-tokens_from (byte ∷ rest) (suc skip) is_open line at = omega (arith, length-tokens_from rest skip true line (at + 1))
length-tokens_from (byte ∷ rest) zero is_open line at =
    let piece = piece_of (byte ∷ rest) in
    let others = tokens_from (piece.len - 1) (not (is_newline byte)) (line_after byte line) (at + 1) rest in
    omega (
      arith,
      length-with_token piece.kind line at (at + piece.len) others,
      length-tokens_from rest (piece.len - 1) (not (is_newline byte)) (line_after byte line) (at + 1),
    )
