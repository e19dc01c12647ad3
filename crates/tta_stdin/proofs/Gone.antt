-- What reading a line, byte by byte, has taken of known bytes.
use Rattle.std.proofs.Common.{◌≡◌, ◌≢◌, ◌≤◌, ℕ, zero, suc, List, [], ◌∷◌, ◌++◌, length, take, Option, Some, None, ap, ◌∙◌, sym, append_assoc, arith}
use Rattle.std.specs.Io.KnownBytes.{Consumes}
use Rattle.tta_stdin.specs.OneLine.{IsPlain, IsLongLine}

-- these bytes of a line were read, no newline among them, and they fit
pub record HasRead (old new : Option (List ℕ)) (limit : ℕ) (line : List ℕ) : Type 0 where
  pub plain : IsPlain line
  pub fits : length line ≤ limit
  pub gone : Consumes old new line

both_gone : (a b c : Option (List ℕ)) (front more : List ℕ) → Consumes a b front → Consumes b c more → Consumes a c (front ++ more)
both_gone None b c front more p q = tt
both_gone (Some xs) None c front more p q = absurd p
both_gone (Some xs) (Some ys) None front more p q = absurd q
both_gone (Some xs) (Some ys) (Some zs) front more p q = p ∙ ap (λ l. front ++ l) q ∙ sym (append_assoc front more zs)

-- a byte more was read than fits
pub long_line : (old mid new : Option (List ℕ)) (limit : ℕ) (line buf : List ℕ) (n : ℕ) → HasRead old mid limit line → length line ≡ limit
    → Consumes mid new (take n buf) → length buf ≡ 1 → n ≤ 1 → n ≢ 0 → IsLongLine old new limit
long_line old mid new limit line [] n has full gone len most some = absurd (omega arith)
long_line old mid new limit line (b ∷ c ∷ buf) n has full gone len most some = absurd (omega arith)
long_line old mid new limit line (b ∷ []) zero has full gone len most some = absurd (omega arith)
long_line old mid new limit line (b ∷ []) (suc (suc n)) has full gone len most some = absurd (omega arith)
long_line old mid new limit line (b ∷ []) (suc zero) has full gone len most some = record {
  begin = line;
  byte = b;
  plain = has.plain;
  gone = both_gone old mid new line (b ∷ []) has.gone gone;
  full = full;
}
