-- What the loops over a reader and a writer keep.
use Rattle.std.proofs.Common.{◌≡◌, ℕ, ◌+◌, ◌-◌, ◌≤◌, List, ◌++◌, length, take, drop, Option, Some, None, arith, append_assoc, ap, ◌∙◌}
use Rattle.std.proofs.Math.Seq.{take-add, take-length}
use Rattle.std.proofs.lemmas.List.{drop-drop, length-drop}
use Rattle.std.specs.Io.KnownBytes.{Consumes, Appends}

-- these bytes were read, within the limit
pub record HasRead (old new : Option (List ℕ)) (bytes : List ℕ) (limit : ℕ) : Type 0 where
  pub within : length bytes ≤ limit
  pub gone : Consumes old new bytes

-- all the bytes before the rest were written
pub record HasWritten (old new : Option (List ℕ)) (bytes rest : List ℕ) : Type 0 where
  pub within : length rest ≤ length bytes
  pub left : rest ≡ drop (length bytes - length rest) bytes
  pub gone : Appends old new (take (length bytes - length rest) bytes)

Appends-both : (a b c : Option (List ℕ)) (front more : List ℕ)
    → Appends a b front → Appends b c more → Appends a c (front ++ more)
Appends-both None b c front more p q = tt
Appends-both (Some xs) None c front more p q = absurd p
Appends-both (Some xs) (Some ys) None front more p q = absurd q
Appends-both (Some xs) (Some ys) (Some zs) front more p q =
    q ∙ ap (λ s. s ++ more) p ∙ append_assoc xs front more

tail_of : (n : ℕ) (rest : List ℕ) → take (length rest - n) (drop n rest) ≡ drop n rest
tail_of n rest = rw (← length-drop n rest) (take-length (drop n rest))

-- one more write takes a piece of the rest
pub HasWritten-more : (a b c : Option (List ℕ)) (bytes rest : List ℕ) (n : ℕ)
    → HasWritten a b bytes rest → n ≤ length rest → Appends b c (take n rest)
    → HasWritten a c bytes (take (length rest - n) (drop n rest))
HasWritten-more a b c bytes rest n before fits piece =
    let sent : ℕ = length bytes - length rest in
    let here : length bytes - (length rest - n) ≡ sent + n = omega (arith, before.within) in
    rw (tail_of n rest) record {
      within = rw (length-drop n rest) (omega (arith, before.within));
      left = rw (length-drop n rest, here) (ap (drop n) before.left ∙ drop-drop n sent bytes);
      gone = rw (length-drop n rest, here, take-add sent n bytes, ← before.left)
          (Appends-both a b c _ _ before.gone piece);
    }
