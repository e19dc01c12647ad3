-- The operations of a cycle that output only add to what was output.
use Rattle.std.proofs.Common.{◌≡◌, ℕ, List, [], ◌∷◌, fold, refl}
use Rattle.tta_list.specs.Prefix.{IsPrefixOf}
use Rattle.tta_list.proofs.Prefixes.{prefix_same, prefix_chain}
use Rattle.tta_arch.specs.declared.parts.Op.{Op}
use Rattle.tta_arch.specs.declared.parts.Op.TheVariants.{Ldw, Stw, Ldf, Stf, Out, Take, Set}
use Rattle.tta_arch.specs.Effects.{Start, put_out}

-- one operation
pub put_prefix : (ws : List ℕ) (t : Start) → IsPrefixOf ws (put_out ws t)
put_prefix ws t = on t.does.op refl where
  on : (o : Op) → t.does.op ≡ o → IsPrefixOf ws (put_out ws t)
  on Ldw e = prefix_same ws (put_out ws t) (rw e refl)
  on Stw e = prefix_same ws (put_out ws t) (rw e refl)
  on Ldf e = prefix_same ws (put_out ws t) (rw e refl)
  on Stf e = prefix_same ws (put_out ws t) (rw e refl)
  on Out e = (t.word ∷ [], rw e refl)
  on Take e = prefix_same ws (put_out ws t) (rw e refl)
  on (Set id) e = prefix_same ws (put_out ws t) (rw e refl)

-- all of them
pub puts_prefix : (ts : List Start) (ws : List ℕ) → IsPrefixOf ws (fold put_out ws ts)
puts_prefix [] ws = prefix_same ws ws refl
puts_prefix (t ∷ ts) ws = prefix_chain ws (put_out ws t) (fold put_out (put_out ws t) ts) (put_prefix ws t) (puts_prefix ts (put_out ws t))
