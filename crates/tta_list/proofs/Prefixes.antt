-- A list begins itself, and what begins a list begins what that begins.
use Rattle.std.proofs.Common.{◌≡◌, ℕ, List, [], ◌++◌, sym, ap, ◌∙◌, append_assoc, append-nil}
use Rattle.tta_list.specs.Prefix.{IsPrefixOf}

-- a list begins itself
pub prefix_same : (xs ys : List ℕ) → xs ≡ ys → IsPrefixOf xs ys
prefix_same xs ys e = ([], sym e ∙ sym (append-nil xs))

-- and what begins a list begins what that begins
pub prefix_chain : (xs ys zs : List ℕ) → IsPrefixOf xs ys → IsPrefixOf ys zs → IsPrefixOf xs zs
prefix_chain xs ys zs p q = (p.0 ++ q.0, q.1 ∙ ap (λ (l : List ℕ). l ++ q.0) p.1 ∙ append_assoc xs p.0 q.0)
