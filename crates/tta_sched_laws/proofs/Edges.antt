-- From one list to the next.
use Rattle.std.proofs.Common.{◌≡◌, ℕ, Bool, true, false, List, [], ◌∷◌, Some, None, refl, sym, ap, ◌∙◌, filter}
use Rattle.std.specs.Prelude.{if◌then◌else◌}
use Rattle.tta_sched_laws.specs.Cited.{Place, KeptPort, Written, State, Held, lives, restart}
use Rattle.tta_arch.specs.Effects.{same_place, kept as lookup}
use Rattle.tta_sched_laws.proofs.Starts.{Covers}
use Rattle.tta_sched_laws.proofs.InBlock.{Matches}
use Rattle.tta_moves.proofs.Places.{either}
use Rattle.tta_arch.proofs.Places.{same_is}

-- what stays written
abbrev keep : (Place → Bool) → Written → Written
keep p ws = filter (λ (w : Place × ℕ). p w.0) ws

dropped : (p : Place → Bool) (ws : Written) (x : Place) → p x ≡ false → lookup (keep p ws) x ≡ None
dropped p [] x e = refl
dropped p (v ∷ ws) x e = on (p v.0) refl (dropped p ws x e) where
  on : (stays : Bool) → p v.0 ≡ stays → lookup (keep p ws) x ≡ None → lookup (if stays then v ∷ keep p ws else keep p ws) x ≡ None
  on false r ih = ih
  on true r ih =
      either (same_place v.0 x)
      (λ q. let s = ap p (same_is v.0 x q) in absurd cc)
      (λ q. rw q ih)

lookup_keep : (p : Place → Bool) (ws : Written) (x : Place) → Covers (lookup ws x) (lookup (keep p ws) x)
lookup_keep p [] x w e = e
lookup_keep p (v ∷ ws) x w e = on (same_place v.0 x) (p v.0) refl refl e (lookup_keep p ws x w) where
  on : (same stays : Bool) → same_place v.0 x ≡ same → p v.0 ≡ stays → lookup (if stays then v ∷ keep p ws else keep p ws) x ≡ Some w → (lookup (keep p ws) x ≡ Some w → lookup ws x ≡ Some w)
      → (if same then Some v.1 else lookup ws x) ≡ Some w
  on true true q r e ih = rw q at e
  on true false q r e ih = let s = ap p (same_is v.0 x q) in let none = dropped p ws x (sym s ∙ r) in absurd cc
  on false true q r e ih = ih (rw q at e)
  on false false q r e ih = ih e

-- a block that goes on leaves the machine ready for the next list
pub restarts : (s : State) (h : Held) (live : List (ℕ × ℕ)) (pc : ℕ) → Matches s h → Matches (record s { pending = None; pc = pc }) (restart live h)
restarts s h live pc match = record {
  outcome = match.outcome;
  kept = λ x kept w e. match.kept x kept w (lookup_keep (lives live) h.written x w e);
  ports = λ unit w e. match.ports unit w (lookup_keep (lives live) h.written (KeptPort unit) w e);
  memory = match.memory;
  frame = match.frame;
  rest = match.rest;
  output = match.output;
  settled = match.settled;
}
