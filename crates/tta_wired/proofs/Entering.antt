-- Inputs that are offered in order come in in order.
use Rattle.std.proofs.Common.{◌≡◌, ℕ, zero, suc, ◌<◌, Bool, true, false, ◌&&◌, List, [], ◌∷◌, ◌++◌, length, drop, Option, Some, refl, sym, ap, ◌∙◌, append_assoc, append-nil}
use Rattle.std.specs.Prelude.{slice_get, if◌then◌else◌}
use Rattle.std.proofs.lemmas.Bool.{and_parts}
use Rattle.tta_list.specs.Prefix.{IsPrefixOf}
use Rattle.tta_list.proofs.Prefixes.{prefix_same, prefix_chain}
use Rattle.tta_ops.specs.Units.{Units}
use Rattle.tta_circuit.specs.Meaning.{is_set}
use Rattle.tta_kahn.specs.declared.cores.Core.{Core}
use Rattle.tta_board.specs.Board.{Inputs, Powers}
use Rattle.tta_wiring.specs.Signals.{Joint, Offers, Offer, Room}
use Rattle.tta_wired.specs.Joining.{is_open, enters, entered_by}
use Rattle.tta_wired.specs.Laws.{AreOffered, InputsComeIn}

-- what is behind the first words of a list
behind : (xs rest : List ℕ) → drop (length xs) (xs ++ rest) ≡ rest
behind [] rest = refl
behind (x ∷ xs) rest = behind xs rest

-- a list with this first element
begins_with : (ws : List ℕ) (w : ℕ) → slice_get ws 0 ≡ Some w → ws ≡ w ∷ drop 1 ws
begins_with [] w is = absurd cc
begins_with (v ∷ ws) w is = let same : v ≡ w = cc in ap (λ (x : ℕ). x ∷ ws) same

-- one word more of a list begins it, too
one_more : (xs all : List ℕ) (w : ℕ) → IsPrefixOf xs all → slice_get (drop (length xs) all) 0 ≡ Some w → IsPrefixOf (xs ++ w ∷ []) all
one_more xs all w begins next =
    let rest : drop (length xs) all ≡ begins.0 = ap (drop (length xs)) begins.1 ∙ behind xs begins.0 in
    let first : begins.0 ≡ w ∷ drop 1 begins.0 = begins_with begins.0 w (ap (λ (ws : List ℕ). slice_get ws 0) (sym rest) ∙ next) in
    (drop 1 begins.0, begins.1 ∙ ap (λ (ws : List ℕ). xs ++ ws) first ∙ sym (append_assoc xs (w ∷ []) (drop 1 begins.0)))

module _ (u : Units) (cores : List Core) (feeds : List (Option ℕ)) (takes : ℕ → Bool) (given : ℕ → List ℕ) (memories : ℕ → List ℕ)
    (k : ℕ → ℕ) (powers : Powers) (i : ℕ → Inputs) (signals : ℕ → Joint → ℕ) where
  abbrev entered : ℕ → ℕ → List ℕ
  entered core t = entered_by u cores feeds takes memories k powers i signals core t

  abbrev comes : ℕ → ℕ → Bool
  comes core t = enters u cores feeds takes memories k powers i signals core t

  come_in : AreOffered cores feeds takes given signals entered → (core : ℕ) → core < length cores → is_open feeds takes core ≡ true
      → (t : ℕ) → IsPrefixOf (entered core t) (given core)
  come_in offered core within is zero = (given core, refl)
  come_in offered core within is (suc t) = by (come_in offered core within is t) (comes core t) refl where
    by : IsPrefixOf (entered core t) (given core) → (b : Bool) → comes core t ≡ b
        → IsPrefixOf (entered core t ++ (if b then signals t (Offer core) ∷ [] else [])) (given core)
    by before false none =
        prefix_chain (entered core t ++ []) (entered core t) (given core)
        (prefix_same (entered core t ++ []) (entered core t) (append-nil (entered core t))) before
    by before true some =
        let parts = and_parts (is_open feeds takes core) (is_set (signals t (Offers core)) && is_set (signals t (Room core))) some in
        let offers = and_parts (is_set (signals t (Offers core))) (is_set (signals t (Room core))) parts.1 in
        one_more (entered core t) (given core) (signals t (Offer core)) before (offered core t within is offers.0)

pub inputs_come_in : InputsComeIn
inputs_come_in u cores feeds takes given memories k powers i signals offered t core within is =
    come_in u cores feeds takes given memories k powers i signals offered core within is t
