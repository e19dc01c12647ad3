-- What was noted of a decoded instruction.
use Rattle.std.proofs.Common.{◌≡◌, ℕ, Bool, true, false, not, ◌&&◌, ◌||◌, List, [], ◌∷◌, Option, Some, None, refl, sym, ap, ◌∙◌, arith}
use Rattle.std.specs.Prelude.{option_to_list}
use Rattle.std.specs.List.{list_any, filter_map, cons_option}
use Rattle.std.proofs.lemmas.Bool.{or_parts, or_from, not-true}
use Rattle.tta_sim.specs.Cited.{Start, lacks_operand}
use Rattle.tta_sim.specs.declared.decoded.DecodedStart.{DecodedStart}
use Rattle.tta_sim.specs.declared.decoded.DecodedWrite.{DecodedWrite}
use Rattle.tta_sim.specs.declared.decoded.Line.{Line}
use Rattle.tta_sim.specs.declared.lines.Write.{Write}
use Rattle.tta_sim.specs.Results.{Results, shown_by}
use Rattle.tta_sim.specs.Decoded.{is_nil}
use Rattle.tta_sim.specs.Starts.{clashes_with, is_stopped}
use Rattle.tta_sim.specs.Lines.{is_unread, write_brought, start_brought, operand_in, cannot_start, controls_well, is_ready}
use Rattle.tta_sim.specs.Ready.{AreNoted}

-- a list without elements
pub nothing_in : {A : Type 0} (xs : List A) → is_nil xs ≡ true → xs ≡ []
nothing_in [] none = refl
nothing_in (x ∷ xs) none = grind (arith, none)

-- a pure line has no loud starts, and no control moves
pub pure_parts : (q a b : Bool) → q ≡ (a && b) → q ≡ true → (a ≡ true) × (b ≡ true)
pure_parts q true true is pure = (refl, refl)
pure_parts q true false is pure = cc
pure_parts q false b is pure = cc

-- operations that can start have no result that would be due at the time of another
free_in : (places : List (Option ℕ)) (r : Results) (operand : ℕ → Option ℕ) (moves : List DecodedStart) → list_any (cannot_start places r operand) moves ≡ false
    → list_any (clashes_with r) (filter_map (start_brought places (shown_by r) operand) moves) ≡ false
free_in places r operand [] none = refl
free_in places r operand (s ∷ moves) none = by (start_brought places (shown_by r) operand s) parts.0 (free_in places r operand moves parts.1) where
  parts : (cannot_start places r operand s ≡ false) × (list_any (cannot_start places r operand) moves ≡ false)
  parts = or_parts (cannot_start places r operand s) (list_any (cannot_start places r operand) moves) none

  by : (o : Option Start) → (is_unread places (shown_by r) s.reading || list_any (is_stopped r) (option_to_list o)) ≡ false
      → list_any (clashes_with r) (filter_map (start_brought places (shown_by r) operand) moves) ≡ false
      → list_any (clashes_with r) (cons_option o (filter_map (start_brought places (shown_by r) operand) moves)) ≡ false
  by None here rest = rest
  by (Some t) here rest =
      let stops = (or_parts (is_unread places (shown_by r) s.reading) (list_any (is_stopped r) (t ∷ [])) here).1 in
      let clash = (or_parts (lacks_operand t) (clashes_with r t) (or_parts (is_stopped r t) false stops).0).1 in
      or_from (clashes_with r t) (list_any (clashes_with r) (filter_map (start_brought places (shown_by r) operand) moves)) clash rest

-- where none is stopped, no result would be due at the time of another
pub none_stopped : (places : List (Option ℕ)) (r : Results) (operand : ℕ → Option ℕ) (moves : List DecodedStart) (can : Bool)
    → can ≡ not (list_any (cannot_start places r operand) moves) → can ≡ true → list_any (clashes_with r) (filter_map (start_brought places (shown_by r) operand) moves) ≡ false
none_stopped places r operand moves can is could = free_in places r operand moves (not-true (list_any (cannot_start places r operand) moves) (sym is ∙ could))

-- what was noted of a line's writes is what they bring, where all of them can be read
pub are_noted : (places : List (Option ℕ)) (r : Results) (l : Line) (noted : List Write) (ws : List DecodedWrite) (read : Bool) → ws ≡ l.writes
    → read ≡ not (list_any (λ w. is_unread places (shown_by r) w.reading) ws)
    → (read ≡ true → noted ≡ filter_map (write_brought places (shown_by r)) ws) → AreNoted places (shown_by r) l noted
are_noted places r l noted ws read ws_are reads brings = λ could.
    let all : read ≡ true = reads ∙ ap (λ xs. not (list_any (λ w. is_unread places (shown_by r) w.reading) xs)) ws_are ∙ ap not could in
    brings all ∙ ap (filter_map (write_brought places (shown_by r))) ws_are

module _ (places : List (Option ℕ)) (r : Results) (p : Bool) (l : Line) (noted writes : List Write) (ws : List DecodedWrite)
    (ws_are : ws ≡ l.writes) (writes_are : noted ≡ writes) (read : Bool)
    (reads : read ≡ not (list_any (λ w. is_unread places (shown_by r) w.reading) ws)) (could : read ≡ true)
    (brings : read ≡ true → writes ≡ filter_map (write_brought places (shown_by r)) ws) where
  pub noted_are : noted ≡ filter_map (write_brought places (shown_by r)) l.writes
  noted_are = writes_are ∙ brings could ∙ ap (filter_map (write_brought places (shown_by r))) ws_are

  -- a line whose writes could be read
  pub ready_with : (ss : List DecodedStart) → ss ≡ l.starts → (can : Bool) → can ≡ not (list_any (cannot_start places r (operand_in places noted)) ss)
      → is_ready places r p l ≡ (can && controls_well places (shown_by r) p l.controls)
  ready_with ss ss_are can can_is =
      let written = filter_map (write_brought places (shown_by r)) l.writes in
      let acting = controls_well places (shown_by r) p l.controls in
      let all : not (list_any (λ w. is_unread places (shown_by r) w.reading) l.writes) ≡ true =
      ap (λ xs. not (list_any (λ w. is_unread places (shown_by r) w.reading) xs)) (sym ws_are) ∙ sym reads ∙ could in
      ap (λ b. b && (not (list_any (cannot_start places r (operand_in places written)) l.starts) && acting)) all
      ∙ ap (λ xs. not (list_any (cannot_start places r (operand_in places xs)) l.starts) && acting) (sym noted_are)
      ∙ ap (λ xs. not (list_any (cannot_start places r (operand_in places noted)) xs) && acting) (sym ss_are) ∙ ap (λ b. b && acting) (sym can_is)
