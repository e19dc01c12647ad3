-- Words that are written one by one.
use Rattle.std.proofs.Common.{◌≡◌, ◌<◌, ◌≤◌, ◌+◌, ◌-◌, ℕ, zero, suc, true, List, [], ◌∷◌, ◌++◌, length, drop, get_or, Option, refl, ap, sym, ◌∙◌, subst, arith}
use Rattle.std.specs.Prelude.{fold}
use Rattle.std.proofs.lemmas.List.{drop_more, length-set}
use Rattle.tta_sim.specs.Cited.{Op, Ldw, Stw, Ldf, Stf, Out, Take, Set, Place, KeptRa, Written, Start, operand_word, store_data, store_frame}
use Rattle.tta_sim.specs.declared.lines.Write.{Write}
use Rattle.tta_sim.specs.Places.{HasWritten, is_place, number_of}
use Rattle.tta_sim.specs.Writing.{numbered, numbered_one, ArePlaces}

-- ---- spaces

length-store_data : (words : List ℕ) (t : Start) → length (store_data words t) ≡ length words
length-store_data words t = by t.does.op where
  by : (o : Op) → length (store_data words (record t { does = record t.does { op = o } })) ≡ length words
  by Ldw = refl
  by Stw = length-set words (operand_word t) t.word
  by Ldf = refl
  by Stf = refl
  by Out = refl
  by Take = refl
  by (Set id) = refl

length-store_frame : (words : List ℕ) (t : Start) → length (store_frame words t) ≡ length words
length-store_frame words t = by t.does.op where
  by : (o : Op) → length (store_frame words (record t { does = record t.does { op = o } })) ≡ length words
  by Ldw = refl
  by Stw = refl
  by Ldf = refl
  by Stf = length-set words (operand_word t) t.word
  by Out = refl
  by Take = refl
  by (Set id) = refl

-- stores leave a space as large as it was
pub length-stored : (words : List ℕ) (starts : List Start) → length (fold store_data words starts) ≡ length words
length-stored words [] = refl
length-stored words (t ∷ starts) = length-stored (store_data words t) starts ∙ length-store_data words t

pub length-stored_frame : (words : List ℕ) (starts : List Start) → length (fold store_frame words starts) ≡ length words
length-stored_frame words [] = refl
length-stored_frame words (t ∷ starts) = length-stored_frame (store_frame words t) starts ∙ length-store_frame words t

-- ---- writes by number

get_or-numbered : (new : Written) (k : ℕ) (d : Write) (e : Place × ℕ) → k < length new → get_or (numbered new) k d ≡ numbered_one (get_or new k e)
get_or-numbered [] k d e within = absurd (omega (arith, within))
get_or-numbered (w ∷ new) zero d e within = refl
get_or-numbered (w ∷ new) (suc k) d e within = get_or-numbered new k d e (omega (arith, within))

place_at : (new : Written) (k : ℕ) (e : Place × ℕ) → ArePlaces new → k < length new → is_place (get_or new k e).0 ≡ true
place_at [] k e there within = absurd (omega (arith, within))
place_at (w ∷ new) zero e there within = there.0
place_at (w ∷ new) (suc k) e there within = place_at new k e there.1 (omega (arith, within))

length-numbered : (new : Written) → length (numbered new) ≡ length new
length-numbered [] = refl
length-numbered (w ∷ new) = ap suc (length-numbered new)

-- a write comes before those after it
pub written_next : (writes : List Write) (i : ℕ) (d : Write) (rows now : List (Option ℕ)) (new old : Written) → 0 < i → i ≤ length writes → writes ≡ numbered new → ArePlaces new
    → ((p : Place) (ws : Written) → is_place p ≡ true → number_of p ≡ (get_or writes (i - 1) d).place → HasWritten rows ws → HasWritten now ((p, (get_or writes (i - 1) d).word) ∷ ws))
    → HasWritten rows (drop i new ++ old) → HasWritten now (drop (i - 1) new ++ old)
written_next writes i d rows now new old some within are there sets had =
    let e : Place × ℕ = (KeptRa, 0) in
    let x = get_or new (i - 1) e in
    let inside : i - 1 < length new = omega (arith, some, within, ap length are, length-numbered new) in
    let next : i - 1 + 1 ≡ i = omega (arith, some) in
    let parts : drop (i - 1) new ≡ x ∷ drop i new = drop_more new (i - 1) e inside ∙ ap (λ n. x ∷ drop n new) next in
    let w : get_or writes (i - 1) d ≡ numbered_one x = ap (λ ws. get_or ws (i - 1) d) are ∙ get_or-numbered new (i - 1) d e inside in
    let puts = sets x.0 (drop i new ++ old) (place_at new (i - 1) e there inside) (sym (ap (λ w. w.place) w)) had in
    subst (λ ws. HasWritten now (ws ++ old)) (sym parts) (subst (λ n. HasWritten now ((x.0, n) ∷ (drop i new ++ old))) (ap (λ w. w.word) w) puts)
