-- Words that are written one after another, where none reads or writes what one before it writes.
use Rattle.std.proofs.Common.{◌≡◌, ◌<◌, ◌+◌, ◌==◌, ℕ, Bool, true, false, ◌&&◌, ◌||◌, IsTrue, List, [], ◌∷◌, ◌++◌, length, take, get_or, Option, None, Some, refl, sym, ap, ◌∙◌, subst, arith, true≢false}
use Rattle.std.specs.Prelude.{◌%◌, is_some, option_map, option_to_list, slice_index_or, if◌then◌else◌}
use Rattle.std.specs.Option.{option_or, option_map_or}
use Rattle.std.specs.List.{filter_map, cons_option, find, AllByRecursion}
use Rattle.std.proofs.lemmas.Bool.{or_parts}
use Rattle.std.proofs.lemmas.List.{append-nil}
use Rattle.std.proofs.lemmas.List.Folds.{find-append}
use Rattle.tta_arch.specs.Effects.{same_place}
use Rattle.tta_list.proofs.Tests.{equal_is}
use Rattle.tta_sim.specs.Cited.{Place, Written, KeptReg, KeptImm, KeptOperand, KeptRa, KeptPort, kept, are_different}
use Rattle.tta_sim.specs.declared.decoded.DecodedSource.{DecodedSource}
use Rattle.tta_sim.specs.declared.decoded.DecodedSource.TheVariants as decoded
use Rattle.tta_sim.specs.declared.decoded.DecodedGuard.{DecodedGuard}
use Rattle.tta_sim.specs.declared.decoded.Reading.{Reading}
use Rattle.tta_sim.specs.declared.decoded.DecodedWrite.{DecodedWrite}
use Rattle.tta_sim.specs.declared.lines.Write.{Write}
use Rattle.tta_sim.specs.Lines.{source_word, is_let, lets, word_read, write_brought}
use Rattle.tta_sim.specs.Order.{is_place_at, is_port_at, reads_place, is_touched}
use Rattle.tta_sim.specs.Known.{is_guard_known, is_known}
use Rattle.tta_sim.specs.InPlace.{word_after, AreWritten}
use Rattle.tta_sim.specs.Places.{is_place, number_of, HasWritten}
use Rattle.tta_sim.specs.Writing.{numbered, numbered_one, ArePlaces}
use Rattle.tta_sim.proofs.Beginning.{apart_at, all_at}
use Rattle.tta_sim.proofs.Lists.{filter_map-more}

or_none : {A : Type 0} (o : Option A) → option_or o None ≡ o
or_none None = refl
or_none (Some x) = refl

same_number : (n : ℕ) → (n == n) ≡ true
same_number n = grind arith

-- ---- what a move reads

module _ (r : Reading) (places places' : List (Option ℕ)) (shown shown' : ℕ → Option ℕ)
    (same : (n : ℕ) → reads_place n r ≡ true → slice_index_or places' n None ≡ slice_index_or places n None)
    (ports : (u : ℕ) → is_port_at u r.src ≡ true → shown' u ≡ shown u) where
  source_same : (src : DecodedSource) → r.src ≡ src → source_word places' shown' src ≡ source_word places shown src
  source_same (decoded.Word word) is = refl
  source_same (decoded.Place number) is =
      same number (ap (λ s. option_map_or (λ g. g.place == number) r.guard false || is_place_at number s) is
      ∙ ap (λ b. option_map_or (λ g. g.place == number) r.guard false || b) (same_number number) ∙ or_true (option_map_or (λ g. g.place == number) r.guard false))
    where
      or_true : (b : Bool) → (b || true) ≡ true
      or_true true = refl
      or_true false = refl
  source_same (decoded.Port unit) is = ports unit (ap (is_port_at unit) is ∙ same_number unit)

  guard_same : (o : Option DecodedGuard) → r.guard ≡ o → (f : DecodedGuard → Option ℕ → Bool) (none : Bool)
      → option_map_or (λ g. f g (slice_index_or places' g.place None)) o none ≡ option_map_or (λ g. f g (slice_index_or places g.place None)) o none
  guard_same None is f none = refl
  guard_same (Some g) is f none =
      ap (f g) (same g.place (ap (λ o. option_map_or (λ q. q.place == g.place) o false || is_place_at g.place r.src) is
      ∙ ap (λ b. b || is_place_at g.place r.src) (same_number g.place)))

  let_same : is_let places' r ≡ is_let places r
  let_same = guard_same r.guard refl (λ g o. option_map_or (lets g) o false) true

  -- a move that finds the same words reads the same
  pub read_same : word_read places' shown' r ≡ word_read places shown r
  read_same =
      ap (λ b. if b then source_word places' shown' r.src else None) let_same
      ∙ ap (λ o. if is_let places r then o else None) (source_same r.src refl)

  -- and has the same words
  pub known_same : is_known places' shown' r ≡ is_known places shown r
  known_same =
      ap (λ b. b && is_some (source_word places' shown' r.src)) (guard_same r.guard refl (λ g o. is_some o) true)
      ∙ ap (λ o. is_guard_known places r.guard && is_some o) (source_same r.src refl)

-- ---- what was written

-- a place that none of these writes
pub unfound : (places : List (Option ℕ)) (shown : ℕ → Option ℕ) (n : ℕ) (moves : List DecodedWrite) → AllByRecursion (λ a. (a.place == n) ≡ false) moves
    → find (λ w. w.place == n) (filter_map (write_brought places shown) moves) ≡ None
unfound places shown n [] apart = refl
unfound places shown n (a ∷ moves) apart = by (word_read places shown a.reading) (unfound places shown n moves apart.1) where
  by : (o : Option ℕ) → find (λ w. w.place == n) (filter_map (write_brought places shown) moves) ≡ None
      → find (λ w. w.place == n) (cons_option (option_map {T = ℕ} {U = Write} (λ word. record { place = a.place; word = if a.narrow then word % 2 else word }) o)
      (filter_map (write_brought places shown) moves)) ≡ None
  by None rest = rest
  by (Some word) rest =
      ap (λ b. if b then Some (record { place = a.place; word = if a.narrow then word % 2 else word }) else find (λ w. w.place == n) (filter_map (write_brought places shown) moves)) apart.0
      ∙ rest

swapped : (a b : ℕ) → (a == b) ≡ false → (b == a) ≡ false
swapped a b apart = grind (arith, apart)

-- what a move reads that does not read the place of a write is another place
pub read_apart : (r : Reading) (place n : ℕ) → reads_place place r ≡ false → reads_place n r ≡ true → (place == n) ≡ false
read_apart r place n none some = elim (place == n) as (λ b. (place == n) ≡ b → b ≡ false) [
  | true ↦ λ is. absurd (true≢false (sym some ∙ ap (λ k. reads_place k r) (sym (equal_is place n is)) ∙ none))
  | false ↦ λ is. refl
] refl

-- none of the writes that a move is not touched by writes what it reads
all_apart : (w : DecodedWrite) (n : ℕ) → reads_place n w.reading ≡ true → (moves : List DecodedWrite) → AllByRecursion (λ a. is_touched a w ≡ false) moves
    → AllByRecursion (λ a. (a.place == n) ≡ false) moves
all_apart w n reads [] apart = tt
all_apart w n reads (a ∷ moves) apart =
    (read_apart w.reading a.place n (or_parts (w.place == a.place) (reads_place a.place w.reading) apart.0).1 reads, all_apart w n reads moves apart.1)

-- nor what it writes
own_apart : (w : DecodedWrite) (moves : List DecodedWrite) → AllByRecursion (λ a. is_touched a w ≡ false) moves
    → AllByRecursion (λ a. (a.place == w.place) ≡ false) moves
own_apart w [] apart = tt
own_apart w (a ∷ moves) apart =
    (swapped w.place a.place (or_parts (w.place == a.place) (reads_place a.place w.reading) apart.0).0, own_apart w moves apart.1)

module _ (places : List (Option ℕ)) (shown : ℕ → Option ℕ) (moves : List DecodedWrite) (k : ℕ) (z w : DecodedWrite) (within : k < length moves)
    (at : w ≡ get_or moves k z) (order : are_different is_touched moves ≡ true) (now : List (Option ℕ))
    (was : AreWritten places (filter_map (write_brought places shown) (take k moves)) now) where
  abbrev done : List Write
  done = filter_map (write_brought places shown) (take k moves)

  apart : AllByRecursion (λ a. is_touched a w ≡ false) (take k moves)
  apart = subst (λ x. AllByRecursion (λ a. is_touched a x ≡ false) (take k moves)) (sym at) (apart_at is_touched moves k z order within)

  still : (n : ℕ) → reads_place n w.reading ≡ true → slice_index_or now n None ≡ slice_index_or places n None
  still n reads = was n ∙ ap (λ o. option_or (option_map (λ x. x.word) o) (slice_index_or places n None)) (unfound places shown n (take k moves) (all_apart w n reads (take k moves) apart))

  -- the next move finds the words of the begin
  pub next_known : AllByRecursion (λ w. IsTrue (is_known places shown w.reading)) moves → is_known now shown w.reading ≡ true
  next_known known =
      known_same w.reading places now shown shown still (λ u reads. refl)
      ∙ subst (λ x. is_known places shown x.reading ≡ true) (sym at) (all_at (λ w. IsTrue (is_known places shown w.reading)) moves k z known within)

  brought_same : write_brought now shown w ≡ write_brought places shown w
  brought_same = ap (option_map {T = ℕ} {U = Write} (λ word. record { place = w.place; word = if w.narrow then word % 2 else word })) (read_same w.reading places now shown shown still (λ u reads. refl))

  -- and its word is written beside the others
  pub next_written : (after : List (Option ℕ)) → AreWritten now (option_to_list (write_brought now shown w)) after
      → AreWritten places (filter_map (write_brought places shown) (take (k + 1) moves)) after
  next_written after is = subst (λ ws. AreWritten places ws after) more (λ n. is n ∙ ap (λ o. word_after now (option_to_list o) n) brought_same ∙ joined n) where
    more : done ++ option_to_list (write_brought places shown w) ≡ filter_map (write_brought places shown) (take (k + 1) moves)
    more = filter_map-more (write_brought places shown) moves k z done (done ++ option_to_list (write_brought places shown w)) within refl
        (ap (λ x. done ++ option_to_list (write_brought places shown x)) at)

    joined : (n : ℕ) → word_after now (option_to_list (write_brought places shown w)) n ≡ word_after places (done ++ option_to_list (write_brought places shown w)) n
    joined n = by (word_read places shown w.reading) where
      word_is : ℕ → Write
      word_is word = record { place = w.place; word = if w.narrow then word % 2 else word }

      by : (o : Option ℕ) → word_after now (option_to_list (option_map word_is o)) n ≡ word_after places (done ++ option_to_list (option_map word_is o)) n
      by None = was n ∙ ap (λ ws. word_after places ws n) (sym (append-nil done))
      by (Some word) = elim (w.place == n) as (λ b. (w.place == n) ≡ b
          → option_or (option_map (λ x. x.word) (if b then Some (word_is word) else None)) (slice_index_or now n None) ≡ word_after places (done ++ word_is word ∷ []) n) [
            | true ↦ λ here.
                let none : find (λ x. x.place == n) done ≡ None =
                unfound places shown n (take k moves) (subst (λ m. AllByRecursion (λ a. (a.place == m) ≡ false) (take k moves)) (equal_is w.place n here) (own_apart w (take k moves) apart)) in
                sym (ap (λ o. option_or (option_map (λ x. x.word) o) (slice_index_or places n None))
                (find-append (λ x. x.place == n) done (word_is word ∷ []) ∙ ap (λ o. option_or o (find (λ x. x.place == n) (word_is word ∷ []))) none
                ∙ ap (λ b. if b then Some (word_is word) else None) here))
            | false ↦ λ other.
                was n ∙ sym (ap (λ o. option_or (option_map (λ x. x.word) o) (slice_index_or places n None))
                (find-append (λ x. x.place == n) done (word_is word ∷ [])
                ∙ ap (λ b. option_or (find (λ x. x.place == n) done) (if b then Some (word_is word) else None)) other ∙ or_none (find (λ x. x.place == n) done)))
          ] refl

-- ---- places by their numbers

-- two places have one number exactly where they are one
same_numbers : (p q : Place) → is_place p ≡ true → is_place q ≡ true → (number_of p == number_of q) ≡ same_place p q
same_numbers (KeptReg file index) (KeptReg f i) here there = grind (arith, here, there)
same_numbers (KeptReg file index) (KeptImm u i) here there = grind (arith, here, there)
same_numbers (KeptReg file index) (KeptOperand u) here there = grind (arith, here, there)
same_numbers (KeptReg file index) KeptRa here there = grind (arith, here, there)
same_numbers (KeptImm unit index) (KeptReg f i) here there = grind (arith, here, there)
same_numbers (KeptImm unit index) (KeptImm u i) here there = grind (arith, here, there)
same_numbers (KeptImm unit index) (KeptOperand u) here there = grind (arith, here, there)
same_numbers (KeptImm unit index) KeptRa here there = grind (arith, here, there)
same_numbers (KeptOperand unit) (KeptReg f i) here there = grind (arith, here, there)
same_numbers (KeptOperand unit) (KeptImm u i) here there = grind (arith, here, there)
same_numbers (KeptOperand unit) (KeptOperand u) here there = grind (arith, here, there)
same_numbers (KeptOperand unit) KeptRa here there = grind (arith, here, there)
same_numbers KeptRa (KeptReg f i) here there = grind (arith, here, there)
same_numbers KeptRa (KeptImm u i) here there = grind (arith, here, there)
same_numbers KeptRa (KeptOperand u) here there = grind (arith, here, there)
same_numbers KeptRa KeptRa here there = refl
same_numbers (KeptPort unit) q here there = cc
same_numbers p (KeptPort unit) here there = cc

-- words that are written by number are those that were written last into their places
pub written_places : (old new : List (Option ℕ)) (ws written : Written) → AreWritten old (numbered ws) new → ArePlaces ws → HasWritten old written → HasWritten new (ws ++ written)
written_places old new ws written is placed had = λ p there. is (number_of p) ∙ each p there ws placed where
  each : (p : Place) → is_place p ≡ true → (ws : Written) → ArePlaces ws → word_after old (numbered ws) (number_of p) ≡ kept (ws ++ written) p
  each p there [] placed = had p there
  each p there (w ∷ ws) placed =
      ap (λ b. option_or (option_map (λ x. x.word) (if b then Some (numbered_one w) else find (λ x. x.place == number_of p) (numbered ws))) (slice_index_or old (number_of p) None))
      (same_numbers w.0 p placed.0 there)
      ∙ elim (same_place w.0 p) as (λ b. option_or (option_map (λ x. x.word) (if b then Some (numbered_one w) else find (λ x. x.place == number_of p) (numbered ws))) (slice_index_or old (number_of p) None)
      ≡ (if b then Some w.1 else kept (ws ++ written) p)) [
        | true ↦ refl
        | false ↦ each p there ws placed.1
      ]
