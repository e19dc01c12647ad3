-- A line in order that takes words which are all set can be carried out.
use Rattle.std.proofs.Common.{◌≡◌, ◌<◌, ◌+◌, ◌==◌, ◌&&◌, ◌||◌, not, ℕ, zero, suc, Bool, true, false, IsTrue, List, [], ◌∷◌, length, Option, None, Some, refl, ap, ◌∙◌, arith}
use Rattle.std.specs.Prelude.{is_some, is_none, nat_lt, nat_le, option_map, option_to_list, slice_index_or, if◌then◌else◌}
use Rattle.std.specs.Option.{option_or, option_map_or}
use Rattle.std.specs.List.{filter_map, cons_option, find, list_any, list_all, AllByRecursion}
use Rattle.std.proofs.lemmas.Bool.{and_parts, and_from, or_parts, or_from, not-true, ltb-true}
use Rattle.tta_sim.specs.Cited.{KeptOperand, Start, are_different, has_result, first_some, lacks_operand, later_in}
use Rattle.tta_sim.specs.declared.decoded.DecodedGuard.{DecodedGuard}
use Rattle.tta_sim.specs.declared.decoded.Reading.{Reading}
use Rattle.tta_sim.specs.declared.decoded.DecodedWrite.{DecodedWrite}
use Rattle.tta_sim.specs.declared.decoded.DecodedStart.{DecodedStart}
use Rattle.tta_sim.specs.declared.decoded.DecodedControl.{DecodedControl}
use Rattle.tta_sim.specs.declared.decoded.Line.{Line}
use Rattle.tta_sim.specs.declared.lines.Write.{Write}
use Rattle.tta_sim.specs.declared.store.Store.{Store}
use Rattle.tta_sim.specs.Results.{Results, AreThere, shown_by, due_by, longest_by}
use Rattle.tta_sim.specs.Starts.{started, clashes_with, clashes_at, is_stopped, is_fitting}
use Rattle.tta_sim.specs.Decoded.{is_nil}
use Rattle.tta_sim.specs.Places.{number_of}
use Rattle.tta_sim.specs.Lines.{source_word, is_let, is_unread, word_read, write_brought, start_brought, operand_in, cannot_start, control_brought, is_ready}
use Rattle.tta_sim.specs.Ready.{writes_in, starts_in}
use Rattle.tta_sim.specs.Order.{reads_place, is_touched, reads_written, is_barred, is_late, is_changed, is_in_order}
use Rattle.tta_sim.specs.Known.{is_guard_known, is_known, is_start_known, is_settled}
use Rattle.tta_sim.specs.InPlace.{AreWritten}
use Rattle.tta_sim.proofs.Placed.{read_apart, unfound}

-- all elements that pass a test
all_from : {A : Type 0} (p : A → Bool) (xs : List A) → list_all p xs ≡ true → AllByRecursion (λ x. IsTrue (p x)) xs
all_from p [] all = tt
all_from p (x ∷ xs) all = let parts = and_parts (p x) (list_all p xs) all in (parts.0, all_from p xs parts.1)

-- ---- one move

-- a move that has the words that it takes can be read
known_read : (places : List (Option ℕ)) (shown : ℕ → Option ℕ) (r : Reading) → is_known places shown r ≡ true → is_unread places shown r ≡ false
known_read places shown r known =
    let parts = and_parts (is_guard_known places r.guard) (is_some (source_word places shown r.src)) known in
    or_from (option_map_or (λ g. is_none (slice_index_or places g.place None)) r.guard false) (is_let places r && is_none (source_word places shown r.src))
    (guarded r.guard parts.0)
    (ap (λ b. is_let places r && b) (some_not_none (source_word places shown r.src) parts.1) ∙ none_and (is_let places r))
  where
    some_not_none : (o : Option ℕ) → is_some o ≡ true → is_none o ≡ false
    some_not_none None some = cc
    some_not_none (Some x) some = refl

    none_and : (b : Bool) → (b && false) ≡ false
    none_and true = refl
    none_and false = refl

    guarded : (o : Option DecodedGuard) → is_guard_known places o ≡ true → option_map_or (λ g. is_none (slice_index_or places g.place None)) o false ≡ false
    guarded None known = refl
    guarded (Some g) known = some_not_none (slice_index_or places g.place None) known

-- a place that none of these writes is as before
module _ (places now : List (Option ℕ)) (shown : ℕ → Option ℕ) (writes : List DecodedWrite) (are : AreWritten places (filter_map (write_brought places shown) writes) now) where
  apart_from : (r : Reading) (n : ℕ) → reads_place n r ≡ true → (ws : List DecodedWrite) → reads_written ws r ≡ false → AllByRecursion (λ a. (a.place == n) ≡ false) ws
  apart_from r n reads [] none = tt
  apart_from r n reads (w ∷ ws) none =
      let parts = or_parts (reads_place w.place r) (reads_written ws r) none in
      (read_apart r w.place n parts.0 reads, apart_from r n reads ws parts.1)

  pub unwritten : (r : Reading) → reads_written writes r ≡ false → (n : ℕ) → reads_place n r ≡ true → slice_index_or now n None ≡ slice_index_or places n None
  unwritten r none n reads =
      are n ∙ ap (λ o. option_or (option_map (λ w. w.word) o) (slice_index_or places n None)) (unfound places shown n writes (apart_from r n reads writes none))

-- ---- a line

-- What holds of a line in order.
pub record Ordered (l : Line) : Type 0 where
  pub touched : are_different is_touched l.writes ≡ true
  pub barred : are_different is_barred l.starts ≡ true
  pub late : list_any (is_late l.writes) l.starts ≡ false
  pub changed : list_any (is_changed l.writes l.starts) l.controls ≡ false

pub ordered : (l : Line) → is_in_order l ≡ true → Ordered l
ordered l order =
    let one = and_parts (are_different is_touched l.writes) _ order in
    let two = and_parts (are_different is_barred l.starts) _ one.1 in
    let three = and_parts (not (list_any (is_late l.writes) l.starts)) (not (list_any (is_changed l.writes l.starts) l.controls)) two.1 in
    record {
      touched = one.0;
      barred = two.0;
      late = not-true (list_any (is_late l.writes) l.starts) three.0;
      changed = not-true (list_any (is_changed l.writes l.starts) l.controls) three.1;
    }

-- What holds of a line all of whose words are set.
pub record AllKnown (places : List (Option ℕ)) (shown : ℕ → Option ℕ) (l : Line) : Type 0 where
  pub writes : AllByRecursion (λ w. IsTrue (is_known places shown w.reading)) l.writes
  pub starts : AllByRecursion (λ s. IsTrue (is_start_known places shown s)) l.starts
  pub controls : AllByRecursion (λ t. IsTrue (is_known places shown t.reading)) l.controls

pub all_known : (places : List (Option ℕ)) (shown : ℕ → Option ℕ) (l : Line) → is_settled places shown l ≡ true → AllKnown places shown l
all_known places shown l settled =
    let one = and_parts (list_all (λ w. is_known places shown w.reading) l.writes) _ settled in
    let two = and_parts (list_all (is_start_known places shown) l.starts) (list_all (λ t. is_known places shown t.reading) l.controls) one.1 in
    record {
      writes = all_from (λ w. is_known places shown w.reading) l.writes one.0;
      starts = all_from (is_start_known places shown) l.starts two.0;
      controls = all_from (λ t. is_known places shown t.reading) l.controls two.1;
    }

-- ---- operations that are free

-- no operation clashes where nothing is to come
pub still_free : (r : Results) (ts : List Start) → AreThere r → AllByRecursion (λ t. IsTrue (is_fitting r t)) ts
    → ((unit past : ℕ) → unit < length r.rings.rings → later_in r.rings unit past ≡ None) → list_any (clashes_with r) ts ≡ false
still_free r [] there fit none = refl
still_free r (t ∷ ts) there fit none = or_from (clashes_with r t) (list_any (clashes_with r) ts) one (still_free r ts there fit.1 none) where
  parts : (nat_lt t.unit r.units ≡ true) × ((not (has_result t.does.op) || (nat_lt 0 t.does.latency && nat_le t.does.latency (longest_by r t.unit))) ≡ true)
  parts = and_parts (nat_lt t.unit r.units) (not (has_result t.does.op) || (nat_lt 0 t.does.latency && nat_le t.does.latency (longest_by r t.unit))) fit.0

  nothing : (d : ℕ) → nat_lt 0 d ≡ true → due_by r t.unit d ≡ None
  nothing zero some = cc
  nothing (suc past) some = none (r.base + t.unit) past (omega (arith, ltb-true t.unit r.units parts.0, there.there))

  one : clashes_with r t ≡ false
  one = by (has_result t.does.op) parts.1 where
    by : (b : Bool) → (not b || (nat_lt 0 t.does.latency && nat_le t.does.latency (longest_by r t.unit))) ≡ true → (b && is_some (due_by r t.unit t.does.latency)) ≡ false
    by true fits = ap is_some (nothing t.does.latency (and_parts (nat_lt 0 t.does.latency) (nat_le t.does.latency (longest_by r t.unit)) fits).0)
    by false fits = refl

-- nor does one whose move was asked for
pub asked_free : (r : Results) (places : List (Option ℕ)) (operand : ℕ → Option ℕ) (ss : List DecodedStart) → list_any (λ s. clashes_at r s.unit s.does) ss ≡ false
    → list_any (clashes_with r) (filter_map (start_brought places (shown_by r) operand) ss) ≡ false
asked_free r places operand [] none = refl
asked_free r places operand (s ∷ ss) none =
    let parts = or_parts (clashes_at r s.unit s.does) (list_any (λ s. clashes_at r s.unit s.does) ss) none in
    by (word_read places (shown_by r) s.reading) parts.0 (asked_free r places operand ss parts.1)
  where
    by : (o : Option ℕ) → clashes_at r s.unit s.does ≡ false → list_any (clashes_with r) (filter_map (start_brought places (shown_by r) operand) ss) ≡ false
        → list_any (clashes_with r) (cons_option (option_map (started operand s.unit s.does) o) (filter_map (start_brought places (shown_by r) operand) ss)) ≡ false
    by None here rest = rest
    by (Some word) here rest = or_from (clashes_at r s.unit s.does) _ here rest

-- ---- a line that can be carried out

module _ (store : Store) (r : Results) (l : Line) (known : AllKnown store.places (shown_by r) l) where
  -- the words to write, and the operations that start
  abbrev pub its_writes : List Write
  its_writes = writes_in store r l

  abbrev pub its_starts : List Start
  its_starts = starts_in store r its_writes l.starts

  writes_read : (ws : List DecodedWrite) → AllByRecursion (λ w. IsTrue (is_known store.places (shown_by r) w.reading)) ws
      → list_any (λ w. is_unread store.places (shown_by r) w.reading) ws ≡ false
  writes_read [] all = refl
  writes_read (w ∷ ws) all = or_from _ _ (known_read store.places (shown_by r) w.reading all.0) (writes_read ws all.1)

  controls_read : (ts : List DecodedControl) → AllByRecursion (λ t. IsTrue (is_known store.places (shown_by r) t.reading)) ts
      → list_any (λ t. is_unread store.places (shown_by r) t.reading) ts ≡ false
  controls_read [] all = refl
  controls_read (t ∷ ts) all = or_from _ _ (known_read store.places (shown_by r) t.reading all.0) (controls_read ts all.1)

  abbrev operand : ℕ → Option ℕ
  operand = operand_in store.places its_writes

  -- an operand that is set is there once the words are written
  operand_there : (s : DecodedStart) → is_start_known store.places (shown_by r) s ≡ true → is_none (if s.does.arity == 2 then operand s.unit else Some 0) ≡ false
  operand_there s all = by (s.does.arity == 2) (and_parts (is_known store.places (shown_by r) s.reading) _ all).1 where
    either_way : (a b : Option ℕ) → is_some b ≡ true → is_none (option_or a b) ≡ false
    either_way None None some = cc
    either_way None (Some x) some = refl
    either_way (Some x) b some = refl

    by : (b : Bool) → (not b || is_some (slice_index_or store.places (number_of (KeptOperand s.unit)) None)) ≡ true → is_none (if b then operand s.unit else Some 0) ≡ false
    by true some = either_way (option_map (λ w. w.word) (find (λ w. w.place == number_of (KeptOperand s.unit)) its_writes)) (slice_index_or store.places (number_of (KeptOperand s.unit)) None) some
    by false some = refl

  starts_start : (ss : List DecodedStart) → AllByRecursion (λ s. IsTrue (is_start_known store.places (shown_by r) s)) ss
      → list_any (clashes_with r) (filter_map (start_brought store.places (shown_by r) operand) ss) ≡ false
      → list_any (cannot_start store.places r operand) ss ≡ false
  starts_start [] all free = refl
  starts_start (s ∷ ss) all free = by (word_read store.places (shown_by r) s.reading) free (starts_start ss all.1) where
    unread : is_unread store.places (shown_by r) s.reading ≡ false
    unread = known_read store.places (shown_by r) s.reading (and_parts (is_known store.places (shown_by r) s.reading) _ all.0).0

    by : (o : Option ℕ)
        → list_any (clashes_with r) (cons_option (option_map (started operand s.unit s.does) o) (filter_map (start_brought store.places (shown_by r) operand) ss)) ≡ false
        → (list_any (clashes_with r) (filter_map (start_brought store.places (shown_by r) operand) ss) ≡ false → list_any (cannot_start store.places r operand) ss ≡ false)
        → ((is_unread store.places (shown_by r) s.reading || list_any (is_stopped r) (option_to_list (option_map (started operand s.unit s.does) o))) || list_any (cannot_start store.places r operand) ss) ≡ false
    by None free rest = or_from _ _ (or_from _ _ unread refl) (rest free)
    by (Some word) free rest =
        let t : Start = started operand s.unit s.does word in
        let parts = or_parts (clashes_with r t) (list_any (clashes_with r) (filter_map (start_brought store.places (shown_by r) operand) ss)) free in
        or_from _ _ (or_from _ _ unread (or_from (is_stopped r t) false (or_from (lacks_operand t) (clashes_with r t) (operand_there s all.0) parts.0) refl)) (rest parts.1)

  controls_can : (is_pending : Bool) (ts : List DecodedControl) → (is_nil ts || not is_pending) ≡ true
      → (is_pending && is_some (first_some (control_brought store.places (shown_by r)) ts)) ≡ false
  controls_can false ts free = refl
  controls_can true [] free = refl
  controls_can true (t ∷ ts) free = grind (arith, free)

  -- it is ready
  pub settled_ready : (is_pending : Bool) → list_any (clashes_with r) its_starts ≡ false → (is_nil l.controls || not is_pending) ≡ true
      → is_ready store.places r is_pending l ≡ true
  settled_ready is_pending free controls =
      and_from _ _ (ap not (writes_read l.writes known.writes))
      (and_from _ _ (ap not (starts_start l.starts known.starts free))
      (and_from _ _ (ap not (controls_read l.controls known.controls)) (ap not (controls_can is_pending l.controls controls))))
