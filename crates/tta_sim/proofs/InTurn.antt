-- Operations that start one after another, where none reads what one before it shows and a store is the last.
use Rattle.std.proofs.Common.{◌≡◌, ◌<◌, ◌+◌, ◌==◌, ◌&&◌, ◌||◌, not, ℕ, Bool, true, false, IsTrue, List, [], ◌∷◌, ◌++◌, length, map, take, drop, get_or, Option, None, Some, refl, ap, sym, ◌∙◌, subst}
use Rattle.std.specs.Prelude.{is_some, fold, option_map, option_to_list, slice_index_or, if◌then◌else◌}
use Rattle.std.specs.Option.{option_or}
use Rattle.std.specs.List.{filter_map, cons_option, list_any, AllByRecursion}
use Rattle.std.proofs.lemmas.Bool.{and_parts, and_from, or_parts, not-true, ltb-true}
use Rattle.std.proofs.lemmas.List.{append-nil, drop_more, map-append, take_more, take-append-drop}
use Rattle.std.proofs.lemmas.List.Elements.{filter_map-append}
use Rattle.std.proofs.lemmas.List.Sums.{fold-append}
use Rattle.tta_list.proofs.Tests.{equal_is, none_from_is_some}
use Rattle.tta_sim.specs.Cited.{Units, Op, Ldw, Stw, Ldf, Stf, Out, Take, Set, are_different, KeptOperand, Start, has_result, result_word, store_data, store_frame, Rings, due_at, word_due}
use Rattle.tta_sim.specs.declared.decoded.DecodedSource.{DecodedSource}
use Rattle.tta_sim.specs.declared.decoded.DecodedSource.TheVariants as decoded
use Rattle.tta_sim.specs.declared.decoded.DecodedStart.{DecodedStart}
use Rattle.tta_sim.specs.declared.dues.Due.{Due}
use Rattle.tta_sim.specs.declared.store.Store.{Store}
use Rattle.tta_sim.specs.Results.{Results, AreThere, shown_by, due_by}
use Rattle.tta_sim.specs.Starts.{started}
use Rattle.tta_sim.specs.Lines.{is_source_there, is_reading_there, is_start_there, word_read, start_brought, operand_in}
use Rattle.tta_sim.specs.Dues.{due_with, shows, shown_from, started_at, IsFittingDue, CanAllBegin}
use Rattle.tta_sim.specs.Places.{number_of}
use Rattle.tta_sim.specs.Order.{is_port_at, is_store, is_shown_to, is_barred}
use Rattle.tta_sim.specs.Known.{is_known, is_start_known}
use Rattle.tta_sim.specs.InPlace.{CanStart, StartsNow, AreStarted}
use Rattle.tta_sim.proofs.Ahead.{at_one, one_started, can_start}
use Rattle.tta_sim.proofs.Beginning.{apart_at, all_at, no_result}
use Rattle.tta_sim.proofs.Lists.{filter_map-more, filter_map-one}
use Rattle.tta_sim.proofs.Placed.{read_same, known_same}

-- ---- an element in the midst of a list

all_mid : {A : Type 0} (P : A → Type 0) (xs : List A) (d : A) (ys : List A) → AllByRecursion P (xs ++ d ∷ ys) → P d
all_mid P [] d ys all = all.0
all_mid P (x ∷ xs) d ys all = all_mid P xs d ys all.1

any_mid : {A : Type 0} (p : A → Bool) (xs : List A) (d : A) (ys : List A) → list_any p (xs ++ d ∷ ys) ≡ false → p d ≡ false
any_mid p [] d ys none = (or_parts (p d) (list_any p ys) none).0
any_mid p (x ∷ xs) d ys none = any_mid p xs d ys (or_parts (p x) (list_any p (xs ++ d ∷ ys)) none).1

apart_mid : {A : Type 0} (same : A → A → Bool) (xs : List A) (d : A) (ys : List A) → are_different same (xs ++ d ∷ ys) ≡ true → AllByRecursion (λ a. same a d ≡ false) xs
apart_mid same [] d ys apart = tt
apart_mid same (x ∷ xs) d ys apart =
    let parts = and_parts (not (list_any (same x) (xs ++ d ∷ ys))) (are_different same (xs ++ d ∷ ys)) apart in
    (any_mid (same x) xs d ys (not-true (list_any (same x) (xs ++ d ∷ ys)) parts.0), apart_mid same xs d ys parts.1)

-- ---- one operation

-- an operation that shows a result stores nothing, and one that does not store leaves both spaces
stores_none : (t : Start) → is_store t.does.op ≡ false → (words : List ℕ) → (store_data words t ≡ words) × (store_frame words t ≡ words)
stores_none t none words = by t.does.op none where
  by : (o : Op) → is_store o ≡ false → (store_data words (record t { does = record t.does { op = o } }) ≡ words) × (store_frame words (record t { does = record t.does { op = o } }) ≡ words)
  by Ldw none = (refl, refl)
  by Stw none = cc
  by Ldf none = (refl, refl)
  by Stf none = cc
  by Out none = (refl, refl)
  by Take none = (refl, refl)
  by (Set id) none = (refl, refl)

-- a source that is a port is one of a unit that is there
pub port_there : (units unit : ℕ) (src : DecodedSource) → is_source_there units src ≡ true → is_port_at unit src ≡ true → unit < units
port_there units unit (decoded.Word word) there is = cc
port_there units unit (decoded.Place number) there is = cc
port_there units unit (decoded.Port u) there is = subst (λ n. n < units) (equal_is u unit is) (ltb-true u units there)

-- a start whose result does not show at the port that a move reads
pub hidden : (src : DecodedSource) (unit : ℕ) (a : DecodedStart) → is_port_at unit src ≡ true → (a.does.latency == 1 && is_port_at a.unit src) ≡ false
    → (a.does.latency == 1 && a.unit == unit) ≡ false
hidden src unit a port apart = elim (a.unit == unit) as (λ b. (a.unit == unit) ≡ b → (a.does.latency == 1 && b) ≡ false) [
  | true ↦ λ is.
      let reads : is_port_at a.unit src ≡ true = ap (λ n. is_port_at n src) (equal_is a.unit unit is) ∙ port in
      sym (ap (λ b. a.does.latency == 1 && b) reads) ∙ apart
  | false ↦ λ is. none_and (a.does.latency == 1)
] refl where
  none_and : (b : Bool) → (b && false) ≡ false
  none_and true = refl
  none_and false = refl

module _ (U : Units) (memory frame : List ℕ) (places : List (Option ℕ)) (shown : ℕ → Option ℕ) where
  -- the operations that moves start, and the results that these show
  abbrev pub begun_by : DecodedStart → Option Start
  begun_by = start_brought places shown (operand_in places [])

  abbrev pub dues_of : List DecodedStart → List Due
  dues_of ss = filter_map (shows U memory frame 0) (filter_map begun_by ss)

  -- starts that do not show at a port
  pub unseen : (now unit : ℕ) (ss : List DecodedStart) → AllByRecursion (λ a. (a.does.latency == 1 && a.unit == unit) ≡ false) ss
      → due_at unit (now + 1) (map (started_at now) (dues_of ss)) ≡ None
  unseen now unit [] none = refl
  unseen now unit (s ∷ ss) none = by (word_read places shown s.reading) (unseen now unit ss none.1) where
    here : (s.unit == unit && now + s.does.latency == now + 1) ≡ false
    here = ap (λ b. s.unit == unit && b) (at_one now s.does.latency) ∙ turned (s.does.latency == 1) (s.unit == unit) none.0 where
      turned : (a b : Bool) → (a && b) ≡ false → (b && a) ≡ false
      turned true true is = is
      turned true false is = refl
      turned false true is = refl
      turned false false is = refl

    by : (o : Option ℕ) → due_at unit (now + 1) (map (started_at now) (dues_of ss)) ≡ None
        → due_at unit (now + 1) (map (started_at now) (filter_map (shows U memory frame 0) (cons_option (option_map (started (operand_in places []) s.unit s.does) o) (filter_map begun_by ss)))) ≡ None
    by None rest = rest
    by (Some word) rest =
        let t : Start = started (operand_in places []) s.unit s.does word in
        elim (has_result s.does.op) as (λ b. due_at unit (now + 1) (map (started_at now) (cons_option (if b then Some (due_with t (result_word U memory frame 0 t t.does.op)) else None) (dues_of ss))) ≡ None) [
          | true ↦ ap (λ b. if b then Some (started_at now (due_with t (result_word U memory frame 0 t t.does.op))) else due_at unit (now + 1) (map (started_at now) (dues_of ss))) here ∙ rest
          | false ↦ rest
        ]

  -- starts of which none stores
  stored_none : (ss : List DecodedStart) → AllByRecursion (λ a. is_store a.does.op ≡ false) ss → (words : List ℕ)
      → (fold store_data words (filter_map begun_by ss) ≡ words) × (fold store_frame words (filter_map begun_by ss) ≡ words)
  stored_none [] none words = (refl, refl)
  stored_none (s ∷ ss) none words = by (word_read places shown s.reading) (stored_none ss none.1 words) where
    by : (o : Option ℕ) → (fold store_data words (filter_map begun_by ss) ≡ words) × (fold store_frame words (filter_map begun_by ss) ≡ words)
        → (fold store_data words (cons_option (option_map (started (operand_in places []) s.unit s.does) o) (filter_map begun_by ss)) ≡ words)
        × (fold store_frame words (cons_option (option_map (started (operand_in places []) s.unit s.does) o) (filter_map begun_by ss)) ≡ words)
    by None rest = rest
    by (Some word) rest =
        let t : Start = started (operand_in places []) s.unit s.does word in
        let one = stores_none t none.0 words in
        (ap (λ ws. fold store_data ws (filter_map begun_by ss)) one.0 ∙ rest.0, ap (λ ws. fold store_frame ws (filter_map begun_by ss)) one.1 ∙ rest.1)

  dues_append : (ss ts : List DecodedStart) → dues_of (ss ++ ts) ≡ dues_of ss ++ dues_of ts
  dues_append ss ts =
      ap (filter_map (shows U memory frame 0)) (filter_map-append begun_by ss ts) ∙ filter_map-append (shows U memory frame 0) (filter_map begun_by ss) (filter_map begun_by ts)

-- ---- the next start

module _ (U : Units) (store : Store) (r : Results) (there : AreThere r) (starts : List DecodedStart) (k : ℕ) (z s : DecodedStart) (within : k < length starts)
    (at : s ≡ get_or starts k z) (order : are_different is_barred starts ≡ true) (here : Store) (same : here.places ≡ store.places)
    (words : here.memory.items ≡ fold store_data store.memory.items (filter_map (start_brought store.places (shown_by r) (operand_in store.places [])) (take k starts)))
    (others : here.frame.items ≡ fold store_frame store.frame.items (filter_map (start_brought store.places (shown_by r) (operand_in store.places [])) (take k starts)))
    (region : Rings)
    (was : (now : ℕ) → AreStarted now r (map (started_at now) (dues_of U store.memory.items store.frame.items store.places (shown_by r) (take k starts))) region)
    (start_there : is_start_there r.units s ≡ true) where
  abbrev all : List DecodedStart → List Due
  all = dues_of U store.memory.items store.frame.items store.places (shown_by r)

  abbrev brought : DecodedStart → Option Start
  brought = start_brought store.places (shown_by r) (operand_in store.places [])

  -- the results as they are before it
  abbrev then_shown : ℕ → Option ℕ
  then_shown = shown_by (record r { rings = region })

  abbrev brought_here : Option Start
  brought_here = start_brought here.places then_shown (operand_in here.places []) s

  barred : AllByRecursion (λ a. is_barred a s ≡ false) (take k starts)
  barred = subst (λ x. AllByRecursion (λ a. is_barred a x ≡ false) (take k starts)) (sym at) (apart_at is_barred starts k z order within)

  reading_there : is_reading_there r.units s.reading ≡ true
  reading_there = (and_parts (is_reading_there r.units s.reading) _ start_there).0

  source_is_there : is_source_there r.units s.reading.src ≡ true
  source_is_there = (and_parts _ (is_source_there r.units s.reading.src) reading_there).1

  no_store : (xs : List DecodedStart) → AllByRecursion (λ a. is_barred a s ≡ false) xs → AllByRecursion (λ a. is_store a.does.op ≡ false) xs
  no_store [] none = tt
  no_store (a ∷ xs) none = ((or_parts (is_store a.does.op) (is_shown_to a s.reading) none.0).0, no_store xs none.1)

  not_seen : (unit : ℕ) → is_port_at unit s.reading.src ≡ true → (xs : List DecodedStart) → AllByRecursion (λ a. is_barred a s ≡ false) xs
      → AllByRecursion (λ a. (a.does.latency == 1 && a.unit == unit) ≡ false) xs
  not_seen unit port [] none = tt
  not_seen unit port (a ∷ xs) none =
      (hidden s.reading.src unit a port (or_parts (is_store a.does.op) (is_shown_to a s.reading) none.0).1, not_seen unit port xs none.1)

  ports_same : (unit : ℕ) → is_port_at unit s.reading.src ≡ true → then_shown unit ≡ shown_by r unit
  ports_same unit port =
      (was 0).shown unit (port_there r.units unit s.reading.src source_is_there port)
      ∙ ap (λ o. option_or (word_due o) (shown_by r unit))
      (unseen U store.memory.items store.frame.items store.places (shown_by r) 0 unit (take k starts) (not_seen unit port (take k starts) barred))

  places_same : (n : ℕ) → slice_index_or here.places n None ≡ slice_index_or store.places n None
  places_same n = ap (λ ps. slice_index_or ps n None) same

  -- it finds the words of the begin
  pub then_known : AllByRecursion (λ s. IsTrue (is_start_known store.places (shown_by r) s)) starts → is_start_known here.places then_shown s ≡ true
  then_known known =
      let was = subst (λ x. is_start_known store.places (shown_by r) x ≡ true) (sym at)
      (all_at (λ s. IsTrue (is_start_known store.places (shown_by r) s)) starts k z known within) in
      let parts = and_parts (is_known store.places (shown_by r) s.reading) _ was in
      and_from _ _ (known_same s.reading store.places here.places (shown_by r) then_shown (λ n reads. places_same n) ports_same ∙ parts.0)
      (ap (λ o. not (s.does.arity == 2) || is_some o) (places_same (number_of (KeptOperand s.unit))) ∙ parts.1)

  brought_same : brought_here ≡ brought s
  brought_same =
      ap (option_map (started (operand_in here.places []) s.unit s.does)) (read_same s.reading store.places here.places (shown_by r) then_shown (λ n reads. places_same n) ports_same)
      ∙ ap (λ ps. option_map (started (operand_in ps []) s.unit s.does) (word_read store.places (shown_by r) s.reading)) same

  spaces_same : (here.memory.items ≡ store.memory.items) × (here.frame.items ≡ store.frame.items)
  spaces_same =
      let none = no_store (take k starts) barred in (
        words ∙ (stored_none U store.memory.items store.frame.items store.places (shown_by r) (take k starts) none store.memory.items).0,
        others ∙ (stored_none U store.memory.items store.frame.items store.places (shown_by r) (take k starts) none store.frame.items).1,
      )

  -- the results that it shows
  abbrev its : List Due
  its = filter_map (shown_from U 0 store) (option_to_list (brought s))

  its_here : filter_map (shown_from U 0 here) (option_to_list brought_here) ≡ its
  its_here =
      ap (λ o. filter_map (shown_from U 0 here) (option_to_list o)) brought_same
      ∙ ap (λ m. filter_map (shows U m here.frame.items 0) (option_to_list (brought s))) spaces_same.0
      ∙ ap (λ m. filter_map (shows U store.memory.items m 0) (option_to_list (brought s))) spaces_same.1

  its_are : all (s ∷ []) ≡ its
  its_are = ap (filter_map (shown_from U 0 store)) (filter_map-one brought s)

  so_far : all (take (k + 1) starts) ≡ all (take k starts) ++ its
  so_far =
      ap all (take_one ∙ ap (λ x. take k starts ++ x ∷ []) (sym at)) ∙ dues_append U store.memory.items store.frame.items store.places (shown_by r) (take k starts) (s ∷ [])
      ∙ ap (λ ds. all (take k starts) ++ ds) its_are
    where
      take_one : take (k + 1) starts ≡ take k starts ++ get_or starts k z ∷ []
      take_one = take_more starts k z within

  parts : all starts ≡ all (take k starts) ++ (its ++ all (drop (k + 1) starts))
  parts =
      ap all (sym (take-append-drop k starts)) ∙ dues_append U store.memory.items store.frame.items store.places (shown_by r) (take k starts) (drop k starts)
      ∙ ap (λ ds. all (take k starts) ++ ds)
      (ap all (drop_more starts k z within ∙ ap (λ x. x ∷ drop (k + 1) starts) (sym at))
      ∙ dues_append U store.memory.items store.frame.items store.places (shown_by r) (s ∷ []) (drop (k + 1) starts)
      ∙ ap (λ ds. ds ++ all (drop (k + 1) starts)) its_are)

  -- what is known of a result that it shows
  record IsNext (d : Due) : Type 0 where
    fits : IsFittingDue r d
    alone : AllByRecursion (λ a. (a.unit == d.unit) ≡ false) (all (take k starts))
    free : due_by r d.unit d.latency ≡ None

  one_next : (d : Due) (ds : List Due) → its ≡ d ∷ ds → CanAllBegin r (all starts) → IsNext d
  one_next d ds is can =
      let list : all starts ≡ all (take k starts) ++ d ∷ (ds ++ all (drop (k + 1) starts)) =
      parts ∙ ap (λ xs. all (take k starts) ++ (xs ++ all (drop (k + 1) starts))) is in
      let rest = ds ++ all (drop (k + 1) starts) in
      record {
        fits = all_mid (IsFittingDue r) (all (take k starts)) d rest (subst (AllByRecursion (IsFittingDue r)) list can.fitting);
        alone = apart_mid (λ a b. a.unit == b.unit) (all (take k starts)) d rest (sym (ap (are_different (λ a b. a.unit == b.unit)) list) ∙ can.apart);
        free = none_from_is_some (due_by r d.unit d.latency)
            (any_mid (λ d. is_some (due_by r d.unit d.latency)) (all (take k starts)) d rest (sym (ap (list_any (λ d. is_some (due_by r d.unit d.latency))) list) ∙ can.free));
      }

  none_before : (d : Due) → IsNext d → (now due : ℕ) → due_at d.unit due (map (started_at now) (all (take k starts))) ≡ None
  none_before d next now due = no_result now d.unit due (all (take k starts)) next.alone

  -- it can be started
  pub next_can : CanAllBegin r (all starts) → AllByRecursion (CanStart r.base region) (filter_map (shown_from U 0 here) (option_to_list brought_here))
  next_can can = subst (AllByRecursion (CanStart r.base region)) (sym its_here) (by (brought s) refl) where
    one : (d : Due) → its ≡ d ∷ [] → CanStart r.base region d
    one d is = let next = one_next d [] is can in can_start 0 r there _ d next.fits region (was 0) (none_before d next 0) next.free

    by : (o : Option Start) → brought s ≡ o → AllByRecursion (CanStart r.base region) (filter_map (shown_from U 0 store) (option_to_list o))
    by None is = tt
    by (Some t) is = of (shown_from U 0 store t) refl where
      of : (o : Option Due) → shown_from U 0 store t ≡ o → AllByRecursion (CanStart r.base region) (cons_option o [])
      of None at = tt
      of (Some d) at = (one d (ap (λ o. filter_map (shown_from U 0 store) (option_to_list o)) is ∙ ap (λ o. cons_option o []) at), tt)

  -- and one more is started then
  pub next_started : CanAllBegin r (all starts) → (after : Rings) → StartsNow r.base (filter_map (shown_from U 0 here) (option_to_list brought_here)) region after
      → (now : ℕ) → AreStarted now r (map (started_at now) (all (take (k + 1) starts))) after
  next_started can after starts_now now =
      subst (λ ds. AreStarted now r (map (started_at now) ds) after) (sym so_far) (by (brought s) refl (subst (λ ds. StartsNow r.base ds region after) its_here starts_now)) where
        by : (o : Option Start) → brought s ≡ o → StartsNow r.base (filter_map (shown_from U 0 store) (option_to_list o)) region after
            → AreStarted now r (map (started_at now) (all (take k starts) ++ filter_map (shown_from U 0 store) (option_to_list o))) after
        by None is same = nothing same where
          nothing : after ≡ region → AreStarted now r (map (started_at now) (all (take k starts) ++ [])) after
          nothing same = subst (λ ds. AreStarted now r (map (started_at now) ds) after) (sym (append-nil (all (take k starts)))) (subst (λ g. AreStarted now r (map (started_at now) (all (take k starts))) g) (sym same) (was now))
        by (Some t) is begins = of (shown_from U 0 store t) refl begins where
          of : (o : Option Due) → shown_from U 0 store t ≡ o → StartsNow r.base (cons_option o []) region after
              → AreStarted now r (map (started_at now) (all (take k starts) ++ cons_option o [])) after
          of None at same = subst (λ ds. AreStarted now r (map (started_at now) ds) after) (sym (append-nil (all (take k starts)))) (subst (λ g. AreStarted now r (map (started_at now) (all (take k starts))) g) (sym same) (was now))
          of (Some d) at begins =
              let next = one_next d [] (ap (λ o. filter_map (shown_from U 0 store) (option_to_list o)) is ∙ ap (λ o. cons_option o []) at) can in
              subst (λ qs. AreStarted now r qs after) (sym (map-append (started_at now) (all (take k starts)) (d ∷ [])))
              (one_started now r there (map (started_at now) (all (take k starts))) d next.fits region after (was now) begins (none_before d next now))

  -- its word is stored after those before it
  pub next_stored : (fold store_data here.memory.items (option_to_list brought_here) ≡ fold store_data store.memory.items (filter_map brought (take (k + 1) starts)))
      × (fold store_frame here.frame.items (option_to_list brought_here) ≡ fold store_frame store.frame.items (filter_map brought (take (k + 1) starts)))
  next_stored = (
    ap (λ o. fold store_data here.memory.items (option_to_list o)) brought_same ∙ ap (λ m. fold store_data m (option_to_list (brought s))) words
        ∙ sym (fold-append store_data store.memory.items (filter_map brought (take k starts)) (option_to_list (brought s))) ∙ ap (fold store_data store.memory.items) list,
    ap (λ o. fold store_frame here.frame.items (option_to_list o)) brought_same ∙ ap (λ m. fold store_frame m (option_to_list (brought s))) others
        ∙ sym (fold-append store_frame store.frame.items (filter_map brought (take k starts)) (option_to_list (brought s))) ∙ ap (fold store_frame store.frame.items) list,
  ) where
    list : filter_map brought (take k starts) ++ option_to_list (brought s) ≡ filter_map brought (take (k + 1) starts)
    list = filter_map-more brought starts k z (filter_map brought (take k starts)) (filter_map brought (take k starts) ++ option_to_list (brought s)) within refl
        (ap (λ x. filter_map brought (take k starts) ++ option_to_list (brought x)) at)
