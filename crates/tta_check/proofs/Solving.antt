-- The loop: an entry that waits is carried on, until none waits, and then the table is closed.
use Rattle.std.proofs.Common.{◌≡◌, ℕ, zero, suc, ◌+◌, ◌*◌, ◌≤◌, ◌<◌, Bool, true, false, List, [], ◌∷◌, ◌++◌, length, Option, Some, None, refl, ap, sym, subst, ◌∙◌, ◌⊎◌, inl, inr, arith}
use Rattle.std.specs.Prelude.{◌||◌, replicate, slice_get}
use Rattle.std.proofs.lemmas.Bool.{leb-true}
use Rattle.tta_check.specs.Cited.{Machine, IsMachine, Instruction, Code, effects_of, is_legal, IsLegalCode}
use Rattle.tta_check.specs.declared.state.AbstractState.{AbstractState}
use Rattle.tta_check.specs.declared.entries.EntryTable.{EntryTable}
use Rattle.tta_check.specs.declared.location.Location.{Location}
use Rattle.tta_check.specs.declared.verdict.Verdict.{Verdict}
use Rattle.tta_check.specs.declared.visit.Successor.{Successor}
use Rattle.tta_check.specs.Walks.{first}
use Rattle.tta_check.specs.Verdict.{IsSafe, IsVerdict}
use Rattle.tta_check.specs.ProgramPoints.{ProgramPoint}
use Rattle.tta_check.specs.States.{covers}
use Rattle.tta_check.specs.Going.{point_as}
use Rattle.tta_check.specs.Measures.{greatest_measure}
use Rattle.tta_check.specs.Locations.{HasCodes}
use Rattle.tta_check.specs.Controls.{controller}
use Rattle.tta_check.specs.Visits.{IsActs, IsStays, GoesOn}
use Rattle.tta_check.specs.Tables.{place_at, state_at, Puts, PutBoth, First, Then}
use Rattle.tta_check.specs.Carries.{CanCarry, Carried, Empty, Ended, Went}
use Rattle.tta_check.proofs.Table.{CoveredBy, LeadsOn}
use Rattle.tta_check.proofs.Safe.{closed_safe}
use Rattle.tta_check.proofs.Legal.{are_lone}
use Rattle.tta_check.proofs.Visiting.{IsEntry, IsThere}
use Rattle.tta_check.proofs.Ways.{OneOf, acts_way, stays_way, acts_entry, stays_entry, entry_leads}
use Rattle.tta_check.proofs.Ending.{ends_right}
use Rattle.tta_check.proofs.Coming.{Came, way_came}
use Rattle.tta_check.proofs.Growing.{Found, entry_of, waits, waits_more, waits_new, waits_one, lack, ahead, worklist_more, Moved, stay, move_on, found_on}
use Rattle.tta_check.proofs.Sound.{IsNext, IsSound, IsAfter, all_at, some_after, some_ends, puts_moved, puts_sound, puts_found}
use Rattle.tta_list.proofs.Tests.{and_left as and_one}
use Rattle.tta_code.proofs.Rooms.{room_few}
use Rattle.tta_list.proofs.Lists.{map_count}

-- what code is asked for: it is legal, and these are the places that it writes
pub record IsGiven (m : Machine) (code : Code) (locations : List Location) : Type 0 where
  pub rules : IsMachine m
  pub legal : IsLegalCode m code
  pub has : HasCodes m code.words locations

-- an entry leads on
abbrev pub Leads : Machine → Code → EntryTable → Successor → Type 0
Leads m code t e = LeadsOn covers (state_at m.control.delay t.entries.items) m code (point_as e.point) e.state

-- a table whose entries are right, whose first abstract state admits the first walk, and whose entries lead on but for those that wait
pub record Solving (m : Machine) (code : Code) (locations : List Location) (t : EntryTable) : Type 0 where
  pub sound : IsSound m code locations t
  pub calm : (p : ℕ) (e : Successor) → slice_get t.entries.items p ≡ Some (Some e) → (waits t.worklist.items p ≡ true) ⊎ Leads m code t e
  pub begins : AbstractState
  pub there : state_at m.control.delay t.entries.items (record { address = 0; under = None }) ≡ Some begins
  pub admits : CoveredBy (covers begins) first

-- ---- limits

delay_few : (m : Machine) → IsMachine m → m.control.delay ≤ 4
delay_few m rules = leb-true m.control.delay 4 (and_one _ _ (and_one _ _ (and_one _ _ rules.control)))

pub replicate_count : {A : Type 0} (n : ℕ) (x : A) → length (replicate n x) ≡ n
replicate_count zero x = refl
replicate_count (suc n) x = let e = replicate_count n x in omega arith

module _ (m : Machine) (code : Code) (locations : List Location) (given : IsGiven m code locations) where
  is_there : (t : EntryTable) (p : ℕ) (at : Successor) (i : Instruction) → slice_get code.words at.point.address ≡ Some i → IsThere m code locations i at
  is_there t p at i h = record {
    rules = given.rules;
    there = h;
    legal = all_at (λ i. is_legal m i ≡ true) code.words given.legal.words at.point.address i h;
    has = given.has at.point.address i h;
  }

  leads_still : (old new : EntryTable) → ((k : ProgramPoint) (r : AbstractState) → state_at m.control.delay old.entries.items k ≡ Some r → Found m.control.delay new.entries.items k r) → (e : Successor) → Leads m code old e → Leads m code new e
  leads_still old new grows e l = record {
    by = l.by;
    there = l.there;
    free = l.free;
    word = l.word;
    single = l.single;
    leads = λ choice k' h.
        let a = l.leads choice k' h in
        let g = grows k' a.0 a.1 in
        (g.0, g.1, λ f' f b c. g.2 f' (a.2 f' f b c));
  }

  acts_next : (i : Instruction) (at x : Successor) (acts stays : Option Successor) → IsNext m code locations at → IsThere m code locations i at → GoesOn m i at acts stays → acts ≡ Some x → IsNext m code locations x
  acts_next i at x acts stays next t g is =
      let w = acts_way m i at g.word x (subst (λ o. IsActs m i at (controller (effects_of m i)) g.word o) is g.where_acts) in
      record { entry = acts_entry m code locations i at x acts stays next.entry t g is; came = way_came m code locations i at x acts stays w.guard_value w.acts next.entry t g w.way next.came }

  stays_next : (i : Instruction) (at x : Successor) (acts stays : Option Successor) → IsNext m code locations at → IsThere m code locations i at → GoesOn m i at acts stays → stays ≡ Some x → IsNext m code locations x
  stays_next i at x acts stays next t g is =
      let w = stays_way m i at g.word x (subst (λ o. IsStays m i at (controller (effects_of m i)) o) is g.where_stays) in
      record { entry = stays_entry m code locations i at x acts stays next.entry t g is; came = way_came m code locations i at x acts stays w.guard_value w.acts next.entry t g w.way next.came }

  -- ---- a place that waits is taken

  pub popped_sound : (old mid : EntryTable) (place : ℕ) → IsSound m code locations old → mid.entries.items ≡ old.entries.items → old.worklist.items ≡ mid.worklist.items ++ (place ∷ []) → IsSound m code locations mid
  popped_sound old mid place sound entries worklist = record {
    count = ap length entries ∙ sound.count;
    each = λ p e h. sound.each p e (ap (λ xs. slice_get xs p) (sym entries) ∙ h);
    worklist = λ p h. subst (λ n. p < n) (sym (ap length entries)) (sound.worklist p (ap (λ xs. waits xs p) worklist ∙ waits_more mid.worklist.items place p ∙ more (waits mid.worklist.items p) _ h));
  } where
    more : (a b : Bool) → a ≡ true → (a || b) ≡ true
    more true b h = refl
    more false b h = absurd cc

  pub can_carry : (old mid : EntryTable) (place : ℕ) → IsSound m code locations old → mid.entries.items ≡ old.entries.items → old.worklist.items ≡ mid.worklist.items ++ (place ∷ []) → CanCarry m code place mid
  can_carry old mid place sound entries worklist =
      let s = popped_sound old mid place sound entries worklist in
      record {
        there = subst (λ n. place < n) (sym (ap length entries)) (sound.worklist place (ap (λ xs. waits xs place) worklist ∙ waits_new mid.worklist.items place));
        count = s.count;
        room = room_few m code given.rules given.legal;
        delay = delay_few m given.rules;
        few = let e = given.rules.limits.units in omega arith;
        within = λ p e h. (s.each p e h).below;
        places = length locations;
        cells = λ p e h. sym (map_count (λ k. k.at) e.state.cells.items) ∙ ap length (s.each p e h).next.entry.places;
        ports = λ p e h. (s.each p e h).next.entry.units;
        times = λ k i h. (are_lone m i given.rules (all_at (λ i. is_legal m i ≡ true) code.words given.legal.words k i h)).times;
      }

  -- what holds after the entry that was taken is carried on: all leads on but for what waits and for that entry
  carried_on : (mid new : EntryTable) (place : ℕ) → IsSound m code locations mid → Carried m code place mid new None
      → Moved m.control.delay (greatest_measure (length locations)) mid new × IsSound m code locations new
      × ((e : Successor) → slice_get mid.entries.items place ≡ Some (Some e) → Leads m code new e)
  carried_on mid new place sound (Empty none is) = subst (λ t. Moved m.control.delay (greatest_measure (length locations)) mid t × IsSound m code locations t × ((e : Successor) → slice_get mid.entries.items place ≡ Some (Some e) → Leads m code t e)) (sym is)
      (stay m.control.delay (greatest_measure (length locations)) mid, sound, λ e h. absurd (let f = sym none ∙ h in cc))
  carried_on mid new place sound (Went at i acts stays _ there is g (Then half _ one other)) =
      let put = sound.each place at there in
      let t = is_there mid place at i is in
      let a = some_after m code locations acts mid half sound (λ x h. acts_next i at x acts stays put.next t g h) one in
      let b = some_after m code locations stays half new a.sound (λ x h. stays_next i at x acts stays put.next t g h) other in (
        move_on m.control.delay (greatest_measure (length locations)) mid half new a.moved b.moved,
        b.sound,
        λ e h. subst (Leads m code new) (same e at h there)
            (entry_leads (state_at m.control.delay new.entries.items) m code locations i at acts stays put.next.entry t g (λ x one_of. found x a b one_of)),
      ) where
        same : (e at : Successor) → slice_get mid.entries.items place ≡ Some (Some e) → slice_get mid.entries.items place ≡ Some (Some at) → at ≡ e
        same e at h there = let f = sym there ∙ h in cc

        found : (x : Successor) → IsAfter m code locations acts mid half → IsAfter m code locations stays half new → OneOf acts stays (Some x) → Found m.control.delay new.entries.items (point_as x.point) x.state
        found x a b (inl h) = found_on m.control.delay (greatest_measure (length locations)) half new b.moved (point_as x.point) x.state (a.found x h)
        found x a b (inr h) = b.found x h

  pub solving_on : (old mid new : EntryTable) (place : ℕ) → Solving m code locations old → mid.entries.items ≡ old.entries.items → old.worklist.items ≡ mid.worklist.items ++ (place ∷ []) → Carried m code place mid new None
      → Solving m code locations new × (ahead (greatest_measure (length locations)) new < ahead (greatest_measure (length locations)) old)
  solving_on old mid new place s entries worklist carried = on (carried_on mid new place (popped_sound old mid place s.sound entries worklist) carried) where
    most : ℕ
    most = greatest_measure (length locations)

    on : Moved m.control.delay most mid new × IsSound m code locations new × ((e : Successor) → slice_get mid.entries.items place ≡ Some (Some e) → Leads m code new e)
        → Solving m code locations new × (ahead most new < ahead most old)
    on c = (record { sound = c.1; calm = calm; begins = first_state.0; there = first_state.1; admits = λ f h. first_state.2 f (s.admits f h) }, less) where
      first_state : Found m.control.delay new.entries.items (record { address = 0; under = None }) s.begins
      first_state = c.0.grows (record { address = 0; under = None }) s.begins (ap (λ xs. state_at m.control.delay xs (record { address = 0; under = None })) entries ∙ s.there)

      less : ahead most new < ahead most old
      less =
          let a = c.0.less in
          let b = ap length worklist ∙ worklist_more mid.worklist.items place in
          let d = ap (lack most) entries in
          omega arith

      still : (e : Successor) → Leads m code old e → Leads m code new e
      still e l = leads_still mid new c.0.grows e (subst (λ xs. LeadsOn covers (state_at m.control.delay xs) m code (point_as e.point) e.state) (sym entries) l)

      waited : (p : ℕ) (e : Successor) → slice_get mid.entries.items p ≡ Some (Some e) → (waits mid.worklist.items p ≡ true) ⊎ (place ≡ p) → (waits new.worklist.items p ≡ true) ⊎ Leads m code new e
      waited p e h (inl w) = inl (c.0.still p w)
      waited p e h (inr is) = inr (c.2 e (ap (slice_get mid.entries.items) is ∙ h))

      by : (p : ℕ) (e : Successor) → slice_get mid.entries.items p ≡ Some (Some e) → (waits old.worklist.items p ≡ true) ⊎ Leads m code old e → (waits new.worklist.items p ≡ true) ⊎ Leads m code new e
      by p e h (inl w) = waited p e h (waits_one mid.worklist.items place p (ap (λ xs. waits xs p) (sym worklist) ∙ w))
      by p e h (inr l) = inr (still e l)

      kept : (p : ℕ) (e : Successor) → (waits new.worklist.items p ≡ true) ⊎ (slice_get mid.entries.items p ≡ Some (Some e)) → (waits new.worklist.items p ≡ true) ⊎ Leads m code new e
      kept p e (inl w) = inl w
      kept p e (inr h) = by p e h (s.calm p e (ap (λ xs. slice_get xs p) (sym entries) ∙ h))

      calm : (p : ℕ) (e : Successor) → slice_get new.entries.items p ≡ Some (Some e) → (waits new.worklist.items p ≡ true) ⊎ Leads m code new e
      calm p e h = kept p e (c.0.same p e h)

  -- a verdict where an entry is carried on is true of the code
  pub solving_ends : (old mid new : EntryTable) (place : ℕ) (v : Verdict) → Solving m code locations old → mid.entries.items ≡ old.entries.items → old.worklist.items ≡ mid.worklist.items ++ (place ∷ []) → Carried m code place mid new (Some v)
      → IsVerdict m code v
  solving_ends old mid new place v s entries worklist carried = on (popped_sound old mid place s.sound entries worklist) carried where
    ended : (at : Successor) (i : Instruction) (acts stays : Option Successor) → IsNext m code locations at → IsThere m code locations i at → IsSound m code locations mid → GoesOn m i at acts stays
        → PutBoth m.control.delay (length code.words) acts stays mid new (Some v) → IsVerdict m code v
    ended at i acts stays next t sound g (First half _ put) = some_ends m code locations acts mid half v sound (λ x h. acts_next i at x acts stays next t g h) put
    ended at i acts stays next t sound g (Then half _ one other) =
        let a = some_after m code locations acts mid half sound (λ x h. acts_next i at x acts stays next t g h) one in
        some_ends m code locations stays half new v a.sound (λ x h. stays_next i at x acts stays next t g h) other

    on : IsSound m code locations mid → Carried m code place mid new (Some v) → IsVerdict m code v
    on sound (Ended at i _ there is end) = ends_right m code locations i at (sound.each place at there).next.entry (is_there mid place at i is) v end
    on sound (Went at i acts stays _ there is g put) = ended at i acts stays (sound.each place at there).next (is_there mid place at i is) sound g put

  -- ---- the first and the last

  empty_none : (t : EntryTable) → t.entries.items ≡ replicate (length code.words * (m.control.delay + 1)) None → (p : ℕ) (e : Successor) → slice_get t.entries.items p ≡ Some (Some e) → ⊥
  empty_none t entries p e h = none _ p (ap (λ xs. slice_get xs p) (sym entries) ∙ h) where
    none : (n p : ℕ) → slice_get (replicate n None) p ≡ Some (Some e) → ⊥
    none zero p h = cc
    none (suc n) zero h = cc
    none (suc n) (suc p) h = none n p h

  pub empty_sound : (t : EntryTable) → t.entries.items ≡ replicate (length code.words * (m.control.delay + 1)) None → t.worklist.items ≡ [] → IsSound m code locations t
  empty_sound t entries worklist = record {
    count = ap length entries ∙ replicate_count (length code.words * (m.control.delay + 1)) None;
    each = λ p e h. absurd (empty_none t entries p e h);
    worklist = λ p h. absurd (let f = ap (λ xs. waits xs p) (sym worklist) ∙ h in cc);
  }

  pub solving_first : (x : Successor) (old new : EntryTable) → old.entries.items ≡ replicate (length code.words * (m.control.delay + 1)) None → old.worklist.items ≡ [] → point_as x.point ≡ record { address = 0; under = None }
      → IsEntry m code locations x → CoveredBy (covers x.state) first → Puts m.control.delay x old new → Solving m code locations new
  solving_first x old new entries worklist point entry admits puts = record {
    sound = puts_sound m code locations x old new sound next puts;
    calm = λ p e h. calm p e (moved.same p e h);
    begins = found.0;
    there = ap (state_at m.control.delay new.entries.items) (sym point) ∙ found.1;
    admits = λ f h. found.2 f (admits f h);
  } where
    sound : IsSound m code locations old
    sound = empty_sound old entries worklist

    next : IsNext m code locations x
    next = record { entry = entry; came = subst (Came m code) (sym point) tt }

    moved : Moved m.control.delay (greatest_measure (length locations)) old new
    moved = puts_moved m code locations x old new sound entry puts

    found : Found m.control.delay new.entries.items (point_as x.point) x.state
    found = puts_found m code locations x old new sound entry puts

    calm : (p : ℕ) (e : Successor) → (waits new.worklist.items p ≡ true) ⊎ (slice_get old.entries.items p ≡ Some (Some e)) → (waits new.worklist.items p ≡ true) ⊎ Leads m code new e
    calm p e (inl h) = inl h
    calm p e (inr h) = absurd (empty_none old entries p e h)

  -- where none waits the code is safe
  pub solved : (t : EntryTable) → Solving m code locations t → t.worklist.items ≡ [] → IsSafe m code
  solved t s none =
      closed_safe covers (state_at m.control.delay t.entries.items) m code (record { begins = s.begins; there = s.there; admits = s.admits; leads = leads }) where
        on : (e : Successor) (p : ℕ) → (waits t.worklist.items p ≡ true) ⊎ Leads m code t e → Leads m code t e
        on e p (inl w) = absurd (let f = ap (λ xs. waits xs p) (sym none) ∙ w in cc)
        on e p (inr l) = l

        leads : (k : ProgramPoint) (r : AbstractState) → state_at m.control.delay t.entries.items k ≡ Some r → LeadsOn covers (state_at m.control.delay t.entries.items) m code k r
        leads k r h =
            let x = entry_of m.control.delay t.entries.items k r h in
            let l = on x.entry (place_at m.control.delay k) (s.calm (place_at m.control.delay k) x.entry x.there) in
            subst (λ q. LeadsOn covers (state_at m.control.delay t.entries.items) m code q r) x.point (subst (LeadsOn covers (state_at m.control.delay t.entries.items) m code (point_as x.entry.point)) x.state l)
