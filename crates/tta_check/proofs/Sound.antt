-- What holds while walks are carried on: each entry has its walks, and each that does not wait leads on.
use Rattle.std.proofs.Common.{◌≡◌, ℕ, zero, suc, ◌+◌, ◌*◌, ◌≤◌, ◌<◌, Bool, true, false, List, [], ◌∷◌, length, map, Option, Some, None, refl, ap, sym, subst, ◌∙◌, ◌⊎◌, inl, inr, arith}
use Rattle.std.specs.Prelude.{◌-◌, ◌≢◌, nat_lt, if◌then◌else◌, slice_get}
use Rattle.std.specs.List.{AllByRecursion}
use Rattle.std.proofs.lemmas.Bool.{ltb-true, ltb-false}
use Rattle.std.proofs.lemmas.Option.{slice_get_within, slice_get_past}
use Rattle.tta_check.specs.Cited.{Machine, Code, has_bit}
use Rattle.tta_check.specs.declared.state.Kept.{Kept}
use Rattle.tta_check.specs.declared.state.AbstractState.{AbstractState}
use Rattle.tta_check.specs.declared.entries.EntryTable.{EntryTable}
use Rattle.tta_check.specs.declared.location.Location.{Location}
use Rattle.tta_check.specs.declared.verdict.Verdict.{Verdict}
use Rattle.tta_check.specs.declared.visit.Successor.{Successor}
use Rattle.tta_check.specs.Verdict.{IsVerdict}
use Rattle.tta_check.specs.Facts.{Here, Unset, Holds, Early, Late}
use Rattle.tta_check.specs.ProgramPoints.{ProgramPoint}
use Rattle.tta_check.specs.States.{covers, tells, cell_of, covers_word, port_of, is_early}
use Rattle.tta_check.specs.Going.{point_as}
use Rattle.tta_check.specs.Joins.{join_list, AreAligned}
use Rattle.tta_check.specs.Measures.{measure, greatest_measure}
use Rattle.tta_check.specs.Tables.{same_point, place_at, state_in, Sets, Joins, Puts, Fresh, Grown, Calm, PutEnds, Leaves, Differs, PutSome}
use Rattle.tta_check.proofs.Witnessed.{Witnessed, outside_code}
use Rattle.tta_check.proofs.Joining.{join_admits_one, join_admits_other, both_witnessed}
use Rattle.tta_check.proofs.Proper.{AreProper, both_proper}
use Rattle.tta_check.proofs.Measuring.{weighs_more}
use Rattle.tta_check.proofs.Placing.{join_count, place_within}
use Rattle.tta_check.proofs.Putting.{set_get}
use Rattle.tta_check.proofs.Visiting.{IsEntry}
use Rattle.tta_check.proofs.Coming.{Came, two_made}
use Rattle.tta_check.proofs.Growing.{point_is, point_self, Within, Found, state_there, waits, waits_one, Moved, stay, set_here, Keeps, set_moved}
use Rattle.tta_list.proofs.Sets.{set_count}
use Rattle.tta_list.proofs.Lists.{map_count}

-- ---- lists

join_places : (ks ls : List Kept) → map (λ k. k.at) (join_list ks ls) ≡ map (λ k. k.at) ks
join_places [] ls = refl
join_places (k ∷ ks) [] = refl
join_places (k ∷ ks) (l ∷ ls) = ap (λ xs. k.at ∷ xs) (join_places ks ls)

-- abstract states of the same cells and ports admit the same
same_admits : (r s : AbstractState) → r.cells.items ≡ s.cells.items → r.ports.items ≡ s.ports.items → Within r s
same_admits r s cells ports Here h = refl
same_admits r s cells ports (Unset p) h = ap (λ ks. (cell_of ks p).unset) (sym cells) ∙ h
same_admits r s cells ports (Holds p x) h = ap (λ ks. covers_word (cell_of ks p).values x) (sym cells) ∙ h
same_admits r s cells ports (Early unit wait) h = ap (λ ps. is_early (port_of ps unit) wait) (sym ports) ∙ h
same_admits r s cells ports (Late unit wait) h = ap (λ ps. has_bit (port_of ps unit).late wait) (sym ports) ∙ h

pub all_at : {A : Type 0} (P : A → Type 0) (xs : List A) → AllByRecursion P xs → (k : ℕ) (x : A) → slice_get xs k ≡ Some x → P x
all_at P [] all k x h = absurd cc
all_at {A} P (y ∷ ys) all zero x h = subst P (same h) all.0 where
  same : Some y ≡ Some x → y ≡ x
  same h = cc
all_at P (y ∷ ys) all (suc k) x h = all_at P ys all.1 k x h

-- ---- entries

-- where walks go on what is kept is right, and the control move under way was made
pub record IsNext (m : Machine) (code : Code) (locations : List Location) (x : Successor) : Type 0 where
  pub entry : IsEntry m code locations x
  pub came : Came m code (point_as x.point)

-- the same within the code, in its place of a table
pub record IsPut (m : Machine) (code : Code) (locations : List Location) (place : ℕ) (x : Successor) : Type 0 where
  pub next : IsNext m code locations x
  pub below : x.point.address < length code.words
  pub here : place_at m.control.delay (point_as x.point) ≡ place

-- a table whose entries are right
pub record IsSound (m : Machine) (code : Code) (locations : List Location) (t : EntryTable) : Type 0 where
  pub count : length t.entries.items ≡ length code.words * (m.control.delay + 1)
  pub each : (p : ℕ) (e : Successor) → slice_get t.entries.items p ≡ Some (Some e) → IsPut m code locations p e
  pub worklist : (p : ℕ) → waits t.worklist.items p ≡ true → p < length t.entries.items

module _ (m : Machine) (code : Code) (locations : List Location) where
  -- ---- something is put

  aligned : (e x : Successor) → IsEntry m code locations e → IsEntry m code locations x → AreAligned e.state x.state
  aligned e x a b = record { places = a.places ∙ sym b.places; units = a.units ∙ sym b.units }

  both_entry : (x e both : Successor) → IsEntry m code locations e → IsEntry m code locations x → Joins x e both → IsEntry m code locations both
  both_entry x e both a b j = record {
    witnessed = subst (λ k. Witnessed (covers both.state) (tells both.state) m code (point_as k)) (sym j.point)
        (both_witnessed m code (point_as x.point) e.state x.state both.state (aligned e x a b) j.join
        (subst (Witnessed (covers e.state) (tells e.state) m code) (point_is _ _ j.same) a.witnessed) b.witnessed);
    places = ap (map (λ k. k.at)) j.join.cells ∙ join_places e.state.cells.items x.state.cells.items ∙ a.places;
    units = ap length j.join.ports ∙ join_count e.state.ports.items x.state.ports.items ∙ a.units;
    proper = subst AreProper (sym j.join.cells) (both_proper e.state.cells.items x.state.cells.items a.proper b.proper);
  }

  -- an abstract state has no greater measure than an abstract state of these places can
  measure_greatest : (both : Successor) → IsEntry m code locations both → measure both.state ≤ greatest_measure (length both.state.cells.items) → measure both.state ≤ greatest_measure (length locations)
  measure_greatest both a h = subst (λ n. measure both.state ≤ greatest_measure n) (sym (map_count (λ k. k.at) both.state.cells.items) ∙ ap length a.places) h

  -- an entry that is joined keeps what was found
  joins_keep : (x e both : Successor) → IsEntry m code locations e → IsEntry m code locations x → Joins x e both → Keeps (Some e) both
  joins_keep x e both a b j k r h = on (same_point (point_as e.point) k) refl h where
    same : Some e.state ≡ Some r → e.state ≡ r
    same h = cc

    on : (c : Bool) → same_point (point_as e.point) k ≡ c → (if c then Some e.state else None) ≡ Some r → (state_in k (Some both) ≡ Some both.state) × Within r both.state
    on true is h = (
      ap (λ c. if c then Some both.state else None) (ap (λ i. same_point i k) (ap point_as j.point ∙ sym (point_is _ _ j.same) ∙ point_is _ _ is) ∙ point_self k),
      subst (λ s. Within s both.state) (same h) (join_admits_one e.state x.state both.state (aligned e x a b) j.join),
    )
    on false is h = absurd cc

  -- what is put is found, and nothing that was found is lost
  pub puts_moved : (x : Successor) (old new : EntryTable) → IsSound m code locations old → IsEntry m code locations x → Puts m.control.delay x old new → Moved m.control.delay (greatest_measure (length locations)) old new
  puts_moved x old new sound b (Fresh none sets) =
      set_moved m.control.delay (greatest_measure (length locations)) (place_at m.control.delay (point_as x.point)) None x old new none sets (λ k r h. absurd cc) (omega arith)
  puts_moved x old new sound b (Grown e both there j more sets) =
      let a = (sound.each (place_at m.control.delay (point_as x.point)) e there).next.entry in
      set_moved m.control.delay (greatest_measure (length locations)) (place_at m.control.delay (point_as x.point)) (Some e) both old new there sets (joins_keep x e both a b j)
      (less (measure e.state) (measure both.state) (greatest_measure (length locations)) (weighs_more e.state x.state both.state j.join).no_less more (measure_greatest both (both_entry x e both a b j) j.most)) where
        less : (w v n : ℕ) → w ≤ v → v ≢ w → v ≤ n → n - v < n - w
        less w v n le differs most = on (nat_lt w v) refl where
          on : (c : Bool) → nat_lt w v ≡ c → n - v < n - w
          on true h = let f = ltb-true w v h in omega arith
          on false h = absurd (differs (let f = ltb-false w v h in omega arith))
  puts_moved x old new sound b (Calm e both there j same is) = subst (Moved m.control.delay (greatest_measure (length locations)) old) (sym is) (stay m.control.delay (greatest_measure (length locations)) old)

  pub puts_found : (x : Successor) (old new : EntryTable) → IsSound m code locations old → IsEntry m code locations x → Puts m.control.delay x old new → Found m.control.delay new.entries.items (point_as x.point) x.state
  puts_found x old new sound b (Fresh none sets) =
      let p = place_at m.control.delay (point_as x.point) in
      (x.state, state_there m.control.delay new.entries.items (point_as x.point) x (ap (λ xs. slice_get xs p) sets.entries ∙ set_here old.entries.items p None (Some x) none) refl, λ f h. h)
  puts_found x old new sound b (Grown e both there j more sets) =
      let p = place_at m.control.delay (point_as x.point) in
      let a = (sound.each p e there).next.entry in (
        both.state,
        state_there m.control.delay new.entries.items (point_as x.point) both (ap (λ xs. slice_get xs p) sets.entries ∙ set_here old.entries.items p (Some e) (Some both) there) (ap point_as j.point),
        join_admits_other e.state x.state both.state (aligned e x a b) j.join,
      )
  puts_found x old new sound b (Calm e both there j same is) =
      let p = place_at m.control.delay (point_as x.point) in
      let a = (sound.each p e there).next.entry in
      let w = weighs_more e.state x.state both.state j.join in (
        e.state,
        state_there m.control.delay new.entries.items (point_as x.point) e (ap (λ (t : EntryTable). slice_get t.entries.items p) is ∙ there) (point_is _ _ j.same),
        λ f h. same_admits both.state e.state (w.cells same) (w.ports same) f (join_admits_other e.state x.state both.state (aligned e x a b) j.join f h),
      )

  set_sound : (place : ℕ) (o : Option Successor) (b : Successor) (old new : EntryTable) → IsSound m code locations old → slice_get old.entries.items place ≡ Some o → Sets place b old new → IsPut m code locations place b → IsSound m code locations new
  set_sound place o b old new sound there sets put = record {
    count = count ∙ sound.count;
    each = λ p e h. each p e (set_get old.entries.items place p (Some b) (Some e) (ap (λ xs. slice_get xs p) (sym sets.entries) ∙ h));
    worklist = λ p h. subst (λ n. p < n) (sym count) (worklist p (waits_one old.worklist.items place p (ap (λ xs. waits xs p) (sym sets.worklist) ∙ h)));
  } where
    count : length new.entries.items ≡ length old.entries.items
    count = ap length sets.entries ∙ set_count old.entries.items place (Some b)

    same : (e : Successor) → Some e ≡ Some b → b ≡ e
    same e h = cc

    each : (p : ℕ) (e : Successor) → ((place ≡ p) × (Some e ≡ Some b)) ⊎ (slice_get old.entries.items p ≡ Some (Some e)) → IsPut m code locations p e
    each p e (inl r) = subst (λ n. IsPut m code locations n e) r.0 (subst (IsPut m code locations place) (same e r.1) put)
    each p e (inr r) = sound.each p e r

    worklist : (p : ℕ) → (waits old.worklist.items p ≡ true) ⊎ (place ≡ p) → p < length old.entries.items
    worklist p (inl h) = sound.worklist p h
    worklist p (inr h) = subst (λ n. n < length old.entries.items) h (slice_get_within old.entries.items place o there)

  pub puts_sound : (x : Successor) (old new : EntryTable) → IsSound m code locations old → IsNext m code locations x → Puts m.control.delay x old new → IsSound m code locations new
  puts_sound x old new sound b (Fresh none sets) =
      let p = place_at m.control.delay (point_as x.point) in
      set_sound p None x old new sound none sets (record {
        next = b;
        below = place_within m.control.delay (length code.words) x.point.address (point_as x.point).under (subst (λ n. p < n) sound.count (slice_get_within old.entries.items p None none));
        here = refl;
      })
  puts_sound x old new sound b (Grown e both there j more sets) =
      let p = place_at m.control.delay (point_as x.point) in
      let a = sound.each p e there in
      set_sound p (Some e) both old new sound there sets (record {
        next = record { entry = both_entry x e both a.next.entry b.entry j; came = subst (λ k. Came m code (point_as k)) (sym j.point) b.came };
        below = subst (λ n. n < length code.words) (address_is (point_as e.point) (point_as x.point) (point_is (point_as e.point) (point_as x.point) j.same) ∙ ap (λ k. (point_as k).address) (sym j.point)) a.below;
        here = ap (λ k. place_at m.control.delay (point_as k)) j.point;
      }) where
        address_is : (i k : ProgramPoint) → i ≡ k → i.address ≡ k.address
        address_is i k h = cc
  puts_sound x old new sound b (Calm e both there j same is) = subst (IsSound m code locations) (sym is) sound

  -- what comes of putting where walks go on, if they do
  pub record IsAfter (o : Option Successor) (old new : EntryTable) : Type 0 where
    pub moved : Moved m.control.delay (greatest_measure (length locations)) old new
    pub sound : IsSound m code locations new
    pub found : (x : Successor) → o ≡ Some x → Found m.control.delay new.entries.items (point_as x.point) x.state

  pub some_after : (o : Option Successor) (old new : EntryTable) → IsSound m code locations old → ((x : Successor) → o ≡ Some x → IsNext m code locations x) → PutSome m.control.delay (length code.words) o old new None → IsAfter o old new
  some_after None old new sound next put =
      subst (IsAfter None old) (sym put.0) (record { moved = stay m.control.delay (greatest_measure (length locations)) old; sound = sound; found = λ x h. absurd cc })
  some_after (Some y) old new sound next put = record {
    moved = puts_moved y old new sound (next y refl).entry put;
    sound = puts_sound y old new sound (next y refl) put;
    found = λ x h. subst (λ z. Found m.control.delay new.entries.items (point_as z.point) z.state) (same x h) (puts_found y old new sound (next y refl).entry put);
  } where
    same : (x : Successor) → Some y ≡ Some x → y ≡ x
    same x h = cc

  -- a verdict where walks go on is true of the code
  pub put_ends : (x : Successor) (t : EntryTable) (v : Verdict) → IsSound m code locations t → IsNext m code locations x → PutEnds m.control.delay (length code.words) x t v → IsVerdict m code v
  put_ends x t _ sound b (Leaves out) = inl (outside_code (covers x.state) (tells x.state) m code (point_as x.point) b.entry.witnessed refl (slice_get_past code.words x.point.address out))
  put_ends x t _ sound b (Differs e there differs) =
      let a = sound.each (place_at m.control.delay (point_as x.point)) e there in
      inr (refl, two_made m code (point_as e.point) (point_as x.point) a.next.came b.came a.here differs)

  pub some_ends : (o : Option Successor) (old new : EntryTable) (v : Verdict) → IsSound m code locations old → ((x : Successor) → o ≡ Some x → IsNext m code locations x) → PutSome m.control.delay (length code.words) o old new (Some v) → IsVerdict m code v
  some_ends None old new v sound next put = absurd (let e = put.1 in cc)
  some_ends (Some y) old new v sound next put = put_ends y old v sound (next y refl) put
