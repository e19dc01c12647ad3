-- A read that takes its word from a result port in place of a register that has the same.
use Rattle.std.proofs.Common.{◌≡◌, ℕ, Bool, true, false, List, [], ◌∷◌, Option, Some, None, refl, sym, ap, subst, arith, ◌∙◌}
use Rattle.std.specs.Prelude.{if◌then◌else◌, ◌==◌, ◌&&◌, ◌||◌, not, is_none, is_some, slice_get, option_and_then, map}
use Rattle.std.specs.Option.{option_map_or}
use Rattle.std.proofs.lemmas.Bool.{and_from}
use Rattle.std.proofs.lemmas.Bool.Decides.{nat_tests}
use Rattle.tta_optim.specs.Cited.{Units, Source, File, Machine, Effect, KeptReg, Written, kept, is_active, bring, lacks_operand, start_of, has_unset_guard, Brought, ItemSource, Port, Address, Item, Move, Long, source_of, joined, Held, is_waiting, linked, effect_of, read_held, arrives, does, lacks, does_all, means, copied, is_port_source, is_wide_file, shown_in_place_of, port_for, is_bypassable, none_after}
use Rattle.tta_arch.specs.declared.ends.Source.TheVariants as source
use Rattle.tta_moves.proofs.Places.{either}
use Rattle.tta_optim.specs.Passes.{with_source, bypassed, bypass_items}
use Rattle.tta_optim.proofs.Copies.{is_whole, Copies, one_more, stuck_means, first_means}
use Rattle.tta_moves.proofs.Waiting.{stuck_all}

-- ---- an effect with a source of the same word

same_moved : (h : Held) (e : Effect) (src : Source) → read_held h.written src ≡ read_held h.written e.src
    → bring (read_held h.written) (record e { src = src }) ≡ bring (read_held h.written) e
same_moved h e src same = ap (λ (q : Option ℕ). option_map_or (λ word. Some (e.target, word)) (if is_active (read_held h.written) e then q else None) None) same

pub does_source : (u : Units) (m : Machine) (back : ℕ) (h : Held) (e : Effect) (src : Source) → read_held h.written src ≡ read_held h.written e.src
    → does u m back h (record e { src = src }) ≡ does u m back h e
unfolding does
does_source u m back h e src same =
    ap (λ (o : Option Brought). if is_waiting h.exit then h else arrives u m back h o) (same_moved h e src same)

pub lacks_source : (m : Machine) (h : Held) (e : Effect) (src : Source) → read_held h.written src ≡ read_held h.written e.src
    → lacks m h (record e { src = src }) ≡ lacks m h e
unfolding lacks
lacks_source m h e src same =
    ap (λ (q : Option ℕ). has_unset_guard (read_held h.written) e || (is_active (read_held h.written) e && true && is_none q)
    || option_map_or (λ b. option_map_or lacks_operand (start_of m h.written b) false) (bring (read_held h.written) (record e { src = src })) false) same
    ∙ ap (λ (o : Option Brought). has_unset_guard (read_held h.written) e || (is_active (read_held h.written) e && true && is_none (read_held h.written e.src))
    || option_map_or (λ b. option_map_or lacks_operand (start_of m h.written b) false) o false) (same_moved h e src same)

-- ---- the port that an item could read

wide_whole : (m : Machine) (f i : ℕ) → is_wide_file m f ≡ true → is_whole m (KeptReg f i) ≡ true
wide_whole m f i e = on (slice_get m.files f) e where
  on : (o : Option File) → option_map_or (λ q. q.width == 32) o false ≡ true → not (option_map_or (λ q. q.width) o 32 == 1) ≡ true
  on None e = refl
  on (Some q) e = let wide : q.width ≡ 32 = grind (arith, nat_tests) in rw wide refl

port_only : (o : Option ItemSource) (port : ItemSource) → option_and_then (λ s. if is_port_source s then Some s else None) o ≡ Some port → (o ≡ Some port) × (is_port_source port ≡ true)
port_only None port e = absurd cc
port_only (Some s) port e = on (is_port_source s) refl e where
  on : (b : Bool) → is_port_source s ≡ b → (if b then Some s else None) ≡ Some port → (◌≡◌ {A = Option ItemSource} (Some s) (Some port)) × (is_port_source port ≡ true)
  on true r e = let same : s ≡ port = cc in (e, subst (λ t. is_port_source t ≡ true) same r)
  on false r e = absurd cc

-- it shows what the item's source has
shown_same : (m : Machine) (addr : List ℕ) (before : List Item) (ws : Written) (src port : ItemSource) → Copies m addr before ws → shown_in_place_of m before src ≡ Some port
    → (read_held ws (linked addr port) ≡ read_held ws (linked addr src)) × (is_port_source port ≡ true)
shown_same m addr before ws (Address block) port copies e = absurd cc
shown_same m addr before ws (Port (source.Imm f i)) port copies e = absurd cc
shown_same m addr before ws (Port (source.Shown unit)) port copies e = absurd cc
shown_same m addr before ws (Port source.Ra) port copies e = absurd cc
shown_same m addr before ws (Port (source.Value w)) port copies e = absurd cc
shown_same m addr before ws (Port (source.Reg f i)) port copies e = on (is_wide_file m f) refl e where
  on : (b : Bool) → is_wide_file m f ≡ b → (if b then option_and_then (λ s. if is_port_source s then Some s else None) (copied m (KeptReg f i) before) else None) ≡ Some port
      → (read_held ws (linked addr port) ≡ kept ws (KeptReg f i)) × (is_port_source port ≡ true)
  on false r e = absurd cc
  on true r e =
      let p = port_only (copied m (KeptReg f i) before) port e in
      (sym (copies.same (KeptReg f i) port (wide_whole m f i r) p.0), p.1)

pub joined_only : (b : Bool) (s port : ItemSource) → (if b then Some s else None) ≡ Some port → s ≡ port
joined_only true s port e = cc
joined_only false s port e = absurd cc

port_same : (m : Machine) (addr : List ℕ) (before : List Item) (ws : Written) (x : Item) (port : ItemSource) → Copies m addr before ws → port_for m before x ≡ Some port
    → (effect_of addr (with_source x port) ≡ record (effect_of addr x) { src = linked addr port }) × (read_held ws (linked addr port) ≡ read_held ws (linked addr (source_of x))) × (is_port_source port ≡ true)
port_same m addr before ws (Long unit index value) port copies e = absurd cc
port_same m addr before ws (Move guard src dst) port copies e = on (shown_in_place_of m before src) refl e where
  on : (o : Option ItemSource) → shown_in_place_of m before src ≡ o → option_and_then (λ p. if joined m p dst guard then Some p else None) o ≡ Some port
      → (effect_of addr (Move guard port dst) ≡ record (effect_of addr (Move guard src dst)) { src = linked addr port }) × (read_held ws (linked addr port) ≡ read_held ws (linked addr src)) × (is_port_source port ≡ true)
  on None r e = absurd cc
  on (Some p) r e =
      let is = joined_only (joined m p dst guard) p port e in
      let shown = shown_same m addr before ws src port copies (r ∙ ap (λ (q : ItemSource). Some q) is) in
      (refl, shown.0, shown.1)

shown_is_port : (m : Machine) (before : List Item) (src port : ItemSource) → shown_in_place_of m before src ≡ Some port → is_port_source port ≡ true
shown_is_port m before (Address block) port e = absurd cc
shown_is_port m before (Port (source.Imm f i)) port e = absurd cc
shown_is_port m before (Port (source.Shown unit)) port e = absurd cc
shown_is_port m before (Port source.Ra) port e = absurd cc
shown_is_port m before (Port (source.Value w)) port e = absurd cc
shown_is_port m before (Port (source.Reg f i)) port e = on (is_wide_file m f) e where
  on : (b : Bool) → (if b then option_and_then (λ s. if is_port_source s then Some s else None) (copied m (KeptReg f i) before) else None) ≡ Some port → is_port_source port ≡ true
  on false e = absurd cc
  on true e = (port_only (copied m (KeptReg f i) before) port e).1

pub port_is : (m : Machine) (before : List Item) (x : Item) (port : ItemSource) → port_for m before x ≡ Some port → is_port_source port ≡ true
port_is m before (Long unit index value) port e = absurd cc
port_is m before (Move guard src dst) port e = on (shown_in_place_of m before src) refl e where
  on : (o : Option ItemSource) → shown_in_place_of m before src ≡ o → option_and_then (λ p. if joined m p dst guard then Some p else None) o ≡ Some port → is_port_source port ≡ true
  on None r e = absurd cc
  on (Some p) r e = shown_is_port m before src port (r ∙ ap (λ (q : ItemSource). Some q) (joined_only (joined m p dst guard) p port e))

-- ---- one item

pub bypassed_same : (u : Units) (m : Machine) (addr : List ℕ) (back : ℕ) (before : List Item) (x : Item) (h : Held) → Copies m addr before h.written
    → (does u m back h (effect_of addr (bypassed m before x)) ≡ does u m back h (effect_of addr x)) × (lacks m h (effect_of addr (bypassed m before x)) ≡ lacks m h (effect_of addr x))
bypassed_same u m addr back before x h copies = on (port_for m before x) refl where
  on : (o : Option ItemSource) → port_for m before x ≡ o
      → (does u m back h (effect_of addr (option_map_or (with_source x) o x)) ≡ does u m back h (effect_of addr x)) × (lacks m h (effect_of addr (option_map_or (with_source x) o x)) ≡ lacks m h (effect_of addr x))
  on None r = (refl, refl)
  on (Some port) r =
      let same = port_same m addr before h.written x port copies r in (
        ap (λ (e : Effect). does u m back h e) same.0 ∙ does_source u m back h (effect_of addr x) (linked addr port) same.1,
        ap (λ (e : Effect). lacks m h e) same.0 ∙ lacks_source m h (effect_of addr x) (linked addr port) same.1,
      )

-- ---- the list

pub bypass_keeps : (u : Units) (m : Machine) (addr : List ℕ) (back : ℕ) (before xs : List Item) (h : Held) → Copies m addr before h.written → means u m back h (map (effect_of addr) xs) ≡ true
    → (means u m back h (map (effect_of addr) (bypass_items m before xs)) ≡ true)
    × (does_all u m back h (map (effect_of addr) (bypass_items m before xs)) ≡ does_all u m back h (map (effect_of addr) xs))
bypass_keeps u m addr back before [] h copies ok = (refl, refl)
bypass_keeps u m addr back before (x ∷ xs) h copies ok =
    either (is_waiting h.exit)
    (λ w. (
      stuck_means u m back h (map (effect_of addr) (bypass_items m before (x ∷ xs))) w,
      stuck_all u m back h (map (effect_of addr) (bypass_items m before (x ∷ xs))) w ∙ sym (stuck_all u m back h (map (effect_of addr) (x ∷ xs)) w),
    ))
    (λ runs.
    let first = first_means u m back h (effect_of addr x) (map (effect_of addr) xs) runs ok in
    let same = bypassed_same u m addr back before x h copies in
    let fine : lacks m h (effect_of addr (bypassed m before x)) ≡ false = same.1 ∙ first.0 in
    let next = one_more u m addr back before (bypassed m before x) h runs fine copies in
    let next' = subst (λ (k : Held). Copies m addr (bypassed m before x ∷ before) k.written) same.0 next in
    let more = bypass_keeps u m addr back (bypassed m before x ∷ before) xs (does u m back h (effect_of addr x)) next' first.1 in
    let ys : List Effect = map (effect_of addr) (bypass_items m (bypassed m before x ∷ before) xs) in (
      and_from (is_waiting h.exit || not (lacks m h (effect_of addr (bypassed m before x)))) (means u m back (does u m back h (effect_of addr (bypassed m before x))) ys)
          (rw (runs, fine) refl) (subst (λ (k : Held). means u m back k ys ≡ true) (sym same.0) more.0),
      ap (λ (k : Held). does_all u m back k ys) same.0 ∙ more.1,
    ))

-- ---- its form

shown_port : (m : Machine) (before : List Item) (port : ItemSource) → is_port_source port ≡ true → shown_in_place_of m before port ≡ None
shown_port m before (Address block) e = refl
shown_port m before (Port (source.Reg f i)) e = absurd cc
shown_port m before (Port (source.Imm f i)) e = refl
shown_port m before (Port (source.Shown unit)) e = refl
shown_port m before (Port source.Ra) e = refl
shown_port m before (Port (source.Value w)) e = refl

-- an item that reads a port has none to read in place of it
port_done : (m : Machine) (before : List Item) (x : Item) (port : ItemSource) → is_port_source port ≡ true → port_for m before (with_source x port) ≡ None
port_done m before (Long unit index value) port e = refl
port_done m before (Move guard src dst) port e = rw (shown_port m before port e) refl

pub bypassed_done : (m : Machine) (before : List Item) (x : Item) → is_bypassable m before (bypassed m before x) ≡ false
bypassed_done m before x = on (port_for m before x) refl where
  on : (o : Option ItemSource) → port_for m before x ≡ o → is_some (port_for m before (option_map_or (with_source x) o x)) ≡ false
  on None r = rw r refl
  on (Some port) r = rw (port_done m before x port (port_is m before x port r)) refl

pub bypass_form : (m : Machine) (before xs : List Item) → none_after (is_bypassable m) before (bypass_items m before xs) ≡ true
bypass_form m before [] = refl
bypass_form m before (x ∷ xs) =
    and_from (not (is_bypassable m before (bypassed m before x))) _ (ap (λ (b : Bool). not b) (bypassed_done m before x)) (bypass_form m (bypassed m before x ∷ before) xs)
