-- A machine on which all rules hold joins what selection asks for.
use Rattle.std.proofs.Common.{◌≡◌, ◌<◌, ◌≤◌, ◌+◌, ◌-◌, ◌/◌, ◌^◌, ◌⊎◌, inl, inr, ℕ, zero, suc, Bool, true, false, List, [], ◌∷◌, ◌++◌, Option, Some, None, refl, sym, ap, subst, arith, ◌∙◌, length, slice_get, is_some, add-zero}
use Rattle.std.specs.Prelude.{if◌then◌else◌, find, ◌==◌, ◌&&◌, ◌||◌, nat_lt, nat_le, not}
use Rattle.std.specs.Option.{option_map_or}
use Rattle.std.specs.List.{list_any, range_with_len}
use Rattle.std.proofs.lemmas.Bool.{and_parts, or_right}
use Rattle.std.proofs.lemmas.Bool.Decides.{nat_tests}
use Rattle.std.proofs.lemmas.Option.{slice_get_within}
use Rattle.tta_select.specs.Cited.{Bus, File, Op, Stf, GuardRef, Dest, Machine, has_result, source_socket, dest_socket, has_socket, holds_word, is_source_on, is_dest_on, has_guard, joins, IsMachine, Choice, Call, buses_of, some_bus, from, into, brings_all, has_senses, hub_feeds, is_usable, is_usable_at, offered, registers_from, is_home_file, homes_from, IsChoice, ItemSource, Port, carried, joined}
use Rattle.tta_arch.specs.declared.parts.Template.{Template as Field}
use Rattle.tta_arch.specs.declared.ends.Source.TheVariants as source
use Rattle.tta_arch.specs.declared.ends.Dest.TheVariants as dest
use Rattle.tta_moves.proofs.Places.{either}
use Rattle.tta_select.specs.Select.{filled, call_of, operand_at, trigger_at, shown_at, hub_at, from_hub, home_pair, home_at, from_home, long_for}
use Rattle.tta_select.specs.Reaches.{guard_by, HasJoins}
use Rattle.tta_select.proofs.Offers.{Offered, offered_there, three}
use Rattle.tta_select.proofs.HomeLists.{Each, each_append, register_at, registers_size}
use Rattle.tta_select.proofs.Covering.{Hub, hub_there, Guarding, guard_there}

any_weaker : (p q : ℕ → Bool) (xs : List ℕ) → ((x : ℕ) → p x ≡ true → q x ≡ true) → list_any p xs ≡ true → list_any q xs ≡ true
any_weaker p q [] weaker e = absurd cc
any_weaker p q (x ∷ xs) weaker e = either (p x) (λ a. let b = weaker x a in rw b refl) (λ a. or_right (q x) _ (any_weaker p q xs weaker (rw a at e)))

-- the registers of a file share the same sockets
into_socket : (m : Machine) (f i : ℕ) (file : File) → slice_get m.files f ≡ Some file → nat_lt i file.size ≡ true → dest_socket m (dest.Reg f i) ≡ Some file.into
into_socket m f i file there low = rw (there, low) refl

out_socket : (m : Machine) (f i : ℕ) (file : File) → slice_get m.files f ≡ Some file → nat_lt i file.size ≡ true → source_socket m (source.Reg f i) ≡ Some file.out
out_socket m f i file there low = rw (there, low) refl

same_into : (m : Machine) (s : ItemSource) (d e : Dest) (g : Option GuardRef) → dest_socket m d ≡ dest_socket m e → joined m s d g ≡ joined m s e g
same_into m s d e g same = ap (λ o. list_any (λ bus. is_source_on m bus (carried m s) && has_socket m true o bus && has_guard m bus g) (range_with_len 0 (length m.buses))) same

same_out : (m : Machine) (f i j : ℕ) (d : Dest) (g : Option GuardRef) → source_socket m (source.Reg f i) ≡ source_socket m (source.Reg f j) → joined m (Port (source.Reg f i)) d g ≡ joined m (Port (source.Reg f j)) d g
same_out m f i j d g same = ap (λ o. list_any (λ bus. has_socket m false o bus && is_dest_on m bus d && has_guard m bus g) (range_with_len 0 (length m.buses))) same

-- any two registers of two files are joined where the first ones are
registers_joined : (m : Machine) (f h i k : ℕ) (a b : File) (g : Option GuardRef) → slice_get m.files f ≡ Some a → slice_get m.files h ≡ Some b → nat_lt i a.size ≡ true → nat_lt 0 a.size ≡ true → nat_lt k b.size ≡ true → nat_lt 0 b.size ≡ true
    → joined m (Port (source.Reg f 0)) (dest.Reg h 0) g ≡ true → joined m (Port (source.Reg f i)) (dest.Reg h k) g ≡ true
registers_joined m f h i k a b g fa hb li la lk lb e =
    same_out m f i 0 (dest.Reg h k) g (out_socket m f i a fa li ∙ sym (out_socket m f 0 a fa la))
    ∙ same_into m (Port (source.Reg f 0)) (dest.Reg h k) (dest.Reg h 0) g (into_socket m h k b hb lk ∙ sym (into_socket m h 0 b hb lb)) ∙ e

four : (a b d e : Bool) → (a && b && d && e) ≡ true → (a ≡ true) × (b ≡ true) × (d ≡ true) × (e ≡ true)
four true true true true f = (refl, refl, refl, refl)
four true true true false f = absurd cc
four true true false e f = absurd cc
four true false d e f = absurd cc
four false b d e f = absurd cc

-- ---- words

wide_holds : (b : Bus) (word : ℕ) → (b.short == 32) ≡ true → word < 2 ^ 32 → holds_word b word ≡ true
wide_holds b word wide low = let short : b.short ≡ 32 = grind (arith, nat_tests) in rw short (on b.signed) where
  unsigned : nat_lt word (2 ^ 32) ≡ true
  unsigned = grind (arith, nat_tests)

  small : word / 2147483648 < 2
  small = omega (arith, low)

  high : (n : ℕ) → n < 2 → (n == 0 || n == 1) ≡ true
  high zero l = refl
  high (suc zero) l = refl
  high (suc (suc n)) l = absurd (omega (arith, l))

  on : (s : Bool) → (if s then word / 2147483648 == 0 || word / 2147483648 == 1 else nat_lt word (2 ^ 32)) ≡ true
  on true = high (word / 2147483648) small
  on false = unsigned

some_template : (m : Machine) (dst : Dest) (ts : List Field) → list_any (λ t. joined m (filled t) dst None) ts ≡ true → is_some (find (λ t. joined m (filled t) dst None) ts) ≡ true
some_template m dst [] e = absurd cc
some_template m dst (t ∷ ts) e = either (joined m (filled t) dst None) (λ a. rw a refl) (λ a. rw a (some_template m dst ts (rw a at e)))

module _ (m : Machine) (c : Choice) (rules : IsMachine m) (choice : IsChoice m c) where
  h : Hub m c.hub
  h = hub_there m c.hub choice.hub

  in_hub : (i : ℕ) → i < 3 → nat_lt i h.file.size ≡ true
  in_hub i low = let big : nat_le 3 h.file.size ≡ true = h.big in let l : 3 ≤ h.file.size = grind (arith, nat_tests) in let n : i < h.file.size = omega (arith, low, l) in grind (arith, nat_tests)

  hub_to : (i k : ℕ) → i < 3 → k < 3 → joined m (from_hub m c i) (hub_at m c k) None ≡ true
  hub_to i k li lk = registers_joined m c.hub c.hub i k h.file h.file None h.there h.there (in_hub i li) (in_hub 0 (omega arith)) (in_hub k lk) (in_hub 0 (omega arith)) h.self

  -- ---- units

  called : (op : Op) → is_some (offered m c.usable op) ≡ true → Offered m c.usable op (call_of m c op)
  called op e = on (offered m c.usable op) refl e where
    on : (o : Option Call) → offered m c.usable op ≡ o → is_some o ≡ true → Offered m c.usable op (call_of m c op)
    on None is e = absurd cc
    on (Some f) is e = let same : call_of m c op ≡ f = rw is refl in subst (λ f. Offered m c.usable op f) (sym same) (offered_there m rules c.usable op f is)

  feeds : (d : Dest) (socket : ℕ) → hub_feeds m c.hub socket ≡ true → dest_socket m d ≡ Some socket → joined m (from_hub m c 0) d None ≡ true
  feeds d socket e is = same_socket (any_weaker (λ bus. is_source_on m bus (from c.hub) && has_socket m true (Some socket) bus) (λ bus. is_source_on m bus (from c.hub) && has_socket m true (Some socket) bus && true) (buses_of m)
      (λ bus a. rw a refl) e) where
        same_socket : list_any (λ bus. is_source_on m bus (from c.hub) && has_socket m true (Some socket) bus && true) (buses_of m) ≡ true → joined m (from_hub m c 0) d None ≡ true
        same_socket a = ap (λ o. list_any (λ bus. is_source_on m bus (from c.hub) && has_socket m true o bus && true) (buses_of m)) is ∙ a

  usable : (op : Op) (e : is_some (offered m c.usable op) ≡ true)
      → let f = called op e in (option_map_or (hub_feeds m c.hub) f.unit.operand true ≡ true) × (hub_feeds m c.hub f.unit.trigger ≡ true)
      × (option_map_or (λ socket. some_bus m (source.Shown (call_of m c op).unit) (into c.hub) None) f.unit.result true ≡ true)
  usable op e =
      let f = called op e in
      let a : is_usable_at m c.hub (call_of m c op).unit ≡ true = sym (choice.usable (call_of m c op).unit) ∙ f.is_in in
      let b : is_usable m c.hub (call_of m c op).unit f.unit ≡ true = sym (ap (λ o. option_map_or (is_usable m c.hub (call_of m c op).unit) o false) f.has) ∙ a in
      three _ _ _ b

  to_trigger : (op : Op) → is_some (offered m c.usable op) ≡ true → joined m (from_hub m c 0) (trigger_at (call_of m c op)) None ≡ true
  to_trigger op e =
      let f = called op e in
      let low : (call_of m c op).op < length f.unit.ops = slice_get_within f.unit.ops (call_of m c op).op (call_of m c op).does f.number in
      let inside : nat_lt (call_of m c op).op (length f.unit.ops) ≡ true = grind (arith, nat_tests) in
      let has = f.has in
      feeds (trigger_at (call_of m c op)) f.unit.trigger (usable op e).1 (rw (has, inside) refl)

  some_there : {A : Type 0} (o : Option A) → is_some o ≡ true → (x : A) × (o ≡ Some x)
  some_there None e = absurd cc
  some_there (Some x) e = (x, refl)

  to_operand : (op : Op) → is_some (offered m c.usable op) ≡ true → ((call_of m c op).does.arity == 2) ≡ true → joined m (from_hub m c 0) (operand_at (call_of m c op)) None ≡ true
  to_operand op e two =
      let f = called op e in
      let not_one : ((call_of m c op).does.arity == 1) ≡ false = grind (arith, nat_tests) in
      let o = some_there f.unit.operand (rw not_one at f.operand) in
      let has = f.has in
      let is = o.1 in
      feeds (operand_at (call_of m c op)) o.0 (rw is at (usable op e).0) (rw has is)

  of_shown : (op : Op) → is_some (offered m c.usable op) ≡ true → has_result op ≡ true → joined m (shown_at (call_of m c op)) (hub_at m c 0) None ≡ true
  of_shown op e has =
      let f = called op e in
      let r : has_result (call_of m c op).does.op ≡ true = ap (λ q. has_result q) f.is ∙ has in
      let o = some_there f.unit.result (rw r at f.result) in
      let is = o.1 in
      rw is at (usable op e).2

  -- ---- homes

  -- a home register: its file is joined to the hub both ways, and it is no scratch register
  record Home (p : ℕ × ℕ) : Type 0 where
    pub file : File
    pub there : slice_get m.files p.0 ≡ Some file
    pub low : nat_lt p.1 file.size ≡ true
    pub first : nat_lt 0 file.size ≡ true
    pub to : some_bus m (from c.hub) (into p.0) None ≡ true
    pub of : some_bus m (from p.0) (into c.hub) None ≡ true
    pub plain : (c.hub == p.0 && nat_lt p.1 3) ≡ false

  within : (P : ℕ × ℕ → Type 0) (file index count : ℕ) → ((i : ℕ) → index ≤ i → i < index + count → P (file, i)) → Each P (registers_from file index count)
  within P file index count all k low =
      let inside : k < count = subst (λ n. k < n) (registers_size file index count) low in
      subst P (sym (register_at file index count k inside)) (all (index + k) (omega arith) (omega (arith, inside)))

  hub_home : (i : ℕ) → 3 ≤ i → i < 3 + (h.file.size - 3) → Home (c.hub, i)
  hub_home i low high = record {
    file = h.file;
    there = h.there;
    low = inside;
    first = in_hub 0 (omega arith);
    to = h.self;
    of = h.self;
    plain = past;
  } where
    inside : nat_lt i h.file.size ≡ true
    inside = let big : nat_le 3 h.file.size ≡ true = h.big in let l : 3 ≤ h.file.size = grind (arith, nat_tests) in let n : i < h.file.size = omega (arith, high, l) in grind (arith, nat_tests)

    past : (c.hub == c.hub && nat_lt i 3) ≡ false
    past = let n : nat_lt i 3 ≡ false = grind (arith, nat_tests) in rw n (no (c.hub == c.hub)) where
      no : (b : Bool) → (b && false) ≡ false
      no true = refl
      no false = refl

  other_home : (file : ℕ) (f : File) → slice_get m.files file ≡ Some f → is_home_file m c.hub file f ≡ true → (i : ℕ) → i < f.size → Home (file, i)
  other_home file f there e i low =
      let a = four _ _ _ _ e in
      let other : (c.hub == file) ≡ false = turned a.0 in
      record {
        file = f;
        there = there;
        low = grind (arith, nat_tests);
        first = (let z : 0 < f.size = omega (arith, low) in grind (arith, nat_tests));
        to = a.3;
        of = a.2;
        plain = rw other refl;
      } where
        turned : not (file == c.hub) ≡ true → (c.hub == file) ≡ false
        turned n = either (c.hub == file) (λ x. let same : c.hub ≡ file = grind (arith, nat_tests) in absurd (clash (sym same) n)) (λ x. x) where
          clash : file ≡ c.hub → not (file == c.hub) ≡ true → ⊥
          clash same n = let t : (file == c.hub) ≡ true = grind (arith, nat_tests) in let z : false ≡ true = rw t at n in cc

  file_homes : (file : ℕ) (f : File) → slice_get m.files file ≡ Some f → (t : Bool) → is_home_file m c.hub file f ≡ t → Each Home (if t then registers_from file 0 f.size else [])
  file_homes file f there true e = within Home file 0 f.size (λ i low high. other_home file f there e i (omega (arith, high)))
  file_homes file f there false e = λ k low. absurd (omega (arith, low))

  files_homes : (fs : List File) (file : ℕ) → ((i : ℕ) (f : File) → slice_get fs i ≡ Some f → slice_get m.files (file + i) ≡ Some f) → Each Home (homes_from m c.hub file fs)
  files_homes [] file there = λ k low. absurd (omega (arith, low))
  files_homes (f ∷ fs) file there =
      let first : slice_get m.files file ≡ Some f = ap (λ i. slice_get m.files i) (sym (add-zero file)) ∙ there 0 f refl in
      each_append Home (if is_home_file m c.hub file f then registers_from file 0 f.size else []) (homes_from m c.hub (file + 1) fs) (file_homes file f first (is_home_file m c.hub file f) refl)
      (files_homes fs (file + 1) (λ i g e. let same : file + 1 + i ≡ file + suc i = omega arith in ap (λ j. slice_get m.files j) same ∙ there (suc i) g e))

  all_homes : Each Home c.homes
  all_homes =
      let eq : c.homes ≡ registers_from c.hub 3 (h.file.size - 3) ++ homes_from m c.hub 0 m.files =
      choice.homes ∙ ap (λ o. option_map_or (λ f. registers_from c.hub 3 (f.size - 3)) o [] ++ homes_from m c.hub 0 m.files) h.there in
      subst (λ zs. Each Home zs) (sym eq)
      (each_append Home (registers_from c.hub 3 (h.file.size - 3)) (homes_from m c.hub 0 m.files) (within Home c.hub 3 (h.file.size - 3) hub_home)
      (files_homes m.files 0 (λ i q e. let same : 0 + i ≡ i = omega arith in ap (λ j. slice_get m.files j) same ∙ e)))

  to_home : (i k : ℕ) → i < 3 → k < length c.homes → joined m (from_hub m c i) (home_at m c k) None ≡ true
  to_home i k li low = let a = all_homes k low in registers_joined m c.hub (home_pair m c k).0 i (home_pair m c k).1 h.file a.file None h.there a.there (in_hub i li) (in_hub 0 (omega arith)) a.low a.first a.to

  of_home : (i k : ℕ) → i < 3 → k < length c.homes → joined m (from_home m c k) (hub_at m c i) None ≡ true
  of_home i k li low = let a = all_homes k low in registers_joined m (home_pair m c k).0 c.hub (home_pair m c k).1 i a.file h.file None a.there h.there a.low a.first (in_hub i li) (in_hub 0 (omega arith)) a.of

  -- ---- the guard

  guarding : Guarding m c.hub c.guard_file c.guard_index
  guarding = guard_there m c.hub c.guard_file c.guard_index choice.guard

  senses : (some_bus m (from c.hub) (dest.Reg c.guard_file c.guard_index) None ≡ true) × (has_senses m c.hub c.guard_file c.guard_index dest.Jump ≡ true) × (has_senses m c.hub c.guard_file c.guard_index (into c.hub) ≡ true)
  senses = let a = guarding.can in three _ _ _ a

  sense_of : (d : Dest) → has_senses m c.hub c.guard_file c.guard_index d ≡ true → (i : Bool) → joined m (from_hub m c 0) d (Some (guard_by c i)) ≡ true
  sense_of d e true = (and_parts _ _ e).1
  sense_of d e false = (and_parts _ _ e).0

  hub_if : (i : Bool) → joined m (from_hub m c 0) (hub_at m c 1) (Some (guard_by c i)) ≡ true
  hub_if i = registers_joined m c.hub c.hub 0 1 h.file h.file (Some (guard_by c i)) h.there h.there (in_hub 0 (omega arith)) (in_hub 0 (omega arith)) (in_hub 1 (omega arith)) (in_hub 0 (omega arith)) (sense_of (into c.hub) senses.2 i)

  -- ---- words

  short_word : (word bus : ℕ) → word < 2 ^ 32 → brings_all m c.hub bus ≡ true → joins m bus (source.Value word) (into c.hub) None ≡ true
  short_word word bus low e = on (slice_get m.buses bus) (and_parts _ _ e).0 (and_parts _ _ e).1 where
    on : (o : Option Bus) → option_map_or (λ b. b.short == 32) o false ≡ true → is_dest_on m bus (into c.hub) ≡ true → (option_map_or (λ b. holds_word b word) o false && is_dest_on m bus (into c.hub) && true) ≡ true
    on None wide d = absurd cc
    on (Some b) wide d = let w = wide_holds b word wide low in rw (w, d) refl

  words : (word : ℕ) → word < 2 ^ 32 → (joined m (Port (source.Value word)) (hub_at m c 0) None ≡ true) ⊎ (is_some (long_for m c (hub_at m c 0) None) ≡ true)
  words word low = either (list_any (brings_all m c.hub) (buses_of m))
      (λ a. inl (any_weaker (brings_all m c.hub) (λ bus. joins m bus (source.Value word) (into c.hub) None) (buses_of m) (λ bus e. short_word word bus low e) a))
      (λ a. let both : (list_any (brings_all m c.hub) (buses_of m) || list_any (λ t. some_bus m (source.Imm t.imm t.reg) (into c.hub) None) m.templates) ≡ true = choice.words in
      inr (some_template m (hub_at m c 0) m.templates (rw a at both)))

  -- ---- all

  stored : is_some (offered m c.usable Stf) ≡ true
  stored = (and_parts _ _ choice.frame).1

  store_at : joined m (from_hub m c 1) (trigger_at (call_of m c Stf)) None ≡ true
  store_at = same_out m c.hub 1 0 (trigger_at (call_of m c Stf)) None (out_socket m c.hub 1 h.file h.there (in_hub 1 (omega arith)) ∙ sym (out_socket m c.hub 0 h.file h.there (in_hub 0 (omega arith)))) ∙ to_trigger Stf stored

  pub has_joins : HasJoins m c
  has_joins = record {
    operand = to_operand;
    trigger = to_trigger;
    shown = of_shown;
    to_home = λ k low. to_home 0 k (omega arith) low;
    of_home = λ k low. of_home 0 k (omega arith) low;
    plain_home = λ k low. (all_homes k low).plain;
    guard = senses.0;
    jump = guarding.jump;
    call = guarding.jump;
    halt = guarding.jump;
    jump_if = λ i. sense_of dest.Jump senses.1 i;
    hub_if = hub_if;
    to_one = hub_to 0 1 (omega arith) (omega arith);
    back = choice.back;
    one_home = λ k low. to_home 1 k (omega arith) low;
    home_one = λ k low. of_home 1 k (omega arith) low;
    one_store = store_at;
    words = words;
  }
