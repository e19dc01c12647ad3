-- The bits of an instruction determine it.
use Rattle.std.proofs.Common.{◌≡◌, ℕ, suc, ◌+◌, ◌^◌, ◌<◌, ◌≤◌, Bool, true, false, not, ◌||◌, nat_lt, is_none, is_some, IsTrue, List, [], ◌∷◌, ◌++◌, length, map, take, drop, slice_get, Option, Some, None, option_map, refl, sym, ap, ◌∙◌, subst, arith}
use Rattle.std.specs.Option.{option_map_or}
use Rattle.std.specs.List.{sum_by, range_with_len, flat_map, AllByRecursion}
use Rattle.std.proofs.lemmas.Bool.{false≢true, and_parts, eqb-true, ltb-true}
use Rattle.std.proofs.lemmas.Option.{slice_get_within}
use Rattle.std.proofs.lemmas.List.{length-append, length-take-le, length-drop, take-append-drop, append_assoc, nil_from_length}
use Rattle.std.proofs.lemmas.List.Sums.{sum_by-cons}
use Rattle.tta_list.proofs.Lists.{all_one}
use Rattle.tta_image.specs.Cited.{Template, Machine, has_bit, joins, template_width, bus_width, taken_width, word_width, Ends, all_slots, IsMachine, Move, Long, Instruction, ends_of, taken, is_long, is_legal}
use Rattle.tta_arch.proofs.Layouts.{set_width_at, no_bus_in_none}
use Rattle.tta_arch.proofs.Widths.{pow_le}
use Rattle.tta_arch.proofs.Joined.{is_joined_at}
use Rattle.tta_code.proofs.LegalParts.{legal_parts}
use Rattle.tta_image.specs.Bits.{bits_of, slot_bits, slots_bits, template_code, long_bits, instruction_bits}
use Rattle.tta_image.specs.Fields.{buses_of}
use Rattle.tta_image.proofs.Unique.{split_same, length-bits_of, same_number}
use Rattle.tta_image.proofs.SlotLemmas.{length-slot_bits, is_joined_slot, slot_bits_tell, code_tells}

-- how many bits of a long immediate the buses from this one on have
abbrev pub left_from : Machine → (taken bus count : ℕ) → ℕ
left_from m taken bus count = sum_by (set_width_at m taken) (range_with_len bus count)

pub left_taken : (m : Machine) (taken bus count : ℕ) → has_bit taken bus ≡ true → left_from m taken bus (suc count) ≡ bus_width m bus + left_from m taken (bus + 1) count
left_taken m taken bus count is =
    let w : set_width_at m taken bus ≡ bus_width m bus = rw is refl in
    let s = sum_by-cons (set_width_at m taken) bus (range_with_len (bus + 1) count) in
    omega arith

pub left_kept : (m : Machine) (taken bus count : ℕ) → has_bit taken bus ≡ false → left_from m taken bus (suc count) ≡ left_from m taken (bus + 1) count
left_kept m taken bus count is =
    let w : set_width_at m taken bus ≡ 0 = rw is refl in
    let s = sum_by-cons (set_width_at m taken) bus (range_with_len (bus + 1) count) in
    omega arith

-- ---- how many bits

slots_length_by : (m : Machine) (taken bus : ℕ) (long : List Bool) (slot : Option Move) (slots : List (Option Move)) (b : Bool) → has_bit taken bus ≡ b
    → length long ≡ left_from m taken bus (suc (length slots))
    → ((l : List Bool) → length l ≡ left_from m taken (bus + 1) (length slots) → length (slots_bits m taken l (bus + 1) slots) ≡ sum_by (bus_width m) (range_with_len (bus + 1) (length slots)))
    → length (slots_bits m taken long bus (slot ∷ slots)) ≡ sum_by (bus_width m) (range_with_len bus (suc (length slots)))
slots_length_by m taken bus long slot slots true is many rest =
    let w : ℕ = bus_width m bus in
    let left = left_taken m taken bus (length slots) is in
    let dropped : length (drop w long) ≡ left_from m taken (bus + 1) (length slots) = let d = length-drop w long in omega arith in
    let front : length (take w long) ≡ w = length-take-le w long (omega arith) in
    let after = rest (drop w long) dropped in
    let both = length-append (take w long) (slots_bits m taken (drop w long) (bus + 1) slots) in
    let s = sum_by-cons (bus_width m) bus (range_with_len (bus + 1) (length slots)) in
    rw is (omega arith)
slots_length_by m taken bus long slot slots false is many rest =
    let left = left_kept m taken bus (length slots) is in
    let front = length-slot_bits m bus slot in
    let after = rest long (omega arith) in
    let both = length-append (slot_bits m bus slot) (slots_bits m taken long (bus + 1) slots) in
    let s = sum_by-cons (bus_width m) bus (range_with_len (bus + 1) (length slots)) in
    rw is (omega arith)

pub slots_length : (m : Machine) (taken bus : ℕ) (long : List Bool) (slots : List (Option Move)) → length long ≡ left_from m taken bus (length slots)
    → length (slots_bits m taken long bus slots) ≡ sum_by (bus_width m) (range_with_len bus (length slots))
slots_length m taken bus long [] many = refl
slots_length m taken bus long (slot ∷ slots) many =
    slots_length_by m taken bus long slot slots (has_bit taken bus) refl many (λ l h. slots_length m taken (bus + 1) l slots h)

-- ---- slots

-- whether a bus that is taken has no move
abbrev pub is_kept_slot : (taken bus : ℕ) → Option Move → Bool
is_kept_slot taken bus slot = is_none slot || not (has_bit taken bus)

-- what is legal of the slots from a bus on
abbrev pub AreLegal : Machine → (taken bus : ℕ) → List (Option Move) → Type 0
AreLegal m taken bus [] = Unit {0}
AreLegal m taken bus (s ∷ ss) = (is_kept_slot taken bus s ≡ true) × (is_joined_slot m bus s ≡ true) × AreLegal m taken (bus + 1) ss

kept_at : (taken bus : ℕ) (s : Option Move) → (is_none (option_map ends_of s) || not (has_bit taken bus)) ≡ true → is_kept_slot taken bus s ≡ true
kept_at taken bus None h = refl
kept_at taken bus (Some v) h = h

joined_at : (m : Machine) (bus : ℕ) (s : Option Move) → option_map_or (λ v. joins m bus v.src v.dst v.guard) (option_map ends_of s) true ≡ true → is_joined_slot m bus s ≡ true
joined_at m bus None h = refl
joined_at m bus (Some v) h = h

-- the rule of one bus that it has no move where a template takes it
abbrev keep_test : (taken : ℕ) → ℕ → Option Ends → Bool
keep_test taken bus o = is_none o || not (has_bit taken bus)

are_legal : (m : Machine) (taken bus : ℕ) (slots : List (Option Move)) → all_slots (keep_test taken) bus (map (option_map ends_of) slots) ≡ true
    → all_slots (is_joined_at m) bus (map (option_map ends_of) slots) ≡ true → AreLegal m taken bus slots
are_legal m taken bus [] k j = tt
are_legal m taken bus (s ∷ ss) k j =
    let kk = and_parts (keep_test taken bus (option_map ends_of s)) (all_slots (keep_test taken) (bus + 1) (map (option_map ends_of) ss)) k in
    let jj = and_parts (is_joined_at m bus (option_map ends_of s)) (all_slots (is_joined_at m) (bus + 1) (map (option_map ends_of) ss)) j in
    (kept_at taken bus s kk.0, joined_at m bus s jj.0, are_legal m taken (bus + 1) ss kk.1 jj.1)

pub empty_where_taken : (taken bus : ℕ) (s : Option Move) → has_bit taken bus ≡ true → is_kept_slot taken bus s ≡ true → s ≡ None
empty_where_taken taken bus None is kept = refl
empty_where_taken taken bus (Some v) is kept = absurd (false≢true (rw is at kept))

-- two instructions have the same bits of a long immediate and the same slots
abbrev Same : List Bool → List Bool → List (Option Move) → List (Option Move) → Type 0
Same long long' slots slots' = (long ≡ long') × (slots ≡ slots')

slots_tell_by : (m : Machine) (taken bus : ℕ) (long long' : List Bool) (s s' : Option Move) (ss ss' : List (Option Move)) (b : Bool) → IsMachine m → has_bit taken bus ≡ b
    → length ss ≡ length ss' → length long ≡ left_from m taken bus (suc (length ss)) → length long' ≡ left_from m taken bus (suc (length ss))
    → AreLegal m taken bus (s ∷ ss) → AreLegal m taken bus (s' ∷ ss')
    → ((l l' : List Bool) → length l ≡ left_from m taken (bus + 1) (length ss) → length l' ≡ left_from m taken (bus + 1) (length ss)
    → slots_bits m taken l (bus + 1) ss ≡ slots_bits m taken l' (bus + 1) ss' → Same l l' ss ss')
    → slots_bits m taken long bus (s ∷ ss) ≡ slots_bits m taken long' bus (s' ∷ ss') → Same long long' (s ∷ ss) (s' ∷ ss')
slots_tell_by m taken bus long long' s s' ss ss' true rules is same many many' legal legal' rest bits =
    let w : ℕ = bus_width m bus in
    let left = left_taken m taken bus (length ss) is in
    let front : length (take w long) ≡ w = length-take-le w long (omega arith) in
    let front' : length (take w long') ≡ w = length-take-le w long' (omega arith) in
    let dropped : length (drop w long) ≡ left_from m taken (bus + 1) (length ss) = let d = length-drop w long in omega arith in
    let dropped' : length (drop w long') ≡ left_from m taken (bus + 1) (length ss) = let d = length-drop w long' in omega arith in
    let cut : take w long ++ slots_bits m taken (drop w long) (bus + 1) ss ≡ take w long' ++ slots_bits m taken (drop w long') (bus + 1) ss' = rw is at bits in
    let parts = split_same (take w long) (take w long') (slots_bits m taken (drop w long) (bus + 1) ss) (slots_bits m taken (drop w long') (bus + 1) ss') (front ∙ sym front') cut in
    let after = rest (drop w long) (drop w long') dropped dropped' parts.1 in
    let none : s ≡ s' = empty_where_taken taken bus s is legal.0 ∙ sym (empty_where_taken taken bus s' is legal'.0) in (
      sym (take-append-drop w long) ∙ ap (λ (l : List Bool). l ++ drop w long) parts.0 ∙ ap (λ (l : List Bool). take w long' ++ l) after.0 ∙ take-append-drop w long',
      ap (λ (o : Option Move). o ∷ ss) none ∙ ap (λ (l : List (Option Move)). s' ∷ l) after.1,
    )
slots_tell_by m taken bus long long' s s' ss ss' false rules is same many many' legal legal' rest bits =
    let left = left_kept m taken bus (length ss) is in
    let cut : slot_bits m bus s ++ slots_bits m taken long (bus + 1) ss ≡ slot_bits m bus s' ++ slots_bits m taken long' (bus + 1) ss' = rw is at bits in
    let parts = split_same (slot_bits m bus s) (slot_bits m bus s') (slots_bits m taken long (bus + 1) ss) (slots_bits m taken long' (bus + 1) ss')
    (length-slot_bits m bus s ∙ sym (length-slot_bits m bus s')) cut in
    let after = rest long long' (omega arith) (omega arith) parts.1 in
    let one = slot_bits_tell m bus s s' rules legal.1 legal'.1 parts.0 in
    (after.0, ap (λ (o : Option Move). o ∷ ss) one ∙ ap (λ (l : List (Option Move)). s' ∷ l) after.1)

slots_tell : (m : Machine) (taken bus : ℕ) (long long' : List Bool) (slots slots' : List (Option Move)) → IsMachine m
    → length slots ≡ length slots' → length long ≡ left_from m taken bus (length slots) → length long' ≡ left_from m taken bus (length slots)
    → AreLegal m taken bus slots → AreLegal m taken bus slots'
    → slots_bits m taken long bus slots ≡ slots_bits m taken long' bus slots' → Same long long' slots slots'
slots_tell m taken bus long long' [] [] rules same many many' legal legal' bits = (nil_from_length long many ∙ sym (nil_from_length long' many'), refl)
slots_tell m taken bus long long' [] (s' ∷ ss') rules same many many' legal legal' bits = absurd (omega arith)
slots_tell m taken bus long long' (s ∷ ss) [] rules same many many' legal legal' bits = absurd (omega arith)
slots_tell m taken bus long long' (s ∷ ss) (s' ∷ ss') rules same many many' legal legal' bits =
    slots_tell_by m taken bus long long' s s' ss ss' (has_bit taken bus) rules refl (omega arith) many many' legal legal'
    (λ l l' h h' e. slots_tell m taken (bus + 1) l l' ss ss' rules (omega arith) h h' legal.2 legal'.2 e) bits

-- ---- the template and the long immediate

some_of : {X : Type 0} (o : Option X) → is_some o ≡ true → (x : X) × (o ≡ Some x)
some_of None h = absurd (false≢true h)
some_of (Some x) h = (x, refl)

pub template_inside : (m : Machine) (long : Option Long) → option_map_or (is_long m) long true ≡ true → template_code long < 1 + length m.templates
template_inside m None h = omega arith
template_inside m (Some l) h =
    let both = and_parts (is_some (slice_get m.templates l.template)) (nat_lt l.value (2 ^ 32)) h in
    let t = some_of (slice_get m.templates l.template) both.0 in
    let lt = slice_get_within m.templates l.template t.0 t.1 in
    omega arith

-- the word of a long immediate fits the buses that are taken
pub value_fits : (m : Machine) (l : Long) → IsMachine m → is_long m l ≡ true → l.value < 2 ^ taken_width m (buses_of m (Some l))
value_fits m l rules h =
    let both = and_parts (is_some (slice_get m.templates l.template)) (nat_lt l.value (2 ^ 32)) h in
    let t = some_of (slice_get m.templates l.template) both.0 in
    let wide : 32 ≤ taken_width m t.0.buses = all_one (λ (x : Template). 32 ≤ taken_width m x.buses) m.templates l.template t.0 rules.wide t.1 in
    let same : buses_of m (Some l) ≡ t.0.buses = ap (λ (o : Option Template). option_map_or (λ x. x.buses) o 0) t.1 in
    let small = ltb-true l.value (2 ^ 32) both.1 in
    let more = pow_le 32 (taken_width m t.0.buses) wide in
    let fits : l.value < 2 ^ taken_width m t.0.buses = omega arith in
    rw same fits

pub length-long_bits : (m : Machine) (long : Option Long) (count : ℕ) → count ≡ length m.buses → length (long_bits m (buses_of m long) long) ≡ left_from m (buses_of m long) 0 count
length-long_bits m None count e = sym (no_bus_in_none m (range_with_len 0 count))
length-long_bits m (Some l) count e =
    length-bits_of (taken_width m (buses_of m (Some l))) l.value ∙ ap (λ (n : ℕ). left_from m (buses_of m (Some l)) 0 n) (sym e)

-- ---- whole instructions

-- what is legal of an instruction's parts
pub record IsWhole (m : Machine) (moves : List (Option Move)) (long : Option Long) : Type 0 where
  pub count : length moves ≡ length m.buses
  pub template : option_map_or (is_long m) long true ≡ true
  pub slots : AreLegal m (buses_of m long) 0 moves

-- the bits of the instruction that has these moves and this long immediate
abbrev whole_bits : Machine → List (Option Move) → Option Long → List Bool
whole_bits m moves long = bits_of (template_width m) (template_code long) ++ slots_bits m (buses_of m long) (long_bits m (buses_of m long) long) 0 moves

long_from : (a b : Long) → a.template ≡ b.template → a.value ≡ b.value → a ≡ b
long_from a b t v =
    ap (λ (n : ℕ). let l : Long = record { template = n; value = a.value } in l) t
    ∙ ap (λ (n : ℕ). let l : Long = record { template = b.template; value = n } in l) v

slots_of_whole : (m : Machine) (moves moves' : List (Option Move)) (long long' : Option Long) → IsWhole m moves long → IsWhole m moves' long' → whole_bits m moves long ≡ whole_bits m moves' long'
    → (template_code long ≡ template_code long')
    × (slots_bits m (buses_of m long) (long_bits m (buses_of m long) long) 0 moves ≡ slots_bits m (buses_of m long') (long_bits m (buses_of m long') long') 0 moves')
slots_of_whole m moves moves' long long' h h' same =
    let parts = split_same (bits_of (template_width m) (template_code long)) (bits_of (template_width m) (template_code long'))
    (slots_bits m (buses_of m long) (long_bits m (buses_of m long) long) 0 moves) (slots_bits m (buses_of m long') (long_bits m (buses_of m long') long') 0 moves')
    (length-bits_of (template_width m) (template_code long) ∙ sym (length-bits_of (template_width m) (template_code long'))) same in (
      code_tells (1 + length m.templates) (template_width m) (template_code long) (template_code long') (template_inside m long h.template) (template_inside m long' h'.template) (omega arith) parts.0,
      parts.1,
    )

whole_tells : (m : Machine) (moves moves' : List (Option Move)) (long long' : Option Long) → IsMachine m → IsWhole m moves long → IsWhole m moves' long'
    → whole_bits m moves long ≡ whole_bits m moves' long' → (moves ≡ moves') × (long ≡ long')
whole_tells m moves moves' None None rules h h' same =
    let parts = slots_of_whole m moves moves' None None h h' same in
    let many = h.count in let many' = h'.count in
    let none = length-long_bits m None (length moves) many in
    let told = slots_tell m 0 0 [] [] moves moves' rules (omega arith) none none h.slots h'.slots parts.1 in
    (told.1, refl)
whole_tells m moves moves' None (Some l') rules h h' same =
    let parts = slots_of_whole m moves moves' None (Some l') h h' same in let e = parts.0 in absurd (omega arith)
whole_tells m moves moves' (Some l) None rules h h' same =
    let parts = slots_of_whole m moves moves' (Some l) None h h' same in let e = parts.0 in absurd (omega arith)
whole_tells m moves moves' (Some l) (Some l') rules h h' same =
    let parts = slots_of_whole m moves moves' (Some l) (Some l') h h' same in
    let code = parts.0 in
    let template : l.template ≡ l'.template = omega arith in
    let many = h.count in let many' = h'.count in
    let mask : ℕ = buses_of m (Some l) in
    let one : buses_of m (Some l') ≡ mask = ap (λ (n : ℕ). option_map_or (λ t. t.buses) (slice_get m.templates n) 0) (sym template) in
    let legal' : AreLegal m mask 0 moves' = subst (λ (t : ℕ). AreLegal m t 0 moves') one h'.slots in
    let wide : length (bits_of (taken_width m mask) l.value) ≡ left_from m mask 0 (length moves) = length-long_bits m (Some l) (length moves) many in
    let wide' : length (bits_of (taken_width m mask) l'.value) ≡ left_from m mask 0 (length moves) =
    length-bits_of (taken_width m mask) l'.value ∙ sym (length-bits_of (taken_width m mask) l.value) ∙ wide in
    let bits = parts.1 ∙ ap (λ (t : ℕ). slots_bits m t (bits_of (taken_width m t) l'.value) 0 moves') one in
    let told = slots_tell m mask 0 (bits_of (taken_width m mask) l.value) (bits_of (taken_width m mask) l'.value) moves moves' rules (omega arith) wide wide' h.slots legal' bits in
    let fits = value_fits m l rules h.template in
    let fits' : l'.value < 2 ^ taken_width m mask = subst (λ (t : ℕ). l'.value < 2 ^ taken_width m t) one (value_fits m l' rules h'.template) in
    let value = same_number (taken_width m mask) l.value l'.value fits fits' told.0 in
    (told.1, ap (λ (x : Long). Some x) (long_from l l' template value))

pub whole_of : (m : Machine) (i : Instruction) → is_legal m i ≡ true → IsWhole m i.moves i.long
whole_of m i h =
    let parts = legal_parts m i h in
    record {
      count = eqb-true (length i.moves) (length m.buses) parts.count;
      template = parts.long;
      slots = are_legal m (taken m i) 0 i.moves parts.kept parts.joined;
    }

-- the bits of a legal instruction determine it
pub instruction_tells : (m : Machine) (i j : Instruction) → IsMachine m → is_legal m i ≡ true → is_legal m j ≡ true → instruction_bits m i ≡ instruction_bits m j → i ≡ j
unfolding instruction_bits
instruction_tells m i j rules hi hj same =
    let parts = whole_tells m i.moves j.moves i.long j.long rules (whole_of m i hi) (whole_of m j hj) same in
    ap (λ (s : List (Option Move)). let x : Instruction = record { moves = s; long = i.long } in x) parts.0
    ∙ ap (λ (l : Option Long). let x : Instruction = record { moves = j.moves; long = l } in x) parts.1

-- a legal instruction has as many bits as the machine says
pub length-instruction_bits : (m : Machine) (i : Instruction) → is_legal m i ≡ true → length (instruction_bits m i) ≡ word_width m
unfolding instruction_bits
length-instruction_bits m i h =
    let whole = whole_of m i h in
    let count = whole.count in
    let template = length-bits_of (template_width m) (template_code i.long) in
    let slots = slots_length m (buses_of m i.long) 0 (long_bits m (buses_of m i.long) i.long) i.moves (length-long_bits m i.long (length i.moves) count) in
    let both = length-append (bits_of (template_width m) (template_code i.long)) (slots_bits m (buses_of m i.long) (long_bits m (buses_of m i.long) i.long) 0 i.moves) in
    let buses = ap (λ (n : ℕ). sum_by (bus_width m) (range_with_len 0 n)) count in
    omega arith

-- instructions are determined by their bits, whatever stands after them
pub words_tell : (m : Machine) (is js : List Instruction) (r r' : List Bool) → IsMachine m → AllByRecursion (λ i. IsTrue (is_legal m i)) is → AllByRecursion (λ i. IsTrue (is_legal m i)) js
    → length is ≡ length js → flat_map (instruction_bits m) is ++ r ≡ flat_map (instruction_bits m) js ++ r' → is ≡ js
words_tell m [] [] r r' rules hi hj same bits = refl
words_tell m [] (j ∷ js) r r' rules hi hj same bits = absurd (omega arith)
words_tell m (i ∷ is) [] r r' rules hi hj same bits = absurd (omega arith)
words_tell m (i ∷ is) (j ∷ js) r r' rules hi hj same bits =
    let parts = split_same (instruction_bits m i) (instruction_bits m j) (flat_map (instruction_bits m) is ++ r) (flat_map (instruction_bits m) js ++ r')
    (length-instruction_bits m i hi.0 ∙ sym (length-instruction_bits m j hj.0))
    (sym (append_assoc (instruction_bits m i) (flat_map (instruction_bits m) is) r) ∙ bits ∙ append_assoc (instruction_bits m j) (flat_map (instruction_bits m) js) r') in
    ap (λ (x : Instruction). x ∷ is) (instruction_tells m i j rules hi.0 hj.0 parts.0)
    ∙ ap (λ (l : List Instruction). j ∷ l) (words_tell m is js r r' rules hi.1 hj.1 (omega arith) parts.1)
