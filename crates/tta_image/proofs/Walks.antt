-- Walks over the buses of a word, and over the words of an image, item by item.
use Rattle.std.proofs.Common.{◌≡◌, ℕ, zero, suc, ◌+◌, ◌*◌, ◌^◌, ◌<◌, ◌≤◌, Bool, true, false, nat_lt, if◌then◌else◌, List, [], ◌∷◌, ◌++◌, length, get_or, take, drop, Option, Some, None, Result, Ok, Err, refl, sym, ap, ◌∙◌, subst, arith}
use Rattle.std.specs.List.{sum_by}
use Rattle.std.proofs.lemmas.Option.{none-some, same_Some}
use Rattle.std.proofs.lemmas.Bool.{le-ltb, lt-ltb, ltb-true, ltb-false}
use Rattle.std.proofs.lemmas.List.{append_assoc, append-nil, length-append, length-take-le, drop-drop, drop_more}
use Rattle.std.proofs.lemmas.List.Sums.{sum_by-drop_more}
use Rattle.std.proofs.lemmas.Nat.{pow-add, pow_pos, mul-le}
use Rattle.tta_image.specs.Cited.{or_refuse, BusFields, Machine, has_bit, Move, Long}
use Rattle.tta_parse.specs.Steps.{◌>>=◌}
use Rattle.tta_image.specs.declared.refusal.ImageError.{ImageError}
use Rattle.tta_image.specs.declared.refusal.ImageError.TheVariants.{Refused, NoMemory}
use Rattle.tta_image.specs.Narrow.{IsNarrow, AreNarrow}
use Rattle.tta_image.specs.Decoding.{number_of, taken_by, taken_bits, least_bus, word_only, decoded_long, decoded_bus, decoded_slots}
use Rattle.tta_image.specs.declared.refusal.ImageRefusal.TheVariants.{Field}
use Rattle.tta_image.specs.Refusals.{of_word, Answers}
use Rattle.tta_image.proofs.Numbers.{number_of-append}

-- ---- answers

-- an answer that is just what is said
pub answers_same : {A : Type 0} (answer said : Result A ImageError) → answer ≡ said → Answers answer said
answers_same {A = A} answer said same = subst (λ (r : Result A ImageError). Answers answer r) same (itself answer) where
  itself : (r : Result A ImageError) → Answers r r
  itself (Ok x) = refl
  itself (Err NoMemory) = tt
  itself (Err (Refused code word bus)) = refl

-- ---- buses

-- the fields of one bus
pub narrow_at : (fs : List BusFields) (i : ℕ) (d : BusFields) → AreNarrow fs → i < length fs → IsNarrow (get_or fs i d)
narrow_at [] i d all h = absurd (omega arith)
narrow_at (f ∷ fs) zero d all h = all.0
narrow_at (f ∷ fs) (suc i) d all h = narrow_at fs i d all.1 (omega arith)

-- a bus and those after it
abbrev pub widths : List BusFields → ℕ
widths fs = sum_by (λ f. f.width) fs

pub width_step : (fs : List BusFields) (i : ℕ) (f : BusFields) (at most : ℕ) → i < length fs → f ≡ get_or fs i f → at + widths (drop i fs) ≤ most
    → at + f.width + widths (drop (i + 1) fs) ≤ most
width_step fs i f at most h is room =
    let e = sum_by-drop_more (λ (x : BusFields). x.width) fs i f h in
    let w = ap (λ (x : BusFields). x.width) is in
    omega arith

-- the fields that an index gives, before the others
pub fields_step : (fs : List BusFields) (i : ℕ) (f : BusFields) → i < length fs → f ≡ get_or fs i f → drop i fs ≡ f ∷ drop (i + 1) fs
fields_step fs i f h is = drop_more fs i f h ∙ ap (λ (x : BusFields). x ∷ drop (i + 1) fs) (sym is)

-- ---- lists that grow at their end

-- what is said of the rest, with what is there already before it
abbrev pub with_front : {A E : Type 0} → List A → Result (List A) E → Result (List A) E
with_front front r = r >>= λ xs. Ok (front ++ xs)

pub front_more : {A E : Type 0} (front : List A) (x : A) (r : Result (List A) E) → with_front front (r >>= λ xs. Ok (x ∷ xs)) ≡ with_front (front ++ x ∷ []) r
front_more {A = A} front x (Ok xs) = ap (λ (l : List A). Ok l) (sym (append_assoc front (x ∷ []) xs))
front_more front x (Err e) = refl

-- ---- the slots

-- one bus more
pub slots_more : (m : Machine) (word taken bus : ℕ) (f : BusFields) (fs : List BusFields) (bits : List Bool) (slot : Option Move) (moves moves' : List (Option Move))
    (all : Result (List (Option Move)) ImageError) → decoded_bus m word taken bus f bits ≡ Ok slot → moves' ≡ moves ++ slot ∷ []
    → with_front moves (decoded_slots m word taken bus (f ∷ fs) bits) ≡ all → with_front moves' (decoded_slots m word taken (bus + 1) fs (drop f.width bits)) ≡ all
slots_more m word taken bus f fs bits slot moves moves' all said pushed was =
    let rest : Result (List (Option Move)) ImageError = decoded_slots m word taken (bus + 1) fs (drop f.width bits) in
    ap (λ (l : List (Option Move)). with_front l rest) pushed ∙ sym (front_more moves slot rest)
    ∙ ap (λ (r : Result (Option Move) ImageError). with_front moves (r >>= λ slot. rest >>= λ slots. Ok (slot ∷ slots))) (sym said) ∙ was

-- a bus whose slot is refused
pub slots_stop : (m : Machine) (word taken bus : ℕ) (f : BusFields) (fs : List BusFields) (bits : List Bool) (e : ImageError) (moves : List (Option Move))
    (all : Result (List (Option Move)) ImageError) → decoded_bus m word taken bus f bits ≡ Err e
    → with_front moves (decoded_slots m word taken bus (f ∷ fs) bits) ≡ all → Err e ≡ all
slots_stop m word taken bus f fs bits e moves all said was =
    ap (λ (r : Result (Option Move) ImageError). with_front moves (r >>= λ slot. decoded_slots m word taken (bus + 1) fs (drop f.width bits) >>= λ slots. Ok (slot ∷ slots))) (sym said) ∙ was

-- no bus is left
pub slots_end : (m : Machine) (word taken bus : ℕ) (fs : List BusFields) (bits : List Bool) (moves : List (Option Move)) (all : Result (List (Option Move)) ImageError)
    → fs ≡ [] → with_front moves (decoded_slots m word taken bus fs bits) ≡ all → Ok moves ≡ all
slots_end m word taken bus fs bits moves all none was =
    ap (λ (l : List (Option Move)). Ok l) (sym (append-nil moves)) ∙ ap (λ (l : List BusFields). with_front moves (decoded_slots m word taken bus l bits)) (sym none) ∙ was

-- ---- the long immediate

-- the number of what is read and of what is left
abbrev pub number_with : (value : ℕ) → (rest : List Bool) → ℕ
number_with value rest = value * 2 ^ length rest + number_of rest

joined : (value : ℕ) (own rest : List Bool) → number_with value (own ++ rest) ≡ number_with (value * 2 ^ length own + number_of own) rest
joined value own rest =
    let n = number_of-append own rest in
    let p : 2 ^ length (own ++ rest) ≡ 2 ^ length own * 2 ^ length rest = ap (λ (k : ℕ). 2 ^ k) (length-append own rest) ∙ pow-add 2 (length own) (length rest) in
    let q : value * 2 ^ length (own ++ rest) ≡ value * (2 ^ length own * 2 ^ length rest) = ap (λ (k : ℕ). value * k) p in
    grind arith

-- the number of what is read after a bus
abbrev pub value_after_bus : (is_taken : Bool) → (width value share : ℕ) → Option ℕ
value_after_bus is_taken width value share = if is_taken then word_only (value * 2 ^ width + share) else Some value

word_some : (n v : ℕ) → Some v ≡ word_only n → (v ≡ n) × (n < 2 ^ 32)
word_some n v h = by (nat_lt n (2 ^ 32)) refl h where
  by : (b : Bool) → nat_lt n (2 ^ 32) ≡ b → Some v ≡ (if b then Some n else None) → (v ≡ n) × (n < 2 ^ 32)
  by true is e = (same_Some v n e, ltb-true n (2 ^ 32) is)
  by false is e = absurd (none-some v (sym e))

word_none : (n : ℕ) → None ≡ word_only n → 2 ^ 32 ≤ n
word_none n h = by (nat_lt n (2 ^ 32)) refl h where
  by : (b : Bool) → nat_lt n (2 ^ 32) ≡ b → None ≡ (if b then Some n else None) → 2 ^ 32 ≤ n
  by true is e = absurd (none-some n e)
  by false is e = ltb-false n (2 ^ 32) is

-- one bus more
pub value_more : (taken bus : ℕ) (f : BusFields) (fs : List BusFields) (bits : List Bool) (value value' total : ℕ) → f.width ≤ length bits
    → Some value' ≡ value_after_bus (has_bit taken bus) f.width value (number_of (take f.width bits))
    → number_with value (taken_bits taken bus (f ∷ fs) bits) ≡ total → number_with value' (taken_bits taken (bus + 1) fs (drop f.width bits)) ≡ total
value_more taken bus f fs bits value value' total enough said was = by (has_bit taken bus) refl said where
  rest : List Bool
  rest = taken_bits taken (bus + 1) fs (drop f.width bits)

  by : (b : Bool) → has_bit taken bus ≡ b → Some value' ≡ value_after_bus b f.width value (number_of (take f.width bits)) → number_with value' rest ≡ total
  by true is e =
      let w = word_some (value * 2 ^ f.width + number_of (take f.width bits)) value' e in
      let many : length (take f.width bits) ≡ f.width = length-take-le f.width bits enough in
      ap (λ (n : ℕ). number_with n rest) (w.0 ∙ ap (λ (n : ℕ). value * 2 ^ n + number_of (take f.width bits)) (sym many))
      ∙ sym (joined value (take f.width bits) rest) ∙ rw is at was
  by false is e = ap (λ (n : ℕ). number_with n rest) (same_Some value' value e) ∙ rw is at was

-- a number that is no word any more
pub value_stop : (taken bus : ℕ) (f : BusFields) (fs : List BusFields) (bits : List Bool) (value total : ℕ) → f.width ≤ length bits
    → None ≡ value_after_bus (has_bit taken bus) f.width value (number_of (take f.width bits))
    → number_with value (taken_bits taken bus (f ∷ fs) bits) ≡ total → None ≡ word_only total
value_stop taken bus f fs bits value total enough said was = by (has_bit taken bus) refl said where
  rest : List Bool
  rest = taken_bits taken (bus + 1) fs (drop f.width bits)

  by : (b : Bool) → has_bit taken bus ≡ b → None ≡ value_after_bus b f.width value (number_of (take f.width bits)) → None ≡ word_only total
  by true is e =
      let much = word_none (value * 2 ^ f.width + number_of (take f.width bits)) e in
      let many : length (take f.width bits) ≡ f.width = length-take-le f.width bits enough in
      let sum : number_with (value * 2 ^ f.width + number_of (take f.width bits)) rest ≡ total =
      ap (λ (n : ℕ). number_with (value * 2 ^ n + number_of (take f.width bits)) rest) (sym many) ∙ sym (joined value (take f.width bits) rest) ∙ rw is at was in
      let some = pow_pos (length rest) in
      let grows : 2 ^ 32 * 1 ≤ (value * 2 ^ f.width + number_of (take f.width bits)) * 2 ^ length rest =
      mul-le (2 ^ 32) 1 (value * 2 ^ f.width + number_of (take f.width bits)) (2 ^ length rest) much (omega arith) in
      let no : nat_lt total (2 ^ 32) ≡ false = le-ltb total (2 ^ 32) (omega arith) in
      rw no refl
  by false is e = absurd (none-some value e)

-- no bus is left
pub value_end : (taken bus : ℕ) (fs : List BusFields) (bits : List Bool) (value total : ℕ) → fs ≡ [] → value < 2 ^ 32
    → number_with value (taken_bits taken bus fs bits) ≡ total → Some value ≡ word_only total
value_end taken bus fs bits value total none small was =
    let e : number_with value (taken_bits taken bus [] bits) ≡ total = ap (λ (l : List BusFields). number_with value (taken_bits taken bus l bits)) (sym none) ∙ was in
    let same : value ≡ total = omega arith in
    let yes : nat_lt value (2 ^ 32) ≡ true = lt-ltb value (2 ^ 32) small in
    subst (λ (n : ℕ). Some value ≡ word_only n) same (rw yes refl)

-- ---- what a call read

-- the item that an index gives
pub item_read : {X : Type 0} (items xs : List X) (i : ℕ) (x : X) → items ≡ xs → x ≡ get_or items i x → x ≡ get_or xs i x
item_read items xs i x same is = is ∙ ap (λ l. get_or l i x) same

-- a long immediate whose upper bits are set
pub long_refused : (m : Machine) (word : ℕ) (fs : List BusFields) (template : Option ℕ) (bits : List Bool) (t taken bus : ℕ) (value : Option ℕ) (e : ImageError)
    → template ≡ Some t → taken ≡ taken_by m (Some t) → value ≡ word_only (number_of (taken_bits taken 0 fs bits)) → value ≡ None → bus ≡ least_bus m taken
    → e ≡ of_word word Field bus → Err e ≡ decoded_long m word fs template bits
long_refused m word fs template bits t taken bus value e is takes said none least told =
    let after : (ℕ → ImageError) → ℕ → Option ℕ → Result (Option Long) ImageError =
    λ refusal set o. or_refuse (refusal (least_bus m set)) o >>= λ value. Ok (Some (record { template = t; value = value })) in
    ap (λ (x : ImageError). Err x) (told ∙ ap (λ (b : ℕ). of_word word Field b) least)
    ∙ ap (λ (o : Option ℕ). after (of_word word Field) taken o) (sym none ∙ said)
    ∙ ap (λ (k : ℕ). after (of_word word Field) k (word_only (number_of (taken_bits k 0 fs bits)))) takes
    ∙ ap (λ (o : Option ℕ). decoded_long m word fs o bits) (sym is)

-- the bits after some of the bits that are left
pub rest_after : (bits : List Bool) (at width : ℕ) → drop width (drop at bits) ≡ drop (at + width) bits
rest_after bits at width = drop-drop width at bits

-- a bus lies within the bits that are left for it and those after it
pub width_here : (fs : List BusFields) (i : ℕ) (f : BusFields) (at most : ℕ) → i < length fs → f ≡ get_or fs i f → at + widths (drop i fs) ≤ most
    → at + f.width ≤ most
width_here fs i f at most h is room = let more = width_step fs i f at most h is room in omega arith

-- the number of what is read stays a word
pub value_small : (is_taken : Bool) (width value share value' : ℕ) → value < 2 ^ 32 → Some value' ≡ value_after_bus is_taken width value share → value' < 2 ^ 32
value_small true width value share value' small said =
    let w = word_some (value * 2 ^ width + share) value' said in let is = w.0 in let fits = w.1 in omega arith
value_small false width value share value' small said = let same = same_Some value' value said in omega arith
