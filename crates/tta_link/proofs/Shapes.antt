-- The rules of a cycle do not ask for the words that its moves carry.
use Rattle.std.proofs.Common.{◌≡◌, ℕ, zero, suc, ◌+◌, Bool, List, [], ◌∷◌, Some, None, refl, sym, ◌∙◌, length, map}
use Rattle.std.specs.Prelude.{cond, slice_get, count_by, not, ◌||◌, nat_le, option_map, is_none}
use Rattle.std.specs.Option.{option_map_or}
use Rattle.std.specs.List.{list_any}
use Rattle.std.proofs.lemmas.List.Sums.{sum_by-cons}
use Rattle.tta_link.specs.Cited.{Source, Dest, Machine, has_bit, Ends, Slots, ends_of, same_place, are_apart, has_reads, has_writes, all_slots, all_below, reads_file, reads_imm, writes_file, ItemSource, Port, Address, linked, carried}
use Rattle.tta_arch.specs.declared.ends.Source.TheVariants as source

-- ---- sources without their words

-- a source, where a word is 0
abbrev pub blank : Source → Source
blank (source.Reg f i) = source.Reg f i
blank (source.Imm u i) = source.Imm u i
blank (source.Shown u) = source.Shown u
blank source.Ra = source.Ra
blank (source.Value word) = source.Value 0

abbrev pub shape : Ends → Ends
shape v = record { guard = v.guard; src = blank v.src; dst = v.dst }

abbrev pub shapes : Slots → Slots
shapes slots = map (option_map shape) slots

pub blank_linked : (m : Machine) (addr : List ℕ) (s : ItemSource) → blank (linked addr s) ≡ blank (carried m s)
blank_linked m addr (Port s) = refl
blank_linked m addr (Address b) = refl

reads_file_blank : (f : ℕ) (s : Source) → reads_file f (blank s) ≡ reads_file f s
reads_file_blank f (source.Reg g i) = refl
reads_file_blank f (source.Imm u i) = refl
reads_file_blank f (source.Shown u) = refl
reads_file_blank f source.Ra = refl
reads_file_blank f (source.Value word) = refl

reads_imm_blank : (f : ℕ) (s : Source) → reads_imm f (blank s) ≡ reads_imm f s
reads_imm_blank f (source.Reg g i) = refl
reads_imm_blank f (source.Imm u i) = refl
reads_imm_blank f (source.Shown u) = refl
reads_imm_blank f source.Ra = refl
reads_imm_blank f (source.Value word) = refl

-- ---- the rules of a cycle do not ask for the words

count_shapes : (p : Ends → Bool) → ((v : Ends) → p (shape v) ≡ p v) → (slots : Slots) → count_by p (ends_of (shapes slots)) ≡ count_by p (ends_of slots)
count_shapes p h [] = refl
count_shapes p h (None ∷ slots) = count_shapes p h slots
count_shapes p h (Some v ∷ slots) =
    sum_by-cons (λ (w : Ends). cond (p w) 1 0) (shape v) (ends_of (shapes slots)) ∙ rw (h v, count_shapes p h slots) (sym (sum_by-cons (λ (w : Ends). cond (p w) 1 0) v (ends_of slots)))

below_alike : (p q : ℕ → Bool) (n : ℕ) → ((k : ℕ) → p k ≡ q k) → all_below p n ≡ all_below q n
below_alike p q zero h = refl
below_alike p q (suc n) h = rw (h n, below_alike p q n h) refl

pub reads_shapes : (m : Machine) (slots : Slots) → has_reads m (shapes slots) ≡ has_reads m slots
reads_shapes m slots =
    let files = below_alike
    (λ f. nat_le (count_by (λ (v : Ends). reads_file f v.src) (ends_of (shapes slots))) (option_map_or (λ q. q.read) (slice_get m.files f) 0))
    (λ f. nat_le (count_by (λ (v : Ends). reads_file f v.src) (ends_of slots)) (option_map_or (λ q. q.read) (slice_get m.files f) 0)) (length m.files)
    (λ f. rw (count_shapes (λ (v : Ends). reads_file f v.src) (λ v. reads_file_blank f v.src) slots) refl) in
    let imms = below_alike
    (λ u. nat_le (count_by (λ (v : Ends). reads_imm u v.src) (ends_of (shapes slots))) 1)
    (λ u. nat_le (count_by (λ (v : Ends). reads_imm u v.src) (ends_of slots)) 1) (length m.imms)
    (λ u. rw (count_shapes (λ (v : Ends). reads_imm u v.src) (λ v. reads_imm_blank u v.src) slots) refl) in
    rw (files, imms) refl

pub writes_shapes : (m : Machine) (slots : Slots) → has_writes m (shapes slots) ≡ has_writes m slots
writes_shapes m slots = below_alike
    (λ f. nat_le (count_by (λ (v : Ends). writes_file f v.dst) (ends_of (shapes slots))) (option_map_or (λ q. q.write) (slice_get m.files f) 0))
    (λ f. nat_le (count_by (λ (v : Ends). writes_file f v.dst) (ends_of slots)) (option_map_or (λ q. q.write) (slice_get m.files f) 0)) (length m.files)
    (λ f. rw (count_shapes (λ (v : Ends). writes_file f v.dst) (λ v. refl) slots) refl)

any_shapes : (d : Dest) (slots : Slots) → list_any (λ (w : Ends). same_place d w.dst) (ends_of (shapes slots)) ≡ list_any (λ (w : Ends). same_place d w.dst) (ends_of slots)
any_shapes d [] = refl
any_shapes d (None ∷ slots) = any_shapes d slots
any_shapes d (Some v ∷ slots) = rw (any_shapes d slots) refl

pub apart_shapes : (slots : Slots) → are_apart (ends_of (shapes slots)) ≡ are_apart (ends_of slots)
apart_shapes [] = refl
apart_shapes (None ∷ slots) = apart_shapes slots
apart_shapes (Some v ∷ slots) = rw (any_shapes v.dst slots, apart_shapes slots) refl

pub taken_shapes : (n bus : ℕ) (slots : Slots) → all_slots (λ b o. is_none o || not (has_bit n b)) bus (shapes slots) ≡ all_slots (λ b o. is_none o || not (has_bit n b)) bus slots
taken_shapes n bus [] = refl
taken_shapes n bus (None ∷ slots) = taken_shapes n (bus + 1) slots
taken_shapes n bus (Some v ∷ slots) = rw (taken_shapes n (bus + 1) slots) refl
