-- The five rules of a cycle's moves, kept by the buses walked so far.
use Rattle.std.proofs.Common.{◌≡◌, ℕ, Bool, true, false, not, List, [], ◌∷◌, ◌++◌, length, append-nil, Option, Some, None, refl, sym, ap, subst, ◌∙◌}
use Rattle.std.specs.Prelude.{◌&&◌, nat_le}
use Rattle.std.specs.Option.{option_map}
use Rattle.std.specs.List.{list_any}
use Rattle.std.proofs.lemmas.Bool.{and_parts, and_from}
use Rattle.std.proofs.lemmas.List.{append_assoc, length-map}
use Rattle.tta_code.specs.Cited.{Machine, has_bit, has_guard, is_source_on, is_dest_on, joins, Ends, Slots, keeps_taken, is_joined, has_reads, has_writes, are_apart, reads_file, reads_imm, writes_file, same_place}
use Rattle.tta_arch.specs.Legal.{ends_of}
use Rattle.tta_code.specs.declared.code.Move.{Move}
use Rattle.tta_code.specs.Legal.{ends_of as move_ends, taken}
use Rattle.tta_code.specs.Illegal.{told, broken, broken_by, has_read_left, has_write_left, is_place_free}
use Rattle.tta_code.proofs.SlotLemmas.{ends-some, ends-none, count-less, all_below-weaker, apart-more, and_true, untaken-more, joined-more}
use Rattle.tta_code.proofs.PortLemmas.{reads_of, imms_of, writes_of, most_reads, most_writes, has_file_reads, has_imm_reads, has_file_writes, reads_more, writes_more, any_from, read_left-from, write_left-from, slots_from}

-- ---- no rule is broken where each holds

-- the moves of some buses keep each of the five rules of a cycle, while a template takes these buses
pub record KeepsAll (m : Machine) (taken : ℕ) (slots : Slots) : Type 0 where
  pub untaken : keeps_taken taken slots ≡ true
  pub joined : is_joined m slots ≡ true
  pub reads : has_reads m slots ≡ true
  pub writes : has_writes m slots ≡ true
  pub apart : are_apart (ends_of slots) ≡ true

-- all of the five rules hold
abbrev AllTrue : (a b c d e : Bool) → Type 0
AllTrue a b c d e = (a ≡ true) × (b ≡ true) × (c ≡ true) × (d ≡ true) × (e ≡ true)

pub some_none : {A : Type 0} {x : A} → Some x ≡ None → ⊥
some_none e = cc

all_from_told : (a b c d e : Bool) → told a b c d e ≡ None → AllTrue a b c d e
all_from_told false b c d e h = absurd (some_none h)
all_from_told true false c d e h = absurd (some_none h)
all_from_told true true false d e h = absurd (some_none h)
all_from_told true true true false e h = absurd (some_none h)
all_from_told true true true true false h = absurd (some_none h)
all_from_told true true true true true h = (refl, refl, refl, refl, refl)

told_from_all : {a b c d e : Bool} → AllTrue a b c d e → told a b c d e ≡ None
told_from_all all = rw (all.0, all.1, all.2, all.3, all.4) refl

pub keeps_from_broken : (m : Machine) (taken : ℕ) (slots : Slots) → broken m taken slots ≡ None → KeepsAll m taken slots
keeps_from_broken m taken slots none =
    let all = all_from_told (keeps_taken taken slots) (is_joined m slots) (has_reads m slots) (has_writes m slots) (are_apart (ends_of slots)) none in
    record { untaken = all.0; joined = all.1; reads = all.2; writes = all.3; apart = all.4 }

pub broken_from_keeps : (m : Machine) (taken : ℕ) (slots : Slots) → KeepsAll m taken slots → broken m taken slots ≡ None
broken_from_keeps m taken slots keeps = told_from_all (keeps.untaken, keeps.joined, keeps.reads, keeps.writes, keeps.apart)

told_same : {k j r w a : Bool} (k' j' r' w' a' : Bool) → k ≡ k' → j ≡ j' → (j' ≡ true → r ≡ r') → (j' ≡ true → w ≡ w') → a ≡ a' → told k j r w a ≡ told k' j' r' w' a'
told_same {j = j} {r = r} {w = w} {a = a} false j' r' w' a' ek ej er ew ea = ap (λ b. told b j r w a) ek
told_same {j = j} {r = r} {w = w} {a = a} true false r' w' a' ek ej er ew ea = ap (λ b. told b j r w a) ek ∙ ap (λ b. told true b r w a) ej
told_same {j = j} {r = r} {w = w} {a = a} true true r' w' a' ek ej er ew ea =
    ap (λ b. told b j r w a) ek ∙ ap (λ b. told true b r w a) ej ∙ ap (λ b. told true true b w a) (er refl)
    ∙ ap (λ b. told true true r' b a) (ew refl) ∙ ap (λ b. told true true r' w' b) ea

-- the first rule that is broken with one move more
pub broken-more : (m : Machine) (taken : ℕ) (before : List (Option Move)) (v : Move) → KeepsAll m taken (slots_from before)
    → broken m taken (slots_from before ++ Some (move_ends v) ∷ []) ≡ broken_by m taken before v
broken-more m taken before v keeps =
    told_same (not (has_bit taken (length before))) (joins m (length before) v.src v.dst v.guard)
    (has_read_left m before v.src) (has_write_left m before v.dst) (is_place_free before v.dst)
    untaken joined reads writes apart
  where
    w : Ends
    w = move_ends v

    slots : Slots
    slots = slots_from before

    vs : List Ends
    vs = ends_of slots

    count : length slots ≡ length before
    count = length-map before (option_map move_ends)

    untaken : keeps_taken taken (slots ++ Some w ∷ []) ≡ not (has_bit taken (length before))
    untaken =
        untaken-more taken slots (Some w)
        ∙ ap (λ b. b && not (has_bit taken (length slots))) keeps.untaken ∙ ap (λ (n : ℕ). not (has_bit taken n)) count

    joined : is_joined m (slots ++ Some w ∷ []) ≡ joins m (length before) v.src v.dst v.guard
    joined =
        joined-more m slots (Some w)
        ∙ ap (λ b. b && joins m (length slots) v.src v.dst v.guard) keeps.joined ∙ ap (λ (n : ℕ). joins m n v.src v.dst v.guard) count

    reads : joins m (length before) v.src v.dst v.guard ≡ true → has_reads m (slots ++ Some w ∷ []) ≡ has_read_left m before v.src
    reads on =
        let ends = and_parts (is_source_on m (length before) v.src && is_dest_on m (length before) v.dst) (has_guard m (length before) v.guard) on in
        let taken_from = and_parts (is_source_on m (length before) v.src) (is_dest_on m (length before) v.dst) ends.0 in
        let all = and_parts (has_file_reads m vs) (has_imm_reads m vs) keeps.reads in
        ap (λ l. has_file_reads m l && has_imm_reads m l) (ends-some slots w)
        ∙ reads_more m vs w (length before) v.src refl taken_from.0 all.0 all.1 ∙ read_left-from m before v.src

    writes : joins m (length before) v.src v.dst v.guard ≡ true → has_writes m (slots ++ Some w ∷ []) ≡ has_write_left m before v.dst
    writes on =
        let ends = and_parts (is_source_on m (length before) v.src && is_dest_on m (length before) v.dst) (has_guard m (length before) v.guard) on in
        let brought_to = and_parts (is_source_on m (length before) v.src) (is_dest_on m (length before) v.dst) ends.0 in
        ap (λ l. has_file_writes m l) (ends-some slots w)
        ∙ writes_more m vs w (length before) v.dst refl brought_to.1 keeps.writes ∙ write_left-from m before v.dst

    apart : are_apart (ends_of (slots ++ Some w ∷ [])) ≡ is_place_free before v.dst
    apart =
        ap are_apart (ends-some slots w) ∙ apart-more vs w ∙ ap (λ b. b && not (list_any (λ u. same_place u.dst v.dst) vs)) keeps.apart
        ∙ ap not (any_from (λ u. same_place u.dst v.dst) before)

-- the buses walked, with an empty one
pub keeps-none : (m : Machine) (taken : ℕ) (slots : Slots) → KeepsAll m taken slots → KeepsAll m taken (slots ++ None ∷ [])
keeps-none m taken slots keeps =
    let ends = ends-none slots in
    record {
      untaken = untaken-more taken slots None ∙ and_true (keeps_taken taken slots) ∙ keeps.untaken;
      joined = joined-more m slots None ∙ and_true (is_joined m slots) ∙ keeps.joined;
      reads = ap (λ l. has_file_reads m l && has_imm_reads m l) ends ∙ keeps.reads;
      writes = ap (λ l. has_file_writes m l) ends ∙ keeps.writes;
      apart = ap are_apart ends ∙ keeps.apart;
    }

-- ---- the buses walked before keep the rules too

keeps-less : (m : Machine) (taken : ℕ) (slots : Slots) (o : Option Ends) → KeepsAll m taken (slots ++ o ∷ []) → KeepsAll m taken slots
keeps-less m taken slots None keeps =
    let ends = sym (ends-none slots) in
    record {
      untaken = (and_parts (keeps_taken taken slots) true (sym (untaken-more taken slots None) ∙ keeps.untaken)).0;
      joined = (and_parts (is_joined m slots) true (sym (joined-more m slots None) ∙ keeps.joined)).0;
      reads = ap (λ l. has_file_reads m l && has_imm_reads m l) ends ∙ keeps.reads;
      writes = ap (λ l. has_file_writes m l) ends ∙ keeps.writes;
      apart = ap are_apart ends ∙ keeps.apart;
    }
keeps-less m taken slots (Some v) keeps =
    let vs = ends_of slots in
    let ends = ends-some slots v in
    let reads = and_parts (has_file_reads m (vs ++ v ∷ [])) (has_imm_reads m (vs ++ v ∷ [])) (sym (ap (λ l. has_file_reads m l && has_imm_reads m l) ends) ∙ keeps.reads) in
    let writes : has_file_writes m (vs ++ v ∷ []) ≡ true = sym (ap (λ l. has_file_writes m l) ends) ∙ keeps.writes in
    record {
      untaken = (and_parts (keeps_taken taken slots) (not (has_bit taken (length slots))) (sym (untaken-more taken slots (Some v)) ∙ keeps.untaken)).0;
      joined = (and_parts (is_joined m slots) (joins m (length slots) v.src v.dst v.guard) (sym (joined-more m slots (Some v)) ∙ keeps.joined)).0;
      reads = and_from (has_file_reads m vs) (has_imm_reads m vs)
          (all_below-weaker (λ f. nat_le (reads_of vs f) (most_reads m f)) (λ f. nat_le (reads_of (vs ++ v ∷ []) f) (most_reads m f)) (length m.files)
          (λ k. count-less (λ w. reads_file k w.src) vs v (most_reads m k)) reads.0)
          (all_below-weaker (λ u. nat_le (imms_of vs u) 1) (λ u. nat_le (imms_of (vs ++ v ∷ []) u) 1) (length m.imms)
          (λ k. count-less (λ w. reads_imm k w.src) vs v 1) reads.1);
      writes = all_below-weaker (λ f. nat_le (writes_of vs f) (most_writes m f)) (λ f. nat_le (writes_of (vs ++ v ∷ []) f) (most_writes m f)) (length m.files)
          (λ k. count-less (λ w. writes_file k w.dst) vs v (most_writes m k)) writes;
      apart = (and_parts (are_apart vs) (not (list_any (λ w. same_place w.dst v.dst) vs)) (sym (ap are_apart ends ∙ apart-more vs v) ∙ keeps.apart)).0;
    }

pub keeps-prefix : (m : Machine) (taken : ℕ) (slots further : Slots) → KeepsAll m taken (slots ++ further) → KeepsAll m taken slots
keeps-prefix m taken slots [] keeps = subst (KeepsAll m taken) (append-nil slots) keeps
keeps-prefix m taken slots (o ∷ os) keeps =
    keeps-less m taken slots o (keeps-prefix m taken (slots ++ o ∷ []) os (subst (KeepsAll m taken) (sym (append_assoc slots (o ∷ []) os)) keeps))
