-- Tables that serve one list after another.
use Rattle.std.proofs.Common.{◌≡◌, ℕ, zero, suc, ◌+◌, ◌<◌, ◌≤◌, Bool, true, false, List, [], ◌∷◌, length, replicate, refl, sym, ap, subst, arith, ◌∙◌, length-set}
use Rattle.std.specs.Prelude.{◌==◌, if◌then◌else◌, map, nat_le, slice_set}
use Rattle.std.specs.List.{list_all}
use Rattle.std.proofs.lemmas.Bool.{and_parts, and_from}
use Rattle.std.proofs.lemmas.Bool.Decides.{nat_tests}
use Rattle.std.proofs.lemmas.List.{length-map}
use Rattle.tta_optim.specs.declared.notes.Note.{Note}
use Rattle.tta_optim.specs.declared.notes.Entry.{Entry}
use Rattle.tta_optim.specs.Notes.{blank, note_in, AreStamps}

-- ---- what the entries say

pub map_set : {A B : Type 0} (f : A → B) (xs : List A) (k : ℕ) (x : A) → map f (slice_set xs k x) ≡ slice_set (map f xs) k (f x)
map_set f [] k x = refl
map_set f (y ∷ ys) zero x = refl
map_set f (y ∷ ys) (suc k) x = ap (λ l. f y ∷ l) (map_set f ys k x)

-- where all stamps are of earlier lists, no entry says anything
pub none_noted : (list : ℕ) (entries : List Entry) → list_all (λ s. nat_le s list) (map (λ (e : Entry). e.list) entries) ≡ true
    → map (note_in (list + 1)) entries ≡ replicate (length entries) blank
none_noted list [] all = refl
none_noted list (e ∷ es) all =
    let parts = and_parts (nat_le e.list list) (list_all (λ s. nat_le s list) (map (λ (e : Entry). e.list) es)) all in
    let other : (e.list == list + 1) ≡ false = grind (arith, nat_tests, parts.0) in
    rw (other, none_noted list es parts.1) refl

pub none_wanted : (list : ℕ) (marks : List ℕ) → list_all (λ s. nat_le s list) marks ≡ true
    → map (λ mark. mark == list + 1) marks ≡ replicate (length marks) false
none_wanted list [] all = refl
none_wanted list (k ∷ ks) all =
    let parts = and_parts (nat_le k list) (list_all (λ s. nat_le s list) ks) all in
    let other : (k == list + 1) ≡ false = grind (arith, nat_tests, parts.0) in
    rw (other, none_wanted list ks parts.1) refl

-- ---- the stamps

pub past_set : (list : ℕ) (stamps : List ℕ) (k s : ℕ) → s ≤ list → list_all (λ t. nat_le t list) stamps ≡ true → list_all (λ t. nat_le t list) (slice_set stamps k s) ≡ true
past_set list [] k s le all = refl
past_set list (t ∷ ts) zero s le all =
    and_from (nat_le s list) (list_all (λ t. nat_le t list) ts) (grind (arith, nat_tests)) (and_parts (nat_le t list) (list_all (λ t. nat_le t list) ts) all).1
past_set list (t ∷ ts) (suc k) s le all =
    let parts = and_parts (nat_le t list) (list_all (λ t. nat_le t list) ts) all in
    and_from (nat_le t list) (list_all (λ t. nat_le t list) (slice_set ts k s)) parts.0 (past_set list ts k s le parts.1)

pub past_next : (list : ℕ) (stamps : List ℕ) → list_all (λ t. nat_le t list) stamps ≡ true → list_all (λ t. nat_le t (list + 1)) stamps ≡ true
past_next list [] all = refl
past_next list (t ∷ ts) all =
    let parts = and_parts (nat_le t list) (list_all (λ t. nat_le t list) ts) all in
    and_from (nat_le t (list + 1)) (list_all (λ t. nat_le t (list + 1)) ts) (grind (arith, nat_tests, parts.0)) (past_next list ts parts.1)

pub stamps_next : (list : ℕ) (stamps : List ℕ) → AreStamps list stamps → AreStamps (list + 1) stamps
stamps_next list stamps t = record { some = omega arith; size = t.size; past = past_next list stamps t.past }

pub stamps_set : (list : ℕ) (stamps : List ℕ) (k s : ℕ) → s ≤ list → AreStamps list stamps → AreStamps list (slice_set stamps k s)
stamps_set list stamps k s le t = record { some = t.some; size = length-set stamps k s ∙ t.size; past = past_set list stamps k s le t.past }

-- ---- the table of notes

pub notes_begin : (list : ℕ) (entries : List Entry) → AreStamps list (map (λ (e : Entry). e.list) entries) → map (note_in (list + 1)) entries ≡ replicate 641 blank
notes_begin list entries t =
    let long : length entries ≡ 641 = sym (length-map entries (λ (e : Entry). e.list)) ∙ t.size in
    none_noted list entries t.past ∙ ap (λ n. replicate n blank) long

pub notes_put : (list : ℕ) (entries : List Entry) (k : ℕ) (n : Note)
    → map (note_in list) (slice_set entries k (record { list = list; note = n })) ≡ slice_set (map (note_in list) entries) k n
notes_put list entries k n =
    let same : (list == list) ≡ true = grind (arith, nat_tests) in
    map_set (note_in list) entries k (record { list = list; note = n }) ∙ ap (λ (b : Bool). slice_set (map (note_in list) entries) k (if b then n else blank)) same

pub notes_put_stamps : (list : ℕ) (entries : List Entry) (k : ℕ) (n : Note) → AreStamps list (map (λ (e : Entry). e.list) entries)
    → AreStamps list (map (λ (e : Entry). e.list) (slice_set entries k (record { list = list; note = n })))
notes_put_stamps list entries k n t =
    subst (AreStamps list) (sym (map_set (λ (e : Entry). e.list) entries k (record { list = list; note = n })))
    (stamps_set list (map (λ (e : Entry). e.list) entries) k list (omega arith) t)

-- ---- the table of what is wanted

pub wanted_begin : (list : ℕ) (marks : List ℕ) → AreStamps list marks → map (λ mark. mark == list + 1) marks ≡ replicate 641 false
wanted_begin list marks t = none_wanted list marks t.past ∙ ap (λ n. replicate n false) t.size

mark_tells : (list : ℕ) (b : Bool) → 0 < list → ((if b then list else 0) == list) ≡ b
mark_tells list true some = grind (arith, nat_tests)
mark_tells list false some = grind (arith, nat_tests)

pub wanted_put : (list : ℕ) (marks : List ℕ) (k : ℕ) (b : Bool) → AreStamps list marks
    → map (λ mark. mark == list) (slice_set marks k (if b then list else 0)) ≡ slice_set (map (λ mark. mark == list) marks) k b
wanted_put list marks k b t =
    map_set (λ mark. mark == list) marks k (if b then list else 0) ∙ ap (slice_set (map (λ mark. mark == list) marks) k) (mark_tells list b t.some)

mark_past : (list : ℕ) (b : Bool) → (if b then list else 0) ≤ list
mark_past list true = omega arith
mark_past list false = omega arith

pub wanted_put_stamps : (list : ℕ) (marks : List ℕ) (k : ℕ) (b : Bool) → AreStamps list marks → AreStamps list (slice_set marks k (if b then list else 0))
wanted_put_stamps list marks k b t = stamps_set list marks k (if b then list else 0) (mark_past list b) t
