-- What a walk along a list of files finds is what they hold.
use Rattle.std.proofs.Common.{◌≡◌, ℕ, suc, ◌+◌, ◌<◌, ◌≤◌, ltb, Bool, true, false, not, cond, List, [], ◌∷◌, ◌++◌, length, map, get_or, set, Option, Some, None, refl, sym, ◌∙◌, ap, arith}
use Rattle.std.proofs.lemmas.Map.Text.{is_eq-slice_cmp}
use Rattle.std.specs.Cmp.Lexicographic.{slice_cmp, nat_list_cmp_total, nat_list_eq_equiv}
use Rattle.std.specs.Ordering.{nat_cmp}
use Rattle.std.specs.FinMap.{find, from_entries, get-from_entries, same_map, from_entries_push, IsAntisymmetric, nat_cmp-IsAntisymmetric, slice_cmp-IsAntisymmetric}
use Rattle.std.specs.List.{position_or_len, position}
use Rattle.std.proofs.lemmas.Bool.{ltb-true, ltb-false}
use Rattle.std.proofs.lemmas.List.{map-append}
use Rattle.std.proofs.lemmas.List.Sums.{prefix_len-le-length}
use Rattle.std.specs.Str.{bytes_eq}
use Rattle.tta_ports.specs.declared.mem_files.File.{File}
use Rattle.tta_ports.specs.Store.{file_at, with_file}
use Rattle.tta_ports.specs.Entries.{entry_of, store_of}
use Rattle.tta_ports.proofs.StoreLemmas.{at-with_file}

-- the bytes of the first file of a name
abbrev pub found : List ℕ → List File → Option (List ℕ)
found name [] = None
found name (f ∷ fs) = cond (bytes_eq f.name name) (Some f.bytes.items) (found name fs)

-- where it stands, or the length
abbrev pub place : List ℕ → List File → ℕ
place name files = position_or_len (λ f. bytes_eq f.name name) files

-- the place after a first file, whose name is the one sought or not
abbrev later : Bool → ℕ → ℕ
later is n = cond (not is) (1 + n) 0

find-found : (name : List ℕ) (files : List File)
    → find (slice_cmp nat_cmp) name (map entry_of files) ≡ found name files
find-found name [] = refl
find-found name (f ∷ fs) =
    ap (λ b. cond b (Some f.bytes.items) (find (slice_cmp nat_cmp) name (map entry_of fs)))
    (is_eq-slice_cmp name f.name ∙ nat_list_eq_equiv.symm name f.name)
    ∙ ap (cond (bytes_eq f.name name) (Some f.bytes.items)) (find-found name fs)

-- what the files hold under a name is what the walk finds
file_at-store_of : (name : List ℕ) (files : List File) → file_at (store_of files) name ≡ found name files
file_at-store_of name files =
    get-from_entries nat_list_cmp_total (map entry_of files) name ∙ find-found name files

-- a walk that goes to the end finds nothing
found-none : (name : List ℕ) (files : List File) → place name files ≡ length files → found name files ≡ None
found-none name [] at = refl
found-none name (f ∷ fs) at =
    elim (bytes_eq f.name name) as (λ b. later b (place name fs) ≡ suc (length fs)
    → cond b (Some f.bytes.items) (found name fs) ≡ None) [
      | true ↦ λ e. absurd (omega arith)
      | false ↦ λ e. found-none name fs (omega arith)
    ] at

-- a walk that stops has found the file
found-some : (name : List ℕ) (files : List File) (d : File) → place name files < length files
    → found name files ≡ Some (get_or files (place name files) d).bytes.items
found-some name [] d at = absurd (omega arith)
found-some name (f ∷ fs) d at =
    elim (bytes_eq f.name name) as (λ b. later b (place name fs) < suc (length fs)
    → cond b (Some f.bytes.items) (found name fs)
    ≡ Some (get_or (f ∷ fs) (later b (place name fs)) d).bytes.items) [
      | true ↦ λ lt. refl
      | false ↦ λ lt.
          let next : 1 + place name fs ≡ suc (place name fs) = omega arith in
          rw next (found-some name fs d (omega arith))
    ] at

replaced : {A : Type 0} (b : Bool) (x y z : A) → cond b x z ≡ cond b x (cond b y z)
replaced true x y z = refl
replaced false x y z = refl

exchanged : {A : Type 0} (b c : Bool) (x y z : A) → (b ≡ true → c ≡ true → ⊥)
    → cond b x (cond c y z) ≡ cond c y (cond b x z)
exchanged true true x y z apart = absurd (apart refl refl)
exchanged true false x y z apart = refl
exchanged false c x y z apart = refl

-- a file in place of the first of its name
found-set : (f : File) (files : List File) (name : List ℕ) → place f.name files < length files
    → found name (set files (place f.name files) f)
    ≡ cond (bytes_eq name f.name) (Some f.bytes.items) (found name files)
found-set f [] name at = absurd (omega arith)
found-set f (g ∷ gs) name at =
    elim (bytes_eq g.name f.name) as (λ b. bytes_eq g.name f.name ≡ b
    → later b (place f.name gs) < suc (length gs)
    → found name (set (g ∷ gs) (later b (place f.name gs)) f)
    ≡ cond (bytes_eq name f.name) (Some f.bytes.items) (found name (g ∷ gs))) [
      | true ↦ λ is lt.
          rw (nat_list_eq_equiv.congr g.name f.name name is, nat_list_eq_equiv.symm name f.name)
          (replaced (bytes_eq f.name name) (Some f.bytes.items) (Some g.bytes.items) (found name gs))
      | false ↦ λ is lt.
          let next : 1 + place f.name gs ≡ suc (place f.name gs) = omega arith in
          let apart : bytes_eq g.name name ≡ true → bytes_eq name f.name ≡ true → ⊥ =
          λ p q. let same = nat_list_eq_equiv.congr g.name name f.name p in cc in
          rw next (ap (cond (bytes_eq g.name name) (Some g.bytes.items)) (found-set f gs name (omega arith))
          ∙ exchanged (bytes_eq g.name name) (bytes_eq name f.name) (Some g.bytes.items)
          (Some f.bytes.items) (found name gs) apart)
    ] refl at

only_equal : IsAntisymmetric (slice_cmp nat_cmp)
only_equal = slice_cmp-IsAntisymmetric nat_cmp-IsAntisymmetric

-- what the files hold with a file in place of the first of its name
store_of-set : (files : List File) (f : File) → place f.name files < length files
    → store_of (set files (place f.name files) f) ≡ with_file (store_of files) f.name f.bytes.items
store_of-set files f at = same_map nat_list_cmp_total only_equal _ _ (λ name.
    file_at-store_of name _
    ∙ found-set f files name at
    ∙ ap (cond (bytes_eq name f.name) (Some f.bytes.items)) (sym (file_at-store_of name files))
    ∙ sym (at-with_file (store_of files) f.name f.bytes.items name))

-- and with a file after them whose name is new
store_of-push : (files : List File) (f : File) → place f.name files ≡ length files
    → store_of (files ++ f ∷ []) ≡ with_file (store_of files) f.name f.bytes.items
store_of-push files f at =
    ap from_entries (map-append entry_of files (f ∷ []))
    ∙ from_entries_push nat_list_cmp_total only_equal (map entry_of files) f.name f.bytes.items
    (find-found f.name files ∙ found-none f.name files at)

-- the answers of `position`: a place before the end, or none
is_place : (at n i : ℕ) → cond (ltb at n) (Some at) None ≡ Some i → (at ≡ i) × (at < n)
is_place at n i is =
    elim (ltb at n) as (λ b. ltb at n ≡ b → cond b (Some at) None ≡ Some i → (at ≡ i) × (at < n)) [
      | true ↦ λ t e. (cc, ltb-true at n t)
      | false ↦ λ t e. cc
    ] refl is

is_end : (at n : ℕ) → at ≤ n → cond (ltb at n) (Some at) None ≡ None → at ≡ n
is_end at n le is =
    elim (ltb at n) as (λ b. ltb at n ≡ b → cond b (Some at) None ≡ None → at ≡ n) [
      | true ↦ λ t e. cc
      | false ↦ λ t e. let ge : n ≤ at = ltb-false at n t in omega arith
    ] refl is

-- the file of a name has this place
abbrev StandsAt : List ℕ → List File → Option ℕ → Type 0
StandsAt name files place = position (λ f. bytes_eq f.name name) files ≡ place

-- a file that is put where the walk stops
pub store_of-found : (files : List File) (f : File) (name bytes : List ℕ) (i : ℕ)
    → StandsAt name files (Some i) → f.name ≡ name → f.bytes.items ≡ bytes
    → store_of (set files i f) ≡ with_file (store_of files) name bytes
store_of-found files f name bytes i is named holds =
    let at = is_place (place f.name files) (length files) i (rw named is) in
    rw (← named, ← holds, ← at.0) (store_of-set files f at.1)

-- a file that is put at the end
pub store_of-missing : (files : List File) (f : File) (name bytes : List ℕ)
    → StandsAt name files None → f.name ≡ name → f.bytes.items ≡ bytes
    → store_of (files ++ f ∷ []) ≡ with_file (store_of files) name bytes
store_of-missing files f name bytes is named holds =
    let none : StandsAt f.name files None = rw named is in
    rw (← named, ← holds) (store_of-push files f (is_end _ _ (prefix_len-le-length _ files) none))

-- the file that stands where the walk stops is the one of that name
pub file_at-found : (files : List File) (name : List ℕ) (i : ℕ) (d : File) → StandsAt name files (Some i)
    → file_at (store_of files) name ≡ Some (get_or files i d).bytes.items
file_at-found files name i d is =
    let at = is_place (place name files) (length files) i is in
    file_at-store_of name files ∙ rw (← at.0) (found-some name files d at.1)

-- and where it goes to the end there is none
pub file_at-missing : (files : List File) (name : List ℕ) → StandsAt name files None
    → file_at (store_of files) name ≡ None
file_at-missing files name is =
    let at = is_end (place name files) (length files) (prefix_len-le-length _ files) is in
    file_at-store_of name files ∙ found-none name files at
