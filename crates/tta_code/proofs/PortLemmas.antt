-- The reads and writes of a cycle's moves, with one move more.
use Rattle.std.proofs.Common.{◌≡◌, ◌+◌, ℕ, Bool, true, false, cond, List, [], ◌∷◌, ◌++◌, length, map, Option, Some, None, refl, sym, ap, ◌∙◌, arith}
use Rattle.std.specs.Prelude.{◌&&◌, ◌||◌, nat_le, nat_lt, slice_get, count_by}
use Rattle.std.specs.Option.{option_map, option_map_or}
use Rattle.std.specs.List.{list_any}
use Rattle.std.proofs.lemmas.Bool.{and_from, ne_eqb}
use Rattle.std.proofs.lemmas.List.Sums.{sum_by-cons}
use Rattle.tta_code.specs.Cited.{Source, Dest, Machine, is_source_on, is_dest_on, Ends, Slots, all_below, reads_file, reads_imm, writes_file}
use Rattle.tta_arch.specs.declared.ends.Source.TheVariants as source
use Rattle.tta_arch.specs.declared.ends.Dest.TheVariants as dest
use Rattle.tta_arch.specs.Legal.{ends_of}
use Rattle.tta_code.specs.declared.code.Move.{Move}
use Rattle.tta_code.specs.Legal.{ends_of as move_ends}
use Rattle.tta_code.specs.Illegal.{moves_where, has_read_left, has_write_left}
use Rattle.tta_code.proofs.SlotLemmas.{count-same, count-one, one-le, all_below-same, all_below-one, and_true}
use Rattle.tta_list.proofs.Tests.{eq_same}
use Rattle.tta_arch.proofs.Ports.{source_file, source_imm, dest_file}

-- ---- the parts that joined moves have

-- how many of some moves read a register of this file
abbrev pub reads_of : List Ends → ℕ → ℕ
reads_of vs file = count_by (λ v. reads_file file v.src) vs

-- how many of some moves read a register of this immediate unit
abbrev pub imms_of : List Ends → ℕ → ℕ
imms_of vs unit = count_by (λ v. reads_imm unit v.src) vs

-- how many of some moves write a register of this file
abbrev pub writes_of : List Ends → ℕ → ℕ
writes_of vs file = count_by (λ v. writes_file file v.dst) vs

-- how many moves of a cycle may read a file, none where the machine has no such file
abbrev pub most_reads : Machine → ℕ → ℕ
most_reads m file = option_map_or (λ f. f.read) (slice_get m.files file) 0

-- how many moves of a cycle may write a file, none where the machine has no such file
abbrev pub most_writes : Machine → ℕ → ℕ
most_writes m file = option_map_or (λ f. f.write) (slice_get m.files file) 0

-- no file is read by more of the moves than may read it
abbrev pub has_file_reads : Machine → List Ends → Bool
has_file_reads m vs = all_below (λ f. nat_le (reads_of vs f) (most_reads m f)) (length m.files)

-- no immediate unit is read by two of the moves
abbrev pub has_imm_reads : Machine → List Ends → Bool
has_imm_reads m vs = all_below (λ u. nat_le (imms_of vs u) 1) (length m.imms)

-- no file is written by more of the moves than may write it
abbrev pub has_file_writes : Machine → List Ends → Bool
has_file_writes m vs = all_below (λ f. nat_le (writes_of vs f) (most_writes m f)) (length m.files)

-- whether moves leave room for one more read of the file or the immediate unit of a source, where it is a register
abbrev pub read_left : Machine → List Ends → Source → Bool
read_left m vs (source.Reg file index) = nat_lt (reads_of vs file) (most_reads m file)
read_left m vs (source.Imm unit index) = nat_lt (imms_of vs unit) 1
read_left m vs src = true

-- whether moves leave room for one more write into the file of a destination, where it is a register
abbrev pub write_left : Machine → List Ends → Dest → Bool
write_left m vs (dest.Reg file index) = nat_lt (writes_of vs file) (most_writes m file)
write_left m vs dst = true

file_reads-same : (m : Machine) (vs : List Ends) (v : Ends) → ((k : ℕ) → reads_file k v.src ≡ false) → has_file_reads m vs ≡ true → has_file_reads m (vs ++ v ∷ []) ≡ true
file_reads-same m vs v none all =
    all_below-same (λ f. nat_le (reads_of vs f) (most_reads m f)) (λ f. nat_le (reads_of (vs ++ v ∷ []) f) (most_reads m f)) (length m.files)
    (λ k. ap (λ n. nat_le n (most_reads m k)) (count-same (λ w. reads_file k w.src) vs v (none k))) ∙ all

imm_reads-same : (m : Machine) (vs : List Ends) (v : Ends) → ((k : ℕ) → reads_imm k v.src ≡ false) → has_imm_reads m vs ≡ true → has_imm_reads m (vs ++ v ∷ []) ≡ true
imm_reads-same m vs v none all =
    all_below-same (λ u. nat_le (imms_of vs u) 1) (λ u. nat_le (imms_of (vs ++ v ∷ []) u) 1) (length m.imms)
    (λ k. ap (λ n. nat_le n 1) (count-same (λ w. reads_imm k w.src) vs v (none k))) ∙ all

-- the reads with one move more, by its source
pub reads_more : (m : Machine) (vs : List Ends) (v : Ends) (bus : ℕ) (src : Source) → v.src ≡ src → is_source_on m bus src ≡ true
    → has_file_reads m vs ≡ true → has_imm_reads m vs ≡ true
    → (has_file_reads m (vs ++ v ∷ []) && has_imm_reads m (vs ++ v ∷ [])) ≡ read_left m vs src
reads_more m vs v bus (source.Reg file index) is on files imms =
    let one = count-one (λ w. reads_file file w.src) vs v (ap (reads_file file) is ∙ eq_same file) in
    let here : has_file_reads m (vs ++ v ∷ []) ≡ nat_le (reads_of (vs ++ v ∷ []) file) (most_reads m file) =
    all_below-one (λ f. nat_le (reads_of vs f) (most_reads m f)) (λ f. nat_le (reads_of (vs ++ v ∷ []) f) (most_reads m f)) (length m.files) file
    (λ k other. ap (λ n. nat_le n (most_reads m k)) (count-same (λ w. reads_file k w.src) vs v (ap (reads_file k) is ∙ ne_eqb file k (λ e. other (sym e)))))
    files (source_file m bus file index on) in
    ap (λ b. has_file_reads m (vs ++ v ∷ []) && b) (imm_reads-same m vs v (λ k. ap (reads_imm k) is) imms) ∙ and_true (has_file_reads m (vs ++ v ∷ []))
    ∙ here ∙ ap (λ n. nat_le n (most_reads m file)) one ∙ one-le (reads_of vs file) (most_reads m file)
reads_more m vs v bus (source.Imm unit index) is on files imms =
    let one = count-one (λ w. reads_imm unit w.src) vs v (ap (reads_imm unit) is ∙ eq_same unit) in
    let here : has_imm_reads m (vs ++ v ∷ []) ≡ nat_le (imms_of (vs ++ v ∷ []) unit) 1 =
    all_below-one (λ u. nat_le (imms_of vs u) 1) (λ u. nat_le (imms_of (vs ++ v ∷ []) u) 1) (length m.imms) unit
    (λ k other. ap (λ n. nat_le n 1) (count-same (λ w. reads_imm k w.src) vs v (ap (reads_imm k) is ∙ ne_eqb unit k (λ e. other (sym e)))))
    imms (source_imm m bus unit index on) in
    ap (λ b. b && has_imm_reads m (vs ++ v ∷ [])) (file_reads-same m vs v (λ k. ap (reads_file k) is) files)
    ∙ here ∙ ap (λ n. nat_le n 1) one ∙ one-le (imms_of vs unit) 1
reads_more m vs v bus (source.Shown unit) is on files imms = and_from _ _ (file_reads-same m vs v (λ k. ap (reads_file k) is) files) (imm_reads-same m vs v (λ k. ap (reads_imm k) is) imms)
reads_more m vs v bus source.Ra is on files imms = and_from _ _ (file_reads-same m vs v (λ k. ap (reads_file k) is) files) (imm_reads-same m vs v (λ k. ap (reads_imm k) is) imms)
reads_more m vs v bus (source.Value word) is on files imms = and_from _ _ (file_reads-same m vs v (λ k. ap (reads_file k) is) files) (imm_reads-same m vs v (λ k. ap (reads_imm k) is) imms)

file_writes-same : (m : Machine) (vs : List Ends) (v : Ends) → ((k : ℕ) → writes_file k v.dst ≡ false) → has_file_writes m vs ≡ true → has_file_writes m (vs ++ v ∷ []) ≡ true
file_writes-same m vs v none all =
    all_below-same (λ f. nat_le (writes_of vs f) (most_writes m f)) (λ f. nat_le (writes_of (vs ++ v ∷ []) f) (most_writes m f)) (length m.files)
    (λ k. ap (λ n. nat_le n (most_writes m k)) (count-same (λ w. writes_file k w.dst) vs v (none k))) ∙ all

-- the writes with one move more, by its destination
pub writes_more : (m : Machine) (vs : List Ends) (v : Ends) (bus : ℕ) (dst : Dest) → v.dst ≡ dst → is_dest_on m bus dst ≡ true
    → has_file_writes m vs ≡ true → has_file_writes m (vs ++ v ∷ []) ≡ write_left m vs dst
writes_more m vs v bus (dest.Reg file index) is on files =
    let one = count-one (λ w. writes_file file w.dst) vs v (ap (writes_file file) is ∙ eq_same file) in
    let here : has_file_writes m (vs ++ v ∷ []) ≡ nat_le (writes_of (vs ++ v ∷ []) file) (most_writes m file) =
    all_below-one (λ f. nat_le (writes_of vs f) (most_writes m f)) (λ f. nat_le (writes_of (vs ++ v ∷ []) f) (most_writes m f)) (length m.files) file
    (λ k other. ap (λ n. nat_le n (most_writes m k)) (count-same (λ w. writes_file k w.dst) vs v (ap (writes_file k) is ∙ ne_eqb file k (λ e. other (sym e)))))
    files (dest_file m bus file index on) in
    here ∙ ap (λ n. nat_le n (most_writes m file)) one ∙ one-le (writes_of vs file) (most_writes m file)
writes_more m vs v bus (dest.Operand unit) is on files = file_writes-same m vs v (λ k. ap (writes_file k) is) files
writes_more m vs v bus (dest.Trigger unit op) is on files = file_writes-same m vs v (λ k. ap (writes_file k) is) files
writes_more m vs v bus dest.Jump is on files = file_writes-same m vs v (λ k. ap (writes_file k) is) files
writes_more m vs v bus dest.Call is on files = file_writes-same m vs v (λ k. ap (writes_file k) is) files
writes_more m vs v bus dest.Halt is on files = file_writes-same m vs v (λ k. ap (writes_file k) is) files

-- ---- moves as they stand in an instruction

-- the buses of a cycle with the moves of an instruction on them
abbrev pub slots_from : List (Option Move) → Slots
slots_from moves = map (option_map move_ends) moves

pub count_from : (p : Ends → Bool) (moves : List (Option Move)) → count_by p (ends_of (slots_from moves)) ≡ moves_where (λ v. p (move_ends v)) moves
count_from p [] = refl
count_from p (None ∷ moves) =
    let rest : moves_where (λ v. p (move_ends v)) moves ≡ 0 + moves_where (λ v. p (move_ends v)) moves = omega arith in
    count_from p moves ∙ rest ∙ sym (sum_by-cons (λ o. cond (option_map_or (λ v. p (move_ends v)) o false) 1 0) None moves)
count_from p (Some v ∷ moves) =
    sum_by-cons (λ w. cond (p w) 1 0) (move_ends v) (ends_of (slots_from moves))
    ∙ ap (λ (n : ℕ). cond (p (move_ends v)) 1 0 + n) (count_from p moves)
    ∙ sym (sum_by-cons (λ o. cond (option_map_or (λ w. p (move_ends w)) o false) 1 0) (Some v) moves)

pub any_from : (p : Ends → Bool) (moves : List (Option Move)) → list_any p (ends_of (slots_from moves)) ≡ list_any (λ o. option_map_or (λ v. p (move_ends v)) o false) moves
any_from p [] = refl
any_from p (None ∷ moves) = any_from p moves
any_from p (Some v ∷ moves) = ap (λ b. p (move_ends v) || b) (any_from p moves)

pub read_left-from : (m : Machine) (moves : List (Option Move)) (src : Source) → read_left m (ends_of (slots_from moves)) src ≡ has_read_left m moves src
read_left-from m moves (source.Reg file index) = ap (λ n. nat_lt n (most_reads m file)) (count_from (λ v. reads_file file v.src) moves)
read_left-from m moves (source.Imm unit index) = ap (λ n. nat_lt n 1) (count_from (λ v. reads_imm unit v.src) moves)
read_left-from m moves (source.Shown unit) = refl
read_left-from m moves source.Ra = refl
read_left-from m moves (source.Value word) = refl

pub write_left-from : (m : Machine) (moves : List (Option Move)) (dst : Dest) → write_left m (ends_of (slots_from moves)) dst ≡ has_write_left m moves dst
write_left-from m moves (dest.Reg file index) = ap (λ n. nat_lt n (most_writes m file)) (count_from (λ v. writes_file file v.dst) moves)
write_left-from m moves (dest.Operand unit) = refl
write_left-from m moves (dest.Trigger unit op) = refl
write_left-from m moves dest.Jump = refl
write_left-from m moves dest.Call = refl
write_left-from m moves dest.Halt = refl
