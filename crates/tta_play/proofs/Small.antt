-- Every page has 8 MiB at most.
use Rattle.std.proofs.Common.{◌≤◌, ℕ, ◌+◌, List, ◌++◌, length, map, take, arith}
use Rattle.std.specs.List.{enumerate_from}
use Rattle.std.proofs.lemmas.List.{length-append}
use Rattle.tta_pages.proofs.Fitting.{length-within, length-fitting}
use Rattle.tta_pages.proofs.Sizes.{small_head, small_middle, small_tail}
use Rattle.tta_play.specs.Cited.{iterate, Units, Machine, Instruction, next, run_head, run_middle_text, run_tail}
use Rattle.tta_play.specs.States.{before_text, whole_text}
use Rattle.tta_play.specs.Statement.{known_text, row_text, rows_text, code_part, limited, room_after, earlier_part, played_text, stages_part, origins_part, front_text, page_after, PagesAreSmall}
use Rattle.tta_play.proofs.Rows.{length-states_text}

-- texts one after another
sum_two : (a b : List ℕ) (m n : ℕ) → length a ≤ m → length b ≤ n → length (a ++ b) ≤ m + n
sum_two a b m n first second = rw length-append (omega arith)

-- the machine and its code
small_code : (u : Units) (m : Machine) (words : List Instruction) (first bound : ℕ) → length (code_part u m words first bound) ≤ 1114112
unfolding code_part
small_code u m words first bound =
    sum_two _ (rows_text u m (take 4096 words)) 65536 1048576 (length-within 65536 (known_text m (length words) first bound))
    (length-fitting 1048576 (map (λ e. row_text u m e.0 e.1) (enumerate_from 0 (take 4096 words))))

-- what stands before the states
small_front : (u : Units) (m : Machine) (words : List Instruction) (stages origins : List ℕ) (first bound : ℕ)
    → length (front_text u m words stages origins first bound) ≤ 6000000
unfolding front_text
small_front u m words stages origins first bound =
    let code = code_part u m words first bound in
    let known = sum_two code (origins_part origins) 1114112 524288 (small_code u m words first bound) (length-within 524288 origins) in
    let last = sum_two run_middle_text (code ++ origins_part origins) 1024 1638400 small_middle known in
    let more = sum_two (stages_part stages) (run_middle_text ++ (code ++ origins_part origins)) 4194304 1639424 (length-within 4194304 stages) last in
    let all = sum_two run_head (stages_part stages ++ (run_middle_text ++ (code ++ origins_part origins))) 32768 5833728 small_head more in
    omega (arith, all)

-- a page whose states have no more bytes than there is room for
small_page : (front earlier states end : List ℕ) → length front ≤ 6000000 → length earlier ≤ 262144 → length states ≤ room_after (length front + length earlier) → length end ≤ 65536
    → length (front ++ ((earlier ++ states) ++ end)) ≤ 8388608
small_page front earlier states end few small room last =
    let inner = length-append earlier states in
    let outer = length-append (earlier ++ states) end in
    let all = length-append front ((earlier ++ states) ++ end) in
    omega (arith, inner, outer, all, few, small, room, last)

pub pages_are_small : PagesAreSmall
unfolding page_after played_text
pages_are_small u m code stages origins s first bound =
    let front = front_text u m code.words stages origins first bound in
    let now = iterate first (next u m code) s in
    let earlier = earlier_part s now in
    let room = room_after (length front + length earlier) in
    small_page front earlier _ run_tail (small_front u m code.words stages origins first bound) (length-within 262144 (before_text s now))
    (length-states_text (next u m code) (whole_text u m code.words) room (limited bound) now) small_tail
