-- One word, one line and one procedure more.
use Rattle.std.proofs.Common.{◌≡◌, ◌≤◌, ℕ, zero, suc, ◌+◌, ◌<◌, ◌^◌, Bool, List, [], ◌∷◌, ◌++◌, length, take, get_or, refl, sym, ap, ◌∙◌, subst, arith, append_assoc, append-nil}
use Rattle.std.specs.Prelude.{if◌then◌else◌}
use Rattle.std.specs.List.{flat_map, sum_by, AllByRecursion}
use Rattle.std.proofs.Math.Seq.{take-suc}
use Rattle.std.proofs.lemmas.List.Sums.{sum_by-cons}
use Rattle.tta_pretty.specs.Cited.{Lexeme, Line, Units, Src, Step, Proc, DataLine, Program, IsProgram, is_target}
use Rattle.tta_list.proofs.Lists.{all_weaker}
use Rattle.tta_pretty.specs.Printed.{Printed, Words, Label, label_name, word, var_name, src_word, src_words, words, var_names, spaced, line_text, step_lines, label_before, step_line, proc_lines, proc_line, data_lines, data_line}
use Rattle.tta_pretty.specs.Printing.{spaced_after, proc_text}

-- no procedure of few steps has many
pub steps_short : (qs : List Proc) (n : ℕ) → sum_by (λ q. length q.steps) qs ≤ n → AllByRecursion (λ q. length q.steps ≤ n) qs
steps_short [] n le = tt
steps_short (q ∷ qs) n le =
    let sum = sum_by-cons (λ (x : Proc). length x.steps) q qs in
    (omega arith, steps_short qs n (omega arith))

-- ---- words

spaced-append : (xs ys : Line) → spaced_after (xs ++ ys) ≡ spaced_after xs ++ spaced_after ys
spaced-append [] ys = refl
spaced-append (w ∷ ws) ys = ap (λ l. 32 ∷ (w.text ++ l)) (spaced-append ws ys) ∙ ap (λ l. 32 ∷ l) (sym (append_assoc w.text (spaced_after ws) (spaced_after ys)))

srcs-append : (xs ys : List Src) → src_words (xs ++ ys) ≡ src_words xs ++ src_words ys
srcs-append [] ys = refl
srcs-append (s ∷ ss) ys = ap (λ l. src_word s ∷ l) (srcs-append ss ys)

-- a first word and those after it
pub spaced-cons : (w : Lexeme) (ws : Line) → spaced (w ∷ ws) ≡ w.text ++ spaced_after ws
spaced-cons w [] = sym (append-nil w.text)
spaced-cons w (v ∷ ws) = ap (λ l. w.text ++ (32 ∷ l)) (spaced-cons v ws)

pub srcs_more : (ss : List Src) (k : ℕ) (s : Src) → k < length ss → s ≡ get_or ss k s → spaced_after (src_words (take (k + 1) ss)) ≡ spaced_after (src_words (take k ss)) ++ (32 ∷ (src_word s).text)
srcs_more ss k s below is =
    ap (λ n. spaced_after (src_words (take n ss))) (let e : k + 1 ≡ suc k = omega arith in e)
    ∙ ap (λ l. spaced_after (src_words l)) (take-suc ss k s below ∙ ap (λ x. take k ss ++ x ∷ []) (sym is))
    ∙ ap spaced_after (srcs-append (take k ss) (s ∷ [])) ∙ spaced-append (src_words (take k ss)) (src_word s ∷ [])
    ∙ ap (λ l. spaced_after (src_words (take k ss)) ++ (32 ∷ l)) (append-nil (src_word s).text)

vars_push : (k n : ℕ) → words (var_names k (suc n)) ≡ words (var_names k n) ++ word (var_name (k + n)) ∷ []
vars_push k zero = ap (λ x. word (var_name x) ∷ []) (let e : k ≡ k + zero = omega arith in e)
vars_push k (suc n) = ap (λ l. word (var_name k) ∷ l) (vars_push (k + 1) n ∙ ap (λ x. words (var_names (k + 1) n) ++ word (var_name x) ∷ []) (let e : (k + 1) + n ≡ k + suc n = omega arith in e))

pub vars_more : (k : ℕ) → spaced_after (words (var_names 0 (k + 1))) ≡ spaced_after (words (var_names 0 k)) ++ (32 ∷ var_name k)
vars_more k =
    ap (λ n. spaced_after (words (var_names 0 n))) (let e : k + 1 ≡ suc k = omega arith in e) ∙ ap spaced_after (vars_push 0 k)
    ∙ spaced-append (words (var_names 0 k)) (word (var_name (0 + k)) ∷ [])
    ∙ ap (λ l. spaced_after (words (var_names 0 k)) ++ (32 ∷ l)) (append-nil (var_name (0 + k)))
    ∙ ap (λ n. spaced_after (words (var_names 0 k)) ++ (32 ∷ var_name n)) (let e : 0 + k ≡ k = omega arith in e)

-- what is put after what was put before
pub put_more : (first before more new : List ℕ) (old part : List ℕ) → new ≡ before ++ more → before ≡ first ++ old → part ≡ old ++ more → new ≡ first ++ part
put_more first before more new old part one was is = one ∙ ap (λ b. b ++ more) was ∙ append_assoc first old more ∙ ap (λ l. first ++ l) (sym is)

-- ---- lines

lines-append : (xs ys : List Printed) → flat_map line_text (xs ++ ys) ≡ flat_map line_text xs ++ flat_map line_text ys
lines-append [] ys = refl
lines-append (x ∷ xs) ys = ap (λ l. line_text x ++ l) (lines-append xs ys) ∙ sym (append_assoc (line_text x) (flat_map line_text xs) (flat_map line_text ys))

-- the text of a step with its label
abbrev pub step_text : Units → (main : ℕ) → (all : List Step) → (k : ℕ) → Step → List ℕ
step_text u main all k step = flat_map line_text (label_before all k ++ (Words (step_line u main step) ∷ []))

steps-append : (u : Units) (main : ℕ) (all : List Step) (k : ℕ) (xs ys : List Step) → step_lines u main all k (xs ++ ys) ≡ step_lines u main all k xs ++ step_lines u main all (k + length xs) ys
steps-append u main all k [] ys = ap (λ n. step_lines u main all n ys) (let e : k ≡ k + length {A = Step} [] = omega arith in e)
steps-append u main all k (x ∷ xs) ys =
    ap (λ l. label_before all k ++ (Words (step_line u main x) ∷ l)) (steps-append u main all (k + 1) xs ys
    ∙ ap (λ n. step_lines u main all (k + 1) xs ++ step_lines u main all n ys) (let e : (k + 1) + length xs ≡ k + length (x ∷ xs) = omega arith in e))
    ∙ sym (append_assoc (label_before all k) (Words (step_line u main x) ∷ step_lines u main all (k + 1) xs) (step_lines u main all (k + length (x ∷ xs)) ys))

taken : {A : Type 0} (xs : List A) (k : ℕ) → k ≤ length xs → length (take k xs) ≡ k
taken xs zero le = refl
taken [] (suc k) le = absurd (omega arith)
taken (x ∷ xs) (suc k) le = ap suc (taken xs k (omega arith))

pub steps_more : (u : Units) (main : ℕ) (all : List Step) (k : ℕ) (step : Step) → k < length all → step ≡ get_or all k step
    → flat_map line_text (step_lines u main all 0 (take (k + 1) all)) ≡ flat_map line_text (step_lines u main all 0 (take k all)) ++ step_text u main all k step
steps_more u main all k step below is =
    ap (λ n. flat_map line_text (step_lines u main all 0 (take n all))) (let e : k + 1 ≡ suc k = omega arith in e)
    ∙ ap (λ l. flat_map line_text (step_lines u main all 0 l)) (take-suc all k step below ∙ ap (λ x. take k all ++ x ∷ []) (sym is))
    ∙ ap (flat_map line_text) (steps-append u main all 0 (take k all) (step ∷ []))
    ∙ lines-append (step_lines u main all 0 (take k all)) (step_lines u main all (0 + length (take k all)) (step ∷ []))
    ∙ ap (λ n. flat_map line_text (step_lines u main all 0 (take k all)) ++ step_text u main all n step) (let t = taken all k (omega arith) in let e : 0 + length (take k all) ≡ k = omega arith in e)

-- ---- procedures

procs-append : (u : Units) (main k : ℕ) (xs : List Proc) (y : Proc) → flat_map line_text (proc_lines u main k (xs ++ y ∷ [])) ≡ flat_map line_text (proc_lines u main k xs) ++ proc_text u main (k + length xs) y
procs-append u main k [] y =
    ap (λ l. line_text (Words (proc_line main k y.params)) ++ l) (ap (flat_map line_text) (append-nil (step_lines u main y.steps 0 y.steps)))
    ∙ ap (λ n. proc_text u main n y) (let e : k ≡ k + length {A = Proc} [] = omega arith in e)
procs-append u main k (x ∷ xs) y =
    let head = line_text (Words (proc_line main k x.params)) in
    let steps = step_lines u main x.steps 0 x.steps in
    let rest = proc_lines u main (k + 1) xs in
    ap (λ l. head ++ l) (lines-append steps (proc_lines u main (k + 1) (xs ++ y ∷ [])))
    ∙ ap (λ l. head ++ (flat_map line_text steps ++ l)) (procs-append u main (k + 1) xs y ∙ ap (λ n. flat_map line_text rest ++ proc_text u main n y) (let e : (k + 1) + length xs ≡ k + length (x ∷ xs) = omega arith in e))
    ∙ ap (λ l. head ++ l) (sym (append_assoc (flat_map line_text steps) (flat_map line_text rest) (proc_text u main (k + length (x ∷ xs)) y)))
    ∙ ap (λ l. head ++ (l ++ proc_text u main (k + length (x ∷ xs)) y)) (sym (lines-append steps rest))
    ∙ sym (append_assoc head (flat_map line_text (steps ++ rest)) (proc_text u main (k + length (x ∷ xs)) y))

pub procs_more : (u : Units) (main : ℕ) (qs : List Proc) (k : ℕ) (q : Proc) → k < length qs → q ≡ get_or qs k q
    → flat_map line_text (proc_lines u main 0 (take (k + 1) qs)) ≡ flat_map line_text (proc_lines u main 0 (take k qs)) ++ proc_text u main k q
procs_more u main qs k q below is =
    ap (λ n. flat_map line_text (proc_lines u main 0 (take n qs))) (let e : k + 1 ≡ suc k = omega arith in e)
    ∙ ap (λ l. flat_map line_text (proc_lines u main 0 l)) (take-suc qs k q below ∙ ap (λ x. take k qs ++ x ∷ []) (sym is))
    ∙ procs-append u main 0 (take k qs) q
    ∙ ap (λ n. flat_map line_text (proc_lines u main 0 (take k qs)) ++ proc_text u main n q) (let t = taken qs k (omega arith) in let e : 0 + length (take k qs) ≡ k = omega arith in e)

-- ---- data

datas-append : (xs : List DataLine) (y : DataLine) → flat_map line_text (data_lines (xs ++ y ∷ [])) ≡ flat_map line_text (data_lines xs) ++ line_text (Words (data_line y))
datas-append [] y = append-nil (line_text (Words (data_line y)))
datas-append (x ∷ xs) y =
    ap (λ l. line_text (Words (data_line x)) ++ l) (datas-append xs y)
    ∙ sym (append_assoc (line_text (Words (data_line x))) (flat_map line_text (data_lines xs)) (line_text (Words (data_line y))))

pub datas_more : (init : List DataLine) (k : ℕ) (d : DataLine) → k < length init → d ≡ get_or init k d
    → flat_map line_text (data_lines (take (k + 1) init)) ≡ flat_map line_text (data_lines (take k init)) ++ line_text (Words (data_line d))
datas_more init k d below is =
    ap (λ n. flat_map line_text (data_lines (take n init))) (let e : k + 1 ≡ suc k = omega arith in e)
    ∙ ap (λ l. flat_map line_text (data_lines l)) (take-suc init k d below ∙ ap (λ x. take k init ++ x ∷ []) (sym is))
    ∙ datas-append (take k init) d

-- what stands within a list is read whatever stands past its end
default_any : {A : Type 0} (xs : List A) (k : ℕ) (d e : A) → k < length xs → get_or xs k d ≡ get_or xs k e
default_any [] k d e below = absurd (omega arith)
default_any (x ∷ xs) zero d e below = refl
default_any (x ∷ xs) (suc k) d e below = default_any xs k d e (omega arith)

pub srcs_at : (ss : List Src) (k : ℕ) (d : Src) → k < length ss → spaced_after (src_words (take (k + 1) ss)) ≡ spaced_after (src_words (take k ss)) ++ (32 ∷ (src_word (get_or ss k d)).text)
srcs_at ss k d below = srcs_more ss k (get_or ss k d) below (default_any ss k d (get_or ss k d) below)

pub datas_at : (init : List DataLine) (k : ℕ) (d : DataLine) → k < length init
    → flat_map line_text (data_lines (take (k + 1) init)) ≡ flat_map line_text (data_lines (take k init)) ++ line_text (Words (data_line (get_or init k d)))
datas_at init k d below = datas_more init k (get_or init k d) below (default_any init k d (get_or init k d) below)

-- a line of two words and then any others
pub line_put : (key name : List ℕ) (ws : Line) (old first second third last : List ℕ) → first ≡ old ++ (key ++ 32 ∷ []) → second ≡ first ++ name → third ≡ second ++ spaced_after ws → last ≡ third ++ 10 ∷ []
    → last ≡ old ++ line_text (Words (word key ∷ word name ∷ ws))
line_put key name ws old first second third last a b c d =
    let line : line_text (Words (word key ∷ word name ∷ ws)) ≡ (key ++ (32 ∷ (name ++ spaced_after ws))) ++ 10 ∷ [] = ap (λ l. (key ++ (32 ∷ l)) ++ 10 ∷ []) (spaced-cons (word name) ws) in
    let one : third ≡ ((old ++ (key ++ 32 ∷ [])) ++ name) ++ spaced_after ws = c ∙ ap (λ l. l ++ spaced_after ws) (b ∙ ap (λ l. l ++ name) a) in
    let two : ((old ++ (key ++ 32 ∷ [])) ++ name) ++ spaced_after ws ≡ old ++ (key ++ (32 ∷ (name ++ spaced_after ws))) =
    append_assoc (old ++ (key ++ 32 ∷ [])) name (spaced_after ws) ∙ append_assoc old (key ++ 32 ∷ []) (name ++ spaced_after ws) ∙ ap (λ l. old ++ l) (append_assoc key (32 ∷ []) (name ++ spaced_after ws)) in
    d ∙ ap (λ l. l ++ 10 ∷ []) (one ∙ two) ∙ append_assoc old (key ++ (32 ∷ (name ++ spaced_after ws))) (10 ∷ []) ∙ ap (λ l. old ++ l) (sym line)

-- a step with its label, put one after the other
pub step_put : (u : Units) (main : ℕ) (all : List Step) (k : ℕ) (step : Step) (marked : Bool) (old one two : List ℕ) → marked ≡ is_target all k
    → one ≡ old ++ flat_map line_text (if marked then Label (label_name k) ∷ [] else []) → two ≡ one ++ line_text (Words (step_line u main step)) → two ≡ old ++ step_text u main all k step
step_put u main all k step marked old one two same first second =
    second ∙ ap (λ l. l ++ line_text (Words (step_line u main step))) first
    ∙ append_assoc old (flat_map line_text (if marked then Label (label_name k) ∷ [] else [])) (line_text (Words (step_line u main step)))
    ∙ ap (λ b. old ++ (flat_map line_text (if b then Label (label_name k) ∷ [] else []) ++ line_text (Words (step_line u main step)))) same
    ∙ ap (λ l. old ++ (flat_map line_text (label_before all k) ++ l)) (sym (append-nil (line_text (Words (step_line u main step)))))
    ∙ ap (λ l. old ++ l) (sym (lines-append (label_before all k) (Words (step_line u main step) ∷ [])))

-- the steps of procedures of a program are few
pub procs_short : (p : Program) (procs : List Proc) → IsProgram p → procs ≡ p.procs → AllByRecursion (λ q. length q.steps < 2 ^ 32) procs
procs_short p procs rules same =
    subst (AllByRecursion (λ q. length q.steps < 2 ^ 32)) (sym same)
    (all_weaker (λ (q : Proc). length q.steps ≤ 65536) (λ (q : Proc). length q.steps < 2 ^ 32) p.procs (λ q le. omega arith) (steps_short p.procs 65536 (omega (arith, rules.lines))))
