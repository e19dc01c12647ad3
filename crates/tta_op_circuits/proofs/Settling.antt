-- The wires of a circuit of an operation settle to its word.
use Rattle.std.proofs.Common.{◌≡◌, ℕ, ◌<◌, ◌≤◌, ◌+◌, ◌^◌, true, false, ◌&&◌, List, [], ◌∷◌, refl, sym, ap, ◌∙◌, subst, arith}
use Rattle.std.specs.Prelude.{if◌then◌else◌, nat_eq}
use Rattle.std.proofs.lemmas.Bool.{and_parts, eqb-true, true≢false}
use Rattle.std.proofs.lemmas.Bool.Decides.{nat_tests}
use Rattle.tta_op_circuits.specs.Cited.{Units, Expr, Const, Wire, value, settle, is_ordered, TellsApart, AreMadeBy, Solves}
use Rattle.tta_circuit.proofs.Settling.{settled_solves}
use Rattle.tta_op_circuits.specs.Worked.{Port, First, Second, Inner, rank, is_inner, are_numbered, are_written, is_written, is_in_order, same_port}
use Rattle.tta_op_circuits.specs.Laws.{SettlesTo}

same_itself : (k : ℕ) → nat_eq k k ≡ true
same_itself k = grind (arith, nat_tests)

other_one : (j n : ℕ) → j + 1 ≤ n → nat_eq j n ≡ false
other_one j n h = grind (arith, nat_tests)

port_is : (x y : Port) → same_port x y ≡ true → x ≡ y
port_is First First h = refl
port_is Second Second h = refl
port_is (Inner j) (Inner k) h = ap Inner (eqb-true j k h)
port_is First Second h = absurd (true≢false (sym h))
port_is First (Inner k) h = absurd (true≢false (sym h))
port_is Second First h = absurd (true≢false (sym h))
port_is Second (Inner k) h = absurd (true≢false (sym h))
port_is (Inner j) First h = absurd (true≢false (sym h))
port_is (Inner j) Second h = absurd (true≢false (sym h))

port_itself : (x : Port) → same_port x x ≡ true
port_itself First = refl
port_itself Second = refl
port_itself (Inner k) = same_itself k

tells : TellsApart same_port
tells = record { is = port_is; itself = port_itself }

-- the expression of a wire, by its number, where the first is numbered k
abbrev made_at : (k : ℕ) → List (Wire Port ⊥) → ℕ → Expr Port ⊥
made_at k [] n = Const 0 0
made_at k (w ∷ ws) n = if nat_eq k n then w.word else made_at (k + 1) ws n

abbrev made_by : (ℕ → Expr Port ⊥) → Port → Expr Port ⊥
made_by made First = Const 0 0
made_by made Second = Const 0 0
made_by made (Inner n) = made n

named_inner : (k : ℕ) (n : Port) → is_inner k n ≡ true → n ≡ Inner k
named_inner k First h = absurd (true≢false (sym h))
named_inner k Second h = absurd (true≢false (sym h))
named_inner k (Inner n) h = ap Inner (eqb-true n k h)

are_made : (made : ℕ → Expr Port ⊥) (k : ℕ) (ws : List (Wire Port ⊥)) → are_numbered k ws ≡ true
    → ((n : ℕ) → k ≤ n → made n ≡ made_at k ws n) → AreMadeBy (made_by made) ws
are_made made k [] h is = tt
are_made made k (w ∷ ws) h is =
    let p = and_parts (is_inner k w.name) (are_numbered (k + 1) ws) h in (
      ap (λ c. if c then w.word else made_at (k + 1) ws k) (sym (same_itself k)) ∙ sym (is k (omega arith))
          ∙ ap (made_by made) (sym (named_inner k w.name p.0)),
      are_made made (k + 1) ws p.1
          (λ n more. is n (omega (arith, more)) ∙ ap (λ c. if c then w.word else made_at (k + 1) ws n) (other_one k n more)),
    )

-- the words of an operation are no wires
words_stay : (u : Units) (ms : ⊥ → List ℕ) (k : ℕ) (ws : List (Wire Port ⊥)) (env : Port → ℕ) (x : Port) → are_numbered k ws ≡ true
    → ((j : ℕ) → same_port (Inner j) x ≡ false) → settle same_port u ms env ws x ≡ env x
words_stay u ms k [] env x h other = refl
words_stay u ms k (w ∷ ws) env x h other =
    let p = and_parts (is_inner k w.name) (are_numbered (k + 1) ws) h in
    words_stay u ms (k + 1) ws (λ y. if same_port w.name y then value u ms env w.word else env y) x p.1 other
    ∙ ap (λ c. if c then value u ms env w.word else env x) (ap (λ n. same_port n x) (named_inner k w.name p.0) ∙ other k)

pub settles_to : SettlesTo
unfolding is_in_order
settles_to w op makes u ms env a b =
    let made = made_at 0 w.wires in
    let order = and_parts (are_numbered 0 w.wires) (is_ordered rank 0 w.wires)
    (and_parts (are_numbered 0 w.wires && is_ordered rank 0 w.wires) (are_written w.widths w.wires && is_written w.widths 32 w.word)
    makes.in_order).0 in
    let after : Port → ℕ = settle same_port u ms env w.wires in
    let solved : Solves u ms after w.wires =
    (settled_solves Port ⊥ same_port tells rank u ms env (made_by made) 0 w.wires order.1
    (are_made made 0 w.wires order.0 (λ n more. refl))).0 in
    let first : after First ≡ env First = words_stay u ms 0 w.wires env First order.0 (λ j. refl) in
    let second : after Second ≡ env Second = words_stay u ms 0 w.wires env Second order.0 (λ j. refl) in
    makes.word u ms after (subst (λ t. t < 2 ^ 32) (sym first) a) (subst (λ t. t < 2 ^ 32) (sym second) b) solved
    ∙ ap (λ x. op x (after Second)) first ∙ ap (op (env First)) second
