-- What the rules of a machine say of its parts.
use Rattle.std.proofs.Common.{◌≡◌, ℕ, ◌/◌, ◌^◌, ◌<◌, ◌≤◌, Bool, true, false, cond, ◌&&◌, List, [], ◌∷◌, ◌++◌, length, map, filter, nat_le, Option, Some, None, All, refl, sym, ap, ◌∙◌, arith}
use Rattle.std.specs.Option.{option_map_or}
use Rattle.std.specs.List.{list_all, flat_map, enumerate_from}
use Rattle.std.proofs.lemmas.Bool.{and_parts, leb-true}
use Rattle.std.proofs.lemmas.List.Elements.{All-nil, All-cons, filter-append}
use Rattle.tta_arch.specs.declared.parts.Socket.{Socket}
use Rattle.tta_arch.specs.declared.parts.Unit.{Unit as OpUnit}
use Rattle.tta_arch.specs.declared.ends.Source.{Source}
use Rattle.tta_arch.specs.declared.ends.Source.TheVariants as source
use Rattle.tta_arch.specs.Machine.{Machine}
use Rattle.tta_arch.specs.Joins.{has_bit, is_source_on}
use Rattle.tta_arch.specs.Fields.{numbers, all_sources, sources_on}
use Rattle.tta_arch.specs.Rules.{is_unit, is_unit_op, is_socket, is_port_socket, same_op, are_different}
use Rattle.tta_arch.specs.Layout.{has_source_socket}
use Rattle.tta_arch.proofs.Widths.{no_high}

-- the fourth of six tests that all hold
fourth : (a b c d e f : Bool) → (a && b && c && d && e && f) ≡ true → d ≡ true
fourth a b c d e f h =
    let five = and_parts (a && b && c && d && e) f h in
    let four = and_parts (a && b && c && d) e five.0 in
    let three = and_parts (a && b && c) d four.0 in
    three.1

-- a unit has at most 32 operations
few_ops_of : (sockets : List Socket) (u : OpUnit) → is_unit sockets u ≡ true → length u.ops ≤ 256
few_ops_of sockets u h =
    let few = fourth (is_socket sockets true u.trigger) (is_port_socket sockets true u.operand) (is_port_socket sockets false u.result)
    (nat_le (length u.ops) 32) (list_all (is_unit_op u) u.ops) (are_different (λ o p. same_op o.op p.op) u.ops) h in
    let le : length u.ops ≤ 32 = leb-true (length u.ops) 32 few in
    omega arith

-- a unit has so few operations that a byte tells them apart
pub few_ops : (sockets : List Socket) (units : List OpUnit) → list_all (is_unit sockets) units ≡ true → All (λ u. length u.ops ≤ 256) units
few_ops sockets [] h = All-nil (λ u. length u.ops ≤ 256)
few_ops sockets (u ∷ us) h =
    let both = and_parts (is_unit sockets u) (list_all (is_unit sockets) us) h in
    All-cons (λ u. length u.ops ≤ 256) u us (few_ops_of sockets u both.0) (few_ops sockets us both.1)

-- ---- the sources of a bus

-- two tests that agree on each element of a list keep the same of it; so of lists of lists, and of two lists
same_kept : {X : Type 0} (p q : X → Bool) (f : ℕ → X) (ns : List ℕ) → ((n : ℕ) → p (f n) ≡ q (f n)) → filter p (map f ns) ≡ filter q (map f ns)
same_kept p q f [] h = refl
same_kept p q f (n ∷ ns) h =
    ap (λ b. cond b (f n ∷ filter p (map f ns)) (filter p (map f ns))) (h n)
    ∙ ap (λ l. cond (q (f n)) (f n ∷ l) l) (same_kept p q f ns h)

same_kept_pieces : {X Y : Type 0} (p q : X → Bool) (g : Y → List X) (ys : List Y) → ((y : Y) → filter p (g y) ≡ filter q (g y))
    → filter p (flat_map g ys) ≡ filter q (flat_map g ys)
same_kept_pieces p q g [] h = refl
same_kept_pieces p q g (y ∷ ys) h =
    filter-append p (g y) (flat_map g ys) ∙ ap (λ l. l ++ filter p (flat_map g ys)) (h y)
    ∙ ap (λ l. filter q (g y) ++ l) (same_kept_pieces p q g ys h) ∙ sym (filter-append q (g y) (flat_map g ys))

same_kept_both : {X : Type 0} (p q : X → Bool) (xs ys : List X) → filter p xs ≡ filter q xs → filter p ys ≡ filter q ys → filter p (xs ++ ys) ≡ filter q (xs ++ ys)
same_kept_both p q xs ys h k =
    filter-append p xs ys ∙ ap (λ l. l ++ filter p ys) h ∙ ap (λ l. filter q xs ++ l) k ∙ sym (filter-append q xs ys)

-- a port that may be left out, as the source of a bus
same_shown : (m : Machine) (bus unit : ℕ) (port : Option ℕ)
    → filter (has_source_socket m bus) (option_map_or (λ r. source.Shown unit ∷ []) port []) ≡ filter (is_source_on m bus) (option_map_or (λ r. source.Shown unit ∷ []) port [])
same_shown m bus unit None = refl
same_shown m bus unit (Some r) = refl

same_ra : (m : Machine) (bus : ℕ) (port : Option ℕ)
    → filter (has_source_socket m bus) (option_map_or (λ r. source.Ra ∷ []) port []) ≡ filter (is_source_on m bus) (option_map_or (λ r. source.Ra ∷ []) port [])
same_ra m bus None = refl
same_ra m bus (Some r) = refl

-- all sources of the list are such sources
pub sources_by_socket : (m : Machine) (bus : ℕ) → filter (has_source_socket m bus) (all_sources m) ≡ sources_on m bus
sources_by_socket m bus =
    let p : Source → Bool = has_source_socket m bus in
    let q : Source → Bool = is_source_on m bus in
    let files : List Source = flat_map (λ f. map (source.Reg f.0) (numbers f.1.size)) (enumerate_from 0 m.files) in
    let imms : List Source = flat_map (λ u. map (source.Imm u.0) (numbers u.1.size)) (enumerate_from 0 m.imms) in
    let results : List Source = flat_map (λ u. option_map_or (λ r. source.Shown u.0 ∷ []) u.1.result []) (enumerate_from 0 m.units) in
    same_kept_both p q (files ++ imms ++ results) (option_map_or (λ r. source.Ra ∷ []) m.control.ra [])
    (same_kept_both p q (files ++ imms) results
    (same_kept_both p q files imms
    (same_kept_pieces p q (λ f. map (source.Reg f.0) (numbers f.1.size)) (enumerate_from 0 m.files) (λ f. same_kept p q (source.Reg f.0) (numbers f.1.size) (λ n. refl)))
    (same_kept_pieces p q (λ u. map (source.Imm u.0) (numbers u.1.size)) (enumerate_from 0 m.imms) (λ u. same_kept p q (source.Imm u.0) (numbers u.1.size) (λ n. refl))))
    (same_kept_pieces p q (λ u. option_map_or (λ r. source.Shown u.0 ∷ []) u.1.result []) (enumerate_from 0 m.units) (λ u. same_shown m bus u.0 u.1.result)))
    (same_ra m bus m.control.ra)

-- a set of sixteen buses has no bus above
pub no_bus : (mask k : ℕ) → mask < 2 ^ 16 → 16 ≤ k → has_bit mask k ≡ false
no_bus mask k small h = let e : mask / 2 ^ k ≡ 0 = no_high mask 16 k small h in rw e
