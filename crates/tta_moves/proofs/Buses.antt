-- The buses that join the ends of a move are buses of the machine.
use Rattle.std.proofs.Common.{◌≡◌, ℕ, zero, suc, ◌+◌, ◌<◌, ◌≤◌, ◌/◌, ◌^◌, Bool, true, false, List, [], ◌∷◌, length, Option, Some, None, refl, subst, arith, inl, inr}
use Rattle.std.specs.Prelude.{◌&&◌, slice_get}
use Rattle.std.specs.Option.{option_map_or}
use Rattle.std.specs.List.{list_any, range_with_len}
use Rattle.std.proofs.lemmas.Bool.{cases_lt, and_parts}
use Rattle.tta_list.proofs.Lists.{all_one}
use Rattle.tta_moves.specs.Cited.{Machine, IsMachine, IsBusSet, GuardRef, Source, Dest, Socket, has_bit, is_same, has_socket, dest_socket, joins, is_source_on, is_dest_on, has_guard}
use Rattle.tta_arch.proofs.Widths.{no_high}

-- a socket of a machine joins buses of the machine
socket_below : (m : Machine) → IsMachine m → (o : Option ℕ) (bus : ℕ) → has_socket m true o bus ≡ true → bus < length m.buses
socket_below m rules None bus h = absurd cc
socket_below m rules (Some k) bus h = on (slice_get m.sockets k) refl h where
  on : (s : Option Socket) → slice_get m.sockets k ≡ s → option_map_or (λ s. is_same true s.input && has_bit s.buses bus) s false ≡ true → bus < length m.buses
  on None e t = absurd cc
  on (Some s) e t =
      let set = all_one (λ s. IsBusSet (length m.buses) s.buses) m.sockets k s rules.sockets e in
      let bit = (and_parts (is_same true s.input) (has_bit s.buses bus) t).1 in
      elim (cases_lt bus (length m.buses)) [
        | inl below ↦ below
        | inr above ↦
            let none : s.buses / 2 ^ bus ≡ 0 = no_high s.buses (length m.buses) bus set.1 above in
            let no : has_bit s.buses bus ≡ false = rw none refl in
            absurd cc
      ]

pub joins_below : (m : Machine) → IsMachine m → (bus : ℕ) (src : Source) (dst : Dest) (guard : Option GuardRef) → joins m bus src dst guard ≡ true → bus < length m.buses
joins_below m rules bus src dst guard h =
    let two = (and_parts (is_source_on m bus src && is_dest_on m bus dst) (has_guard m bus guard) h).0 in
    socket_below m rules (dest_socket m dst) bus (and_parts (is_source_on m bus src) (is_dest_on m bus dst) two).1

pub any_below : (p : ℕ → Bool) (a n k : ℕ) → a ≤ k → k < a + n → p k ≡ true → list_any p (range_with_len a n) ≡ true
any_below p a zero k low high h = absurd (omega arith)
any_below p a (suc n) k low high h = on (p a) refl (λ more. any_below p (a + 1) n k more (omega arith) h) where
  on : (b : Bool) → p a ≡ b → (a + 1 ≤ k → list_any p (range_with_len (a + 1) n) ≡ true) → list_any p (range_with_len a (suc n)) ≡ true
  on true e ih = rw e refl
  on false e ih = elim (cases_lt a k) [
    | inl more ↦ rw e (ih (omega arith))
    | inr less ↦ let same : k ≡ a = omega arith in let t : p a ≡ true = subst (λ n. p n ≡ true) same h in absurd cc
  ]

pub none_of : (p : ℕ → Bool) (ks : List ℕ) → ((k : ℕ) → p k ≡ false) → list_any p ks ≡ false
none_of p [] h = refl
none_of p (k ∷ ks) h = rw (h k) (none_of p ks h)
