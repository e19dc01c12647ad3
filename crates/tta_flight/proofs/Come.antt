-- Units whose results to come are one cycle nearer, one after another.
use Rattle.std.proofs.Common.{◌≡◌, ◌≢◌, ◌<◌, ◌≤◌, ◌+◌, ◌-◌, ℕ, suc, true, false, length, None, refl, ap, sym, ◌∙◌, subst, arith, w64}
use Rattle.std.specs.Prelude.{nat_lt}
use Rattle.std.specs.Option.{option_or}
use Rattle.std.specs.Int.{bit_at}
use Rattle.std.proofs.lemmas.Nat.Bits.{bit_at-zero, bit_at_not}
use Rattle.tta_flight.specs.Rings.{Rings, shown_in, due_in, later_in, HasCome, IsSame, IsCome, HaveCome}
use Rattle.tta_flight.proofs.Cells.{due_later}

-- ---- order, by its test

below : (a b : ℕ) → nat_lt a b ≡ true → a < b
below a b is = grind (arith, is)

not_below : (a b : ℕ) → nat_lt a b ≡ false → b ≤ a
not_below a b is = grind (arith, is)

-- ---- units that have come

-- none has come yet
pub none_come : (a : Rings) → HaveCome 0 a a
none_come a = record {
  units = refl;
  longest = λ u. refl;
  come = λ u had before. absurd (omega (arith, before));
  rest = λ u had past. record { shown = refl; due = λ d. refl };
}

module _ (u : ℕ) (a b c : Rings) where
  -- a unit that has come, and is then as before
  come_same : HasCome u a b → IsSame u b c → HasCome u a c
  come_same come same = record {
    shown = same.shown ∙ come.shown;
    now = same.due 0 ∙ come.now;
    later = λ past. same.due (suc past) ∙ come.later past;
  }

  -- a unit that is as before, and then comes
  same_come : IsSame u a b → HasCome u b c → HasCome u a c
  same_come same come = record {
    shown = come.shown ∙ ap (λ o. option_or o (shown_in b u)) (same.due 1) ∙ ap (option_or (due_in a u 1)) same.shown;
    now = come.now ∙ ap (λ o. option_or o (due_in b u 0)) (same.due 1) ∙ ap (option_or (due_in a u 1)) (same.due 0);
    later = λ past. come.later past ∙ sym (due_later b u (past + 1)) ∙ same.due (past + 1 + 1) ∙ due_later a u (past + 1);
  }

  same_same : IsSame u a b → IsSame u b c → IsSame u a c
  same_same one two = record { shown = two.shown ∙ one.shown; due = λ d. two.due d ∙ one.due d }

-- a unit to which nothing comes has come where it is as before
still_comes : (u : ℕ) (a b : Rings) → IsSame u a b → ((past : ℕ) → later_in b u past ≡ None) → HasCome u a b
still_comes u a b same none = record {
  shown = same.shown ∙ sym (ap (λ o. option_or o (shown_in a u)) nothing);
  now = same.due 0 ∙ sym (ap (λ o. option_or o (due_in a u 0)) nothing);
  later = λ past. none past ∙ sym (none (past + 1)) ∙ sym (due_later b u (past + 1)) ∙ same.due (past + 1 + 1) ∙ due_later a u (past + 1);
} where
  nothing : due_in a u 1 ≡ None
  nothing = sym (same.due 1) ∙ none 0

-- one more has come, where nothing comes to those between
pub come_more : (at unit : ℕ) (a b c : Rings) → HaveCome at a b → at ≤ unit → unit < length a.rings
    → ((u past : ℕ) → at ≤ u → u < unit → later_in b u past ≡ None) → IsCome unit b c → HaveCome (unit + 1) a c
come_more at unit a b c was order there none is = record {
  units = is.units ∙ was.units;
  longest = λ u. is.longest u ∙ was.longest u;
  come = λ u had before. elim (nat_lt u at) as (λ x. nat_lt u at ≡ x → HasCome u a c) [
    | true ↦ λ low.
        let low_is : u < at = below u at low in
        come_same u a b c (was.come u had low_is) (other u had (λ same. omega (arith, same, low_is, order)))
    | false ↦ λ high.
        let high_is : at ≤ u = not_below u at high in
        elim (nat_lt u unit) as (λ x. nat_lt u unit ≡ x → HasCome u a c) [
          | true ↦ λ under.
              let below_is : u < unit = below u unit under in
              come_same u a b c (still_comes u a b (was.rest u had high_is) (λ past. none u past high_is below_is)) (other u had (λ same. omega (arith, same, below_is)))
          | false ↦ λ last.
              let same : unit ≡ u = omega (arith, not_below u unit last, before) in
              subst (λ n. HasCome n a c) same (same_come unit a b c (was.rest unit there order) is.here)
        ] refl
  ] refl;
  rest = λ u had past. same_same u a b c (was.rest u had (omega (arith, past, order))) (other u had (λ same. omega (arith, same, past)));
} where
  other : (u : ℕ) → u < length a.rings → u ≢ unit → IsSame u b c
  other u had apart = is.others u (omega (arith, had, was.units)) apart

-- all have come, where nothing comes to those that are left
pub come_rest : (at : ℕ) (a b : Rings) → HaveCome at a b → ((u past : ℕ) → at ≤ u → u < length a.rings → later_in b u past ≡ None) → HaveCome (length a.rings) a b
come_rest at a b was none = record {
  units = was.units;
  longest = was.longest;
  come = λ u had before. elim (nat_lt u at) as (λ x. nat_lt u at ≡ x → HasCome u a b) [
    | true ↦ λ low. was.come u had (below u at low)
    | false ↦ λ high.
        let high_is : at ≤ u = not_below u at high in
        still_comes u a b (was.rest u had high_is) (λ past. none u past high_is had)
  ] refl;
  rest = λ u had past. absurd (omega (arith, had, past));
}

-- all bits are in the word of all bits
pub all_bits : (i : ℕ) → i < 64 → bit_at 18446744073709551615 i ≡ 1
all_bits i under = bit_at_not w64 0 i (omega arith) under ∙ ap {A = ℕ} (λ n. 1 - n) (bit_at-zero i)
