-- Lanes that are free from a row on.
use Rattle.std.proofs.Common.{◌≡◌, ℕ, zero, suc, ◌+◌, ◌-◌, ◌<◌, ◌≤◌, ◌==◌, Bool, true, false, not, List, [], ◌∷◌, ◌++◌, refl, sym, ap, ◌∙◌, arith, max, true≢false, subst, length, get_or, drop}
use Rattle.std.specs.Prelude.{◌&&◌, ◌||◌, nat_le, nat_lt, if◌then◌else◌, replicate, slice_index}
use Rattle.std.proofs.lemmas.Bool.{eqb-true, eq-eqb, ne_eqb, le-leb}
use Rattle.std.proofs.lemmas.List.{drop_more}
use Rattle.std.proofs.lemmas.List.Folds.{list_all-append}
use Rattle.tta_draw.specs.declared.span.Span.{Span}
use Rattle.tta_draw.specs.declared.span.Laid.{Laid}
use Rattle.tta_draw.specs.Lanes.{bottom_row, top_row, is_free, first_lane, lane_of, with_spans}
use Rattle.tta_code.proofs.SlotLemmas.{and_true}
use Rattle.tta_list.proofs.Lists.{zeros as zero-in}

-- a lane that is free is the first of the lanes from it on
pub first_lane-here : (free : ℕ → Bool) (all lane : ℕ) → lane < all → free lane ≡ true → first_lane free (all - lane) lane ≡ lane
first_lane-here free all lane less is =
    let e : all - lane ≡ suc (all - (lane + 1)) = omega arith in
    rw (e, is) refl

-- one that is not is passed over
pub first_lane-next : (free : ℕ → Bool) (all lane : ℕ) → lane < all → free lane ≡ false → first_lane free (all - lane) lane ≡ first_lane free (all - (lane + 1)) (lane + 1)
first_lane-next free all lane less is =
    let e : all - lane ≡ suc (all - (lane + 1)) = omega arith in
    rw (e, is) refl

-- two tests that agree on the lanes give the same
pub first_lane-same : (f g : ℕ → Bool) (left lane : ℕ) → ((k : ℕ) → k < lane + left → f k ≡ g k) → first_lane f left lane ≡ first_lane g left lane
first_lane-same f g zero lane same = refl
first_lane-same f g (suc left) lane same =
    rw (same lane (omega arith), first_lane-same f g left (lane + 1) (λ k h. same k (omega (arith, h)))) refl

-- rows from which on the sixteen lanes are free
pub record AreFree (laid : List Laid) (free : List ℕ) : Type 0 where
  pub each : (lane row : ℕ) → lane < 16 → is_free laid lane row ≡ nat_le (slice_index free lane) row

-- so they give the lane of the next span
pub lane-free : (lanes : ℕ) (laid : List Laid) (free : List ℕ) (s : Span) → lanes ≤ 16 → AreFree laid free
    → first_lane (λ lane. nat_le (slice_index free lane) (top_row s)) (lanes - 1) 0 ≡ lane_of lanes laid s
lane-free lanes laid free s few are =
    first_lane-same (λ lane. nat_le (slice_index free lane) (top_row s)) (λ lane. is_free laid lane (top_row s)) (lanes - 1) 0
    (λ k h. sym (are.each k (top_row s) (omega (arith, h, few))))

-- at first all lanes are free
pub none-taken : (free : List ℕ) → free ≡ replicate 16 0 → AreFree [] free
none-taken free is = record { each = λ lane row h. rw (is, zero-in 16 lane) (sym (le-leb 0 row (omega arith))) }

-- a row is past two rows where it is past the lower of them
past-both : (a b row : ℕ) → (nat_le a row && nat_lt b row) ≡ nat_le (max a (b + 1)) row
past-both a b row = by (nat_le a row) (nat_lt b row) refl refl where
  by : (s t : Bool) → nat_le a row ≡ s → nat_lt b row ≡ t → (nat_le a row && nat_lt b row) ≡ nat_le (max a (b + 1)) row
  by s t is at = grind arith

-- and after one span more the rows are these
pub lane-taken : (laid more : List Laid) (free new : List ℕ) (a : Laid) (bottom : ℕ) → more ≡ laid ++ a ∷ [] → bottom ≡ bottom_row a.span → a.lane < 16
    → ((k : ℕ) → k < 16 → slice_index new k ≡ (if k == a.lane then max (slice_index free k) (bottom + 1) else slice_index free k))
    → AreFree laid free → AreFree more new
lane-taken laid more free new a bottom pushed low small taken are = subst (λ l. AreFree l new) (sym pushed) (record { each = each }) where
  test : (lane row : ℕ) → Laid → Bool
  test lane row x = not (x.lane == lane) || nat_lt (bottom_row x.span) row

  each : (lane row : ℕ) → lane < 16 → is_free (laid ++ a ∷ []) lane row ≡ nat_le (slice_index new lane) row
  each lane row h =
      list_all-append (test lane row) laid (a ∷ []) ∙ ap (λ b. b && (test lane row a && true)) (are.each lane row h)
      ∙ by (lane == a.lane) refl
      ∙ ap (λ n. nat_le n row) (sym (taken lane h ∙ ap (λ n. if lane == a.lane then max (slice_index free lane) (n + 1) else slice_index free lane) low)) where
        by : (b : Bool) → (lane == a.lane) ≡ b
            → (nat_le (slice_index free lane) row && (test lane row a && true))
            ≡ nat_le (if lane == a.lane then max (slice_index free lane) (bottom_row a.span + 1) else slice_index free lane) row
        by true is =
            let same : (a.lane == lane) ≡ true = eq-eqb a.lane lane (sym (eqb-true lane a.lane is)) in
            rw (is, same) (ap (λ b. nat_le (slice_index free lane) row && b) (and_true (nat_lt (bottom_row a.span) row))
            ∙ past-both (slice_index free lane) (bottom_row a.span) row)
        by false is =
            let other : (a.lane == lane) ≡ false = ne_eqb a.lane lane (λ e. true≢false (sym (eq-eqb lane a.lane (sym e)) ∙ is)) in
            rw (is, other) (and_true (nat_le (slice_index free lane) row))

-- the lane that the rows give is that of the next span
pub lane-is : (lanes : ℕ) (laid : List Laid) (free : List ℕ) (s : Span) (row lane : ℕ)
    → lane ≡ first_lane (λ lane. nat_le (slice_index free lane) row) (lanes - 1) 0 → row ≡ top_row s
    → lanes ≤ 16 → AreFree laid free → lane ≡ lane_of lanes laid s
lane-is lanes laid free s row lane is top few are =
    is ∙ ap (λ (r : ℕ). first_lane (λ lane. nat_le (slice_index free lane) r) (lanes - 1) 0) top ∙ lane-free lanes laid free s few are

-- and the spans that are left follow it
pub spans-more : (lanes : ℕ) (laid more all : List Laid) (spans : List Span) (k : ℕ) (s : Span) (lane : ℕ) → k < length spans → s ≡ get_or spans k s
    → lane ≡ lane_of lanes laid s → more ≡ laid ++ record { span = s; lane = lane } ∷ []
    → with_spans lanes laid (drop k spans) ≡ all → with_spans lanes more (drop (k + 1) spans) ≡ all
spans-more lanes laid more all spans k s lane within is at pushed was =
    ap (λ (l : List Laid). with_spans lanes l (drop (k + 1) spans)) (pushed ∙ ap (λ (n : ℕ). laid ++ record { span = s; lane = n } ∷ []) at)
    ∙ sym (ap (with_spans lanes laid) (drop_more spans k s within ∙ ap (λ (x : Span). x ∷ drop (k + 1) spans) (sym is))) ∙ was
