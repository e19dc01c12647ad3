-- The line that begins a procedure keeps what makes a program keep the rules.
use Rattle.std.proofs.Common.{◌≡◌, ℕ, ◌+◌, ◌<◌, ◌≤◌, true, false, List, ◌++◌, length, Some, refl, sym, ◌∙◌, ap, subst, arith, length-append, append-nil, inl, inr, ◌⊎◌}
use Rattle.std.specs.Prelude.{◌&&◌, nat_lt, slice_get, codes, option_to_list}
use Rattle.std.specs.Str.{bytes_eq}
use Rattle.std.specs.List.{sum_by}
use Rattle.std.specs.Cmp.Lexicographic.{nat_list_eq_equiv}
use Rattle.std.proofs.lemmas.Bool.{ltb-false}
use Rattle.std.proofs.lemmas.Option.{slice_get_within}
use Rattle.tta_list.proofs.Tests.{none_from_is_some}
use Rattle.tta_tac.specs.Cited.{named_in}
use Rattle.tta_tac.specs.Draft.{ProcDraft, Draft}
use Rattle.tta_tac.specs.Kept.{IsOpen, all_procs, IsKept}
use Rattle.tta_tac.specs.FirstPass.{fresh, with_fresh}
use Rattle.tta_tac.proofs.VariableLists.{named_more, numbered_length, numbered_below}
use Rattle.tta_tac.proofs.Taken.{ProcTaken}
use Rattle.tta_tac.proofs.Growing.{sum_last, get_last}

none_over : (n : ℕ) → nat_lt 0 n ≡ false → n ≡ 0
none_over n e = let few = ltb-false 0 n e in omega arith

-- a procedure of which only the first line was read
fresh_open : (line : ℕ) (params : List (List ℕ)) → length params ≤ 8 → IsOpen (fresh line params)
fresh_open line params few =
    let size = numbered_length 0 params in
    record {
      draft = record {
        params = few;
        vars = omega arith;
        among = omega arith;
        numbers = λ name k at. let b = numbered_below 0 params name k at in omega arith;
        steps = refl;
        lines = refl;
      };
      labels = λ name k at. absurd cc;
      no_end = refl;
    }

-- a procedure begins
module _ (d e : Draft) (kept : IsKept d) (line : ℕ) (name : List ℕ) (params : List (List ℕ)) (t : ProcTaken d e line name params) where
  old_are : all_procs d ≡ d.procs
  old_are = ap (λ o. d.procs ++ option_to_list o) (none_from_is_some d.begun t.closed) ∙ append-nil d.procs

  old_within : (m : List ℕ) (k : ℕ) → named_in d.names m ≡ Some k → k < length d.procs
  old_within m k at = subst (λ qs. k < length qs) old_are (kept.names m k at)

  fresh_names : (m : List ℕ) (k : ℕ) → (named_in d.names m ≡ Some k) ⊎ ((bytes_eq name m ≡ true) × (length d.procs ≡ k))
      → k < length (all_procs (with_fresh d line name params))
  fresh_names m k (inl at) = let b = old_within m k at in let s = length-append d.procs (option_to_list (with_fresh d line name params).begun) in omega arith
  fresh_names m k (inr at) = let same = at.1 in let s = length-append d.procs (option_to_list (with_fresh d line name params).begun) in omega arith

  fresh_once : (a b : List ℕ) (k : ℕ) → (named_in d.names a ≡ Some k) ⊎ ((bytes_eq name a ≡ true) × (length d.procs ≡ k))
      → (named_in d.names b ≡ Some k) ⊎ ((bytes_eq name b ≡ true) × (length d.procs ≡ k)) → bytes_eq a b ≡ true
  fresh_once a b k (inl at) (inl on) = kept.once a b k at on
  fresh_once a b k (inl at) (inr on) = let w = old_within a k at in let same = on.1 in absurd (omega arith)
  fresh_once a b k (inr at) (inl on) = let w = old_within b k on in let same = at.1 in absurd (omega arith)
  fresh_once a b k (inr at) (inr on) = sym (nat_list_eq_equiv.congr name a b at.0) ∙ on.0

  fresh_main : (k : ℕ) (r : ProcDraft)
      → (named_in d.names (codes "main") ≡ Some k) ⊎ ((bytes_eq name (codes "main") ≡ true) × (length d.procs ≡ k))
      → (slice_get d.procs k ≡ Some r)
      ⊎ ((k ≡ length d.procs) × (fresh line params ≡ r))
      → r.params ≡ 0
  fresh_main k r (inl at) (inl on) = kept.main k r at (ap (λ qs. slice_get qs k) old_are ∙ on)
  fresh_main k r (inl at) (inr on) = let w = old_within (codes "main") k at in let same = on.0 in absurd (omega arith)
  fresh_main k r (inr at) (inl on) = let w = slice_get_within d.procs k r on in let same = at.1 in absurd (omega arith)
  fresh_main k r (inr at) (inr on) =
      ap (λ x. x.params) (sym on.1)
      ∙ none_over (length params) (sym (ap (λ t. t && nat_lt 0 (length params)) at.0) ∙ t.bare_main)

  -- and keeps the rules
  pub fresh_kept : IsKept (with_fresh d line name params)
  fresh_kept = record {
    most = omega (arith, t.room);
    lines =
        let before = subst (λ qs. sum_by (λ q. length q.steps) qs + length qs + length d.init ≤ d.lines) old_are kept.lines in
        let a = sum_last d.procs (fresh line params) in
        let b = length-append d.procs (option_to_list (with_fresh d line name params).begun) in
        omega arith;
    ended = kept.ended;
    begun = fresh_open line params t.few;
    names = λ m k at. fresh_names m k (named_more d.names name (length d.procs) m k at);
    once = λ a b k at on.
        fresh_once a b k (named_more d.names name (length d.procs) a k at) (named_more d.names name (length d.procs) b k on);
    main = λ k r at on.
        fresh_main k r (named_more d.names name (length d.procs) (codes "main") k at) (get_last d.procs _ k r on);
    init = kept.init;
    apart = kept.apart;
  }
