-- What is known of a result that is due from a clock on that carries an instruction out: of an operation that starts, or of one before.
use Rattle.std.proofs.Common.{◌≡◌, ℕ, ◌+◌, ◌-◌, ◌<◌, ◌==◌, Bool, true, false, ◌&&◌, nat_lt, List, ◌∷◌, slice_get, Option, Some, refl, sym, ap, ◌∙◌, arith, suc, ◌||◌, None}
use Rattle.std.specs.Prelude.{if◌then◌else◌, is_some}
use Rattle.std.specs.Option.{option_map_or}
use Rattle.std.proofs.lemmas.Bool.{false≢true, true≢false, and_parts, eqb-true, eq-eqb, ltb-true, lt-ltb}
use Rattle.std.proofs.lemmas.Option.{same_Some}
use Rattle.tta_boxed.specs.Cited.{Units, Machine, UnitOp, Set, op_at, Circuit, is_set, Store, Starts, Goes, Due, IsFrom, Boxes, Expression, Hardware, longest, made, coming, timed, result_of, never, nothing, Signal, IsDue, is_coming, fresh}
use Rattle.tta_arch.specs.Effects.{has_result}
use Rattle.tta_hardware.specs.Signals.{Signal as Named}
use Rattle.tta_boxed.specs.Boxed.{is_left, kept_result, kept_made, is_picked, was_from}
use Rattle.tta_boxed.specs.Theorem.{given_to}
use Rattle.tta_boxed.proofs.Alike.{Same}
use Rattle.tta_boxed.proofs.Finding.{found_is}
use Rattle.tta_boxed.proofs.Wholes.{IsWhole}
use Rattle.tta_boxed.proofs.Due.{DueAt, AreDue}
use Rattle.tta_hardware.specs.Wires.{read_word}
use Rattle.tta_boxed.proofs.Going as going
use Rattle.tta_boxed.proofs.Clock as clock

module _ (u : Units) (m : Machine) (leaves : ℕ → Bool) (d : Circuit Named Store) (w : IsWhole m d) (hc hd : Hardware)
    (inputs : Named → ℕ) (words : Same hc.words hd.words) (memories : (s : Store) → hc.memories s ≡ hd.memories s)
    (history : (unit : ℕ) → UnitOp → List (ℕ × ℕ)) (goes : is_set (going.env u m leaves d w hc hd inputs words memories Goes) ≡ true)
    (old : AreDue u m leaves hc.words hd.words history) where
  abbrev env : Named → ℕ
  env = going.env u m leaves d w hc hd inputs words memories

  abbrev after : Named → ℕ
  after = going.after u m leaves d w hc hd inputs words memories

  abbrev after' : Named → ℕ
  after' = going.after' u m leaves d w hc hd inputs words memories

  abbrev val : Expression → ℕ
  val = going.val u m leaves d w hc hd inputs words memories

  abbrev val' : Expression → ℕ
  val' = going.val' u m leaves d w hc hd inputs words memories

  -- what modules were given once they are given what they are now
  abbrev pub longer : (unit : ℕ) → UnitOp → List (ℕ × ℕ)
  longer unit o = given_to unit o env ∷ history unit o

  abbrev pub Now : (unit delay : ℕ) → Type 0
  Now unit delay = DueAt u m leaves after after' longer unit delay

  module _ (unit delay : ℕ) (some : 0 < delay) (soon : delay < longest m unit) where
    abbrev started : Option (ℕ × UnitOp)
    started = going.started u m leaves d w hc hd inputs words memories unit (delay + 1)

    -- ---- one starts

    module _ (k : ℕ × UnitOp) (starts : started ≡ Some k) where
      this : ((op_at m unit k.0 ≡ Some k.1) × ((has_result k.1.op && k.1.latency == delay + 1) ≡ true))
          × (is_set (env (Starts unit k.0)) ≡ true)
      this =
          found_is (λ x. (op_at m unit x.0 ≡ Some x.1) × ((has_result x.1.op && x.1.latency == delay + 1) ≡ true))
          (λ x. is_set (env (Starts unit x.0))) (timed m unit (delay + 1)) k
          (going.timed_there u m leaves d w hc hd inputs words memories unit (delay + 1)) starts

      lasts : (k.1.latency == delay + 1) ≡ true
      lasts = (and_parts (has_result k.1.op) (k.1.latency == delay + 1) this.0.1).1

      on : is_some started ≡ true
      on = ap (λ o. is_some o) starts

      word : after (Due unit delay) ≡ val (kept_result m leaves unit k.1)
      word =
          going.due_now u m leaves d w hc hd inputs words memories goes unit delay some soon
          ∙ ap (λ b. if b then val (kept_made m leaves unit (delay + 1))
          else val (coming m unit (delay + 1)))
          (going.begins_is u m leaves d w hc hd inputs words memories unit (delay + 1) ∙ on)
          ∙ going.kept_is u m leaves d w hc hd inputs words memories unit (delay + 1)
          ∙ ap (λ o. option_map_or (λ (x : ℕ × UnitOp). val (kept_result m leaves unit x.1)) o 0)
          starts

      word' : after' (Due unit delay) ≡ val (result_of m unit k.1)
      word' =
          going.due_now' u m leaves d w hc hd inputs words memories goes unit delay some soon
          ∙ ap (λ b. if b then val' (made m unit (delay + 1))
          else val' (coming m unit (delay + 1)))
          (going.begins_is' u m leaves d w hc hd inputs words memories unit (delay + 1) ∙ on)
          ∙ going.made_is' u m leaves d w hc hd inputs words memories unit (delay + 1)
          ∙ ap (λ o. option_map_or (λ (x : ℕ × UnitOp). val (result_of m unit x.1)) o 0) starts

      flag : (op : ℕ) (o : UnitOp) → op_at m unit op ≡ Some o → is_left m leaves o ≡ true → delay < o.latency
          → after (Boxes (IsFrom unit op delay)) ≡ (if o.latency == delay + 1 then (if k.0 == op then 1 else 0) else 0)
      flag op o at left less =
          going.from_now u m leaves d w hc hd inputs words memories goes unit op o at left delay some less
          ∙ ap (λ b. if b then val
          (if o.latency == delay + 1 then is_picked m leaves unit op o.latency else never)
          else val
          (if nat_lt (delay + 1) o.latency then was_from m leaves unit op (delay + 1) else never)) on
          ∙ by (o.latency == delay + 1) refl
        where
          by : (b : Bool) → (o.latency == delay + 1) ≡ b
              → val (if b then is_picked m leaves unit op o.latency else never)
              ≡ (if b then (if k.0 == op then 1 else 0) else 0)
          by true same =
              ap (λ l. val (is_picked m leaves unit op l))
              (eqb-true o.latency (delay + 1) same)
              ∙ going.picked_is u m leaves d w hc hd inputs words memories unit op (delay + 1)
              ∙ ap (λ x. option_map_or (λ (x : ℕ × UnitOp). if x.0 == op then 1 else 0) x 0) starts
          by false same = refl

      pub began : Now unit delay
      began = record { picked = picked; other = other } where
        picked : (op id : ℕ) (o : UnitOp) → op_at m unit op ≡ Some o → is_left m leaves o ≡ true → o.op ≡ Set (record { 0 = id })
            → delay < o.latency → is_set (after (Boxes (IsFrom unit op delay))) ≡ true
            → (x : ℕ × ℕ) × ((slice_get (longer unit o) (o.latency - 1 - delay) ≡ Some x) × (after' (Due unit delay) ≡ u.value id x.0 x.1))
        picked op id o at left sets less is =
            by (o.latency == delay + 1) refl (k.0 == op) refl (sym (ap is_set (flag op o at left less)) ∙ is)
          where
            by : (b : Bool) → (o.latency == delay + 1) ≡ b → (c : Bool) → (k.0 == op) ≡ c
                → is_set (if b then (if c then 1 else 0) else 0) ≡ true
                → (x : ℕ × ℕ) × ((slice_get (longer unit o) (o.latency - 1 - delay) ≡ Some x)
                × (after' (Due unit delay) ≡ u.value id x.0 x.1))
            by true same true one set =
                let long : o.latency ≡ delay + 1 = eqb-true o.latency (delay + 1) same in
                let first : o.latency - 1 - delay ≡ 0 = omega (arith, long) in
                let here : k.1 ≡ o = same_Some k.1 o (sym this.0.0 ∙ ap (op_at m unit) (eqb-true k.0 op one) ∙ at) in (
                  given_to unit o env,
                  (
                    ap (slice_get (longer unit o)) first,
                    word' ∙ ap (λ (x : UnitOp). val (result_of m unit x)) here
                        ∙ going.result_is u m leaves d w hc hd inputs words memories unit id o sets,
                  ),
                )
            by true same false one set = absurd (false≢true set)
            by false same c one set = absurd (false≢true set)

        other : ((op : ℕ) (o : UnitOp) → op_at m unit op ≡ Some o → is_left m leaves o ≡ true → delay < o.latency
            → is_set (after (Boxes (IsFrom unit op delay))) ≡ false) → after' (Due unit delay) ≡ after (Due unit delay)
        other none = by (is_left m leaves k.1) refl where
          by : (b : Bool) → is_left m leaves k.1 ≡ b → after' (Due unit delay) ≡ after (Due unit delay)
          by true left =
              let long : k.1.latency ≡ delay + 1 = eqb-true k.1.latency (delay + 1) lasts in
              let less : delay < k.1.latency = omega (arith, long) in
              absurd (true≢false (sym (ap is_set (flag k.0 k.1 this.0.0 left less
              ∙ ap (λ b. if b then (if k.0 == k.0 then 1 else 0) else 0) lasts ∙ ap (λ b. if b then 1 else 0) (eq-eqb k.0 k.0 refl)))
              ∙ none k.0 k.1 this.0.0 left less))
          by false left =
              word' ∙ sym (word ∙ ap (λ b. val
              (if b then nothing else result_of m unit k.1)) left)

    -- ---- none starts

    abbrev begun : Option (ℕ × UnitOp)
    begun = going.begun u m leaves d w hc hd inputs words memories unit (delay + 1 + 1)

    module _ (none : started ≡ None) (is : is_set (after (IsDue unit delay)) ≡ true) where
      off : is_some started ≡ false
      off = ap (λ o. is_some o) none

      -- one was due a cycle later
      was : (delay + 1 < longest m unit) × (is_set (hc.words (IsDue unit (delay + 1))) ≡ true)
      was = by (nat_lt (delay + 1) (longest m unit)) refl coming_on where
        coming_on : is_set (val (is_coming m unit (delay + 1))) ≡ true
        coming_on =
            ap (λ b. b || is_set (val (is_coming m unit (delay + 1)))) (sym off)
            ∙ sym (going.is_due_now u m leaves d w hc hd inputs words memories goes unit delay some soon) ∙ is

        by : (b : Bool) → nat_lt (delay + 1) (longest m unit) ≡ b
            → is_set (val (if b then Signal (IsDue unit (delay + 1)) else never)) ≡ true
            → (delay + 1 < longest m unit) × (is_set (hc.words (IsDue unit (delay + 1))) ≡ true)
        by true less set = (
          ltb-true (delay + 1) (longest m unit) less,
          ap is_set (sym (clock.is_due_held u m leaves d w hc hd inputs words memories unit (delay + 1))) ∙ set,
        )
        by false less set = absurd (false≢true set)

      less : nat_lt (delay + 1) (longest m unit) ≡ true
      less = lt-ltb (delay + 1) (longest m unit) was.0

      before : DueAt u m leaves hc.words hd.words history unit (delay + 1)
      before = old unit (delay + 1) (omega arith) was.0 was.1

      passed_word : after (Due unit delay)
          ≡ option_map_or (λ (x : ℕ × UnitOp). val (read_word unit x.0)) begun (hc.words (Due unit (delay + 1)))
      passed_word =
          going.due_now u m leaves d w hc hd inputs words memories goes unit delay some soon
          ∙ ap (λ b. if b then val (kept_made m leaves unit (delay + 1)) else val (coming m unit (delay + 1)))
          (going.begins_is u m leaves d w hc hd inputs words memories unit (delay + 1) ∙ off)
          ∙ ap (λ b. val (if b then fresh m unit (delay + 1 + 1) (Signal (Due unit (delay + 1))) else nothing)) less
          ∙ going.fresh_is u m leaves d w hc hd inputs words memories unit (delay + 1 + 1) (Signal (Due unit (delay + 1)))
          ∙ ap (λ k. option_map_or (λ (x : ℕ × UnitOp). val (read_word unit x.0)) begun k)
          (clock.due_held u m leaves d w hc hd inputs words memories unit (delay + 1))

      passed_word' : after' (Due unit delay)
          ≡ option_map_or (λ (x : ℕ × UnitOp). val' (read_word unit x.0)) begun (hd.words (Due unit (delay + 1)))
      passed_word' =
          going.due_now' u m leaves d w hc hd inputs words memories goes unit delay some soon
          ∙ ap (λ b. if b then val' (made m unit (delay + 1)) else val' (coming m unit (delay + 1)))
          (going.begins_is' u m leaves d w hc hd inputs words memories unit (delay + 1) ∙ off)
          ∙ ap (λ b. val' (if b then fresh m unit (delay + 1 + 1) (Signal (Due unit (delay + 1))) else nothing)) less
          ∙ going.fresh_is' u m leaves d w hc hd inputs words memories unit (delay + 1 + 1) (Signal (Due unit (delay + 1)))
          ∙ ap (λ k. option_map_or (λ (x : ℕ × UnitOp). val' (read_word unit x.0)) begun k)
          (clock.due_held' u m leaves d w hc hd inputs words memories unit (delay + 1))

      passed_flag : (op : ℕ) (o : UnitOp) → op_at m unit op ≡ Some o → is_left m leaves o ≡ true → delay < o.latency
          → after (Boxes (IsFrom unit op delay))
          ≡ (if nat_lt (delay + 1) o.latency
          then option_map_or (λ (x : ℕ × UnitOp). 0) begun (hc.words (Boxes (IsFrom unit op (delay + 1)))) else 0)
      passed_flag op o at left more =
          going.from_now u m leaves d w hc hd inputs words memories goes unit op o at left delay some more
          ∙ ap (λ b. if b then val (if o.latency == delay + 1 then is_picked m leaves unit op o.latency else never)
          else val (if nat_lt (delay + 1) o.latency then was_from m leaves unit op (delay + 1) else never)) off
          ∙ by (nat_lt (delay + 1) o.latency)
        where
          by : (b : Bool) → val (if b then was_from m leaves unit op (delay + 1) else never)
              ≡ (if b then option_map_or (λ (x : ℕ × UnitOp). 0) begun (hc.words (Boxes (IsFrom unit op (delay + 1)))) else 0)
          by true =
              going.was_is u m leaves d w hc hd inputs words memories unit op (delay + 1)
              ∙ ap (λ k. option_map_or (λ (x : ℕ × UnitOp). 0) begun k)
              (clock.from_held u m leaves d w hc hd inputs words memories unit op (delay + 1))
          by false = refl

      -- a load has its word now
      loaded : (g : ℕ × UnitOp) → begun ≡ Some g → Now unit delay
      loaded g loads = record { picked = picked; other = other } where
        cleared : (op : ℕ) (o : UnitOp) → op_at m unit op ≡ Some o → is_left m leaves o ≡ true → delay < o.latency
            → is_set (after (Boxes (IsFrom unit op delay))) ≡ false
        cleared op o at left more =
            ap is_set (passed_flag op o at left more
            ∙ ap (λ x. if nat_lt (delay + 1) o.latency
            then option_map_or (λ (x : ℕ × UnitOp). 0) x (hc.words (Boxes (IsFrom unit op (delay + 1)))) else 0) loads)
            ∙ by (nat_lt (delay + 1) o.latency)
          where
            by : (b : Bool) → is_set (if b then 0 else 0) ≡ false
            by true = refl
            by false = refl

        picked : (op id : ℕ) (o : UnitOp) → op_at m unit op ≡ Some o → is_left m leaves o ≡ true → o.op ≡ Set (record { 0 = id })
            → delay < o.latency → is_set (after (Boxes (IsFrom unit op delay))) ≡ true
            → (x : ℕ × ℕ) × ((slice_get (longer unit o) (o.latency - 1 - delay) ≡ Some x) × (after' (Due unit delay) ≡ u.value id x.0 x.1))
        picked op id o at left sets more set = absurd (false≢true (sym (cleared op o at left more) ∙ set))

        other : ((op : ℕ) (o : UnitOp) → op_at m unit op ≡ Some o → is_left m leaves o ≡ true → delay < o.latency
            → is_set (after (Boxes (IsFrom unit op delay))) ≡ false) → after' (Due unit delay) ≡ after (Due unit delay)
        other all =
            passed_word' ∙ ap (λ x. option_map_or (λ (x : ℕ × UnitOp). val' (read_word unit x.0)) x (hd.words (Due unit (delay + 1)))) loads
            ∙ sym (going.same u m leaves d w hc hd inputs words memories (read_word unit g.0) refl)
            ∙ sym (passed_word ∙ ap (λ x. option_map_or (λ (x : ℕ × UnitOp). val (read_word unit x.0)) x (hc.words (Due unit (delay + 1)))) loads)

      -- it is kept for a cycle
      kept : begun ≡ None → Now unit delay
      kept quiet = record { picked = picked; other = other } where
        stays : after (Due unit delay) ≡ hc.words (Due unit (delay + 1))
        stays = passed_word ∙ ap (λ x. option_map_or (λ (x : ℕ × UnitOp). val (read_word unit x.0)) x (hc.words (Due unit (delay + 1)))) quiet

        stays' : after' (Due unit delay) ≡ hd.words (Due unit (delay + 1))
        stays' = passed_word' ∙ ap (λ x. option_map_or (λ (x : ℕ × UnitOp). val' (read_word unit x.0)) x (hd.words (Due unit (delay + 1)))) quiet

        flag_stays : (op : ℕ) (o : UnitOp) → op_at m unit op ≡ Some o → is_left m leaves o ≡ true → delay < o.latency
            → after (Boxes (IsFrom unit op delay))
            ≡ (if nat_lt (delay + 1) o.latency then hc.words (Boxes (IsFrom unit op (delay + 1))) else 0)
        flag_stays op o at left more =
            passed_flag op o at left more
            ∙ ap (λ x. if nat_lt (delay + 1) o.latency
            then option_map_or (λ (x : ℕ × UnitOp). 0) x (hc.words (Boxes (IsFrom unit op (delay + 1)))) else 0) quiet

        picked : (op id : ℕ) (o : UnitOp) → op_at m unit op ≡ Some o → is_left m leaves o ≡ true → o.op ≡ Set (record { 0 = id })
            → delay < o.latency → is_set (after (Boxes (IsFrom unit op delay))) ≡ true
            → (x : ℕ × ℕ) × ((slice_get (longer unit o) (o.latency - 1 - delay) ≡ Some x) × (after' (Due unit delay) ≡ u.value id x.0 x.1))
        picked op id o at left sets more set =
            by (nat_lt (delay + 1) o.latency) refl (sym (ap is_set (flag_stays op o at left more)) ∙ set)
          where
            by : (b : Bool) → nat_lt (delay + 1) o.latency ≡ b
                → is_set (if b then hc.words (Boxes (IsFrom unit op (delay + 1))) else 0) ≡ true
                → (x : ℕ × ℕ) × ((slice_get (longer unit o) (o.latency - 1 - delay) ≡ Some x)
                × (after' (Due unit delay) ≡ u.value id x.0 x.1))
            by true later on =
                let much = ltb-true (delay + 1) o.latency later in
                let next : o.latency - 1 - delay ≡ suc (o.latency - 1 - (delay + 1)) = omega (arith, much) in
                let it = before.picked op id o at left sets much on in
                (it.0, (ap (slice_get (longer unit o)) next ∙ it.1.0, stays' ∙ it.1.1))
            by false later on = absurd (false≢true on)

        other : ((op : ℕ) (o : UnitOp) → op_at m unit op ≡ Some o → is_left m leaves o ≡ true → delay < o.latency
            → is_set (after (Boxes (IsFrom unit op delay))) ≡ false) → after' (Due unit delay) ≡ after (Due unit delay)
        other all =
            stays' ∙ before.other (λ op o at left much.
            let more : delay < o.latency = omega (arith, much) in
            sym (ap is_set (flag_stays op o at left more
            ∙ ap (λ b. if b then hc.words (Boxes (IsFrom unit op (delay + 1))) else 0) (lt-ltb (delay + 1) o.latency much)))
            ∙ all op o at left more) ∙ sym stays

      pub passed : Now unit delay
      passed = by begun refl where
        by : (o : Option (ℕ × UnitOp)) → begun ≡ o → Now unit delay
        by (Some g) is = loaded g is
        by None is = kept is
