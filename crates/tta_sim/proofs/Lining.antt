-- What a decoded instruction reads and brings is what its moves do.
use Rattle.std.proofs.Common.{◌≡◌, ℕ, ◌%◌, ◌==◌, Bool, true, false, ◌&&◌, ◌||◌, List, [], ◌∷◌, map, Option, Some, None, refl, sym, ap, ◌∙◌}
use Rattle.std.specs.Prelude.{is_none, is_some, option_map, option_and_then, slice_index_or, if◌then◌else◌}
use Rattle.std.specs.Option.{option_map_or}
use Rattle.std.specs.List.{list_any, filter_map, cons_option, AllByRecursion}
use Rattle.tta_sim.specs.Cited.{GuardRef, Source, Dest, UnitOp, Machine, Kind, Jumps, Calls, Halts, Reads, KeptReg, KeptOperand, KeptRa, Start, width_of, write_of, op_at, or_else, first_some, control_of, moved, is_active, is_port, has_unset_guard, has_unset, Move, effect_of}
use Rattle.tta_arch.specs.declared.ends.Source.TheVariants as source
use Rattle.tta_arch.specs.declared.ends.Dest.TheVariants as dest
use Rattle.tta_sim.specs.declared.decoded.DecodedStart.{DecodedStart}
use Rattle.tta_sim.specs.declared.lines.Write.{Write}
use Rattle.tta_sim.specs.Moves.{Arrival, reads_of, lacks_register, arrival_of, brought_of}
use Rattle.tta_sim.specs.Places.{number_of}
use Rattle.tta_sim.specs.Starts.{start_by, started}
use Rattle.tta_sim.specs.Decoded.{source_decoded, reading_of, write_decoded, start_decoded, control_decoded, has_operation}
use Rattle.tta_sim.specs.Lines.{source_word, is_let, word_read, is_unread, write_brought, start_brought, control_brought}
use Rattle.tta_sim.specs.Writing.{numbered_one}

-- ---- lists

module _ {A B : Type 0} where
  pub filter_map-twice : {C : Type 0} (f : B → Option C) (g : A → Option B) (xs : List A) → filter_map f (filter_map g xs) ≡ filter_map (λ x. option_and_then f (g x)) xs
  filter_map-twice f g [] = refl
  filter_map-twice f g (x ∷ xs) = elim (g x) as (λ o. filter_map f (cons_option o (filter_map g xs)) ≡ cons_option (option_and_then f o) (filter_map (λ x. option_and_then f (g x)) xs)) [
    | None ↦ filter_map-twice f g xs
    | Some y ↦ ap (cons_option (f y)) (filter_map-twice f g xs)
  ]

  pub filter_map-map : {C : Type 0} (f : B → Option C) (h : A → B) (xs : List A) → filter_map f (map h xs) ≡ filter_map (λ x. f (h x)) xs
  filter_map-map f h [] = refl
  filter_map-map f h (x ∷ xs) = ap (cons_option (f (h x))) (filter_map-map f h xs)

  pub map-filter_map : {C : Type 0} (h : B → C) (f : A → Option B) (xs : List A) → map h (filter_map f xs) ≡ filter_map (λ x. option_map h (f x)) xs
  map-filter_map h f [] = refl
  map-filter_map h f (x ∷ xs) = elim (f x) as (λ o. map h (cons_option o (filter_map f xs)) ≡ cons_option (option_map h o) (filter_map (λ x. option_map h (f x)) xs)) [
    | None ↦ map-filter_map h f xs
    | Some y ↦ ap (λ zs. h y ∷ zs) (map-filter_map h f xs)
  ]

  pub filter_map-same : (f g : A → Option B) (xs : List A) → AllByRecursion (λ x. f x ≡ g x) xs → filter_map f xs ≡ filter_map g xs
  filter_map-same f g [] same = refl
  filter_map-same f g (x ∷ xs) same = ap (λ o. cons_option o (filter_map f xs)) same.0 ∙ ap (cons_option (g x)) (filter_map-same f g xs same.1)

  pub first-filter_map : {C : Type 0} (f : B → Option C) (g : A → Option B) (xs : List A) → first_some f (filter_map g xs) ≡ first_some (λ x. option_and_then f (g x)) xs
  first-filter_map f g [] = refl
  first-filter_map f g (x ∷ xs) = elim (g x) as (λ o. first_some f (cons_option o (filter_map g xs)) ≡ or_else (option_and_then f o) (first_some (λ x. option_and_then f (g x)) xs)) [
    | None ↦ first-filter_map f g xs
    | Some y ↦ ap (or_else (f y)) (first-filter_map f g xs)
  ]

  pub first-map : {C : Type 0} (f : B → Option C) (h : A → B) (xs : List A) → first_some f (map h xs) ≡ first_some (λ x. f (h x)) xs
  first-map f h [] = refl
  first-map f h (x ∷ xs) = ap (or_else (f (h x))) (first-map f h xs)

  pub first-same : (f g : A → Option B) (xs : List A) → ((x : A) → f x ≡ g x) → first_some f xs ≡ first_some g xs
  first-same f g [] same = refl
  first-same f g (x ∷ xs) same = ap (λ o. or_else o (first_some f xs)) (same x) ∙ ap (or_else (g x)) (first-same f g xs same)

  pub any-filter_map : (p : B → Bool) (g : A → Option B) (xs : List A) → list_any p (filter_map g xs) ≡ list_any (λ x. option_map_or p (g x) false) xs
  any-filter_map p g [] = refl
  any-filter_map p g (x ∷ xs) = elim (g x) as (λ o. list_any p (cons_option o (filter_map g xs)) ≡ (option_map_or p o false || list_any (λ x. option_map_or p (g x) false) xs)) [
    | None ↦ any-filter_map p g xs
    | Some y ↦ ap (λ b. p y || b) (any-filter_map p g xs)
  ]

-- ---- what a move reads

module _ (places : List (Option ℕ)) (shown : ℕ → Option ℕ) where
  -- the word of each source, by the places and the results shown
  abbrev reads : Reads
  reads = reads_of places shown

  pub source_same : (src : Source) → source_word places shown (source_decoded src) ≡ reads src
  source_same (source.Reg file index) = refl
  source_same (source.Imm unit index) = refl
  source_same (source.Shown unit) = refl
  source_same source.Ra = refl
  source_same (source.Value word) = refl

  let_same : (v : Move) → is_let places (reading_of v) ≡ is_active reads (effect_of v)
  let_same v = by v.guard where
    by : (o : Option GuardRef) → is_let places (reading_of (record v { guard = o })) ≡ is_active reads (effect_of (record v { guard = o }))
    by None = refl
    by (Some g) = refl

  pub word_same : (v : Move) → word_read places shown (reading_of v) ≡ moved reads (effect_of v)
  word_same v =
      ap (λ b. if b then source_word places shown (source_decoded v.src) else None) (let_same v)
      ∙ ap (λ o. if is_active reads (effect_of v) then o else None) (source_same v.src)

  -- a move that cannot be read lacks the word of a register or of a port
  pub unread_same : (v : Move) → is_unread places shown (reading_of v) ≡ (lacks_register reads (effect_of v) || has_unset reads is_port (effect_of v))
  unread_same v = by v.guard v.src where
    one : (g a n : Bool) → (g || a && n) ≡ ((g || (a && true) && n) || (a && false) && n)
    one true a n = refl
    one false true true = refl
    one false true false = refl
    one false false n = refl

    other : (g a n : Bool) → (g || a && n) ≡ ((g || (a && false) && n) || (a && true) && n)
    other true a n = refl
    other false true n = refl
    other false false n = refl

    neither : (g a : Bool) → (g || a && false) ≡ ((g || (a && false) && false) || (a && false) && false)
    neither true a = refl
    neither false true = refl
    neither false false = refl

    unset : GuardRef → Bool
    unset g = has_unset_guard reads (effect_of (record v { guard = Some g }))

    acts : GuardRef → Bool
    acts g = is_active reads (effect_of (record v { guard = Some g }))

    by : (guard : Option GuardRef) (src : Source) → let w : Move = record v { guard = guard; src = src } in
        is_unread places shown (reading_of w) ≡ (lacks_register reads (effect_of w) || has_unset reads is_port (effect_of w))
    by None (source.Reg file index) = one false true (is_none (reads (source.Reg file index)))
    by None (source.Imm unit index) = one false true (is_none (reads (source.Imm unit index)))
    by None (source.Shown unit) = other false true (is_none (reads (source.Shown unit)))
    by None source.Ra = one false true (is_none (reads source.Ra))
    by None (source.Value word) = refl
    by (Some g) (source.Reg file index) = one (unset g) (acts g) (is_none (reads (source.Reg file index)))
    by (Some g) (source.Imm unit index) = one (unset g) (acts g) (is_none (reads (source.Imm unit index)))
    by (Some g) (source.Shown unit) = other (unset g) (acts g) (is_none (reads (source.Shown unit)))
    by (Some g) source.Ra = one (unset g) (acts g) (is_none (reads source.Ra))
    by (Some g) (source.Value word) = neither (unset g) (acts g)

  -- ---- what moves bring

  module _ (m : Machine) (back : ℕ) where
    pub write_same : (v : Move) → is_unread places shown (reading_of v) ≡ false
        → option_and_then (write_brought places shown) (write_decoded m back v) ≡ option_map numbered_one (option_and_then (λ a. write_of m back (brought_of a)) (arrival_of reads v))
    write_same v could = by v.dst where
      brings : Dest → Option ℕ → Option Arrival
      brings d o = option_map (λ word. record { dst = d; word = word }) o

      writes : Dest → Option ℕ → Option Write
      writes d o = option_map numbered_one (option_and_then (λ a. write_of m back (brought_of a)) (brings d o))

      calls : (let' : Bool) (o : Option ℕ) → (let' && is_none o) ≡ false
          → option_map (λ word. record { place = number_of KeptRa; word = word }) (if let' then Some back else None) ≡ writes dest.Call (if let' then o else None)
      calls true None could = cc
      calls true (Some word) could = refl
      calls false o could = refl

      second : (a b : Bool) → (a || b) ≡ false → b ≡ false
      second true b is = cc
      second false b is = is

      by : (d : Dest) → option_and_then (write_brought places shown) (write_decoded m back (record v { dst = d })) ≡ writes d (moved reads (effect_of v))
      by (dest.Reg file index) = of (word_read places shown (reading_of v)) ∙ ap (writes (dest.Reg file index)) (word_same v) where
        of : (o : Option ℕ) → option_map (λ word. record { place = number_of (KeptReg file index); word = if width_of m file == 1 then word % 2 else word }) o ≡ writes (dest.Reg file index) o
        of None = refl
        of (Some word) = refl
      by (dest.Operand unit) = of (word_read places shown (reading_of v)) ∙ ap (writes (dest.Operand unit)) (word_same v) where
        of : (o : Option ℕ) → option_map (λ word. record { place = number_of (KeptOperand unit); word = word }) o ≡ writes (dest.Operand unit) o
        of None = refl
        of (Some word) = refl
      by (dest.Trigger unit op) = of (moved reads (effect_of v)) where
        of : (o : Option ℕ) → None ≡ writes (dest.Trigger unit op) o
        of None = refl
        of (Some word) = refl
      by dest.Jump = of (moved reads (effect_of v)) where
        of : (o : Option ℕ) → None ≡ writes dest.Jump o
        of None = refl
        of (Some word) = refl
      by dest.Call =
          calls (is_let places (reading_of v)) (source_word places shown (source_decoded v.src)) (second _ _ could) ∙ ap (writes dest.Call) (word_same v)
      by dest.Halt = of (moved reads (effect_of v)) where
        of : (o : Option ℕ) → None ≡ writes dest.Halt o
        of None = refl
        of (Some word) = refl

  module _ (m : Machine) (operand : ℕ → Option ℕ) where
    -- the operation that a move starts
    pub start_same : (v : Move) → option_and_then (start_brought places shown operand) (start_decoded m v) ≡ option_and_then (start_by m operand) (arrival_of reads v)
    start_same v = by v.dst where
      starts : Dest → Option ℕ → Option Start
      starts d o = option_and_then (start_by m operand) (option_map (λ word. record { dst = d; word = word }) o)

      none : (d : Dest) → ((word : ℕ) → start_by m operand (record { dst = d; word = word }) ≡ None) → (o : Option ℕ) → None ≡ starts d o
      none d is None = refl
      none d is (Some word) = sym (is word)

      by : (d : Dest) → option_and_then (start_brought places shown operand) (start_decoded m (record v { dst = d })) ≡ starts d (moved reads (effect_of v))
      by (dest.Reg file index) = none (dest.Reg file index) (λ word. refl) (moved reads (effect_of v))
      by (dest.Operand unit) = none (dest.Operand unit) (λ word. refl) (moved reads (effect_of v))
      by (dest.Trigger unit op) = reads_one (op_at m unit op) ∙ of (op_at m unit op) (word_read places shown (reading_of v)) ∙ triggers (word_read places shown (reading_of v)) ∙ ap (starts (dest.Trigger unit op)) (word_same v) where
        of : (does : Option UnitOp) (o : Option ℕ)
            → option_and_then (λ s. option_map (started operand s.unit s.does) o) (option_map {T = UnitOp} {U = DecodedStart} (λ u. record { reading = reading_of v; unit = unit; does = u }) does)
            ≡ option_and_then (λ a. option_map (λ u. record { unit = unit; does = u; operand = if u.arity == 2 then operand unit else Some 0; word = a.word }) does)
            (option_map {T = ℕ} {U = Arrival} (λ word. record { dst = dest.Trigger unit op; word = word }) o)
        of None None = refl
        of None (Some word) = refl
        of (Some u) None = refl
        of (Some u) (Some word) = refl

        reads_one : (does : Option UnitOp)
            → option_and_then (start_brought places shown operand) (option_map {T = UnitOp} {U = DecodedStart} (λ u. record { reading = reading_of v; unit = unit; does = u }) does)
            ≡ option_and_then (λ s. option_map (started operand s.unit s.does) (word_read places shown (reading_of v)))
            (option_map {T = UnitOp} {U = DecodedStart} (λ u. record { reading = reading_of v; unit = unit; does = u }) does)
        reads_one None = refl
        reads_one (Some u) = refl

        triggers : (o : Option ℕ)
            → option_and_then (λ a. option_map (λ u. record { unit = unit; does = u; operand = if u.arity == 2 then operand unit else Some 0; word = a.word }) (op_at m unit op))
            (option_map {T = ℕ} {U = Arrival} (λ word. record { dst = dest.Trigger unit op; word = word }) o) ≡ starts (dest.Trigger unit op) o
        triggers None = refl
        triggers (Some word) = refl
      by dest.Jump = none dest.Jump (λ word. refl) (moved reads (effect_of v))
      by dest.Call = none dest.Call (λ word. refl) (moved reads (effect_of v))
      by dest.Halt = none dest.Halt (λ word. refl) (moved reads (effect_of v))

  -- a control move
  pub control_same : (v : Move) → option_and_then (control_brought places shown) (control_decoded v) ≡ option_and_then (λ a. control_of (brought_of a)) (arrival_of reads v)
  control_same v = by v.dst where
    controls : Dest → Option ℕ → Option (Kind × ℕ)
    controls d o = option_and_then (λ a. control_of (brought_of a)) (option_map (λ word. record { dst = d; word = word }) o)

    none : (d : Dest) → ((word : ℕ) → control_of (brought_of (record { dst = d; word = word })) ≡ None) → (o : Option ℕ) → None ≡ controls d o
    none d is None = refl
    none d is (Some word) = sym (is word)

    some : (d : Dest) (k : Kind) → ((word : ℕ) → control_of (brought_of (record { dst = d; word = word })) ≡ Some (k, word)) → (o : Option ℕ)
        → option_map (λ word. (k, word)) o ≡ controls d o
    some d k is None = refl
    some d k is (Some word) = sym (is word)

    by : (d : Dest) → option_and_then (control_brought places shown) (control_decoded (record v { dst = d })) ≡ controls d (moved reads (effect_of v))
    by (dest.Reg file index) = none (dest.Reg file index) (λ word. refl) (moved reads (effect_of v))
    by (dest.Operand unit) = none (dest.Operand unit) (λ word. refl) (moved reads (effect_of v))
    by (dest.Trigger unit op) = none (dest.Trigger unit op) (λ word. refl) (moved reads (effect_of v))
    by dest.Jump = some dest.Jump Jumps (λ word. refl) (word_read places shown (reading_of v)) ∙ ap (controls dest.Jump) (word_same v)
    by dest.Call = some dest.Call Calls (λ word. refl) (word_read places shown (reading_of v)) ∙ ap (controls dest.Call) (word_same v)
    by dest.Halt = some dest.Halt Halts (λ word. refl) (word_read places shown (reading_of v)) ∙ ap (controls dest.Halt) (word_same v)

  -- ---- whether moves can be read

  -- a move that starts no operation of another unit than there is
  module _ (m : Machine) (back : ℕ) where
    -- a move is decoded into something that reads what it reads
    pub parts_same : (v : Move) → has_operation m v ≡ true → is_unread places shown (reading_of v)
        ≡ (option_map_or (λ w. is_unread places shown w.reading) (write_decoded m back v) false
        || (option_map_or (λ s. is_unread places shown s.reading) (start_decoded m v) false
        || option_map_or (λ t. is_unread places shown t.reading) (control_decoded v) false))
    parts_same v there = by v.dst there where
      alone : (b : Bool) → b ≡ (b || (false || false))
      alone true = refl
      alone false = refl

      unread : Bool
      unread = is_unread places shown (reading_of v)

      calls : (g a n : Bool) → (g || a && n) ≡ ((g || a && false) || (false || (g || a && n)))
      calls true a n = refl
      calls false true n = refl
      calls false false n = refl

      starts : (o : Option UnitOp) (unit : ℕ) → is_some o ≡ true
          → unread ≡ (false || (option_map_or (λ s. is_unread places shown s.reading) (option_map {T = UnitOp} {U = DecodedStart} (λ u. record { reading = reading_of v; unit = unit; does = u }) o) false || false))
      starts None unit there = cc
      starts (Some u) unit there = last unread where
        last : (b : Bool) → b ≡ (b || false)
        last true = refl
        last false = refl

      by : (d : Dest) → has_operation m (record v { dst = d }) ≡ true → unread
          ≡ (option_map_or (λ w. is_unread places shown w.reading) (write_decoded m back (record v { dst = d })) false
          || (option_map_or (λ s. is_unread places shown s.reading) (start_decoded m (record v { dst = d })) false
          || option_map_or (λ t. is_unread places shown t.reading) (control_decoded (record v { dst = d })) false))
      by (dest.Reg file index) there = alone unread
      by (dest.Operand unit) there = alone unread
      by (dest.Trigger unit op) there = starts (op_at m unit op) unit there
      by dest.Jump there = refl
      by dest.Call there =
          calls (option_map_or (λ g. is_none (slice_index_or places g.place None)) (reading_of v).guard false) (is_let places (reading_of v))
          (is_none (source_word places shown (source_decoded v.src)))
      by dest.Halt there = refl
