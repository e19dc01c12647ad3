-- What the lines of the parts of a circuit tell.
use Rattle.std.proofs.Common.{◌≡◌, ℕ, ◌<◌, ◌^◌, Bool, true, false, nat_lt, List, ◌∷◌, ◌++◌, length, Option, Some, None, refl, sym, ap, subst, ◌∙◌, arith, append_assoc}
use Rattle.std.specs.Prelude.{if◌then◌else◌, codes, drop}
use Rattle.std.specs.List.{AllByRecursion}
use Rattle.std.proofs.lemmas.Bool.{ltb-true}
use Rattle.std.proofs.lemmas.List.{append_cancel_left}
use Rattle.tta_circuit.specs.Circuit.{Wire, Register, WritePort, Memory}
use Rattle.tta_circuit.specs.Plain.{IsWrittenWire, IsWrittenRegister, IsWrittenPort, IsWrittenMemory}
use Rattle.tta_verilog.specs.Expressions.{Names, expression}
use Rattle.tta_verilog.specs.Circuits.{range, wire_line, write_line, declared, clocked, next_text, wire_text, memory_text, function_text, array_text, port_text}
use Rattle.tta_verilog.specs.Spelling.{Scope, AreNames, tokens_in, wire_tokens, register_tokens, port_tokens, has_token}
use Rattle.tta_verilog.specs.Laws.{AreSpelled, IsToldMemory}
use Rattle.tta_verilog.proofs.Words.{stops, all_halves}
use Rattle.tta_verilog.proofs.Lines.{first, word_alike, range_alike}
use Rattle.tta_verilog.proofs.Memories.{function_alike, function_text_before}
use Rattle.tta_verilog.proofs.Arrays.{array_alike, array_text_before}
use Rattle.tta_verilog.proofs.Bare.{bare}
use Rattle.tta_verilog.proofs.OneExpressions.{same_bare}

-- ---- the text of each before another text

pub wire_before : (name : List ℕ) (width : ℕ) (word r : List ℕ)
    → wire_line name width word ++ r ≡ codes "wire " ++ (range width ++ (name ++ (32 ∷ 61 ∷ 32 ∷ (word ++ (59 ∷ 10 ∷ r)))))
unfolding wire_line
wire_before name width word r = simp append_assoc

write_before : (name enable address word r : List ℕ) → write_line name enable address word ++ r
    ≡ codes "always @(posedge clk) if (" ++ (enable ++ (41 ∷ 32 ∷ (name ++ (91 ∷ (address ++ (93 ∷ 32 ∷ 60 ∷ 61 ∷ 32 ∷ (word ++ (59 ∷ 10 ∷ r))))))))
unfolding write_line
write_before name enable address word r = simp append_assoc

rest_before : (enable name next r : List ℕ) → ((enable ++ codes ") ") ++ (name ++ codes " <= " ++ next ++ codes ";\n")) ++ r
    ≡ enable ++ (41 ∷ 32 ∷ (name ++ (32 ∷ 60 ∷ 61 ∷ 32 ∷ (next ++ (59 ∷ 10 ∷ r)))))
rest_before enable name next r = simp append_assoc

clocked_before : (enable name next r : List ℕ) → clocked enable (name ++ codes " <= " ++ next ++ codes ";\n") ++ r
    ≡ codes "always @(posedge clk) if (" ++ (enable ++ (41 ∷ 32 ∷ (name ++ (32 ∷ 60 ∷ 61 ∷ 32 ∷ (next ++ (59 ∷ 10 ∷ r))))))
clocked_before enable name next r = ap (λ t. codes "always @(posedge clk) if (" ++ t) (rest_before enable name next r)

module _ {N M : Type 0} (names : Names N M) (scope : Scope N M) (good : AreNames names scope) where
  pub declared_before : (x : Register N M) (r : List ℕ)
      → declared names x ++ r ≡ codes "reg " ++ (range x.width ++ (names.signal x.name ++ (59 ∷ 10 ∷ r)))
  declared_before x r = simp append_assoc

  next_before : (x : Register N M) (r : List ℕ) → next_text names x ++ r
      ≡ codes "always @(posedge clk) if (" ++ (expression names x.enable ++ (41 ∷ 32
      ∷ (names.signal x.name ++ (32 ∷ 60 ∷ 61 ∷ 32 ∷ (expression names x.next ++ (59 ∷ 10 ∷ r))))))
  next_before x r = clocked_before (expression names x.enable) (names.signal x.name) (expression names x.next) r

  pub signal_alike : (n k : N) (r s : List ℕ) → scope.signal n ≡ true → scope.signal k ≡ true → stops r ≡ true → stops s ≡ true
      → names.signal n ++ r ≡ names.signal k ++ s → (n ≡ k) × (r ≡ s)
  signal_alike n k r s p q r_stops s_stops is =
      let t = word_alike (names.signal n) (names.signal k) r s (good.signals n p) (good.signals k q) r_stops s_stops is in
      (good.one_signal n k p q t.0, t.1)

  -- ---- what is known of each, and what is told

  abbrev pub RegisterIs : (N → ℕ) → (M → ℕ) → Register N M → Type 0
  RegisterIs signal memory x = AreSpelled scope (register_tokens x) × IsWrittenRegister signal memory x

  abbrev pub WireIs : (N → ℕ) → (M → ℕ) → Wire N M → Type 0
  WireIs signal memory x = AreSpelled scope (wire_tokens x) × IsWrittenWire signal memory x

  abbrev pub MemoryIs : (N → ℕ) → (M → ℕ) → Memory N M → Type 0
  MemoryIs signal memory x = IsToldMemory names scope x × IsWrittenMemory signal memory x

  abbrev pub LikeRegister : Register N M → Register N M → Type 0
  LikeRegister x y = (x.name ≡ y.name) × (x.width ≡ y.width)

  abbrev pub LikeMemory : Memory N M → Memory N M → Type 0
  LikeMemory x y = (x.name ≡ y.name) × (x.width ≡ y.width) × (x.words ≡ y.words)

  abbrev pub LikeWire : Wire N M → Wire N M → Type 0
  LikeWire x y = (x.name ≡ y.name) × (x.width ≡ y.width) × (bare x.word ≡ bare y.word)

  abbrev pub LikeNext : Register N M → Register N M → Type 0
  LikeNext x y = (bare x.enable ≡ bare y.enable) × (bare x.next ≡ bare y.next)

  abbrev pub LikePort : Option (WritePort N M) → Option (WritePort N M) → Type 0
  LikePort None None = Unit {0}
  LikePort None (Some q) = ⊥
  LikePort (Some p) None = ⊥
  LikePort (Some p) (Some q) = (bare p.enable ≡ bare q.enable) × (bare p.address ≡ bare q.address) × (bare p.word ≡ bare q.word)

  abbrev pub small : (n : ℕ) → nat_lt n (2 ^ 64) ≡ true → n < 2 ^ 64
  small n h = ltb-true n (2 ^ 64) h

  module _ (signal other : N → ℕ) (memory other_memory : M → ℕ) where
    -- ---- registers as they are declared

    pub declared_alike : (x y : Register N M) (r s : List ℕ) → RegisterIs signal memory x → RegisterIs other other_memory y
        → declared names x ++ r ≡ declared names y ++ s → LikeRegister x y × (r ≡ s)
    declared_alike x y r s p q is =
        let t = range_alike x.width y.width _ _ p.1.some q.1.some (small x.width p.0.1.0) (small y.width q.0.1.0)
        (ap (drop 4) (sym (declared_before x r) ∙ is ∙ declared_before y s)) in
        let n = signal_alike x.name y.name (59 ∷ 10 ∷ r) (59 ∷ 10 ∷ s) p.0.0 q.0.0 refl refl t.1 in
        ((n.0, t.0), ap (drop 2) n.1)

    -- ---- memories

    abbrev word_limit : Memory N M → Bool → ℕ
    word_limit x constant = if constant then x.width else 64

    words_fit : (x : Memory N M) (c : Bool) → names.is_constant x.name ≡ c → IsToldMemory names scope x
        → AllByRecursion (λ w. nat_lt w (2 ^ word_limit x c) ≡ true) x.words
    words_fit x c is h = subst (λ b. AllByRecursion (λ w. nat_lt w (2 ^ word_limit x b) ≡ true) x.words) is h.words

    pub memory_alike : (x y : Memory N M) (r s : List ℕ) → MemoryIs signal memory x → MemoryIs other other_memory y
        → memory_text names x ++ r ≡ memory_text names y ++ s → LikeMemory x y × (r ≡ s)
    memory_alike x y r s p q is = by (names.is_constant x.name) (names.is_constant y.name) refl refl is where
      x_named : scope.memory x.name ≡ true
      x_named = p.0.tokens.0

      y_named : scope.memory y.name ≡ true
      y_named = q.0.tokens.0

      by : (c d : Bool) → names.is_constant x.name ≡ c → names.is_constant y.name ≡ d
          → (if c then function_text names x else array_text names x) ++ r ≡ (if d then function_text names y else array_text names y) ++ s
          → LikeMemory x y × (r ≡ s)
      by true true c d is =
          let t = function_alike (names.memory x.name) (names.memory y.name) x.width y.width x.words y.words r s
          (good.memories x.name x_named) (good.memories y.name y_named) p.1.some q.1.some (small x.width p.0.tokens.1.0) (small y.width q.0.tokens.1.0)
          (small (length x.words) p.0.tokens.1.1.0) (small (length y.words) q.0.tokens.1.1.0) (words_fit x true c p.0) (words_fit y true d q.0) is in
          ((good.one_memory x.name y.name x_named y_named t.0, t.1, t.2), t.3)
      by false false c d is =
          let t = array_alike (names.memory x.name) (names.memory y.name) x.width y.width x.words y.words r s
          (good.memories x.name x_named) (good.memories y.name y_named) p.1.some q.1.some (small x.width p.0.tokens.1.0) (small y.width q.0.tokens.1.0)
          (small (length x.words) p.0.tokens.1.1.0) (small (length y.words) q.0.tokens.1.1.0) (words_fit x false c p.0) (words_fit y false d q.0) is in
          ((good.one_memory x.name y.name x_named y_named t.0, t.1, t.2), t.3)
      by true false c d is =
          let e : 102 ≡ 114 = ap first (sym (function_text_before (names.memory x.name) x.width x.words r) ∙ is
          ∙ array_text_before (names.memory y.name) y.width y.words s) in
          absurd (omega (arith, e))
      by false true c d is =
          let e : 114 ≡ 102 = ap first (sym (array_text_before (names.memory x.name) x.width x.words r) ∙ is
          ∙ function_text_before (names.memory y.name) y.width y.words s) in
          absurd (omega (arith, e))

    -- ---- wires

    pub wire_alike : (x y : Wire N M) (r s : List ℕ) → WireIs signal memory x → WireIs other other_memory y
        → wire_text names x ++ r ≡ wire_text names y ++ s → LikeWire x y × (r ≡ s)
    wire_alike x y r s p q is =
        let t = range_alike x.width y.width _ _ p.1.some q.1.some (small x.width p.0.1.0) (small y.width q.0.1.0)
        (ap (drop 5) (sym (wire_before (names.signal x.name) x.width (expression names x.word) r) ∙ is
        ∙ wire_before (names.signal y.name) y.width (expression names y.word) s)) in
        let n = signal_alike x.name y.name (32 ∷ 61 ∷ 32 ∷ (expression names x.word ++ (59 ∷ 10 ∷ r)))
        (32 ∷ 61 ∷ 32 ∷ (expression names y.word ++ (59 ∷ 10 ∷ s))) p.0.0 q.0.0 refl refl t.1 in
        let w = same_bare names scope good signal memory other other_memory x.word y.word (59 ∷ 10 ∷ r) (59 ∷ 10 ∷ s)
        p.1.word.plain q.1.word.plain p.0.1.1 q.0.1.1 refl refl (ap (drop 3) n.1) in
        ((n.0, t.0, w.0), ap (drop 2) w.1)

    -- ---- what registers take

    pub next_alike : (x y : Register N M) (r s : List ℕ) → RegisterIs signal memory x → RegisterIs other other_memory y
        → next_text names x ++ r ≡ next_text names y ++ s → LikeNext x y × (r ≡ s)
    next_alike x y r s p q is =
        let x_tokens = all_halves (λ t. has_token scope t ≡ true) (tokens_in x.enable) (tokens_in x.next) p.0.1.1 in
        let y_tokens = all_halves (λ t. has_token scope t ≡ true) (tokens_in y.enable) (tokens_in y.next) q.0.1.1 in
        let x_rest : List ℕ = 32 ∷ 60 ∷ 61 ∷ 32 ∷ (expression names x.next ++ (59 ∷ 10 ∷ r)) in
        let y_rest : List ℕ = 32 ∷ 60 ∷ 61 ∷ 32 ∷ (expression names y.next ++ (59 ∷ 10 ∷ s)) in
        let e = same_bare names scope good signal memory other other_memory x.enable y.enable
        (41 ∷ 32 ∷ (names.signal x.name ++ x_rest)) (41 ∷ 32 ∷ (names.signal y.name ++ y_rest))
        p.1.enable.plain q.1.enable.plain x_tokens.0 y_tokens.0 refl refl
        (append_cancel_left (codes "always @(posedge clk) if (") _ _ (sym (next_before x r) ∙ is ∙ next_before y s)) in
        let n = signal_alike x.name y.name x_rest y_rest p.0.0 q.0.0 refl refl (ap (drop 2) e.1) in
        let w = same_bare names scope good signal memory other other_memory x.next y.next (59 ∷ 10 ∷ r) (59 ∷ 10 ∷ s)
        p.1.next.plain q.1.next.plain x_tokens.1 y_tokens.1 refl refl (ap (drop 4) n.1) in
        ((e.0, w.0), ap (drop 2) w.1)

    -- ---- where memories are written

    pub port_alike : (x y : Memory N M) (v w : WritePort N M) (r s : List ℕ) → MemoryIs signal memory x → MemoryIs other other_memory y
        → AreSpelled scope (port_tokens (Some v)) → AreSpelled scope (port_tokens (Some w))
        → IsWrittenPort signal memory x.width v → IsWrittenPort other other_memory y.width w
        → port_text names x.name v ++ r ≡ port_text names y.name w ++ s → LikePort (Some v) (Some w) × (r ≡ s)
    port_alike x y v w r s p q v_tokens w_tokens v_is w_is is =
        let a = all_halves (λ t. has_token scope t ≡ true) (tokens_in v.enable) (tokens_in v.address ++ tokens_in v.word) v_tokens in
        let b = all_halves (λ t. has_token scope t ≡ true) (tokens_in v.address) (tokens_in v.word) a.1 in
        let c = all_halves (λ t. has_token scope t ≡ true) (tokens_in w.enable) (tokens_in w.address ++ tokens_in w.word) w_tokens in
        let d = all_halves (λ t. has_token scope t ≡ true) (tokens_in w.address) (tokens_in w.word) c.1 in
        let v_last : List ℕ = 93 ∷ 32 ∷ 60 ∷ 61 ∷ 32 ∷ (expression names v.word ++ (59 ∷ 10 ∷ r)) in
        let w_last : List ℕ = 93 ∷ 32 ∷ 60 ∷ 61 ∷ 32 ∷ (expression names w.word ++ (59 ∷ 10 ∷ s)) in
        let v_rest : List ℕ = 91 ∷ (expression names v.address ++ v_last) in
        let w_rest : List ℕ = 91 ∷ (expression names w.address ++ w_last) in
        let e = same_bare names scope good signal memory other other_memory v.enable w.enable
        (41 ∷ 32 ∷ (names.memory x.name ++ v_rest)) (41 ∷ 32 ∷ (names.memory y.name ++ w_rest))
        v_is.enable.plain w_is.enable.plain a.0 c.0 refl refl
        (append_cancel_left (codes "always @(posedge clk) if (") _ _
        (sym (write_before (names.memory x.name) (expression names v.enable) (expression names v.address) (expression names v.word) r) ∙ is
        ∙ write_before (names.memory y.name) (expression names w.enable) (expression names w.address) (expression names w.word) s)) in
        let n = word_alike (names.memory x.name) (names.memory y.name) v_rest w_rest (good.memories x.name p.0.tokens.0)
        (good.memories y.name q.0.tokens.0) refl refl (ap (drop 2) e.1) in
        let t = same_bare names scope good signal memory other other_memory v.address w.address v_last w_last
        v_is.address.plain w_is.address.plain b.0 d.0 refl refl (ap (drop 1) n.1) in
        let u = same_bare names scope good signal memory other other_memory v.word w.word (59 ∷ 10 ∷ r) (59 ∷ 10 ∷ s)
        v_is.word.plain w_is.word.plain b.1 d.1 refl refl (ap (drop 5) t.1) in
        ((e.0, t.0, u.0), ap (drop 2) u.1)
