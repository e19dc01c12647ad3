-- What a long immediate writes.
use Rattle.std.proofs.Common.{◌≡◌, ℕ, ◌+◌, ◌<◌, ◌==◌, Bool, true, false, ◌&&◌, [], ◌∷◌, filter, slice_get, Option, Some, None, refl, sym, ap, ◌∙◌, arith}
use Rattle.std.specs.Prelude.{is_some, if◌then◌else◌, nat_lt, ◌^◌}
use Rattle.std.specs.Option.{option_map_or}
use Rattle.std.specs.List.{find, filter_map, enumerate_from}
use Rattle.std.proofs.lemmas.Bool.{and_parts, false≢true, eq-eqb, ne_eqb, eqb-true}
use Rattle.tta_hardware.specs.Cited.{Units, Template, Machine, KeptReg, KeptImm, KeptOperand, KeptRa, Written, kept, write_of, bring, long_effect, Long, Instruction, is_long, State, read_source, long_effects, Const, Equal, bit, is_set, value, template_width}
use Rattle.tta_code.proofs.LegalParts.{legal_parts}
use Rattle.tta_circuit.specs.Circuit.{Signal as OfSignal}
use Rattle.tta_hardware.specs.Signals.{TemplateOf, LongOf, Signal as Named, Keeps, Fetched}
use Rattle.tta_hardware.specs.Chains.{first_of}
use Rattle.tta_hardware.specs.Registers.{longs}
use Rattle.tta_hardware.specs.Stands.{Hardware}
use Rattle.tta_hardware.specs.Laws.{Meet}
use Rattle.tta_hardware.proofs.Bits.{template_some}
use Rattle.tta_hardware.proofs.Bringing.{within_list}
use Rattle.tta_hardware.proofs.Chained.{set_bit, first_found}
use Rattle.tta_hardware.proofs.Timed.{none_found, one_found}

-- the word that a template writes into an immediate register, if it writes that one
abbrev pub long_into : (unit index : ℕ) → Option Template → (word : ℕ) → Option ℕ
long_into unit index None word = None
long_into unit index (Some t) word = if t.imm == unit && t.reg == index then Some word else None

-- the word that a long immediate writes into an immediate register, if it does
abbrev pub long_of : Machine → (unit index : ℕ) → Option Long → Option ℕ
long_of m unit index None = None
long_of m unit index (Some l) = long_into unit index (slice_get m.templates l.template) l.value

module _ (m : Machine) (s : State) where
  -- what a long immediate writes
  abbrev pub by_long : Option Long → Written
  by_long long = filter_map (write_of m (s.pc + 1 + m.control.delay)) (filter_map (bring (read_source s)) (long_effects m long))

  pub reg_unwritten : (long : Option Long) (file index : ℕ) → kept (by_long long) (KeptReg file index) ≡ None
  reg_unwritten None file index = refl
  reg_unwritten (Some l) file index = by (slice_get m.templates l.template) where
    by : (o : Option Template)
        → kept (filter_map (write_of m (s.pc + 1 + m.control.delay))
        (filter_map (bring (read_source s)) (option_map_or (λ t. long_effect t.imm t.reg l.value ∷ []) o []))) (KeptReg file index)
        ≡ None
    by None = refl
    by (Some t) = refl

  pub operand_unwritten : (long : Option Long) (unit : ℕ) → kept (by_long long) (KeptOperand unit) ≡ None
  operand_unwritten None unit = refl
  operand_unwritten (Some l) unit = by (slice_get m.templates l.template) where
    by : (o : Option Template)
        → kept (filter_map (write_of m (s.pc + 1 + m.control.delay))
        (filter_map (bring (read_source s)) (option_map_or (λ t. long_effect t.imm t.reg l.value ∷ []) o []))) (KeptOperand unit) ≡ None
    by None = refl
    by (Some t) = refl

  pub ra_unwritten : (long : Option Long) → kept (by_long long) KeptRa ≡ None
  ra_unwritten None = refl
  ra_unwritten (Some l) = by (slice_get m.templates l.template) where
    by : (o : Option Template)
        → kept (filter_map (write_of m (s.pc + 1 + m.control.delay))
        (filter_map (bring (read_source s)) (option_map_or (λ t. long_effect t.imm t.reg l.value ∷ []) o []))) KeptRa ≡ None
    by None = refl
    by (Some t) = refl

  pub imm_written : (long : Option Long) (unit index : ℕ) → kept (by_long long) (KeptImm unit index) ≡ long_of m unit index long
  imm_written None unit index = refl
  imm_written (Some l) unit index = by (slice_get m.templates l.template) where
    by : (o : Option Template)
        → kept (filter_map (write_of m (s.pc + 1 + m.control.delay))
        (filter_map (bring (read_source s)) (option_map_or (λ t. long_effect t.imm t.reg l.value ∷ []) o []))) (KeptImm unit index)
        ≡ long_into unit index o l.value
    by None = refl
    by (Some t) = refl

-- ---- the circuit

module _ (u : Units) (m : Machine) (h : Hardware) (env : Named → ℕ) (s : State) (i : Instruction) (meet : Meet u m h env s i)
    (unit index : ℕ) where
  abbrev writes : ℕ × Template → Bool
  writes t = t.1.imm == unit && t.1.reg == index

  abbrev has_code : ℕ → Bool
  has_code k = is_set (bit (env (Fetched TemplateOf) == k + 1))

  one_if : (b : Bool) (k : ℕ) (t : Template) (w self : ℕ) → option_map_or (λ (t : ℕ × Template). w) (if b then Some (k, t) else None) self
      ≡ option_map_or (λ n. n) (if b then Some w else None) self
  one_if true k t w self = refl
  one_if false k t w self = refl

  -- the circuit keeps the same word in an immediate register
  pub long_arrives : value u h.memories env (first_of (longs m unit index) (OfSignal (Keeps (KeptImm unit index))))
      ≡ option_map_or (λ n. n) (long_of m unit index i.long) (env (Keeps (KeptImm unit index)))
  long_arrives =
      first_found u h.memories env (λ (t : ℕ × Template). Equal (OfSignal (Fetched TemplateOf)) (Const (template_width m) (t.0 + 1)))
      (λ t. OfSignal (Fetched LongOf))
      (filter writes (enumerate_from 0 m.templates)) (OfSignal (Keeps (KeptImm unit index)))
      ∙ by i.long refl
    where
      self : ℕ
      self = env (Keeps (KeptImm unit index))

      by : (o : Option Long) → i.long ≡ o
          → option_map_or (λ (t : ℕ × Template). env (Fetched LongOf))
          (find (λ t. has_code t.0) (filter writes (enumerate_from 0 m.templates))) self
          ≡ option_map_or (λ n. n) (long_of m unit index o) self
      by None is =
          let zero_code : 0 < template_width m → env (Fetched TemplateOf) ≡ 0 = λ some. meet.fetched.template some
          ∙ ap (λ o. option_map_or (λ (l : Long). l.template + 1) o 0) is in
          ap (λ o. option_map_or (λ (t : ℕ × Template). env (Fetched LongOf)) o self)
          (none_found writes has_code m.templates 0 (λ k t at. set_bit (env (Fetched TemplateOf) == 0 + k + 1)
          ∙ ne_eqb (env (Fetched TemplateOf)) (0 + k + 1) (λ e.
          let z = zero_code (template_some m k (within_list m.templates k (ap is_some at))) in omega (arith, e, z))))
      by (Some l) is = of (slice_get m.templates l.template) refl exists where
        exists : is_some (slice_get m.templates l.template) ≡ true
        exists =
            (and_parts (is_some (slice_get m.templates l.template)) (nat_lt l.value (2 ^ 32))
            (sym (ap (λ o. option_map_or (is_long m) o true) is) ∙ (legal_parts m i meet.legal).long)).0

        code : env (Fetched TemplateOf) ≡ l.template + 1
        code = meet.fetched.template (template_some m l.template (within_list m.templates l.template exists))
            ∙ ap (λ o. option_map_or (λ (l : Long). l.template + 1) o 0) is

        word : env (Fetched LongOf) ≡ l.value
        word = meet.fetched.long l is

        same : (k : ℕ) (b : Bool) → (k == l.template) ≡ b → (env (Fetched TemplateOf) == k + 1) ≡ b
        same k true e = let z : k ≡ l.template = eqb-true k l.template e in
            eq-eqb (env (Fetched TemplateOf)) (k + 1) (omega (arith, code, z))
        same k false e = ne_eqb (env (Fetched TemplateOf)) (k + 1) (λ z.
            let w : k ≡ l.template = omega (arith, code, z) in absurd (false≢true (sym e ∙ eq-eqb k l.template w)))

        of : (q : Option Template) → slice_get m.templates l.template ≡ q → is_some q ≡ true
            → option_map_or (λ (t : ℕ × Template). env (Fetched LongOf))
            (find (λ t. has_code t.0) (filter writes (enumerate_from 0 m.templates))) self
            ≡ option_map_or (λ n. n) (long_into unit index q l.value) self
        of None at some = absurd (false≢true some)
        of (Some t) at some =
            ap (λ o. option_map_or (λ (t : ℕ × Template). env (Fetched LongOf)) o self)
            (one_found writes has_code m.templates 0 l.template l.template t (omega arith) at
            (λ k x at'. set_bit (env (Fetched TemplateOf) == 0 + k + 1) ∙ same (0 + k) (0 + k == l.template) refl))
            ∙ ap (λ (n : ℕ). option_map_or (λ (t : ℕ × Template). n) (if writes (l.template, t) then Some (l.template, t) else None)
            self) word
            ∙ one_if (t.imm == unit && t.reg == index) l.template t l.value self
