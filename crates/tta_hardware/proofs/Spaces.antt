-- The spaces, the input and the output, from one clock to the next.
use Rattle.std.proofs.Common.{◌≡◌, ℕ, ◌≤◌, ◌==◌, Bool, true, false, ◌&&◌, ◌||◌, List, [], ◌∷◌, ◌++◌, length, Option, Some, None, refl, sym, ap, ◌∙◌, arith, append-nil}
use Rattle.std.specs.Prelude.{is_some, if◌then◌else◌, nat_lt, fold, slice_set, drop}
use Rattle.std.specs.Option.{option_map_or}
use Rattle.std.specs.List.{find, list_any}
use Rattle.std.proofs.lemmas.Bool.{or_left, or_right, ltb-false, false≢true}
use Rattle.std.proofs.lemmas.List.{set_past, length-set}
use Rattle.tta_hardware.specs.Cited.{left, Units, Op, Ldw, Stw, Ldf, Stf, Out, Take, Set, Machine, same_op, has_one_owner, Start, store_data, store_frame, put_out, take_in, takes, takes_in, stores, lacks_operand, operand_word, Instruction, State, bit, is_set, value}
use Rattle.tta_circuit.specs.Circuit.{Signal as OfSignal}
use Rattle.tta_hardware.specs.Signals.{Data, Frame, Signal as Named, Trigger, Operand, Asks, Gives, Goes, Puts, PutWord}
use Rattle.tta_hardware.specs.Wires.{some_start, word_of_start}
use Rattle.tta_hardware.specs.Hardware.{store_port}
use Rattle.tta_hardware.specs.Stands.{Hardware, StartsOne}
use Rattle.tta_hardware.specs.Laws.{Meet, started_in, through, SpacesKeep, Streams, StreamsAlike}
use Rattle.tta_hardware.proofs.Chained.{set_bit}
use Rattle.tta_hardware.proofs.Starting.{find_passes}
use Rattle.tta_hardware.proofs.Apart.{op_fits}
use Rattle.tta_hardware.proofs.Single.{fold_one}
use Rattle.tta_hardware.proofs.Serving.{apart, offered, of_cycle, serves, some_starts, word_starts}
use Rattle.tta_hardware.proofs.Owners.{one_store, one_frame_store, one_out, one_take, data_quiet, data_does, frame_quiet, frame_does, out_quiet, out_does, in_quiet, store_operand}

and_both : (a b c : Bool) → a ≡ true → (a && (b && c)) ≡ (b && c)
and_both a b c is = ap (λ x. x && (b && c)) is

module _ (u : Units) (m : Machine) (h : Hardware) (env : Named → ℕ) (s : State) (i : Instruction) (meet : Meet u m h env s i)
    (lacks : list_any lacks_operand (started_in m s i) ≡ false) where
  -- ---- a space

  module _ (goes : is_set (env Goes) ≡ true) (kind : Op → Bool) (one : has_one_owner kind m.units ≡ true) (is_store : (o : Op)
      → kind o ≡ true → (same_op Stw o || same_op Stf o) ≡ true)
      (does : List ℕ → Start → List ℕ) (quiet : (ws : List ℕ) (t : Start) → kind t.does.op ≡ false → does ws t ≡ ws)
      (loud : (ws : List ℕ) (t : Start) → kind t.does.op ≡ true → does ws t ≡ stores ws t) (size : ℕ) (words : List ℕ)
      (sized : length words ≡ size) where
    -- the port stores what the operation does
    port_stores : (space : List ℕ) → space ≡ words → through u h.memories env (store_port m size kind) space
        ≡ fold does words (started_in m s i)
    port_stores space same =
        ap (through u h.memories env (store_port m size kind)) same ∙ by (find (λ t. kind t.does.op) (started_in m s i)) refl
        ∙ sym (fold_one m kind one does quiet words (started_in m s i) (apart u m h env s i meet lacks) (offered u m h env s i meet lacks))
      where
        address : ℕ
        address = value u h.memories env (word_of_start m kind (λ unit. OfSignal (Operand unit)))

        word : ℕ
        word = value u h.memories env (word_of_start m kind (λ unit. OfSignal (Trigger unit)))

        some : Bool
        some = is_set (value u h.memories env (some_start m kind))

        enabled : is_set (bit (is_set (env Goes) && is_set (bit (some && is_set (bit (nat_lt address size))))))
            ≡ (some && nat_lt address size)
        enabled =
            set_bit (is_set (env Goes) && is_set (bit (some && is_set (bit (nat_lt address size)))))
            ∙ ap (λ b. is_set (env Goes) && b) (set_bit (some && is_set (bit (nat_lt address size)))
            ∙ ap (λ b. some && b) (set_bit (nat_lt address size)))
            ∙ and_both (is_set (env Goes)) some (nat_lt address size) goes

        by : (o : Option Start) → find (λ t. kind t.does.op) (started_in m s i) ≡ o
            → (if is_set (bit (is_set (env Goes) && is_set (bit (some && is_set (bit (nat_lt address size))))))
            then slice_set words address word else words)
            ≡ option_map_or (does words) o words
        by None is =
            ap (λ b. if b then slice_set words address word else words)
            (enabled ∙ ap (λ b. b && nat_lt address size) (some_starts u m h env s i meet lacks kind one ∙ ap is_some is))
        by (Some t) is =
            ap (λ b. if b then slice_set words address word else words)
            (enabled ∙ ap (λ b. b && nat_lt address size) (some_starts u m h env s i meet lacks kind one ∙ ap is_some is))
            ∙ past (nat_lt address size) refl
            ∙ ap (λ n. slice_set words n word) at ∙ ap (slice_set words (operand_word t)) that ∙ sym (loud words t its_kind)
          where
            its_kind : kind t.does.op ≡ true
            its_kind = find_passes (λ t. kind t.does.op) (started_in m s i) t is

            one_start : StartsOne m env t.unit t
            one_start = serves u m h env s i meet lacks kind one t is

            two : (t.does.arity == 2) ≡ true
            two = store_operand t.does (op_fits m meet.rules t.unit one_start.op t.does one_start.there) (is_store t.does.op its_kind)

            at : address ≡ operand_word t
            at = word_starts u m h env s i meet lacks kind one (λ unit. OfSignal (Operand unit)) t is
                ∙ sym (ap (λ b. if b then env (Operand t.unit) else 0) two) ∙ one_start.operand

            that : word ≡ t.word
            that = word_starts u m h env s i meet lacks kind one (λ unit. OfSignal (Trigger unit)) t is ∙ one_start.word

            past : (b : Bool) → nat_lt address size ≡ b → (if b then slice_set words address word else words) ≡ slice_set words address word
            past true is = refl
            past false is =
                let out : size ≤ address = ltb-false address size is in
                sym (set_past words address word (omega (arith, out, sized)))

    -- and no word comes or goes
    kept_size : length (fold does words (started_in m s i)) ≡ size
    kept_size =
        ap length (fold_one m kind one does quiet words (started_in m s i) (apart u m h env s i meet lacks)
        (offered u m h env s i meet lacks))
        ∙ by (find (λ t. kind t.does.op) (started_in m s i)) refl
      where
        by : (o : Option Start) → find (λ t. kind t.does.op) (started_in m s i) ≡ o → length (option_map_or (does words) o words) ≡ size
        by None is = sized
        by (Some t) is = ap length (loud words t (find_passes (λ t. kind t.does.op) (started_in m s i) t is))
            ∙ length-set words (operand_word t) t.word ∙ sized

  -- ---- streams

  takes_is : (t : Start) → takes t ≡ same_op Take t.does.op
  takes_is t = by t.does.op where
    by : (o : Op) → takes_in o ≡ same_op Take o
    by Ldw = refl
    by Stw = refl
    by Ldf = refl
    by Stf = refl
    by Out = refl
    by Take = refl
    by (Set id) = refl

  any_takes : (ts : List Start) → list_any takes ts ≡ is_some (find (λ t. same_op Take t.does.op) ts)
  any_takes [] = refl
  any_takes (t ∷ ts) = by (takes t) (same_op Take t.does.op) (takes_is t) (any_takes ts) where
    by : (a b : Bool) → a ≡ b → list_any takes ts ≡ is_some (find (λ t. same_op Take t.does.op) ts)
        → (a || list_any takes ts) ≡ is_some (if b then Some t else find (λ t. same_op Take t.does.op) ts)
    by true true is rest = refl
    by true false is rest = absurd (false≢true (sym is))
    by false true is rest = absurd (false≢true is)
    by false false is rest = rest

  asked : is_set (env Asks) ≡ is_some (of_cycle u m h env s i meet lacks (same_op Take) (one_take m meet.rules))
  asked = ap is_set meet.settled.asks ∙ some_starts u m h env s i meet lacks (same_op Take) (one_take m meet.rules)

  streams : Streams env s (started_in m s i)
  streams = record {
    asks = asked ∙ sym (any_takes (started_in m s i));
    rest =
        fold_one m (same_op Take) (one_take m meet.rules) take_in in_quiet s.rest (started_in m s i) (apart u m h env s i meet lacks)
        (offered u m h env s i meet lacks)
        ∙ of_rest (find (λ t. same_op Take t.does.op) (started_in m s i)) refl ∙ ap (λ b. left b s.rest) (sym asked);
    output = λ goes.
        fold_one m (same_op Out) (one_out m meet.rules) put_out out_quiet s.output (started_in m s i) (apart u m h env s i meet lacks)
        (offered u m h env s i meet lacks)
        ∙ of_output (find (λ t. same_op Out t.does.op) (started_in m s i)) refl
        ∙ ap (λ b. s.output ++ (if b then env PutWord ∷ [] else [])) (sym (puts goes));
  } where
    of_rest : (o : Option Start) → find (λ t. same_op Take t.does.op) (started_in m s i) ≡ o → option_map_or (take_in s.rest) o s.rest
        ≡ left (is_some o) s.rest
    of_rest None is = refl
    of_rest (Some t) is =
        ap (λ b. if b then drop 1 s.rest else s.rest) (takes_is t ∙ find_passes (λ t. same_op Take t.does.op) (started_in m s i) t is)

    puts : is_set (env Goes) ≡ true → is_set (env Puts) ≡ is_some (find (λ t. same_op Out t.does.op) (started_in m s i))
    puts goes =
        ap is_set meet.settled.puts ∙ set_bit (is_set (env Goes) && is_set (env Gives)) ∙ ap (λ b. b && is_set (env Gives)) goes
        ∙ ap is_set meet.settled.gives
        ∙ some_starts u m h env s i meet lacks (same_op Out) (one_out m meet.rules)

    of_output : (o : Option Start) → find (λ t. same_op Out t.does.op) (started_in m s i) ≡ o
        → option_map_or (put_out s.output) o s.output ≡ s.output ++ (if is_some o then env PutWord ∷ [] else [])
    of_output None is = sym (append-nil s.output)
    of_output (Some t) is =
        out_does s.output t (find_passes (λ t. same_op Out t.does.op) (started_in m s i) t is)
        ∙ ap (λ w. s.output ++ w ∷ [])
        (sym (meet.settled.put_word
        ∙ word_starts u m h env s i meet lacks (same_op Out) (one_out m meet.rules) (λ unit. OfSignal (Trigger unit)) t is
        ∙ (serves u m h env s i meet lacks (same_op Out) (one_out m meet.rules) t is).word))

pub streams_alike : StreamsAlike
streams_alike u m h env s i meet lacks = streams u m h env s i meet lacks

pub spaces_keep : SpacesKeep
spaces_keep u m h g env s t i meet lacks goes stored spaces memory frame = record {
  memory = stored.memory ∙ port_stores u m h env s i meet lacks goes (same_op Stw) (one_store m meet.rules)
      (λ o is. or_left (same_op Stw o) (same_op Stf o) is) store_data data_quiet data_does m.data_words s.memory spaces.memory_size
      (h.memories Data) spaces.memory ∙ sym memory;
  frame = stored.frame ∙ port_stores u m h env s i meet lacks goes (same_op Stf) (one_frame_store m meet.rules)
      (λ o is. or_right (same_op Stw o) (same_op Stf o) is) store_frame frame_quiet frame_does m.frame_words s.frame spaces.frame_size
      (h.memories Frame) spaces.frame ∙ sym frame;
  memory_size = ap length memory ∙ kept_size u m h env s i meet lacks goes (same_op Stw) (one_store m meet.rules)
      (λ o is. or_left (same_op Stw o) (same_op Stf o) is) store_data data_quiet data_does m.data_words s.memory spaces.memory_size;
  frame_size = ap length frame ∙ kept_size u m h env s i meet lacks goes (same_op Stf) (one_frame_store m meet.rules)
      (λ o is. or_right (same_op Stw o) (same_op Stf o) is) store_frame frame_quiet frame_does m.frame_words s.frame spaces.frame_size;
}
