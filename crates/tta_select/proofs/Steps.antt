-- The items of a step do what the step does.
use Rattle.std.proofs.Common.{◌≡◌, ◌<◌, ℕ, Bool, true, false, List, [], ◌∷◌, ◌++◌, Option, Some, None, refl, ap, subst, arith, ◌∙◌, length, slice_get, slice_index, slice_set, is_some, is_none, drop}
use Rattle.std.specs.Prelude.{if◌then◌else◌, ◌==◌}
use Rattle.std.specs.Option.{unwrap_or}
use Rattle.std.proofs.lemmas.Bool.{and_parts}
use Rattle.std.proofs.lemmas.Bool.Decides.{nat_tests}
use Rattle.tta_select.specs.Cited.{Units, Ldw, Stw, Ldf, Stf, Out, Set, Machine, KeptPort, Choice, Call, Rel, Waiting, holds, Port, Item, Waits, Held, Frame, RSrc, RStep, Copy, Apply, Load, Store, Put, When, SaveRa, State, Plain, Return, operand, is_set, puts_at, takes, is_ready, carries, StandsOver}
use Rattle.tta_arch.specs.declared.ends.Source.TheVariants as source
use Rattle.tta_arch.specs.declared.parts.Op.TheVariants.{Take as TakeIn}
use Rattle.tta_moves.specs.declared.items.LongValue.TheVariants as long
use Rattle.tta_moves.specs.Meaning.{Next}
use Rattle.tta_lir.specs.declared.code.Place.{Place as RPlace}
use Rattle.tta_lir.specs.declared.code.Place.TheVariants.{Reg}
use Rattle.tta_lir.specs.declared.code.RSrc.TheVariants as rsrc
use Rattle.tta_lir.specs.declared.code.RStep.TheVariants.{Take}
use Rattle.tta_lir.specs.Meaning.{value as word_of_operand}
use Rattle.tta_select.specs.Select.{call_of, operand_at, trigger_at, home_at, constant, carry, value, operate, address_slot, result, condition, guard_of_rel, choose, test_op, items_of_step, is_inverted}
use Rattle.tta_select.specs.Ground.{IsGround, IsServed, home_place}
use Rattle.tta_select.specs.Relation.{Matches, is_place_of, is_src_of}
use Rattle.tta_select.specs.Needs.{op_of_step, Served, is_step_of}
use Rattle.tta_select.proofs.Goes.{Goes, chain, waits}
use Rattle.tta_select.proofs.Moves.{wrote, move_wide}
use Rattle.tta_select.proofs.Ways.{finish, way_constant, way_carry}
use Rattle.tta_select.proofs.Matching.{match_calm, match_home}
use Rattle.tta_select.proofs.Values.{does_of, after, one_word, way_loads, way_value, triggers, places, operate_one, operate_two}
use Rattle.tta_select.proofs.Results.{Landed, landed_behind, addresses, stores, lands, shows, operates}
use Rattle.tta_select.proofs.Choosing.{chooses}
use Rattle.tta_select.proofs.Conditions.{tests}

-- an operand that is set has a word
pub has_word : (s : State) (o : RSrc) → is_set s o ≡ true → operand s o ≡ Some (word_of_operand s o)
has_word s o e = on (operand s o) e where
  on : (w : Option ℕ) → is_some w ≡ true → w ≡ Some (unwrap_or w 0)
  on None e = absurd cc
  on (Some w) e = refl

module _ (u : Units) (m : Machine) (c : Choice) (addr : List ℕ) (back : ℕ) (g : IsGround m c) (loads : IsServed m c Ldf) (store : IsServed m c Stf) (over : StandsOver u m) where
  -- what the items of a step come to: the run goes on, or it waits
  pub data Stepped (s s' : State) (h : Held) (items : List Item) : Type 0 where
    Goes_on : s'.outcome ≡ s.outcome → Landed u m c addr back g Next s' h items → Stepped s s' h items
    Stops : s'.outcome ≡ Waiting → Landed u m c addr back g Waits s' h items → Stepped s s' h items

  -- ---- copies

  copies : (s : State) (h : Held) (d : RPlace) (o : RSrc) (w : ℕ) → Matches m c addr Next s h → operand s o ≡ Some w → is_place_of m c d ≡ true → is_src_of m c o ≡ true
      → Landed u m c addr back g Next (puts_at s d w) h (items_of_step m c u (Copy d o))
  copies s h (Reg k) o w match is place inside =
      let low : k < length c.homes = grind (arith, nat_tests) in
      let y = way_value u m c addr back g s h None o (home_at m c k) w loads match is inside in
      record {
        end = wrote y.mid (home_place m c k) w;
        match = match_home m c addr g Next s y.mid k w low (match_calm m c addr g Next s h y.mid match y.calm);
        leads = finish u m c addr back true h _ None (home_at m c k) w y _ (move_wide u m addr back y.mid None y.src _ _ w (y.calm.exit ∙ match.exits) refl y.word (g.homes k low));
      }
  copies s h (Frame f) o w match is place inside =
      let low : f < m.frame_words = grind (arith, nat_tests) in
      let t = call_of m c Stf in
      let a = addresses u m c addr back g store s h f match in
      let y = way_value u m c addr back g s a.mid None o (trigger_at t) w loads a.match is inside in
      landed_behind u m c addr back g Next (puts_at s (Frame f) w) h a.mid (address_slot m c f) (value m c None o (trigger_at t)) a.leads
      (stores u m c addr back g store s a.mid _ f w (Plain w) a.match a.there low refl y)

  -- ---- loads and stores

  load_step : (s : State) (h : Held) (d : RPlace) (o : RSrc) (w : ℕ) → IsServed m c Ldw → Matches m c addr Next s h → operand s o ≡ Some w → is_place_of m c d ≡ true → is_src_of m c o ≡ true
      → Landed u m c addr back g Next (puts_at s d (slice_index s.memory w)) h (items_of_step m c u (Load d o))
  load_step s h d o w served match is place inside =
      let f = call_of m c Ldw in
      let one : ((does_of m c Ldw).arity == 1) ≡ true = (and_parts _ _ served.fits).0 in
      let x = operate_one u m c addr back g s h Ldw o w loads match served one is inside in
      let leads = subst (λ (memory : List ℕ). Goes u m addr back h (value m c None o (trigger_at f)) (wrote x.mid (KeptPort f.unit) (slice_index memory w))) x.match.memory x.leads in
      let y = shows u m c addr back g store loads over s h (value m c None o (trigger_at f)) f x.mid (slice_index s.memory w) x.match leads in
      landed_behind u m c addr back g Next _ h y.mid (value m c None o (trigger_at f)) (result m c f d) y.leads
      (lands u m c addr back g store s y.mid f d (slice_index s.memory w) y.match y.there place)

  store_step : (s : State) (h : Held) (a o : RSrc) (v w : ℕ) → IsServed m c Stw → Matches m c addr Next s h → operand s a ≡ Some v → is_src_of m c a ≡ true → operand s o ≡ Some w → is_src_of m c o ≡ true
      → Landed u m c addr back g Next (record s { memory = slice_set s.memory v w }) h (items_of_step m c u (Store a o))
  store_step s h a o v w served match va ia vo io =
      let f = call_of m c Stw in
      let two : ((does_of m c Stw).arity == 2) ≡ true = (and_parts _ _ served.fits).0 in
      let p = places u m c addr back g s h f (value m c None a (operand_at f)) v match (way_value u m c addr back g s h None a (operand_at f) v loads match va ia) in
      let x = operate_two u m c addr back g s p.mid Stw o v w loads p.match served two p.there vo io in
      let k = x.match in
      record {
        end = record x.mid { memory = slice_set x.mid.memory v w };
        match = record {
          memory = ap (λ memory. slice_set memory v w) k.memory;
          rest = k.rest;
          output = k.output;
          exits = k.exits;
          homes = k.homes;
          size = k.size;
          slots = k.slots;
          back = k.back;
        };
        leads = chain u m addr back (value m c None a (operand_at f)) (value m c None o (trigger_at f)) h p.mid _ p.leads x.leads;
      }

  put_step : (s : State) (h : Held) (o : RSrc) (w : ℕ) → IsServed m c Out → Matches m c addr Next s h → operand s o ≡ Some w → is_src_of m c o ≡ true
      → Landed u m c addr back g Next (record s { output = s.output ++ w ∷ [] }) h (items_of_step m c u (Put o))
  put_step s h o w served match is inside =
      let one : ((does_of m c Out).arity == 1) ≡ true = (and_parts _ _ served.fits).0 in
      let x = operate_one u m c addr back g s h Out o w loads match served one is inside in
      let k = x.match in
      record {
        end = record x.mid { output = x.mid.output ++ w ∷ [] };
        match = record {
          memory = k.memory;
          rest = k.rest;
          output = ap (λ output. output ++ w ∷ []) k.output;
          exits = k.exits;
          homes = k.homes;
          size = k.size;
          slots = k.slots;
          back = k.back;
        };
        leads = x.leads;
      }

  -- ---- input

  -- what was triggered takes a word of the input, or waits
  taken : (s : State) (h mid : Held) (d : RPlace) (rest : List ℕ) → Matches m c addr Next s mid → mid.rest ≡ rest → is_place_of m c d ≡ true
      → Goes u m addr back h (constant m c None (long.Word 0) (trigger_at (call_of m c TakeIn))) (after u m c addr back g mid (call_of m c TakeIn) (does_of m c TakeIn) 0 0)
      → Stepped s (takes s d rest) h (items_of_step m c u (Take d))
  taken s h mid d rest match e place leads = on rest e (subst (λ (r : List ℕ). Goes u m addr back h items (if is_none (slice_get r 0) then record mid { exit = Waits } else acting)) e leads) where
    f : Call
    f = call_of m c TakeIn

    items : List Item
    items = constant m c None (long.Word 0) (trigger_at f)

    taking : (rest : List ℕ) → Held
    taking rest = record (wrote mid (KeptPort f.unit) (slice_index rest 0)) { rest = drop 1 rest }

    acting : Held
    acting = taking mid.rest

    on : (rest : List ℕ) → mid.rest ≡ rest → Goes u m addr back h items (if is_none (slice_get rest 0) then record mid { exit = Waits } else acting) → Stepped s (takes s d rest) h (items ++ result m c f d)
    on [] e leads = Stops refl (record {
      end = record mid { exit = Waits };
      match = record { memory = match.memory; rest = match.rest; output = match.output; exits = refl; homes = match.homes; size = match.size; slots = match.slots; back = match.back };
      leads = chain u m addr back items (result m c f d) h (record mid { exit = Waits }) (record mid { exit = Waits }) leads (waits u m addr back (result m c f d) (record mid { exit = Waits }) refl);
    })
    on (w ∷ rest) e leads =
        let there = subst (λ (r : List ℕ). Goes u m addr back h items (taking r)) e leads in
        let less : State = record s { rest = rest } in
        let same : Matches m c addr Next less (record mid { rest = rest }) =
        record { memory = match.memory; rest = refl; output = match.output; exits = match.exits; homes = match.homes; size = match.size; slots = match.slots; back = match.back } in
        let y = shows u m c addr back g store loads over less h items f (record mid { rest = rest }) w same there in
        Goes_on refl (landed_behind u m c addr back g Next _ h y.mid items (result m c f d) y.leads (lands u m c addr back g store less y.mid f d w y.match y.there place))

  take_step : (s : State) (h : Held) (d : RPlace) → IsServed m c TakeIn → Matches m c addr Next s h → is_place_of m c d ≡ true
      → Stepped s (takes s d s.rest) h (items_of_step m c u (Take d))
  take_step s h d served match place =
      let one : ((does_of m c TakeIn).arity == 1) ≡ true = (and_parts _ _ served.fits).0 in
      let f = call_of m c TakeIn in
      let y = way_constant u m c addr back g h None (long.Word 0) (trigger_at f) match.exits in
      let x = triggers u m c addr back g s h TakeIn (constant m c None (long.Word 0) (trigger_at f)) 0 0 match served
      (λ k calm. one_word u m c addr back g k.written f.unit (does_of m c TakeIn) one) (way_loads u m c addr back g false h _ None (trigger_at f) 0 y) in
      taken s h x.mid d s.rest x.match x.match.rest place x.leads

  -- ---- the rest

  when_step : (s : State) (h : Held) (rel : Rel) (a b : RSrc) (d : RPlace) (o : RSrc) → IsServed m c (test_op u rel) → Matches m c addr Next s h → is_ready s (When rel a b d o) ≡ true → is_step_of m c (When rel a b d o) ≡ true
      → Landed u m c addr back g Next (carries u s (When rel a b d o)) h (items_of_step m c u (When rel a b d o))
  when_step s h rel a b d o served match ready inside =
      let ra = and_parts (is_set s a) _ ready in
      let rb = and_parts (is_set s b) _ ra.1 in
      let rd = and_parts (is_set s (rsrc.At d)) _ rb.1 in
      let ia = and_parts (is_src_of m c a) _ inside in
      let ib = and_parts (is_src_of m c b) _ ia.1 in
      let id = and_parts (is_place_of m c d) _ ib.1 in
      let v = word_of_operand s a in
      let w = word_of_operand s b in
      let t = tests u m c addr back g loads store over s h rel a b v w match served (has_word s a ra.0) ia.0 (has_word s b rb.0) ib.0 in
      landed_behind u m c addr back g Next (carries u s (When rel a b d o)) h t.mid (condition m c u rel a b) (choose m c (guard_of_rel m c u rel) o d) t.leads
      (chooses u m c addr back g loads store (is_inverted rel) (holds u rel v w) s t.mid o d (word_of_operand s o) (word_of_operand s (rsrc.At d)) t.match t.guard
      (has_word s o rd.1) id.1 (has_word s (rsrc.At d) rd.0) id.0)

  save_step : (s : State) (h : Held) (slot : ℕ) → Matches m c addr Next s h → is_some s.ra ≡ true → slot < m.frame_words
      → Landed u m c addr back g Next (carries u s (SaveRa slot)) h (items_of_step m c u (SaveRa slot))
  save_step s h slot match ready low = on s.ra refl ready where
    on : (o : Option ℕ) → s.ra ≡ o → is_some o ≡ true → Landed u m c addr back g Next (record s { frame = (slot, Return (unwrap_or o 0)) ∷ s.frame }) h (items_of_step m c u (SaveRa slot))
    on None e r = absurd cc
    on (Some b) e r =
        let t = call_of m c Stf in
        let a = addresses u m c addr back g store s h slot match in
        let w = slice_index addr b in
        let y = way_carry u m c addr back g a.mid None (Port source.Ra) (trigger_at t) w a.match.exits (a.match.back b e) in
        landed_behind u m c addr back g Next _ h a.mid (address_slot m c slot) (carry m c None (Port source.Ra) (trigger_at t)) a.leads
        (stores u m c addr back g store s a.mid _ slot w (Return b) a.match a.there low refl (way_loads u m c addr back g false a.mid _ None (trigger_at t) w y))

  -- each step that reads nothing unset
  pub steps : (s : State) (h : Held) (r : RStep) → Matches m c addr Next s h → is_ready s r ≡ true → is_step_of m c r ≡ true → Served m c (op_of_step u r)
      → Stepped s (carries u s r) h (items_of_step m c u r)
  steps s h (Copy d o) match ready inside served =
      let i = and_parts (is_place_of m c d) _ inside in
      Goes_on refl (copies s h d o (word_of_operand s o) match (has_word s o ready) i.0 i.1)
  steps s h (Apply d op a b) match ready inside served =
      let r = and_parts (is_set s a) _ ready in
      let id = and_parts (is_place_of m c d) _ inside in
      let ia = and_parts (is_src_of m c a) _ id.1 in
      let f = call_of m c (Set op) in
      let x = operates u m c addr back g store loads over s h op a b (word_of_operand s a) (word_of_operand s b) match (served (Set op) refl) (has_word s a r.0) ia.0 (has_word s b r.1) ia.1 in
      Goes_on refl (landed_behind u m c addr back g Next _ h x.mid (operate m c f a b) (result m c f d) x.leads (lands u m c addr back g store s x.mid f d _ x.match x.there id.0))
  steps s h (Load d a) match ready inside served =
      let i = and_parts (is_place_of m c d) _ inside in
      Goes_on refl (load_step s h d a (word_of_operand s a) (served Ldw refl) match (has_word s a ready) i.0 i.1)
  steps s h (Take d) match ready inside served = take_step s h d (served TakeIn refl) match inside
  steps s h (Store a o) match ready inside served =
      let r = and_parts (is_set s a) _ ready in
      let i = and_parts (is_src_of m c a) _ inside in
      Goes_on refl (store_step s h a o (word_of_operand s a) (word_of_operand s o) (served Stw refl) match (has_word s a r.0) i.0 (has_word s o r.1) i.1)
  steps s h (Put o) match ready inside served = Goes_on refl (put_step s h o (word_of_operand s o) (served Out refl) match (has_word s o ready) inside)
  steps s h (When rel a b d o) match ready inside served = Goes_on (same_outcome (holds u rel (word_of_operand s a) (word_of_operand s b))) (when_step s h rel a b d o (served (test_op u rel) refl) match ready inside) where
    same_outcome : (t : Bool) → (if t then puts_at s d (word_of_operand s o) else s).outcome ≡ s.outcome
    same_outcome true = refl
    same_outcome false = refl
  steps s h (SaveRa slot) match ready inside served = let low : slot < m.frame_words = grind (arith, nat_tests) in Goes_on refl (save_step s h slot match ready low)
