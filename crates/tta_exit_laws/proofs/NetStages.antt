-- What the clause of `net` says at a status is what the one stage says that can end so.
use Rattle.std.proofs.Common.{◌≡◌, ◌⊎◌, inl, inr, ℕ, Bool, true, false, List, length, Option, None, Some, refl, sym, ap, subst, ◌∙◌, ⊎_elim}
use Rattle.tta_exit_laws.specs.Cited.{Store, World, IsUntouched, Output, NothingOutput, IsPut, IsCut, Units, Core, Network, NetworkCore, joined, AreAtRest, cycles, first_states, Feeds, StepResult, HasEnded, Status, HasText, Held, ReadFails, ReadFailed, FileFails, HasMachine, RefusesMachine, IsImageFor, RefusesImage, RefusesInput, HasPair, AreLinks, RefusesLinks, cores_in, name_of, word_of, as_core, HasCores, CoreFileFails, CoreFails, CoresFail, net_text, rounds_status, HasMadeRounds}
use Rattle.tta_code.specs.Cycle.{State}
use Rattle.tta_load.specs.declared.status.Status.TheVariants as status
use Rattle.tta_load.specs.Held.{IsTooLong}
use Rattle.tta_exit_laws.specs.NetEndings.{ComeTo, least_fault, OfCore, CoreFault, CoreRefused, NetFault}
use Rattle.tta_net_command.proofs.RoundsMade.{ended_with}

-- ---- a core that is not taken

module _ (u : Units) (names : List (List ℕ)) (k : ℕ) (before after : World) where
  abbrev machine_name : List ℕ
  machine_name = name_of names k 0

  abbrev image_name : List ℕ
  image_name = name_of names k 1

  abbrev words_name : List ℕ
  words_name = name_of names k 2

  -- what holds where a core is not taken with a status
  abbrev pub CoreEndings : Status → Type 0
  CoreEndings (status.ReadFault word) = CoreFault u before.contents names (λ name. ReadFailed name before after) word k
  CoreEndings (status.TooLong word) = CoreFault u before.contents names (λ name. IsTooLong name before after) word k
  CoreEndings (status.BadCore word code) = IsUntouched before after × CoreRefused u before.contents names word code k
  CoreEndings status.NoMemory = IsUntouched before after
  CoreEndings s = ⊥

  -- a file that was not read
  unread : (name : List ℕ) (word : ℕ)
      → ((w : ℕ) → (w ≡ word) × ReadFailed name before after → CoreFault u before.contents names (λ n. ReadFailed n before after) w k)
      → ((w : ℕ) → (w ≡ word) × IsTooLong name before after → CoreFault u before.contents names (λ n. IsTooLong n before after) w k)
      → (told s : Status) → s ≡ as_core word told → ReadFails name word before after told → CoreEndings s
  unread name word failed long (status.ReadFault w) s is e = subst CoreEndings (sym is) (failed w e)
  unread name word failed long (status.TooLong w) s is e = subst CoreEndings (sym is) (long w e)
  unread name word failed long status.NoMemory s is e = subst CoreEndings (sym is) e
  unread name word failed long told s is e = absurd e

  -- a machine that is refused
  machine_refused : (told s : Status) → s ≡ as_core (word_of k 0) told
      → IsUntouched before after × HasText before.contents machine_name (λ text. RefusesMachine u text told) → CoreEndings s
  machine_refused (status.BadMachine line code) s is e = subst CoreEndings (sym is) (e.0, inl (refl, line, e.1))
  machine_refused status.NoMemory s is e = subst CoreEndings (sym is) e.0
  machine_refused told s is e = absurd e.1.is

  -- an image that is refused
  image_is_refused : (m : HasMachine u before.contents machine_name) (told s : Status) → s ≡ as_core (word_of k 1) told
      → IsUntouched before after × HasText before.contents image_name (λ bytes. RefusesImage m.value bytes told) → CoreEndings s
  image_is_refused m (status.BadImage code at bus) s is e = subst CoreEndings (sym is) (e.0, inr (inl (refl, (m, (at, bus, e.1)))))
  image_is_refused m status.NoMemory s is e = subst CoreEndings (sym is) e.0
  image_is_refused m told s is e = absurd e.1.is

  -- words of a data space that are refused
  words_are_refused : (pair : HasPair u IsImageFor before.contents machine_name image_name) (told s : Status) → s ≡ as_core (word_of k 2) told
      → IsUntouched before after × HasText before.contents words_name (λ bytes. RefusesInput pair.machine.value.machine.data_words bytes told) → CoreEndings s
  words_are_refused pair (status.BadInput line) s is e = subst CoreEndings (sym is) (e.0, inr (inr (refl, refl, (pair, (line, e.1)))))
  words_are_refused pair status.NoMemory s is e = subst CoreEndings (sym is) e.0
  words_are_refused pair told s is e = absurd e.1.is

  -- whichever file it is
  core_ends : (s : Status) → CoreFails u names k before after s → CoreEndings s
  core_ends s (inl (inl f)) =
      ⊎_elim (unread machine_name (word_of k 0) (λ w e. inl e) (λ w e. inl e) f.told s f.is) (machine_refused f.told s f.is) f.fails
  core_ends s (inl (inr (m, f))) =
      ⊎_elim (unread image_name (word_of k 1) (λ w e. inr (inl (e.0, m, e.1))) (λ w e. inr (inl (e.0, m, e.1))) f.told s f.is)
      (image_is_refused m f.told s f.is) f.fails
  core_ends s (inr (pair, f)) =
      ⊎_elim (unread words_name (word_of k 2) (λ w e. inr (inr (e.0, pair, e.1))) (λ w e. inr (inr (e.0, pair, e.1))) f.told s f.is)
      (words_are_refused pair f.told s f.is) f.fails

  -- a status that a reader has told as it is
  as_told : (Refuses : List ℕ → Status → Type 0) (name : List ℕ) (word : ℕ) (told s : Status) → s ≡ as_core word told
      → FileFails Refuses name word before after told → CoreFileFails Refuses name word before after s
  as_told Refuses name word told s is fails = record { told = told; fails = fails; is = is }

  -- a file that is at fault
  at_fault : (Fault : List ℕ → Type 0) (word : ℕ) (s : Status) → ((j : ℕ) → s ≡ as_core j s)
      → ((j : ℕ) (n : List ℕ) → (word ≡ j) × Fault n → ReadFails n j before after s)
      → CoreFault u before.contents names Fault word k → CoreFails u names k before after s
  at_fault Fault word s same at (inl e) =
      inl (inl (as_told (RefusesMachine u) machine_name (word_of k 0) s s (same (word_of k 0)) (inl (at (word_of k 0) machine_name e))))
  at_fault Fault word s same at (inr (inl e)) =
      inl (inr (e.1, as_told (RefusesImage e.1.value) image_name (word_of k 1) s s (same (word_of k 1)) (inl (at (word_of k 1) image_name (e.0, e.2)))))
  at_fault Fault word s same at (inr (inr e)) =
      inr (
        e.1,
        as_told (RefusesInput e.1.machine.value.machine.data_words) words_name (word_of k 2) s s (same (word_of k 2))
            (inl (at (word_of k 2) words_name (e.0, e.2))),
      )

  -- a file that is refused
  at_refusal : (word code : ℕ) → IsUntouched before after → CoreRefused u before.contents names word code k
      → CoreFails u names k before after (status.BadCore word code)
  at_refusal word code same (inl (at, line, e)) =
      inl (inl (as_told (RefusesMachine u) machine_name (word_of k 0) (status.BadMachine line code) (status.BadCore word code)
      (ap (λ w. status.BadCore w code) at) (inr (same, e))))
  at_refusal word code same (inr (inl (at, (m, (place, bus, e))))) =
      inl (inr (
        m,
        as_told (RefusesImage m.value) image_name (word_of k 1) (status.BadImage code place bus) (status.BadCore word code)
            (ap (λ w. status.BadCore w code) at) (inr (same, e)),
      ))
  at_refusal word code same (inr (inr (at, is, (pair, (line, e))))) =
      inr (
        pair,
        as_told (RefusesInput pair.machine.value.machine.data_words) words_name (word_of k 2) (status.BadInput line) (status.BadCore word code)
            (ap (λ w. status.BadCore w code) at ∙ ap (λ c. status.BadCore (word_of k 2) c) is) (inr (same, e)),
      )

  -- and so back
  core_ended : (s : Status) → CoreEndings s → CoreFails u names k before after s
  core_ended (status.ReadFault word) e = at_fault (λ name. ReadFailed name before after) word (status.ReadFault word) (λ j. refl) (λ j n a. a) e
  core_ended (status.TooLong word) e = at_fault (λ name. IsTooLong name before after) word (status.TooLong word) (λ j. refl) (λ j n a. a) e
  core_ended (status.BadCore word code) e = at_refusal word code e.0 e.1
  core_ended status.NoMemory e = inl (inl (as_told (RefusesMachine u) machine_name (word_of k 0) status.NoMemory status.NoMemory refl (inl e)))
  core_ended s e = absurd e

-- the same of the first of so many cores that is not taken
pub first_ends : (u : Units) (names : List (List ℕ)) (count : ℕ) (before after : World) (s : Status) → CoresFail u names count before after s
    → OfCore u before.contents names count (λ k. CoreEndings u names k before after s)
first_ends u names count before after s f =
    record { core = f.core; within = f.within; earlier = f.earlier; is = core_ends u names f.core before after s f.fails }

pub first_ended : (u : Units) (names : List (List ℕ)) (count : ℕ) (before after : World) (s : Status)
    → OfCore u before.contents names count (λ k. CoreEndings u names k before after s) → CoresFail u names count before after s
first_ended u names count before after s f =
    record { core = f.core; within = f.within; earlier = f.earlier; fails = core_ended u names f.core before after s f.is }

-- what is refused where no file was touched
pub refused_apart : {A : Type 0} (u : Units) (files : Option Store) (names : List (List ℕ)) (count : ℕ) (Is : ℕ → Type 0)
    → OfCore u files names count (λ k. A × Is k) → A × OfCore u files names count Is
refused_apart u files names count Is f = (f.is.0, record { core = f.core; within = f.within; earlier = f.earlier; is = f.is.1 })

pub refused_with : {A : Type 0} (u : Units) (files : Option Store) (names : List (List ℕ)) (count : ℕ) (Is : ℕ → Type 0)
    → A → OfCore u files names count Is → OfCore u files names count (λ k. A × Is k)
refused_with u files names count Is same f = record { core = f.core; within = f.within; earlier = f.earlier; is = (same, f.is) }

-- ---- rounds that were made

-- what the status of rounds says of them
abbrev pub RoundsEnd : (is_running : Bool) → (fault : Option (ℕ × ℕ)) → Status → Type 0
RoundsEnd is_running fault status.Ok = (is_running ≡ false) × (fault ≡ None)
RoundsEnd is_running fault (status.MachineFault code cycle) = (is_running ≡ false) × (fault ≡ Some (code, cycle))
RoundsEnd is_running fault status.Running = is_running ≡ true
RoundsEnd is_running fault s = ⊥

pub rounds_end : (is_running : Bool) (fault : Option (ℕ × ℕ)) (s : Status) → s ≡ rounds_status is_running fault → RoundsEnd is_running fault s
rounds_end true fault s is = subst (RoundsEnd true fault) (sym is) refl
rounds_end false (Some f) s is = subst (RoundsEnd false (Some f)) (sym is) (refl, refl)
rounds_end false None s is = subst (RoundsEnd false None) (sym is) (refl, refl)

module _ (u : Units) (feeds : Feeds) (cores : List Core) (memories : List (List ℕ)) (rounds : ℕ) (old new : Output) where
  abbrev net : Network State
  net = cycles u cores feeds

  abbrev Made : Status → Type 0
  Made s = HasMadeRounds u feeds cores memories rounds old new s

  abbrev Come : Bool → (List StepResult → List (NetworkCore State) → Type 0) → Type 0
  Come is_running Is = ComeTo u feeds cores memories rounds is_running Is

  -- rounds with something else that is true of them
  come : {P : List (NetworkCore State) → Type 0} (is_running at : Bool) (last : List StepResult) (Is : List StepResult → List (NetworkCore State) → Type 0)
      → (ended : HasEnded net (length cores) (joined (first_states cores memories)) rounds is_running last P) → is_running ≡ at
      → ((cs : List (NetworkCore State)) → P cs → Is last cs) → Come at Is
  come is_running at last Is ended is so =
      subst (λ (r : Bool). Come r Is) is (record { last = last; ended = ended_with ended (so _ ended.stands) })

  abbrev IsWell : List StepResult → List (NetworkCore State) → Type 0
  IsWell last cs = (least_fault last cs ≡ None) × AreAtRest net cs × IsPut (net_text cs last) old new

  pub well : Made status.Ok → Come false IsWell
  well e =
      come e.is_running false e.last IsWell e.ended (rounds_end e.is_running _ status.Ok e.ended.stands.0.0).0
      (λ cs p. ((rounds_end e.is_running (least_fault e.last cs) status.Ok p.0.0).1, p.1 refl, p.0.1))

  pub made_well : Come false IsWell → Made status.Ok
  made_well c = record {
    is_running = false;
    last = c.last;
    ended = ended_with c.ended ((sym (ap (rounds_status false) c.ended.stands.0), c.ended.stands.2), λ ok. c.ended.stands.1);
  }

  abbrev IsFault : (code cycle : ℕ) → List StepResult → List (NetworkCore State) → Type 0
  IsFault code cycle last cs = (least_fault last cs ≡ Some (code, cycle)) × IsPut (net_text cs last) old new

  pub at_a_fault : (code cycle : ℕ) → Made (status.MachineFault code cycle) → Come false (IsFault code cycle)
  at_a_fault code cycle e =
      come e.is_running false e.last (IsFault code cycle) e.ended (rounds_end e.is_running _ (status.MachineFault code cycle) e.ended.stands.0.0).0
      (λ cs p. ((rounds_end e.is_running (least_fault e.last cs) (status.MachineFault code cycle) p.0.0).1, p.0.1))

  pub made_at_fault : (code cycle : ℕ) → Come false (IsFault code cycle) → Made (status.MachineFault code cycle)
  made_at_fault code cycle c = record {
    is_running = false;
    last = c.last;
    ended = ended_with c.ended ((sym (ap (rounds_status false) c.ended.stands.0), c.ended.stands.1), λ ok. absurd cc);
  }

  abbrev IsAllPut : List StepResult → List (NetworkCore State) → Type 0
  IsAllPut last cs = IsPut (net_text cs last) old new

  pub goes_on : Made status.Running → Come true IsAllPut
  goes_on e = come e.is_running true e.last IsAllPut e.ended (rounds_end e.is_running _ status.Running e.ended.stands.0.0) (λ cs p. p.0.1)

  pub made_on : Come true IsAllPut → Made status.Running
  made_on c = record { is_running = true; last = c.last; ended = ended_with c.ended ((refl, c.ended.stands), λ ok. absurd cc) }

  abbrev IsPartPut : List StepResult → List (NetworkCore State) → Type 0
  IsPartPut last cs = IsCut (net_text cs last) old new

  pub cut : (e : Made status.WriteFault) → Come e.is_running IsPartPut
  cut e = come e.is_running e.is_running e.last IsPartPut e.ended refl (λ cs p. p.0)

  pub made_cut : (is_running : Bool) → Come is_running IsPartPut → Made status.WriteFault
  made_cut is_running c = record { is_running = is_running; last = c.last; ended = ended_with c.ended (c.ended.stands, λ ok. absurd cc) }

-- ---- the stages of a command of a net

-- How a command ends that reads the links of a net and its cores, and then does the rest.
abbrev pub NetEnds : Units → (LINKS : List ℕ) → (names : List (List ℕ)) → (before after : World) → (old new : Output) → Status
    → (Rest : Feeds → List Core → (memories : List (List ℕ)) → Type 0) → Type 0
NetEnds u LINKS names before after old new s Rest =
    let count = cores_in (length names) in
    (FileFails (RefusesLinks count) LINKS 2 before after s × NothingOutput old new)
    ⊎ ((links : Held (AreLinks count) before.contents LINKS)
    × ((CoresFail u names count before after s × NothingOutput old new)
    ⊎ ((has : HasCores u before.contents names count) × IsUntouched before after × Rest links.value has.cores has.memories)))

module _ (u : Units) (LINKS : List ℕ) (names : List (List ℕ)) (before after : World) (old new : Output) (s : Status)
    (Rest : Feeds → List Core → (memories : List (List ℕ)) → Type 0) where
  abbrev count : ℕ
  count = cores_in (length names)

  abbrev pub NetStages : (G : Type 0) → Type 0
  NetStages G =
      (ReadFails LINKS 2 before after s → NothingOutput old new → G)
      → (IsUntouched before after × HasText before.contents LINKS (λ bytes. RefusesLinks count bytes s) → NothingOutput old new → G)
      → (Held (AreLinks count) before.contents LINKS → OfCore u before.contents names count (λ k. CoreEndings u names k before after s)
      → NothingOutput old new → G)
      → ((links : Held (AreLinks count) before.contents LINKS) (has : HasCores u before.contents names count)
      → IsUntouched before after → Rest links.value has.cores has.memories → G)
      → NetEnds u LINKS names before after old new s Rest → G

  pub net_stages : (G : Type 0) → NetStages G
  net_stages G a b c d (inl (inl x, quiet)) = a x quiet
  net_stages G a b c d (inl (inr x, quiet)) = b x quiet
  net_stages G a b c d (inr (links, inl (x, quiet))) = c links (first_ends u names count before after s x) quiet
  net_stages G a b c d (inr (links, inr (has, same, x))) = d links has same x

  -- a file that is at fault
  pub net_at : (Fault : List ℕ → Type 0) (word : ℕ) → (word ≡ 2 → Fault LINKS → ReadFails LINKS 2 before after s)
      → ((k : ℕ) → CoreFault u before.contents names Fault word k → CoreEndings u names k before after s)
      → NothingOutput old new → NetFault u before.contents LINKS names Fault word → NetEnds u LINKS names before after old new s Rest
  net_at Fault word links core quiet (inl e) = inl (inl (links e.0 e.1), quiet)
  net_at Fault word links core quiet (inr e) =
      let f = e.1 in
      inr (
        e.0,
        inl (
          first_ended u names count before after s
              (record { core = f.core; within = f.within; earlier = f.earlier; is = core f.core f.is }),
          quiet,
        ),
      )
