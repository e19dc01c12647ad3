-- A stretch of cycles, cycle by cycle.
use Rattle.std.proofs.Common.{◌≡◌, ℕ, suc, Bool, true, false, true≢false, ◌&&◌, if◌then◌else◌, not, List, [], ◌∷◌, ◌++◌, take, refl, sym, ap, ◌∙◌, append_assoc, append-nil, subst}
use Rattle.std.specs.Prelude.{Result, Ok, Err, IsErr}
use Rattle.std.specs.Io.KnownBytes.{append_known}
use Rattle.std.proofs.lemmas.Grind.{flat_map-append}
use Rattle.tta_debug.specs.Cited.{Rose, Failed, State, Output, IsPut, IsCut, NothingOutput}
use Rattle.tta_report.proofs.Puts.{append_known-nil, append_known-twice}
use Rattle.tta_debug.specs.Debugged.{Debugged, has, is_at_stop, Said, Went, texts, is_waiting, moved, puts, rests, saying, cycles}
use Rattle.tta_debug.specs.Sessions.{Session', Follows, IsStopped, IsOver, IsMade, IsStuck, Runs}

-- the bytes of lines and of others
pub texts_both : (xs ys : List Said) → texts (xs ++ ys) ≡ texts xs ++ texts ys
texts_both xs ys = flat_map-append (λ (l : Said). l.text) xs ys

-- of `count` cycles from d on, `left` are left, from `now` on
pub record Came (input : List ℕ) (next : State → State) (stops : Debugged → Bool) (count left : ℕ) (d : Debugged) (h : Session') (old new : Output) : Type 0 where
  pub says : List Said
  pub now : Debugged
  pub follows : Follows input h now
  pub on : cycles next stops count d ≡ saying says (cycles next stops left now)
  pub put : IsPut (texts says) old new

-- none was carried out yet
pub came_first : (input : List ℕ) (next : State → State) (stops : Debugged → Bool) (count : ℕ) (d : Debugged) (h : Session') (out : Output)
    → Follows input h d → Came input next stops count count d h out out
came_first input next stops count d h out follows = record {
  says = [];
  now = d;
  follows = follows;
  on = refl;
  put = record { taken = sym (append_known-nil out.taken); faults = refl };
}

-- two texts were put one after the other
pub put_both : (xs ys : List Said) (old mid new : Output) → IsPut (texts xs) old mid → IsPut (texts ys) mid new → IsPut (texts (xs ++ ys)) old new
put_both xs ys old mid new one two = record {
  taken = two.taken ∙ ap (λ t. append_known t (texts ys)) one.taken ∙ append_known-twice old.taken (texts xs) (texts ys)
      ∙ ap (append_known old.taken) (sym (texts_both xs ys));
  faults = two.faults ∙ one.faults;
}

-- nothing was put after a text
pub put_quiet : (text : List ℕ) (old mid new : Output) → IsPut text old mid → NothingOutput mid new → IsPut text old new
put_quiet text old mid new one two = record { taken = two.taken ∙ one.taken; faults = two.faults ∙ one.faults }

-- lines before lines before others
pub saying_both : (xs ys : List Said) (w : Went) → saying xs (saying ys w) ≡ saying (xs ++ ys) w
saying_both xs ys w = ap (λ l. record w { says = l }) (sym (append_assoc xs ys w.says))

-- a cycle that is made
pub cycle_made : (input : List ℕ) (next : State → State) (stops : Debugged → Bool) (n : ℕ) (e : Debugged) (h : Session') → IsMade input next e h
    → cycles next stops (suc n) e ≡ saying (puts e (next e.state)) (if stops (moved e (next e.state)) then rests (moved e (next e.state)) false else cycles next stops n (moved e (next e.state)))
cycle_made input next stops n e h made =
    let t = moved e (next e.state) in
    let on = saying (puts e t.state) (if stops t then rests t false else cycles next stops n t) in
    ap (λ b. if not b then rests e false else (if is_waiting t.state.outcome then rests e true else on)) made.runs
    ∙ ap (λ b. if b then rests e true else on) made.goes

-- a cycle that waits
pub cycle_stuck : (input : List ℕ) (next : State → State) (stops : Debugged → Bool) (n : ℕ) (e : Debugged) (h : Session') → IsStuck input next e h
    → cycles next stops (suc n) e ≡ rests e true
cycle_stuck input next stops n e h stuck =
    let t = moved e (next e.state) in
    let on = saying (puts e t.state) (if stops t then rests t false else cycles next stops n t) in
    ap (λ b. if not b then rests e false else (if is_waiting t.state.outcome then rests e true else on)) stuck.runs
    ∙ ap (λ b. if b then rests e true else on) stuck.waits

module _ (input : List ℕ) (next : State → State) (stops : Debugged → Bool) (count : ℕ) (d : Debugged) (old : Output) where
  whole : Went
  whole = cycles next stops count d

  -- so many cycles were carried out as there are to be
  pub came_last : (h : Session') (new : Output) → Came input next stops count 0 d h old new → Runs input (cycles next stops count d) h old new (Ok false)
  came_last h new c = (
    sym (ap (λ w. w.waits) c.on),
    subst (Follows input h) (sym (ap (λ w. w.last) c.on)) c.follows,
    subst (λ l. IsPut (texts l) old new) (sym (append-nil c.says) ∙ sym (ap (λ w. w.says) c.on)) c.put,
  )

  -- the stretch ends here, after some lines
  ended : (h : Session') (new : Output) (says : List Said) (last : Debugged) (waits : Bool) → cycles next stops count d ≡ saying says (rests last waits)
      → Follows input h last → IsPut (texts says) old new → Runs input (cycles next stops count d) h old new (Ok waits)
  ended h new says last waits is follows put = (
    sym (ap (λ w. w.waits) is),
    subst (Follows input h) (sym (ap (λ w. w.last) is)) follows,
    subst (λ l. IsPut (texts l) old new) (sym (append-nil says) ∙ sym (ap (λ w. w.says) is)) put,
  )

  -- the run is over
  pub came_over : (n : ℕ) (h h' : Session') (mid new : Output) (c : Came input next stops count (suc n) d h old mid) → IsOver input next c.now h' → NothingOutput mid new
      → Runs input (cycles next stops count d) h' old new (Ok false)
  came_over n h h' mid new c over quiet =
      ended h' new c.says (moved c.now (next c.now.state)) false (c.on ∙ ap (saying c.says) (over.stays stops n)) over.follows
      (put_quiet (texts c.says) old mid new c.put quiet)

  -- a cycle waits
  pub came_stuck : (n : ℕ) (h h' : Session') (mid new : Output) (c : Came input next stops count (suc n) d h old mid) → IsStuck input next c.now h' → NothingOutput mid new
      → Runs input (cycles next stops count d) h' old new (Ok true)
  came_stuck n h h' mid new c stuck quiet =
      ended h' new c.says c.now true (c.on ∙ ap (saying c.says) (cycle_stuck input next stops n c.now h' stuck)) stuck.follows
      (put_quiet (texts c.says) old mid new c.put quiet)

  -- a cycle was made, after which the stretch stops
  pub came_stop : (n : ℕ) (h h' : Session') (mid new : Output) (c : Came input next stops count (suc n) d h old mid) → IsMade input next c.now h'
      → IsPut (texts (puts c.now (next c.now.state))) mid new → stops (moved c.now (next c.now.state)) ≡ true
      → Runs input (cycles next stops count d) h' old new (Ok false)
  came_stop n h h' mid new c made put stop =
      let t = moved c.now (next c.now.state) in
      let on = c.on ∙ ap (saying c.says) (cycle_made input next stops n c.now h' made
      ∙ ap (λ b. saying (puts c.now t.state) (if b then rests t false else cycles next stops n t)) stop)
      ∙ saying_both c.says (puts c.now t.state) (rests t false) in
      ended h' new (c.says ++ puts c.now t.state) t false on made.follows (put_both c.says (puts c.now t.state) old mid new c.put put)

  -- a cycle was made, and the stretch goes on
  pub came_on : (n : ℕ) (h h' : Session') (mid new : Output) (c : Came input next stops count (suc n) d h old mid) → IsMade input next c.now h'
      → IsPut (texts (puts c.now (next c.now.state))) mid new → stops (moved c.now (next c.now.state)) ≡ false
      → Came input next stops count n d h' old new
  came_on n h h' mid new c made put stop =
      let t = moved c.now (next c.now.state) in
      record {
        says = c.says ++ puts c.now t.state;
        now = t;
        follows = made.follows;
        on = c.on ∙ ap (saying c.says) (cycle_made input next stops n c.now h' made
            ∙ ap (λ b. saying (puts c.now t.state) (if b then rests t false else cycles next stops n t)) stop)
            ∙ saying_both c.says (puts c.now t.state) (cycles next stops n t);
        put = put_both c.says (puts c.now t.state) old mid new c.put put;
      }

  -- the put of a word has failed
  pub came_cut : (n : ℕ) (h h' : Session') (mid new : Output) (c : Came input next stops count (suc n) d h old mid) → IsMade input next c.now h'
      → (line : Said) × (puts c.now (next c.now.state) ≡ line ∷ []) × (line.at ≡ moved c.now (next c.now.state)) × IsCut line.text mid new
      → IsStopped input (cycles next stops count d).says h' old new
  came_cut n h h' mid new c made cut =
      let t = moved c.now (next c.now.state) in
      let rest = if stops t then rests t false else cycles next stops n t in
      record {
        before = c.says;
        line = cut.0;
        later = rest.says;
        parts = ap (λ w. w.says) (c.on ∙ ap (saying c.says) (cycle_made input next stops n c.now h' made))
            ∙ ap (λ l. c.says ++ (l ++ rest.says)) cut.1;
        follows = subst (Follows input h') (sym cut.2) made.follows;
        count = cut.3.count;
        taken = cut.3.taken ∙ ap (λ t. append_known t (take cut.3.count cut.0.text)) c.put.taken
            ∙ append_known-twice old.taken (texts c.says) (take cut.3.count cut.0.text);
        rose = subst (λ f. Rose f new.faults) c.put.faults cut.3.rose;
      }

-- the answer of a stretch in which a put has failed
pub runs_cut : (input : List ℕ) (w : Went) (h : Session') (old new : Output) (result : Result Bool Failed) → IsErr result
    → IsStopped input w.says h old new → Runs input w h old new result
runs_cut input w h old new (Ok v) is stopped = absurd (true≢false (sym is))
runs_cut input w h old new (Err e) is stopped = stopped

-- whether a session stands at a breakpoint
pub stops_here : (input : List ℕ) (h : Session') (d : Debugged) (to_stop result : Bool) → Follows input h d → result ≡ (to_stop && has h.stops h.held.pc)
    → (to_stop && is_at_stop d) ≡ result
stops_here input h d to_stop result f is =
    sym (is ∙ ap (λ l. to_stop && has l h.held.pc) f.stops ∙ ap (λ a. to_stop && has d.stops a) f.stands.pc)
