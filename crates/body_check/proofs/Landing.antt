-- From a note along the instruction to the next notes, as moves of both threads.
use Rattle.std.proofs.Common.{ℕ, zero, suc, ℤ, ◌≡◌, ◌+◌, ◌<◌, ◌≤◌, ◌⊎◌, inl, inr, true, false, refl, ap, ap₂, sym, ◌∙◌, subst, List, [], ◌∷◌, Option, Some}
use Rattle.std.proofs.Common.{None, Result, Ok, Err, ◌^◌, ◌*◌, arith, Bool}
use Rattle.std.specs.Prelude.{nat_le}
use Rattle.std.proofs.lemmas.Bool.{true≢false, leb-true}
use Rattle.std.proofs.Math.Nat.{pow-le-pow_right}
use Rattle.tx_ints.proofs.WordLaws.{word_below}
use Rattle.tx_ints.specs.declared.kinds.ArithTrap.{ArithTrap}
use Rattle.tx_events.specs.declared.End.{End}
use Rattle.tx_events.specs.declared.End.TheVariants.{Terminate, Trapped}
use Rattle.tx_events.specs.declared.Trap.TheVariants.{BadCall, BadVirtual}
use Rattle.tx_events.specs.declared.Event.TheVariants.{Silent, Stop, Done}
use Rattle.tx_events.specs.declared.Reply.{Reply}
use Rattle.tx_events.specs.declared.Reply.TheVariants.{Nothing, Loaded, Byte, Id}
use Rattle.tx_events.specs.Thread.{Thread, Atomic, Sync, Answers, is_silent}
use Rattle.tx_events.specs.Simulation.{Path, here, step}
use Rattle.lockstep.specs.Moves.{Ranked, Meeting, Move, strides, waits, leads}
use Rattle.tx_code.specs.Meaning.{Names, Home, Frame, Runs, Unwinds, Act, Does, Ends, if_some, Free, Building, Flying, step_act, event_of, state_after, thread}
use Rattle.tx_code.specs.Meaning as code
use Rattle.cpp_tree.specs.cpp_types.Typ.{Typ}
use Rattle.src_mean.specs.Linked.{Func, Program}
use Rattle.src_mean.specs.Exceptions as exceptions
use Rattle.src_mean.specs.Frames.{State}
use Rattle.src_mean.specs.Frames as frames
use Rattle.src_mean.specs.Source.{source, leave, rethrow, applied, reply_word, thread_signature}
use Rattle.symbolic_source.specs.Terms.{variable, Exception, unknown, made, Values, eval, exception_of}
use Rattle.symbolic_source.specs.Frames.{Waiting as Waits, Frame as Form, Replied, words_of, below, here_of, throws, returns, breaks, continues}
use Rattle.symbolic_source.specs.Outcomes.{Doing, silent, reads, writes, puts_out, takes_in, joins, spawns_thread, begins_atomic, begins_sync, ends_block}
use Rattle.symbolic_source.specs.Outcomes.{leaves_block, Outcome, goes, Shows}
use Rattle.symbolic_source.specs.Outcomes as outcomes
use Rattle.symbolic_source.specs.Steps.{advanced, Answers as Caught, left, given}
use Rattle.symbolic_source.proofs.Shown.{left_shown}
use Rattle.symbolic_code.specs.Facts.{Fact, not_zero, has_function, AllHold, in_facts}
use Rattle.symbolic_code.proofs.Facts.{facts_replaced, facts_placed, all_among, settled_shown}
use Rattle.std.specs.Option.{option_map}
use Rattle.symbolic_source.specs.Small.{IsSmall, AreWords, AreRight}
use Rattle.symbolic_source.specs.Replacing.{Replacing, seen_by, in_terms, in_doing, in_waitings, in_frames}
use Rattle.symbolic_source.proofs.TermLemmas.{term_below}
use Rattle.symbolic_source.proofs.Advance.{advance, replied as value_after}
use Rattle.symbolic_source.proofs.Replaced.{terms_replaced, here_replaced, frames_replaced, exception_replaced, outcome_replaced, outcome_placed}
use Rattle.symbolic_code.specs.Places.{Place, Hold, nothing, making, flying, coded, all_coded, hold_of, frame_at, replied, later}
use Rattle.symbolic_code.specs.Following.{Next, refused, quietly, either_way, unless_trap, loudly, throwing, finding, starting, rethrowing, ends, Follows, Loud}
use Rattle.body_check.specs.Notes.{Note, Bounds, in_caught, in_hold, in_place, rising, is_loud, no_answers, Lands, LandsEqually, Flies, Fits, IsThrown}
use Rattle.body_check.specs.Linked.{Held, Based, Stands, Stopped, Finished}

-- paths one behind the other
pub joined : {S : Type 0} (a : Thread S) {m n : ℕ} {s t u : S} → Path a m s t → Path a n t u → Path a (m + n) s u
joined a {n} {s} {u} here w = subst (λ z. Path a z s u) (none n) w
  where
    none : (n : ℕ) → n ≡ 0 + n
    none n = omega arith
joined a {n} {s} {u} (step {n = m} e v) w = subst (λ z. Path a z s u) (turned m n) (step e (joined a v w))
  where
    turned : (m n : ℕ) → m + n + 1 ≡ m + 1 + n
    turned m n = omega arith

-- a path of no steps
pub still : {S : Type 0} (a : Thread S) {n : ℕ} {s t : S} → Path a n s t → n ≡ 0 → s ≡ t
still a here e = refl
still a (step {n = m} i w) e = absurd (none m e)
  where
    none : (m : ℕ) → m + 1 ≡ 0 → ⊥
    none m e = omega (arith, e)

pub either_zero : (n : ℕ) {A : Type 0} → (n ≡ 0 → A) → ((n ≡ 0 → ⊥) → A) → A
either_zero zero g h = g refl
either_zero (suc n) g h = h (λ e. omega (arith, e))

pub either_result : (r : Result ℤ ArithTrap) {A : Type 0} → ((v : ℤ) → r ≡ Ok v → A) → ((trap : ArithTrap) → r ≡ Err trap → A) → A
either_result (Ok v) g h = g v refl
either_result (Err trap) g h = h trap refl

module _ (p : Program) (f : Func) (numbers : Typ → ℕ) (r : Replacing) (x : Values) where
  caught_replaced : (es : List Exception) → all_coded p f numbers x (in_caught r es) ≡ all_coded p f numbers (seen_by p f r x) es
  caught_replaced [] = refl
  caught_replaced (e ∷ es) = ap₂ (λ (u : exceptions.Exception) (v : List code.Exception). coded numbers u ∷ v) (exception_replaced p f r x e)
      (caught_replaced es)

  held_replaced : (h : Hold) → hold_of p f numbers x (in_hold r h) ≡ hold_of p f numbers (seen_by p f r x) h
  held_replaced nothing = refl
  held_replaced (making t puts) = ap (λ (u : exceptions.Exception). Building (coded numbers u)) (exception_replaced p f r x (made t puts))
  held_replaced (flying e) = ap (λ (u : exceptions.Exception). Flying (coded numbers u)) (exception_replaced p f r x e)

  pub frame_replaced : (home : Home) (index : ℕ) (q : Place)
      → frame_at p f numbers x home index (in_place r q) ≡ frame_at p f numbers (seen_by p f r x) home index q
  frame_replaced home index q =
      ap₂ (λ (u : List code.Exception) (v : code.Held).
      record { home = home; nest = record { opens = q.opens; caught = u; held = v }; index = index; words = words_of p f x (in_terms r q.operands) })
      (caught_replaced q.caught) (held_replaced q.hold)
      ∙ ap (λ (z : List ℕ). record {
        home = home;
        nest =
            record { opens = q.opens; caught = all_coded p f numbers (seen_by p f r x) q.caught; held = hold_of p f numbers (seen_by p f r x) q.hold };
        index =
            index;
        words = z;
      }) (terms_replaced p f r x q.operands)

-- what lands by the test does so whatever the words are
module _ (p : Program) (f : Func) (b : Bounds) (notes : List Note) (thrown : Typ → Bool) where
  abbrev pub equally : {known : List Fact} {answers : Caught} {index : ℕ} {q : Place} {o : Outcome} → LandsEqually p f b notes thrown known answers index q o
      → Lands p f b notes thrown known answers index q o
  equally {known} {answers} {index} {q} {o} e = record {
    at = e.at;
    note = e.note;
    is = e.is;
    there = e.there;
    lag = e.lag;
    terms = e.terms;
    types = e.types;
    same_place = λ x bounded holds numbers home. ap (λ (z : Place). frame_at p f numbers x home index z) (sym e.same_place)
        ∙ frame_replaced p f numbers e.terms x home index e.note.place;
    same_facts = λ x bounded holds. facts_replaced p f e.terms x e.note.facts (all_among p f x (in_facts e.terms e.note.facts) known e.same_facts holds);
    same_outcome = λ x bounded holds rest s shows. outcome_replaced p f e.terms x rest e.note.outcome s
        (subst (λ z. Shows p f x rest z s) (sym e.same_outcome) (settled_shown p f x rest s known (advanced p f answers e.lag o) holds shows));
    foreseen = e.foreseen;
    low = e.low;
  }

-- an exception is of a type that is thrown
pub type_right : (p : Program) (f : Func) (thrown : Typ → Bool) (x : Values) → ((n : ℕ) → thrown (x.exception n).typ ≡ true) → (e : Exception)
    → IsThrown thrown e → thrown (exception_of p f x e).typ ≡ true
type_right p f thrown x right (unknown n) h = right n
type_right p f thrown x right (made t puts) h = h

-- nothing is answered
pub none_right : (p : Program) (x : Values) → AreRight p x no_answers
none_right p x n handler answer e = absurd cc

loud_event : (p : Program) (f : Func) (x : Values) (doing : Doing) → is_loud doing ≡ true → is_silent (outcomes.event_of p f x doing) ≡ false
loud_event p f x silent h = absurd (true≢false (sym h))
loud_event p f x (reads a n v) h = refl
loud_event p f x (writes a k w v) h = refl
loud_event p f x (puts_out b) h = refl
loud_event p f x takes_in h = refl
loud_event p f x (joins i) h = refl
loud_event p f x (spawns_thread n a) h = refl
loud_event p f x (begins_atomic k) h = refl
loud_event p f x begins_sync h = refl
loud_event p f x (ends_block (Atomic k)) h = refl
loud_event p f x (ends_block Sync) h = refl
loud_event p f x (leaves_block Sync exit) h = refl
loud_event p f x (leaves_block (Atomic k) (throws e)) h = refl
loud_event p f x (leaves_block (Atomic k) (returns w)) h = refl
loud_event p f x (leaves_block (Atomic k) breaks) h = refl
loud_event p f x (leaves_block (Atomic k) continues) h = refl

narrow : (size value : ℕ) → nat_le size 8 ≡ true → value < 2 ^ (8 * size) → value < 2 ^ 64
narrow size value e h =
    let more = pow-le-pow_right {n = 2} (omega arith) (eight size (leb-true size 8 e)) in
    omega (arith, h, more)
  where
    eight : (n : ℕ) → n ≤ 8 → 8 * n ≤ 64
    eight n h = omega (arith, h)

-- the word of a reply
reply_small : (p : Program) (f : Func) (x : Values) (doing : Doing) (reply : Reply) → is_loud doing ≡ true → Answers (outcomes.event_of p f x doing) reply
    → reply_word reply < 2 ^ 64
reply_small p f x (reads a n v) (Loaded w) h g = narrow n w h g
reply_small p f x (reads a n v) Nothing h g = absurd g
reply_small p f x (reads a n v) (Byte z) h g = absurd g
reply_small p f x (reads a n v) (Id z) h g = absurd g
reply_small p f x doing Nothing h g = omega arith
reply_small p f x doing (Byte z) h g = word_below z
reply_small p f x doing (Id z) h g = word_below z
reply_small p f x silent (Loaded w) h g = absurd cc
reply_small p f x (writes a k u v) (Loaded w) h g = absurd cc
reply_small p f x (puts_out b) (Loaded w) h g = absurd cc
reply_small p f x takes_in (Loaded w) h g = absurd g
reply_small p f x (joins i) (Loaded w) h g = absurd cc
reply_small p f x (spawns_thread n a) (Loaded w) h g = absurd g
reply_small p f x (begins_atomic k) (Loaded w) h g = absurd cc
reply_small p f x begins_sync (Loaded w) h g = absurd cc
reply_small p f x (ends_block (Atomic k)) (Loaded w) h g = absurd cc
reply_small p f x (ends_block Sync) (Loaded w) h g = absurd cc
reply_small p f x (leaves_block Sync exit) (Loaded w) h g = absurd cc
reply_small p f x (leaves_block (Atomic k) (throws e)) (Loaded w) h g = absurd cc
reply_small p f x (leaves_block (Atomic k) (returns u)) (Loaded w) h g = absurd cc
reply_small p f x (leaves_block (Atomic k) breaks) (Loaded w) h g = absurd cc
reply_small p f x (leaves_block (Atomic k) continues) (Loaded w) h g = absurd cc

module _ (p : Program) (names : Names) (b : Bounds) (Related : ℕ → State → code.State → Type 0)
    (stops : (s : State) (c : code.State) → Stopped names s c → Related 0 s c) where
  -- both stop
  stopped_after : (end : End) (t : State) (c : code.State) (reply : Reply) → outcomes.Stops end t → step_act names c ≡ Ends (Stop end)
      → Stopped names ((source p).after t reply) ((thread names).after c reply)
  stopped_after end t c reply g e = record {
    end = end;
    here = g.here;
    others = g.others;
    first = ap (λ (z : State). (source p).after z reply) g.is;
    second = subst (λ z. step_act names z ≡ Ends (Stop end)) (ap (λ z. state_after c z reply) (sym e)) e;
  }

  pub stop_meets : (end : End) (t : State) (c : code.State) → outcomes.Stops end t → step_act names c ≡ Ends (Stop end)
      → Meeting (source p) (thread names) b.most Related t c
  stop_meets end t c g e = record {
    loud = ap (λ (z : State). is_silent z.event) g.is;
    same = ap event_of e ∙ sym (ap (λ (z : State). z.event) g.is);
    on = λ reply fits. record {
      rank = 0;
      low = omega arith;
      related = stops ((source p).after t reply) ((thread names).after c reply)
          (stopped_after end t c reply g e);
    };
  }

-- a thread other than main's has ended
pub ended_meets : (p : Program) (names : Names) (b : Bounds) (Related : ℕ → State → code.State → Type 0)
    (both : (s : State) (c : code.State) → Finished names s c → Related 0 s c) (s : State) (c : code.State) → Finished names s c
    → Meeting (source p) (thread names) b.most Related s c
ended_meets p names b Related both s c z = record {
  loud = ap (λ (y : State). is_silent y.event) z.first;
  same = ap event_of z.second ∙ sym (ap (λ (y : State). y.event) z.first);
  on = λ reply fits. record {
    rank = 0;
    low = omega arith;
    related = both ((source p).after s reply) ((thread names).after c reply) (record {
      here = z.here;
      others = z.others;
      first = ap (λ (y : State). (source p).after y reply) z.first;
      second = subst (λ y. step_act names y ≡ Ends Done) (ap (λ y. state_after c y reply) (sym z.second)) z.second;
    });
  };
}

module _ (p : Program) (names : Names) (numbers : Typ → ℕ) (h : Held) (b : Bounds) (thrown : Typ → Bool) (home : Home) (limit : ℕ) (rest : List frames.Frame)
    (below_frames : List Frame) (small : IsSmall p)
    (Related : ℕ → State → code.State → Type 0)
    (stands : (rank : ℕ) (s : State) (top : Frame) → Stands p numbers thrown h home limit rest rank s top → Related rank s (Runs top below_frames))
    (stops : (s : State) (c : code.State) → Stopped names s c → Related 0 s c)
    (flies : (s : State) (x : Values) → AreWords x → Based thrown home limit x → (known : List Fact) → AllHold p h.func x known
    → (index : ℕ) (q : Place) (e : Exception) (o : Outcome) → (t : Flies p h.func b h.notes thrown numbers h.rows known index q e o)
    → thrown (exception_of p h.func x e).typ ≡ true → Shows p h.func x rest o s
    → Related t.rank s (Unwinds (coded numbers (exception_of p h.func x e)) (frame_at p h.func numbers x home index q) below_frames))
    (current : code.current below_frames ≡ option_map (coded numbers) (frames.handled rest))
    (current_type : (e : exceptions.Exception) → frames.handled rest ≡ Some e → thrown e.typ ≡ true) where
  abbrev Moves : ℕ → State → code.State → Type 0
  Moves rank s c = Move (source p) (thread names) b.most b.longest Related rank s c

  -- where a way has led
  pub record Landed (lag rank : ℕ) (s : State) (top : Frame) : Type 0 where
    pub to : State
    pub path : Path (source p) lag s to
    pub related : Related rank to (Runs top below_frames)

  pub landed : (x : Values) (bounded : AreWords x) (based : Based thrown home limit x) (known : List Fact) (holds : AllHold p h.func x known) (answers : Caught)
      (right : AreRight p x answers) (index : ℕ) (q : Place) (o : Outcome) (s : State) (l : Lands p h.func b h.notes thrown known answers index q o)
      → Shows p h.func x rest o s → Landed l.lag l.note.rank s (frame_at p h.func numbers x home index q)
  landed x bounded based known holds answers right index q o s l g =
      let a = advance p h.func x answers rest small bounded right l.lag o s g l.foreseen in
      record {
        to = a.to;
        path = subst (λ z. Path (source p) z s a.to) a.long a.path;
        related = stands l.note.rank a.to (frame_at p h.func numbers x home index q) (record {
          values = seen_by p h.func l.terms x;
          are_words = λ n. term_below p h.func x bounded (l.terms.word n);
          based = (based.0, based.1, λ n. type_right p h.func thrown x based.2 (l.terms.exception n) (l.types n));
          at = l.at;
          note = l.note;
          is = l.is;
          ranked = refl;
          holds = l.same_facts x bounded holds;
          frame = l.same_place x bounded holds numbers home
              ∙ ap (λ (y : ℕ). frame_at p h.func numbers (seen_by p h.func l.terms x) home y l.note.place) (sym l.there);
          shows = l.same_outcome x bounded holds rest a.to a.shows;
        });
      }

  silent_next : (c d : code.State) → step_act names c ≡ code.goes d → (thread names).next c ≡ Silent
  silent_next c d e = ap event_of e

  silent_after : (c d : code.State) → step_act names c ≡ code.goes d → d ≡ (thread names).after c Nothing
  silent_after c d e = ap (λ z. state_after c z Nothing) (sym e)

  -- a silent step of the code, behind and before silent steps of the source
  pub strode : (lead lag rank after : ℕ) (s t u : State) (c d : code.State) → Path (source p) lead s t → Path (source p) lag t u
      → step_act names c ≡ code.goes d → lead + lag ≤ b.longest → after ≤ b.most
      → Related after u d → (1 ≤ lead + lag) ⊎ (after + 1 ≤ rank) → Moves rank s c
  strode lead lag rank after s t u c d v w e short low related g = by_steps (lead + lag) refl
    where
      stays : (1 ≤ lead + lag) ⊎ (after + 1 ≤ rank) → lead + lag ≡ 0 → after + 1 ≤ rank
      stays (inl m) i = absurd (omega (arith, m, i))
      stays (inr m) i = m

      by_steps : (n : ℕ) → lead + lag ≡ n → Moves rank s c
      by_steps zero i = waits (record {
        lower = after;
        falls = stays g i;
        silent = silent_next c d e;
        goes = subst (λ z. Related after s z) (silent_after c d e) (subst (λ z. Related after z d) (sym (still (source p) (joined (source p) v w) i)) related);
      })
      by_steps (suc n) i = strides (record {
        steps = n;
        few = omega (arith, i, short);
        to = u;
        path = subst (λ z. Path (source p) z s u) (next n i) (joined (source p) v w);
        silent = silent_next c d e;
        goes = record { rank = after; low = low; related = subst (λ z. Related after u z) (silent_after c d e) related };
      })
        where
          next : (n : ℕ) → lead + lag ≡ suc n → lead + lag ≡ n + 1
          next n i = omega (arith, i)

  -- after a reply
  words_after : (x : Values) (reply : Reply) → AreWords x → reply_word reply < 2 ^ 64 → AreWords (replied x reply)
  words_after x reply bounded small_reply zero = small_reply
  words_after x reply bounded small_reply (suc n) = bounded n

  foreseen_after : (x : Values) (doing : Doing) (ws : List Waits) (k : List Form) (t : State) (reply : Reply) → AreWords (replied x reply)
      → Shows p h.func x rest (goes doing ws k) t
      → Shows p h.func (replied x reply) rest (given p h.func no_answers (in_waitings later ws) (variable 0) (in_frames later k)) ((source p).after t reply)
  foreseen_after x doing ws k t reply bounded g =
      value_after p h.func (replied x reply) no_answers rest small bounded (λ n handler answer e. absurd (cc)) (in_doing later doing) (in_waitings later ws)
      (in_frames later k) t reply (variable 0)
      (outcome_placed p h.func later (replied x reply) rest (goes doing ws k) t g) refl

  replies : (x : Values) (based : Based thrown home limit x) (known : List Fact) (holds : AllHold p h.func x known) (index : ℕ) (q : Place) (o : Outcome)
      (t : State) (d : code.State) (l : Lands p h.func b h.notes thrown known no_answers index q o) → AreWords x → l.lag ≡ 0 → Shows p h.func x rest o t
      → d ≡ Runs (frame_at p h.func numbers x home index q) below_frames → Ranked b.most Related t d
  replies x based known holds index q o t d l bounded e g i =
      let r = landed x bounded based known holds no_answers (none_right p x) index q o t l g in
      record {
        rank = l.note.rank;
        low = l.low;
        related = subst (λ z. Related l.note.rank t z) (sym i)
            (subst (λ z. Related l.note.rank z (Runs (frame_at p h.func numbers x home index q) below_frames)) (sym (still (source p) r.path e)) r.related);
      }

  pub event_meets : (x : Values) (based : Based thrown home limit x) (known : List Fact) (holds : AllHold p h.func x known) (t : State) (c : code.State)
      (doing : Doing) (ws : List Waits) (k : List Form) (index : ℕ) (q : Place) → AreWords x → is_loud doing ≡ true
      → (l : Lands p h.func b h.notes thrown (in_facts later known) no_answers index q
      (given p h.func no_answers (in_waitings later ws) (variable 0) (in_frames later k))) → l.lag ≡ 0
      → Loud p h.func numbers x home rest below_frames doing index q (step_act names c) → Shows p h.func x rest (goes doing ws k) t
      → Meeting (source p) (thread names) b.most Related t c
  event_meets x based known holds t c doing ws k index q bounded loud l e a g = record {
    loud = ap (λ (z : State). is_silent z.event) g ∙ loud_event p h.func x doing loud;
    same = ap event_of a.does ∙ sym (ap (λ (z : State). z.event) g);
    on = λ reply fits.
        let fits_event = subst (λ z. Answers z reply) (ap (λ (z : State). z.event) g) fits in
        let words = words_after x reply bounded (reply_small p h.func x doing reply loud fits_event) in
        replies (replied x reply) based (in_facts later known) (facts_placed p h.func later (replied x reply) known holds) index q _ ((source p).after t reply)
        ((thread names).after c reply) l words e (foreseen_after x doing ws k t reply words g)
        (ap (λ z. state_after c z reply) a.does ∙ a.then_at reply fits_event);
  }

  -- the first unknown exception is one that comes from elsewhere
  abbrev exception_first : exceptions.Exception → (ℕ → exceptions.Exception) → ℕ → exceptions.Exception
  exception_first e others zero = e
  exception_first e others (suc n) = others n

  abbrev pub thrown_into : Values → exceptions.Exception → Values
  thrown_into x e = record { word = x.word; exception = exception_first e x.exception; base = x.base; limit = x.limit }

  first_thrown : (e : exceptions.Exception) → thrown e.typ ≡ true → (others : ℕ → exceptions.Exception) → ((n : ℕ) → thrown (others n).typ ≡ true) → (n : ℕ)
      → thrown (exception_first e others n).typ ≡ true
  first_thrown e h others right zero = h
  first_thrown e h others right (suc n) = right n

  few : (lead : ℕ) → lead ≤ b.longest → lead + 0 ≤ b.longest
  few lead h = omega (arith, h)

  moves_on : (lead rank after : ℕ) → (1 ≤ lead) ⊎ (after + 1 ≤ rank) → (1 ≤ lead + 0) ⊎ (after + 1 ≤ rank)
  moves_on lead rank after (inl h) = inl (omega (arith, h))
  moves_on lead rank after (inr h) = inr h

  -- what a caller's handler has is thrown again
  rethrown_move : (lead rank : ℕ) (x : Values) (bounded : AreWords x) (based : Based thrown home limit x) (known : List Fact) (holds : AllHold p h.func x known)
      (s t : State) (c : code.State) (ws : List Waits) (k : List Form) (index : ℕ) (q : Place)
      → Path (source p) lead s t → lead ≤ b.longest
      → (r : Flies p h.func b h.notes thrown numbers h.rows (in_facts rising known) index (in_place rising q) (unknown 0)
      (left (in_waitings rising ws) (throws (unknown 0)) (in_frames rising k))) → (1 ≤ lead) ⊎ (r.rank + 1 ≤ rank)
      → (o : Option exceptions.Exception) → ((m : exceptions.Exception) → o ≡ Some m → thrown m.typ ≡ true)
      → step_act names c ≡ if_some (option_map (coded numbers) o) (Ends (Stop Terminate))
      (λ e. code.goes (Unwinds e (frame_at p h.func numbers x home index q) below_frames))
      → t ≡ rethrow (here_of p h.func x ws) o (below p h.func x k rest) → Moves rank s c
  rethrown_move lead rank x bounded based known holds s t c ws k index q v short fits on None type e g =
      leads short v (stop_meets p names b Related stops Terminate t c (record { here = here_of p h.func x ws; others = below p h.func x k rest; is = g }) e)
  rethrown_move lead rank x bounded based known holds s t c ws k index q v short fits on (Some m) type e g =
      let y = thrown_into x m in
      let shows : Shows p h.func y rest (left (in_waitings rising ws) (throws (unknown 0)) (in_frames rising k)) t =
      subst (λ z. Shows p h.func y rest (left (in_waitings rising ws) (throws (unknown 0)) (in_frames rising k)) z)
      (sym (g ∙ ap₂ (λ a d. leave a (frames.throws m) d) (sym (here_replaced p h.func rising y rest ws)) (sym (frames_replaced p h.func rising y rest k))))
      (left_shown p h.func y rest (in_waitings rising ws) (throws (unknown 0)) (in_frames rising k)) in
      strode lead 0 rank fits.rank s t t c (Unwinds (coded numbers m) (frame_at p h.func numbers x home index q) below_frames) v here e
      (few lead short) fits.low
      (subst (λ z. Related fits.rank t (Unwinds (coded numbers m) z below_frames)) (frame_replaced p h.func numbers rising y home index q)
      (flies t y bounded (based.0, based.1, first_thrown m (type m refl) x.exception based.2) (in_facts rising known)
      (facts_placed p h.func rising y known holds) index (in_place rising q) (unknown 0)
      (left (in_waitings rising ws) (throws (unknown 0)) (in_frames rising k)) fits (type m refl) shows)) (moves_on lead rank fits.rank on)

  either_found : (o : Option ℕ) {A : Type 0} → ((n : ℕ) → o ≡ Some n → A) → (o ≡ None → A) → A
  either_found None g h = h refl
  either_found (Some n) g h = g n refl

  pub follow_move : (lead rank : ℕ) (x : Values) (bounded : AreWords x) (based : Based thrown home limit x) (known : List Fact)
      (holds : AllHold p h.func x known) (s t : State) (c : code.State) → Path (source p) lead s t → lead ≤ b.longest
      → (next : Next) → Fits p h.func b h.notes thrown numbers h.rows known lead rank next
      → Follows p h.func numbers x home rest below_frames next (step_act names c) t → Moves rank s c
  follow_move lead rank x bounded based known holds s t c v short refused fits g = absurd fits
  follow_move lead rank x bounded based known holds s t c v short (quietly index q o) fits g =
      let l = landed x bounded based known holds no_answers (none_right p x) index q o t fits.lands g.1 in
      strode lead fits.lands.lag rank fits.lands.note.rank s t l.to c
      (Runs (frame_at p h.func numbers x home index q) below_frames) v l.path g.0 fits.short fits.lands.low l.related fits.goes_on
  follow_move lead rank x bounded based known holds s t c v short (either_way w first other) fits g = either_zero (eval p h.func x w)
      (λ e. follow_move lead rank x bounded based known holds s t c v short first fits.0 (g.0 e))
      (λ e. follow_move lead rank x bounded based (not_zero w ∷ known) (e, holds) s t c v short other fits.1 (g.1 e))
  follow_move lead rank x bounded based known holds s t c v short (unless_trap op kind y z next) fits g =
      either_result (applied op kind (eval p h.func x y) (eval p h.func x z))
      (λ n e. follow_move lead rank x bounded based known holds s t c v short next fits (g.0 n e))
      (λ trap e. let w = g.1 trap e in leads short v (stop_meets p names b Related stops _ t c w.1 w.0))
  follow_move lead rank x bounded based known holds s t c v short (finding class slot w next) fits g = either_found (p.slot (eval p h.func x w) class slot)
      (λ n e. follow_move lead rank x bounded based (has_function class slot w ∷ known) ((n, e), holds) s t c v short next fits (g.0 n e))
      (λ e. let r = g.1 e in leads short v (stop_meets p names b Related stops (Trapped BadVirtual) t c r.1 r.0))
  follow_move lead rank x bounded based known holds s t c v short (loudly doing ws k index q) fits g =
      leads short v (event_meets x based known holds t c doing ws k index q bounded fits.0 fits.1 fits.2 g.0 g.1)
  follow_move lead rank x bounded based known holds s t c v short (starting address argument ws k index q) fits g =
      either_found (p.pointed (eval p h.func x address) thread_signature)
      (λ n e. let r = g.0 n e in leads short v (event_meets x based known holds t c (spawns_thread n argument) ws
      (Replied ∷ k) index q bounded refl fits.0 fits.1 r.0 r.1))
      (λ e. let r = g.1 e in leads short v (stop_meets p names b Related stops (Trapped BadCall) t c r.1 r.0))
  follow_move lead rank x bounded based known holds s t c v short (throwing e index q o) fits g =
      strode lead 0 rank fits.0.rank s t t c (Unwinds (coded numbers (exception_of p h.func x e))
      (frame_at p h.func numbers x home index q) below_frames) v here g.0 (few lead short) fits.0.low
      (flies t x bounded based known holds index q e o fits.0 (type_right p h.func thrown x based.2 e fits.1) g.1) (moves_on lead rank fits.0.rank fits.2)
  follow_move lead rank x bounded based known holds s t c v short (rethrowing ws k index q) fits g =
      rethrown_move lead rank x bounded based known holds s t c ws k index q v short fits.0 fits.1 (frames.handled rest) current_type
      (g.0 ∙ ap (λ z. if_some z (Ends (Stop Terminate)) (λ e. code.goes (Unwinds e (frame_at p h.func numbers x home index q) below_frames))) current) g.1
  follow_move lead rank x bounded based known holds s t c v short (ends end) fits g = leads short v (stop_meets p names b Related stops end t c g.1 g.0)
