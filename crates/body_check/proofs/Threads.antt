-- Checked bodies keep their events, calls and returns included.
use Rattle.std.proofs.Common.{ℕ, zero, suc, ◌≡◌, ◌+◌, ◌^◌, ◌<◌, ◌≤◌, nat_lt, ◌==◌, Bool, true, false, cond, if◌then◌else◌, refl, ap, ap₂, sym, ◌∙◌, subst, List}
use Rattle.std.proofs.Common.{[], ◌∷◌, ◌++◌, Some, arith}
use Rattle.std.specs.Prelude.{nat_le}
use Rattle.tx_ints.specs.declared.kinds.IntKind.TheVariants.{Int}
use Rattle.tx_ints.specs.Words.{value_of_word}
use Rattle.tx_events.specs.declared.End.TheVariants.{Terminate, Trapped, Exit as Exits}
use Rattle.tx_events.specs.declared.Event.TheVariants.{Silent, Stop, Done}
use Rattle.tx_events.specs.declared.Reply.TheVariants.{Nothing, Loaded}
use Rattle.tx_events.specs.declared.Trap.TheVariants.{StackOverflow}
use Rattle.tx_events.specs.Simulation.{Path, here, step}
use Rattle.lockstep.specs.Moves.{Move, strides, leads}
use Rattle.tx_code.specs.Objects.{BodyView}
use Rattle.tx_code.specs.Meaning.{Names, Home, Frame, Runs, Unwinds, Act, Ends, Lost, if_some, step_act, thread}
use Rattle.tx_code.specs.Meaning as code
use Rattle.cpp_tree.specs.cpp_types.Typ.{Typ}
use Rattle.src_mean.specs.Linked.{Func, Program}
use Rattle.src_mean.specs.Frames.{State}
use Rattle.src_mean.specs.Frames as frames
use Rattle.src_mean.specs.Exceptions as exceptions
use Rattle.src_mean.specs.Source.{source as thread_of, enter, halt, leave, empty_stack}
use Rattle.src_mean.specs.Source as source
use Rattle.symbolic_source.specs.Terms.{Term, Exception, number, variable, unknown, Values, eval, exception_of}
use Rattle.symbolic_source.specs.Frames.{Waiting as Kept, Frame as Form, value, throws, Passes, Then, Gives, words_of, below, here_of}
use Rattle.symbolic_source.specs.Outcomes.{silent, Outcome, goes, Shows}
use Rattle.symbolic_source.specs.Steps.{left, advanced}
use Rattle.symbolic_source.specs.Small.{IsSmall, AreWords, Advanced, is_stuck}
use Rattle.symbolic_source.specs.Replacing.{in_terms, in_waitings, in_frames}
use Rattle.symbolic_source.proofs.TermLemmas.{term_below}
use Rattle.symbolic_source.proofs.Advance.{advance}
use Rattle.symbolic_source.proofs.Shown.{left_shown}
use Rattle.symbolic_source.proofs.Replaced.{here_replaced, frames_replaced}
use Rattle.symbolic_code.specs.Places.{Place, coded, all_coded, frame_at, replied, later, with_operands, place_later}
use Rattle.symbolic_code.proofs.Later.{words_later, frame_later}
use Rattle.body_check.specs.Notes.{Bounds, Flies, in_place, rising, no_answers, variables}
use Rattle.body_check.specs.Linked.{Held, Based, Stands}
use Rattle.std.specs.Option.{option_map}
use Rattle.tx_events.specs.Thread.{Open, no_atomic}
use Rattle.symbolic_source.proofs.Below.{blocks_below, or_callers, handled_below}
use Rattle.symbolic_code.specs.Facts.{Fact, AllHold, in_facts}
use Rattle.symbolic_code.proofs.Facts.{facts_placed}
use Rattle.body_check.specs.Calls.{Book, bare, Hands, by_end, by_return, first_of, Behind, Entry, Links, AllThrown}
use Rattle.body_check.specs.Threads.{home_of, limit, Waits, waiting_frame, Covered, Callers, nobody, waits_for, Together, running, flies, stopped, finished}
use Rattle.body_check.proofs.Landing.{joined, none_right, landed, frame_replaced, stop_meets, ended_meets, type_right}
use Rattle.body_check.proofs.Calls.{count_of, fits_or_not, values_in, new_variables, entered, new_words}

module _ (p : Program) (names : Names) (b : Bounds) (book : Book) (id : ℕ) (links : Links p names b book) (small : IsSmall p) where
  abbrev numbers : Typ → ℕ
  numbers = book.numbers

  abbrev pub Pairs : ℕ → State → code.State → Type 0
  Pairs rank s c = Together p names b book id rank s c

  abbrev pub Moves : ℕ → State → code.State → Type 0
  Moves rank s c = Move (thread_of p) (thread names) b.most b.longest Pairs rank s c

  abbrev pub held : ℕ → Bool → Held
  held n safe = book.held n safe

  abbrev pub end_of : ℕ
  end_of = limit p names b book id

  -- a silent step of the code, beside one or more of the source
  both_go : (steps rank after : ℕ) (s u : State) (c d : code.State) → Path (thread_of p) steps s u → 1 ≤ steps → steps ≤ b.longest
      → step_act names c ≡ code.goes d → after ≤ b.most → Pairs after u d → Moves rank s c
  both_go zero rank after s u c d v some few e low related = absurd (omega (arith, some))
  both_go (suc n) rank after s u c d v some few e low related = strides (record {
    steps = n;
    few = omega (arith, few);
    to = u;
    path = subst (λ z. Path (thread_of p) z s u) (next n) v;
    silent = ap code.event_of e;
    goes = record { rank = after; low = low; related = subst (λ z. Pairs after u z) (ap (λ z. code.state_after c z Nothing) (sym e)) related };
  })
    where
      next : (n : ℕ) → suc n ≡ n + 1
      next n = omega arith

  -- ---- a call

  -- the callee's frame, where it is entered
  module _ (n : ℕ) (safe : Bool) (base : ℕ) (x : Values) (bounded : AreWords x) (based : Based book.thrown (home_of id n safe base) end_of x) (index : ℕ)
      (q : Place) (fs : List Frame) (rest : List frames.Frame)
      (m : ℕ) (into : Bool) (body : BodyView) (there : names.body m into ≡ Some body) (own : BodyView) (own_there : names.body n safe ≡ Some own)
      (words under : List Term) (ws : List Kept) (k : List Form) (counted : count_of words ≡ book.takes m) (facts : List Fact)
      (holds : AllHold p (held n safe).func x facts)
      (behind : Behind p b book (book.gives m) (held m into).func.stops (held n safe) facts index q under ws k) (covered : Covered p names b book id safe fs)
      (covers_callee : into ≡ true → no_atomic (q.opens ++ code.blocks_in fs) ≡ false)
      (callers : Callers p names b book id (book.gives n) (held n safe).func.stops fs rest) where
    abbrev f : Func
    f = (held n safe).func

    abbrev g : Func
    g = (held m into).func

    abbrev waiting : Waits p names b book id (book.gives m) (held m into).func.stops n safe base
    waiting = record {
      body = own;
      there = own_there;
      values = x;
      are_words = bounded;
      based = based;
      index = index;
      place = q;
      facts = facts;
      holds = holds;
      under = under;
      temporaries = ws;
      others = k;
      behind = behind;
    }

    abbrev new : Values
    new = values_in x (words_of p f x words) (x.base + f.size)

    abbrev called : List frames.Frame
    called = frames.Called (here_of p f x ws) g.stops ∷ below p f x k rest

    entry : Entry p b book (held m into)
    entry = (links.checked m into body there).entry

    -- where the source has got to one step on
    first : State
    first = frames.at Silent (source.inside (here_of p f x ws) g) (frames.Passes (words_of p f x words) g.words ∷ frames.Then frames.value g.body ∷ called)

    start : Outcome
    start = goes silent [] (Passes (variables 0 (book.takes m)) g.words ∷ Then value g.body ∷ [])

    foreseen_at_entry : entry.note.outcome ≡ advanced p g no_answers 1 start
    unfolding start
    foreseen_at_entry = entry.outcome_is ∙ ap (λ z. advanced p g no_answers 1
        (goes silent [] (Passes (variables 0 (book.takes z)) g.words ∷ Then value g.body ∷ []))) (links.numbers m into)

    begun : Advanced p g new no_answers called 1 start first
    unfolding first start
    begun = advance p g new no_answers called small (new_words p small f g x bounded ws k rest words) (none_right p new) 1
        (goes silent [] (Passes (variables 0 (book.takes m)) g.words ∷ Then value g.body ∷ []))
        (frames.at Silent (source.inside (here_of p f x ws) g) (frames.Passes (words_of p f x words) g.words ∷ frames.Then frames.value g.body ∷ called))
        (entered p small f g x bounded ws k rest words (book.takes m) counted) (ap is_stuck (sym foreseen_at_entry) ∙ entry.foreseen)

    new_frame : Frame
    new_frame = code.first_frame (home_of id m into (base + names.frame n)) (words_of p f x words)

    stands_there : Stands p numbers book.thrown (held m into) (home_of id m into (base + names.frame n)) end_of called entry.note.rank begun.to new_frame
    unfolding start new_frame
    stands_there = record {
      values = new;
      are_words = new_words p small f g x bounded ws k rest words;
      based = (ap₂ (λ u v. u + v) based.0 (links.frames n safe), based.1, based.2);
      at = 0;
      note = entry.note;
      is = entry.is;
      ranked = refl;
      holds = subst (λ z. AllHold p g new z) (sym entry.facts_are) tt;
      frame = ap (λ (z : List ℕ). code.first_frame (home_of id m into (base + names.frame n)) z)
          (sym (new_variables p small f g x bounded ws k rest words (book.takes m) counted))
          ∙ (ap (λ z. frame_at p g numbers new (home_of id m into (base + names.frame n)) 0 (bare (book.takes z))) (sym (links.numbers m into))
          ∙ ap (λ (z : Place). frame_at p g numbers new (home_of id m into (base + names.frame n)) 0 z) (sym entry.place_is)
          ∙ ap (λ z. frame_at p g numbers new (home_of id m into (base + names.frame n)) z entry.note.place) (sym entry.first));
      shows = subst (λ z. Shows p g new called z begun.to) (sym foreseen_at_entry) begun.shows;
    }

    goes_in : Pairs entry.note.rank begun.to (Runs new_frame (waiting_frame p names b book id (book.gives m) (held m into).func.stops n safe base waiting ∷ fs))
    goes_in = running m into (base + names.frame n) (record {
      body = body;
      there = there;
      rest = called;
      callers =
          waits_for n safe base waiting covered callers;
      covered = covers_callee;
      stands = stands_there;
    })

    abbrev under_frame : Frame
    under_frame = frame_at p f numbers x (home_of id n safe base) index (with_operands q under)

    fits_same : code.fits names (home_of id m into (base + names.frame n)) ≡ nat_le (x.base + f.size + g.size) x.limit
    fits_same = ap₂ (λ u v. nat_le u v) (ap₂ (λ u v. u + v) (ap₂ (λ u v. u + v) based.0 (links.frames n safe)) (links.frames m into)) (sym based.1)

    abbrev entering : State
    entering = enter (here_of p f x ws) (words_of p f x words) (p.func m) (below p f x k rest)

    pub call_move : (lead rank : ℕ) (s t : State) (c : code.State) → Path (thread_of p) lead s t → lead + 1 ≤ b.half
        → step_act names c ≡ code.enter_act names m into (words_of p f x words) under_frame fs → t ≡ entering → Moves rank s c
    unfolding first new_frame
    call_move lead rank s t c v short e g_is = fits_or_not (x.base + f.size + g.size) x.limit
        (λ i j. both_go (lead + begun.steps) rank entry.note.rank s begun.to c (Runs new_frame (under_frame ∷ fs))
        (joined (thread_of p) (subst (λ z. Path (thread_of p) lead s z) (g_is ∙ goes_first j) v) begun.path)
        (one lead begun.steps begun.long) (room lead begun.steps begun.long short b.both) (e ∙ enters i) entry.low goes_in)
        (λ i j. leads (less lead short b.both) v (stop_meets p names b Pairs (λ s c z. stopped z) (Trapped StackOverflow) t c
        (record { here = here_of p f x ws; others = below p f x k rest; is = g_is ∙ stops_first j }) (e ∙ overflows i)))
      where
        one : (lead n : ℕ) → n ≡ 1 → 1 ≤ lead + n
        one lead n e = omega (arith, e)

        room : (lead n : ℕ) → n ≡ 1 → lead + 1 ≤ b.half → b.half + b.half ≤ b.longest → lead + n ≤ b.longest
        room lead n e s h = omega (arith, e, s, h)

        less : (lead : ℕ) → lead + 1 ≤ b.half → b.half + b.half ≤ b.longest → lead ≤ b.longest
        less lead s h = omega (arith, s, h)

        goes_first : nat_lt x.limit (x.base + f.size + g.size) ≡ false → entering ≡ first
        goes_first j = ap (λ z. enter (here_of p f x ws) (words_of p f x words) z (below p f x k rest)) (links.funcs m into body there)
            ∙ ap (λ z. cond z (halt (here_of p f x ws) (Trapped StackOverflow) (below p f x k rest))
            (frames.at Silent (source.inside (here_of p f x ws) g)
            (frames.Passes (words_of p f x words) g.words ∷ frames.Then frames.value g.body ∷ called))) j

        stops_first : nat_lt x.limit (x.base + f.size + g.size) ≡ true → entering ≡ halt (here_of p f x ws) (Trapped StackOverflow) (below p f x k rest)
        stops_first j = ap (λ z. enter (here_of p f x ws) (words_of p f x words) z (below p f x k rest)) (links.funcs m into body there)
            ∙ ap (λ z. cond z (halt (here_of p f x ws) (Trapped StackOverflow) (below p f x k rest))
            (frames.at Silent (source.inside (here_of p f x ws) g)
            (frames.Passes (words_of p f x words) g.words ∷ frames.Then frames.value g.body ∷ called))) j

        enters : nat_le (x.base + f.size + g.size) x.limit ≡ true
            → code.enter_act names m into (words_of p f x words) under_frame fs ≡ code.goes (Runs new_frame (under_frame ∷ fs))
        enters i = ap (λ z. if z then code.goes (Runs (code.first_frame (home_of id m into (base + names.frame n)) (words_of p f x words))
            (under_frame ∷ fs)) else code.traps StackOverflow) (fits_same ∙ i)

        overflows : nat_le (x.base + f.size + g.size) x.limit ≡ false
            → code.enter_act names m into (words_of p f x words) under_frame fs ≡ Ends (Stop (Trapped StackOverflow))
        overflows i = ap (λ z. if z then code.goes (Runs (code.first_frame (home_of id m into (base + names.frame n)) (words_of p f x words))
            (under_frame ∷ fs)) else code.traps StackOverflow) (fits_same ∙ i)

  -- what is in sight below a frame

  pub callers_blocks : (gives stops : Bool) (fs : List Frame) (rest : List frames.Frame) → Callers p names b book id gives stops fs rest
      → code.blocks_in fs ≡ frames.blocks_of rest
  callers_blocks gives stops fs rest (nobody main stopping is_main) = refl
  callers_blocks gives stops fs rest (waits_for {fs = gs} {rest = more} n safe base w covered callers) =
      ap₂ (λ (u v : List Open). u ++ v) w.behind.opens (callers_blocks (book.gives n) (held n safe).func.stops gs more callers)
      ∙ sym (blocks_below p (held n safe).func w.values more w.others)

  own_first : (f : Func) (x : Values) (es : List Exception) (others : List Frame) (rest : List frames.Frame)
      → code.current others ≡ option_map (coded numbers) (frames.handled rest)
      → code.first_or (all_coded p f numbers x es) (code.current others) ≡ option_map (coded numbers) (or_callers p f x rest (first_of es))
  own_first f x [] others rest h = h
  own_first f x (e ∷ es) others rest h = refl

  pub callers_current : (gives stops : Bool) (fs : List Frame) (rest : List frames.Frame) → Callers p names b book id gives stops fs rest
      → code.current fs ≡ option_map (coded numbers) (frames.handled rest)
  callers_current gives stops fs rest (nobody main stopping is_main) = refl
  callers_current gives stops fs rest (waits_for {fs = gs} {rest = more} n safe base w covered callers) =
      own_first (held n safe).func w.values w.place.caught gs more (callers_current (book.gives n) (held n safe).func.stops gs more callers)
      ∙ (ap (λ z. option_map (coded numbers) (or_callers p (held n safe).func w.values more z)) w.behind.caught
      ∙ ap (λ z. option_map (coded numbers) z) (sym (handled_below p (held n safe).func w.values more w.others)))

  handled_type : (f : Func) (x : Values) (rest : List frames.Frame) → ((n : ℕ) → book.thrown (x.exception n).typ ≡ true)
      → ((m : exceptions.Exception) → frames.handled rest ≡ Some m → book.thrown m.typ ≡ true)
      → (es : List Exception) → AllThrown book.thrown es → (m : exceptions.Exception) → or_callers p f x rest (first_of es) ≡ Some m → book.thrown m.typ ≡ true
  handled_type f x rest right others [] h m e = others m e
  handled_type f x rest right others (g ∷ es) h m e =
      let same : exception_of p f x g ≡ m = cc in
      ap (λ (z : exceptions.Exception). book.thrown z.typ) (sym same) ∙ type_right p f book.thrown x right g h

  pub callers_type : (gives stops : Bool) (fs : List Frame) (rest : List frames.Frame) → Callers p names b book id gives stops fs rest
      → (m : exceptions.Exception) → frames.handled rest ≡ Some m → book.thrown m.typ ≡ true
  callers_type gives stops fs rest (nobody main stopping is_main) m e = absurd cc
  callers_type gives stops fs rest (waits_for {fs = gs} {rest = more} n safe base w covered callers) m e =
      handled_type (held n safe).func w.values more w.based.2
      (callers_type (book.gives n) (held n safe).func.stops gs more callers) w.place.caught w.behind.type m
      (ap (λ z. or_callers p (held n safe).func w.values more z) w.behind.caught ∙ (sym (handled_below p (held n safe).func w.values more w.others) ∙ e))

  -- ---- a return

  -- the word of a function that is done
  handed : (f : Func) (x : Values) (w : Term) (o : Outcome) (caller : frames.Here) (stops : Bool) (k : List frames.Frame) (t : State) → Hands w o
      → Shows p f x (frames.Called caller stops ∷ k) o t → t ≡ frames.at Silent caller (frames.Gives (eval p f x w) ∷ k)
  handed f x w o caller stops k t by_end h = h
  handed f x w o caller stops k t by_return h = h

  room_back : (lead lag : ℕ) → lead + 1 ≤ b.half → lag ≤ b.half → lead + lag ≤ b.longest
  room_back lead lag s h = let both = b.both in omega (arith, s, h, both)

  some_back : (lead lag : ℕ) → 1 ≤ lag → 1 ≤ lead + lag
  some_back lead lag h = omega (arith, h)

  pub stands_in : (n : ℕ) (safe : Bool) (base : ℕ) (body : BodyView) (there : names.body n safe ≡ Some body) (fs : List Frame) (rest : List frames.Frame)
      (covered : Covered p names b book id safe fs) (callers : Callers p names b book id (book.gives n) (held n safe).func.stops fs rest)
      (rank : ℕ) (s : State) (top : Frame) → Stands p numbers book.thrown (held n safe) (home_of id n safe base) end_of rest rank s top
      → Pairs rank s (Runs top fs)
  stands_in n safe base body there fs rest covered callers rank s top st =
      running n safe base (record { body = body; there = there; rest = rest; callers = callers; covered = covered; stands = st })

  pub flies_in : (n : ℕ) (safe : Bool) (base : ℕ) (body : BodyView) (there : names.body n safe ≡ Some body) (fs : List Frame) (rest : List frames.Frame)
      (covered : Covered p names b book id safe fs) (callers : Callers p names b book id (book.gives n) (held n safe).func.stops fs rest)
      (s : State) (x : Values) → AreWords x → Based book.thrown (home_of id n safe base) end_of x → (known : List Fact) → AllHold p (held n safe).func x known
      → (index : ℕ) (q : Place) (e : Exception) (o : Outcome)
      → (t : Flies p (held n safe).func b (held n safe).notes book.thrown numbers (held n safe).rows known index q e o)
      → book.thrown (exception_of p (held n safe).func x e).typ ≡ true → Shows p (held n safe).func x rest o s
      → Pairs t.rank s (Unwinds (coded numbers (exception_of p (held n safe).func x e))
      (frame_at p (held n safe).func numbers x (home_of id n safe base) index q) fs)
  flies_in n safe base body there fs rest covered callers s x bounded based facts holds index q e o fits type shows = flies n safe base (record {
    body = body;
    there = there;
    rest = rest;
    callers = callers;
    covered = covered;
    facts = facts;
    holds = holds;
    values = x;
    are_words = bounded;
    based = based;
    index = index;
    place = q;
    form = e;
    type = type;
    outcome = o;
    frame = refl;
    is = refl;
    fits = fits;
    ranked = refl;
    shows = shows;
  })

  back_with_word : (home : Home) (lead rank v : ℕ) (s t : State) (c : code.State) (n : ℕ) (safe : Bool) (base : ℕ) (stops : Bool)
      (w : Waits p names b book id true stops n safe base) (fs : List Frame) (rest : List frames.Frame) (covered : Covered p names b book id safe fs)
      → v < 2 ^ 64
      → Callers p names b book id (book.gives n) (held n safe).func.stops fs rest → Path (thread_of p) lead s t → lead + 1 ≤ b.half
      → step_act names c ≡ code.back_act home (v ∷ []) (waiting_frame p names b book id true stops n safe base w ∷ fs)
      → t ≡ frames.at Silent (here_of p (held n safe).func w.values w.temporaries) (frames.Gives v ∷ below p (held n safe).func w.values w.others rest)
      → Moves rank s c
  back_with_word home lead rank v s t c n safe base stops w fs rest covered small_word callers path short e g =
      let f = (held n safe).func in
      let y = replied w.values (Loaded v) in
      let q = place_later w.place (variable 0 ∷ in_terms later w.under) in
      let shows : Shows p f y rest (goes silent (in_waitings later w.temporaries) (Gives (variable 0) ∷ in_frames later w.others)) t =
      g ∙ ap₂ (λ a d. frames.at Silent a (frames.Gives v ∷ d)) (sym (here_replaced p f later y rest w.temporaries))
      (sym (frames_replaced p f later y rest w.others)) in
      let l = landed p names numbers (held n safe) b book.thrown (home_of id n safe base) end_of rest fs small Pairs
      (stands_in n safe base w.body w.there fs rest covered callers) (λ s c z. stopped z) (flies_in n safe base w.body w.there fs rest covered callers)
      (callers_current (book.gives n) (held n safe).func.stops fs rest callers) (callers_type (book.gives n) (held n safe).func.stops fs rest callers) y
      (words_then w.values v w.are_words small_word) w.based (in_facts later w.facts) (facts_placed p f later y w.facts w.holds) no_answers (none_right p y)
      (w.index + 1) q
      (goes silent (in_waitings later w.temporaries) (Gives (variable 0) ∷ in_frames later w.others)) t w.behind.back.lands shows in
      both_go (lead + w.behind.back.lands.lag) rank w.behind.back.lands.note.rank s l.to c
      (Runs (frame_at p f numbers y (home_of id n safe base) (w.index + 1) q) fs) (joined (thread_of p) path l.path)
      (some_back lead w.behind.back.lands.lag w.behind.back.some) (room_back lead w.behind.back.lands.lag short w.behind.back.short)
      (e ∙ ap code.goes (frame_later p f numbers w.values (Loaded v) (home_of id n safe base) fs (w.index + 1) w.place w.place.opens
      (v ∷ words_of p f w.values w.under) (variable 0 ∷ in_terms later w.under)
      (ap (λ (z : List ℕ). v ∷ z) (sym (words_later p f numbers w.values (Loaded v) w.under))))) w.behind.back.lands.low l.related
    where
      words_then : (x : Values) (v : ℕ) → AreWords x → v < 2 ^ 64 → AreWords (replied x (Loaded v))
      words_then x v bounded h zero = h
      words_then x v bounded h (suc n) = bounded n

  back_without : (home : Home) (lead rank : ℕ) (s t : State) (c : code.State) (n : ℕ) (safe : Bool) (base : ℕ) (stops : Bool)
      (w : Waits p names b book id false stops n safe base) (fs : List Frame) (rest : List frames.Frame) (covered : Covered p names b book id safe fs)
      → Callers p names b book id (book.gives n) (held n safe).func.stops fs rest → Path (thread_of p) lead s t → lead + 1 ≤ b.half
      → step_act names c ≡ code.back_act home [] (waiting_frame p names b book id false stops n safe base w ∷ fs)
      → t ≡ frames.at Silent (here_of p (held n safe).func w.values w.temporaries) (frames.Gives 0 ∷ below p (held n safe).func w.values w.others rest)
      → Moves rank s c
  back_without home lead rank s t c n safe base stops w fs rest covered callers path short e g =
      let f = (held n safe).func in
      let l = landed p names numbers (held n safe) b book.thrown (home_of id n safe base) end_of rest fs small Pairs
      (stands_in n safe base w.body w.there fs rest covered callers) (λ s c z. stopped z) (flies_in n safe base w.body w.there fs rest covered callers)
      (callers_current (book.gives n) (held n safe).func.stops fs rest callers)
      (callers_type (book.gives n) (held n safe).func.stops fs rest callers) w.values w.are_words w.based w.facts w.holds no_answers (none_right p w.values)
      (w.index + 1) (with_operands w.place w.under)
      (goes silent w.temporaries (Gives (number 0) ∷ w.others)) t w.behind.back.lands g in
      both_go (lead + w.behind.back.lands.lag) rank w.behind.back.lands.note.rank s l.to c
      (Runs (frame_at p f numbers w.values (home_of id n safe base) (w.index + 1) (with_operands w.place w.under)) fs) (joined (thread_of p) path l.path)
      (some_back lead w.behind.back.lands.lag w.behind.back.some)
      (room_back lead w.behind.back.lands.lag short w.behind.back.short) e w.behind.back.lands.low l.related

  -- the first function of a thread is done

  main_ends : (home : Home) (lead rank v : ℕ) (s t : State) (c : code.State) → home.thread ≡ id → (id == 0) ≡ true → Path (thread_of p) lead s t
      → lead + 1 ≤ b.half → step_act names c ≡ code.back_act home (v ∷ []) []
      → t ≡ frames.at Silent (empty_stack id) (frames.Gives v ∷ frames.Starts true ∷ []) → Moves rank s c
  main_ends home lead rank v s t c own main path short e g =
      leads (few lead short b.both) (joined (thread_of p) path
      (subst (λ z. Path (thread_of p) 1 z (halt (empty_stack id) (Exits (value_of_word Int v)) [])) (sym g) (step {n = 0} refl here)))
      (stop_meets p names b Pairs (λ s c z. stopped z) (Exits (value_of_word Int v)) (halt (empty_stack id) (Exits (value_of_word Int v)) []) c
      (record { here = empty_stack id; others = []; is = refl })
      (e ∙ (ap (λ z. Ends (code.finish z (value_of_word Int v))) own
      ∙ ap (λ (z : Bool). Ends (if z then Stop (Exits (value_of_word Int v)) else Done)) main)))
    where
      few : (lead : ℕ) → lead + 1 ≤ b.half → b.half + b.half ≤ b.longest → lead + 1 ≤ b.longest
      few lead s h = omega (arith, s, h)

  child_ends : (home : Home) (lead rank : ℕ) (s t : State) (c : code.State) → home.thread ≡ id → (id == 0) ≡ false → Path (thread_of p) lead s t
      → lead + 1 ≤ b.half → step_act names c ≡ code.back_act home [] []
      → t ≡ frames.at Silent (empty_stack id) (frames.Gives 0 ∷ frames.Starts false ∷ []) → Moves rank s c
  child_ends home lead rank s t c own child path short e g =
      leads (few lead short b.both) (joined (thread_of p) path
      (subst (λ z. Path (thread_of p) 1 z (frames.at Done (empty_stack id) (frames.Ended ∷ []))) (sym g) (step {n = 0} refl here)))
      (ended_meets p names b Pairs (λ s c z. finished z) (frames.at Done (empty_stack id) (frames.Ended ∷ [])) c
      (record {
        here = empty_stack id;
        others = [];
        first = refl;
        second = e
            ∙ (ap (λ z. Ends (code.finish z (code.status_of []))) own ∙ ap (λ (z : Bool). Ends (if z then Stop (Exits (code.status_of [])) else Done)) child);
      }))
    where
      few : (lead : ℕ) → lead + 1 ≤ b.half → b.half + b.half ≤ b.longest → lead + 1 ≤ b.longest
      few lead s h = omega (arith, s, h)

  pub return_word : (home : Home) (lead rank : ℕ) (f : Func) (x : Values) (bounded : AreWords x) (w : Term) (o : Outcome) (stops : Bool) (s t : State)
      (c : code.State) (fs : List Frame) (rest : List frames.Frame) → home.thread ≡ id
      → Callers p names b book id true stops fs rest → Path (thread_of p) lead s t → lead + 1 ≤ b.half
      → step_act names c ≡ code.back_act home (eval p f x w ∷ []) fs → Hands w o → Shows p f x rest o t → Moves rank s c
  return_word home lead rank f x bounded w o stops s t c fs rest own (nobody main stopping is_main) path short e hands g =
      main_ends home lead rank (eval p f x w) s t c own is_main path short e (handed f x w o _ stops _ t hands g)
  return_word home lead rank f x bounded w o stops s t c fs rest own (waits_for {fs = gs} {rest = more} n safe base z covered callers) path short e hands g =
      back_with_word home lead rank (eval p f x w) s t c n safe base stops z gs more covered (term_below p f x bounded w) callers path short e
      (handed f x w o _ stops _ t hands g)

  pub return_none : (home : Home) (lead rank : ℕ) (f : Func) (x : Values) (o : Outcome) (stops : Bool) (s t : State) (c : code.State) (fs : List Frame)
      (rest : List frames.Frame) → home.thread ≡ id
      → Callers p names b book id false stops fs rest → Path (thread_of p) lead s t → lead + 1 ≤ b.half → step_act names c ≡ code.back_act home [] fs
      → Hands (number 0) o → Shows p f x rest o t → Moves rank s c
  return_none home lead rank f x o stops s t c fs rest own (nobody main stopping is_main) path short e hands g =
      child_ends home lead rank s t c own is_main path short e (handed f x (number 0) o _ stops _ t hands g)
  return_none home lead rank f x o stops s t c fs rest own (waits_for {fs = gs} {rest = more} n safe base z covered callers) path short e hands g =
      back_without home lead rank s t c n safe base stops z gs more covered callers path short e (handed f x (number 0) o _ stops _ t hands g)

  -- ---- an exception leaves a function

  abbrev exception_first : exceptions.Exception → (ℕ → exceptions.Exception) → ℕ → exceptions.Exception
  exception_first e others zero = e
  exception_first e others (suc n) = others n

  first_thrown : (e : exceptions.Exception) → book.thrown e.typ ≡ true → (others : ℕ → exceptions.Exception) → ((n : ℕ) → book.thrown (others n).typ ≡ true)
      → (n : ℕ) → book.thrown (exception_first e others n).typ ≡ true
  first_thrown e h others right zero = h
  first_thrown e h others right (suc n) = right n

  less : (lag : ℕ) → lag + 1 ≤ b.longest → lag ≤ b.longest
  less lag h = omega (arith, h)

  -- the function lets no exception out
  terminates : (lag rank : ℕ) (s t : State) (c : code.State) (hand : frames.Here) (k : List frames.Frame) → Path (thread_of p) lag s t → lag + 1 ≤ b.longest
      → t ≡ halt hand Terminate k → step_act names c ≡ Ends (Stop Terminate) → Moves rank s c
  terminates lag rank s t c hand k path short g e = leads (less lag short) path
      (stop_meets p names b Pairs (λ s c z. stopped z) Terminate t c (record { here = hand; others = k; is = g }) e)

  -- nobody is below the first function of a thread
  thread_terminates : (lag rank : ℕ) (e : exceptions.Exception) (s t : State) (c : code.State) (main : Bool) → Path (thread_of p) lag s t → lag + 1 ≤ b.longest
      → t ≡ frames.at Silent (empty_stack id) (frames.Leaves (frames.throws e) ∷ frames.Starts main ∷ []) → step_act names c ≡ Ends (Stop Terminate)
      → Moves rank s c
  thread_terminates lag rank e s t c main path short g i =
      leads short (joined (thread_of p) path (subst (λ z. Path (thread_of p) 1 z (halt (empty_stack id) Terminate (frames.Starts main ∷ []))) (sym g)
      (step {n = 0} refl here)))
      (stop_meets p names b Pairs (λ s c z. stopped z) Terminate (halt (empty_stack id) Terminate (frames.Starts main ∷ [])) c
      (record { here = empty_stack id; others = frames.Starts main ∷ []; is = refl }) i)

  -- the exception comes to the caller
  caller_flies : (lag rank : ℕ) (e : exceptions.Exception) (type : book.thrown e.typ ≡ true) (s t : State) (c : code.State) (gives : Bool) (n : ℕ) (safe : Bool)
      (base : ℕ) (w : Waits p names b book id gives false n safe base) (fs : List Frame) (rest : List frames.Frame)
      (covered : Covered p names b book id safe fs)
      → Callers p names b book id (book.gives n) (held n safe).func.stops fs rest → Path (thread_of p) lag s t → lag + 1 ≤ b.longest
      → t ≡ frames.at Silent (here_of p (held n safe).func w.values w.temporaries)
      (frames.Leaves (frames.throws e) ∷ below p (held n safe).func w.values w.others rest)
      → step_act names c ≡ code.goes (Unwinds (coded numbers e) (waiting_frame p names b book id gives false n safe base w) fs) → Moves rank s c
  caller_flies lag rank e type s t c gives n safe base w fs rest covered callers path short g i =
      let f = (held n safe).func in
      let y : Values = record { word = w.values.word; exception = exception_first e w.values.exception; base = w.values.base; limit = w.values.limit } in
      let o = left (in_waitings rising w.temporaries) (throws (unknown 0)) (in_frames rising w.others) in
      let u = leave (here_of p f w.values w.temporaries) (frames.throws e) (below p f w.values w.others rest) in
      let shows : Shows p f y rest (left (in_waitings rising w.temporaries) (throws (unknown 0)) (in_frames rising w.others)) u =
      subst (λ z. Shows p f y rest o z) (ap₂ (λ a d. leave a (frames.throws e) d) (here_replaced p f rising y rest w.temporaries)
      (frames_replaced p f rising y rest w.others))
      (left_shown p f y rest (in_waitings rising w.temporaries) (throws (unknown 0)) (in_frames rising w.others)) in
      both_go (lag + 1) rank (w.behind.thrown refl).rank s u c (Unwinds (coded numbers e) (waiting_frame p names b book id gives false n safe base w) fs)
      (joined (thread_of p) path (subst (λ z. Path (thread_of p) 1 z u) (sym g) (step {n = 0} refl here))) (one lag) short i (w.behind.thrown refl).low
      (subst (λ z. Pairs (w.behind.thrown refl).rank u (Unwinds (coded numbers e) z fs))
      (frame_replaced p f numbers rising y (home_of id n safe base) w.index (with_operands w.place w.under))
      (flies_in n safe base w.body w.there fs rest covered callers u y w.are_words (w.based.0, w.based.1, first_thrown e type w.values.exception w.based.2)
      (in_facts rising w.facts) (facts_placed p f rising y w.facts w.holds) w.index (in_place rising (with_operands w.place w.under)) (unknown 0) o
      (w.behind.thrown refl) type shows))
    where
      one : (n : ℕ) → 1 ≤ n + 1
      one n = omega arith

  pub out_move : (home : Home) (lag rank : ℕ) (f : Func) (x : Values) (e : exceptions.Exception) (type : book.thrown e.typ ≡ true) (hand : frames.Here)
      (gives stops : Bool) (s t : State) (c : code.State) (top : Frame) (fs : List Frame) (rest : List frames.Frame) → top.home ≡ home
      → names.no_except home.func ≡ stops
      → Callers p names b book id gives stops fs rest → Path (thread_of p) lag s t → lag + 1 ≤ b.longest → t ≡ leave hand (frames.throws e) rest
      → step_act names c ≡ code.leave_act names (coded numbers e) top fs → Moves rank s c
  out_move home lag rank f x e type hand gives true s t c top fs rest own stop (nobody main stopping is_main) path short g i =
      terminates lag rank s t c hand _ path short g i
  out_move home lag rank f x e type hand gives false s t c top fs rest own stop (nobody main stopping is_main) path short g i =
      thread_terminates lag rank e s t c main path short g i
  out_move home lag rank f x e type hand gives true s t c top fs rest own stop
      (waits_for {fs = gs} {rest = more} n safe base w covered callers) path short g i =
      terminates lag rank s t c hand _ path short g (i ∙ ap
      (λ (z : Bool). if z then Ends (Stop Terminate) else code.goes
      (Unwinds (coded numbers e) (waiting_frame p names b book id gives true n safe base w) gs)) (ap (λ (z : Home). names.no_except z.func) own ∙ stop))
  out_move home lag rank f x e type hand gives false s t c top fs rest own stop
      (waits_for {fs = gs} {rest = more} n safe base w covered callers) path short g i =
      caller_flies lag rank e type s t c gives n safe base w gs more covered callers path short g
      (i ∙ ap (λ (z : Bool). if z then Ends (Stop Terminate) else code.goes
      (Unwinds (coded numbers e) (waiting_frame p names b book id gives false n safe base w) gs)) (ap (λ (z : Home). names.no_except z.func) own ∙ stop))
