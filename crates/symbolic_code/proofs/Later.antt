-- Places after a reply.
use Rattle.std.proofs.Common.{ℕ, ◌≡◌, refl, ap, ap₂, sym, ◌∙◌, List, [], ◌∷◌}
use Rattle.tx_events.specs.declared.Reply.{Reply}
use Rattle.tx_events.specs.Thread.{Open}
use Rattle.tx_code.specs.Meaning.{Frame, Home, Runs, Free, Building, Flying}
use Rattle.tx_code.specs.Meaning as code
use Rattle.cpp_tree.specs.cpp_types.Typ.{Typ}
use Rattle.src_mean.specs.Linked.{Func, Program}
use Rattle.src_mean.specs.Exceptions as exceptions
use Rattle.symbolic_source.specs.Terms.{Term, Exception, made, Values}
use Rattle.symbolic_source.specs.Frames.{words_of}
use Rattle.symbolic_source.specs.Replacing.{in_terms}
use Rattle.symbolic_source.proofs.Replaced.{terms_replaced, exception_replaced}
use Rattle.symbolic_code.specs.Places.{Place, Hold, nothing, making, flying, coded, all_coded, hold_of, frame_at, replied, later, all_later, hold_later}

module _ (p : Program) (f : Func) (numbers : Typ → ℕ) (x : Values) (reply : Reply) where
  abbrev y : Values
  y = replied x reply

  pub words_later : (ws : List Term) → words_of p f y (in_terms later ws) ≡ words_of p f x ws
  words_later ws = terms_replaced p f later y ws

  caught_later : (es : List Exception) → all_coded p f numbers y (all_later es) ≡ all_coded p f numbers x es
  caught_later [] = refl
  caught_later (e ∷ es) = ap₂ (λ (u : exceptions.Exception) (v : List code.Exception). coded numbers u ∷ v) (exception_replaced p f later y e) (caught_later es)

  held_later : (h : Hold) → hold_of p f numbers y (hold_later h) ≡ hold_of p f numbers x h
  held_later nothing = refl
  held_later (making t puts) = ap (λ (u : exceptions.Exception). Building (coded numbers u)) (exception_replaced p f later y (made t puts))
  held_later (flying e) = ap (λ (u : exceptions.Exception). Flying (coded numbers u)) (exception_replaced p f later y e)

  abbrev nest : List Open → List code.Exception → code.Held → code.Nest
  nest opens caught held = record { opens = opens; caught = caught; held = held }

  module _ (home : Home) (below_frames : List Frame) where
    -- a frame of this nest and with these words, but for the values of variables
    pub frame_later : (index : ℕ) (q : Place) (opens : List Open) (words : List ℕ) (ws : List Term) → words ≡ words_of p f y ws
        → Runs (record {
          home = home;
          nest = nest opens (all_coded p f numbers x q.caught) (hold_of p f numbers x q.hold);
          index = index;
          words =
              words;
        }) below_frames
        ≡ Runs (frame_at p f numbers y home index (record { operands = ws; opens = opens; caught = all_later q.caught; hold = hold_later q.hold })) below_frames
    frame_later index q opens words ws e =
        ap₂ (λ (u : List code.Exception) (v : code.Held). Runs (record { home = home; nest = nest opens u v; index = index; words = words }) below_frames)
        (sym (caught_later q.caught)) (sym (held_later q.hold))
        ∙ ap (λ (z : List ℕ). Runs (record {
          home = home;
          nest = nest opens (all_coded p f numbers y (all_later q.caught))
              (hold_of p f numbers y (hold_later q.hold));
          index = index;
          words = z;
        }) below_frames) e
