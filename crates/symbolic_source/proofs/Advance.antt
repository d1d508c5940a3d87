-- So many silent steps are a path of the thread, and a reply is a value that is given.
use Rattle.std.proofs.Common.{ℕ, zero, suc, ◌≡◌, ◌+◌, true, false, refl, sym, ◌∙◌, subst, List, arith}
use Rattle.std.proofs.lemmas.Bool.{true≢false}
use Rattle.cpp_tree.specs.tx_events.declared.Event.TheVariants.{Silent}
use Rattle.cpp_tree.specs.tx_events.declared.Reply.{Reply}
use Rattle.cpp_tree.specs.tx_events.Simulation.{here, step}
use Rattle.src_mean.specs.Linked.{Func, Program}
use Rattle.src_mean.specs.Frames.{State}
use Rattle.src_mean.specs.Frames as frames
use Rattle.src_mean.specs.Source.{source, give, reply_word}
use Rattle.symbolic_source.specs.Terms.{Term, number, Values, eval}
use Rattle.symbolic_source.specs.Frames.{Waiting, Frame, below, here_of}
use Rattle.symbolic_source.specs.Outcomes.{Doing, silent, Outcome, stuck, goes, Shows}
use Rattle.symbolic_source.specs.Steps.{Answers, given, advanced}
use Rattle.symbolic_source.specs.Small.{IsSmall, AreWords, AreRight, is_stuck, Advanced}
use Rattle.symbolic_source.proofs.Given.{given_shown}

module _ (p : Program) (f : Func) (x : Values) (answers : Answers) (rest : List frames.Frame) (small : IsSmall p) (bounded : AreWords x)
    (right : AreRight p x answers) where
  abbrev Leads : ℕ → Outcome → State → Type 0
  Leads n o s = Advanced p f x answers rest n o s

  stuck_stays : (n : ℕ) → is_stuck (advanced p f answers n stuck) ≡ true
  stuck_stays zero = refl
  stuck_stays (suc n) = stuck_stays n

  one_more : (n : ℕ) (ws : List Waiting) (k : List Frame) → Leads n (given p f answers ws (number 0) k) (give p (here_of p f x ws) 0 (below p f x k rest))
      → Leads (suc n) (goes silent ws k) (frames.at Silent (here_of p f x ws) (below p f x k rest))
  one_more n ws k a = record { to = a.to; steps = a.steps + 1; long = next a.steps n a.long; path = step refl a.path; shows = a.shows }
    where
      next : (m n : ℕ) → m ≡ n → m + 1 ≡ suc n
      next m n e = omega (arith, e)

  pub advance : (n : ℕ) (o : Outcome) (s : State) → Shows p f x rest o s → is_stuck (advanced p f answers n o) ≡ false → Leads n o s
  advance zero o s h e = record { to = s; steps = 0; long = refl; path = here; shows = h }
  advance (suc n) (goes silent ws k) s h e =
      subst (λ z. Leads (suc n) (goes silent ws k) z) (sym h)
      (one_more n ws k (advance n (given p f answers ws (number 0) k) (give p (here_of p f x ws) 0 (below p f x k rest))
      (given_shown p f x answers rest small bounded right ws (number 0) k) e))
  advance (suc n) o s h e = absurd (true≢false (sym (stuck_stays n) ∙ e))

  -- the value of a reply goes on
  pub replied : (doing : Doing) (ws : List Waiting) (k : List Frame) (s : State) (reply : Reply) (v : Term) → Shows p f x rest (goes doing ws k) s
      → reply_word reply ≡ eval p f x v
      → Shows p f x rest (given p f answers ws v k) ((source p).after s reply)
  replied doing ws k s reply v h e =
      subst (λ (z : State). Shows p f x rest (given p f answers ws v k) ((source p).after z reply)) (sym h)
      (subst (λ z. Shows p f x rest (given p f answers ws v k) (give p (here_of p f x ws) z (below p f x k rest))) (sym e)
      (given_shown p f x answers rest small bounded right ws v k))
