-- How a thread reaches an event: silent steps, and replies.
use Rattle.std.proofs.Common.{◌≡◌, false, ap, sym, ◌∙◌, subst, List, [], ◌∷◌}
use Rattle.std.proofs.lemmas.Bool.{true≢false}
use Rattle.tx_events.specs.declared.Event.TheVariants.{Silent}
use Rattle.tx_events.specs.declared.Reply.{Reply}
use Rattle.tx_events.specs.declared.Reply.TheVariants.{Nothing}
use Rattle.tx_events.specs.Thread.{Thread, is_silent}
use Rattle.tx_events.specs.World.{SilentSteps, none, one_more}
use Rattle.tx_events.specs.Same.{Reaches, at_once, silently, answered}

module _ {S : Type 0} (a : Thread S) where
  pub reaches_more : {s q : S} {rs : List Reply} → Reaches a s rs q → a.next q ≡ Silent → Reaches a s rs (a.after q Nothing)
  reaches_more at_once e = silently e at_once
  reaches_more (silently i r) e = silently i (reaches_more r e)
  reaches_more (answered i f r) e = answered i f (reaches_more r e)

  pub silents_reach : {s q : S} → SilentSteps a s q → Reaches a s [] q
  silents_reach none = at_once
  silents_reach (one_more r e) = reaches_more (silents_reach r) e

  silents_first : {s q : S} → a.next s ≡ Silent → SilentSteps a (a.after s Nothing) q → SilentSteps a s q
  silents_first e none = one_more none e
  silents_first e (one_more r i) = one_more (silents_first e r) i

  pub reach_silents : {s q : S} {rs : List Reply} → Reaches a s rs q → rs ≡ [] → SilentSteps a s q
  reach_silents at_once e = none
  reach_silents (silently i r) e = silents_first i (reach_silents r e)
  reach_silents (answered i f r) e = absurd (cc)

  -- the silent steps before an event are the same in each run
  pub after_silents : {s q u : S} {ss rs : List Reply} → Reaches a s ss q → ss ≡ [] → is_silent (a.next q) ≡ false → Reaches a s rs u
      → is_silent (a.next u) ≡ false → Reaches a q rs u
  after_silents at_once e f h g = h
  after_silents (silently i r) e f at_once g = absurd (true≢false (sym (ap is_silent i) ∙ g))
  after_silents (silently i r) e f (silently j h) g = after_silents r e f h g
  after_silents (silently i r) e f (answered j k h) g = absurd (true≢false (sym (ap is_silent i) ∙ j))
  after_silents (answered i k r) e f h g = absurd (cc)

  pub past_silent : {s u : S} {rs : List Reply} → a.next s ≡ Silent → Reaches a s rs u → is_silent (a.next u) ≡ false → Reaches a (a.after s Nothing) rs u
  past_silent e at_once g = absurd (true≢false (sym (ap is_silent e) ∙ g))
  past_silent e (silently j h) g = h
  past_silent e (answered j k h) g = absurd (true≢false (sym (ap is_silent e) ∙ j))

  -- what follows an event that was answered
  pub after_event : {s u : S} {r : Reply} {rs ts : List Reply} → is_silent (a.next s) ≡ false → Reaches a s ts u → ts ≡ (r ∷ rs) → Reaches a (a.after s r) rs u
  after_event i at_once e = absurd (cc)
  after_event i (silently j h) e = absurd (true≢false (sym (ap is_silent j) ∙ i))
  after_event {s} {u} {r} {rs} i (answered {reply = r'} {replies = rs'} j k h) e = let p : r' ≡ r = cc in let q : rs' ≡ rs = cc in
      subst (λ z. Reaches a (a.after s r) z u) q (subst (λ z. Reaches a (a.after s z) rs' u) p h)
