-- When an outcome stands in the place of another: whatever it shows the other shows once the terms are seen, and after a silent step
-- both go on alike.
use Rattle.std.proofs.Common.{ℕ, ◌≡◌, ◌%◌, ◌^◌, ◌==◌, nat_lt, Bool, true, false, cond, refl, ap, ap₂, sym, ◌∙◌, subst, List, [], ◌∷◌, Option, Some, None}
use Rattle.std.proofs.lemmas.Bool.{true≢false, eqb-true}
use Rattle.cpp_tree.specs.tx_ints.declared.kinds.IntKind.{IntKind}
use Rattle.cpp_tree.specs.tx_ints.declared.kinds.BinOp.{BinOp}
use Rattle.cpp_tree.specs.Trees.{Trees, none, more}
use Rattle.src_mean.specs.Frames.{Owner, same_owner, State}
use Rattle.src_mean.specs.Frames as frames
use Rattle.src_mean.specs.Source.{applied, invoke}
use Rattle.symbolic_source.specs.Terms.{Term, number, Exception}
use Rattle.symbolic_source.specs.Frames.{Spot, Waiting, Callee, Frame, Gives, Scope, Handling, below, here_of, words_of, callee_of, put_into, behind, puts, puts_some}
use Rattle.symbolic_source.specs.Frames.{handled}
use Rattle.symbolic_source.specs.Outcomes.{Doing, silent, Outcome, stuck, goes, results, finds, calls, either, Shows, event_of}
use Rattle.symbolic_source.specs.Steps.{if_word, goes_if}
use Rattle.symbolic_instances.proofs.Forms.{Sides, seen, word, InTerm, InException, exception_in, InTerms, terms_in, terms_same, InSpot, spot_in}
use Rattle.symbolic_instances.proofs.Forms.{InWaiting, waiting_in, InWaitings, waitings_in, here_same, InCallee, callee_in, callee_same, InFrames, frames_in}
use Rattle.symbolic_instances.proofs.Forms.{frames_same, frame_in, InFrame}

module _ (z : Sides) where
  abbrev pub Shown : Outcome → State → Type 0
  Shown o s = Shows z.program z.func z.values z.callers o s

  abbrev pub ShownSeen : Outcome → State → Type 0
  ShownSeen o s = Shows z.program z.func (seen z) z.callers o s

  abbrev pub Like : Outcome → Outcome → Type 0
  Like o (goes silent ws k) = (a : InWaitings z ws) × (c : InFrames z k) × (o ≡ goes silent (waitings_in z ws a) (frames_in z k c))
  Like o q = (s : State) → Shown o s → ShownSeen q s

  pub goes_like : (doing done : Doing) (ws : List Waiting) (a : InWaitings z ws) (k : List Frame) (c : InFrames z k)
      → event_of z.program z.func z.values doing ≡ event_of z.program z.func (seen z) done
      → (s : State) → Shown (goes doing (waitings_in z ws a) (frames_in z k c)) s → ShownSeen (goes done ws k) s
  goes_like doing done ws a k c e s h = h
      ∙ (ap₂ (λ u v. frames.at (event_of z.program z.func z.values doing) u v) (here_same z ws a) (frames_same z k c)
      ∙ ap (λ i. frames.at i (here_of z.program z.func (seen z) ws) (below z.program z.func (seen z) k z.callers)) e)

  pub shown_like : (o q : Outcome) → Like o q → (s : State) → Shown o s → ShownSeen q s
  shown_like o (goes silent ws k) l s h = goes_like silent silent ws l.0 k l.1 refl s (subst (λ i. Shown i s) l.2 h)
  shown_like o q l s h = l s h

  pub calls_like : (callee : Callee) (b : InCallee z callee) (words : List Term) (d : InTerms z words) (ws : List Waiting) (a : InWaitings z ws)
      (k : List Frame) (c : InFrames z k)
      → (s : State) → Shown (calls (callee_in z callee b) (terms_in z words d) (waitings_in z ws a) (frames_in z k c)) s → ShownSeen (calls callee words ws k) s
  calls_like callee b words d ws a k c s h = h
      ∙ (ap₂ (λ u v. invoke z.program u (callee_of z.program z.func z.values (callee_in z callee b)) (words_of z.program z.func z.values (terms_in z words d)) v)
      (here_same z ws a) (frames_same z k c)
      ∙ ap₂ (λ u v. invoke z.program (here_of z.program z.func (seen z) ws) u v (below z.program z.func (seen z) k z.callers))
      (callee_same z callee b) (terms_same z words d))

  -- Decisions

  pub cond_like : (t : Bool) (o q i j : Outcome) → Like o i → Like q j → Like (cond t o q) (cond t i j)
  cond_like true o q i j l m = l
  cond_like false o q i j l m = m

  pub if_word_like : (n : ℕ) (o q : Outcome) → Like o q → Like (if_word n o) (if_word n q)
  if_word_like n o q l = cond_like (nat_lt n (2 ^ 64)) o stuck q stuck l (λ s h. tt)

  tested : (n : ℕ) (o q : Outcome) (s : State) (b : Bool) → (n == 0) ≡ b → Shown (cond b o q) s → (n ≡ 0 → Shown o s) × ((n ≡ 0 → ⊥) → Shown q s)
  tested n o q s true e h = (λ i. h, λ i. absurd (i (eqb-true n 0 e)))
  tested n o q s false e h = (λ i. absurd (true≢false (sym (ap (λ m. m == 0) i) ∙ e)), λ i. h)

  opened : (t : Term) (o q : Outcome) (s : State) → Shown (either t o q) s → (word z t ≡ 0 → Shown o s) × ((word z t ≡ 0 → ⊥) → Shown q s)
  opened (number n) o q s h = tested (n % 2 ^ 64) o q s (n % 2 ^ 64 == 0) refl h
  opened t o q s h = h

  pub either_like : (w : Term) (d : InTerm z w) (o q i j : Outcome) → Like o i → Like q j → Like (either d.term o q) (either w i j)
  either_like (number n) d o q i j l m =
      subst (λ t. Like (either t o q) (cond (n % 2 ^ 64 == 0) i j)) (sym (d.fixed n refl)) (cond_like (n % 2 ^ 64 == 0) o q i j l m)
  either_like w d o q i j l m = λ s h. (
    λ e. shown_like o i l s ((opened d.term o q s h).0 (d.same ∙ e)),
    λ e. shown_like q j m s ((opened d.term o q s h).1 (λ f. e (sym d.same ∙ f))),
  )

  pub results_like : (op : BinOp) (kind : IntKind) (a b : Term) (d : InTerm z a) (e : InTerm z b) (o q : Outcome) → Like o q
      → (s : State) → Shown (results op kind d.term e.term o) s → ShownSeen (results op kind a b q) s
  results_like op kind a b d e o q l s h = (
    λ n i. shown_like o q l s (h.0 n (ap₂ (λ u v. applied op kind u v) d.same e.same ∙ i)),
    λ trap i. h.1 trap (ap₂ (λ u v. applied op kind u v) d.same e.same ∙ i),
  )

  pub finds_like : (class slot : ℕ) (a : Term) (d : InTerm z a) (o q : Outcome) → Like o q
      → (s : State) → Shown (finds class slot d.term o) s → ShownSeen (finds class slot a q) s
  finds_like class slot a d o q l s h = (
    λ n i. shown_like o q l s (h.0 n (ap (λ u. z.program.slot u class slot) d.same ∙ i)),
    λ i. h.1 (ap (λ u. z.program.slot u class slot) d.same ∙ i),
  )

  -- Handlers

  abbrev pub InHandled : Option Exception → Type 0
  InHandled None = Unit {0}
  InHandled (Some e) = InException z e

  abbrev pub handled_in : (o : Option Exception) → InHandled o → Option Exception
  handled_in None d = None
  handled_in (Some e) d = Some (exception_in z e d)

  pub handled_like : (k : List Frame) (c : InFrames z k) → (d : InHandled (handled k)) × (handled (frames_in z k c) ≡ handled_in (handled k) d)
  handled_like [] c = (tt, refl)
  handled_like (Handling e ∷ k) c = (c.0, refl)
  handled_like (g ∷ k) c = handled_like k c.1

  -- What waits

  abbrev pub Put : Option (List Frame) → Option (List Frame) → Type 0
  Put o None = Unit {0}
  Put o (Some k) = (c : InFrames z k) × (o ≡ Some (frames_in z k c))

  behind_like : (g : Frame) (d : InFrame z g) (o q : Option (List Frame)) → Put o q → Put (behind (frame_in z g d) o) (behind g q)
  behind_like g d o None l = tt
  behind_like g d o (Some k) l = ((d, l.0), ap (λ i. behind (frame_in z g d) i) l.1)

  put_like : (t : Bool) (w : Waiting) (d : InWaiting z w) (owner : Owner) (always : Bool) (ws : List Waiting) (a : InWaitings z ws) (k : List Frame)
      (c : InFrames z k) (o q : Option (List Frame)) → Put o q
      → Put (put_into t (waiting_in z w d) owner always (waitings_in z ws a) (frames_in z k c) o) (put_into t w owner always ws k q)
  put_like true w d owner always ws a k c o q l = (((d, a), c), refl)
  put_like false w d owner always ws a k c o None l = tt
  put_like false w d owner always ws a k c o (Some i) l =
      ((a, l.0), ap (λ j. put_into false (waiting_in z w d) owner always (waitings_in z ws a) (frames_in z k c) j) l.1)

  puts_like : (owner : Owner) (w : Waiting) (d : InWaiting z w) (k : List Frame) (c : InFrames z k)
      → Put (puts owner (waiting_in z w d) (frames_in z k c)) (puts owner w k)
  puts_like owner w d [] c = tt
  puts_like owner w d (Scope o always ws ∷ k) c =
      put_like (same_owner owner o) w d o always ws c.0 k c.1 (puts owner (waiting_in z w d) (frames_in z k c.1)) (puts owner w k) (puts_like owner w d k c.1)
  puts_like owner w d (g ∷ k) c = behind_like g c.0 (puts owner (waiting_in z w d) (frames_in z k c.1)) (puts owner w k) (puts_like owner w d k c.1)

  pub puts_some_like : (owner : Owner) (address : Spot) (b : InSpot z address) (destroys : Trees) (k : List Frame) (c : InFrames z k)
      → Put (puts_some owner (spot_in z address b) destroys (frames_in z k c)) (puts_some owner address destroys k)
  puts_some_like owner address b none k c = (c, refl)
  puts_some_like owner address b (more d ds) k c = puts_like owner (record { address = address; destroys = more d ds }) b k c

  pub goes_if_like : (ws : List Waiting) (a : InWaitings z ws) (v : Term) (d : InTerm z v) (o q : Option (List Frame)) → Put o q
      → Like (goes_if (waitings_in z ws a) (behind (Gives d.term) o)) (goes_if ws (behind (Gives v) q))
  goes_if_like ws a v d o None l = λ s h. tt
  goes_if_like ws a v d o (Some k) l = (a, (d, l.0), ap (λ i. goes_if (waitings_in z ws a) (behind (Gives d.term) i)) l.1)
