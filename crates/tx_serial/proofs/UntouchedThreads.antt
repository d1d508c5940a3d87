-- A thread stays shown where other words change.
use Rattle.std.proofs.Common.{ℕ, ◌≡◌, ◌==◌, ◌⊎◌, inl, inr, Bool, true, false, cond, refl, ap, sym, ◌∙◌, subst, List, [], ◌∷◌, ◌++◌, Option, Some, None}
use Rattle.std.proofs.lemmas.Bool.{eqb-true, eqb-false, ne_eqb}
use Rattle.tx_events.specs.Thread.{Thread}
use Rattle.tx_events.specs.Memory.{update, MemoryLayout}
use Rattle.tx_events.specs.Alone.{newest}
use Rattle.tx_events.specs.World.{Alive, World, Lock, Step, Replays}
use Rattle.tx_serial.specs.Machine.{Local, Tx, NoTx, OpenTx, GivingUp, Closing, kept_or, oldest, held_by, wrote_by, live_in}
use Rattle.tx_serial.specs.Shows.{cancelling, LevelsAt, ShowsTx, ShowsLocal, ShowsThread}
use Rattle.tx_serial.proofs.WorldAgreement.{undoes, Going}
use Rattle.tx_events.proofs.BlockRuns.{update_same, update_elsewhere, newest_both, local}
use Rattle.tx_serial.proofs.SavepointLevels.{even_both, levels_both}

pub apart_sym : (t u : ℕ) → (u == t) ≡ false → (t == u) ≡ false
apart_sym t u h = ne_eqb t u (λ e. eqb-false u t h (sym e))

module _ {S : Type 0} (a : Thread S) (p : MemoryLayout) where
  framed_tx : (m n o q : ℕ → ℕ) (start : S) (l : Local S) (memory : (x : ℕ) → l.held x ≡ true → n x ≡ m x) (outside : (x : ℕ) → l.held x ≡ true → q x ≡ o x)
      (tx : Tx S) → ShowsTx a p m o start l tx → ShowsTx a p n q start l tx
  framed_tx m n o q start l memory outside NoTx f = f
  framed_tx m n o q start l memory outside (Closing b) f = f
  framed_tx m n o q start l memory outside (GivingUp b k ss) f = record {
    began = f.began;
    undone = λ x e. outside x e ∙ (f.undone x e ∙ ap (kept_or (oldest ss x)) (sym (memory x e)));
    unsaved = f.unsaved;
  }
  framed_tx m n o q start l memory outside (OpenTx b k ss) f =
      let run = local a p k o q f.run (λ x w. sym (outside x (sym (f.accessed x) ∙ w))) in
      record {
        began = f.began;
        inner = run.0;
        run = run.1;
        state = run.2.state ∙ f.state;
        accessed = λ x. ap (λ w. w x) run.2.accessed ∙ f.accessed x;
        stored = λ x. ap (λ w. w x) run.2.stored ∙ f.stored x;
        even = even_both o q ss f.inner.copies run.0.copies run.2.copies f.even;
        agrees = λ x e.
            let same = sym (outside x e) in
            elim (f.agrees x e) as (λ z. (run.0.memory x ≡ n x) ⊎ ((cancelling (a.next l.state) ≡ true) × (newest run.0.copies run.0.memory x ≡ n x))) [
              | inl h ↦ inl (sym (run.2.memory x same) ∙ (h ∙ sym (memory x e)))
              | inr h ↦ inr (
                h.0,
                sym (newest_both o q f.inner.memory run.0.memory f.inner.copies run.0.copies run.2.copies run.2.memory x same)
                    ∙ (h.1 ∙ sym (memory x e)),
              )
            ];
        levels = λ x e. subst (λ v. LevelsAt x v ss run.0.copies) (sym (memory x e))
            (levels_both o q x (m x) ss f.inner.copies run.0.copies (sym (outside x e)) run.2.copies (f.levels x e));
        unsaved = f.unsaved;
      }

  pub framed : (m n o q : ℕ → ℕ) (l : Option (Local S)) (s : Option (Alive S)) → ((x : ℕ) → held_by l x ≡ true → n x ≡ m x)
      → ((x : ℕ) → held_by l x ≡ true → q x ≡ o x) → ShowsThread a p m o l s → ShowsThread a p n q l s
  framed m n o q None None i j f = f
  framed m n o q None (Some s) i j f = f
  framed m n o q (Some l) None i j f = f
  framed m n o q (Some l) (Some s) i j f = record { ended = f.ended; holds = f.holds; bounded = f.bounded; tx = framed_tx m n o q s.state l i j l.tx f.tx }

  -- one more step at the end
  pub one_step_more : (w v y : World S) (ts : List ℕ) (t : ℕ) → Replays a p w ts v → Step a p t v y → Replays a p w (ts ++ t ∷ []) y
  one_step_more w v y [] t r s = (y, subst (λ q. Step a p t q y) r s, refl)
  one_step_more w v y (u ∷ ts) t r s = (r.0, r.1, one_step_more r.0 v y ts t r.2 s)

  -- at thread t what is new, and elsewhere what was there
  pub at_update : {X : Type 0} (P : X → Type 0) (f : ℕ → X) (t u : ℕ) (v : X) → ((u == t) ≡ true → P v) → ((u == t) ≡ false → P (f u)) → P (update f t v u)
  at_update P f t u v here else = elim (u == t) as (λ b. (u == t) ≡ b → P (cond b v (f u))) [ true ↦ here | false ↦ else ] refl

  -- what thread t changes
  pub record Change (memory memory' : ℕ → ℕ) (threads : ℕ → Option (Local S)) (lock' : Lock) (w w' : World S) (t : ℕ) (l' : Local S)
      (s' : Alive S) : Type 0 where
    pub started_is : w'.started ≡ w.started
    pub lock_is : w'.lock ≡ lock'
    pub there : w'.threads t ≡ Some s'
    pub elsewhere : (u : ℕ) → (u == t) ≡ false → w'.threads u ≡ w.threads u
    pub mine : (u x : ℕ) → (u == t) ≡ false → l'.wrote x ≡ true → held_by (threads u) x ≡ false
    pub theirs : (u x : ℕ) → (u == t) ≡ false → wrote_by (threads u) x ≡ true → l'.held x ≡ false
    pub memory_is : (u x : ℕ) → (u == t) ≡ false → held_by (threads u) x ≡ true → memory' x ≡ memory x
    pub outside_is : (u x : ℕ) → (u == t) ≡ false → held_by (threads u) x ≡ true → w'.memory x ≡ w.memory x
    pub free : (x : ℕ) → ((u : ℕ) → (u == t) ≡ false → undoes (threads u) x ≡ false) → undoes (Some l') x ≡ false → w'.memory x ≡ memory' x
    pub alone : (o u : ℕ) → lock'.holder ≡ Some o → (u == o) ≡ false → live_in (update threads t (Some l') u) ≡ false
    pub shown : ShowsLocal a p memory' w'.memory l' s'

  at_own : (threads : ℕ → Option (Local S)) (t u x : ℕ) (l' : Local S) (f : Option (Local S) → ℕ → Bool) (b : Bool) → (u == t) ≡ false
      → f (update threads t (Some l') u) x ≡ b → f (threads u) x ≡ b
  at_own threads t u x l' f b d h = sym (ap (λ o. f o x) (update_elsewhere threads t (Some l') u d)) ∙ h

  pub changed : (memory memory' : ℕ → ℕ) (threads : ℕ → Option (Local S)) (started : ℕ) (lock lock' : Lock) (w w' : World S) (t : ℕ) (l l' : Local S)
      (s' : Alive S)
      → Going a p memory threads started lock w → threads t ≡ Some l → Change memory memory' threads lock' w w' t l' s'
      → Going a p memory' (update threads t (Some l')) started lock' w'
  changed memory memory' threads started lock lock' w w' t l l' s' g is c =
      let new : ℕ → Option (Local S) = update threads t (Some l') in
      record {
        started_is = c.started_is ∙ g.started_is;
        lock_is = c.lock_is;
        fresh = λ u h. at_update (λ o. o ≡ None) threads t u (Some l') (λ e. let q = ap threads (eqb-true u t e) in let r = g.fresh u h in absurd (cc))
            (λ d. g.fresh u h);
        free = λ x h. c.free x (λ u d. at_own threads t u x l' undoes false d (h u)) (ap (λ o. undoes o x) (sym (update_same threads t (Some l'))) ∙ h t);
        apart = λ v u x d h.
            at_update (λ o. (u == v) ≡ false → wrote_by o x ≡ true → held_by (new u) x ≡ false) threads t v (Some l')
            (λ e d' h'. at_update (λ o. held_by o x ≡ false) threads t u (Some l')
            (λ e'. let q = eqb-true v t e in let r = eqb-true u t e' in absurd (eqb-false u v d' (r ∙ sym q)))
            (λ i. c.mine u x i h'))
            (λ i d' h'. at_update (λ o. held_by o x ≡ false) threads t u (Some l')
            (λ e'. c.theirs v x i h')
            (λ j. g.apart v u x d' h'))
            d h;
        alone = c.alone;
        shown = λ u. elim (u == t) as (λ b. (u == t) ≡ b → ShowsThread a p memory' w'.memory (cond b (Some l') (threads u)) (w'.threads u)) [
          | true ↦ λ e. subst (λ z. ShowsThread a p memory' w'.memory (Some l') z) (sym (ap w'.threads (eqb-true u t e) ∙ c.there)) c.shown
          | false ↦ λ d. subst (λ z. ShowsThread a p memory' w'.memory (threads u) z) (sym (c.elsewhere u d))
              (framed memory memory' w.memory w'.memory (threads u) (w.threads u) (λ x e. c.memory_is u x d e) (λ x e. c.outside_is u x d e) (g.shown u))
        ] refl;
      }
