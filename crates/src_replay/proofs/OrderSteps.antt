-- Orders of entries, one more.
use Rattle.std.proofs.Common.{ℕ, ◌≡◌, ◌<◌, ◌≤◌, ◌+◌, Option, Some, None, is_some, List, [], ◌∷◌, ◌++◌, length, take, get_or, refl, ap, sym, ◌∙◌, subst, arith}
use Rattle.std.proofs.lemmas.List.{take_more, take_all}
use Rattle.std.proofs.lemmas.Option.{slice_get-get_or}
use Rattle.tx_events.specs.declared.End.{End}
use Rattle.tx_events.specs.Memory.{MemoryLayout}
use Rattle.tx_events.specs.Thread.{Thread}
use Rattle.tx_events.specs.World.{World as Worlds, Step, Replays}
use Rattle.tx_memory.specs.View.{layout_of}
use Rattle.src_bind.specs.Tables.{Given}
use Rattle.src_mean.specs.Cost.{cost, step_cost}
use Rattle.src_mean.specs.Frames.{State}
use Rattle.src_mean.specs.Linked.{Program}
use Rattle.src_mean.specs.Source.{source}
use Rattle.src_replay.specs.declared.replaying.Replayed.{Replayed}
use Rattle.src_replay.specs.declared.world.Entry.{Entry}
use Rattle.src_replay.specs.declared.world.Entry.TheVariants.{Taken, Refused, Spent}
use Rattle.src_replay.specs.declared.world.World.{World}
use Rattle.src_replay.specs.Entries.{over}
use Rattle.src_replay.specs.Orders.{IsReplay, IsBegun, IsNotARun, IsSpent, program_in, layout_in, first_in}
use Rattle.src_replay.proofs.OneEntry.{refused_no_step, unfinished_more}
use Rattle.src_replay.specs.Shown.{world_of, Stands, Shows, StepTaken, Stepped, Ran}

module _ {S : Type 0} (a : Thread S) (p : MemoryLayout) where
  -- a replay that costs so much
  pub record More (w : Worlds S) (order : List ℕ) (v : Worlds S) (n : ℕ) : Type 0 where
    pub replays : Replays a p w order v
    pub costs : cost a p w order v replays ≡ n

  last_entry : (w v u : Worlds S) (t : ℕ) → v ≡ w → (d : Step a p t v u) → More w (t ∷ []) u (step_cost a p t v u d)
  last_entry w v u t h d =
      subst (λ (z : Worlds S). (e : Step a p t z u) → More w (t ∷ []) u (step_cost a p t z u e)) (sym h)
      (λ e. record { replays = (u, e, refl); costs = omega arith }) d

  pub replays_more : (w v u : Worlds S) (ts : List ℕ) (t : ℕ) (h : Replays a p w ts v) (d : Step a p t v u)
      → More w (ts ++ t ∷ []) u (cost a p w ts v h + step_cost a p t v u d)
  replays_more w v u [] t h d = let m = last_entry w v u t h d in record { replays = m.replays; costs = omega (arith, m.costs) }
  replays_more w v u (x ∷ ts) t h d = let m = replays_more h.0 v u ts t h.2 d in record { replays = (h.0, h.1, m.replays); costs = omega (arith, m.costs) }

-- where no end came, the world that is shown is the one at hand; else nothing comes

some_none : (o q : Option End) (e : End) → o ≡ Some e → q ≡ None → o ≡ q → ⊥
some_none o q e h n s = let no : Some e ≡ None = sym h ∙ (s ∙ n) in absurd cc

stepped_over : (program : Program) (p : MemoryLayout) (t : ℕ) (old : World) (v : Worlds State) (left : ℕ) (new : World) (e : End) (r : Entry) → Shows old v
    → old.end ≡ Some e → Stepped program p t (world_of old) left new r → Stepped program p t v left new r
stepped_over program p t old v left new e Taken shows some h = absurd (some_none old.end old.end e some h.step.going refl)
stepped_over program p t old v left new e Refused shows some h = over (ap is_some (sym shows.end_is ∙ some))
stepped_over program p t old v left new e Spent shows some h = absurd (some_none old.end old.end e some h.going refl)

pub stepped_shown : (program : Program) (p : MemoryLayout) (t : ℕ) (old : World) (v : Worlds State) (left : ℕ) (new : World) (r : Entry) → Shows old v
    → Stepped program p t (world_of old) left new r → Stepped program p t v left new r
stepped_shown program p t old v left new r shows h = by_end old.end refl
  where
    by_end : (o : Option End) → old.end ≡ o → Stepped program p t v left new r
    by_end None none = subst (λ (z : Worlds State). Stepped program p t z left new r) (shows.all none) h
    by_end (Some e) some = stepped_over program p t old v left new e r shows some h

module _ (b : Given) (input order : List ℕ) (most : ℕ) where
  pub ran_first : (now : World) → world_of now ≡ first_in b input → layout_of now.memory ≡ layout_in b → Stands (program_in b) now → now.left ≡ most
      → Ran b input order most 0 now
  ran_first now e layout stands left = record {
    world = first_in b input;
    replays = refl;
    cost_is = omega (arith, left);
    shows = record {
      end_is = ap (λ (z : Worlds State). z.end) e;
      out_is = ap (λ (z : Worlds State). z.out) e;
      started_is = ap (λ (z : Worlds State). z.started) e;
      all = λ none. e;
    };
    stands = stands;
    layout = layout;
  }

  module _ (i t : ℕ) (old new : World) (ran : Ran b input order most i old) (within : i < length order) (is : t ≡ get_or order i 0) where
    from_there : (r : Entry) → Stepped (program_in b) (layout_of old.memory) t (world_of old) old.left new r
        → Stepped (program_in b) (layout_in b) t ran.world old.left new r
    from_there r h = subst (λ (z : MemoryLayout). Stepped (program_in b) z t ran.world old.left new r) ran.layout
        (stepped_shown (program_in b) (layout_of old.memory) t old ran.world old.left new r ran.shows h)

    pub ran_taken : (r : Entry) → r ≡ Taken → Stepped (program_in b) (layout_of old.memory) t (world_of old) old.left new r → Ran b input order most (i + 1) new
    ran_taken r e h =
        let a = source (program_in b) in
        let p = layout_in b in
        let first = first_in b input in
        let s : StepTaken (program_in b) p t ran.world old.left new =
        subst (λ (z : Entry). Stepped (program_in b) p t ran.world old.left new z) e (from_there r h) in
        let n = cost a p first (take i order) ran.world ran.replays + step_cost a p t ran.world s.world s.step in
        let same : take i order ++ t ∷ [] ≡ take (i + 1) order = ap (λ (z : ℕ). take i order ++ z ∷ []) is ∙ sym (take_more order i 0 within) in
        let m : More a p first (take (i + 1) order) s.world n =
        subst (λ (z : List ℕ). More a p first z s.world n) same (replays_more a p first ran.world s.world (take i order) t ran.replays s.step) in
        record {
          world = s.world;
          replays = m.replays;
          cost_is = omega (arith, m.costs, s.cost, ran.cost_is);
          shows = s.shows;
          stands = s.stands;
          layout = s.layout;
        }

    abbrev begun : IsBegun (source (program_in b)) (layout_in b) (first_in b input) order most i
    begun = record {
      thread = t;
      entry = slice_get-get_or order i 0 within ∙ ap Some (sym is);
      world = ran.world;
      replays = ran.replays;
      left = old.left;
      paid =
          ran.cost_is;
    }

    pub ran_refused : (index : ℕ) (r : Entry) → index ≡ i → r ≡ Refused → Stepped (program_in b) (layout_of old.memory) t (world_of old) old.left new r
        → IsNotARun (source (program_in b)) (layout_in b) (first_in b input) order most index
    ran_refused index r n e h =
        let there : Stepped (program_in b) (layout_in b) t ran.world old.left new Refused =
        subst (λ (z : Entry). Stepped (program_in b) (layout_in b) t ran.world old.left new z) e (from_there r h) in
        subst (λ (z : ℕ). IsNotARun (source (program_in b)) (layout_in b) (first_in b input) order most z) (sym n)
        (record { begun = begun; refused = there; no_step = λ v d. refused_no_step (source (program_in b)) (layout_in b) t ran.world old.left v there d })

    pub ran_spent : (index : ℕ) (r : Entry) → index ≡ i → r ≡ Spent → Stepped (program_in b) (layout_of old.memory) t (world_of old) old.left new r
        → IsSpent (source (program_in b)) (layout_in b) (first_in b input) order most index
    ran_spent index r n e h =
        let there : Stepped (program_in b) (layout_in b) t ran.world old.left new Spent =
        subst (λ (z : Entry). Stepped (program_in b) (layout_in b) t ran.world old.left new z) e (from_there r h) in
        subst (λ (z : ℕ). IsSpent (source (program_in b)) (layout_in b) (first_in b input) order most z) (sym n)
        (record {
          begun = begun;
          unfinished = there;
          costs_more =
              λ v d. unfinished_more (source (program_in b)) (layout_in b) t ran.world old.left v there d;
        })

  pub ran_all : (i : ℕ) (now : World) (r : Replayed) → Ran b input order most i now → length order ≤ i → r.out.items ≡ now.out.items → r.end ≡ now.end
      → r.started ≡ length now.threads.alive.items → r.cost + now.left ≡ most
      → IsReplay (source (program_in b)) (layout_in b) (first_in b input) order most r
  ran_all i now r ran past out end started costs =
      let a = source (program_in b) in
      let p = layout_in b in
      let first = first_in b input in
      let n = cost a p first (take i order) ran.world ran.replays in
      let whole : More a p first (take i order) ran.world n = record { replays = ran.replays; costs = refl } in
      let m : More a p first order ran.world n = subst (λ (z : List ℕ). More a p first z ran.world n) (take_all i order past) whole in
      record {
        world = ran.world;
        replays = m.replays;
        out_is = out ∙ ran.shows.out_is;
        end_is = end ∙ ran.shows.end_is;
        started_is = started ∙ ran.shows.started_is;
        cost_is = omega (arith, m.costs, costs, ran.cost_is);
        within = omega (arith, costs);
      }
