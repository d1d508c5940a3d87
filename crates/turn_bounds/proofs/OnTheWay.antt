-- Each replay of a program whose source ends alone is on the way to that end.
use Rattle.std.proofs.Common.{ℕ, zero, suc, ◌≡◌, ◌==◌, ◌≤◌, ◌<◌, ◌+◌, Bool, true, false, cond, refl, ap, sym, ◌∙◌, subst, List, [], ◌∷◌, Option, Some, None, arith}
use Rattle.std.proofs.lemmas.Bool.{true≢false, ne_eqb}
use Rattle.tx_events.specs.declared.End.{End}
use Rattle.tx_events.specs.declared.End.TheVariants.{Trapped}
use Rattle.tx_events.specs.declared.Trap.TheVariants.{BadAddress}
use Rattle.tx_events.specs.declared.Event.{Event}
use Rattle.tx_events.specs.declared.Event.TheVariants.{Silent, Load, Store, Out, Inp, Spawn, Join, BeginAtomic, EndAtomic, Raise, BeginSync, EndSync, Done}
use Rattle.tx_events.specs.declared.Event.TheVariants.{Stop}
use Rattle.tx_events.specs.declared.Reply.TheVariants.{Nothing, Loaded}
use Rattle.tx_events.specs.Thread.{Thread}
use Rattle.tx_events.specs.Memory.{MemoryLayout, can_access, update, load, store}
use Rattle.tx_events.specs.Alone.{BlockStep, Goes, Leaves, Halts, Never, outcome}
use Rattle.tx_events.specs.World.{Alive, alive, goes, ends, World, Step, Replays, EventStep, BlockEffect, Joins, target}
use Rattle.tx_events.proofs.OneReplay.{same_step, ended_no_step}
use Rattle.tx_serial.specs.Bound.{is_spawn}
use Rattle.src_mean.specs.Cost.{step_cost, cost}
use Rattle.src_replay.proofs.OneEntry.{one_step_cost}
use Rattle.turn_bounds.specs.Alone.{SpawnsNothing, EndsAlone, IsOnTheWay}
use Rattle.turn_bounds.proofs.Started.{event_same}

le_here : (n m : ℕ) → n ≤ m → 0 + n ≤ m
le_here n m h = omega (arith, h)

le_self : (n : ℕ) → n ≤ n
le_self n = omega arith

sum_on : (x y c l m n : ℕ) → x ≡ y → c + l ≤ m → x + m ≤ n → (y + c) + l ≤ n
sum_on x y c l m n e h g = omega (arith, e, h, g)

module _ {S : Type 0} (a : Thread S) (p : MemoryLayout) where
  -- no thread but 0 was started
  abbrev pub NoOthers : World S → Type 0
  NoOthers w = (k : ℕ) → w.threads (suc k) ≡ None

  absent : (w v : World S) (k : ℕ) → NoOthers w → Step a p (suc k) w v → ⊥
  absent w v k alone d = let no : None ≡ alive d.from = sym (alone k) ∙ d.is in cc

  still : (w v : World S) (y : Option (Alive S)) → NoOthers w → v.threads ≡ update w.threads 0 y → NoOthers v
  still w v y alone e k = ap (λ f. f (suc k)) e ∙ (ap (λ b. cond b y (w.threads (suc k))) (ne_eqb (suc k) 0 (λ z. cc)) ∙ alone k)

  still_either : (b : Bool) (x y : World S) → NoOthers x → NoOthers y → (v : World S) → v ≡ cond b x y → NoOthers v
  still_either true x y h g v e k = ap (λ (z : World S). z.threads (suc k)) e ∙ h k
  still_either false x y h g v e k = ap (λ (z : World S). z.threads (suc k)) e ∙ g k

  block_still : (w : World S) (y : BlockStep S) (v : World S) → NoOthers w → BlockEffect 0 w y v → NoOthers v
  block_still w (Goes i) v alone d = absurd d
  block_still w Never v alone d = absurd d
  block_still w (Leaves s m) v alone d = still w v (alive s) alone (ap (λ (z : World S). z.threads) d)
  block_still w (Halts e) v alone d = λ k. ap (λ (z : World S). z.threads (suc k)) d ∙ alone k

  join_still : (w : World S) (s : S) (o : Option (Alive S)) (v : World S) → NoOthers w → Joins 0 w s o v → NoOthers v
  join_still w s None v alone d = λ k. ap (λ (z : World S). z.threads (suc k)) d ∙ alone k
  join_still w s (Some u) v alone d = still w v (alive s) alone (ap (λ (z : World S). z.threads) d.1)

  -- an event of thread 0 that is no Spawn starts no thread
  event_still : (w : World S) (s : S) (e : Event) (v : World S) → is_spawn e ≡ false → NoOthers w → EventStep a p 0 w s e v → NoOthers v
  event_still w s Silent v q alone d = absurd d
  event_still w s EndAtomic v q alone d = absurd d
  event_still w s (Raise kind can) v q alone d = absurd d
  event_still w s (Load addr size vol) v q alone d =
      let r = a.after s (Loaded (load w.memory addr size)) in
      still_either (can_access p addr size) (goes 0 w r) (ends w (Trapped BadAddress)) (still w (goes 0 w r) (alive r) alone refl) alone v d
  event_still w s (Store addr size value vol) v q alone d =
      let r = alive (a.after s Nothing) in
      let u : World S = record w { memory = store w.memory addr size value; threads = update w.threads 0 r } in
      still_either (can_access p addr size) u (ends w (Trapped BadAddress)) (still w u r alone refl) alone v d
  event_still w s (Out c) v q alone d = still w v _ alone (ap (λ (z : World S). z.threads) d)
  event_still w s Inp v q alone d = still w v _ alone (ap (λ (z : World S). z.threads) d)
  event_still w s (Spawn g x) v q alone d = absurd (true≢false q)
  event_still w s (Join id) v q alone d = join_still w (a.after s Nothing) (target 0 id w.threads) v alone d
  event_still w s BeginSync v q alone d = still w v _ alone (ap (λ (z : World S). z.threads) d.1)
  event_still w s EndSync v q alone d = still w v _ alone (ap (λ (z : World S). z.threads) d)
  event_still w s Done v q alone d = still w v _ alone (ap (λ (z : World S). z.threads) d)
  event_still w s (Stop e) v q alone d = λ k. ap (λ (z : World S). z.threads (suc k)) d ∙ alone k
  event_still w s (BeginAtomic kind) v q alone d = block_still w (outcome d.1) v alone d.2

  ended_twice : (w : World S) (end : End) → w.end ≡ Some end → w.end ≡ None → ⊥
  ended_twice w end e none = let no : None ≡ Some end = sym none ∙ e in cc

  module _ (out : List ℕ) (end : End) where
    pub on_the_way : (order : List ℕ) (w v : World S) (h : Replays a p w order v) (us : List ℕ) (u : World S) (k : Replays a p w us u) (n : ℕ)
        → w.started ≡ 1 → NoOthers w → SpawnsNothing a p w us u k → cost a p w us u k ≤ n → u.out ≡ out → u.end ≡ Some end
        → IsOnTheWay a p v (cost a p w order v h) n out end
    on_the_way [] w v h us u k n one alone quiet few o e =
        subst (λ (z : World S). IsOnTheWay a p z 0 n out end) (sym h) (record {
          left = n;
          ends = record { order = us; world = u; replays = k; spawns_nothing = quiet; within = few; out_is = o; end_is = e };
          within = le_here n n (le_self n);
          started = one;
          no_others = alone;
        })
    on_the_way (suc t ∷ ts) w v h us u k n one alone quiet few o e = absurd (absent w h.0 t alone h.1)
    on_the_way (zero ∷ ts) w v h [] u k n one alone quiet few o e =
        absurd (ended_twice w end (ap (λ (z : World S). z.end) (sym k) ∙ e) h.1.going)
    on_the_way (zero ∷ ts) w v h (suc x ∷ us) u k n one alone quiet few o e = absurd (absent w k.0 x alone k.1)
    on_the_way (zero ∷ ts) w v h (zero ∷ us) u k n one alone quiet few o e =
        let same : k.0 ≡ h.0 = same_step a p 0 w k.0 h.0 k.1 h.1 in
        let m = cost a p k.0 us u k.2 in
        let there : EndsAlone a p k.0 m out end = record {
          order = us;
          world = u;
          replays = k.2;
          spawns_nothing = quiet.1;
          within = le_self m;
          out_is = o;
          end_is = e;
        } in
        let ends : EndsAlone a p h.0 m out end = subst (λ (z : World S). EndsAlone a p z m out end) same there in
        let started : h.0.started ≡ 1 = ap (λ (z : World S). z.started) (sym same)
        ∙ (event_same a p 0 w k.1.before (a.next k.1.before) k.0 quiet.0 k.1.does ∙ one) in
        let others : NoOthers h.0 = subst NoOthers same (event_still w k.1.before (a.next k.1.before) k.0 quiet.0 alone k.1.does) in
        let r = on_the_way ts h.0 v h.2 ends.order ends.world ends.replays m started others ends.spawns_nothing ends.within ends.out_is ends.end_is in
        record {
          left = r.left;
          ends = r.ends;
          within = sum_on (step_cost a p 0 w k.0 k.1) (step_cost a p 0 w h.0 h.1) (cost a p h.0 ts v h.2) r.left m n
              (one_step_cost a p 0 w k.0 h.0 k.1 h.1) r.within few;
          started = r.started;
          no_others = r.no_others;
        }

    -- where the program has not ended, thread 0 has a step, and it costs no more than is left
    pub record NextStep (w : World S) (n : ℕ) : Type 0 where
      pub world : World S
      pub step : Step a p 0 w world
      pub within : step_cost a p 0 w world step ≤ n

    le_first : (x y n : ℕ) → x + y ≤ n → x ≤ n
    le_first x y n h = omega (arith, h)

    next_of : (us : List ℕ) (w u : World S) (k : Replays a p w us u) (n : ℕ) → NoOthers w → cost a p w us u k ≤ n → u.end ≡ Some end → w.end ≡ None
        → NextStep w n
    next_of [] w u k n alone few e going = absurd (ended_twice w end (ap (λ (z : World S). z.end) (sym k) ∙ e) going)
    next_of (suc x ∷ us) w u k n alone few e going = absurd (absent w k.0 x alone k.1)
    next_of (zero ∷ us) w u k n alone few e going =
        record { world = k.0; step = k.1; within = le_first (step_cost a p 0 w k.0 k.1) (cost a p k.0 us u k.2) n few }

    pub next_step : (w : World S) (spent n : ℕ) (way : IsOnTheWay a p w spent n out end) → w.end ≡ None → NextStep w way.left
    next_step w spent n way going = next_of way.ends.order w way.ends.world way.ends.replays way.left way.no_others way.ends.within way.ends.end_is going

    -- where it has ended, it has this end and output
    ended_of : (us : List ℕ) (w u : World S) (k : Replays a p w us u) (x : End) → u.out ≡ out → u.end ≡ Some end → w.end ≡ Some x → (w.end ≡ Some end) × (w.out ≡ out)
    ended_of [] w u k x o e is = (ap (λ (z : World S). z.end) (sym k) ∙ e, ap (λ (z : World S). z.out) (sym k) ∙ o)
    ended_of (t ∷ us) w u k x o e is = absurd (ended_no_step a p t w k.0 x is k.1)

    pub ended_so : (w : World S) (spent n : ℕ) (way : IsOnTheWay a p w spent n out end) (x : End) → w.end ≡ Some x → (w.end ≡ Some end) × (w.out ≡ out)
    ended_so w spent n way x is = ended_of way.ends.order w way.ends.world way.ends.replays x way.ends.out_is way.ends.end_is is
