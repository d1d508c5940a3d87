use Rattle.std.proofs.Common.{refl, ap, sym, ◌∙◌, ◌≡◌, ℤ, w32, w64, to_z, of_z, rules}
use Rattle.std.proofs.lemmas.Result.{IfOk-weaker}
use Rattle.tx_events.specs.declared.Event.TheVariants.{Load, Store, Out, Inp, Spawn, Join, BeginSync, EndSync, Done, Stop}
use Rattle.src_replay.specs.Entries.{is_enabled}
use Rattle.src_replay.proofs.EntrySteps.{took_acted}
use Rattle.src_replay.proofs.world.World.act.Goals as goal

pub returns-in-Load-clause-acted : goal.returns-in-Load-clause-acted
returns-in-Load-clause-acted c = λ program w s stand going e event enabled.
    let is = event ∙ c.in-Load.is in
    IfOk-weaker c.load.result _ _ (λ r h. took_acted program c.args.t w s
    (Load c.in-Load.addr c.in-Load.size c.in-Load.volatile) c.args.self.now c.load.new.self r refl is h)
    (c.load.ensures.took program w s c.in-Load.volatile stand going e is)

pub returns-in-Store-clause-acted : goal.returns-in-Store-clause-acted
returns-in-Store-clause-acted c = λ program w s stand going e event enabled.
    let is = event ∙ c.in-Store.is in
    IfOk-weaker c.store.result _ _ (λ r h. took_acted program c.args.t w s
    (Store c.in-Store.addr c.in-Store.size c.in-Store.value c.in-Store.volatile) c.args.self.now c.store.new.self r refl is h)
    (c.store.ensures.took program w s c.in-Store.volatile stand going e is)

pub returns-in-Out-clause-acted : goal.returns-in-Out-clause-acted
returns-in-Out-clause-acted c = λ program w s stand going e event enabled.
    let is = event ∙ c.in-Out.is in
    IfOk-weaker c.write.result _ _ (λ r h. took_acted program c.args.t w s (Out c.in-Out.byte) c.args.self.now c.write.new.self r refl is h)
    (c.write.ensures.took program w s stand going e)

pub returns-in-Inp-clause-acted : goal.returns-in-Inp-clause-acted
returns-in-Inp-clause-acted c = λ program w s stand going e event enabled.
    let is = event ∙ c.in-Inp.is in
    IfOk-weaker c.read.result _ _ (λ r h. took_acted program c.args.t w s (Inp) c.args.self.now c.read.new.self r refl is h)
    (c.read.ensures.took program w s stand going e)

pub returns-in-BeginSync-clause-acted : goal.returns-in-BeginSync-clause-acted
returns-in-BeginSync-clause-acted c = λ program w s stand going e event enabled.
    let is = event ∙ c.in-BeginSync.is in
    IfOk-weaker c.lock.result _ _ (λ r h. took_acted program c.args.t w s (BeginSync) c.args.self.now c.lock.new.self r refl is h)
    (c.lock.ensures.took program w s stand going e (ap (λ z. is_enabled c.args.t w z) (sym c.in-BeginSync.is) ∙ enabled))

pub returns-in-EndSync-clause-acted : goal.returns-in-EndSync-clause-acted
returns-in-EndSync-clause-acted c = λ program w s stand going e event enabled.
    let is = event ∙ c.in-EndSync.is in
    IfOk-weaker c.unlock.result _ _ (λ r h. took_acted program c.args.t w s (EndSync) c.args.self.now c.unlock.new.self r refl is h)
    (c.unlock.ensures.took program w s stand going e)

pub returns-in-Done-clause-acted : goal.returns-in-Done-clause-acted
returns-in-Done-clause-acted c = λ program w s stand going e event enabled.
    let is = event ∙ c.in-Done.is in
    IfOk-weaker c.finish.result _ _ (λ r h. took_acted program c.args.t w s (Done) c.args.self.now c.finish.new.self r refl is h)
    (c.finish.ensures.took program w s stand going e)

pub returns-in-Stop-clause-acted : goal.returns-in-Stop-clause-acted
returns-in-Stop-clause-acted c = λ program w s stand going e event enabled.
    let is = event ∙ c.in-Stop.is in
    IfOk-weaker c.stop.result _ _ (λ r h. took_acted program c.args.t w s (Stop c.in-Stop.end) c.args.self.now c.stop.new.self r refl is h)
    (c.stop.ensures.took program c.args.t w s stand going e)

pub returns-in-BeginAtomic-clause-acted : goal.returns-in-BeginAtomic-clause-acted
returns-in-BeginAtomic-clause-acted c = λ program w s stand going e event enabled.
    c.run_block.ensures.acted program w s c.in-BeginAtomic.kind stand going e (event ∙ c.in-BeginAtomic.is)
    (ap (λ z. is_enabled c.args.t w z) (sym c.in-BeginAtomic.is) ∙ enabled)

pub returns-in-Join-clause-acted : goal.returns-in-Join-clause-acted
returns-in-Join-clause-acted c = λ program w s stand going e event enabled.
    let id : ℤ = to_z w32 (of_z w32 c.in-Join.id) in
    let same : id ≡ c.in-Join.id = search rules in
    let is = c.in-Join.is ∙ ap Join (sym same) in
    IfOk-weaker c.join.result _ _ (λ r h. took_acted program c.args.t w s (Join id) c.args.self.now c.join.new.self r refl (event ∙ is) h)
    (c.join.ensures.took program w s stand going e (ap (λ z. is_enabled c.args.t w z) (sym is) ∙ enabled))

pub returns-in-Spawn-clause-acted : goal.returns-in-Spawn-clause-acted
returns-in-Spawn-clause-acted c = λ program w s stand going e event enabled.
    let arg : ℤ = to_z w64 (of_z w64 c.in-Spawn.arg) in
    let same : arg ≡ c.in-Spawn.arg = search rules in
    let is = c.in-Spawn.is ∙ ap (Spawn c.in-Spawn.func) (sym same) in
    IfOk-weaker c.spawn.result _ _ (λ r h. took_acted program c.args.t w s (Spawn c.in-Spawn.func arg) c.args.self.now c.spawn.new.self r refl (event ∙ is) h)
    (c.spawn.ensures.took program w s stand going e)
