-- Machines after the steps of a row.
use Rattle.std.proofs.Common.{ℕ, ◌≡◌, Option, Some, None, List, [], ◌∷◌, ◌++◌, ◌+◌, ap, ◌∙◌}
use Rattle.tx_events.specs.declared.TurnKind.TheVariants.{Ran}
use Rattle.tx_events.specs.declared.TurnKind.{TurnKind}
use Rattle.tx_events.specs.World.{Lock, input_after}
use Rattle.tx_serial.specs.Machine.{Machine, Local, Waits, OpenTx, no_save}
use Rattle.tx_events.specs.Memory.{update}
use Rattle.tx_serial.specs.Turn.{Turned, order_gains, steps, ran, bare, spawns, begins}

abbrev given : {S : Type 0} → Machine S → TurnKind → Turned S
given m k = record { machine = m; kind = k }

pub alone_row : {S : Type 0} (t : ℕ) (q m new : Machine S) (l : Local S) → q ≡ m → new ≡ steps t q l → record { machine = new; kind = Ran } ≡ ran (steps t m l)
alone_row t q m new l e h = ap ran (h ∙ ap (λ z. steps t z l) e)

pub order_gains_row : {S : Type 0} (t : ℕ) (q m new : Machine S) (l : Local S) (order : List ℕ) → q ≡ m → order ≡ q.order ++ t ∷ []
    → new ≡ steps t (record q { order = order }) l → record { machine = new; kind = Ran } ≡ ran (order_gains t (steps t m l))
order_gains_row t q m new l order e o h = ap ran (h ∙ (ap (λ z. steps t (record q { order = z }) l) o ∙ ap (λ z. order_gains t (steps t z l)) e))

pub with_input : {S : Type 0} (q : Machine S) (k : TurnKind) (to : Turned S) (i : List ℕ) → ◌≡◌ {A = Turned S} (record { machine = q; kind = k }) to
    → i ≡ input_after q.input
    → ◌≡◌ {A = Turned S} (record { machine = record q { input = i }; kind = k })
    (record { machine = record to.machine { input = input_after to.machine.input }; kind = to.kind })
with_input {S} q k to i e f = ap (λ z. given (record q { input = z }) k) f
    ∙ ap (λ (v : Turned S). given (record v.machine { input = input_after v.machine.input }) v.kind) e

pub with_lock : {S : Type 0} (q : Machine S) (k : TurnKind) (to : Turned S) (i j : Lock) → ◌≡◌ {A = Turned S} (record { machine = q; kind = k }) to → i ≡ j
    → ◌≡◌ {A = Turned S} (record { machine = record q { lock = i }; kind = k }) (record { machine = record to.machine { lock = j }; kind = to.kind })
with_lock {S} q k to i j e f = ap (λ z. given (record q { lock = z }) k) f ∙ ap (λ (v : Turned S). given (record v.machine { lock = j }) v.kind) e

pub out_row : {S : Type 0} (t byte : ℕ) (q m new : Machine S) (l : Local S) (order out : List ℕ) → q ≡ m → order ≡ q.order ++ t ∷ [] → out ≡ q.out ++ byte ∷ []
    → new ≡ steps t (record q { order = order; out = out }) l
    → record { machine = new; kind = Ran } ≡ ran (record (order_gains t (steps t m l)) { out = m.out ++ byte ∷ [] })
out_row t byte q m new l order out e o f h =
    ap ran (h ∙ (ap (λ z. steps t (record q { order = z; out = out }) l) o ∙
    (ap (λ z. steps t (record q { order = q.order ++ t ∷ []; out = z }) l) f
    ∙ ap (λ z. record (order_gains t (steps t z l)) { out = z.out ++ byte ∷ [] }) e)))

pub store_row : {S : Type 0} (t : ℕ) (q m new : Machine S) (l : Local S) (order : List ℕ) (memory after : ℕ → ℕ) → q ≡ m → order ≡ q.order ++ t ∷ []
    → memory ≡ after → new ≡ steps t (record q { order = order; memory = memory }) l
    → record { machine = new; kind = Ran } ≡ ran (record (order_gains t (steps t m l)) { memory = after })
store_row t q m new l order memory after e o f h =
    ap ran (h ∙ (ap (λ z. steps t (record q { order = z; memory = memory }) l) o ∙
    (ap (λ z. steps t (record q { order = q.order ++ t ∷ []; memory = z }) l) f ∙ ap (λ z. record (order_gains t (steps t z l)) { memory = after }) e)))

pub spawn_row : {S : Type 0} (t : ℕ) (n m new : Machine S) (l : Local S) (child : S) (order : List ℕ) (threads : ℕ → Option (Local S)) (waits : ℕ → Waits)
    (k : ℕ)
    → n ≡ m → order ≡ n.order ++ t ∷ [] → threads ≡ update n.threads n.started (Some (bare child)) → waits ≡ n.waits → k ≡ n.started + 1
    → new ≡ steps t (record n { order = order; threads = threads; waits = waits; started = k }) l
    → ◌≡◌ {A = Turned S} (record { machine = new; kind = Ran }) (ran (spawns t m l child))
spawn_row t n m new l child order threads waits k e o f w s h =
    ap ran (h
    ∙ (ap (λ z. steps t (record n { order = z; threads = threads; waits = waits; started = k }) l) o
    ∙ (ap (λ z. steps t (record (order_gains t n) { threads = z; waits = waits; started = k }) l) f
    ∙ (ap (λ z. steps t (record (order_gains t n) { threads = update n.threads n.started (Some (bare child)); waits = z; started = k }) l) w
    ∙ (ap (λ z. steps t (record (order_gains t n) { threads = update n.threads n.started (Some (bare child)); started = z }) l) s
    ∙ ap (λ z. spawns t z l child) e)))))

pub begin_row : {S : Type 0} (t : ℕ) (n m new : Machine S) (l : Local S) (s : S) → n ≡ m
    → new ≡ steps t n (record l { state = s; tx = OpenTx n.births s (no_save ∷ []) })
    → ◌≡◌ {A = Turned S} (record { machine = record new { births = n.births + 1 }; kind = Ran }) (begins t m l s None)
begin_row t n m new l s e h =
    ap (λ z. ran (record z { births = n.births + 1 })) h
    ∙ ap (λ z. ran (record (steps t z (record l { state = s; tx = OpenTx z.births s (no_save ∷ []) })) { births = z.births + 1 })) e

pub memory_row : {S : Type 0} (t : ℕ) (q m new : Machine S) (l : Local S) (memory after : ℕ → ℕ) → q ≡ m → memory ≡ after
    → new ≡ steps t (record q { memory = memory }) l → ◌≡◌ {A = Turned S} (record { machine = new; kind = Ran }) (ran (record (steps t m l) { memory = after }))
memory_row t q m new l memory after e f h = ap ran (h ∙ (ap (λ z. steps t (record q { memory = z }) l) f ∙ ap (λ z. record (steps t z l) { memory = after }) e))
