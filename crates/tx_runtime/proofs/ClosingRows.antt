-- The rows of a thread whose transaction gives up or is closing.
use Rattle.std.proofs.Common.{ℕ, ◌≡◌, ◌<◌, true, false, Option, Some, None, List, refl, ap, sym, ◌∙◌, arith}
use Rattle.tx_events.specs.declared.TurnKind.TheVariants.{Idle, Undone, Released, Rolled}
use Rattle.tx_events.specs.Memory.{MemoryLayout, update, word_bound}
use Rattle.tx_serial.specs.Machine.{Machine, Local, Save, Tx, NoTx, GivingUp, Closing, least, kept_or, oldest}
use Rattle.tx_serial.specs.Turn.{Turned, stays, steps, closes, again, gives_up, clashes, without, lets_go, given_back, gives_back}
use Rattle.std.specs.Prelude.{nat_lt}
use Rattle.std.proofs.lemmas.Bool.{ltb-true, ltb-false}
use Rattle.tx_runtime.specs.Threads.{closed_by}
use Rattle.choosers.specs.declared.Choice.TheVariants.{Yield}

pub closes_some : {S : Type 0} (b : ℕ) (o : Option ℕ) (x : ℕ) → o ≡ Some x → Closing b ≡ closes {S = S} b o
closes_some b o x e = ap (closes b) (sym e)

pub closes_none : {S : Type 0} (b : ℕ) (o : Option ℕ) → o ≡ None → NoTx ≡ closes {S = S} b o
closes_none b o e = ap (closes b) (sym e)

module _ {S : Type 0} (p : MemoryLayout) (t : ℕ) (m : Machine S) (l : Local S) where
  pub lets_none : (b : ℕ) → least l.held (word_bound p) ≡ None → stays Idle m ≡ lets_go p t m l b (least l.held (word_bound p))
  lets_none b e = ap (lets_go p t m l b) (sym e)

  pub lets_some : (b x : ℕ) (tx : Tx S) → least l.held (word_bound p) ≡ Some x → tx ≡ closes b (least (without l.held x) (word_bound p))
      → ◌≡◌ {A = Turned S} (record { machine = steps t m (record l { held = without l.held x; wrote = without l.wrote x; tx = tx }); kind = Released x })
      (lets_go p t m l b (least l.held (word_bound p)))
  lets_some b x tx e f =
      ap (λ z. released (steps t m (record l { held = without l.held x; wrote = without l.wrote x; tx = z })) x) f ∙ ap (lets_go p t m l b) (sym e)
    where
      released : Machine S → ℕ → Turned S
      released n y = record { machine = n; kind = Released y }

  module _ (b : ℕ) (k : S) (ss : List Save) where
    pub gives_none : least l.held (word_bound p) ≡ None → stays Idle m ≡ gives_back p t m l b k ss (least l.held (word_bound p))
    gives_none e = ap (gives_back p t m l b k ss) (sym e)

    pub gives_some : (x : ℕ) (v : Local S) → least l.held (word_bound p) ≡ Some x → v ≡ given_back l b k ss x (least (without l.held x) (word_bound p))
        → ◌≡◌ {A = Turned S} (record { machine = record (steps t m v) { memory = update m.memory x (kept_or (oldest ss x) (m.memory x)) }; kind = Undone x })
        (gives_back p t m l b k ss (least l.held (word_bound p)))
    gives_some x v e f =
        ap (λ z. record { machine = record (steps t m z) { memory = update m.memory x (kept_or (oldest ss x) (m.memory x)) }; kind = Undone x }) f
        ∙ ap (gives_back p t m l b k ss) (sym e)

    pub rolls_some : (x word u : ℕ) → least l.held (word_bound p) ≡ Some x
        → ◌≡◌ {A = Turned S} (record { machine = steps t m (record l { tx = GivingUp b k ss }); kind = Rolled word u }) (clashes p Yield t m l b k ss word u)
    rolls_some x word u e = ap (λ o. record { machine = steps t m (gives_up l b k ss o); kind = Rolled word u }) (sym e)

    pub rolls_none : (word u : ℕ) → least l.held (word_bound p) ≡ None
        → ◌≡◌ {A = Turned S} (record { machine = steps t m (again l b k); kind = Rolled word u }) (clashes p Yield t m l b k ss word u)
    rolls_none word u e = ap (λ o. record { machine = steps t m (gives_up l b k ss o); kind = Rolled word u }) (sym e)

-- whether a word is held, by how many are
pub closes_by : {S : Type 0} (b n : ℕ) (o : Option ℕ) → (n ≡ 0 → o ≡ None) → (0 < n → (x : ℕ) × (o ≡ Some x))
    → ◌≡◌ {A = Tx S} (closed_by (nat_lt 0 n) b) (closes b o)
closes_by {S} b n o none some = elim (nat_lt 0 n) as (λ c. nat_lt 0 n ≡ c → ◌≡◌ {A = Tx S} (closed_by c b) (closes b o)) [
  | true ↦ λ e. let there = some (ltb-true 0 n e) in ap (closes b) (sym there.1)
  | false ↦ λ e. let l = ltb-false 0 n e in ap (closes b) (sym (none (omega (arith, l))))
] refl
