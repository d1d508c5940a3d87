-- A thread of a sound image keeps the laws of threads.
use Rattle.std.proofs.Common.{Bool, true, false, ◌≡◌, ◌<◌, length, ℕ, ℤ, List, ◌∷◌, Some, refl, sym, ap, ◌∙◌}
use Rattle.std.specs.Prelude.{not, ◌||◌, nat_lt, slice_get}
use Rattle.std.specs.Option.{option_map}
use Rattle.std.proofs.Props.{props}
use mathlib.Core.Logic.{∥∥₁_map, ∥∥₁_elim}
use Rattle.std.proofs.lemmas.Grind.{merely, not_there}
use Rattle.std.proofs.lemmas.Bool.{true≢false, ltb-true}
use Rattle.std.proofs.lemmas.Bool.Decides.{Decides-ltb}
use Rattle.std.proofs.lemmas.Option.{slice_get_within}
use Rattle.tx_events.specs.declared.Event.TheVariants.{Spawn}
use Rattle.tx_events.specs.Thread.{Open, Lawful, no_atomic}
use Rattle.tx_code.specs.declared.instr.Instr.{Instr}
use Rattle.tx_code.specs.declared.instr.Instr.TheVariants.{CallIndirect, TCallIndirect}
use Rattle.tx_code.specs.Images.{ImageView, IsImage}
use Rattle.tx_code.specs.Renaming.{itself, renamed}
use Rattle.tx_code.specs.Meaning as meaning
use Rattle.tx_code.specs.Meaning.{Frame, State, Runs, Unwinds, code_of, fetch, in_transaction, blocks_in}
use Rattle.tx_code.specs.Program.{names_of}
use Rattle.tx_code.specs.Sound.{Sound, signature, table_of}
use Rattle.tx_code.specs.InShape.{InShape, Ready}
use Rattle.tx_code.proofs.OwnBodies.{same_instr}
use Rattle.tx_code.proofs.ReachedIndexes.{instr_at}
use Rattle.tx_code.proofs.SaneSteps.{outside_front, outside_all, inside_all, spot_sound}
use Rattle.tx_code.proofs.SaneInstructions.{outside_now, inside_now}
use Rattle.tx_code.proofs.LawfulThreads.{lawful, first_in, body_here}
use Rattle.vm_thread.specs.Threads.{Running, running, Stands, IsReached, at_main}
use Rattle.vm_thread.specs.Modes.{KnowsMode, Modes}

-- ---- the laws

onto : {P Q : Type 0} → ∥ P ∥₁ → (P → Q) → ∥ Q ∥₁
onto h f = ∥∥₁_map h f

law_of : (s : Running) → Stands s → Lawful State (InShape s.image) (meaning.thread (names_of s.image))
law_of s k = lawful s.image k.sound

is_true : (b : Bool) {P : Type 0} → ∥ P ∥₁ → (P → b ≡ true) → b ≡ true
is_true true h f = refl
is_true false h f = absurd (not_there h (λ p. true≢false (sym (f p))))

is_false : (b : Bool) {P : Type 0} → ∥ P ∥₁ → (P → b ≡ false) → b ≡ false
is_false false h f = refl
is_false true h f = absurd (not_there h (λ p. true≢false (f p)))

opens_set : IsSet (List Open)
opens_set = hlevel props

pub running_laws : Lawful Running IsReached running
running_laws = record {
  goes_on = λ s reply h c. onto h (λ k. record { sound = k.sound; shaped = (law_of s k).goes_on s.state reply k.shaped c });
  starts = λ s number func arg h e. onto h (λ k. record { sound = k.sound; shaped = (law_of s k).starts s.state number func arg k.shaped e });
  starts_free = λ s number func arg h e. refl;
  comes = λ s h. is_true _ h (λ k. (law_of s k).comes s.state k.shaped);
  blocks = λ s reply h c. ∥∥₁_elim h (opens_set _ _) (λ k. (law_of s k).blocks s.state reply k.shaped c);
}

pub at_main_stands : (i : ImageView) → IsImage i → Sound i → IsReached (at_main i)
at_main_stands i is sound = merely (record { sound = sound; shaped = first_in i sound is })

-- a function that is spawned is one of the image
spawned_there : (s : Running) (number func : ℕ) (arg : ℤ) → Stands (running.child s number func arg) → nat_lt func (length s.image.funcs) ≡ true
spawned_there s number func arg k = (Decides-ltb func (length s.image.funcs)).1 (slice_get_within s.image.funcs func k.shaped.0.spot.func k.shaped.0.spot.is)

pub spawned_within : (s : Running) (number func : ℕ) (arg : ℤ) → IsReached s → running.next s ≡ Spawn func arg → func < length s.image.funcs
spawned_within s number func arg h e = ltb-true func (length s.image.funcs)
    (is_true _ (running_laws.starts s number func arg h e) (spawned_there s number func arg))

-- ---- modes

module _ (i : ImageView) (f : Frame) (rest : List Frame) where
  instr_there : Sound i → Ready i f → (a : Instr) → fetch (names_of i) f.home f.index ≡ Some a → (ready : Ready i f)
      → slice_get ready.spot.body.code f.index ≡ Some a
  instr_there sound r a e ready =
      let b = instr_at (table_of i) (signature ready.spot.func.ty) f.home.safe ready.spot.body (spot_sound i sound f.home ready.spot) ready.reached in
      let k : fetch (names_of i) f.home f.index ≡ Some b.0 =
      ap (λ o. option_map (renamed itself) (slice_get (code_of o) f.index)) (body_here i sound f.home ready.spot) ∙ ap (option_map (renamed itself)) b.1
      ∙ ap Some (same_instr b.0) in
      b.1 ∙ sym k ∙ e

  outside_here : Stands (record { image = i; state = Runs f rest }) → (a : Instr) → fetch (names_of i) f.home f.index ≡ Some a
      → Rattle.tx_code.specs.Sound.inside_right (table_of i) a ≡ false → in_transaction f rest ≡ false
  outside_here k a e r =
      let is = instr_there k.sound k.shaped.0 a e k.shaped.0 in
      let o = outside_now i k.sound f rest k.shaped.0 k.shaped.1 a is r in
      let s = outside_front i k.sound f.home.safe f.nest.opens o in
      let n : no_atomic (blocks_in (f ∷ rest)) ≡ true = outside_all i k.sound f rest k.shaped.1 o in
      ap (λ z. z || not (no_atomic (blocks_in (f ∷ rest)))) s.0 ∙ ap not n

  inside_here : Stands (record { image = i; state = Runs f rest }) → (a : Instr) → fetch (names_of i) f.home f.index ≡ Some a
      → Rattle.tx_code.specs.Sound.outside_right a ≡ false → in_transaction f rest ≡ true
  inside_here k a e r = inside_all i k.sound f.home.safe f.nest.opens (blocks_in rest)
      (inside_now i k.sound f rest k.shaped.0 k.shaped.1 a (instr_there k.sound k.shaped.0 a e k.shaped.0) r)

  knows : IsReached (record { image = i; state = Runs f rest }) → KnowsMode (names_of i) f rest
  knows h (CallIndirect ty n) e = is_false _ h (λ k. outside_here k (CallIndirect ty n) e refl)
  knows h (TCallIndirect ty n) e = is_true _ h (λ k. inside_here k (TCallIndirect ty n) e refl)
  knows h a e = tt

pub modes : (s : Running) → IsReached s → Modes (names_of s.image) s.state
modes s h = by_state s.state h where
  by_state : (t : State) → IsReached (record { image = s.image; state = t }) → Modes (names_of s.image) t
  by_state (Runs f rest) k = knows s.image f rest k
  by_state (Unwinds e f rest) k = tt
