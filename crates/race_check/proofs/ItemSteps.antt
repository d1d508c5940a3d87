-- Items by their parts.
use Rattle.std.proofs.Common.{ℕ, ◌≡◌, ap, sym, ◌∙◌, subst, List, Some}
use Rattle.std.specs.Prelude.{slice_get}
use Rattle.std.proofs.lemmas.Option.{same_Some}
use Rattle.tx_events.specs.declared.Item.{Item}
use Rattle.tx_events.specs.declared.What.{What}
use Rattle.race_check.specs.Races.{Does}

pub does : (items : List Item) (i : ℕ) (b : Item) (u : ℕ) (w : What) → slice_get items i ≡ Some b → b.t ≡ u → b.what ≡ w → Does items i u w
does items i b u w h e f = subst (λ z. slice_get items i ≡ Some (record { t = z; what = w })) e
    (subst (λ z. slice_get items i ≡ Some (record { t = b.t; what = z })) f h)

pub same_thread_of : (items : List Item) (i : ℕ) (a : Item) (u : ℕ) (w : What) → slice_get items i ≡ Some a → Does items i u w → a.t ≡ u
same_thread_of items i a u w h d = ap (λ (z : Item). z.t) (same_Some a _ (sym h ∙ d))

pub same_what_of : (items : List Item) (i : ℕ) (a : Item) (u : ℕ) (w : What) → slice_get items i ≡ Some a → Does items i u w → a.what ≡ w
same_what_of items i a u w h d = ap (λ (z : Item). z.what) (same_Some a _ (sym h ∙ d))
