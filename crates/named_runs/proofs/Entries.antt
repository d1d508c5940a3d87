-- The entries of a schedule.
use Rattle.std.proofs.Common.{ℕ, zero, suc, ◌≡◌, ◌<◌, Bool, true, false, true≢false, List, [], ◌∷◌, length, get_or, Option, Some, None, refl, sym, ap, subst}
use Rattle.std.proofs.Common.{◌∙◌, ltb-true, arith}
use Rattle.std.specs.Prelude.{◌&&◌, min, nat_lt, slice_get}
use Rattle.std.specs.List.{list_all}
use Rattle.std.proofs.lemmas.Option.{slice_get-get_or}
use Rattle.choosers.specs.Picks.{pick}
use Rattle.choosers.specs.Picks.PickerName.{Clashing}
use Rattle.choosers.specs.declared.Seen.{Seen}
use Rattle.tx_machine.specs.Course.{IsOneToLimit}
use Rattle.named_runs.specs.NamedRuns.{IsBelow}

both : (a b : Bool) → (a && b) ≡ true → (a ≡ true) × (b ≡ true)
both true b e = (refl, e)
both false b e = absurd (true≢false (sym e))

entry_below : (xs : List ℕ) (n x : ℕ) → list_all (λ t. nat_lt t 64) xs ≡ true → slice_get xs n ≡ Some x → x < 64
entry_below [] zero x h e = absurd (cc)
entry_below [] (suc n) x h e = absurd (cc)
entry_below (y ∷ ys) zero x h e = subst (λ z. z < 64) (one y x e) (ltb-true y 64 (both (nat_lt y 64) (list_all (λ t. nat_lt t 64) ys) h).0)
  where
    one : (y x : ℕ) → Some y ≡ Some x → y ≡ x
    one y x e = cc
entry_below (y ∷ ys) (suc n) x h e = entry_below ys n x (both (nat_lt y 64) (list_all (λ t. nat_lt t 64) ys) h).1 e

-- what is the entry of a turn if there is one, is that entry
pub picked_entry : (schedule : List ℕ) (n t : ℕ) → n < length schedule → list_all (λ u. nat_lt u 64) schedule ≡ true
    → ((x : ℕ) → x < 64 → slice_get schedule n ≡ Some x → x ≡ t) → slice_get schedule n ≡ Some t
picked_entry schedule n t within below only =
    let at = slice_get-get_or schedule n 0 within in
    at ∙ ap Some (only (get_or schedule n 0) (entry_below schedule n (get_or schedule n 0) below at) at)

-- the same at what the picker was shown and what it keeps
pub listed_entry : (schedule kept : List ℕ) (x s : Seen) (t turns : ℕ) → kept ≡ schedule → x ≡ s → s.turn < turns → turns ≡ min turns (length schedule)
    → list_all (λ u. nat_lt u 64) schedule ≡ true
    → ((u : ℕ) → u < 64 → slice_get kept x.turn ≡ Some u → u ≡ t) → slice_get schedule s.turn ≡ Some t
listed_entry schedule kept x s t turns same shown few most below only =
    let first = subst (λ l. (u : ℕ) → u < 64 → slice_get l x.turn ≡ Some u → u ≡ t) same only in
    let now = subst (λ (z : Seen). (u : ℕ) → u < 64 → slice_get schedule z.turn ≡ Some u → u ≡ t) shown first in
    picked_entry schedule s.turn t (omega (arith, few, most)) below now

pub clash_picked : (b kept : Option ℕ) (x s : Seen) (t : ℕ) → kept ≡ b → x ≡ s → IsBelow b → IsOneToLimit s.started
    → (IsBelow kept → IsOneToLimit x.started → pick Clashing x.turn x kept ≡ Some t) → pick Clashing s.turn s b ≡ Some t
clash_picked b kept x s t same shown below limits picks =
    let first = subst (λ o. IsBelow o → IsOneToLimit x.started → pick Clashing x.turn x o ≡ Some t) same picks in
    let now = subst (λ (z : Seen). IsBelow b → IsOneToLimit z.started → pick Clashing z.turn z b ≡ Some t) shown first in
    now below limits
