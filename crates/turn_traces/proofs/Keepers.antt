-- What a keeper keeps, after a change of it.
use Rattle.std.proofs.Common.{ℕ, zero, suc, ◌≡◌, ◌==◌, ◌<◌, ◌≤◌, inl, inr, subst, ◌+◌, true, false, cond, refl, ap, sym, ◌∙◌, length, List, [], ◌∷◌, ◌++◌}
use Rattle.std.proofs.Common.{append_assoc, append-nil, get_or, take, Option, Some}
use Rattle.std.specs.Prelude.{slice_get, Result, Ok, Err, OnOk}
use Rattle.std.proofs.Math.ListN.{set, length-set}
use Rattle.std.proofs.Math.Path.{fun_ext}
use Rattle.std.proofs.lemmas.Bool.{eqb-true, eqb-false, cases_lt}
use Rattle.std.proofs.lemmas.List.{take_more, get_or-set_same, get_or-set_other}
use Rattle.std.proofs.lemmas.Option.{slice_get-get_or, slice_get_past}
use Rattle.tx_events.proofs.ListLemmas.{get_set}
use Rattle.tx_events.specs.declared.End.{End}
use Rattle.tx_events.specs.declared.Event.{Event}
use Rattle.tx_events.specs.declared.Item.{Item}
use Rattle.tx_events.specs.declared.TurnKind.{TurnKind}
use Rattle.tx_events.specs.declared.What.{What}
use Rattle.tx_events.specs.Memory.{update}
use Rattle.turn_traces.specs.declared.keeper.TraceKeeper.{TraceKeeper}
use Rattle.turn_traces.specs.declared.thread_trace.ThreadTrace.{ThreadTrace}
use Rattle.turn_traces.specs.Keeper.{kept_of, kept_in, kept_at, keeping_of}
use Rattle.turn_traces.specs.Keeping.{Kept, nothing_kept, Keeping, named, kept_told, items_told, started_told, told_of}
use Rattle.turn_traces.proofs.BlockAccesses.{named_append}

pub on_ok : {T E P Q : Type 0} (r : Result T E) → (P → Q) → OnOk r P → OnOk r Q
on_ok (Ok x) f h = f h
on_ok (Err e) f h = tt

pub read_thread : (xs : List ThreadTrace) (t : ℕ) (s : ThreadTrace) → t < length xs → s ≡ get_or xs t s → kept_at xs t ≡ kept_of s
read_thread xs t s h e = ap kept_in (slice_get-get_or xs t s h) ∙ ap kept_of (sym e)

pub set_threads : (xs : List ThreadTrace) (t : ℕ) (s : ThreadTrace) → t < length xs → kept_at (set xs t s) ≡ update (kept_at xs) t (kept_of s)
set_threads xs t s h = fun_ext (λ u. ap kept_in (get_set xs t s u h)
    ∙ elim (u == t) as (λ b. kept_in (cond b (Some s) (slice_get xs u)) ≡ cond b (kept_of s) (kept_at xs u)) [ true ↦ refl | false ↦ refl ])

pub same_threads : (f : ℕ → Kept) (t : ℕ) → f ≡ update f t (f t)
same_threads f t = fun_ext (λ u. elim (u == t) as (λ b. (u == t) ≡ b → f u ≡ cond b (f t) (f u)) [
  | true ↦ λ e. ap f (eqb-true u t e)
  | false ↦ λ e. refl
] refl)

-- the keeping after a turn, by its parts
pub told_is : (old : TraceKeeper) (e : Event) (kind : TurnKind) (end : Option End) (items : List Item) (threads : ℕ → Kept) (started : ℕ)
    → items ≡ (old.items.items ++ items_told old.thread old.started e kind end (kept_at old.threads.items old.thread))
    → threads ≡ update (kept_at old.threads.items) old.thread (kept_told e kind end (kept_at old.threads.items old.thread))
    → started ≡ started_told e kind end old.started
    → ◌≡◌ {A = Keeping} (record { items = items; threads = threads; started = started; thread = old.thread; event = old.event })
    (told_of (keeping_of old) e kind end)
told_is old e kind end items threads started i t n =
    λ j. record { items = i j; threads = t j; started = n j; thread = old.thread; event = old.event }

-- a turn that changes nothing
pub still_told : (old : TraceKeeper) (e : Event) (kind : TurnKind) (end : Option End)
    → items_told old.thread old.started e kind end (kept_at old.threads.items old.thread) ≡ []
    → kept_told e kind end (kept_at old.threads.items old.thread) ≡ kept_at old.threads.items old.thread
    → started_told e kind end old.started ≡ old.started → keeping_of old ≡ told_of (keeping_of old) e kind end
still_told old e kind end i k n = told_is old e kind end old.items.items (kept_at old.threads.items) old.started
    (sym (ap (λ zs. old.items.items ++ zs) i ∙ append-nil old.items.items))
    (same_threads (kept_at old.threads.items) old.thread ∙ ap (λ x. update (kept_at old.threads.items) old.thread x) (sym k)) (sym n)

pub none_more : (xs : List ThreadTrace) (s : ThreadTrace) → kept_of s ≡ nothing_kept → ((t : ℕ) → kept_at xs t ≡ nothing_kept) → (t : ℕ)
    → kept_at (xs ++ s ∷ []) t ≡ nothing_kept
none_more [] s e h zero = e
none_more [] s e h (suc t) = refl
none_more (x ∷ xs) s e h zero = h zero
none_more (x ∷ xs) s e h (suc t) = none_more xs s e (λ u. h (suc u)) t

pub named_more : (t : ℕ) (old now after : List Item) (ws ys : List What) (i : ℕ) (d : What) → ys ≡ ws → i < length ys → now ≡ (old ++ named t (take i ws))
    → after ≡ (now ++ record { t = t; what = get_or ys i d } ∷ []) → after ≡ (old ++ named t (take (i + 1) ws))
named_more t old now after ws ys i d same h was is =
    let w = get_or ys i d in
    let one : List Item = record { t = t; what = w } ∷ [] in
    is ∙ (ap (λ zs. zs ++ one) was
    ∙ (append_assoc old (named t (take i ws)) one
    ∙ ap (λ zs. old ++ zs) (ap (λ zs. named t (take i zs) ++ one) (sym same)
    ∙ (sym (named_append t (take i ys) (w ∷ [])) ∙ (ap (named t) (sym (take_more ys i d h)) ∙ ap (λ zs. named t (take (i + 1) zs)) same)))))
