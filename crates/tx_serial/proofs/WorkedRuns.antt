-- The worked runs. What a search over all addresses finds is proved, and the rest is computed.
use Rattle.std.proofs.Common.{
  ℕ,
  zero,
  suc,
  ◌≡◌,
  ◌==◌,
  ◌<◌,
  ◌≤◌,
  lit<,
  inl,
  inr,
  Bool,
  true,
  false,
  refl,
  ap,
  sym,
  ◌∙◌,
  List,
  [],
  ◌∷◌,
  Option,
  Some,
  None,
  arith,
}
use Rattle.std.proofs.lemmas.Bool.{eqb-true, true≢false, cases_lt}
use Rattle.tx_events.specs.declared.Event.{Event}
use Rattle.tx_events.specs.declared.Event.TheVariants.{Store, EndAtomic, Done}
use Rattle.tx_events.specs.declared.TurnKind.{TurnKind}
use Rattle.tx_events.specs.declared.TurnKind.TheVariants.{Ran, Waited, Rolled, Undone, Released}
use Rattle.choosers.specs.Answers.{Older, answer}
use Rattle.tx_events.specs.Memory.{update, word_of, merge, word_bound, can_access, is_mapped, is_aligned}
use Rattle.tx_serial.specs.Machine.{Save, Tx, NoTx, OpenTx, GivingUp, Closing, Local, Machine, least, is_noted, no_save, forget, hand}
use Rattle.tx_serial.specs.Turn.{Turned, steps, order_gains, gives_up, again, closes, lets_go, given_back, gives_back, without, turn, first_machine}
use Rattle.tx_serial.specs.Examples.{two_words, script, Played, plays, elder_events, younger_events, crossed, cancelled, inner_cancelled, outer_cancelled}
use Rattle.tx_serial.proofs.SearchLemmas.{eldest_none, eldest_some, eldest_le}
use Rattle.tx_serial.proofs.TurnContext.{not_true}

none_least : (f : ℕ → Bool) (n : ℕ) → ((y : ℕ) → f y ≡ false) → least f n ≡ None
none_least f zero h = refl
none_least f (suc n) h = rw (h n) (none_least f n h)

is_least : (f : ℕ → Bool) (n x : ℕ) → f x ≡ true → x < n → ((y : ℕ) → y < x → f y ≡ false) → least f n ≡ Some x
is_least f n x e less h = by_found (least f n) refl
  where
    by_found : (o : Option ℕ) → least f n ≡ o → least f n ≡ Some x
    by_found None i = absurd (true≢false (sym e ∙ eldest_none f (λ k. k) n i x less))
    by_found (Some u) i =
        let le = eldest_le f (λ k. k) n u i x less e in
        let at = eldest_some f (λ k. k) n u i in
        let ge : x ≤ u = omega (arith, below u at) in
        let same : u ≡ x = omega (arith, le, ge) in
        i ∙ ap Some same
      where
        below : (u : ℕ) → f u ≡ true → x ≤ u
        below u at = elim (cases_lt u x) as (λ z. x ≤ u) [ inl k ↦ absurd (true≢false (sym at ∙ h u k)) | inr k ↦ k ]

-- the searches below this bound
abbrev N : ℕ
N = word_bound two_words

above : 65544 < N
unfolding word_bound
above = lit< tt

-- a set of at most the two words
abbrev Within : (ℕ → Bool) → Type 0
Within f = (y : ℕ) → (y == 65536) ≡ false → (y == 65544) ≡ false → f y ≡ false

first_least : (f : ℕ → Bool) → Within f → f 65536 ≡ true → least f N ≡ Some 65536
first_least f h e = is_least f N 65536 e (let less = above in omega (arith, less))
    (λ y i. h y (not_true (y == 65536) (λ j. let k = eqb-true y 65536 j in absurd (omega (arith, i, k))))
    (not_true (y == 65544) (λ j. let k = eqb-true y 65544 j in absurd (omega (arith, i, k)))))

second_least : (f : ℕ → Bool) → Within f → f 65536 ≡ false → f 65544 ≡ true → least f N ≡ Some 65544
second_least f h d e = is_least f N 65544 e above (λ y i. elim (y == 65536) as (λ b. (y == 65536) ≡ b → f y ≡ false) [
  | true ↦ λ j. ap f (eqb-true y 65536 j) ∙ d
  | false ↦ λ j. h y j (not_true (y == 65544) (λ k. let q = eqb-true y 65544 k in absurd (omega (arith, i, q))))
] refl)

neither_least : (f : ℕ → Bool) → Within f → f 65536 ≡ false → f 65544 ≡ false → least f N ≡ None
neither_least f h d e = none_least f N (λ y. elim (y == 65536) as (λ b. (y == 65536) ≡ b → f y ≡ false) [
  | true ↦ λ j. ap f (eqb-true y 65536 j) ∙ d
  | false ↦ λ j. elim (y == 65544) as (λ b. (y == 65544) ≡ b → f y ≡ false) [
    | true ↦ λ k. ap f (eqb-true y 65544 k) ∙ e
    | false ↦ λ k. h y j k
  ] refl
] refl)

abbrev nothing : ℕ → Bool
nothing y = false

-- the words that a block holds which stored to both
abbrev both : ℕ → Bool
both = update (update nothing 65536 true) 65544 true

-- the savepoint of such a block
abbrev notes : Save
notes = update (update no_save 65536 (Some 0)) 65544 (Some 0)

two_notes : least (is_noted notes) N ≡ Some 65536
two_notes = first_least (is_noted notes) (λ y i j. rw i (rw j refl)) refl

one_note : least (is_noted (forget notes 65536)) N ≡ Some 65544
one_note = second_least (is_noted (forget notes 65536)) (λ y i j. rw i (rw j refl)) refl refl

no_note : least (is_noted (forget (forget notes 65536) 65544)) N ≡ None
no_note = neither_least (is_noted (forget (forget notes 65536) 65544)) (λ y i j. rw i (rw j refl)) refl refl

two_held : least both N ≡ Some 65536
two_held = first_least both (λ y i j. rw i (rw j refl)) refl

one_held : least (without both 65536) N ≡ Some 65544
one_held = second_least (without both 65536) (λ y i j. rw i (rw j refl)) refl refl

pub cancelled_is : cancelled ≡ record {
  kinds = Ran ∷ Ran ∷ Ran ∷ Undone 65536 ∷ Undone 65544 ∷ Ran ∷ Released 65536 ∷ Released 65544 ∷ [];
  order = 0 ∷ [];
  births = 1;
  first_word = 0;
  second_word = 0;
}
unfolding word_of merge can_access is_mapped is_aligned
cancelled_is = rw two_notes (rw one_note (rw no_note (rw two_held (rw two_held (rw one_held (rw one_held refl))))))

-- A block in a block. The first word alone is held and noted:

one_word : (f : ℕ → Bool) → ((y : ℕ) → (y == 65536) ≡ false → f y ≡ false) → f 65536 ≡ true → least f N ≡ Some 65536
one_word f h e = first_least f (λ y i j. h y i) e

no_word : (f : ℕ → Bool) → ((y : ℕ) → (y == 65536) ≡ false → f y ≡ false) → f 65536 ≡ false → least f N ≡ None
no_word f h e = neither_least f (λ y i j. h y i) e (h 65544 refl)

abbrev inner_save : Save
inner_save = update no_save 65536 (Some 1)

abbrev outer_save : Save
outer_save = update no_save 65536 (Some 0)

inner_noted : least (is_noted inner_save) N ≡ Some 65536
inner_noted = one_word (is_noted inner_save) (λ y i. rw i refl) refl

inner_bare : least (is_noted (forget inner_save 65536)) N ≡ None
inner_bare = no_word (is_noted (forget inner_save 65536)) (λ y i. rw i refl) refl

twice_held : least (update (update nothing 65536 true) 65536 true) N ≡ Some 65536
twice_held = one_word (update (update nothing 65536 true) 65536 true) (λ y i. rw i refl) refl

pub inner_cancelled_is : inner_cancelled ≡ record {
  kinds = Ran ∷ Ran ∷ Ran ∷ Ran ∷ Undone 65536 ∷ Ran ∷ Ran ∷ Released 65536 ∷ [];
  order = 0 ∷ [];
  births = 1;
  first_word = 1;
  second_word = 0;
}
unfolding word_of merge can_access is_mapped is_aligned
inner_cancelled_is = rw inner_noted (rw inner_bare (rw twice_held (rw twice_held refl)))

handed_noted : least (is_noted (hand outer_save no_save)) N ≡ Some 65536
handed_noted = one_word (is_noted (hand outer_save no_save)) (λ y i. rw i refl) refl

handed_bare : least (is_noted (forget (hand outer_save no_save) 65536)) N ≡ None
handed_bare = no_word (is_noted (forget (hand outer_save no_save) 65536)) (λ y i. rw i refl) refl

once_held : least (update nothing 65536 true) N ≡ Some 65536
once_held = one_word (update nothing 65536 true) (λ y i. rw i refl) refl

pub outer_cancelled_is : outer_cancelled ≡ record {
  kinds = Ran ∷ Ran ∷ Ran ∷ Ran ∷ Undone 65536 ∷ Ran ∷ Released 65536 ∷ [];
  order = 0 ∷ [];
  births = 1;
  first_word = 0;
  second_word = 0;
}
unfolding word_of merge can_access is_mapped is_aligned
outer_cancelled_is = rw handed_noted (rw handed_bare (rw once_held (rw once_held refl)))

-- The crossed run. The words of thread 1 where it gives up, and once it has let go of them, and those of thread 0 once
-- it has let go of all:

younger_held : least (update nothing 65544 true) N ≡ Some 65544
younger_held = second_least (update nothing 65544 true) (λ y i j. rw j refl) refl refl

younger_bare : least (without (update nothing 65544 true) 65544) N ≡ None
younger_bare = neither_least (without (update nothing 65544 true) 65544) (λ y i j. rw j refl) refl refl

none_held : least (without (without both 65536) 65544) N ≡ None
none_held = neither_least (without (without both 65536) 65544) (λ y i j. rw i (rw j refl)) refl refl

-- Thread 1 where it gives up, and thread 0 at the end of its block.

abbrev kept : List Event
kept = Store 65544 8 3 false ∷ Store 65536 8 4 false ∷ EndAtomic ∷ Done ∷ []

abbrev save : Save
save = update no_save 65544 (Some 0)

abbrev one : Local (List Event)
one = record {
  state = Store 65536 8 4 false ∷ EndAtomic ∷ Done ∷ [];
  ended = false;
  held = update nothing 65544 true;
  wrote = update nothing 65544 true;
  tx = OpenTx 1 kept (save ∷ []);
}

abbrev giving : Local (List Event)
giving = record one { tx = GivingUp 1 kept (save ∷ []) }

abbrev zero_with : (ℕ → Bool) → Tx (List Event) → Local (List Event)
zero_with held tx = record { state = []; ended = false; held = held; wrote = held; tx = tx }

-- The machine after each turn in which a search decides.

abbrev takes : ℕ → Machine (List Event) → Turned (List Event)
takes t m = turn (script younger_events) two_words (answer Older) t m

abbrev goes : ℕ → Machine (List Event) → Machine (List Event)
goes t m = (takes t m).machine

abbrev after_6 : Machine (List Event)
after_6 = goes 0 (goes 1 (goes 0 (goes 1 (goes 0 (goes 0 (first_machine (λ x. 0) [] elder_events))))))

abbrev after_7 : Machine (List Event)
after_7 = steps 1 after_6 giving

abbrev after_8 : Machine (List Event)
after_8 = record (steps 1 after_7 (again giving 1 kept)) { memory = update after_7.memory 65544 0 }

abbrev after_9 : Machine (List Event)
after_9 = goes 0 after_8

abbrev after_10 : Machine (List Event)
after_10 = order_gains 0 (steps 0 after_9 (zero_with both (Closing 0)))

abbrev after_11 : Machine (List Event)
after_11 = steps 0 after_10 (zero_with (without both 65536) (Closing 0))

abbrev after_12 : Machine (List Event)
after_12 = steps 0 after_11 (zero_with (without (without both 65536) 65544) NoTx)

rolled : takes 1 after_6 ≡ record { machine = after_7; kind = Rolled 65536 0 }
unfolding word_of merge can_access is_mapped is_aligned
rolled = ap (λ o. record { machine = steps 1 after_6 (gives_up one 1 kept (save ∷ []) o); kind = Rolled 65536 0 }) younger_held

undone : takes 1 after_7 ≡ record { machine = after_8; kind = Undone 65544 }
unfolding word_of merge can_access is_mapped is_aligned
undone =
    ap (λ o. gives_back two_words 1 after_7 giving 1 kept (save ∷ []) o) younger_held
    ∙ ap (λ o. record {
      machine = record (steps 1 after_7 (given_back giving 1 kept (save ∷ []) 65544 o)) { memory = update after_7.memory 65544 0 };
      kind = Undone 65544;
    }) younger_bare

ended : takes 0 after_9 ≡ record { machine = after_10; kind = Ran }
unfolding word_of merge can_access is_mapped is_aligned
ended = ap (λ o. record { machine = order_gains 0 (steps 0 after_9 (zero_with both (closes 0 o))); kind = Ran }) two_held

released : takes 0 after_10 ≡ record { machine = after_11; kind = Released 65536 }
unfolding word_of merge can_access is_mapped is_aligned
released =
    ap (λ o. lets_go two_words 0 after_10 (zero_with both (Closing 0)) 0 o) two_held
    ∙ ap (λ o. record { machine = steps 0 after_10 (zero_with (without both 65536) (closes 0 o)); kind = Released 65536 }) one_held

gone : takes 0 after_11 ≡ record { machine = after_12; kind = Released 65544 }
unfolding word_of merge can_access is_mapped is_aligned
gone =
    ap (λ o. lets_go two_words 0 after_11 (zero_with (without both 65536) (Closing 0)) 0 o) one_held
    ∙ ap (λ o. record { machine = steps 0 after_11 (zero_with (without (without both 65536) 65544) (closes 0 o)); kind = Released 65544 }) none_held

-- one turn of the run, and those behind it

abbrev also : TurnKind → Played → Played
also kind r = record r { kinds = kind ∷ r.kinds }

abbrev with_rest : List ℕ → Turned (List Event) → Played
with_rest ts z = also z.kind (plays younger_events ts z.machine)

plays_on : (t : ℕ) (ts : List ℕ) (m m' : Machine (List Event)) (kind : TurnKind) (rest : Played) → takes t m ≡ record { machine = m'; kind = kind }
    → plays younger_events ts m' ≡ rest → plays younger_events (t ∷ ts) m ≡ also kind rest
plays_on t ts m m' kind rest e f = ap (with_rest ts) e ∙ ap (also kind) f

abbrev both_words : List TurnKind → Played
both_words kinds = record { kinds = kinds; order = 0 ∷ 0 ∷ 1 ∷ []; births = 2; first_word = 4; second_word = 3 }

last_turns : plays younger_events (1 ∷ 1 ∷ 1 ∷ []) after_12 ≡ both_words (Ran ∷ Ran ∷ Ran ∷ [])
unfolding word_of merge can_access is_mapped is_aligned
last_turns = refl

from_9 : plays younger_events (0 ∷ 0 ∷ 0 ∷ 1 ∷ 1 ∷ 1 ∷ []) after_9 ≡ both_words (Ran ∷ Released 65536 ∷ Released 65544 ∷ Ran ∷ Ran ∷ Ran ∷ [])
from_9 =
    plays_on 0 (0 ∷ 0 ∷ 1 ∷ 1 ∷ 1 ∷ []) after_9 after_10 Ran _ ended
    (plays_on 0 (0 ∷ 1 ∷ 1 ∷ 1 ∷ []) after_10 after_11 (Released 65536) _ released
    (plays_on 0 (1 ∷ 1 ∷ 1 ∷ []) after_11 after_12 (Released 65544) _ gone last_turns))

from_6 : plays younger_events (1 ∷ 1 ∷ 0 ∷ 0 ∷ 0 ∷ 0 ∷ 1 ∷ 1 ∷ 1 ∷ []) after_6
    ≡ both_words (Rolled 65536 0 ∷ Undone 65544 ∷ Ran ∷ Ran ∷ Released 65536 ∷ Released 65544 ∷ Ran ∷ Ran ∷ Ran ∷ [])
unfolding word_of merge can_access is_mapped is_aligned
from_6 =
    plays_on 1 (1 ∷ 0 ∷ 0 ∷ 0 ∷ 0 ∷ 1 ∷ 1 ∷ 1 ∷ []) after_6 after_7 (Rolled 65536 0) _ rolled
    (plays_on 1 (0 ∷ 0 ∷ 0 ∷ 0 ∷ 1 ∷ 1 ∷ 1 ∷ []) after_7 after_8 (Undone 65544) _ undone
    (plays_on 0 (0 ∷ 0 ∷ 0 ∷ 1 ∷ 1 ∷ 1 ∷ []) after_8 after_9 Ran _ refl from_9))

pub crossed_is : crossed
    ≡ both_words
    (Ran ∷ Ran ∷ Ran ∷ Ran ∷ Ran ∷ Waited 65544 1 ∷ Rolled 65536 0 ∷ Undone 65544 ∷ Ran ∷ Ran ∷ Released 65536 ∷ Released 65544 ∷ Ran ∷ Ran ∷ Ran ∷ [])
unfolding word_of merge can_access is_mapped is_aligned
crossed_is = ap (λ r. also Ran (also Ran (also Ran (also Ran (also Ran (also (Waited 65544 1) r)))))) from_6
