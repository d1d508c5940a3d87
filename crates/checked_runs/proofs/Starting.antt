-- The notes of the worked program that starts a thread fit, and its threads can begin.
use Rattle.std.proofs.Common.{ℕ, zero, suc, ◌≡◌, inl, inr, Bool, true, false, not, refl, ap, sym, ◌∙◌, subst, [], ◌∷◌, Option, Some, arith, ◌==◌, cond, None}
use Rattle.std.specs.Prelude.{◌&&◌, slice_get, map}
use Rattle.std.proofs.lemmas.Bool.{and_parts, eqb-true, true≢false}
use Rattle.tx_code.specs.Renaming.{itself, renamed_row}
use Rattle.tx_code.specs.declared.instr.Instr.TheVariants.{FuncAddr, Push, Spawn, Ret, FrameAddr, Swap, Store}
use Rattle.tx_code.specs.Objects.{BodyView}
use Rattle.cpp_tree.specs.cpp_types.Typ.{typ, void}
use Rattle.cpp_tree.specs.cpp_layout.Layout.{function_address}
use Rattle.symbolic_source.specs.Terms.{variable, unknown}
use Rattle.symbolic_source.specs.Small.{IsSmall}
use Rattle.symbolic_source.specs.Replacing.{Replacing}
use Rattle.body_check.proofs.Landing.{equally}
use Rattle.body_check.proofs.Main.{cancels_same}
use Rattle.body_check.proofs.Pair.{called_right, small_function}
use Rattle.body_check.specs.Notes.{Note, Bounds}
use Rattle.body_check.specs.Calls.{by_return, by_end, NoteFits, Checked, Links, Whole}
use Rattle.body_check.specs.Pair.{number_of}
use Rattle.checked_runs.specs.Beginnings.{CanBegin, CanStart}
use Rattle.checked_runs.specs.Starting.{main_func, thread_func, func_of, main_body, thread_body, body_of, starting_program, starting_names, address_note}
use Rattle.checked_runs.specs.Starting.{argument_note, start_note, back_note, word_note, swap_note, store_note, end_note, starting_book}

pub bounds : Bounds
bounds = record { half = 8; longest = 16; both = omega arith; most = 2 }

same : Replacing
same = record { word = λ n. variable n; exception = λ n. unknown n }

note_same : (a b : Note) → ◌≡◌ {A = Option Note} (Some a) (Some b) → a ≡ b
note_same a b e = cc

abbrev Fit : ℕ → Bool → Note → Type 0
Fit n safe note = NoteFits starting_program bounds starting_book (starting_book.held n safe) note

address_fits : (safe : Bool) → Fit 0 safe address_note
unfolding bounds same
address_fits safe = record {
  instr = FuncAddr 1;
  is = refl;
  short = omega arith;
  foreseen = refl;
  fits = record {
    lands = equally starting_program main_func bounds (address_note ∷ argument_note ∷ start_note ∷ back_note ∷ []) (λ t. true)
        (record {
          at = 1;
          note = argument_note;
          is = refl;
          there = refl;
          lag = 0;
          terms = same;
          types = λ n. tt;
          same_place = refl;
          same_facts = tt;
          same_outcome = refl;
          foreseen = refl;
          low = omega arith;
        });
    short = omega arith;
    goes_on = inl (omega arith);
  };
}

argument_fits : (safe : Bool) → Fit 0 safe argument_note
unfolding bounds same
argument_fits safe = record {
  instr = Push 0;
  is = refl;
  short = omega arith;
  foreseen = refl;
  fits = record {
    lands = equally starting_program main_func bounds (address_note ∷ argument_note ∷ start_note ∷ back_note ∷ []) (λ t. true)
        (record {
          at = 2;
          note = start_note;
          is = refl;
          there = refl;
          lag = 0;
          terms = same;
          types = λ n. tt;
          same_place = refl;
          same_facts = tt;
          same_outcome =
              refl;
          foreseen = refl;
          low = omega arith;
        });
    short = omega arith;
    goes_on = inr (omega arith);
  };
}

start_fits : (safe : Bool) → Fit 0 safe start_note
unfolding bounds same
start_fits safe = record {
  instr = Spawn;
  is = refl;
  short = omega arith;
  foreseen = refl;
  fits = (
    equally starting_program main_func bounds (address_note ∷ argument_note ∷ start_note ∷ back_note ∷ []) (λ t. true)
        (record {
          at = 3;
          note = back_note;
          is = refl;
          there = refl;
          lag = 0;
          terms = same;
          types = λ n. tt;
          same_place = refl;
          same_facts = tt;
          same_outcome =
              refl;
          foreseen = refl;
          low = omega arith;
        }),
    refl,
  );
}

back_fits : (safe : Bool) → Fit 0 safe back_note
unfolding bounds
back_fits safe = record { instr = Ret 1; is = refl; short = omega arith; foreseen = refl; fits = (refl, (variable 0, [], refl, by_return)) }

word_fits : (n : ℕ) (safe : Bool) → Fit (suc n) safe word_note
unfolding bounds same
word_fits n safe = record {
  instr = FrameAddr 0;
  is = refl;
  short = omega arith;
  foreseen = refl;
  fits = record {
    lands = equally starting_program thread_func bounds (word_note ∷ swap_note ∷ store_note ∷ end_note ∷ []) (λ t. true)
        (record {
          at = 1;
          note = swap_note;
          is = refl;
          there = refl;
          lag = 0;
          terms = same;
          types = λ n. tt;
          same_place = refl;
          same_facts = tt;
          same_outcome =
              refl;
          foreseen = refl;
          low = omega arith;
        });
    short = omega arith;
    goes_on = inr (omega arith);
  };
}

swap_fits : (n : ℕ) (safe : Bool) → Fit (suc n) safe swap_note
unfolding bounds same
swap_fits n safe = record {
  instr = Swap;
  is = refl;
  short = omega arith;
  foreseen = refl;
  fits = record {
    lands = equally starting_program thread_func bounds (word_note ∷ swap_note ∷ store_note ∷ end_note ∷ []) (λ t. true)
        (record {
          at = 2;
          note = store_note;
          is = refl;
          there = refl;
          lag = 0;
          terms = same;
          types = λ n. tt;
          same_place = refl;
          same_facts = tt;
          same_outcome =
              refl;
          foreseen = refl;
          low = omega arith;
        });
    short = omega arith;
    goes_on = inr (omega arith);
  };
}

store_fits : (n : ℕ) (safe : Bool) → Fit (suc n) safe store_note
unfolding bounds same
store_fits n safe = record {
  instr = Store 8;
  is = refl;
  short = omega arith;
  foreseen = refl;
  fits = (
    refl,
    equally starting_program thread_func bounds (word_note ∷ swap_note ∷ store_note ∷ end_note ∷ []) (λ t. true)
        (record {
          at = 3;
          note = end_note;
          is = refl;
          there = refl;
          lag = 0;
          terms = same;
          types = λ n. tt;
          same_place = refl;
          same_facts = tt;
          same_outcome =
              refl;
          foreseen = refl;
          low = omega arith;
        }),
    refl,
  );
}

end_fits : (n : ℕ) (safe : Bool) → Fit (suc n) safe end_note
unfolding bounds
end_fits n safe = record { instr = Ret 0; is = refl; short = omega arith; foreseen = refl; fits = (refl, by_end) }

fit_main : (safe : Bool) (index : ℕ) (note : Note) → slice_get (address_note ∷ argument_note ∷ start_note ∷ back_note ∷ []) index ≡ Some note → Fit 0 safe note
fit_main safe zero note e = subst (λ z. Fit 0 safe z) (note_same address_note note e) (address_fits safe)
fit_main safe (suc zero) note e = subst (λ z. Fit 0 safe z) (note_same argument_note note e) (argument_fits safe)
fit_main safe (suc (suc zero)) note e = subst (λ z. Fit 0 safe z) (note_same start_note note e) (start_fits safe)
fit_main safe (suc (suc (suc zero))) note e = subst (λ z. Fit 0 safe z) (note_same back_note note e) (back_fits safe)
fit_main safe (suc (suc (suc (suc k)))) note e = absurd cc

fit_thread : (n : ℕ) (safe : Bool) (index : ℕ) (note : Note) → slice_get (word_note ∷ swap_note ∷ store_note ∷ end_note ∷ []) index ≡ Some note
    → Fit (suc n) safe note
fit_thread n safe zero note e = subst (λ z. Fit (suc n) safe z) (note_same word_note note e) (word_fits n safe)
fit_thread n safe (suc zero) note e = subst (λ z. Fit (suc n) safe z) (note_same swap_note note e) (swap_fits n safe)
fit_thread n safe (suc (suc zero)) note e = subst (λ z. Fit (suc n) safe z) (note_same store_note note e) (store_fits n safe)
fit_thread n safe (suc (suc (suc zero))) note e = subst (λ z. Fit (suc n) safe z) (note_same end_note note e) (end_fits n safe)
fit_thread n safe (suc (suc (suc (suc k)))) note e = absurd cc

checked : (n : ℕ) (safe : Bool) → Checked starting_program bounds starting_book (starting_book.held n safe)
unfolding bounds
checked zero safe = record {
  entry = record { facts_are = refl; first = refl; note = address_note; is = refl; place_is = refl; outcome_is = refl; foreseen = refl; low = omega arith };
  notes = λ index note e. fit_main safe index note e;
}
checked (suc n) safe = record {
  entry = record { facts_are = refl; first = refl; note = word_note; is = refl; place_is = refl; outcome_is = refl; foreseen = refl; low = omega arith };
  notes = λ index note e. fit_thread n safe index note e;
}

-- the one function with an address is that of the thread
found_first : (t : Bool) (n : ℕ) → cond t (Some 1) None ≡ Some n → 1 ≡ n
found_first true n e = cc
found_first false n e = absurd cc

no_word : (gives : Bool) → not gives ≡ true → false ≡ gives
no_word true e = absurd (true≢false (sym e))
no_word false e = refl

takes_one : (n count : ℕ) (gives : Bool) → ((count == 1) && not gives) ≡ true → 1 ≡ n → Whole starting_names starting_book n count gives
takes_one n count gives e i =
    let both = and_parts (count == 1) (not gives) e in
    subst (λ z. Whole starting_names starting_book n z gives) (sym (eqb-true count 1 both.0))
    (subst (λ z. Whole starting_names starting_book n 1 z) (no_word gives both.1)
    (subst (λ z. Whole starting_names starting_book z 1 false) i (record { body = thread_body; there = refl; takes = refl; gives_so = refl })))

body_there : (n : ℕ) (body : BodyView) → ◌≡◌ {A = Option BodyView} (Some (body_of n)) (Some body) → body_of n ≡ body
body_there n body e = cc

pub starting_links : Links starting_program starting_names bounds starting_book
starting_links = record {
  bodies = λ n safe body e. body_there n body e;
  funcs = λ n safe body e. refl;
  numbers = λ n safe. refl;
  safes = λ n safe. refl;
  frames = λ n safe. size_of n;
  rows = λ n safe body e. ap (λ (z : BodyView). map (renamed_row itself) z.rows) (sym (body_there n body e)) ∙ no_rows n;
  stops = λ n safe. no_stops n;
  stops_so = λ n safe. sym (no_stops n);
  cancels = λ t h. cancels_same t;
  one_type = (typ void false false, refl);
  checked = λ n safe body e. checked n safe;
  names = λ n safe. record {
    globals = λ s m e. absurd cc;
    functions = λ s m e. ap function_address (called_right s m e);
    classes = λ s m e. absurd cc;
    types =
        λ s t e. absurd cc;
    addresses = λ n. refl;
    slots = λ s class e a slot. absurd cc;
    spawned = λ a. refl;
    signatures = λ s sig e a. refl;
    methods =
        λ s class slot a n e. absurd cc;
  };
  called = λ n safe name callee e. called_right name callee e;
  plain_there = λ n safe name callee e. (body_of (number_of callee), refl);
  pointed = λ a n sig count gives t e. takes_one n count gives t (found_first (a == function_address 1) n e);
  slotted = λ a class slot n count gives t e. absurd cc;
  safe_bodies = λ n. all_safe n;
}
  where
    size_of : (n : ℕ) → 16 ≡ (func_of n).size
    size_of zero = refl
    size_of (suc n) = refl

    no_rows : (n : ℕ) → map (renamed_row itself) (body_of n).rows ≡ []
    no_rows zero = refl
    no_rows (suc n) = refl

    all_safe : (n : ℕ) → (func_of n).safe ≡ true
    all_safe zero = refl
    all_safe (suc n) = refl

    no_stops : (n : ℕ) → false ≡ (func_of n).stops
    no_stops zero = refl
    no_stops (suc n) = refl

pub starting_small : IsSmall starting_program
starting_small = record { globals = λ u n. omega arith; functions = λ u n. small_function n; tables = λ c. omega arith; slots = λ a c s n e. absurd cc }

pub starting_can : CanStart starting_program starting_names starting_book
starting_can = record {
  stacks = record { starts = λ t. refl; ends = λ t. refl };
  main = record { body = main_body; there = refl; gives_so = refl; takes_so = refl; room = omega arith };
  started = λ a n e. subst (λ z. CanBegin starting_names starting_book z false 1) (found_first (a == function_address 1) n e)
      (record { body = thread_body; there = refl; gives_so = refl; takes_so = refl; room = omega arith });
}
