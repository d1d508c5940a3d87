-- The notes of the worked program with a call fit.
use Rattle.cpp_tree.specs.cpp_types.Typ.{typ, void}
use Rattle.std.proofs.Common.{ℕ, zero, suc, ◌≡◌, ◌^◌, ◌<◌, inl, Bool, true, false, refl, ap, sym, ◌∙◌, subst, [], ◌∷◌, Option, Some, arith}
use Rattle.std.specs.Prelude.{slice_get, map}
use Rattle.tx_code.specs.Renaming.{itself, renamed_row}
use Rattle.tx_code.specs.declared.instr.Instr.TheVariants.{Push, Call, Ret}
use Rattle.tx_code.specs.Objects.{BodyView}
use Rattle.cpp_tree.specs.cpp_layout.Layout.{function_address}
use Rattle.symbolic_source.specs.Terms.{number, variable, unknown}
use Rattle.symbolic_source.specs.Small.{IsSmall}
use Rattle.symbolic_source.specs.Replacing.{Replacing}
use Rattle.body_check.proofs.Landing.{equally}
use Rattle.body_check.specs.Notes.{Note, Bounds, no_answers}
use Rattle.body_check.proofs.Main.{cancels_same}
use Rattle.body_check.specs.Calls.{by_return, NoteFits, Checked, Links, Begins}
use Rattle.body_check.specs.Pair.{calling_func, one_func, number_of, named, func_of, body_of, calling_body, pair_program, pair_names, behind_call, call_note}
use Rattle.body_check.specs.Pair.{back_note, push_note, ret_note, pair_book}

pub bounds : Bounds
bounds = record { half = 8; longest = 16; both = omega arith; most = 1 }

same : Replacing
same = record { word = λ n. variable n; exception = λ n. unknown n }

note_same : (a b : Note) → ◌≡◌ {A = Option Note} (Some a) (Some b) → a ≡ b
note_same a b e = cc

abbrev Fit : ℕ → Bool → ℕ → Note → Type 0
Fit n safe at note = NoteFits pair_program bounds pair_book (pair_book.held n safe) note

call_fits : (safe : Bool) → Fit 0 safe 0 call_note
unfolding bounds same
call_fits safe = record {
  instr = Call 1 0;
  is = refl;
  short = omega arith;
  foreseen = refl;
  fits = record {
    callee = 1;
    named = refl;
    words = [];
    under = [];
    temporaries = [];
    others = behind_call;
    outcome_is = refl;
    operands_are = refl;
    taken = refl;
    behind = record {
      back = record {
        lands = (equally pair_program calling_func bounds (call_note ∷ back_note ∷ []) (λ t. true)
            (record {
              at = 1;
              note = back_note;
              is = refl;
              there = refl;
              lag = 1;
              terms = same;
              types = λ n. tt;
              same_place = refl;
              same_facts = tt;
              same_outcome = refl;
              foreseen = refl;
              low = omega arith;
            }));
        some = omega arith;
        short = omega arith;
      };
      thrown = λ may. record {
        rank = 0;
        low = omega arith;
        fits = λ t is may. record {
          answers = no_answers;
          right = λ n handler answer e. absurd cc;
          found = record { lag = 2; temporaries = []; is = refl; short = omega arith };
        };
      };
      opens = refl;
      caught = refl;
      type = tt;
    };
  };
}

back_fits : (safe : Bool) → Fit 0 safe 1 back_note
unfolding bounds
back_fits safe = record { instr = Ret 1; is = refl; short = omega arith; foreseen = refl; fits = (refl, (variable 0, [], refl, by_return)) }

push_fits : (n : ℕ) (safe : Bool) → Fit (suc n) safe 0 push_note
unfolding bounds same
push_fits n safe = record {
  instr = Push 1;
  is = refl;
  short = omega arith;
  foreseen = refl;
  fits = record {
    lands = (equally pair_program one_func bounds (push_note ∷ ret_note ∷ []) (λ t. true)
        (record {
          at = 1;
          note = ret_note;
          is = refl;
          there = refl;
          lag = 0;
          terms = same;
          types = λ n. tt;
          same_place = refl;
          same_facts = tt;
          same_outcome =
              refl;
          foreseen = refl;
          low = omega arith;
        }));
    short = omega arith;
    goes_on = inl (omega arith);
  };
}

ret_fits : (n : ℕ) (safe : Bool) → Fit (suc n) safe 1 ret_note
unfolding bounds
ret_fits n safe = record { instr = Ret 1; is = refl; short = omega arith; foreseen = refl; fits = (refl, (number 1, [], refl, by_return)) }

fit_main : (safe : Bool) (index : ℕ) (note : Note) → slice_get (call_note ∷ back_note ∷ []) index ≡ Some note → Fit 0 safe index note
fit_main safe zero note e = subst (λ z. Fit 0 safe 0 z) (note_same call_note note e) (call_fits safe)
fit_main safe (suc zero) note e = subst (λ z. Fit 0 safe 1 z) (note_same back_note note e) (back_fits safe)
fit_main safe (suc (suc k)) note e = absurd cc

fit_one : (n : ℕ) (safe : Bool) (index : ℕ) (note : Note) → slice_get (push_note ∷ ret_note ∷ []) index ≡ Some note → Fit (suc n) safe index note
fit_one n safe zero note e = subst (λ z. Fit (suc n) safe 0 z) (note_same push_note note e) (push_fits n safe)
fit_one n safe (suc zero) note e = subst (λ z. Fit (suc n) safe 1 z) (note_same ret_note note e) (ret_fits n safe)
fit_one n safe (suc (suc k)) note e = absurd cc

-- both bodies are checked: main, and the function that it calls
pub pair_checked : (n : ℕ) (safe : Bool) → Checked pair_program bounds pair_book (pair_book.held n safe)
unfolding bounds
pair_checked zero safe = record {
  entry = record { facts_are = refl; first = refl; note = call_note; is = refl; place_is = refl; outcome_is = refl; foreseen = refl; low = omega arith };
  notes = λ index note e. fit_main safe index note e;
}
pair_checked (suc n) safe = record {
  entry = record { facts_are = refl; first = refl; note = push_note; is = refl; place_is = refl; outcome_is = refl; foreseen = refl; low = omega arith };
  notes = λ index note e. fit_one n safe index note e;
}

pub called_right : (name callee : ℕ) → named name ≡ Some callee → name ≡ number_of callee
called_right zero callee e = absurd cc
called_right (suc zero) callee e = let one : 1 ≡ callee = cc in ap number_of one
called_right (suc (suc k)) callee e = absurd cc

pub small_function : (n : ℕ) → function_address (number_of n) < 2 ^ 64
small_function zero = omega arith
small_function (suc n) = omega arith

body_there : (n : ℕ) (body : BodyView) → ◌≡◌ {A = Option BodyView} (Some (body_of n)) (Some body) → body_of n ≡ body
body_there n body e = cc

pub pair_links : Links pair_program pair_names bounds pair_book
pair_links = record {
  bodies = λ n safe body e. body_there n body e;
  funcs = λ n safe body e. refl;
  numbers = λ n safe. refl;
  safes = λ n safe. refl;
  frames = λ n safe. size_of n;
  rows = λ n safe body e. ap (λ (z : BodyView). map (renamed_row itself) z.rows) (sym (body_there n body e)) ∙ no_rows n;
  stops = λ n safe. no_stops n;
  stops_so = λ n safe. sym (no_stops n);
  cancels = λ t h. cancels_same t;
  one_type = (typ void false false, refl);
  checked = λ n safe body e. pair_checked n safe;
  names = λ n safe. record {
    globals = λ s m e. absurd cc;
    functions = λ s m e. ap function_address (called_right s m e);
    classes = λ s m e. absurd cc;
    types =
        λ s t e. absurd cc;
    addresses = λ n. refl;
    slots = λ s class e a slot. absurd cc;
    spawned = λ a. refl;
    signatures = λ s sig e a. absurd cc;
    methods =
        λ s class slot a n e. absurd cc;
  };
  called = λ n safe name callee e. called_right name callee e;
  plain_there = λ n safe name callee e. (body_of (number_of callee), refl);
  pointed = λ a n sig count gives t e. absurd cc;
  slotted = λ a class slot n count gives t e. absurd cc;
  safe_bodies = λ n. all_safe n;
}
  where
    size_of : (n : ℕ) → 16 ≡ (func_of n).size
    size_of zero = refl
    size_of (suc n) = refl

    no_rows : (n : ℕ) → map (renamed_row itself) (body_of n).rows ≡ []
    no_rows zero = refl
    no_rows (suc n) = refl

    all_safe : (n : ℕ) → (func_of n).safe ≡ true
    all_safe zero = refl
    all_safe (suc n) = refl

    no_stops : (n : ℕ) → false ≡ (func_of n).stops
    no_stops zero = refl
    no_stops (suc n) = refl

pub pair_small : IsSmall pair_program
pair_small = record { globals = λ u n. omega arith; functions = λ u n. small_function n; tables = λ c. omega arith; slots = λ a c s n e. absurd cc }

pub pair_begins : Begins pair_program pair_names pair_book 0 0 []
pair_begins = record { body = calling_body; there = refl; gives = refl; takes = refl; starts = refl; ends = refl; room = refl }
