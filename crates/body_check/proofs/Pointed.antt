-- The notes of the worked program with a call by an address fit.
use Rattle.std.proofs.lemmas.Bool.{and_parts, eqb-true}
use Rattle.cpp_tree.specs.cpp_types.Typ.{typ, void}
use Rattle.std.proofs.Common.{ℕ, zero, suc, ◌≡◌, inl, Bool, true, false, refl, ap, sym, ◌∙◌, subst, [], ◌∷◌, Option, Some, arith, ◌==◌, cond, None}
use Rattle.std.specs.Prelude.{◌&&◌, slice_get, map}
use Rattle.tx_code.specs.Renaming.{itself, renamed_row}
use Rattle.tx_code.specs.declared.instr.Instr.TheVariants.{Push, FuncAddr, CallIndirect, Ret}
use Rattle.tx_code.specs.Objects.{BodyView}
use Rattle.cpp_tree.specs.cpp_layout.Layout.{function_address}
use Rattle.symbolic_source.specs.Terms.{number, variable, unknown, function}
use Rattle.symbolic_source.specs.Small.{IsSmall}
use Rattle.symbolic_source.specs.Replacing.{Replacing}
use Rattle.body_check.proofs.Landing.{equally}
use Rattle.body_check.specs.Notes.{Note, Bounds, no_answers}
use Rattle.body_check.proofs.Main.{cancels_same}
use Rattle.body_check.proofs.Pair.{called_right, small_function}
use Rattle.body_check.specs.Pair.{one_func, number_of, one_body}
use Rattle.symbolic_source.specs.Frames.{pointer}
use Rattle.body_check.specs.Calls.{by_return, NoteFits, Checked, Links, Begins, by_pointer, Whole}
use Rattle.body_check.specs.Pointed.{pointing_func, func_of, body_of, pointing_body, pointed_program, pointed_names, behind_call, call_note, back_note}
use Rattle.body_check.specs.Pointed.{push_note, ret_note, pointed_book, one_signature, address_note}

pub bounds : Bounds
bounds = record { half = 8; longest = 16; both = omega arith; most = 1 }

same : Replacing
same = record { word = λ n. variable n; exception = λ n. unknown n }

note_same : (a b : Note) → ◌≡◌ {A = Option Note} (Some a) (Some b) → a ≡ b
note_same a b e = cc

abbrev Fit : ℕ → Bool → ℕ → Note → Type 0
Fit n safe at note = NoteFits pointed_program bounds pointed_book (pointed_book.held n safe) note

address_fits : (safe : Bool) → Fit 0 safe 0 address_note
unfolding bounds same
address_fits safe = record {
  instr = FuncAddr 1;
  is = refl;
  short = omega arith;
  foreseen = refl;
  fits = record {
    lands = equally pointed_program pointing_func bounds (address_note ∷ call_note ∷ back_note ∷ []) (λ t. true)
        (record {
          at = 1;
          note = call_note;
          is = refl;
          there = refl;
          lag = 0;
          terms = same;
          types = λ n. tt;
          same_place = refl;
          same_facts = tt;
          same_outcome =
              refl;
          foreseen = refl;
          low = omega arith;
        });
    short = omega arith;
    goes_on = inl (omega arith);
  };
}

call_fits : (safe : Bool) → Fit 0 safe 1 call_note
unfolding bounds same
call_fits safe = record {
  instr = CallIndirect 0 0;
  is = refl;
  short = omega arith;
  foreseen = refl;
  fits = record {
    address = function 1;
    callee = pointer (function 1) one_signature;
    gives = true;
    found = by_pointer (function 1) one_signature refl refl;
    words = [];
    under = [];
    temporaries = [];
    others = behind_call;
    outcome_is = refl;
    operands_are = refl;
    behind = record {
      back = record {
        lands = (equally pointed_program pointing_func bounds (address_note ∷ call_note ∷ back_note ∷ []) (λ t. true)
            (record {
              at = 2;
              note = back_note;
              is = refl;
              there = refl;
              lag = 1;
              terms = same;
              types = λ n. tt;
              same_place = refl;
              same_facts = tt;
              same_outcome = refl;
              foreseen = refl;
              low = omega arith;
            }));
        some = omega arith;
        short = omega arith;
      };
      thrown = λ may. record {
        rank = 0;
        low = omega arith;
        fits = λ t is may. record {
          answers = no_answers;
          right = λ n handler answer e. absurd cc;
          found = record { lag = 2; temporaries = []; is = refl; short = omega arith };
        };
      };
      opens = refl;
      caught = refl;
      type = tt;
    };
  };
}

back_fits : (safe : Bool) → Fit 0 safe 2 back_note
unfolding bounds
back_fits safe = record { instr = Ret 1; is = refl; short = omega arith; foreseen = refl; fits = (refl, (variable 0, [], refl, by_return)) }

push_fits : (n : ℕ) (safe : Bool) → Fit (suc n) safe 0 push_note
unfolding bounds same
push_fits n safe = record {
  instr = Push 1;
  is = refl;
  short = omega arith;
  foreseen = refl;
  fits = record {
    lands = (equally pointed_program one_func bounds (push_note ∷ ret_note ∷ []) (λ t. true)
        (record {
          at = 1;
          note = ret_note;
          is = refl;
          there = refl;
          lag = 0;
          terms = same;
          types = λ n. tt;
          same_place = refl;
          same_facts = tt;
          same_outcome =
              refl;
          foreseen = refl;
          low = omega arith;
        }));
    short = omega arith;
    goes_on = inl (omega arith);
  };
}

ret_fits : (n : ℕ) (safe : Bool) → Fit (suc n) safe 1 ret_note
unfolding bounds
ret_fits n safe = record { instr = Ret 1; is = refl; short = omega arith; foreseen = refl; fits = (refl, (number 1, [], refl, by_return)) }

fit_main : (safe : Bool) (index : ℕ) (note : Note) → slice_get (address_note ∷ call_note ∷ back_note ∷ []) index ≡ Some note → Fit 0 safe index note
fit_main safe zero note e = subst (λ z. Fit 0 safe 0 z) (note_same address_note note e) (address_fits safe)
fit_main safe (suc zero) note e = subst (λ z. Fit 0 safe 1 z) (note_same call_note note e) (call_fits safe)
fit_main safe (suc (suc zero)) note e = subst (λ z. Fit 0 safe 2 z) (note_same back_note note e) (back_fits safe)
fit_main safe (suc (suc (suc k))) note e = absurd cc

fit_one : (n : ℕ) (safe : Bool) (index : ℕ) (note : Note) → slice_get (push_note ∷ ret_note ∷ []) index ≡ Some note → Fit (suc n) safe index note
fit_one n safe zero note e = subst (λ z. Fit (suc n) safe 0 z) (note_same push_note note e) (push_fits n safe)
fit_one n safe (suc zero) note e = subst (λ z. Fit (suc n) safe 1 z) (note_same ret_note note e) (ret_fits n safe)
fit_one n safe (suc (suc k)) note e = absurd cc

-- both bodies are checked: main, and the function that it calls
pub pointed_checked : (n : ℕ) (safe : Bool) → Checked pointed_program bounds pointed_book (pointed_book.held n safe)
unfolding bounds
pointed_checked zero safe = record {
  entry = record { facts_are = refl; first = refl; note = address_note; is = refl; place_is = refl; outcome_is = refl; foreseen = refl; low = omega arith };
  notes = λ index note e. fit_main safe index note e;
}
pointed_checked (suc n) safe = record {
  entry = record { facts_are = refl; first = refl; note = push_note; is = refl; place_is = refl; outcome_is = refl; foreseen = refl; low = omega arith };
  notes = λ index note e. fit_one n safe index note e;
}

found_whole : (t : Bool) (n : ℕ) → cond t (Some 1) None ≡ Some n → Whole pointed_names pointed_book n 0 true
found_whole true n e =
    let same_number : 1 ≡ n = cc in
    subst (λ z. Whole pointed_names pointed_book z 0 true) same_number (record { body = one_body; there = refl; takes = refl; gives_so = refl })
found_whole false n e = absurd cc

takes_none : (n count : ℕ) (gives : Bool) → ((count == 0) && gives) ≡ true → Whole pointed_names pointed_book n 0 true
    → Whole pointed_names pointed_book n count gives
takes_none n count gives e w =
    let both = and_parts (count == 0) gives e in
    subst (λ z. Whole pointed_names pointed_book n count z) (sym both.1)
    (subst (λ z. Whole pointed_names pointed_book n z true) (sym (eqb-true count 0 both.0)) w)

body_there : (n : ℕ) (body : BodyView) → ◌≡◌ {A = Option BodyView} (Some (body_of n)) (Some body) → body_of n ≡ body
body_there n body e = cc

pub pointed_links : Links pointed_program pointed_names bounds pointed_book
pointed_links = record {
  bodies = λ n safe body e. body_there n body e;
  funcs = λ n safe body e. refl;
  numbers = λ n safe. refl;
  safes = λ n safe. refl;
  frames = λ n safe. size_of n;
  rows = λ n safe body e. ap (λ (z : BodyView). map (renamed_row itself) z.rows) (sym (body_there n body e)) ∙ no_rows n;
  stops = λ n safe. no_stops n;
  stops_so = λ n safe. sym (no_stops n);
  cancels = λ t h. cancels_same t;
  one_type = (typ void false false, refl);
  checked = λ n safe body e. pointed_checked n safe;
  names = λ n safe. record {
    globals = λ s m e. absurd cc;
    functions = λ s m e. ap function_address (called_right s m e);
    classes = λ s m e. absurd cc;
    types =
        λ s t e. absurd cc;
    addresses = λ n. refl;
    slots = λ s class e a slot. absurd cc;
    spawned = λ a. refl;
    signatures = λ s sig e a. refl;
    methods =
        λ s class slot a n e. absurd cc;
  };
  called = λ n safe name callee e. called_right name callee e;
  plain_there = λ n safe name callee e. (body_of (number_of callee), refl);
  pointed = λ a n sig count gives t e. takes_none n count gives t (found_whole (a == function_address 1) n e);
  slotted = λ a class slot n count gives t e. absurd cc;
  safe_bodies = λ n. all_safe n;
}
  where
    size_of : (n : ℕ) → 16 ≡ (func_of n).size
    size_of zero = refl
    size_of (suc n) = refl

    no_rows : (n : ℕ) → map (renamed_row itself) (body_of n).rows ≡ []
    no_rows zero = refl
    no_rows (suc n) = refl

    all_safe : (n : ℕ) → (func_of n).safe ≡ true
    all_safe zero = refl
    all_safe (suc n) = refl

    no_stops : (n : ℕ) → false ≡ (func_of n).stops
    no_stops zero = refl
    no_stops (suc n) = refl

pub pointed_small : IsSmall pointed_program
pointed_small = record { globals = λ u n. omega arith; functions = λ u n. small_function n; tables = λ c. omega arith; slots = λ a c s n e. absurd cc }

pub pointed_begins : Begins pointed_program pointed_names pointed_book 0 0 []
pointed_begins = record { body = pointing_body; there = refl; gives = refl; takes = refl; starts = refl; ends = refl; room = refl }
