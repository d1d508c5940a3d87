-- The notes of the worked program with a virtual call fit.
use Rattle.std.proofs.lemmas.Bool.{and_parts, eqb-true}
use Rattle.std.proofs.Common.{ℕ, zero, suc, ◌≡◌, ◌^◌, ◌<◌, ◌==◌, cond, inl, inr, Bool, true, false, refl, ap, sym, ◌∙◌, subst, [], ◌∷◌, Option, Some, None}
use Rattle.std.proofs.Common.{arith}
use Rattle.std.specs.Prelude.{◌&&◌, slice_get, map}
use Rattle.tx_code.specs.declared.instr.Instr.TheVariants.{Push, Dup, Swap, FrameAddr, Load, Store, Slot, CallIndirect, Ret}
use Rattle.tx_code.specs.Objects.{BodyView}
use Rattle.tx_code.specs.Renaming.{itself, renamed_row}
use Rattle.cpp_tree.specs.cpp_types.Typ.{typ, void}
use Rattle.cpp_tree.specs.cpp_layout.Layout.{function_address}
use Rattle.symbolic_source.specs.Terms.{number, variable, local, unknown}
use Rattle.symbolic_source.specs.Frames.{virtual}
use Rattle.symbolic_source.specs.Small.{IsSmall}
use Rattle.symbolic_source.specs.Replacing.{Replacing}
use Rattle.body_check.specs.Notes.{Note, Bounds, no_answers}
use Rattle.body_check.specs.Calls.{by_return, by_slot, NoteFits, Checked, Whole, Links, Begins}
use Rattle.body_check.specs.Virtual.{at_address, told_func, told_body, asking_func, func_of, virtual_program, asking_body, body_of, virtual_names, behind_call}
use Rattle.body_check.specs.Virtual.{found_function, asking_notes, told_notes, virtual_book, asking_note_0, asking_note_1, asking_note_2, asking_note_3}
use Rattle.body_check.specs.Virtual.{asking_note_4, asking_note_5, asking_note_6, told_note_0, told_note_1, told_note_2, told_note_3, told_note_4}
use Rattle.body_check.proofs.Main.{cancels_same}
use Rattle.body_check.proofs.Pair.{small_function}
use Rattle.body_check.proofs.Landing.{equally}

pub bounds : Bounds
bounds = record { half = 8; longest = 16; both = omega arith; most = 3 }

same : Replacing
same = record { word = λ n. variable n; exception = λ n. unknown n }

note_same : (a b : Note) → ◌≡◌ {A = Option Note} (Some a) (Some b) → a ≡ b
note_same a b e = cc

abbrev Fit : ℕ → Bool → Note → Type 0
Fit n safe note = NoteFits virtual_program bounds virtual_book (virtual_book.held n safe) note

asking_fits_0 : (safe : Bool) → Fit 0 safe asking_note_0
unfolding bounds same
asking_fits_0 safe = record {
  instr = FrameAddr 0;
  is = refl;
  short = omega arith;
  foreseen = refl;
  fits =
      record {
        lands = equally virtual_program asking_func bounds asking_notes (λ t. true)
            (record {
              at = 1;
              note = asking_note_1;
              is = refl;
              there = refl;
              lag = 0;
              terms = same;
              types = λ n. tt;
              same_place = refl;
              same_facts = tt;
              same_outcome =
                  refl;
              foreseen = refl;
              low = omega arith;
            });
        short = omega arith;
        goes_on = inl (omega arith);
      };
}

asking_fits_1 : (safe : Bool) → Fit 0 safe asking_note_1
unfolding bounds same
asking_fits_1 safe = record {
  instr = Dup;
  is = refl;
  short = omega arith;
  foreseen = refl;
  fits =
      record {
        lands = equally virtual_program asking_func bounds asking_notes (λ t. true)
            (record {
              at = 2;
              note = asking_note_2;
              is = refl;
              there = refl;
              lag = 0;
              terms = same;
              types = λ n. tt;
              same_place = refl;
              same_facts = tt;
              same_outcome =
                  refl;
              foreseen = refl;
              low = omega arith;
            });
        short = omega arith;
        goes_on = inr (omega arith);
      };
}

asking_fits_2 : (safe : Bool) → Fit 0 safe asking_note_2
unfolding bounds same
asking_fits_2 safe = record {
  instr = Load 9;
  is = refl;
  short = omega arith;
  foreseen = refl;
  fits = (
    refl,
    equally virtual_program asking_func bounds asking_notes (λ t. true)
        (record {
          at = 3;
          note = asking_note_3;
          is = refl;
          there = refl;
          lag = 0;
          terms = same;
          types = λ n. tt;
          same_place = refl;
          same_facts = tt;
          same_outcome =
              refl;
          foreseen = refl;
          low = omega arith;
        }),
    refl,
  );
}

asking_fits_3 : (safe : Bool) → Fit 0 safe asking_note_3
unfolding bounds same
asking_fits_3 safe = record {
  instr = Slot 0 0;
  is = refl;
  short = omega arith;
  foreseen = refl;
  fits =
      record {
        lands = equally virtual_program asking_func bounds asking_notes (λ t. true)
            (record {
              at = 4;
              note = asking_note_4;
              is = refl;
              there = refl;
              lag = 0;
              terms = same;
              types = λ n. tt;
              same_place = refl;
              same_facts = (inl refl, tt);
              same_outcome = refl;
              foreseen = refl;
              low = omega arith;
            });
        short = omega arith;
        goes_on = inr (omega arith);
      };
}

asking_fits_4 : (safe : Bool) → Fit 0 safe asking_note_4
unfolding bounds same
asking_fits_4 safe = record {
  instr = Swap;
  is = refl;
  short = omega arith;
  foreseen = refl;
  fits =
      record {
        lands = equally virtual_program asking_func bounds asking_notes (λ t. true)
            (record {
              at = 5;
              note = asking_note_5;
              is = refl;
              there = refl;
              lag = 0;
              terms = same;
              types = λ n. tt;
              same_place = refl;
              same_facts = (inl refl, tt);
              same_outcome = refl;
              foreseen = refl;
              low = omega arith;
            });
        short = omega arith;
        goes_on = inr (omega arith);
      };
}

asking_fits_5 : (safe : Bool) → Fit 0 safe asking_note_5
unfolding bounds same
asking_fits_5 safe = record {
  instr = CallIndirect 0 1;
  is = refl;
  short = omega arith;
  foreseen = refl;
  fits =
      record {
        address = found_function;
        callee = virtual 0 0 (variable 0);
        gives = true;
        found = by_slot 0 0 (variable 0) refl refl (inl refl);
        words =
            local 0 ∷ [];
        under = [];
        temporaries = [];
        others = behind_call;
        outcome_is = refl;
        operands_are = refl;
        behind =
            record {
              back = record {
                lands = equally virtual_program asking_func bounds asking_notes (λ t. true)
                    (record {
                      at = 6;
                      note = asking_note_6;
                      is = refl;
                      there = refl;
                      lag = 1;
                      terms = same;
                      types = λ n. tt;
                      same_place = refl;
                      same_facts = tt;
                      same_outcome =
                          refl;
                      foreseen = refl;
                      low = omega arith;
                    });
                some = omega arith;
                short = omega arith;
              };
              thrown =
                  λ may. record {
                    rank = 0;
                    low = omega arith;
                    fits = λ t is so.
                        record {
                          answers = no_answers;
                          right = λ n handler answer e. absurd cc;
                          found =
                              record { lag = 2; temporaries = []; is = refl; short = omega arith };
                        };
                  };
              opens = refl;
              caught = refl;
              type = tt;
            };
      };
}

asking_fits_6 : (safe : Bool) → Fit 0 safe asking_note_6
unfolding bounds same
asking_fits_6 safe = record { instr = Ret 1; is = refl; short = omega arith; foreseen = refl; fits = (refl, (variable 0, [], refl, by_return)) }

told_fits_0 : (n : ℕ) (safe : Bool) → Fit (suc n) safe told_note_0
unfolding bounds same
told_fits_0 n safe = record {
  instr = FrameAddr 0;
  is = refl;
  short = omega arith;
  foreseen = refl;
  fits =
      record {
        lands = equally virtual_program told_func bounds told_notes (λ t. true)
            (record {
              at = 1;
              note = told_note_1;
              is = refl;
              there = refl;
              lag = 0;
              terms = same;
              types = λ n. tt;
              same_place = refl;
              same_facts = tt;
              same_outcome =
                  refl;
              foreseen = refl;
              low = omega arith;
            });
        short = omega arith;
        goes_on = inr (omega arith);
      };
}

told_fits_1 : (n : ℕ) (safe : Bool) → Fit (suc n) safe told_note_1
unfolding bounds same
told_fits_1 n safe = record {
  instr = Swap;
  is = refl;
  short = omega arith;
  foreseen = refl;
  fits =
      record {
        lands = equally virtual_program told_func bounds told_notes (λ t. true)
            (record {
              at = 2;
              note = told_note_2;
              is = refl;
              there = refl;
              lag = 0;
              terms = same;
              types = λ n. tt;
              same_place = refl;
              same_facts = tt;
              same_outcome =
                  refl;
              foreseen = refl;
              low = omega arith;
            });
        short = omega arith;
        goes_on = inr (omega arith);
      };
}

told_fits_2 : (n : ℕ) (safe : Bool) → Fit (suc n) safe told_note_2
unfolding bounds same
told_fits_2 n safe = record {
  instr = Store 9;
  is = refl;
  short = omega arith;
  foreseen = refl;
  fits = (
    refl,
    equally virtual_program told_func bounds told_notes (λ t. true)
        (record {
          at = 3;
          note = told_note_3;
          is = refl;
          there = refl;
          lag = 0;
          terms = same;
          types = λ n. tt;
          same_place = refl;
          same_facts = tt;
          same_outcome =
              refl;
          foreseen = refl;
          low = omega arith;
        }),
    refl,
  );
}

told_fits_3 : (n : ℕ) (safe : Bool) → Fit (suc n) safe told_note_3
unfolding bounds same
told_fits_3 n safe = record {
  instr = Push 1;
  is = refl;
  short = omega arith;
  foreseen = refl;
  fits =
      record {
        lands = equally virtual_program told_func bounds told_notes (λ t. true)
            (record {
              at = 4;
              note = told_note_4;
              is = refl;
              there = refl;
              lag = 0;
              terms = same;
              types = λ n. tt;
              same_place = refl;
              same_facts = tt;
              same_outcome =
                  refl;
              foreseen = refl;
              low = omega arith;
            });
        short = omega arith;
        goes_on = inl (omega arith);
      };
}

told_fits_4 : (n : ℕ) (safe : Bool) → Fit (suc n) safe told_note_4
unfolding bounds same
told_fits_4 n safe = record { instr = Ret 1; is = refl; short = omega arith; foreseen = refl; fits = (refl, (number 1, [], refl, by_return)) }

asking_fit : (safe : Bool) (at : ℕ) (note : Note) → slice_get asking_notes at ≡ Some note → Fit 0 safe note
asking_fit safe zero note e = subst (λ z. Fit 0 safe z) (note_same asking_note_0 note e) (asking_fits_0 safe)
asking_fit safe (suc zero) note e = subst (λ z. Fit 0 safe z) (note_same asking_note_1 note e) (asking_fits_1 safe)
asking_fit safe (suc (suc zero)) note e = subst (λ z. Fit 0 safe z) (note_same asking_note_2 note e) (asking_fits_2 safe)
asking_fit safe (suc (suc (suc zero))) note e = subst (λ z. Fit 0 safe z) (note_same asking_note_3 note e) (asking_fits_3 safe)
asking_fit safe (suc (suc (suc (suc zero)))) note e = subst (λ z. Fit 0 safe z) (note_same asking_note_4 note e) (asking_fits_4 safe)
asking_fit safe (suc (suc (suc (suc (suc zero))))) note e = subst (λ z. Fit 0 safe z) (note_same asking_note_5 note e) (asking_fits_5 safe)
asking_fit safe (suc (suc (suc (suc (suc (suc zero)))))) note e = subst (λ z. Fit 0 safe z) (note_same asking_note_6 note e) (asking_fits_6 safe)
asking_fit safe (suc (suc (suc (suc (suc (suc (suc k))))))) note e = absurd cc

told_fit : (n : ℕ) (safe : Bool) (at : ℕ) (note : Note) → slice_get told_notes at ≡ Some note → Fit (suc n) safe note
told_fit n safe zero note e = subst (λ z. Fit (suc n) safe z) (note_same told_note_0 note e) (told_fits_0 n safe)
told_fit n safe (suc zero) note e = subst (λ z. Fit (suc n) safe z) (note_same told_note_1 note e) (told_fits_1 n safe)
told_fit n safe (suc (suc zero)) note e = subst (λ z. Fit (suc n) safe z) (note_same told_note_2 note e) (told_fits_2 n safe)
told_fit n safe (suc (suc (suc zero))) note e = subst (λ z. Fit (suc n) safe z) (note_same told_note_3 note e) (told_fits_3 n safe)
told_fit n safe (suc (suc (suc (suc zero)))) note e = subst (λ z. Fit (suc n) safe z) (note_same told_note_4 note e) (told_fits_4 n safe)
told_fit n safe (suc (suc (suc (suc (suc k))))) note e = absurd cc

virtual_checked : (n : ℕ) (safe : Bool) → Checked virtual_program bounds virtual_book (virtual_book.held n safe)
unfolding bounds
virtual_checked zero safe = record {
  entry = record { facts_are = refl; first = refl; note = asking_note_0; is = refl; place_is = refl; outcome_is = refl; foreseen = refl; low = omega arith };
  notes = λ at note e. asking_fit safe at note e;
}
virtual_checked (suc n) safe = record {
  entry = record { facts_are = refl; first = refl; note = told_note_0; is = refl; place_is = refl; outcome_is = refl; foreseen = refl; low = omega arith };
  notes = λ at note e. told_fit n safe at note e;
}

body_there : (n : ℕ) (body : BodyView) → ◌≡◌ {A = Option BodyView} (Some (body_of n)) (Some body) → body_of n ≡ body
body_there n body e = cc

only_one : (t : Bool) (n : ℕ) → cond t (Some 1) None ≡ Some n → 1 ≡ n
only_one true n e = cc
only_one false n e = absurd cc

whole_one : Whole virtual_names virtual_book 1 1 true
whole_one = record { body = told_body; there = refl; takes = refl; gives_so = refl }

takes_one : (n count : ℕ) (gives : Bool) → ((count == 1) && gives) ≡ true → Whole virtual_names virtual_book n 1 true
    → Whole virtual_names virtual_book n count gives
takes_one n count gives e w =
    let both = and_parts (count == 1) gives e in
    subst (λ z. Whole virtual_names virtual_book n count z) (sym both.1)
    (subst (λ z. Whole virtual_names virtual_book n z true) (sym (eqb-true count 1 both.0)) w)

pub virtual_links : Links virtual_program virtual_names bounds virtual_book
virtual_links = record {
  bodies = λ n safe body e. body_there n body e;
  funcs = λ n safe body e. refl;
  numbers = λ n safe. refl;
  safes = λ n safe. refl;
  frames = λ n safe. size_of n;
  rows = λ n safe body e. ap (λ (z : BodyView). map (renamed_row itself) z.rows) (sym (body_there n body e)) ∙ no_rows n;
  stops = λ n safe. no_stops n;
  stops_so = λ n safe. sym (no_stops n);
  cancels = λ t h. cancels_same t;
  one_type = (typ void false false, refl);
  checked = λ n safe body e. virtual_checked n safe;
  names = λ n safe. record {
    globals = λ s m e. absurd cc;
    functions = λ s m e. absurd cc;
    classes = λ s m e. refl;
    types = λ s t e. absurd cc;
    addresses =
        λ n. refl;
    slots = λ s class e a slot. refl;
    spawned = λ a. refl;
    signatures = λ s sig e a. absurd cc;
    methods =
        λ s class slot a n h e. subst (λ z. at_address (function_address z) ≡ Some z) (only_one (a == 5) n e) refl;
  };
  called = λ n safe name callee e. absurd cc;
  plain_there = λ n safe name callee e. absurd cc;
  pointed = λ a n sig count gives t e. absurd cc;
  slotted = λ a class slot n count gives t e. takes_one n count gives t
      (subst (λ z. Whole virtual_names virtual_book z 1 true) (only_one (a == 5) n e) whole_one);
  safe_bodies = λ n. all_safe n;
}
  where
    size_of : (n : ℕ) → 16 ≡ (func_of n).size
    size_of zero = refl
    size_of (suc n) = refl

    no_rows : (n : ℕ) → map (renamed_row itself) (body_of n).rows ≡ []
    no_rows zero = refl
    no_rows (suc n) = refl

    no_stops : (n : ℕ) → false ≡ (func_of n).stops
    no_stops zero = refl
    no_stops (suc n) = refl

    all_safe : (n : ℕ) → (func_of n).safe ≡ true
    all_safe zero = refl
    all_safe (suc n) = refl

small_one : (n : ℕ) → 1 ≡ n → function_address n < 2 ^ 64
small_one n e = subst (λ z. function_address z < 2 ^ 64) e (small_function 1)

pub virtual_small : IsSmall virtual_program
virtual_small = record {
  globals = λ u n. omega arith;
  functions = λ u n. small_function n;
  tables = λ c. omega arith;
  slots = λ a c s n e. small_one n
      (only_one (a == 5) n e);
}

pub virtual_begins : Begins virtual_program virtual_names virtual_book 0 0 []
virtual_begins = record { body = asking_body; there = refl; gives = refl; takes = refl; starts = refl; ends = refl; room = refl }
