-- The notes of the worked program with an array fit.
use Rattle.cpp_tree.specs.cpp_types.Typ.{typ, void}
use Rattle.std.proofs.Common.{ℕ, zero, suc, ◌≡◌, inl, inr, Bool, true, false, refl, ap, sym, ◌∙◌, subst, [], ◌∷◌, Option, Some, arith}
use Rattle.std.specs.Prelude.{slice_get, map}
use Rattle.std.proofs.lemmas.Bool.{true≢false}
use Rattle.tx_code.specs.declared.instr.Instr.TheVariants.{Push, Dup, Pop, Swap, Over, FrameAddr, Store, Bin, Jump, JumpZero, Call, Ret}
use Rattle.tx_code.specs.Objects.{BodyView}
use Rattle.tx_code.specs.Renaming.{itself, renamed_row}
use Rattle.cpp_tree.specs.cpp_layout.Layout.{function_address}
use Rattle.symbolic_source.specs.Terms.{Term, number, variable, local, sum, product, before, unknown}
use Rattle.symbolic_source.specs.Frames.{Destroys}
use Rattle.symbolic_source.specs.Small.{IsSmall}
use Rattle.symbolic_source.specs.Replacing.{Replacing}
use Rattle.body_check.specs.Notes.{Note, Bounds}
use Rattle.body_check.specs.Calls.{by_end, by_return, NoteFits, Checked, Links, Begins}
use Rattle.body_check.specs.Pair.{number_of}
use Rattle.body_check.specs.Destroyed.{array_func, own_func, func_of, array_program, array_body, body_of, lets_none_out, array_names, behind_array, left}
use Rattle.body_check.specs.Destroyed.{main_notes, own_notes, array_book, main_note_0, main_note_1, main_note_2, main_note_3, main_note_4, main_note_5}
use Rattle.body_check.specs.Destroyed.{main_note_6, main_note_7, main_note_8, main_note_9, main_note_10, main_note_11, main_note_12, main_note_13, main_note_14}
use Rattle.body_check.specs.Destroyed.{main_note_15, main_note_16, own_note_0, own_note_1, own_note_2, own_note_3}
use Rattle.body_check.proofs.Main.{cancels_same}
use Rattle.body_check.proofs.Pair.{called_right, small_function}
use Rattle.body_check.proofs.Landing.{equally}

pub bounds : Bounds
bounds = record { half = 16; longest = 32; both = omega arith; most = 10 }

same : Replacing
same = record { word = λ n. variable n; exception = λ n. unknown n }

-- the count at the first round
three_words : ℕ → Term
three_words zero = number 3
three_words (suc n) = variable n

three : Replacing
three = record { word = λ n. three_words n; exception = λ n. unknown n }

-- and behind each round
less_words : ℕ → Term
less_words zero = before (variable 0)
less_words (suc n) = variable n

less : Replacing
less = record { word = λ n. less_words n; exception = λ n. unknown n }

note_same : (a b : Note) → ◌≡◌ {A = Option Note} (Some a) (Some b) → a ≡ b
note_same a b e = cc

abbrev Fit : ℕ → Bool → Note → Type 0
Fit n safe note = NoteFits array_program bounds array_book (array_book.held n safe) note

main_fits_0 : (safe : Bool) → Fit 0 safe main_note_0
unfolding bounds same
main_fits_0 safe = record {
  instr = Push 0;
  is = refl;
  short = omega arith;
  foreseen = refl;
  fits =
      record {
        lands = equally array_program array_func bounds main_notes (λ t. true)
            (record {
              at = 1;
              note = main_note_1;
              is = refl;
              there = refl;
              lag = 0;
              terms = same;
              types = λ n. tt;
              same_place = refl;
              same_facts = tt;
              same_outcome =
                  refl;
              foreseen = refl;
              low = omega arith;
            });
        short = omega arith;
        goes_on = inl (omega arith);
      };
}

main_fits_1 : (safe : Bool) → Fit 0 safe main_note_1
unfolding bounds same
main_fits_1 safe = record {
  instr = FrameAddr 0;
  is = refl;
  short = omega arith;
  foreseen = refl;
  fits =
      record {
        lands = equally array_program array_func bounds main_notes (λ t. true)
            (record {
              at = 2;
              note = main_note_2;
              is = refl;
              there = refl;
              lag = 0;
              terms = same;
              types = λ n. tt;
              same_place = refl;
              same_facts = tt;
              same_outcome =
                  refl;
              foreseen = refl;
              low = omega arith;
            });
        short = omega arith;
        goes_on = inr (omega arith);
      };
}

main_fits_2 : (safe : Bool) → Fit 0 safe main_note_2
unfolding bounds three three_words
main_fits_2 safe = record {
  instr = Push 3;
  is = refl;
  short = omega arith;
  foreseen = refl;
  fits =
      record {
        lands = equally array_program array_func bounds main_notes (λ t. true)
            (record {
              at = 3;
              note = main_note_3;
              is = refl;
              there = refl;
              lag = 0;
              terms = three;
              types = λ n. tt;
              same_place = refl;
              same_facts = (refl, tt);
              same_outcome = refl;
              foreseen = refl;
              low = omega arith;
            });
        short = omega arith;
        goes_on = inr (omega arith);
      };
}

main_fits_3 : (safe : Bool) → Fit 0 safe main_note_3
unfolding bounds same
main_fits_3 safe = record {
  instr = Push 1;
  is = refl;
  short = omega arith;
  foreseen = refl;
  fits =
      record {
        lands = equally array_program array_func bounds main_notes (λ t. true)
            (record {
              at = 4;
              note = main_note_4;
              is = refl;
              there = refl;
              lag = 0;
              terms = same;
              types = λ n. tt;
              same_place = refl;
              same_facts = (inl refl, tt);
              same_outcome = refl;
              foreseen = refl;
              low = omega arith;
            });
        short = omega arith;
        goes_on = inr (omega arith);
      };
}

main_fits_4 : (safe : Bool) → Fit 0 safe main_note_4
unfolding bounds same
main_fits_4 safe = record {
  instr = Bin 1 9;
  is = refl;
  short = omega arith;
  foreseen = refl;
  fits =
      record {
        lands = equally array_program array_func bounds main_notes (λ t. true)
            (record {
              at = 5;
              note = main_note_5;
              is = refl;
              there = refl;
              lag = 0;
              terms = same;
              types = λ n. tt;
              same_place = refl;
              same_facts = tt;
              same_outcome =
                  refl;
              foreseen = refl;
              low = omega arith;
            });
        short = omega arith;
        goes_on = inr (omega arith);
      };
}

main_fits_5 : (safe : Bool) → Fit 0 safe main_note_5
unfolding bounds same
main_fits_5 safe = record {
  instr = Over;
  is = refl;
  short = omega arith;
  foreseen = refl;
  fits =
      record {
        lands = equally array_program array_func bounds main_notes (λ t. true)
            (record {
              at = 6;
              note = main_note_6;
              is = refl;
              there = refl;
              lag = 0;
              terms = same;
              types = λ n. tt;
              same_place = refl;
              same_facts = tt;
              same_outcome =
                  refl;
              foreseen = refl;
              low = omega arith;
            });
        short = omega arith;
        goes_on = inr (omega arith);
      };
}

main_fits_6 : (safe : Bool) → Fit 0 safe main_note_6
unfolding bounds same
main_fits_6 safe = record {
  instr = Over;
  is = refl;
  short = omega arith;
  foreseen = refl;
  fits =
      record {
        lands = equally array_program array_func bounds main_notes (λ t. true)
            (record {
              at = 7;
              note = main_note_7;
              is = refl;
              there = refl;
              lag = 0;
              terms = same;
              types = λ n. tt;
              same_place = refl;
              same_facts = tt;
              same_outcome =
                  refl;
              foreseen = refl;
              low = omega arith;
            });
        short = omega arith;
        goes_on = inr (omega arith);
      };
}

main_fits_7 : (safe : Bool) → Fit 0 safe main_note_7
unfolding bounds same
main_fits_7 safe = record {
  instr = Push 1;
  is = refl;
  short = omega arith;
  foreseen = refl;
  fits =
      record {
        lands = equally array_program array_func bounds main_notes (λ t. true)
            (record {
              at = 8;
              note = main_note_8;
              is = refl;
              there = refl;
              lag = 0;
              terms = same;
              types = λ n. tt;
              same_place = refl;
              same_facts = tt;
              same_outcome =
                  refl;
              foreseen = refl;
              low = omega arith;
            });
        short = omega arith;
        goes_on = inr (omega arith);
      };
}

main_fits_8 : (safe : Bool) → Fit 0 safe main_note_8
unfolding bounds same
main_fits_8 safe = record {
  instr = Bin 2 9;
  is = refl;
  short = omega arith;
  foreseen = refl;
  fits =
      record {
        lands = equally array_program array_func bounds main_notes (λ t. true)
            (record {
              at = 9;
              note = main_note_9;
              is = refl;
              there = refl;
              lag = 0;
              terms = same;
              types = λ n. tt;
              same_place = refl;
              same_facts = tt;
              same_outcome =
                  refl;
              foreseen = refl;
              low = omega arith;
            });
        short = omega arith;
        goes_on = inr (omega arith);
      };
}

main_fits_9 : (safe : Bool) → Fit 0 safe main_note_9
unfolding bounds same
main_fits_9 safe = record {
  instr = Bin 0 9;
  is = refl;
  short = omega arith;
  foreseen = refl;
  fits =
      record {
        lands = equally array_program array_func bounds main_notes (λ t. true)
            (record {
              at = 10;
              note = main_note_10;
              is = refl;
              there = refl;
              lag = 0;
              terms = same;
              types = λ n. tt;
              same_place = refl;
              same_facts = tt;
              same_outcome =
                  refl;
              foreseen = refl;
              low = omega arith;
            });
        short = omega arith;
        goes_on = inr (omega arith);
      };
}

main_fits_10 : (safe : Bool) → Fit 0 safe main_note_10
unfolding bounds less less_words
main_fits_10 safe = record {
  instr = Call 1 1;
  is = refl;
  short = omega arith;
  foreseen = refl;
  fits =
      record {
        callee = 1;
        named = refl;
        words = sum (local 0) (product left (number 1)) ∷ [];
        under = left ∷ local 0 ∷ number 0 ∷ [];
        temporaries = [];
        others =
            Destroys 1 (local 0) 1 left ∷ behind_array;
        outcome_is = refl;
        operands_are = refl;
        taken = refl;
        behind =
            record {
              back = record {
                lands = equally array_program array_func bounds main_notes (λ t. true)
                    (record {
                      at = 11;
                      note = main_note_11;
                      is = refl;
                      there = refl;
                      lag = 1;
                      terms = less;
                      types = λ n. tt;
                      same_place = refl;
                      same_facts = tt;
                      same_outcome =
                          refl;
                      foreseen = refl;
                      low = omega arith;
                    });
                some = omega arith;
                short = omega arith;
              };
              thrown = λ e. absurd (true≢false e);
              opens = refl;
              caught = refl;
              type = tt;
            };
      };
}

main_fits_11 : (safe : Bool) → Fit 0 safe main_note_11
unfolding bounds same
main_fits_11 safe = record {
  instr = Dup;
  is = refl;
  short = omega arith;
  foreseen = refl;
  fits =
      record {
        lands = equally array_program array_func bounds main_notes (λ t. true)
            (record {
              at = 12;
              note = main_note_12;
              is = refl;
              there = refl;
              lag = 0;
              terms = same;
              types = λ n. tt;
              same_place = refl;
              same_facts = tt;
              same_outcome =
                  refl;
              foreseen = refl;
              low = omega arith;
            });
        short = omega arith;
        goes_on = inr (omega arith);
      };
}

main_fits_12 : (safe : Bool) → Fit 0 safe main_note_12
unfolding bounds same
main_fits_12 safe = record {
  instr = JumpZero 14;
  is = refl;
  short = omega arith;
  foreseen = refl;
  fits = (
    record {
      lands = equally array_program array_func bounds main_notes (λ t. true)
          (record {
            at = 14;
            note = main_note_14;
            is = refl;
            there = refl;
            lag = 0;
            terms = same;
            types = λ n. tt;
            same_place = refl;
            same_facts = tt;
            same_outcome =
                refl;
            foreseen = refl;
            low = omega arith;
          });
      short = omega arith;
      goes_on = inr (omega arith);
    },
    record {
      lands = equally array_program array_func bounds main_notes (λ t. true)
          (record {
            at = 13;
            note = main_note_13;
            is = refl;
            there = refl;
            lag = 0;
            terms = same;
            types = λ n. tt;
            same_place = refl;
            same_facts = (inl refl, tt);
            same_outcome = refl;
            foreseen = refl;
            low = omega arith;
          });
      short = omega arith;
      goes_on = inr (omega arith);
    },
  );
}

main_fits_13 : (safe : Bool) → Fit 0 safe main_note_13
unfolding bounds same
main_fits_13 safe = record {
  instr = Jump 3;
  is = refl;
  short = omega arith;
  foreseen = refl;
  fits =
      record {
        lands = equally array_program array_func bounds main_notes (λ t. true)
            (record {
              at = 3;
              note = main_note_3;
              is = refl;
              there = refl;
              lag = 0;
              terms = same;
              types = λ n. tt;
              same_place = refl;
              same_facts = (inl refl, tt);
              same_outcome = refl;
              foreseen = refl;
              low = omega arith;
            });
        short = omega arith;
        goes_on = inr (omega arith);
      };
}

main_fits_14 : (safe : Bool) → Fit 0 safe main_note_14
unfolding bounds same
main_fits_14 safe = record {
  instr = Pop;
  is = refl;
  short = omega arith;
  foreseen = refl;
  fits =
      record {
        lands = equally array_program array_func bounds main_notes (λ t. true)
            (record {
              at = 15;
              note = main_note_15;
              is = refl;
              there = refl;
              lag = 0;
              terms = same;
              types = λ n. tt;
              same_place = refl;
              same_facts = tt;
              same_outcome =
                  refl;
              foreseen = refl;
              low = omega arith;
            });
        short = omega arith;
        goes_on = inr (omega arith);
      };
}

main_fits_15 : (safe : Bool) → Fit 0 safe main_note_15
unfolding bounds same
main_fits_15 safe = record {
  instr = Pop;
  is = refl;
  short = omega arith;
  foreseen = refl;
  fits =
      record {
        lands = equally array_program array_func bounds main_notes (λ t. true)
            (record {
              at = 16;
              note = main_note_16;
              is = refl;
              there = refl;
              lag = 0;
              terms = same;
              types = λ n. tt;
              same_place = refl;
              same_facts = tt;
              same_outcome =
                  refl;
              foreseen = refl;
              low = omega arith;
            });
        short = omega arith;
        goes_on = inr (omega arith);
      };
}

main_fits_16 : (safe : Bool) → Fit 0 safe main_note_16
unfolding bounds
main_fits_16 safe = record { instr = Ret 1; is = refl; short = omega arith; foreseen = refl; fits = (refl, (number 0, [], refl, by_return)) }

own_fits_0 : (n : ℕ) (safe : Bool) → Fit (suc n) safe own_note_0
unfolding bounds same
own_fits_0 n safe = record {
  instr = FrameAddr 0;
  is = refl;
  short = omega arith;
  foreseen = refl;
  fits =
      record {
        lands = equally array_program own_func bounds own_notes (λ t. true)
            (record {
              at = 1;
              note = own_note_1;
              is = refl;
              there = refl;
              lag = 0;
              terms = same;
              types = λ n. tt;
              same_place = refl;
              same_facts = tt;
              same_outcome =
                  refl;
              foreseen = refl;
              low = omega arith;
            });
        short = omega arith;
        goes_on = inr (omega arith);
      };
}

own_fits_1 : (n : ℕ) (safe : Bool) → Fit (suc n) safe own_note_1
unfolding bounds same
own_fits_1 n safe = record {
  instr = Swap;
  is = refl;
  short = omega arith;
  foreseen = refl;
  fits =
      record {
        lands = equally array_program own_func bounds own_notes (λ t. true)
            (record {
              at = 2;
              note = own_note_2;
              is = refl;
              there = refl;
              lag = 0;
              terms = same;
              types = λ n. tt;
              same_place = refl;
              same_facts = tt;
              same_outcome =
                  refl;
              foreseen = refl;
              low = omega arith;
            });
        short = omega arith;
        goes_on = inr (omega arith);
      };
}

own_fits_2 : (n : ℕ) (safe : Bool) → Fit (suc n) safe own_note_2
unfolding bounds same
own_fits_2 n safe = record {
  instr = Store 9;
  is = refl;
  short = omega arith;
  foreseen = refl;
  fits = (
    refl,
    equally array_program own_func bounds own_notes (λ t. true)
        (record {
          at = 3;
          note = own_note_3;
          is = refl;
          there = refl;
          lag = 0;
          terms = same;
          types = λ n. tt;
          same_place = refl;
          same_facts = tt;
          same_outcome =
              refl;
          foreseen = refl;
          low = omega arith;
        }),
    refl,
  );
}

own_fits_3 : (n : ℕ) (safe : Bool) → Fit (suc n) safe own_note_3
unfolding bounds
own_fits_3 n safe = record { instr = Ret 0; is = refl; short = omega arith; foreseen = refl; fits = (refl, by_end) }

main_fit : (safe : Bool) (at : ℕ) (note : Note) → slice_get main_notes at ≡ Some note → Fit 0 safe note
main_fit safe zero note e = subst (λ z. Fit 0 safe z) (note_same main_note_0 note e) (main_fits_0 safe)
main_fit safe (suc zero) note e = subst (λ z. Fit 0 safe z) (note_same main_note_1 note e) (main_fits_1 safe)
main_fit safe (suc (suc zero)) note e = subst (λ z. Fit 0 safe z) (note_same main_note_2 note e) (main_fits_2 safe)
main_fit safe (suc (suc (suc zero))) note e = subst (λ z. Fit 0 safe z) (note_same main_note_3 note e) (main_fits_3 safe)
main_fit safe (suc (suc (suc (suc zero)))) note e = subst (λ z. Fit 0 safe z) (note_same main_note_4 note e) (main_fits_4 safe)
main_fit safe (suc (suc (suc (suc (suc zero))))) note e = subst (λ z. Fit 0 safe z) (note_same main_note_5 note e) (main_fits_5 safe)
main_fit safe (suc (suc (suc (suc (suc (suc zero)))))) note e = subst (λ z. Fit 0 safe z) (note_same main_note_6 note e) (main_fits_6 safe)
main_fit safe (suc (suc (suc (suc (suc (suc (suc zero))))))) note e = subst (λ z. Fit 0 safe z) (note_same main_note_7 note e) (main_fits_7 safe)
main_fit safe (suc (suc (suc (suc (suc (suc (suc (suc zero)))))))) note e = subst (λ z. Fit 0 safe z) (note_same main_note_8 note e) (main_fits_8 safe)
main_fit safe (suc (suc (suc (suc (suc (suc (suc (suc (suc zero))))))))) note e = subst (λ z. Fit 0 safe z) (note_same main_note_9 note e) (main_fits_9 safe)
main_fit safe (suc (suc (suc (suc (suc (suc (suc (suc (suc (suc zero)))))))))) note e =
    subst (λ z. Fit 0 safe z) (note_same main_note_10 note e) (main_fits_10 safe)
main_fit safe (suc (suc (suc (suc (suc (suc (suc (suc (suc (suc (suc zero))))))))))) note e =
    subst (λ z. Fit 0 safe z) (note_same main_note_11 note e) (main_fits_11 safe)
main_fit safe (suc (suc (suc (suc (suc (suc (suc (suc (suc (suc (suc (suc zero)))))))))))) note e =
    subst (λ z. Fit 0 safe z) (note_same main_note_12 note e) (main_fits_12 safe)
main_fit safe (suc (suc (suc (suc (suc (suc (suc (suc (suc (suc (suc (suc (suc zero))))))))))))) note e =
    subst (λ z. Fit 0 safe z) (note_same main_note_13 note e) (main_fits_13 safe)
main_fit safe (suc (suc (suc (suc (suc (suc (suc (suc (suc (suc (suc (suc (suc (suc zero)))))))))))))) note e =
    subst (λ z. Fit 0 safe z) (note_same main_note_14 note e) (main_fits_14 safe)
main_fit safe (suc (suc (suc (suc (suc (suc (suc (suc (suc (suc (suc (suc (suc (suc (suc zero))))))))))))))) note e =
    subst (λ z. Fit 0 safe z) (note_same main_note_15 note e) (main_fits_15 safe)
main_fit safe (suc (suc (suc (suc (suc (suc (suc (suc (suc (suc (suc (suc (suc (suc (suc (suc zero)))))))))))))))) note e =
    subst (λ z. Fit 0 safe z) (note_same main_note_16 note e) (main_fits_16 safe)
main_fit safe (suc (suc (suc (suc (suc (suc (suc (suc (suc (suc (suc (suc (suc (suc (suc (suc (suc k))))))))))))))))) note e = absurd cc

own_fit : (n : ℕ) (safe : Bool) (at : ℕ) (note : Note) → slice_get own_notes at ≡ Some note → Fit (suc n) safe note
own_fit n safe zero note e = subst (λ z. Fit (suc n) safe z) (note_same own_note_0 note e) (own_fits_0 n safe)
own_fit n safe (suc zero) note e = subst (λ z. Fit (suc n) safe z) (note_same own_note_1 note e) (own_fits_1 n safe)
own_fit n safe (suc (suc zero)) note e = subst (λ z. Fit (suc n) safe z) (note_same own_note_2 note e) (own_fits_2 n safe)
own_fit n safe (suc (suc (suc zero))) note e = subst (λ z. Fit (suc n) safe z) (note_same own_note_3 note e) (own_fits_3 n safe)
own_fit n safe (suc (suc (suc (suc k)))) note e = absurd cc

array_checked : (n : ℕ) (safe : Bool) → Checked array_program bounds array_book (array_book.held n safe)
unfolding bounds
array_checked zero safe = record {
  entry = record { facts_are = refl; first = refl; note = main_note_0; is = refl; place_is = refl; outcome_is = refl; foreseen = refl; low = omega arith };
  notes = λ at note e. main_fit safe at note e;
}
array_checked (suc n) safe = record {
  entry = record { facts_are = refl; first = refl; note = own_note_0; is = refl; place_is = refl; outcome_is = refl; foreseen = refl; low = omega arith };
  notes = λ at note e. own_fit n safe at note e;
}

body_there : (n : ℕ) (body : BodyView) → ◌≡◌ {A = Option BodyView} (Some (body_of n)) (Some body) → body_of n ≡ body
body_there n body e = cc

pub array_links : Links array_program array_names bounds array_book
array_links = record {
  bodies = λ n safe body e. body_there n body e;
  funcs = λ n safe body e. refl;
  numbers = λ n safe. refl;
  safes = λ n safe. refl;
  frames = λ n safe. size_of n;
  rows = λ n safe body e. ap (λ (z : BodyView). map (renamed_row itself) z.rows) (sym (body_there n body e)) ∙ no_rows n;
  stops = λ n safe. stops_same n;
  stops_so = λ n safe. sym (stops_same n);
  cancels = λ t h. cancels_same t;
  one_type = (typ void false false, refl);
  checked = λ n safe body e. array_checked n safe;
  names = λ n safe. record {
    globals = λ s m e. absurd cc;
    functions = λ s m e. ap function_address (called_right s m e);
    classes = λ s m e. absurd cc;
    types =
        λ s t e. absurd cc;
    addresses = λ n. refl;
    slots = λ s class e a slot. absurd cc;
    spawned = λ a. refl;
    signatures = λ s sig e a. absurd cc;
    methods =
        λ s class slot a n e. absurd cc;
  };
  called = λ n safe name callee e. called_right name callee e;
  plain_there = λ n safe name callee e. (body_of (number_of callee), refl);
  pointed = λ a n sig count gives t e. absurd cc;
  slotted = λ a class slot n count gives t e. absurd cc;
  safe_bodies = λ n. all_safe n;
}
  where
    size_of : (n : ℕ) → 16 ≡ (func_of n).size
    size_of zero = refl
    size_of (suc n) = refl

    no_rows : (n : ℕ) → map (renamed_row itself) (body_of n).rows ≡ []
    no_rows zero = refl
    no_rows (suc n) = refl

    stops_same : (n : ℕ) → lets_none_out n ≡ (func_of n).stops
    stops_same zero = refl
    stops_same (suc n) = refl

    all_safe : (n : ℕ) → (func_of n).safe ≡ true
    all_safe zero = refl
    all_safe (suc n) = refl

pub array_small : IsSmall array_program
array_small = record { globals = λ u n. omega arith; functions = λ u n. small_function n; tables = λ c. omega arith; slots = λ a c s n e. absurd cc }

pub array_begins : Begins array_program array_names array_book 0 0 []
array_begins = record { body = array_body; there = refl; gives = refl; takes = refl; starts = refl; ends = refl; room = refl }
