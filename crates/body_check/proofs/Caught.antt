-- The notes of the worked program with an exception fit.
use Rattle.std.proofs.Common.{ℕ, zero, suc, ◌≡◌, ◌==◌, cond, inl, inr, Bool, true, false, refl, ap, sym, ◌∙◌, subst, [], ◌∷◌, Option, Some, None, arith}
use Rattle.std.specs.Prelude.{slice_get, map}
use Rattle.std.proofs.lemmas.Bool.{eqb-true}
use Rattle.tx_code.specs.declared.instr.Instr.TheVariants.{Push, FrameAddr, Load, Store, NewException, PutException, Throw, GetException, EndHandler, Ret}
use Rattle.tx_code.specs.Objects.{BodyView}
use Rattle.tx_code.specs.Renaming.{itself, renamed_row}
use Rattle.tx_ints.specs.declared.kinds.IntKind.TheVariants.{Int}
use Rattle.cpp_tree.specs.cpp_types.Typ.{Typ, typ, void}
use Rattle.symbolic_source.specs.Terms.{variable, converted_to, unknown, Exception}
use Rattle.symbolic_source.specs.Small.{IsSmall}
use Rattle.symbolic_source.specs.Replacing.{Replacing}
use Rattle.symbolic_code.specs.Places.{nothing, holding}
use Rattle.body_check.proofs.Landing.{equally}
use Rattle.body_check.specs.Notes.{Note, Bounds, TypeFits, no_answers, IsThrown}
use Rattle.body_check.specs.Calls.{by_return, NoteFits, Checked, Links, Begins}
use Rattle.body_check.specs.Main.{number_of_type}
use Rattle.body_check.specs.Caught.{number_typ, catch_func, catch_program, catch_row, catch_body, catch_names, after, one_thrown, push_note, new_note, put_note}
use Rattle.body_check.specs.Caught.{throw_note, take_note, get_note, store_note, address_note, load_note, end_note, ret_note, catch_notes, catch_book}
use Rattle.body_check.proofs.Main.{cancels_same}

pub bounds : Bounds
bounds = record { half = 16; longest = 32; both = omega arith; most = 3 }

same : Replacing
same = record { word = λ n. variable n; exception = λ n. unknown n }

-- the exception that is caught is the one that was thrown
thrown_first : ℕ → Exception
thrown_first zero = one_thrown
thrown_first (suc n) = unknown n

caught : Replacing
caught = record { word = λ n. variable n; exception = λ n. thrown_first n }

caught_thrown : (n : ℕ) → IsThrown (λ t. true) (thrown_first n)
unfolding thrown_first
caught_thrown zero = refl
caught_thrown (suc n) = tt

note_same : (a b : Note) → ◌≡◌ {A = Option Note} (Some a) (Some b) → a ≡ b
note_same a b e = cc

abbrev Fit : ℕ → Bool → ℕ → Note → Type 0
Fit n safe at note = NoteFits catch_program bounds catch_book (catch_book.held n safe) note

push_fits : (n : ℕ) (safe : Bool) → Fit n safe 0 push_note
unfolding bounds same
push_fits n safe = record {
  instr = Push 1;
  is = refl;
  short = omega arith;
  foreseen = refl;
  fits = record {
    lands = (equally catch_program catch_func bounds catch_notes (λ t. true)
        (record {
          at = 1;
          note = new_note;
          is = refl;
          there = refl;
          lag = 0;
          terms = same;
          types = λ n. tt;
          same_place = refl;
          same_facts = tt;
          same_outcome =
              refl;
          foreseen = refl;
          low = omega arith;
        }));
    short = omega arith;
    goes_on = inl (omega arith);
  };
}

new_fits : (n : ℕ) (safe : Bool) → Fit n safe 1 new_note
unfolding bounds same
new_fits n safe = record {
  instr = NewException 0;
  is = refl;
  short = omega arith;
  foreseen = refl;
  fits = record {
    lands = (equally catch_program catch_func bounds catch_notes (λ t. true)
        (record {
          at = 2;
          note = put_note;
          is = refl;
          there = refl;
          lag = 0;
          terms = same;
          types = λ n. tt;
          same_place = refl;
          same_facts = tt;
          same_outcome =
              refl;
          foreseen = refl;
          low = omega arith;
        }));
    short = omega arith;
    goes_on = inr (omega arith);
  };
}

put_fits : (n : ℕ) (safe : Bool) → Fit n safe 2 put_note
unfolding bounds same
put_fits n safe = record {
  instr = PutException 0 6;
  is = refl;
  short = omega arith;
  foreseen = refl;
  fits = record {
    lands = (equally catch_program catch_func bounds catch_notes (λ t. true)
        (record {
          at = 3;
          note = throw_note;
          is = refl;
          there = refl;
          lag = 0;
          terms = same;
          types = λ n. tt;
          same_place = refl;
          same_facts = tt;
          same_outcome =
              refl;
          foreseen = refl;
          low = omega arith;
        }));
    short = omega arith;
    goes_on = inr (omega arith);
  };
}

take_fits : (n : ℕ) (safe : Bool) → Fit n safe 4 take_note
unfolding bounds same
take_fits n safe = record {
  instr = FrameAddr 0;
  is = refl;
  short = omega arith;
  foreseen = refl;
  fits = record {
    lands = (equally catch_program catch_func bounds catch_notes (λ t. true)
        (record {
          at = 5;
          note = get_note;
          is = refl;
          there = refl;
          lag = 0;
          terms = same;
          types = λ n. tt;
          same_place = refl;
          same_facts = tt;
          same_outcome =
              refl;
          foreseen = refl;
          low = omega arith;
        }));
    short = omega arith;
    goes_on = inl (omega arith);
  };
}

get_fits : (n : ℕ) (safe : Bool) → Fit n safe 5 get_note
unfolding bounds same
get_fits n safe = record {
  instr = GetException 0 6;
  is = refl;
  short = omega arith;
  foreseen = refl;
  fits = record {
    lands = (equally catch_program catch_func bounds catch_notes (λ t. true)
        (record {
          at = 6;
          note = store_note;
          is = refl;
          there = refl;
          lag = 0;
          terms = same;
          types = λ n. tt;
          same_place = refl;
          same_facts = tt;
          same_outcome =
              refl;
          foreseen = refl;
          low = omega arith;
        }));
    short = omega arith;
    goes_on = inr (omega arith);
  };
}

address_fits : (n : ℕ) (safe : Bool) → Fit n safe 7 address_note
unfolding bounds same
address_fits n safe = record {
  instr = FrameAddr 0;
  is = refl;
  short = omega arith;
  foreseen = refl;
  fits = record {
    lands = (equally catch_program catch_func bounds catch_notes (λ t. true)
        (record {
          at = 8;
          note = load_note;
          is = refl;
          there = refl;
          lag = 0;
          terms = same;
          types = λ n. tt;
          same_place = refl;
          same_facts = tt;
          same_outcome =
              refl;
          foreseen = refl;
          low = omega arith;
        }));
    short = omega arith;
    goes_on = inl (omega arith);
  };
}

end_fits : (n : ℕ) (safe : Bool) → Fit n safe 9 end_note
unfolding bounds same
end_fits n safe = record {
  instr = EndHandler;
  is = refl;
  short = omega arith;
  foreseen = refl;
  fits = record {
    lands = (equally catch_program catch_func bounds catch_notes (λ t. true)
        (record {
          at = 10;
          note = ret_note;
          is = refl;
          there = refl;
          lag = 0;
          terms = same;
          types = λ n. tt;
          same_place = refl;
          same_facts = tt;
          same_outcome =
              refl;
          foreseen = refl;
          low = omega arith;
        }));
    short = omega arith;
    goes_on = inl (omega arith);
  };
}

store_fits : (n : ℕ) (safe : Bool) → Fit n safe 6 store_note
unfolding bounds same
store_fits n safe = record {
  instr = Store 6;
  is = refl;
  short = omega arith;
  foreseen = refl;
  fits = (
    refl,
    (equally catch_program catch_func bounds catch_notes (λ t. true)
        (record {
          at = 7;
          note = address_note;
          is = refl;
          there = refl;
          lag = 0;
          terms = same;
          types = λ n. tt;
          same_place = refl;
          same_facts = tt;
          same_outcome =
              refl;
          foreseen = refl;
          low = omega arith;
        })),
    refl,
  );
}

load_fits : (n : ℕ) (safe : Bool) → Fit n safe 8 load_note
unfolding bounds same
load_fits n safe = record {
  instr = Load 6;
  is = refl;
  short = omega arith;
  foreseen = refl;
  fits = (
    refl,
    (equally catch_program catch_func bounds catch_notes (λ t. true)
        (record {
          at = 9;
          note = end_note;
          is = refl;
          there = refl;
          lag = 0;
          terms = same;
          types = λ n. tt;
          same_place = refl;
          same_facts = tt;
          same_outcome =
              refl;
          foreseen = refl;
          low = omega arith;
        })),
    refl,
  );
}

-- the row takes the type, and the source comes to the handler
int_lands : (n : ℕ) (safe : Bool) → TypeFits catch_program catch_func bounds catch_notes (λ t. true) number_of_type (catch_row ∷ []) [] 0 3
    (holding throw_note.place nothing) one_thrown (after 2 throw_note.outcome) number_typ
unfolding bounds caught thrown_first
int_lands n safe = record {
  answers = no_answers;
  right = λ m handler answer e. absurd cc;
  found = record {
    lands = (equally catch_program catch_func bounds catch_notes (λ t. true)
        (record {
          at = 4;
          note = take_note;
          is = refl;
          there = refl;
          lag = 1;
          terms = caught;
          types = λ n. caught_thrown n;
          same_place = refl;
          same_facts = tt;
          same_outcome = refl;
          foreseen = refl;
          low = omega arith;
        }));
    some = inl (omega arith);
    short = omega arith;
  };
}

throw_fits : (n : ℕ) (safe : Bool) → Fit n safe 3 throw_note
unfolding bounds
throw_fits n safe = record {
  instr = Throw;
  is = refl;
  short = omega arith;
  foreseen = refl;
  fits = (
    record {
      rank = 0;
      low = omega arith;
      fits = λ t is may. subst
          (λ z. TypeFits catch_program catch_func bounds catch_notes (λ t. true) number_of_type (catch_row ∷ []) [] 0 3
          (holding throw_note.place nothing) one_thrown (after 2 throw_note.outcome) z) is (int_lands n safe);
    },
    refl,
    inl (omega arith),
  );
}

ret_fits : (n : ℕ) (safe : Bool) → Fit n safe 10 ret_note
unfolding bounds
ret_fits n safe = record { instr = Ret 1; is = refl; short = omega arith; foreseen = refl; fits = (refl, (converted_to Int (variable 0), [], refl, by_return)) }

all_fit : (n : ℕ) (safe : Bool) (index : ℕ) (note : Note) → slice_get catch_notes index ≡ Some note → Fit n safe index note
all_fit n safe zero note e = subst (λ z. Fit n safe 0 z) (note_same push_note note e) (push_fits n safe)
all_fit n safe (suc zero) note e = subst (λ z. Fit n safe 1 z) (note_same new_note note e) (new_fits n safe)
all_fit n safe (suc (suc zero)) note e = subst (λ z. Fit n safe 2 z) (note_same put_note note e) (put_fits n safe)
all_fit n safe (suc (suc (suc zero))) note e = subst (λ z. Fit n safe 3 z) (note_same throw_note note e) (throw_fits n safe)
all_fit n safe (suc (suc (suc (suc zero)))) note e = subst (λ z. Fit n safe 4 z) (note_same take_note note e) (take_fits n safe)
all_fit n safe (suc (suc (suc (suc (suc zero))))) note e = subst (λ z. Fit n safe 5 z) (note_same get_note note e) (get_fits n safe)
all_fit n safe (suc (suc (suc (suc (suc (suc zero)))))) note e = subst (λ z. Fit n safe 6 z) (note_same store_note note e) (store_fits n safe)
all_fit n safe (suc (suc (suc (suc (suc (suc (suc zero))))))) note e = subst (λ z. Fit n safe 7 z) (note_same address_note note e) (address_fits n safe)
all_fit n safe (suc (suc (suc (suc (suc (suc (suc (suc zero)))))))) note e = subst (λ z. Fit n safe 8 z) (note_same load_note note e) (load_fits n safe)
all_fit n safe (suc (suc (suc (suc (suc (suc (suc (suc (suc zero))))))))) note e = subst (λ z. Fit n safe 9 z) (note_same end_note note e) (end_fits n safe)
all_fit n safe (suc (suc (suc (suc (suc (suc (suc (suc (suc (suc zero)))))))))) note e =
    subst (λ z. Fit n safe 10 z) (note_same ret_note note e) (ret_fits n safe)
all_fit n safe (suc (suc (suc (suc (suc (suc (suc (suc (suc (suc (suc k))))))))))) note e = absurd cc

catch_checked : (n : ℕ) (safe : Bool) → Checked catch_program bounds catch_book (catch_book.held n safe)
unfolding bounds
catch_checked n safe = record {
  entry = record { facts_are = refl; first = refl; note = push_note; is = refl; place_is = refl; outcome_is = refl; foreseen = refl; low = omega arith };
  notes = λ index note e. all_fit n safe index note e;
}

rows_there : (body : BodyView) → ◌≡◌ {A = Option BodyView} (Some catch_body) (Some body) → map (renamed_row itself) body.rows ≡ catch_row ∷ []
rows_there body e = ap (λ (z : BodyView). map (renamed_row itself) z.rows) (sym same_body)
  where
    same_body : catch_body ≡ body
    same_body = cc

type_right : (s : ℕ) (t : Typ) (b : Bool) → (s == 0) ≡ b → cond b (Some number_typ) None ≡ Some t → s ≡ number_of_type t
type_right s t true h e =
    let same_type : number_typ ≡ t = cc in
    eqb-true s 0 h ∙ ap (λ z. number_of_type z) same_type
type_right s t false h e = absurd cc

pub catch_links : Links catch_program catch_names bounds catch_book
catch_links = record {
  bodies = λ n safe body e. cc;
  funcs = λ n safe body e. refl;
  numbers = λ n safe. refl;
  safes = λ n safe. refl;
  frames = λ n safe. refl;
  rows = λ n safe body e. rows_there body e;
  stops = λ n safe. refl;
  stops_so = λ n safe. refl;
  cancels = λ t h. cancels_same t;
  one_type = (typ void false false, refl);
  checked = λ n safe body e. catch_checked n safe;
  names = λ n safe. record {
    globals = λ s m e. absurd cc;
    functions = λ s m e. absurd cc;
    classes = λ s m e. absurd cc;
    types = λ s t e. type_right s t
        (s == 0) refl e;
    addresses = λ n. refl;
    slots = λ s class e a slot. absurd cc;
    spawned = λ a. refl;
    signatures = λ s sig e a. absurd cc;
    methods =
        λ s class slot a n e. absurd cc;
  };
  called = λ n safe name callee e. absurd cc;
  plain_there = λ n safe name callee e. absurd cc;
  pointed = λ a n sig count gives t e. absurd cc;
  slotted = λ a class slot n count gives t e. absurd cc;
  safe_bodies = λ n. refl;
}

pub catch_small : IsSmall catch_program
catch_small = record { globals = λ u n. omega arith; functions = λ u n. omega arith; tables = λ c. omega arith; slots = λ a c s n e. absurd cc }

pub catch_begins : Begins catch_program catch_names catch_book 0 0 []
catch_begins = record { body = catch_body; there = refl; gives = refl; takes = refl; starts = refl; ends = refl; room = refl }
