-- The notes of the worked program fit.
use Rattle.std.proofs.Common.{ℕ, zero, suc, ◌≡◌, ◌==◌, cond, inl, Bool, true, false, refl, ap, sym, subst, [], ◌∷◌, Option, Some, arith}
use Rattle.std.specs.Prelude.{slice_get, map}
use Rattle.tx_code.specs.Objects.{BodyView}
use Rattle.tx_code.specs.Renaming.{itself, renamed_row}
use Rattle.cpp_tree.specs.cpp_types.Typ.{Typ, typ, void}
use Rattle.src_mean.specs.Exceptions.{cancels}
use Rattle.tx_code.specs.declared.instr.Instr.TheVariants.{Push, Ret}
use Rattle.symbolic_source.specs.Terms.{number, variable, unknown}
use Rattle.symbolic_source.specs.Small.{IsSmall}
use Rattle.symbolic_source.specs.Replacing.{Replacing}
use Rattle.body_check.proofs.Landing.{equally}
use Rattle.body_check.specs.Notes.{Note, Bounds}
use Rattle.body_check.specs.Calls.{by_return, NoteFits, Checked, Links, Begins}
use Rattle.body_check.specs.Main.{main_func, main_program, main_names, main_body, first_note, second_note, number_of_type, main_book}

pub bounds : Bounds
bounds = record { half = 8; longest = 16; both = omega arith; most = 1 }

same : Replacing
same = record { word = λ n. variable n; exception = λ n. unknown n }

first_fits : (n : ℕ) (safe : Bool) → NoteFits main_program bounds main_book (main_book.held n safe) first_note
unfolding bounds same
first_fits n safe = record {
  instr = Push 0;
  is = refl;
  short = omega arith;
  foreseen = refl;
  fits = record {
    lands = (equally main_program main_func bounds (first_note ∷ second_note ∷ []) (λ t. true)
        (record {
          at = 1;
          note = second_note;
          is = refl;
          there = refl;
          lag = 0;
          terms = same;
          types = λ n. tt;
          same_place = refl;
          same_facts = tt;
          same_outcome = refl;
          foreseen = refl;
          low = omega arith;
        }));
    short = omega arith;
    goes_on = inl (omega arith);
  };
}

second_fits : (n : ℕ) (safe : Bool) → NoteFits main_program bounds main_book (main_book.held n safe) second_note
unfolding bounds
second_fits n safe = record { instr = Ret 1; is = refl; short = omega arith; foreseen = refl; fits = (refl, (number 0, [], refl, by_return)) }

note_same : (a b : Note) → ◌≡◌ {A = Option Note} (Some a) (Some b) → a ≡ b
note_same a b e = cc

all_fit : (n : ℕ) (safe : Bool) (index : ℕ) (note : Note) → slice_get (first_note ∷ second_note ∷ []) index ≡ Some note
    → NoteFits main_program bounds main_book (main_book.held n safe) note
all_fit n safe zero note e = subst (λ z. NoteFits main_program bounds main_book (main_book.held n safe) z) (note_same first_note note e) (first_fits n safe)
all_fit n safe (suc zero) note e = subst (λ z. NoteFits main_program bounds main_book (main_book.held n safe) z) (note_same second_note note e)
    (second_fits n safe)
all_fit n safe (suc (suc k)) note e = absurd cc

main_checked : (n : ℕ) (safe : Bool) → Checked main_program bounds main_book (main_book.held n safe)
unfolding bounds
main_checked n safe = record {
  entry = record { facts_are = refl; first = refl; note = first_note; is = refl; place_is = refl; outcome_is = refl; foreseen = refl; low = omega arith };
  notes = λ index note e. all_fit n safe index note e;
}

rows_there : (body : BodyView) → ◌≡◌ {A = Option BodyView} (Some main_body) (Some body) → map (renamed_row itself) body.rows ≡ []
rows_there body e = ap (λ (z : BodyView). map (renamed_row itself) z.rows) (sym same_body)
  where
    same_body : main_body ≡ body
    same_body = cc

pub cancels_same : (t : Typ) → (number_of_type t == 1) ≡ cancels t
cancels_same t = by_test (cancels t)
  where
    by_test : (b : Bool) → (cond b 1 0 == 1) ≡ b
    by_test true = refl
    by_test false = refl

pub main_links : Links main_program main_names bounds main_book
main_links = record {
  bodies = λ n safe body e. cc;
  funcs = λ n safe body e. refl;
  numbers = λ n safe. refl;
  safes = λ n safe. refl;
  frames = λ n safe. refl;
  rows = λ n safe body e. rows_there body e;
  stops = λ n safe. refl;
  stops_so = λ n safe. refl;
  cancels = λ t h. cancels_same t;
  one_type = (typ void false false, refl);
  checked = λ n safe body e. main_checked n safe;
  names = λ n safe. record {
    globals = λ s m e. absurd cc;
    functions = λ s m e. absurd cc;
    classes = λ s m e. absurd cc;
    types = λ s t e. absurd cc;
    addresses =
        λ n. refl;
    slots = λ s class e a slot. absurd cc;
    spawned = λ a. refl;
    signatures = λ s sig e a. absurd cc;
    methods = λ s class slot a n e. absurd cc;
  };
  called = λ n safe name callee e. absurd cc;
  plain_there = λ n safe name callee e. absurd cc;
  pointed = λ a n sig count gives t e. absurd cc;
  slotted = λ a class slot n count gives t e. absurd cc;
  safe_bodies = λ n. refl;
}

pub main_small : IsSmall main_program
main_small = record { globals = λ u n. omega arith; functions = λ u n. omega arith; tables = λ c. omega arith; slots = λ a c s n e. absurd cc }

pub main_begins : Begins main_program main_names main_book 0 0 []
main_begins = record { body = main_body; there = refl; gives = refl; takes = refl; starts = refl; ends = refl; room = refl }
