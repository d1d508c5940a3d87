-- An image and a linked program agree: equal numbers, sizes, addresses and slots.
use Rattle.std.specs.Prelude.{ℕ, suc, ◌==◌, ◌≡◌, ◌^◌, Bool, true, false, nat_le, ◌&&◌, List, [], ◌∷◌, length, Option, Some, None, is_some, slice_get}
use Rattle.std.specs.Prelude.{option_and_then, unwrap_or, option_map}
use Rattle.std.specs.List.{list_all}
use Rattle.std.specs.Option.{option_map_or}
use Rattle.std.specs.Global.{Vec}
use Rattle.tx_code.specs.Objects.{BodyView}
use Rattle.tx_code.specs.Images.{ImageFuncView, ImageClassView, ImageView}
use Rattle.tx_code.specs.Program.{names_of, func_address, class_address, number_at}
use Rattle.cpp_tree.specs.cpp_types.Typ.{Typ}
use Rattle.cpp_tree.specs.cpp_types.Equal.{flag_eq}
use Rattle.cpp_tree.specs.Units.{Definition, Unit as TypedUnit}
use Rattle.cpp_tree.specs.tx_events.Memory.{stack_size}
use Rattle.src_mean.specs.Linked.{Func, Program}
use Rattle.src_mean.specs.Links.{Def, kept_funcs, kept_classes}
use Rattle.src_mean.specs.Source.{thread_signature}
use Rattle.src_bind.specs.Tables.{Given, typed, linked_of}
use Rattle.body_check.specs.Notes.{Note, Bounds}
use Rattle.body_check.specs.Calls.{Book, Checked, Links, Begins}
use Rattle.image_links.specs.Books.{all_places, same_number, func_takes, func_gives, pointed_pass, book_of}

-- a stack has room for the frame of a function that a thread starts in
abbrev pub most_frame : ℕ
most_frame = stack_size

-- a function of the image is this one of the program
abbrev pub same_func : ImageFuncView → Option Func → Bool
same_func f None = false
same_func f (Some h) = (f.frame == h.size) && (flag_eq f.no_except h.stops && (flag_eq (is_some f.safe) h.safe && nat_le h.size most_frame))

abbrev pub same_funcs : Program → ℕ → List ImageFuncView → Bool
same_funcs p n [] = true
same_funcs p n (f ∷ fs) = same_func f (p.func n) && same_funcs p (suc n) fs

-- the symbols that the slots of a kept class name, by the class's number
abbrev pub symbols_of : Given → ℕ → List (Option (Vec ℕ))
symbols_of g d = unwrap_or (option_and_then (λ (c : Def). option_map (λ (row : Vec (Option (Vec ℕ))). row.items) (slice_get g.choices.symbols.items c.place))
    (slice_get (kept_classes (typed g)) d)) []

module _ (i : ImageView) (g : Given) where
  abbrev pub program : Program
  program = linked_of g

  -- one slot of the class with the number `d`, looked up as that of the class `s` of the image and as that of the class `c` of the program
  abbrev pub same_slot : (s c d slot : ℕ) → Bool
  same_slot s c d slot = same_number ((names_of i).slot_of s (class_address d) slot) (program.slot (class_address d) c slot)

  abbrev pub same_slots : (s c d : ℕ) → ImageClassView → Bool
  same_slots s c d k = all_places (same_slot s c d) 0 k.slots && all_places (same_slot s c d) 0 (symbols_of g d)

  abbrev pub same_classes : (s c d : ℕ) → List ImageClassView → Bool
  same_classes s c d [] = true
  same_classes s c d (k ∷ ks) = same_slots s c d k && same_classes s c (suc d) ks

  -- a class of the program has the slots that the class of its address has in the image
  abbrev pub class_agrees : ℕ → Bool
  class_agrees c = option_map_or (λ s. same_classes s c 0 i.classes) (number_at (2 ^ 41) (program.table c)) true

  abbrev pub definitions_agree : List Definition → Bool
  definitions_agree ds = list_all (λ (d : Definition). class_agrees d.class) ds

  abbrev pub units_agree : List TypedUnit → Bool
  units_agree xs = list_all (λ (x : TypedUnit). definitions_agree x.classes) xs

  -- the functions that threads may start in
  abbrev pub spawned_agree : Bool
  spawned_agree = all_places (λ n. same_number ((names_of i).spawned (func_address n)) (program.pointed (func_address n) thread_signature)) 0 i.funcs

  abbrev pub threads_agree : Bool
  threads_agree = spawned_agree && pointed_pass i program (typed g) thread_signature 1 false

  abbrev pub main_agrees : Bool
  main_agrees = (i.main == program.main) && ((func_takes program i.main == 0) && func_gives i i.main)

  -- equal numbers of functions and of classes, which have 32 bits
  abbrev pub counts_agree : Bool
  counts_agree = ((length i.funcs == length (kept_funcs (typed g))) && nat_le (length i.funcs) 4294967295)
      && ((length i.classes == length (kept_classes (typed g))) && nat_le (length i.classes) 4294967295)

  abbrev pub agrees : Bool
  agrees = counts_agree && (same_funcs program 0 i.funcs && (units_agree (typed g).units && (threads_agree && main_agrees)))

-- each body that is there is checked
abbrev pub AllChecked : ImageView → Program → Bounds → Book → Type 0
AllChecked i p b book = (n : ℕ) (safe : Bool) (body : BodyView) → (names_of i).body n safe ≡ Some body → Checked p b book (book.held n safe)

-- the book of an image and a linked program
abbrev pub linked_book : ImageView → Given → (notes : ℕ → Bool → List Note) → (typs : ℕ → Bool → List Typ) → Book
linked_book i g notes typs = book_of i (linked_of g) (typed g) notes typs

-- what follows for bodies that are checked with these notes: the image is that of the program, main begins as its source, and so does each other thread
pub record Linked (i : ImageView) (g : Given) (b : Bounds) (notes : ℕ → Bool → List Note) (typs : ℕ → Bool → List Typ) : Type 0 where
  pub links : Links (linked_of g) (names_of i) b (linked_book i g notes typs)
  pub main : Begins (linked_of g) (names_of i) (linked_book i g notes typs) 0 (linked_of g).main []
  pub threads : (id a n word : ℕ) → (id == 0) ≡ false → (linked_of g).pointed a thread_signature ≡ Some n
      → Begins (linked_of g) (names_of i) (linked_book i g notes typs) id n (word ∷ [])

abbrev pub AreLinked : ImageView → Given → Type 0
AreLinked i g = (b : Bounds) (notes : ℕ → Bool → List Note) (typs : ℕ → Bool → List Typ) → AllChecked i (linked_of g) b (linked_book i g notes typs)
    → Linked i g b notes typs
