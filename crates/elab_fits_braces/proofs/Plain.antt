-- What rows tell of their kids' kinds: not the places of temporaries, nor how a word was read.
use Rattle.std.proofs.Common.{◌≡◌, refl, ℕ, suc, Bool, List, [], ◌∷◌, map, Option, Some, None}
use Rattle.std.proofs.Common.{◌*◌}
use Rattle.std.specs.List.{list_all}
use Rattle.elab_rules.specs.cpp_types.Typ.{Typ, typ, ref, array, class, closure}
use Rattle.elab_rules.specs.cpp_types.Class.{Class}
use Rattle.elab_rules.specs.cpp_tree.declared.kinds.TKind.{TKind}
use Rattle.elab_rules.specs.cpp_tree.declared.kinds.TKind.TheVariants.{Load, Retype, Materialize}
use Rattle.elab_rules.specs.cpp_tree.Typing.{Head, passes, builds, initialises, is_temporary, is_argument, goes_both_ways, is_word, are_words, Word, object, passed}
use Rattle.elab_rules.specs.cpp_tree.Roles.{is_throw}
use Rattle.elab_rules.specs.cpp_tree.Parts.{is_at, is_field_of, are_fields, Scalar, are_pieces, are_part_pieces, are_element_pieces, part_of, is_last, are_elements}
use Rattle.elab_rules.specs.cpp_tree.Parts.{size_in, Part, scalars_of, are_scalars, is_piece_of}
use Rattle.elab_rules.specs.cpp_tree.Rows.{Setting, is_first_place, is_zero_literal, is_literal, is_destruction, destroyed_at, fall_from, offsets_fall}
use Rattle.elab_rules.specs.cpp_tree.Rows.{are_destructions}

abbrev pub plain_kind : TKind → TKind
plain_kind (Load kind volatile) = Retype
plain_kind (Materialize place argument) = Materialize 0 argument
plain_kind kind = kind

abbrev pub plain_head : Head → Head
plain_head h = record { kind = plain_kind h.kind; typ = h.typ; cat = h.cat }

abbrev pub plain_heads : List Head → List Head
plain_heads hs = map plain_head hs

-- Kinds

pub first_plain : (k : TKind) → is_first_place (plain_kind k) ≡ is_first_place k
first_plain (Load kind volatile) = refl
first_plain (Materialize place argument) = refl
first_plain k = refl

pub zero_plain : (k : TKind) → is_zero_literal (plain_kind k) ≡ is_zero_literal k
zero_plain (Load kind volatile) = refl
zero_plain (Materialize place argument) = refl
zero_plain k = refl

pub literal_plain : (k : TKind) → is_literal (plain_kind k) ≡ is_literal k
literal_plain (Load kind volatile) = refl
literal_plain (Materialize place argument) = refl
literal_plain k = refl

pub throw_plain : (k : TKind) → is_throw (plain_kind k) ≡ is_throw k
throw_plain (Load kind volatile) = refl
throw_plain (Materialize place argument) = refl
throw_plain k = refl

temporary_plain : (k : TKind) → is_temporary (plain_kind k) ≡ is_temporary k
temporary_plain (Load kind volatile) = refl
temporary_plain (Materialize place argument) = refl
temporary_plain k = refl

argument_plain : (k : TKind) → is_argument (plain_kind k) ≡ is_argument k
argument_plain (Load kind volatile) = refl
argument_plain (Materialize place argument) = refl
argument_plain k = refl

both_ways_plain : (k : TKind) → goes_both_ways (plain_kind k) ≡ goes_both_ways k
both_ways_plain (Load kind volatile) = refl
both_ways_plain (Materialize place argument) = refl
both_ways_plain k = refl

at_plain : (at : ℕ) (k : TKind) → is_at at (plain_kind k) ≡ is_at at k
at_plain at (Load kind volatile) = refl
at_plain at (Materialize place argument) = refl
at_plain at k = refl

destruction_plain : (s : Setting) (t : Typ) (k : TKind) → is_destruction s t (plain_kind k) ≡ is_destruction s t k
destruction_plain s t (Load kind volatile) = refl
destruction_plain s t (Materialize place argument) = refl
destruction_plain s t k = refl

destroyed_plain : (k : TKind) → destroyed_at (plain_kind k) ≡ destroyed_at k
destroyed_plain (Load kind volatile) = refl
destroyed_plain (Materialize place argument) = refl
destroyed_plain k = refl

field_plain : (x : Scalar) (k : TKind) → is_field_of x (plain_kind k) ≡ is_field_of x k
field_plain x (Load kind volatile) = refl
field_plain x (Materialize place argument) = refl
field_plain x k = refl

-- Heads

pub builds_plain : (t : Typ) (h : Head) → builds t (plain_head h) ≡ builds t h
builds_plain t h = let e = both_ways_plain h.kind in rw e refl

pub initialises_plain : (t : Typ) (h : Head) → initialises t (plain_head h) ≡ initialises t h
initialises_plain (typ (ref t) c v) h = let e = temporary_plain h.kind in rw e refl
initialises_plain (typ f c v) h = refl

word_plain : (w : Word) (h : Head) → is_word w (plain_head h) ≡ is_word w h
word_plain (object n) h = let e = argument_plain h.kind in rw e refl
word_plain (passed (typ f c v)) h = let e = argument_plain h.kind in let g = initialises_plain (typ f c v) h in rw (e, g) refl

pub words_plain : (ws : List Word) (hs : List Head) → are_words ws (plain_heads hs) ≡ are_words ws hs
words_plain [] [] = refl
words_plain [] (h ∷ hs) = refl
words_plain (w ∷ ws) [] = refl
words_plain (w ∷ ws) (h ∷ hs) = let e = word_plain w h in let g = words_plain ws hs in rw (e, g) refl

-- Destructions

all_plain : (s : Setting) (t : Typ) (hs : List Head)
    → list_all (λ (h : Head). is_destruction s t h.kind) (plain_heads hs) ≡ list_all (λ (h : Head). is_destruction s t h.kind) hs
all_plain s t [] = refl
all_plain s t (h ∷ hs) = let e = destruction_plain s t h.kind in let g = all_plain s t hs in rw (e, g) refl

fall_plain : (limit : ℕ) (hs : List Head) → fall_from limit (plain_heads hs) ≡ fall_from limit hs
fall_plain limit [] = refl
fall_plain limit (h ∷ hs) = let e = destroyed_plain h.kind in let g = fall_plain (destroyed_at h.kind) hs in rw (e, g) refl

offsets_plain : (hs : List Head) → offsets_fall (plain_heads hs) ≡ offsets_fall hs
offsets_plain [] = refl
offsets_plain (h ∷ hs) = let e = destroyed_plain h.kind in let g = fall_plain (destroyed_at h.kind) hs in rw (e, g) refl

pub destructions_plain : (s : Setting) (t : Typ) (hs : List Head) → are_destructions s t (plain_heads hs) ≡ are_destructions s t hs
destructions_plain s t hs = let e = all_plain s t hs in let g = offsets_plain hs in rw (e, g) refl

-- Scalars of exceptions

fields_plain : (xs : List Scalar) (hs : List Head) → are_fields xs (plain_heads hs) ≡ are_fields xs hs
fields_plain [] [] = refl
fields_plain [] (h ∷ hs) = refl
fields_plain (x ∷ xs) [] = refl
fields_plain (x ∷ xs) (h ∷ hs) = let e = field_plain x h.kind in let g = fields_plain xs hs in rw (e, g) refl

pub scalars_plain : (classes : List Class) (t : Typ) (hs : List Head) → are_scalars classes t (plain_heads hs) ≡ are_scalars classes t hs
scalars_plain classes t hs = let e = fields_plain (scalars_of classes t) hs in rw e refl

-- Pieces

part_plain : (c v : Bool) (h : Head) (o : Option Part) → passes (is_piece_of c v (plain_head h)) o ≡ passes (is_piece_of c v h) o
part_plain c v h None = refl
part_plain c v h (Some p) = let e = at_plain p.offset h.kind in rw e refl

part_pieces_plain : (classes : List Class) (c v : Bool) (n i : ℕ) (hs : List Head)
    → are_part_pieces classes c v n i (plain_heads hs) ≡ are_part_pieces classes c v n i hs
part_pieces_plain classes c v n i [] = refl
part_pieces_plain classes c v n i (h ∷ hs) =
    let e = part_plain c v h (part_of classes n i) in let g = part_pieces_plain classes c v n (suc i) hs in rw (e, g) refl

last_plain : (hs : List Head) → is_last (plain_heads hs) ≡ is_last hs
last_plain [] = refl
last_plain (h ∷ hs) = refl

element_pieces_plain : (e : Typ) (size many i : ℕ) (hs : List Head) → are_element_pieces e size many i (plain_heads hs) ≡ are_element_pieces e size many i hs
element_pieces_plain e size many i [] = refl
element_pieces_plain e size many i (h ∷ hs) =
    let a = last_plain hs in let b = at_plain (i * size) h.kind in let d = element_pieces_plain e size many (suc i) hs in rw (a, b, d) refl

sized_plain : (e : Typ) (many : ℕ) (hs : List Head) (o : Option ℕ)
    → passes (λ (size : ℕ). are_element_pieces e size many 0 (plain_heads hs)) o ≡ passes (λ (size : ℕ). are_element_pieces e size many 0 hs) o
sized_plain e many hs None = refl
sized_plain e many hs (Some size) = element_pieces_plain e size many 0 hs

pub pieces_plain : (classes : List Class) (t : Typ) (hs : List Head) → are_pieces classes t (plain_heads hs) ≡ are_pieces classes t hs
pieces_plain classes (typ (class n) c v) hs = let e = part_pieces_plain classes c v n 0 hs in rw e refl
pieces_plain classes (typ (closure n) c v) hs = let e = part_pieces_plain classes c v n 0 hs in rw e refl
pieces_plain classes (typ (array e many) c v) hs = sized_plain e many hs (size_in classes e)
pieces_plain classes (typ f c v) hs = refl

pub elements_plain : (classes : List Class) (count stride before : ℕ) (t : Typ) (h : Head)
    → are_elements classes count stride before t (plain_head h) ≡ are_elements classes count stride before t h
elements_plain classes count stride before (typ (array e many) c v) h =
    let a = builds_plain e h in let b = elements_plain classes count stride (before * many) e h in rw (a, b) refl
elements_plain classes count stride before (typ f c v) h = refl
