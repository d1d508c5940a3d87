-- What was read so far: its lines are those that were read, and it keeps the conditions of an object.
use Rattle.std.proofs.Common.{◌≡◌, ℕ, Bool, true, false, cond, List, [], ◌∷◌, ◌++◌, length, map, Option, Some, None, refl, sym, ap, subst, ◌∙◌, ◌&&◌, ◌||◌}
use Rattle.std.proofs.Common.{append_assoc, append-nil}
use Rattle.std.specs.Prelude.{nat_eq, nat_lt, not}
use Rattle.std.specs.List.{list_all, flat_map}
use Rattle.std.specs.Option.{option_map}
use Rattle.std.proofs.lemmas.Bool.{and_parts, and_from, false≢true, eqb-true}
use Rattle.tx_code.specs.declared.instr.Instr.{Instr}
use Rattle.tx_code.specs.declared.instr.Instr.TheVariants.{Push, Dup, Pop, Swap, FrameAddr, GlobalAddr, FuncAddr, ClassAddr, Load, Store, TLoad, TStore, VLoad}
use Rattle.tx_code.specs.declared.instr.Instr.TheVariants.{VStore, Bin, Neg, Conv, Jump, JumpZero, Call, TCall, CallIndirect, TCallIndirect, Slot, Ret, Begin}
use Rattle.tx_code.specs.declared.instr.Instr.TheVariants.{End, BeginSync, EndSync, Out, Inp, Spawn, Join, Abort, NewException, PutException, Throw, Rethrow}
use Rattle.tx_code.specs.declared.instr.Instr.TheVariants.{GetException, EndHandler, Resume, Over}
use Rattle.tx_code.specs.Objects.{ClassView, GlobalView, FuncView, ObjectView}
use Rattle.tx_code.specs.WellFormed.{bytes_lt, is_name, is_name_or_none, is_length, is_count, ascends, same, flags_fit, text_fits, bit, source_fits, class_fits}
use Rattle.tx_code.specs.WellFormed.{global_fits, func_fits, named_in, all_used, bases_fit, IsObject}
use Rattle.object_bytes.specs.Spelling.{is_u8, is_u32, instr_is_wide, class_is_wide, global_is_wide, func_is_wide, is_wide, source_number}
use Rattle.object_bytes.specs.Fields.{above}
use Rattle.object_bytes.specs.Objects.{source_of, is_whole}
use Rattle.object_bytes.proofs.Parts.{parts3, parts5, parts7, parts8}
use Rattle.object_bytes.proofs.ObjectLaws.{FieldsFit, numbered, source_fits_is}
use Rattle.assembly_text.specs.declared.line.ClassHead.{ClassHead}
use Rattle.assembly_text.specs.declared.line.GlobalHead.{GlobalHead}
use Rattle.assembly_text.specs.declared.line.FuncHead.{FuncHead}
use Rattle.assembly_text.specs.declared.line.Record.{Record}
use Rattle.assembly_text.specs.declared.line.Record.TheVariants as kind
use Rattle.assembly_text.specs.Lines.{Line, Name, Of, line_text, code_line, not_end, record_is_wide, source_lines, class_lines, global_lines, func_lines}
use Rattle.assembly_text.specs.Lines.{lines_of, text_of}
use Rattle.code_asm.specs.Steps.{Place, Start, Names, Between, InClass, InGlobal, InFunc, Ended, State, has_room, is_nil, last_of, class_step, global_step}
use Rattle.code_asm.specs.Steps.{func_step, has_bodies, func_of, with_class, with_global, with_func, closed, begun, named, sourced, begin_class, begin_global}
use Rattle.code_asm.specs.Steps.{begin_func, inner, ended, place_takes_code, end_step, record_step, step, IsSorted}
use Rattle.assembly_text.specs.Options.{given, and_then}
use Rattle.code_asm.specs.Answers.{Reaches, begins, goes_on, IsWritten}
use Rattle.assembly_text.specs.Front.{line_is_wide}
use Rattle.assembly_text.proofs.RecordLaws.{was_given, bound}
use Rattle.code_asm.proofs.Appended.{nil_is, all_more, flat_more, map_more, count_more, ascends_more, ascends_key}
use Rattle.code_asm.proofs.BodySteps.{line_of, has_width}
use Rattle.code_asm.proofs.EntrySteps.{ClassParts, class_fits_by, class_wide_by, class_steps, GlobalParts, global_fits_by, global_wide_by, global_steps}
use Rattle.code_asm.proofs.EntrySteps.{FuncParts, func_fits_by, func_wide_by, func_steps}

-- ---- the lines so far

abbrev pub so_far : ObjectView → Place → List Line
so_far o Start = []
so_far o Names = Of (kind.Txob o.version) ∷ map Name o.names
so_far o Between = lines_of o
so_far o (InClass c) = lines_of o ++ class_lines c
so_far o (InGlobal g) = lines_of o ++ global_lines g
so_far o (InFunc f) = lines_of o ++ func_lines f
so_far o Ended = lines_of o ++ Of kind.End ∷ []

-- ---- what is kept

abbrev bare : (version : ℕ) → List (List ℕ) → Option (List ℕ) → ObjectView
bare version names source = record { version = version; names = names; source = source; classes = []; globals = []; funcs = [] }

pub record NamesKept (o : ObjectView) : Type 0 where
  pub version : (nat_eq o.version 1 || nat_eq o.version 2) ≡ true
  pub version_wide : is_u32 o.version ≡ true
  pub count : is_count o.names ≡ true
  pub names : list_all is_length o.names ≡ true
  pub order : ascends bytes_lt o.names ≡ true
  pub wide : list_all (list_all is_u8) o.names ≡ true
  pub bare_is : o ≡ bare o.version o.names None

pub record ClassKept (o : ObjectView) (c : ClassView) : Type 0 where
  pub fits : FieldsFit o
  pub no_globals : o.globals ≡ []
  pub no_funcs : o.funcs ≡ []
  pub room : has_room o.classes ≡ true
  pub order : above nat_lt (option_map (λ (x : ClassView). x.name) (last_of o.classes)) c.name ≡ true
  pub parts : ClassParts (length o.names) c

pub record GlobalKept (o : ObjectView) (g : GlobalView) : Type 0 where
  pub fits : FieldsFit o
  pub no_funcs : o.funcs ≡ []
  pub room : has_room o.globals ≡ true
  pub order : above nat_lt (option_map (λ (x : GlobalView). x.symbol) (last_of o.globals)) g.symbol ≡ true
  pub parts : GlobalParts (length o.names) g

pub record FuncKept (o : ObjectView) (f : FuncView) : Type 0 where
  pub fits : FieldsFit o
  pub room : has_room o.funcs ≡ true
  pub order : above nat_lt (option_map (λ (x : FuncView). x.symbol) (last_of o.funcs)) f.symbol ≡ true
  pub parts : FuncParts o.version (length o.names) f

pub record EndKept (o : ObjectView) : Type 0 where
  pub fits : FieldsFit o
  pub whole : is_whole o ≡ true

abbrev pub Kept : ObjectView → Place → Type 0
Kept o Start = Unit {0}
Kept o Names = NamesKept o
Kept o Between = FieldsFit o
Kept o (InClass c) = ClassKept o c
Kept o (InGlobal g) = GlobalKept o g
Kept o (InFunc f) = FuncKept o f
Kept o Ended = EndKept o

-- ---- widths

record Widths (o : ObjectView) : Type 0 where
  version : is_u32 o.version ≡ true
  names : list_all (list_all is_u8) o.names ≡ true
  classes : list_all class_is_wide o.classes ≡ true
  globals : list_all global_is_wide o.globals ≡ true
  funcs : list_all func_is_wide o.funcs ≡ true

widths : (o : ObjectView) → is_wide o ≡ true → Widths o
unfolding is_wide
widths o h =
    let p = parts5 (is_u32 o.version) (list_all (list_all is_u8) o.names) (list_all class_is_wide o.classes) (list_all global_is_wide o.globals)
    (list_all func_is_wide o.funcs) h in
    record { version = p.0; names = p.1; classes = p.2; globals = p.3; funcs = p.4 }

are_wide : (o : ObjectView) → Widths o → is_wide o ≡ true
unfolding is_wide
are_wide o w = and_from _ _ (and_from _ _ (and_from _ _ (and_from _ _ w.version w.names) w.classes) w.globals) w.funcs

-- ---- an entry ends

pub record Closing (o : ObjectView) (place : Place) (c : ObjectView) : Type 0 where
  pub fits : FieldsFit c
  pub lines : so_far o place ≡ lines_of c

bare_fits : (o : ObjectView) (source : Option (List ℕ)) → NamesKept o → source_fits o.version o.names source ≡ true → FieldsFit (bare o.version o.names source)
bare_fits o source k named = record {
  version = k.version;
  name_count = k.count;
  names = k.names;
  names_ascend = k.order;
  source = named;
  class_count = refl;
  classes = refl;
  classes_ascend = refl;
  global_count = refl;
  globals = refl;
  globals_ascend = refl;
  func_count = refl;
  funcs = refl;
  funcs_ascend = refl;
  wide = are_wide (bare o.version o.names source) (record { version = k.version_wide; names = k.wide; classes = refl; globals = refl; funcs = refl });
}

without_source : (version : ℕ) (names : List (List ℕ)) (source : Option (List ℕ)) → version ≡ 1 → source_lines version names source ≡ []
without_source version names source e = rw e refl

end_names : (o : ObjectView) → NamesKept o → nat_eq o.version 1 ≡ true → Closing o Names o
end_names o k first = record {
  fits = subst FieldsFit (sym k.bare_is) (bare_fits o None k refl);
  lines =
      let bared : lines_of (bare o.version o.names None) ≡ Of (kind.Txob o.version) ∷ map Name o.names =
      ap (λ (z : List Line). Of (kind.Txob o.version) ∷ (map Name o.names ++ (z ++ []))) (without_source o.version o.names None (eqb-true o.version 1 first))
      ∙ ap (λ (z : List Line). Of (kind.Txob o.version) ∷ z) (append-nil (map Name o.names)) in
      sym (ap lines_of k.bare_is ∙ bared);
}

abbrev front : ObjectView → List Line
front o = source_lines o.version o.names o.source

class_end : (head : Line) (n s c x : List Line) → head ∷ (n ++ (s ++ ((c ++ x) ++ []))) ≡ (head ∷ (n ++ (s ++ (c ++ [])))) ++ x
class_end head n s c x = ap (λ (z : List Line). head ∷ z) (
    ap (λ (z : List Line). n ++ (s ++ z)) (append-nil (c ++ x))
    ∙ ap (λ (z : List Line). n ++ z) (sym (append_assoc s c x))
    ∙ sym (append_assoc n (s ++ c) x)
    ∙ ap (λ (z : List Line). (n ++ (s ++ z)) ++ x) (sym (append-nil c)))

global_end : (head : Line) (n s c g x : List Line) → head ∷ (n ++ (s ++ (c ++ ((g ++ x) ++ [])))) ≡ (head ∷ (n ++ (s ++ (c ++ (g ++ []))))) ++ x
global_end head n s c g x = ap (λ (z : List Line). head ∷ z) (
    ap (λ (z : List Line). n ++ (s ++ (c ++ z))) (append-nil (g ++ x))
    ∙ ap (λ (z : List Line). n ++ (s ++ z)) (sym (append_assoc c g x))
    ∙ ap (λ (z : List Line). n ++ z) (sym (append_assoc s (c ++ g) x))
    ∙ sym (append_assoc n (s ++ (c ++ g)) x)
    ∙ ap (λ (z : List Line). (n ++ (s ++ (c ++ z))) ++ x) (sym (append-nil g)))

func_end : (head : Line) (n s c g f x : List Line) → head ∷ (n ++ (s ++ (c ++ (g ++ (f ++ x))))) ≡ (head ∷ (n ++ (s ++ (c ++ (g ++ f))))) ++ x
func_end head n s c g f x = ap (λ (z : List Line). head ∷ z) (
    ap (λ (z : List Line). n ++ (s ++ (c ++ z))) (sym (append_assoc g f x))
    ∙ ap (λ (z : List Line). n ++ (s ++ z)) (sym (append_assoc c (g ++ f) x))
    ∙ ap (λ (z : List Line). n ++ z) (sym (append_assoc s (c ++ (g ++ f)) x))
    ∙ sym (append_assoc n (s ++ (c ++ (g ++ f))) x))

end_class : (o : ObjectView) (c : ClassView) → ClassKept o c → Closing o (InClass c) (with_class o c)
end_class o c k =
    let w = widths o k.fits.wide in
    record {
      fits = record {
        version = k.fits.version;
        name_count = k.fits.name_count;
        names = k.fits.names;
        names_ascend = k.fits.names_ascend;
        source = k.fits.source;
        class_count = count_more o.classes c k.room;
        classes = all_more (class_fits (length o.names)) o.classes c k.fits.classes (class_fits_by (length o.names) c k.parts);
        classes_ascend = ascends_key (λ (x : ClassView). x.name) o.classes c k.fits.classes_ascend k.order;
        global_count = k.fits.global_count;
        globals = k.fits.globals;
        globals_ascend = k.fits.globals_ascend;
        func_count = k.fits.func_count;
        funcs = k.fits.funcs;
        funcs_ascend = k.fits.funcs_ascend;
        wide = are_wide (with_class o c) (record {
          version = w.version;
          names = w.names;
          classes = all_more class_is_wide o.classes c w.classes
              (class_wide_by (length o.names) c k.parts);
          globals = w.globals;
          funcs = w.funcs;
        });
      };
      lines = sym (
          ap (λ (z : List Line). Of (kind.Txob o.version)
          ∷ (map Name o.names ++ (front o ++ (z ++ (flat_map global_lines o.globals ++ flat_map func_lines o.funcs))))) (flat_more class_lines o.classes c)
          ∙ rw (k.no_globals, k.no_funcs) (class_end (Of (kind.Txob o.version)) (map Name o.names) (front o) (flat_map class_lines o.classes) (class_lines c)));
    }

end_global : (o : ObjectView) (g : GlobalView) → GlobalKept o g → Closing o (InGlobal g) (with_global o g)
end_global o g k =
    let w = widths o k.fits.wide in
    record {
      fits = record {
        version = k.fits.version;
        name_count = k.fits.name_count;
        names = k.fits.names;
        names_ascend = k.fits.names_ascend;
        source = k.fits.source;
        class_count = k.fits.class_count;
        classes = k.fits.classes;
        classes_ascend = k.fits.classes_ascend;
        global_count = count_more o.globals g k.room;
        globals = all_more (global_fits (length o.names)) o.globals g k.fits.globals (global_fits_by (length o.names) g k.parts);
        globals_ascend = ascends_key (λ (x : GlobalView). x.symbol) o.globals g k.fits.globals_ascend k.order;
        func_count = k.fits.func_count;
        funcs = k.fits.funcs;
        funcs_ascend = k.fits.funcs_ascend;
        wide = are_wide (with_global o g) (record {
          version = w.version;
          names = w.names;
          classes = w.classes;
          globals =
              all_more global_is_wide o.globals g w.globals (global_wide_by (length o.names) g k.parts);
          funcs = w.funcs;
        });
      };
      lines = sym (
          ap (λ (z : List Line). Of (kind.Txob o.version)
          ∷ (map Name o.names ++ (front o ++ (flat_map class_lines o.classes ++ (z ++ flat_map func_lines o.funcs))))) (flat_more global_lines o.globals g)
          ∙ rw k.no_funcs (global_end (Of (kind.Txob o.version)) (map Name o.names) (front o) (flat_map class_lines o.classes) (flat_map global_lines o.globals)
          (global_lines g)));
    }

end_func : (o : ObjectView) (f : FuncView) → FuncKept o f → has_bodies f ≡ true → Closing o (InFunc f) (with_func o f)
end_func o f k bodies =
    let w = widths o k.fits.wide in
    record {
      fits = record {
        version = k.fits.version;
        name_count = k.fits.name_count;
        names = k.fits.names;
        names_ascend = k.fits.names_ascend;
        source = k.fits.source;
        class_count = k.fits.class_count;
        classes = k.fits.classes;
        classes_ascend = k.fits.classes_ascend;
        global_count = k.fits.global_count;
        globals = k.fits.globals;
        globals_ascend = k.fits.globals_ascend;
        func_count = count_more o.funcs f k.room;
        funcs = all_more (func_fits o.version (length o.names)) o.funcs f k.fits.funcs (func_fits_by o.version (length o.names) f k.parts bodies);
        funcs_ascend = ascends_key (λ (x : FuncView). x.symbol) o.funcs f k.fits.funcs_ascend k.order;
        wide = are_wide (with_func o f) (record {
          version = w.version;
          names = w.names;
          classes = w.classes;
          globals = w.globals;
          funcs =
              all_more func_is_wide o.funcs f w.funcs (func_wide_by o.version (length o.names) f k.parts);
        });
      };
      lines = sym (
          ap (λ (z : List Line). Of (kind.Txob o.version)
          ∷ (map Name o.names ++ (front o ++ (flat_map class_lines o.classes ++ (flat_map global_lines o.globals ++ z))))) (flat_more func_lines o.funcs f)
          ∙ func_end (Of (kind.Txob o.version)) (map Name o.names) (front o) (flat_map class_lines o.classes) (flat_map global_lines o.globals)
          (flat_map func_lines o.funcs) (func_lines f));
    }

some_is : (x y : ObjectView) → Path (Option ObjectView) (Some x) (Some y) → x ≡ y
some_is x y e = cc

pub closing : (o : ObjectView) (place : Place) (c : ObjectView) → Kept o place → closed o place ≡ Some c → Closing o place c
closing o Start c k e = absurd cc
closing o Names c k e = let g = was_given (nat_eq o.version 1) o c e in subst (Closing o Names) g.1 (end_names o k g.0)
closing o Between c k e = subst (Closing o Between) (some_is o c e) (record { fits = k; lines = refl })
closing o (InClass x) c k e = subst (Closing o (InClass x)) (some_is (with_class o x) c e) (end_class o x k)
closing o (InGlobal x) c k e = subst (Closing o (InGlobal x)) (some_is (with_global o x) c e) (end_global o x k)
closing o (InFunc x) c k e = let g = was_given (has_bodies x) (with_func o x) c e in subst (Closing o (InFunc x)) g.1 (end_func o x k g.0)
closing o Ended c k e = absurd cc

-- ---- one line more

pub record More (o : ObjectView) (place : Place) (t : State) (l : Line) : Type 0 where
  pub kept : Kept t.object t.place
  pub lines : so_far t.object t.place ≡ so_far o place ++ l ∷ []

more_is : (o : ObjectView) (place : Place) (x t : State) (l : Line) (b : Bool) → given b x ≡ Some t → (b ≡ true → More o place x l) → More o place t l
more_is o place x t l b e f = let g = was_given b x t e in subst (λ (z : State). More o place z l) g.1 (f g.0)

begun_more : (o : ObjectView) (place : Place) (version : ℕ) (t : State) → is_u32 version ≡ true → begun o place version ≡ Some t
    → More o place t (Of (kind.Txob version))
begun_more o Start version t wide e = more_is o Start _ t (Of (kind.Txob version)) _ e
    (λ h. record { kept = record { version = h; version_wide = wide; count = refl; names = refl; order = refl; wide = refl; bare_is = refl }; lines = refl })
begun_more o Names version t wide e = absurd cc
begun_more o Between version t wide e = absurd cc
begun_more o (InClass x) version t wide e = absurd cc
begun_more o (InGlobal x) version t wide e = absurd cc
begun_more o (InFunc x) version t wide e = absurd cc
begun_more o Ended version t wide e = absurd cc

named_more : (o : ObjectView) (place : Place) (name : List ℕ) (t : State) → Kept o place → list_all is_u8 name ≡ true → named o place name ≡ Some t
    → More o place t (Name name)
named_more o Names name t k wide e = more_is o Names _ t (Name name) _ e (λ h.
    let p = parts3 (is_length name) (has_room o.names) (above bytes_lt (last_of o.names) name) h in
    record {
      kept = record {
        version = k.version;
        version_wide = k.version_wide;
        count = count_more o.names name p.1;
        names = all_more is_length o.names name k.names p.0;
        order = ascends_more bytes_lt o.names name k.order p.2;
        wide = all_more (list_all is_u8) o.names name k.wide wide;
        bare_is = ap (λ (z : ObjectView). record {
          version = o.version;
          names = o.names ++ name ∷ [];
          source = z.source;
          classes = z.classes;
          globals =
              z.globals;
          funcs = z.funcs;
        }) k.bare_is;
      };
      lines = ap (λ (z : List Line). Of (kind.Txob o.version) ∷ z) (map_more Name o.names name);
    })
named_more o Start name t k wide e = absurd cc
named_more o Between name t k wide e = absurd cc
named_more o (InClass x) name t k wide e = absurd cc
named_more o (InGlobal x) name t k wide e = absurd cc
named_more o (InFunc x) name t k wide e = absurd cc
named_more o Ended name t k wide e = absurd cc

with_source : (version : ℕ) (names : List (List ℕ)) (source : Option (List ℕ)) (i : ℕ) → nat_eq version 2 ≡ true → i ≡ source_number names source
    → source_lines version names source ≡ Of (kind.Source i) ∷ []
with_source version names source i h e = rw (h, e) refl

sourced_more : (o : ObjectView) (place : Place) (i : ℕ) (t : State) → Kept o place → sourced o place i ≡ Some t → More o place t (Of (kind.Source i))
sourced_more o Names i t k e = more_is o Names _ t (Of (kind.Source i)) _ e (λ h.
    let p = and_parts (nat_eq o.version 2) (is_name_or_none (length o.names) i) h in
    let n = numbered o.names i k.order p.1 in
    let there : source_fits o.version o.names (source_of o.names i) ≡ true = source_fits_is o.version o.names (source_of o.names i) ∙ rw p.0 n.named in
    let same : bare o.version o.names (source_of o.names i)
    ≡ record { version = o.version; names = o.names; source = source_of o.names i; classes = o.classes; globals = o.globals; funcs = o.funcs } =
    ap (λ (z : ObjectView). record {
      version = o.version;
      names = o.names;
      source = source_of o.names i;
      classes = z.classes;
      globals = z.globals;
      funcs =
          z.funcs;
    }) (sym k.bare_is) in
    record {
      kept = subst FieldsFit same (bare_fits o (source_of o.names i) k there);
      lines = ap lines_of (sym same) ∙ ap (λ (z : List Line). Of (kind.Txob o.version) ∷ (map Name o.names ++ (z ++ [])))
          (with_source o.version o.names (source_of o.names i) i p.0 n.number);
    })
sourced_more o Start i t k e = absurd cc
sourced_more o Between i t k e = absurd cc
sourced_more o (InClass x) i t k e = absurd cc
sourced_more o (InGlobal x) i t k e = absurd cc
sourced_more o (InFunc x) i t k e = absurd cc
sourced_more o Ended i t k e = absurd cc

class_more : (o : ObjectView) (place : Place) (c : ObjectView) (h : ClassHead) (t : State) → Closing o place c → record_is_wide (kind.Class h) ≡ true
    → begin_class h c ≡ Some t → More o place t (Of (kind.Class h))
class_more o place c h t k wide e = more_is o place _ t (Of (kind.Class h)) _ e (λ b.
    let p = parts7 (is_nil c.globals) (is_nil c.funcs) (has_room c.classes) (is_name (length c.names) h.name)
    (above nat_lt (option_map (λ (x : ClassView). x.name) (last_of c.classes)) h.name) (is_name_or_none (length c.names) h.base)
    (is_name (length c.names) h.text) b in
    record {
      kept = record {
        fits = k.fits;
        no_globals = nil_is c.globals p.0;
        no_funcs = nil_is c.funcs p.1;
        room = p.2;
        order = p.4;
        parts = record {
          name = p.3;
          base = p.5;
          text = p.6;
          member_count = refl;
          members = refl;
          slot_count = refl;
          slots = refl;
          numbers = wide;
          member_wide =
              refl;
          slot_wide = refl;
        };
      };
      lines = ap (λ (z : List Line). z ++ Of (kind.Class h) ∷ []) (sym k.lines);
    })

or_right : (a b : Bool) → b ≡ true → (a || b) ≡ true
or_right true b h = refl
or_right false b h = h

global_more : (o : ObjectView) (place : Place) (c : ObjectView) (h : GlobalHead) (t : State) → Closing o place c → record_is_wide (kind.Global h) ≡ true
    → begin_global h c ≡ Some t → More o place t (Of (kind.Global h))
global_more o place c h t k wide e = more_is o place _ t (Of (kind.Global h)) _ e (λ b.
    let p = parts8 (is_nil c.funcs) (has_room c.globals) (is_name (length c.names) h.symbol)
    (above nat_lt (option_map (λ (x : GlobalView). x.symbol) (last_of c.globals)) h.symbol) (is_name (length c.names) h.ty) (nat_lt h.linkage 2)
    (nat_lt h.defined 2) (same (nat_eq h.defined 0) (nat_eq h.size 0)) b in
    record {
      kept = record {
        fits = k.fits;
        no_funcs = nil_is c.funcs p.0;
        room = p.1;
        order = p.3;
        parts = record {
          symbol = p.2;
          ty = p.4;
          linkage = p.5;
          defined = p.6;
          cell_count = refl;
          cells = refl;
          order = refl;
          size = p.7;
          none = or_right
              (not (nat_eq h.defined 0)) true refl;
          numbers = wide;
          cell_wide = refl;
        };
      };
      lines = ap (λ (z : List Line). z ++ Of (kind.Global h) ∷ []) (sym k.lines);
    })

func_more : (o : ObjectView) (place : Place) (c : ObjectView) (h : FuncHead) (t : State) → Closing o place c → record_is_wide (kind.Func h) ≡ true
    → begin_func h c ≡ Some t → More o place t (Of (kind.Func h))
func_more o place c h t k wide e = more_is o place _ t (Of (kind.Func h)) _ e (λ b.
    let p = parts8 (has_room c.funcs) (is_name (length c.names) h.symbol) (above nat_lt (option_map (λ (x : FuncView). x.symbol) (last_of c.funcs)) h.symbol)
    (is_name (length c.names) h.ty) (nat_lt h.linkage 3) (flags_fit h.flags) (text_fits (length c.names) (func_of h))
    (bit 0 h.flags || nat_eq h.frame 0) b in
    record {
      kept = record {
        fits = k.fits;
        room = p.0;
        order = p.2;
        parts = record { symbol = p.1; ty = p.3; linkage = p.4; flags = p.5; text = p.6; frame = p.7; plain = tt; safe = tt; in_order = refl; numbers = wide };
      };
      lines = ap (λ (z : List Line). z ++ Of (kind.Func h) ∷ []) (sym k.lines);
    })

-- ---- lines in an entry

record Stepped {A : Type 0} (next : Option A) (make : A → State) (t : State) : Type 0 where
  entry : A
  stepped : next ≡ Some entry
  made : make entry ≡ t

stepped_to : {A : Type 0} (next : Option A) (make : A → State) (t : State) → option_map make next ≡ Some t → Stepped next make t
stepped_to (Some x) make t e = record { entry = x; stepped = refl; made = cc }
stepped_to None make t e = absurd cc

inner_more : (o : ObjectView) (place : Place) (r : Record) (t : State) → Kept o place → has_width r ≡ true → inner o place r ≡ Some t → {l : Line}
    → line_of r ≡ l → More o place t l
inner_more o (InClass c) r t k wide e {l = l} same =
    let s = stepped_to (class_step (length o.names) c r) (λ x. record { object = o; place = InClass x }) t e in
    let m = class_steps (length o.names) c s.entry r k.parts wide s.stepped in
    subst (λ (z : State). More o (InClass c) z l) s.made (record {
      kept = record { fits = k.fits; no_globals = k.no_globals; no_funcs = k.no_funcs; room = k.room; order = rw m.same_name k.order; parts = m.parts };
      lines = ap (λ (z : List Line). lines_of o ++ z) (m.lines ∙ ap (λ (z : Line). class_lines c ++ z ∷ []) same)
          ∙ sym (append_assoc (lines_of o) (class_lines c) (l ∷ []));
    })
inner_more o (InGlobal g) r t k wide e {l = l} same =
    let s = stepped_to (global_step (length o.names) g r) (λ x. record { object = o; place = InGlobal x }) t e in
    let m = global_steps (length o.names) g s.entry r k.parts wide s.stepped in
    subst (λ (z : State). More o (InGlobal g) z l) s.made (record {
      kept = record { fits = k.fits; no_funcs = k.no_funcs; room = k.room; order = rw m.same_symbol k.order; parts = m.parts };
      lines = ap (λ (z : List Line). lines_of o ++ z) (m.lines ∙ ap (λ (z : Line). global_lines g ++ z ∷ []) same)
          ∙ sym (append_assoc (lines_of o) (global_lines g) (l ∷ []));
    })
inner_more o (InFunc f) r t k wide e {l = l} same =
    let s = stepped_to (func_step o.version (length o.names) f r) (λ x. record { object = o; place = InFunc x }) t e in
    let m = func_steps o.version (length o.names) f s.entry r k.parts wide s.stepped in
    subst (λ (z : State). More o (InFunc f) z l) s.made (record {
      kept = record { fits = k.fits; room = k.room; order = rw m.same_symbol k.order; parts = m.parts };
      lines = ap (λ (z : List Line). lines_of o ++ z) (m.lines ∙ ap (λ (z : Line). func_lines f ++ z ∷ []) same)
          ∙ sym (append_assoc (lines_of o) (func_lines f) (l ∷ []));
    })
inner_more o Start r t k wide e same = absurd cc
inner_more o Names r t k wide e same = absurd cc
inner_more o Between r t k wide e same = absurd cc
inner_more o Ended r t k wide e same = absurd cc

-- ---- any line

code_is : (i : Instr) → not_end i ≡ true → code_line i ≡ Of (kind.Code i)
code_is (Push a) h = refl
code_is Dup h = refl
code_is Pop h = refl
code_is Swap h = refl
code_is (FrameAddr a) h = refl
code_is (GlobalAddr a) h = refl
code_is (FuncAddr a) h = refl
code_is (ClassAddr a) h = refl
code_is (Load a) h = refl
code_is (Store a) h = refl
code_is (TLoad a) h = refl
code_is (TStore a) h = refl
code_is (VLoad a) h = refl
code_is (VStore a) h = refl
code_is (Bin a b) h = refl
code_is (Neg a) h = refl
code_is (Conv a b) h = refl
code_is (Jump a) h = refl
code_is (JumpZero a) h = refl
code_is (Call a b) h = refl
code_is (TCall a b) h = refl
code_is (CallIndirect a b) h = refl
code_is (TCallIndirect a b) h = refl
code_is (Slot a b) h = refl
code_is (Ret a) h = refl
code_is (Begin a) h = refl
code_is End h = absurd (false≢true h)
code_is BeginSync h = refl
code_is EndSync h = refl
code_is Out h = refl
code_is Inp h = refl
code_is Spawn h = refl
code_is Join h = refl
code_is Abort h = refl
code_is (NewException a) h = refl
code_is (PutException a b) h = refl
code_is Throw h = refl
code_is Rethrow h = refl
code_is (GetException a b) h = refl
code_is EndHandler h = refl
code_is Resume h = refl
code_is Over h = refl

width_of : (r : Record) → record_is_wide r ≡ true → has_width r ≡ true
width_of (kind.Txob x) h = h
width_of (kind.Source x) h = h
width_of (kind.Class x) h = h
width_of (kind.Member x) h = h
width_of (kind.Slot x) h = h
width_of (kind.Global x) h = h
width_of (kind.Cell x) h = h
width_of (kind.Func x) h = h
width_of kind.Plain h = h
width_of kind.Safe h = h
width_of (kind.Row x) h = h
width_of (kind.Line x) h = h
width_of kind.End h = h
width_of (kind.Code i) h = (and_parts (instr_is_wide i) (not_end i) h).0

line_is : (r : Record) → record_is_wide r ≡ true → line_of r ≡ Of r
line_is (kind.Txob x) h = refl
line_is (kind.Source x) h = refl
line_is (kind.Class x) h = refl
line_is (kind.Member x) h = refl
line_is (kind.Slot x) h = refl
line_is (kind.Global x) h = refl
line_is (kind.Cell x) h = refl
line_is (kind.Func x) h = refl
line_is kind.Plain h = refl
line_is kind.Safe h = refl
line_is (kind.Row x) h = refl
line_is (kind.Line x) h = refl
line_is kind.End h = refl
line_is (kind.Code i) h = code_is i (and_parts (instr_is_wide i) (not_end i) h).1

end_is_wide : instr_is_wide End ≡ true
unfolding instr_is_wide
end_is_wide = refl

end_more : (o : ObjectView) (place : Place) (is_last : Bool) (t : State) → Kept o place → end_step o place is_last ≡ Some t → More o place t (Of kind.End)
end_more o place is_last t k e = by_place (not is_last && place_takes_code place) e
  where
    by_place : (b : Bool) → cond b (inner o place (kind.Code End)) (and_then (closed o place) ended) ≡ Some t → More o place t (Of kind.End)
    by_place true e = inner_more o place (kind.Code End) t k end_is_wide e refl
    by_place false e =
        let b = bound (closed o place) ended t e in
        let c = closing o place b.x k b.first in
        more_is o place _ t (Of kind.End) _ b.behind (λ h.
        record { kept = record { fits = c.fits; whole = h }; lines = ap (λ (z : List Line). z ++ Of kind.End ∷ []) (sym c.lines) })

record_more : (o : ObjectView) (place : Place) (r : Record) (is_last : Bool) (t : State) → Kept o place → record_is_wide r ≡ true
    → record_step (record { object = o; place = place }) r is_last ≡ Some t → More o place t (Of r)
unfolding record_step
record_more o place (kind.Txob version) is_last t good wide e = begun_more o place version t wide e
record_more o place (kind.Source i) is_last t good wide e = sourced_more o place i t good e
record_more o place (kind.Class h) is_last t good wide e = let b = bound (closed o place) (begin_class h) t e in
    class_more o place b.x h t (closing o place b.x good b.first) wide b.behind
record_more o place (kind.Global h) is_last t good wide e = let b = bound (closed o place) (begin_global h) t e in
    global_more o place b.x h t (closing o place b.x good b.first) wide b.behind
record_more o place (kind.Func h) is_last t good wide e = let b = bound (closed o place) (begin_func h) t e in
    func_more o place b.x h t (closing o place b.x good b.first) wide b.behind
record_more o place kind.End is_last t good wide e = end_more o place is_last t good e
record_more o place (kind.Member x) is_last t good wide e =
    inner_more o place (kind.Member x) t good (width_of (kind.Member x) wide) e (line_is (kind.Member x) wide)
record_more o place (kind.Slot x) is_last t good wide e = inner_more o place (kind.Slot x) t good (width_of (kind.Slot x) wide) e (line_is (kind.Slot x) wide)
record_more o place (kind.Cell x) is_last t good wide e = inner_more o place (kind.Cell x) t good (width_of (kind.Cell x) wide) e (line_is (kind.Cell x) wide)
record_more o place kind.Plain is_last t good wide e = inner_more o place kind.Plain t good (width_of kind.Plain wide) e (line_is kind.Plain wide)
record_more o place kind.Safe is_last t good wide e = inner_more o place kind.Safe t good (width_of kind.Safe wide) e (line_is kind.Safe wide)
record_more o place (kind.Code x) is_last t good wide e = inner_more o place (kind.Code x) t good (width_of (kind.Code x) wide) e (line_is (kind.Code x) wide)
record_more o place (kind.Row x) is_last t good wide e = inner_more o place (kind.Row x) t good (width_of (kind.Row x) wide) e (line_is (kind.Row x) wide)
record_more o place (kind.Line x) is_last t good wide e = inner_more o place (kind.Line x) t good (width_of (kind.Line x) wide) e (line_is (kind.Line x) wide)

pub line_more : (s : State) (l : Line) (is_last : Bool) (t : State) → Kept s.object s.place → line_is_wide l ≡ true → step s l is_last ≡ Some t
    → More s.object s.place t l
line_more s (Name name) is_last t good wide e = named_more s.object s.place name t good wide e
line_more s (Of r) is_last t good wide e = record_more s.object s.place r is_last t good wide e

-- ---- texts

pub record Read (text : List ℕ) (s : State) (rest : List ℕ) : Type 0 where
  pub kept : Kept s.object s.place
  pub written : text ≡ flat_map line_text (so_far s.object s.place) ++ rest

pub reached : {text rest : List ℕ} {number : ℕ} {s : State} → Reaches text number s rest → Read text s rest
reached begins = record { kept = tt; written = refl }
reached {text = text} {rest = rest} (goes_on {s = s} {t = t} {left = left} l before here e) =
    let r = reached before in
    let m = line_more s l _ t r.kept here.wide e in
    record {
      kept = m.kept;
      written =
          r.written ∙ ap (λ (z : List ℕ). flat_map line_text (so_far s.object s.place) ++ z) here.written
          ∙ sym (append_assoc (flat_map line_text (so_far s.object s.place)) (line_text l) rest)
          ∙ ap (λ (z : List ℕ). z ++ rest) (sym (flat_more line_text (so_far s.object s.place) l) ∙ ap (flat_map line_text) (sym m.lines));
    }

pub sorted : {text rest : List ℕ} {number : ℕ} {s : State} → Reaches text number s rest → IsSorted s.object s.place
sorted {s = s} h = λ c e. (closing s.object s.place c (reached h).kept e).fits.classes_ascend

whole_object : (o : ObjectView) → EndKept o → IsObject o
whole_object o k =
    let w = and_parts (all_used o.source (named_in o) 0 o.names) (list_all (bases_fit o.classes) o.classes) k.whole in
    record {
      version = k.fits.version;
      name_count = k.fits.name_count;
      names = k.fits.names;
      names_ascend = k.fits.names_ascend;
      source = k.fits.source;
      class_count = k.fits.class_count;
      classes = k.fits.classes;
      classes_ascend = k.fits.classes_ascend;
      global_count = k.fits.global_count;
      globals = k.fits.globals;
      globals_ascend = k.fits.globals_ascend;
      func_count = k.fits.func_count;
      funcs = k.fits.funcs;
      funcs_ascend = k.fits.funcs_ascend;
      names_used = w.0;
      bases = w.1;
    }

pub is_written : (text : List ℕ) (number : ℕ) (o : ObjectView) → Reaches text number (record { object = o; place = Ended }) [] → IsWritten o text
unfolding text_of
is_written text number o h =
    let r = reached h in
    record {
      writes = record {
        text_is = r.written ∙ append-nil (flat_map line_text (lines_of o ++ Of kind.End ∷ [])) ∙ flat_more line_text (lines_of o)
            (Of kind.End);
      };
      object = whole_object o r.kept;
      wide = r.kept.fits.wide;
    }
