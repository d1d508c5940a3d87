-- Lines of classes, globals and functions: what is added fits, and has the line as its text.
use Rattle.std.proofs.Common.{◌≡◌, ℕ, zero, suc, Bool, true, false, List, [], ◌∷◌, ◌++◌, length, map, Option, Some, None, refl, sym, ap, subst, ◌∙◌, ◌&&◌, ◌||◌}
use Rattle.std.proofs.Common.{append_assoc, append-nil, arith}
use Rattle.std.specs.Prelude.{nat_eq, nat_lt, not, is_some, is_none, if◌then◌else◌}
use Rattle.std.specs.List.{list_all}
use Rattle.std.specs.Option.{option_map}
use Rattle.std.proofs.lemmas.Bool.{and_parts, and_from, false≢true, eqb-true, lt-ltb}
use Rattle.tx_code.specs.declared.object.ObjMember.{ObjMember}
use Rattle.tx_code.specs.declared.object.ObjCell.{ObjCell}
use Rattle.tx_code.specs.Objects.{BodyView, ClassView, GlobalView, FuncView}
use Rattle.tx_code.specs.WellFormed.{is_name, is_name_or_none, is_count, ascends, member_fits, class_fits, cell_fits, cell_after, global_fits, bit, same}
use Rattle.tx_code.specs.WellFormed.{flags_fit, text_fits, some_fits, func_fits}
use Rattle.object_bytes.specs.Spelling.{is_u8, is_u32, member_is_wide, class_is_wide, cell_is_wide, global_is_wide, some_is_wide, func_is_wide}
use Rattle.object_bytes.specs.Fields.{above}
use Rattle.object_bytes.proofs.Parts.{parts3, parts4}
use Rattle.assembly_text.specs.declared.line.Record.{Record}
use Rattle.assembly_text.specs.declared.line.Record.TheVariants as kind
use Rattle.assembly_text.specs.Lines.{Line, Of, body_lines, some_lines, class_lines, global_lines, func_lines}
use Rattle.code_asm.specs.Steps.{is_nil, has_room, last_of, no_body, body_step, class_step, global_step, with_bodies, in_body, func_step, has_bodies}
use Rattle.assembly_text.specs.Options.{given}
use Rattle.assembly_text.proofs.RecordLaws.{was_given}
use Rattle.code_asm.proofs.Appended.{nil_is, all_more, map_more, count_more, ascends_more}
use Rattle.code_asm.proofs.BodySteps.{line_of, has_width, BodyParts, body_fits_by, body_wide_by, no_body_parts, or_left, body_steps}

-- ---- classes

pub record ClassParts (n : ℕ) (c : ClassView) : Type 0 where
  pub name : is_name n c.name ≡ true
  pub base : is_name_or_none n c.base ≡ true
  pub text : is_name n c.text ≡ true
  pub member_count : is_count c.members ≡ true
  pub members : list_all (member_fits n) c.members ≡ true
  pub slot_count : is_count c.slots ≡ true
  pub slots : list_all (is_name_or_none n) c.slots ≡ true
  pub numbers : (is_u32 c.name && is_u32 c.size && is_u32 c.align && is_u32 c.base && is_u32 c.pointer && is_u32 c.text) ≡ true
  pub member_wide : list_all member_is_wide c.members ≡ true
  pub slot_wide : list_all is_u32 c.slots ≡ true

pub class_fits_by : (n : ℕ) (c : ClassView) → ClassParts n c → class_fits n c ≡ true
class_fits_by n c p = and_from _ _ (and_from _ _ (and_from _ _
    (and_from _ _ (and_from _ _ (and_from _ _ p.name p.base) p.text) p.member_count) p.members) p.slot_count) p.slots

pub class_wide_by : (n : ℕ) (c : ClassView) → ClassParts n c → class_is_wide c ≡ true
class_wide_by n c p = and_from _ _ (and_from _ _ p.numbers p.member_wide) p.slot_wide

pub record ClassMore (n : ℕ) (c d : ClassView) (r : Record) : Type 0 where
  pub parts : ClassParts n d
  pub same_name : d.name ≡ c.name
  pub lines : class_lines d ≡ class_lines c ++ line_of r ∷ []

member_line : ObjMember → Line
member_line m = Of (kind.Member m)

class_member : (n : ℕ) (c : ClassView) (m : ObjMember) → ClassParts n c → member_is_wide m ≡ true
    → (is_nil c.slots && has_room c.members && member_fits n m) ≡ true
    → ClassMore n c (record {
      name = c.name;
      size = c.size;
      align = c.align;
      base = c.base;
      pointer = c.pointer;
      text = c.text;
      members = c.members ++ m ∷ [];
      slots = c.slots;
    }) (kind.Member m)
class_member n c m p wide test =
    let t = parts3 (is_nil c.slots) (has_room c.members) (member_fits n m) test in
    record {
      parts = record {
        name = p.name;
        base = p.base;
        text = p.text;
        member_count = count_more c.members m t.1;
        members = all_more
            (member_fits n) c.members m p.members t.2;
        slot_count = p.slot_count;
        slots = p.slots;
        numbers = p.numbers;
        member_wide =
            all_more member_is_wide c.members m p.member_wide wide;
        slot_wide = p.slot_wide;
      };
      same_name = refl;
      lines = rw (nil_is c.slots t.0) (ap (λ (z : List Line). Of
          (kind.Class (record { name = c.name; size = c.size; align = c.align; base = c.base; pointer = c.pointer; text = c.text })) ∷ z)
          (append-nil (map (λ (x : ObjMember). Of (kind.Member x)) (c.members ++ m ∷ [])) ∙ map_more (λ (x : ObjMember). Of (kind.Member x)) c.members m
          ∙ ap (λ (z : List Line). z ++ Of (kind.Member m) ∷ []) (sym (append-nil (map (λ (x : ObjMember). Of (kind.Member x)) c.members)))));
    }

class_slot : (n : ℕ) (c : ClassView) (s : ℕ) → ClassParts n c → is_u32 s ≡ true → (has_room c.slots && is_name_or_none n s) ≡ true
    → ClassMore n c (record {
      name = c.name;
      size = c.size;
      align = c.align;
      base = c.base;
      pointer = c.pointer;
      text = c.text;
      members = c.members;
      slots =
          c.slots ++ s ∷ [];
    }) (kind.Slot s)
class_slot n c s p wide test =
    let t = and_parts (has_room c.slots) (is_name_or_none n s) test in
    record {
      parts = record {
        name = p.name;
        base = p.base;
        text = p.text;
        member_count = p.member_count;
        members = p.members;
        slot_count = count_more c.slots s t.0;
        slots = all_more (is_name_or_none n) c.slots s p.slots t.1;
        numbers = p.numbers;
        member_wide = p.member_wide;
        slot_wide =
            all_more is_u32 c.slots s p.slot_wide wide;
      };
      same_name = refl;
      lines = ap (λ (z : List Line). Of (kind.Class (record {
        name = c.name;
        size = c.size;
        align = c.align;
        base = c.base;
        pointer = c.pointer;
        text =
            c.text;
      })) ∷ z) (ap (λ (z : List Line). map (λ (x : ObjMember). Of (kind.Member x)) c.members ++ z) (map_more (λ (x : ℕ). Of (kind.Slot x)) c.slots s)
          ∙ sym (append_assoc (map (λ (x : ObjMember). Of (kind.Member x)) c.members) (map (λ (x : ℕ). Of (kind.Slot x)) c.slots) (Of (kind.Slot s) ∷ [])));
    }

class_is : (n : ℕ) (c x d : ClassView) (r : Record) (t : Bool) → given t x ≡ Some d → (t ≡ true → ClassMore n c x r) → ClassMore n c d r
class_is n c x d r t e f = let g = was_given t x d e in subst (λ (z : ClassView). ClassMore n c z r) g.1 (f g.0)

pub class_steps : (n : ℕ) (c d : ClassView) (r : Record) → ClassParts n c → has_width r ≡ true → class_step n c r ≡ Some d → ClassMore n c d r
class_steps n c d (kind.Member m) p wide e = class_is n c _ d (kind.Member m) _ e (class_member n c m p wide)
class_steps n c d (kind.Slot s) p wide e = class_is n c _ d (kind.Slot s) _ e (class_slot n c s p wide)
class_steps n c d (kind.Txob x) p wide e = absurd cc
class_steps n c d (kind.Source x) p wide e = absurd cc
class_steps n c d (kind.Class x) p wide e = absurd cc
class_steps n c d (kind.Global x) p wide e = absurd cc
class_steps n c d (kind.Cell x) p wide e = absurd cc
class_steps n c d (kind.Func x) p wide e = absurd cc
class_steps n c d kind.Plain p wide e = absurd cc
class_steps n c d kind.Safe p wide e = absurd cc
class_steps n c d (kind.Code x) p wide e = absurd cc
class_steps n c d (kind.Row x) p wide e = absurd cc
class_steps n c d (kind.Line x) p wide e = absurd cc
class_steps n c d kind.End p wide e = absurd cc

-- ---- globals

pub record GlobalParts (n : ℕ) (g : GlobalView) : Type 0 where
  pub symbol : is_name n g.symbol ≡ true
  pub ty : is_name n g.ty ≡ true
  pub linkage : nat_lt g.linkage 2 ≡ true
  pub defined : nat_lt g.defined 2 ≡ true
  pub cell_count : is_count g.cells ≡ true
  pub cells : list_all (cell_fits n g.size) g.cells ≡ true
  pub order : ascends cell_after g.cells ≡ true
  pub size : same (nat_eq g.defined 0) (nat_eq g.size 0) ≡ true
  pub none : (not (nat_eq g.defined 0) || is_nil g.cells) ≡ true
  pub numbers : (is_u32 g.symbol && is_u32 g.ty && is_u8 g.linkage && is_u8 g.defined && is_u32 g.size) ≡ true
  pub cell_wide : list_all cell_is_wide g.cells ≡ true

pub record GlobalMore (n : ℕ) (g h : GlobalView) (r : Record) : Type 0 where
  pub parts : GlobalParts n h
  pub same_symbol : h.symbol ≡ g.symbol
  pub lines : global_lines h ≡ global_lines g ++ line_of r ∷ []

global_cell : (n : ℕ) (g : GlobalView) (c : ObjCell) → GlobalParts n g → cell_is_wide c ≡ true
    → (not (nat_eq g.defined 0) && has_room g.cells && cell_fits n g.size c && above cell_after (last_of g.cells) c) ≡ true
    → GlobalMore n g (record { symbol = g.symbol; ty = g.ty; linkage = g.linkage; defined = g.defined; size = g.size; cells = g.cells ++ c ∷ [] }) (kind.Cell c)
global_cell n g c p wide test =
    let t = parts4 (not (nat_eq g.defined 0)) (has_room g.cells) (cell_fits n g.size c) (above cell_after (last_of g.cells) c) test in
    record {
      parts = record {
        symbol = p.symbol;
        ty = p.ty;
        linkage = p.linkage;
        defined = p.defined;
        cell_count = count_more g.cells c t.1;
        cells = all_more
            (cell_fits n g.size) g.cells c p.cells t.2;
        order = ascends_more cell_after g.cells c p.order t.3;
        size = p.size;
        none =
            or_left (not (nat_eq g.defined 0)) _ t.0;
        numbers = p.numbers;
        cell_wide = all_more cell_is_wide g.cells c p.cell_wide wide;
      };
      same_symbol = refl;
      lines = ap (λ (z : List Line). Of (kind.Global (record { symbol = g.symbol; ty = g.ty; linkage = g.linkage; defined = g.defined; size = g.size })) ∷ z)
          (map_more (λ (x : ObjCell). Of (kind.Cell x)) g.cells c);
    }

global_is : (n : ℕ) (g x h : GlobalView) (r : Record) (t : Bool) → given t x ≡ Some h → (t ≡ true → GlobalMore n g x r) → GlobalMore n g h r
global_is n g x h r t e f = let w = was_given t x h e in subst (λ (z : GlobalView). GlobalMore n g z r) w.1 (f w.0)

pub global_steps : (n : ℕ) (g h : GlobalView) (r : Record) → GlobalParts n g → has_width r ≡ true → global_step n g r ≡ Some h → GlobalMore n g h r
global_steps n g h (kind.Cell c) p wide e = global_is n g _ h (kind.Cell c) _ e (global_cell n g c p wide)
global_steps n g h (kind.Member x) p wide e = absurd cc
global_steps n g h (kind.Slot x) p wide e = absurd cc
global_steps n g h (kind.Txob x) p wide e = absurd cc
global_steps n g h (kind.Source x) p wide e = absurd cc
global_steps n g h (kind.Class x) p wide e = absurd cc
global_steps n g h (kind.Global x) p wide e = absurd cc
global_steps n g h (kind.Func x) p wide e = absurd cc
global_steps n g h kind.Plain p wide e = absurd cc
global_steps n g h kind.Safe p wide e = absurd cc
global_steps n g h (kind.Code x) p wide e = absurd cc
global_steps n g h (kind.Row x) p wide e = absurd cc
global_steps n g h (kind.Line x) p wide e = absurd cc
global_steps n g h kind.End p wide e = absurd cc

by_defined : (a b c : Bool) → same a b ≡ true → (not a || c) ≡ true → (if a then b && c else not b) ≡ true
by_defined true b c h k = and_from _ _ h k
by_defined false b c h k = h

above_nothing : (s : ℕ) (t : Bool) → nat_eq s 0 ≡ t → not t ≡ nat_lt 0 s
above_nothing zero true e = refl
above_nothing zero false e = absurd (false≢true (sym e))
above_nothing (suc s) true e = let none = eqb-true (suc s) 0 e in absurd (omega arith)
above_nothing (suc s) false e = sym (lt-ltb 0 (suc s) (omega arith))

pub global_fits_by : (n : ℕ) (g : GlobalView) → GlobalParts n g → global_fits n g ≡ true
global_fits_by n g p =
    and_from _ _ (and_from _ _ (and_from _ _ (and_from _ _
    (and_from _ _ (and_from _ _ (and_from _ _ p.symbol p.ty) p.linkage) p.defined) p.cell_count) p.cells) p.order)
    (ap (λ (z : Bool). if nat_eq g.defined 0 then nat_eq g.size 0 && nat_eq (length g.cells) 0 else z) (sym (above_nothing g.size (nat_eq g.size 0) refl))
    ∙ by_defined (nat_eq g.defined 0) (nat_eq g.size 0) (is_nil g.cells) p.size p.none)

pub global_wide_by : (n : ℕ) (g : GlobalView) → GlobalParts n g → global_is_wide g ≡ true
global_wide_by n g p = and_from _ _ p.numbers p.cell_wide

-- ---- functions

abbrev pub SomeParts : (version n : ℕ) → Option BodyView → Type 0
SomeParts version n None = Unit {0}
SomeParts version n (Some b) = BodyParts version n b

pub record FuncParts (version n : ℕ) (f : FuncView) : Type 0 where
  pub symbol : is_name n f.symbol ≡ true
  pub ty : is_name n f.ty ≡ true
  pub linkage : nat_lt f.linkage 3 ≡ true
  pub flags : flags_fit f.flags ≡ true
  pub text : text_fits n f ≡ true
  pub frame : (bit 0 f.flags || nat_eq f.frame 0) ≡ true
  pub plain : SomeParts version n f.plain
  pub safe : SomeParts version n f.safe
  pub in_order : (not (is_some f.safe) || is_some f.plain) ≡ true
  pub numbers : (is_u32 f.symbol && is_u32 f.ty && is_u8 f.linkage && is_u8 f.flags && is_u32 f.text && is_u32 f.frame) ≡ true

some_fits_by : (version n : ℕ) (b : Option BodyView) → SomeParts version n b → some_fits version n b ≡ true
some_fits_by version n None p = refl
some_fits_by version n (Some b) p = body_fits_by version n b p

some_wide_by : (version n : ℕ) (b : Option BodyView) → SomeParts version n b → some_is_wide b ≡ true
some_wide_by version n None p = refl
some_wide_by version n (Some b) p = body_wide_by version n b p

pub func_fits_by : (version n : ℕ) (f : FuncView) → FuncParts version n f → has_bodies f ≡ true → func_fits version n f ≡ true
func_fits_by version n f p h =
    let b = and_parts (same (bit 0 f.flags) (is_some f.plain)) (same (bit 1 f.flags) (is_some f.safe)) h in
    and_from _ _ (and_from _ _ (and_from _ _ (and_from _ _
    (and_from _ _ (and_from _ _ (and_from _ _ (and_from _ _ (and_from _ _ p.symbol p.ty) p.linkage) p.flags) p.text) p.frame) b.0)
    (some_fits_by version n f.plain p.plain)) b.1) (some_fits_by version n f.safe p.safe)

pub func_wide_by : (version n : ℕ) (f : FuncView) → FuncParts version n f → func_is_wide f ≡ true
func_wide_by version n f p = and_from _ _ (and_from _ _ p.numbers (some_wide_by version n f.plain p.plain)) (some_wide_by version n f.safe p.safe)

pub record FuncMore (version n : ℕ) (f g : FuncView) (r : Record) : Type 0 where
  pub parts : FuncParts version n g
  pub same_symbol : g.symbol ≡ f.symbol
  pub lines : func_lines g ≡ func_lines f ++ line_of r ∷ []

abbrev head_of : FuncView → Line
head_of f = Of (kind.Func (record { symbol = f.symbol; ty = f.ty; linkage = f.linkage; flags = f.flags; text = f.text; frame = f.frame }))

-- a body that begins
begin_plain : (version n : ℕ) (f : FuncView) → FuncParts version n f → (bit 0 f.flags && is_none f.plain) ≡ true
    → FuncMore version n f (with_bodies f (Some no_body) f.safe) kind.Plain
begin_plain version n f p test = by_bodies f.plain f.safe refl refl
  where
    by_bodies : (plain safe : Option BodyView) → f.plain ≡ plain → f.safe ≡ safe → FuncMore version n f (with_bodies f (Some no_body) f.safe) kind.Plain
    by_bodies None None e h = record {
      parts = record {
        symbol = p.symbol;
        ty = p.ty;
        linkage = p.linkage;
        flags = p.flags;
        text = p.text;
        frame = p.frame;
        plain = no_body_parts version n;
        safe = p.safe;
        in_order = or_left (not (is_some f.safe)) true (ap (λ (o : Option BodyView). not (is_some o)) h);
        numbers = p.numbers;
      };
      same_symbol = refl;
      lines = rw (e, h) refl;
    }
    by_bodies (Some b) safe e h = absurd (false≢true (ap (λ (o : Option BodyView). is_none o) (sym e) ∙ (and_parts (bit 0 f.flags) (is_none f.plain) test).1))
    by_bodies None (Some b) e h = absurd (false≢true (sym (rw (e, h) refl) ∙ p.in_order))

begin_safe : (version n : ℕ) (f : FuncView) → FuncParts version n f → (bit 1 f.flags && is_some f.plain && is_none f.safe) ≡ true
    → FuncMore version n f (with_bodies f f.plain (Some no_body)) kind.Safe
begin_safe version n f p test = by_safe f.safe refl
  where
    t : (bit 1 f.flags ≡ true) × (is_some f.plain ≡ true) × (is_none f.safe ≡ true)
    t = parts3 (bit 1 f.flags) (is_some f.plain) (is_none f.safe) test

    by_safe : (safe : Option BodyView) → f.safe ≡ safe → FuncMore version n f (with_bodies f f.plain (Some no_body)) kind.Safe
    by_safe None h = record {
      parts = record {
        symbol = p.symbol;
        ty = p.ty;
        linkage = p.linkage;
        flags = p.flags;
        text = p.text;
        frame = p.frame;
        plain = p.plain;
        safe =
            no_body_parts version n;
        in_order = t.1;
        numbers = p.numbers;
      };
      same_symbol = refl;
      lines = rw h (ap (λ (z : List Line). head_of f ∷ z) (ap (λ (z : List Line). z ++ Of kind.Safe ∷ []) (sym (append-nil (some_lines kind.Plain f.plain)))));
    }
    by_safe (Some b) h = absurd (false≢true (ap (λ (o : Option BodyView). is_none o) (sym h) ∙ t.2))

record Mapped (version n : ℕ) (b : BodyView) (make : BodyView → FuncView) (g : FuncView) (r : Record) : Type 0 where
  body : BodyView
  step : body_step version n b r ≡ Some body
  made : make body ≡ g

mapped : (version n : ℕ) (b : BodyView) (make : BodyView → FuncView) (g : FuncView) (r : Record) (o : Option BodyView) → body_step version n b r ≡ o
    → option_map make o ≡ Some g → Mapped version n b make g r
mapped version n b make g r None s e = absurd cc
mapped version n b make g r (Some x) s e = record { body = x; step = s; made = cc }

in_bodies : (version n : ℕ) (f g : FuncView) (r : Record) (plain safe : Option BodyView) → f.plain ≡ plain → f.safe ≡ safe → FuncParts version n f
    → has_width r ≡ true → in_body version n f plain safe r ≡ Some g → FuncMore version n f g r
in_bodies version n f g r plain (Some b) e h p wide s =
    let m = mapped version n b (λ x. with_bodies f plain (Some x)) g r (body_step version n b r) refl s in
    let more = body_steps version n b m.body r (rw h at p.safe) wide m.step in
    subst (λ (z : FuncView). FuncMore version n f z r) m.made (record {
      parts = record {
        symbol = p.symbol;
        ty = p.ty;
        linkage = p.linkage;
        flags = p.flags;
        text = p.text;
        frame = p.frame;
        plain = rw e at p.plain;
        safe =
            more.parts;
        in_order = rw (e, h) at p.in_order;
        numbers = p.numbers;
      };
      same_symbol = refl;
      lines = rw (e, h) (ap (λ (z : List Line). head_of f ∷ (some_lines kind.Plain plain ++ Of kind.Safe ∷ z)) more.lines ∙ ap
          (λ (z : List Line). head_of f ∷ z) (sym (append_assoc (some_lines kind.Plain plain) (Of kind.Safe ∷ body_lines b) (line_of r ∷ []))));
    })
in_bodies version n f g r (Some b) None e h p wide s =
    let m = mapped version n b (λ x. with_bodies f (Some x) None) g r (body_step version n b r) refl s in
    let more = body_steps version n b m.body r (rw e at p.plain) wide m.step in
    subst (λ (z : FuncView). FuncMore version n f z r) m.made (record {
      parts = record {
        symbol = p.symbol;
        ty = p.ty;
        linkage = p.linkage;
        flags = p.flags;
        text = p.text;
        frame = p.frame;
        plain = more.parts;
        safe = tt;
        in_order = refl;
        numbers = p.numbers;
      };
      same_symbol = refl;
      lines = rw (e, h) (ap (λ (z : List Line). head_of f ∷ Of kind.Plain ∷ z)
          (append-nil (body_lines m.body) ∙ more.lines ∙ ap (λ (z : List Line). z ++ line_of r ∷ []) (sym (append-nil (body_lines b)))));
    })
in_bodies version n f g r None None e h p wide s = absurd cc

func_is : (version n : ℕ) (f x g : FuncView) (r : Record) (t : Bool) → given t x ≡ Some g → (t ≡ true → FuncMore version n f x r) → FuncMore version n f g r
func_is version n f x g r t e h = let w = was_given t x g e in subst (λ (z : FuncView). FuncMore version n f z r) w.1 (h w.0)

pub func_steps : (version n : ℕ) (f g : FuncView) (r : Record) → FuncParts version n f → has_width r ≡ true → func_step version n f r ≡ Some g
    → FuncMore version n f g r
func_steps version n f g kind.Plain p wide e = func_is version n f _ g kind.Plain _ e (begin_plain version n f p)
func_steps version n f g kind.Safe p wide e = func_is version n f _ g kind.Safe _ e (begin_safe version n f p)
func_steps version n f g (kind.Txob x) p wide e = in_bodies version n f g (kind.Txob x) f.plain f.safe refl refl p wide e
func_steps version n f g (kind.Source x) p wide e = in_bodies version n f g (kind.Source x) f.plain f.safe refl refl p wide e
func_steps version n f g (kind.Class x) p wide e = in_bodies version n f g (kind.Class x) f.plain f.safe refl refl p wide e
func_steps version n f g (kind.Member x) p wide e = in_bodies version n f g (kind.Member x) f.plain f.safe refl refl p wide e
func_steps version n f g (kind.Slot x) p wide e = in_bodies version n f g (kind.Slot x) f.plain f.safe refl refl p wide e
func_steps version n f g (kind.Global x) p wide e = in_bodies version n f g (kind.Global x) f.plain f.safe refl refl p wide e
func_steps version n f g (kind.Cell x) p wide e = in_bodies version n f g (kind.Cell x) f.plain f.safe refl refl p wide e
func_steps version n f g (kind.Func x) p wide e = in_bodies version n f g (kind.Func x) f.plain f.safe refl refl p wide e
func_steps version n f g (kind.Code x) p wide e = in_bodies version n f g (kind.Code x) f.plain f.safe refl refl p wide e
func_steps version n f g (kind.Row x) p wide e = in_bodies version n f g (kind.Row x) f.plain f.safe refl refl p wide e
func_steps version n f g (kind.Line x) p wide e = in_bodies version n f g (kind.Line x) f.plain f.safe refl refl p wide e
func_steps version n f g kind.End p wide e = in_bodies version n f g kind.End f.plain f.safe refl refl p wide e
