-- Sound objects link to a sound image.
use Rattle.std.proofs.Common.{Bool, true, false, ◌≡◌, ◌<◌, ◌⊎◌, ℕ, zero, suc, ◌+◌, List, [], ◌∷◌, ◌++◌, map, filter, length, Option, Some, None, refl, sym, ap}
use Rattle.std.proofs.Common.{◌∙◌, subst, arith, inl, inr, ⊎_elim, cond, eq-eqb}
use Rattle.std.specs.Prelude.{slice_get, nat_lt, nat_eq, ◌&&◌, ◌||◌, not, is_some, find, unwrap_or, IfSome}
use Rattle.std.specs.List.{All, flat_map, list_all, list_any}
use Rattle.std.specs.Option.{option_map, option_map_or}
use Rattle.std.specs.Str.{bytes_eq}
use Rattle.std.specs.Cmp.Lexicographic.{pointwise}
use Rattle.std.proofs.lemmas.Bool.{true≢false, lt-ltb}
use Rattle.std.proofs.lemmas.List.{length-map}
use borrow.Author.Tests.{eqb-true, ltb-true}
use Rattle.tx_code.specs.declared.instr.Instr.{Instr}
use Rattle.tx_code.specs.declared.body.Row.{Row}
use Rattle.tx_code.specs.Objects.{ObjectView, BodyView, FuncView, GlobalView, ClassView}
use Rattle.tx_code.specs.WellFormed.{func_fits, global_fits, has_safe, is_defined, is_wanted_safe, named_by_row, same}
use Rattle.tx_code.specs.Images.{ImageView, ImageFuncView, ImageClassView}
use Rattle.tx_code.specs.Linked.{ImageOf, FuncDef, GlobalDef, ClassDef, absent, class_number, class_defs, defines_global, end_of, func_number, global_def}
use Rattle.tx_code.specs.Linked.{global_defs, global_number, has_class_name, image_class, image_func, is_defined_global, is_own_global, is_string, kept_classes}
use Rattle.tx_code.specs.Linked.{kept_funcs, name_in, named_types, no_body, numbering, numbering_at, offset_of, or_else, or_none, placed_globals, rounded}
use Rattle.tx_code.specs.Linked.{type_number, types_in_body, types_in_def, types_named}
use Rattle.tx_code.specs.Renaming.{Numbering, renamed_body}
use Rattle.tx_code.specs.Shapes.{Among, here, there}
use Rattle.tx_code.specs.Signatures.{takes_of, gives_of}
use Rattle.tx_code.specs.Sound.{Sound, SoundBody, SoundEntry, SoundFunc, SoundObject, entry_of, frame_right, object_table, signature, spelling, table_of}
use Rattle.tx_code.proofs.ReachedIndexes.{all_among}
use Rattle.link_faults.specs.Answers.{Links}
use Rattle.link_faults.specs.Faults.{ClassRecord, Entry, any_two, classes_differ, global_entries, global_entry, globals_of, is_missing, same_class}
use Rattle.link_faults.specs.Faults.{same_or_none, text_in}
use Rattle.link_faults.specs.Faults.{defines as entry_defines}
use Rattle.link_faults.proofs.Ascending.{and_left, and_right, same_bytes, equals_itself}
use Rattle.link_faults.proofs.ListedEntries.{and_both}
use Rattle.link_faults.proofs.FirstClaims.{inside}
use Rattle.link_laws.proofs.WholeImages.{AllObjects, position_found, get_map, end_above}
use Rattle.link_laws.proofs.MainThere.{or_both}
use Rattle.link_laws.proofs.WholeBases.{class_among, come_at, all_come, defs_have, kept_has}
use Rattle.link_laws.proofs.WholeBases.{Among as Lies, first, later}
use Rattle.link_laws.proofs.KeptFuncs.{among_back, among_either, among_filter, among_left, among_map, among_right, any_among, filter_among, get_among}
use Rattle.link_laws.proofs.KeptFuncs.{kept_comes, no_missing_global, none_among, nowhere, object_is, one_among, some_position, stands}
use Rattle.link_laws.proofs.SoundBodies.{Same, get_back, sound_body}

-- ---- functions

find_among : (p : FuncView → Bool) (fs : List FuncView) (f : FuncView) → find p fs ≡ Some f → Among f fs × (p f ≡ true)
find_among p [] f e = cc
find_among p (x ∷ fs) f e = by (p x) refl e (find_among p fs f)
  where
    by : (b : Bool) → p x ≡ b → cond b (Some x) (find p fs) ≡ Some f → (find p fs ≡ Some f → Among f fs × (p f ≡ true)) → Among f (x ∷ fs) × (p f ≡ true)
    by true g h i = let s : x ≡ f = inside x f h in (subst (λ y. Among y (x ∷ fs)) s here, subst (λ y. p y ≡ true) s g)
    by false g h i = let r = i h in (there r.0, r.1)

-- what a function's name of an object stands for in the image
record FuncOf (os : List ObjectView) (i : ImageView) (at : ℕ) (o : ObjectView) (s k : ℕ) (f : FuncView) (d : FuncDef) : Type 0 where
  entry : entry_of o s ≡ Some f
  number : func_number os at o s ≡ Some k
  kept : slice_get (kept_funcs os) k ≡ Some d
  image : slice_get i.funcs k ≡ Some (image_func os i.types d)
  ty : name_in d.object d.func.ty ≡ name_in o f.ty
  safe : is_wanted_safe f ≡ true → has_safe d.func ≡ true

func_of : (os : List ObjectView) (i : ImageView) → AllObjects os → Links os → ImageOf os i → (at : ℕ) (o : ObjectView) → slice_get os at ≡ Some o → (s : ℕ)
    → is_some (entry_of o s) ≡ true
    → (k : ℕ) × ((f : FuncView) × ((d : FuncDef) × FuncOf os i at o s k f d))
func_of os i h l g at o e s p = by (entry_of o s) refl p
  where
    by : (q : Option FuncView) → entry_of o s ≡ q → is_some q ≡ true → (k : ℕ) × ((f : FuncView) × ((d : FuncDef) × FuncOf os i at o s k f d))
    by None r t = cc
    by (Some f) r t =
        let m = find_among (λ (x : FuncView). nat_eq x.symbol s) o.funcs f r in
        let n : f.symbol ≡ s = eqb-true f.symbol s m.1 in
        let w = stands os h l at o e f m.0 in
        let d = w.1.0 in
        let v = w.1.1 in (
          w.0,
          (
            f,
            (
              d,
              record {
                entry = r;
                number = ap (λ (x : ℕ). func_number os at o x) (sym n) ∙ v.number;
                kept = v.is;
                image = ap (λ fs. slice_get fs w.0) g.funcs ∙ get_map (image_func os i.types) (kept_funcs os) w.0
                    ∙ ap (option_map (image_func os i.types)) v.is;
                ty = v.ty;
                safe = v.safe;
              },
            ),
          ),
        )

there_is : {A : Type 0} (xs : List A) (k : ℕ) (x : A) → slice_get xs k ≡ Some x → nat_lt k (length xs) ≡ true
there_is {A} xs k x e = lt-ltb k (length xs) (by xs k e)
  where
    by : (ys : List A) (j : ℕ) → slice_get ys j ≡ Some x → j < length ys
    by [] j f = cc
    by (y ∷ ys) zero f = omega arith
    by (y ∷ ys) (suc j) f = let r = by ys j f in omega (arith, r)

-- ---- globals

globals_come : (os : List ObjectView) (at : ℕ) (rest : List ObjectView) → ((o : ObjectView) → Among o rest → Among o os) → (d : GlobalDef)
    → Among d (global_defs at rest) → Among d.object os × (Among d.global d.object.globals × (is_defined_global d.global ≡ true))
globals_come os at [] f d m = nowhere m
globals_come os at (o ∷ rest) f d m =
    ⊎_elim
    (λ a.
    let b = among_back (global_def at o) (placed_globals o) a in
    let c : Among b.0 (filter is_defined_global o.globals) =
    ⊎_elim (λ n. (filter_among (λ g. not (is_string o g)) (filter is_defined_global o.globals) n).0)
    (λ n. (filter_among (is_string o) (filter is_defined_global o.globals) n).0)
    (among_either (filter (λ g. not (is_string o g)) (filter is_defined_global o.globals)) (filter (is_string o) (filter is_defined_global o.globals)) b.1.0) in
    let e = filter_among is_defined_global o.globals c in
    subst (λ (x : GlobalDef). Among x.object os × (Among x.global x.object.globals × (is_defined_global x.global ≡ true))) b.1.1 (f o here, (e.0, e.1)))
    (λ a. globals_come os (at + 1) rest (λ p n. f p (there n)) d a)
    (among_either (map (global_def at o) (placed_globals o)) (global_defs (at + 1) rest) m)

placed_among : (o : ObjectView) (g : GlobalView) → Among g o.globals → is_defined_global g ≡ true → Among g (placed_globals o)
placed_among o g m d = by (is_string o g) refl
  where
    by : (b : Bool) → is_string o g ≡ b → Among g (placed_globals o)
    by true e = among_right (filter (λ x. not (is_string o x)) (filter is_defined_global o.globals))
        (among_filter (is_string o) (among_filter is_defined_global m d) e)
    by false e = among_left (filter (is_string o) (filter is_defined_global o.globals))
        (among_filter (λ x. not (is_string o x)) (among_filter is_defined_global m d) (ap not e))

globals_among : (os : List ObjectView) (base at : ℕ) (o : ObjectView) (g : GlobalView) → slice_get os at ≡ Some o → Among g o.globals
    → is_defined_global g ≡ true → Among (global_def (base + at) o g) (global_defs base os)
globals_among [] base at o g e m d = cc
globals_among (p ∷ os) base zero o g e m d =
    let s : base ≡ base + 0 = omega arith in
    among_left (global_defs (base + 1) os) (subst (λ q. Among (global_def (base + 0) o g) (map (global_def base q) (placed_globals q))) (sym (inside p o e))
    (subst (λ (n : ℕ). Among (global_def n o g) (map (global_def base o) (placed_globals o))) s (among_map (global_def base o) (placed_among o g m d))))
globals_among (p ∷ os) base (suc at) o g e m d =
    let s : base + 1 + at ≡ base + suc at = omega arith in
    among_right (map (global_def base p) (placed_globals p))
    (subst (λ (n : ℕ). Among (global_def n o g) (global_defs (base + 1) os)) s (globals_among os (base + 1) at o g e m d))

-- an entry of a global is one of an object
entries_back : (os : List ObjectView) (x : Entry) → Among x (global_entries os) → (at : ℕ)
    × ((o : ObjectView) × ((g : GlobalView) × ((slice_get os at ≡ Some o) × (Among g o.globals × (global_entry o g ≡ x)))))
entries_back [] x m = nowhere m
entries_back (o ∷ os) x m =
    ⊎_elim (λ a. let b = among_back (global_entry o) o.globals a in (0, (o, (b.0, (refl, (b.1.0, b.1.1))))))
    (λ a. let r = entries_back os x a in (suc r.0, (r.1.0, (r.1.1.0, (r.1.1.1.0, (r.1.1.1.1.0, r.1.1.1.1.1))))))
    (among_either (globals_of o) (global_entries os) m)

global_entry_among : {os : List ObjectView} {o : ObjectView} (g : GlobalView) → Among o os → Among g o.globals → Among (global_entry o g) (global_entries os)
global_entry_among {o = o} g (here {xs = os}) i = among_left (global_entries os) (among_map (global_entry o) i)
global_entry_among g (there {b = p} m) i = among_right (globals_of p) (global_entry_among g m i)

-- a definition that passes has an offset before the end
some_offset : (t : GlobalDef → Bool) (start : ℕ) (ds : List GlobalDef) → ((d : GlobalDef) → Among d ds → 0 < d.global.size) → list_any t ds ≡ true → (k : ℕ)
    × ((offset_of t start ds ≡ Some k) × (k < end_of start ds))
some_offset t start [] f h = cc
some_offset t start (d ∷ ds) f h = by (t d) h (some_offset t (start + rounded d.global.size) ds (λ x m. f x (there m)))
  where
    by : (b : Bool) → (b || list_any t ds) ≡ true → (list_any t ds ≡ true → (k : ℕ) ×
        ((offset_of t (start + rounded d.global.size) ds ≡ Some k) × (k < end_of (start + rounded d.global.size) ds)))
        → (k : ℕ) × ((cond b (Some start) (offset_of t (start + rounded d.global.size) ds) ≡ Some k) × (k < end_of (start + rounded d.global.size) ds))
    by true g r = (start, (refl, (let a = end_above (start + rounded d.global.size) ds in let s = f d here in omega (arith, a, s))))
    by false g r = r g

no_offset : (t : GlobalDef → Bool) (start : ℕ) (ds : List GlobalDef) → list_any t ds ≡ false → offset_of t start ds ≡ None
no_offset t start [] h = refl
no_offset t start (d ∷ ds) h = by (t d) h (no_offset t (start + rounded d.global.size) ds)
  where
    by : (b : Bool) → (b || list_any t ds) ≡ false → (list_any t ds ≡ false → offset_of t (start + rounded d.global.size) ds ≡ None)
        → cond b (Some start) (offset_of t (start + rounded d.global.size) ds) ≡ None
    by true g f = cc
    by false g f = f g

global_size : (n : ℕ) (g : GlobalView) → global_fits n g ≡ true → is_defined_global g ≡ true → 0 < g.size
global_size n g f d = ltb-true 0 g.size (by (nat_eq g.defined 0) refl (and_right _ _ f))
  where
    by : (b : Bool) → nat_eq g.defined 0 ≡ b → cond b (nat_eq g.size 0 && nat_eq (length g.cells) 0) (nat_lt 0 g.size) ≡ true → nat_lt 0 g.size ≡ true
    by true e h = let z = eqb-true g.defined 0 e in let w = eqb-true g.defined 1 d in absurd (omega (arith, z, w))
    by false e h = h

global_stands : (os : List ObjectView) → AllObjects os → Links os → (at : ℕ) (o : ObjectView) → slice_get os at ≡ Some o → (n : ℕ)
    → list_any (λ (g : GlobalView). nat_eq g.symbol n) o.globals ≡ true → (k : ℕ) × ((global_number os at o n ≡ Some k) × (k < end_of 0 (global_defs 0 os)))
global_stands os h l at o e n p = by (list_any (is_own_global at n) ds) refl
  where
    ds : List GlobalDef
    ds = global_defs 0 os

    big : (d : GlobalDef) → Among d (global_defs 0 os) → 0 < d.global.size
    big d m = let c = globals_come os 0 os (λ q a. a) d m in
        global_size (length d.object.names) d.global (all_among (global_fits (length d.object.names)) c.1.0 (object_is h c.0).globals) c.1.1

    is : (g : GlobalView) × (Among g o.globals × (nat_eq g.symbol n ≡ true))
    is = one_among (λ (g : GlobalView). nat_eq g.symbol n) o.globals p

    entry : Among (global_entry o is.0) (global_entries os)
    entry = global_entry_among is.0 (get_among os at o e) is.1.0

    symbol : is.0.symbol ≡ n
    symbol = eqb-true is.0.symbol n is.1.1

    name : List ℕ
    name = name_in o is.0.symbol

    missing : is_missing (global_entries os) name (global_entry o is.0) ≡ false
    missing = none_among (is_missing (global_entries os) name) entry (no_missing_global os name l.undefined)

    left : (b d j a : Bool) → b ≡ true → ((b && not d) && (j || not a)) ≡ false → (d ≡ true) ⊎ ((j ≡ false) × (a ≡ true))
    left true true j a f g = inl refl
    left true false true a f g = cc
    left true false false true f g = inr (refl, refl)
    left true false false false f g = cc
    left false d j a f g = cc

    own : is_defined_global is.0 ≡ true → nat_eq is.0.linkage 1 ≡ true → list_any (is_own_global at n) (global_defs 0 os) ≡ true
    own d j =
        let s : 0 + at ≡ at = omega arith in
        let m : Among (global_def at o is.0) (global_defs 0 os) =
        subst (λ (k : ℕ). Among (global_def k o is.0) (global_defs 0 os)) s (globals_among os 0 at o is.0 e is.1.0 d) in
        any_among (is_own_global at n) m (and_both _ _ (and_both _ _ (eq-eqb at at refl) j) is.1.1)

    from_entry : list_any (entry_defines name) (global_entries os) ≡ true → list_any (defines_global (name_in o n)) (global_defs 0 os) ≡ true
    from_entry q =
        let x = one_among (entry_defines name) (global_entries os) q in
        let b = entries_back os x.0 x.1.0 in
        let passes : entry_defines name (global_entry b.1.0 b.1.1.0) ≡ true = subst (λ y. entry_defines name y ≡ true) (sym b.1.1.1.1.1) x.1.1 in
        let s : 0 + b.0 ≡ b.0 = omega arith in
        let m = globals_among os 0 b.0 b.1.0 b.1.1.0 b.1.1.1.0 b.1.1.1.1.0 (and_left _ _ passes) in
        subst (λ (k : ℕ). list_any (defines_global (name_in o k)) (global_defs 0 os) ≡ true) symbol
        (any_among (defines_global name) m (and_right (is_defined_global b.1.1.0) _ passes))

    external : nat_eq is.0.linkage 1 ≡ false → list_any (defines_global (name_in o n)) (global_defs 0 os) ≡ true
    external j = from_entry (⊎_elim (λ d. any_among (entry_defines name) entry (and_both _ _ d (and_both _ _ (ap not j) (equals_itself name)))) (λ r. r.1)
        (left (bytes_eq name name) (is_defined_global is.0) (nat_eq is.0.linkage 1) (list_any (entry_defines name) (global_entries os))
        (equals_itself name) missing))

    seen : list_any (is_own_global at n) (global_defs 0 os) ≡ false → list_any (defines_global (name_in o n)) (global_defs 0 os) ≡ true
    seen z = two (nat_eq is.0.linkage 1) refl
      where
        two : (b : Bool) → nat_eq is.0.linkage 1 ≡ b → list_any (defines_global (name_in o n)) (global_defs 0 os) ≡ true
        two false j = external j
        two true j = ⊎_elim (λ d. absurd (true≢false (sym (own d j) ∙ z))) (λ r. absurd (true≢false (sym j ∙ r.0)))
            (left (bytes_eq name name) (is_defined_global is.0) (nat_eq is.0.linkage 1) (list_any (entry_defines name) (global_entries os))
            (equals_itself name) missing)

    by : (b : Bool) → list_any (is_own_global at n) (global_defs 0 os) ≡ b → (k : ℕ) × ((global_number os at o n ≡ Some k) × (k < end_of 0 (global_defs 0 os)))
    by true z = let r = some_offset (is_own_global at n) 0 (global_defs 0 os) big z in
        (r.0, (ap (λ (q : Option ℕ). or_else q (offset_of (defines_global (name_in o n)) 0 (global_defs 0 os))) r.1.0, r.1.1))
    by false z =
        let r = some_offset (defines_global (name_in o n)) 0 (global_defs 0 os) big (seen z) in (
          r.0,
          (
            ap (λ (q : Option ℕ). or_else q (offset_of (defines_global (name_in o n)) 0 (global_defs 0 os)))
                (no_offset (is_own_global at n) 0 (global_defs 0 os) z) ∙ r.1.0,
            r.1.1,
          ),
        )

-- ---- classes

lies : {A : Type 0} {x : A} {xs : List A} → Among x xs → Lies x xs
lies here = first
lies (there m) = later (lies m)

pointwise_long : {A : Type 0} (f : A → A → Bool) (xs ys : List A) → pointwise f xs ys ≡ true → length xs ≡ length ys
pointwise_long f [] [] h = refl
pointwise_long f [] (y ∷ ys) h = cc
pointwise_long f (x ∷ xs) [] h = cc
pointwise_long f (x ∷ xs) (y ∷ ys) h = let r = pointwise_long f xs ys (and_right (f x y) _ h) in omega (arith, r)

agree : (name : List ℕ) (a b : ClassRecord) → bytes_eq a.name name ≡ true → bytes_eq b.name name ≡ true → classes_differ name a b ≡ false
    → length a.slots ≡ length b.slots
agree name a b p q h = pointwise_long same_or_none a.slots b.slots (and_right _ _ (by (bytes_eq a.name name) (bytes_eq b.name name) (same_class a b) p q h))
  where
    by : (x y z : Bool) → x ≡ true → y ≡ true → ((x && y) && not z) ≡ false → z ≡ true
    by true true true e f g = refl
    by true true false e f g = cc
    by true false z e f g = cc
    by false y z e f g = cc

lies_none : {A : Type 0} (t : A → Bool) {x : A} {xs : List A} → Lies x xs → list_any t xs ≡ false → t x ≡ false
lies_none t first h = (or_both _ _ h).0
lies_none t (later a) h = lies_none t a (or_both _ _ h).1

as_many : (name : List ℕ) {a b : ClassRecord} {rs : List ClassRecord} → Lies a rs → Lies b rs → any_two (classes_differ name) rs ≡ false
    → bytes_eq a.name name ≡ true → bytes_eq b.name name ≡ true → length a.slots ≡ length b.slots
as_many name first first h p q = refl
as_many name {a} {b} first (later j) h p q = agree name a b p q (lies_none (classes_differ name a) j (or_both _ _ h).0)
as_many name {a} {b} (later i) first h p q = sym (agree name b a q p (lies_none (classes_differ name b) i (or_both _ _ h).0))
as_many name (later i) (later j) h p q = as_many name i j (or_both _ _ h).1 p q

record ClassOf (os : List ObjectView) (i : ImageView) (o : ObjectView) (n : ℕ) (k : ℕ) (d : ClassDef) : Type 0 where
  number : class_number os o n ≡ Some k
  image : slice_get i.classes k ≡ Some (image_class os d)
  slots : (c : ClassView) → Among c o.classes → c.name ≡ n → length c.slots ≡ length d.class.slots

class_of : (os : List ObjectView) (i : ImageView) → Links os → ImageOf os i → (at : ℕ) (o : ObjectView) → slice_get os at ≡ Some o → (n : ℕ) → (c : ClassView)
    → Among c o.classes → c.name ≡ n → (k : ℕ) × ((d : ClassDef) × ClassOf os i o n k d)
class_of os i l g at o e n c m s =
    let name = name_in o n in
    let in-all : list_any (has_class_name name) (class_defs 0 os) ≡ true =
    subst (λ (x : ℕ). list_any (has_class_name (name_in o x)) (class_defs 0 os) ≡ true) s (defs_have 0 c (lies (get_among os at o e)) (lies m)) in
    let kept : list_any (has_class_name name) (kept_classes os) ≡ true = kept_has name [] (class_defs 0 os) in-all in
    let p = some_position (has_class_name name) 0 (kept_classes os) kept in
    let r = position_found (has_class_name name) 0 (kept_classes os) p.0 p.1 in
    let d = r.1.0 in
    let j : p.0 ≡ r.0 = let q = r.1.1.index in omega (arith, q) in
    let is : slice_get (kept_classes os) p.0 ≡ Some d = ap (slice_get (kept_classes os)) j ∙ r.1.1.is in
    let comes = come_at os (kept_classes os) p.0 d (all_come os) is in
    let differ = (or_both _ _ ((or_both _ _ ((or_both _ _ (l.different.none name)).0)).0)).0 in (
      p.0,
      (
        d,
        record {
          number = p.1;
          image = ap (λ cs. slice_get cs p.0) g.classes ∙ get_map (image_class os) (kept_classes os) p.0 ∙ ap (option_map (image_class os)) is;
          slots = λ b w v.
              let mine : bytes_eq (name_in o b.name) name ≡ true = ap (λ (x : ℕ). bytes_eq (name_in o x) name) v ∙ equals_itself name in
              let long = as_many name (class_among b (lies (get_among os at o e)) (lies w))
              (class_among d.class comes.object comes.class) differ mine r.1.1.passes in
              sym (length-map b.slots (text_in o)) ∙ long ∙ length-map d.class.slots (text_in d.object);
        },
      ),
    )

-- ---- types

-- a name that kept bodies name as a type
abbrev pub is_type_named : List ObjectView → ObjectView → (n : ℕ) → Bool
is_type_named os o n = list_any (bytes_eq (name_in o n)) (types_named os)

type_of : (os : List ObjectView) (i : ImageView) → ImageOf os i → (o : ObjectView) (n : ℕ) → is_type_named os o n ≡ true → (k : ℕ)
    × ((type_number i.types o n ≡ Some k) × (slice_get i.types k ≡ Some (name_in o n)))
type_of os i g o n h =
    let p = some_position (bytes_eq (name_in o n)) 0 i.types (g.types (name_in o n) ∙ h) in
    let r = position_found (bytes_eq (name_in o n)) 0 i.types p.0 p.1 in
    let j : p.0 ≡ r.0 = let q = r.1.1.index in omega (arith, q) in
    let s : name_in o n ≡ r.1.0 = same_bytes (name_in o n) r.1.0 r.1.1.passes in
    (p.0, (p.1, ap (slice_get i.types) j ∙ r.1.1.is ∙ ap (λ (t : List ℕ). Some t) (sym s)))

same_true : (a b : Bool) → same a b ≡ true → a ≡ true → b ≡ true
same_true true b f g = f
same_true false b f g = cc

safe_same : (v n : ℕ) (f : FuncView) → func_fits v n f ≡ true → same (has_safe f) (is_some f.safe) ≡ true
safe_same v n f h = and_right _ _ (and_left _ _ h)

mapped : (r : Numbering) (q : Option BodyView) → is_some q ≡ true → is_some (option_map (renamed_body r) q) ≡ true
mapped r None f = f
mapped r (Some b) f = refl

safe_there : (os : List ObjectView) (i : ImageView) → AllObjects os → (d : FuncDef) → Among d (kept_funcs os) → has_safe d.func ≡ true
    → is_some (option_map (renamed_body (numbering_at os i.types d)) d.func.safe) ≡ true
safe_there os i h d m f =
    let c = kept_comes os d m in
    let fits : func_fits d.object.version (length d.object.names) d.func ≡ true =
    all_among (func_fits d.object.version (length d.object.names)) c.func (object_is h (get_among os d.at d.object c.at)).funcs in
    mapped (numbering_at os i.types d) d.func.safe (same_true (has_safe d.func) (is_some d.func.safe)
    (safe_same d.object.version (length d.object.names) d.func fits) f)

-- ---- names of an object and of the image stand for the same

pub same_names : (os : List ObjectView) (i : ImageView) → AllObjects os → Links os → ImageOf os i → (at : ℕ) (o : ObjectView) → slice_get os at ≡ Some o
    → Same (object_table o) (table_of i) (numbering os i.types at o) (is_type_named os o)
same_names os i h l g at o e = record {
  global = λ s p. let r = global_stands os h l at o e s p in
      ap (λ (q : Option ℕ). nat_lt (unwrap_or q absent) i.size) r.1.0 ∙ lt-ltb r.0 i.size (let z = g.size in let w = r.1.1 in omega (arith, z, w));
  func = λ s p. let r = func_of os i h l g at o e s p in let v = r.1.1.1 in
      ap (λ (q : Option ℕ). nat_lt (unwrap_or q absent) (length i.funcs)) v.number ∙ there_is i.funcs r.0 (image_func os i.types r.1.1.0) v.image;
  class = λ s p. let c = one_among (λ (x : ClassView). nat_eq x.name s) o.classes p in let r =
      class_of os i l g at o e s c.0 c.1.0 (eqb-true c.0.name s c.1.1) in let v = r.1.1 in
      ap (λ (q : Option ℕ). nat_lt (unwrap_or q absent) (length i.classes)) v.number ∙ there_is i.classes r.0 (image_class os r.1.0) v.image;
  slot = λ s n p. let c = one_among (λ (x : ClassView). nat_eq x.name s && nat_lt n (length x.slots)) o.classes p in
      let name : c.0.name ≡ s = eqb-true c.0.name s (and_left _ _ c.1.1) in
      let r = class_of os i l g at o e s c.0 c.1.0 name in let v = r.1.1 in
      let below = ltb-true n (length c.0.slots) (and_right (nat_eq c.0.name s) _ c.1.1) in
      let many = v.slots c.0 c.1.0 name in
      let long : length (image_class os r.1.0).slots ≡ length r.1.0.class.slots =
      length-map r.1.0.class.slots (or_none (func_number os r.1.0.at r.1.0.object)) in
      ap (λ (q : Option ℕ). option_map_or (λ (k : ImageClassView). nat_lt n (length k.slots)) (slice_get i.classes (unwrap_or q absent)) false) v.number
      ∙ ap (λ (q : Option ImageClassView). option_map_or (λ (k : ImageClassView). nat_lt n (length k.slots)) q false) v.image
      ∙ lt-ltb n (length (image_class os r.1.0).slots) (omega (arith, below, many, long));
  ty = λ n p. let r = type_of os i g o n p in
      ap (λ (q : Option ℕ). nat_lt (unwrap_or q absent) (length i.types)) r.1.0 ∙ there_is i.types r.0 (name_in o n) r.1.1;
  safe = λ s p q. let r = func_of os i h l g at o e s p in let v = r.1.1.1 in let d = r.1.1.0 in
      let w : is_wanted_safe r.1.0 ≡ true = ap (λ (x : Option FuncView). option_map_or is_wanted_safe x false) (sym v.entry) ∙ q in
      ap (λ (x : Option ℕ). option_map_or (λ (y : ImageFuncView). is_some y.safe) (slice_get i.funcs (unwrap_or x absent)) false) v.number
      ∙ ap (λ (x : Option ImageFuncView). option_map_or (λ (y : ImageFuncView). is_some y.safe) x false) v.image
      ∙ safe_there os i h d (get_among (kept_funcs os) r.0 d v.kept) (v.safe w);
  takes = λ s p. let r = func_of os i h l g at o e s p in let v = r.1.1.1 in
      ap (λ (x : Option ℕ). option_map_or (λ (y : ImageFuncView). takes_of y.ty) (slice_get i.funcs (unwrap_or x absent)) 0) v.number
      ∙ ap (λ (x : Option ImageFuncView). option_map_or (λ (y : ImageFuncView). takes_of y.ty) x 0) v.image
      ∙ ap takes_of v.ty ∙ ap (λ (x : Option FuncView). option_map_or (λ (f : FuncView). takes_of (spelling o f.ty)) x 0) (sym v.entry);
  gives = λ s p. let r = func_of os i h l g at o e s p in let v = r.1.1.1 in
      ap (λ (x : Option ℕ). option_map_or (λ (y : ImageFuncView). gives_of y.ty) (slice_get i.funcs (unwrap_or x absent)) 0) v.number
      ∙ ap (λ (x : Option ImageFuncView). option_map_or (λ (y : ImageFuncView). gives_of y.ty) x 0) v.image
      ∙ ap gives_of v.ty ∙ ap (λ (x : Option FuncView). option_map_or (λ (f : FuncView). gives_of (spelling o f.ty)) x 0) (sym v.entry);
  type_takes = λ n p. let r = type_of os i g o n p in
      ap (λ (q : Option ℕ). option_map_or takes_of (slice_get i.types (unwrap_or q absent)) 0) r.1.0
      ∙ ap (λ (q : Option (List ℕ)). option_map_or takes_of q 0) r.1.1;
  type_gives = λ n p. let r = type_of os i g o n p in
      ap (λ (q : Option ℕ). option_map_or gives_of (slice_get i.types (unwrap_or q absent)) 0) r.1.0
      ∙ ap (λ (q : Option (List ℕ)). option_map_or gives_of q 0) r.1.1;
}

-- ---- types of kept bodies

all_of_among : {A : Type 0} (t : A → Bool) (xs : List A) → ((x : A) → Among x xs → t x ≡ true) → list_all t xs ≡ true
all_of_among t [] f = refl
all_of_among t (x ∷ xs) f = rw (f x here, all_of_among t xs (λ y m. f y (there m))) refl

flat_among : {A B : Type 0} (f : A → List B) {d : A} {x : B} {ds : List A} → Among d ds → Among x (f d) → Among x (flat_map f ds)
flat_among f (here {xs = ds}) m = among_left (flat_map f ds) m
flat_among f (there {b = e} n) m = among_right (f e) (flat_among f n m)

-- a body of a kept definition
record BodyOf (os : List ObjectView) (d : FuncDef) (b : BodyView) : Type 0 where
  kept : Among d (kept_funcs os)
  types : (x : List ℕ) → Among x (types_in_body d.object b) → Among x (types_in_def d)

named_there : (os : List ObjectView) (d : FuncDef) (b : BodyView) → BodyOf os d b → (n : ℕ)
    → Among n (flat_map named_types b.code ++ flat_map named_by_row b.rows) → is_type_named os d.object n ≡ true
named_there os d b k n m = any_among (bytes_eq (name_in d.object n))
    (flat_among types_in_def k.kept (k.types (name_in d.object n) (among_map (name_in d.object) m))) (equals_itself (name_in d.object n))

body_sound : (os : List ObjectView) (i : ImageView) → AllObjects os → Links os → ImageOf os i → (d : FuncDef) (b : BodyView) → BodyOf os d b
    → (ty : List ℕ) (safe : Bool) → SoundBody (object_table d.object) (signature ty) safe b
    → SoundBody (table_of i) (signature ty) safe (renamed_body (numbering_at os i.types d) b)
body_sound os i h l g d b k ty safe s =
    let c = kept_comes os d k.kept in
    let t : ℕ → Bool = is_type_named os d.object in
    sound_body (object_table d.object) (table_of i) (numbering os i.types d.at d.object) t (signature ty) safe b (same_names os i h l g d.at d.object c.at)
    (all_of_among (λ (a : Instr). list_all t (named_types a)) b.code
    (λ a m. all_of_among t (named_types a) (λ n j. named_there os d b k n (among_left (flat_map named_by_row b.rows) (flat_among named_types m j)))))
    (all_of_among (λ (q : Row). list_all t (named_by_row q)) b.rows
    (λ q m. all_of_among t (named_by_row q) (λ n j. named_there os d b k n (among_right (flat_map named_types b.code) (flat_among named_by_row m j)))))
    s

plain_same : (v n : ℕ) (f : FuncView) → func_fits v n f ≡ true → same (is_defined f) (is_some f.plain) ≡ true
plain_same v n f h = and_right _ _ (and_left _ _ (and_left _ _ (and_left _ _ h)))

frame_of : (d f : Bool) → d ≡ true → (not d || f) ≡ true → f ≡ true
frame_of true f e h = h
frame_of false f e h = cc

def_sound : (os : List ObjectView) (i : ImageView) → AllObjects os → Links os → ImageOf os i → (d : FuncDef) → Among d (kept_funcs os)
    → SoundEntry d.object d.func → SoundFunc (table_of i) (image_func os i.types d)
def_sound os i h l g d m s =
    let c = kept_comes os d m in
    let o = d.object in
    let fits : func_fits o.version (length o.names) d.func ≡ true =
    all_among (func_fits o.version (length o.names)) c.func (object_is h (get_among os d.at o c.at)).funcs in
    record {
      frame = frame_of (is_defined d.func) (frame_right d.func.frame) c.defined s.frame;
      plain = plain d.func.plain refl (plain_same o.version (length o.names) d.func fits) c.defined s.plain;
      safe = safe d.func.safe refl s.safe;
    }
  where
    plain : (q : Option BodyView) → d.func.plain ≡ q → same (is_defined d.func) (is_some q) ≡ true → is_defined d.func ≡ true
        → IfSome q (SoundBody (object_table d.object) (signature (spelling d.object d.func.ty)) false)
        → SoundBody (table_of i) (signature (name_in d.object d.func.ty)) false (renamed_body (numbering_at os i.types d) (unwrap_or q no_body))
    plain None e f w t = absurd (true≢false (sym (same_true (is_defined d.func) false f w)))
    plain (Some b) e f w t = body_sound os i h l g d b
        (record {
          kept = m;
          types = λ x n. among_left (option_map_or (types_in_body d.object) d.func.safe [])
              (subst (λ q. Among x (option_map_or (types_in_body d.object) q [])) (sym e) n);
        }) (name_in d.object d.func.ty) false t

    safe : (q : Option BodyView) → d.func.safe ≡ q → IfSome q (SoundBody (object_table d.object) (signature (spelling d.object d.func.ty)) true)
        → IfSome (option_map (renamed_body (numbering_at os i.types d)) q) (SoundBody (table_of i) (signature (name_in d.object d.func.ty)) true)
    safe None e t = t
    safe (Some b) e t = body_sound os i h l g d b (record {
      kept = m;
      types = λ x n. among_right (option_map_or (types_in_body d.object) d.func.plain [])
          (subst (λ q. Among x (option_map_or (types_in_body d.object) q [])) (sym e) n);
    }) (name_in d.object d.func.ty) true t

sound_at : (os : List ObjectView) (at : ℕ) (o : ObjectView) → All SoundObject os → slice_get os at ≡ Some o → SoundObject o
sound_at [] at o h e = cc
sound_at (p ∷ os) zero o h e = subst (λ (q : ObjectView). SoundObject q) (inside p o e) (h 0 p (omega arith))
sound_at (p ∷ os) (suc at) o h e = sound_at os at o (λ k d l. h (suc k) d (omega (arith, l))) e

pub sound_image : (os : List ObjectView) (i : ImageView) → AllObjects os → Links os → All SoundObject os → ImageOf os i → Sound i
sound_image os i h l s g n f e =
    let r = get_back (image_func os i.types) (kept_funcs os) n f (sym (ap (λ fs. slice_get fs n) g.funcs) ∙ e) in
    let d = r.0 in
    let m = get_among (kept_funcs os) n d r.1.0 in
    let c = kept_comes os d m in
    subst (λ (x : ImageFuncView). SoundFunc (table_of i) x) r.1.1 (def_sound os i h l g d m (sound_at os d.at d.object s c.at d.func c.func))
