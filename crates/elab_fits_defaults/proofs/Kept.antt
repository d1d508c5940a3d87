-- Initialisers of members, as they are kept.
use Rattle.std.proofs.Common.{◌≡◌, refl, sym, ap, ◌∙◌, subst, ℕ, zero, suc, ◌-◌, Bool, true, false, not, ◌&&◌, ◌||◌, List, [], ◌∷◌, length, nat_lt, drop, Some}
use Rattle.std.proofs.Common.{slice_get, Result, Ok, Err}
use Rattle.std.proofs.lemmas.Bool.{and_parts}
use Rattle.std.specs.Prelude.{if◌then◌else◌, ◌==◌}
use Rattle.elab_rules.specs.cpp_types.Typ.{Typ, typ, void, int, enum, null, ptr, ref, array, func, class, closure, tx_ex}
use Rattle.elab_rules.specs.cpp_types.declared.classes.At.{At}
use Rattle.elab_rules.specs.cpp_types.declared.ranks.Cat.TheVariants.{Prvalue}
use Rattle.elab_rules.specs.cpp_lex.Tokens.{Lexeme}
use Rattle.elab_rules.specs.cpp_ast.Trees as syntax
use Rattle.elab_rules.specs.cpp_tree.declared.faults.ElabFault.{ElabFault}
use Rattle.elab_rules.specs.cpp_tree.declared.faults.IllRule.TheVariants.{BadInit, OutOfProfile}
use Rattle.elab_rules.specs.cpp_tree.declared.kinds.TKind.TheVariants.{Literal, Store, Pieces, Piece, Elements}
use Rattle.elab_rules.specs.cpp_tree.Notation.{plain}
use Rattle.elab_rules.specs.cpp_tree.Trees.{Tree, node, Trees, none, more, kind_of, typ_in}
use Rattle.elab_rules.specs.cpp_tree.Typing.{form_in, kind_in, unqualified, is_class_typ, goes_both_ways, same_shape}
use Rattle.elab_rules.specs.cpp_tree.Roles.{is_full}
use Rattle.elab_rules.specs.cpp_tree.Units.{Func}
use Rattle.elab_rules.specs.cpp_tree.Rows.{Setting}
use Rattle.elab_rules.specs.cpp_tree.WellFormed.{is_zero, are_zero}
use Rattle.elab_rules.specs.elab_ctx.Ctx.{Ctx, Work, Default}
use Rattle.elab_rules.specs.elab_ctx.Steps.{and_then, check, Operand, Made, Typed}
use Rattle.elab_rules.specs.Values.{place_of, stored}
use Rattle.elab_rules.specs.Operators.{without_value}
use Rattle.elab_rules.specs.Objects.{zeros}
use Rattle.elab_rules.specs.Braces.{as_part, string_object, byte_pieces, byte_word, zero_rest, followed}
use Rattle.elab_rules.specs.Expressions.{expression_of, chosen_operand}
use Rattle.elab_rules.specs.Initialising.{class_from, scalar_from}
use Rattle.elab_rules.specs.Members.{in_object}
use Rattle.elab_rules.specs.Statements.{State, Full, Lambdas, full, whole_if, throws_object, holds_temporary, hold_temporary, full_operand, copy_initialised, with_work}
use Rattle.elab_fits.specs.Standing.{BuildsOne, IsSetting, On}
use Rattle.elab_fits.proofs.Nodes.{both, or_right}
use Rattle.elab_fits.proofs.AreZeros.{are_zero_law}
use Rattle.elab_fits.proofs.Steps.{bind, skip, either_way as either, answered as held_by}
use Rattle.elab_fits_statements.specs.Variables.{BuildsWhole}
use Rattle.elab_fits_statements.proofs.Wholes.{whole_object}
use Rattle.elab_fits_expressions.specs.Growing.{Behind}
use Rattle.elab_fits_expressions.proofs.Behind as growing
use Rattle.elab_fits_expressions.proofs.Behind.{made}
use Rattle.elab_fits_expressions.proofs.Growing.{chosen, expression}
use Rattle.elab_fits_braces.specs.Moving.{DefaultFits, is_movable, is_outermost, alone}
use Rattle.elab_fits_braces.specs.Qualified.{is_made, are_made, is_pliable}
use Rattle.elab_fits_braces.proofs.Strings.{strings_build}
use Rattle.elab_movable.specs.Movable.{held, KeepsThis}
use Rattle.elab_movable.proofs.Defaults.{copies_move, strings_move}
use Rattle.elab_fits_defaults.specs.Kept.{inside, kept, CopiesKept, StringsKept}
use Rattle.elab_fits_defaults.proofs.Movable.{movable, part_same}
use Rattle.elab_fits_defaults.proofs.Pliable.{copy_pliable}

abbrev this_of : ℕ → Typ
this_of n = plain (ptr (plain (class n)))

-- `this` stays the first item

first_kept : (u : Typ) (frame : List Typ) → slice_get frame 0 ≡ Some u → frame ≡ u ∷ drop 1 frame
first_kept u [] h = absurd cc
first_kept u (t ∷ ts) h = let e : t ≡ u = cc in ap (λ (x : Typ). x ∷ ts) e

copied_by : (c : Ctx) (w : Work) (t : Typ) (o : Operand) → On (made w) (if is_class_typ t then class_from c w t o.at o else scalar_from c w t o)
copied_by c w t o = either (made w) (is_class_typ t) _ _ (growing.class_from c w t o.at o) (growing.scalar_from c w t o)

copied_grows : (c : Ctx) (w : Work) (t : Typ) (o : Operand) → On (made w) (copy_initialised c w t o)
copied_grows c w (typ (ref u) d v) o = skip (made w) (check o.at OutOfProfile _) _ (λ y. growing.scalar_from c w (typ (ref u) d v) o)
copied_grows c w (typ (array e n) d v) o = tt
copied_grows c w (typ void d v) o = copied_by c w (typ void d v) o
copied_grows c w (typ (int k) d v) o = copied_by c w (typ (int k) d v) o
copied_grows c w (typ (enum n x) d v) o = copied_by c w (typ (enum n x) d v) o
copied_grows c w (typ null d v) o = copied_by c w (typ null d v) o
copied_grows c w (typ (ptr u) d v) o = copied_by c w (typ (ptr u) d v) o
copied_grows c w (typ (func f) d v) o = copied_by c w (typ (func f) d v) o
copied_grows c w (typ (class n) d v) o = copied_by c w (typ (class n) d v) o
copied_grows c w (typ (closure n) d v) o = copied_by c w (typ (closure n) d v) o
copied_grows c w (typ (tx_ex u) d v) o = copied_by c w (typ (tx_ex u) d v) o

abbrev HasFirst : ℕ → Work → Type 0
HasFirst n w = slice_get w.frame 0 ≡ Some (this_of n)

full_first : (lams : Lambdas) → KeepsThis lams → (s : List Lexeme) (st : State) (n : ℕ) (e : syntax.Tree)
    → On (λ (f : Full). HasFirst n f.state.work) (full_operand lams s (in_object st n) e)
full_first lams keeps s st n e = by (lams s (in_object st n) e) refl
  where
    by : (r : Result State ElabFault) → lams s (in_object st n) e ≡ r
        → On (λ (f : Full). HasFirst n f.state.work) (and_then r (λ (x : State). and_then (and_then (expression_of s x.ctx x.work e) (chosen_operand x.ctx))
        (λ (o : Typed). Ok (record { operand = o.operand; state = with_work x o.work }))))
    by (Ok x) h =
        let k = keeps s (in_object st n) e x h in
        bind (λ (o : Typed). Behind x.work o.work) (λ (f : Full). HasFirst n f.state.work) (and_then (expression_of s x.ctx x.work e) (chosen_operand x.ctx)) _
        (chosen x.ctx x.work (expression_of s x.ctx x.work e) (expression s x.ctx x.ctx.closures x.work e))
        (λ o b. b.frame 0 (this_of n) (ap (λ (fr : List Typ). slice_get fr 0) k.frame))
    by (Err f) h = tt

-- Wholes

full_part : (g : Typ) (at : At) (e : Tree) → throws_object e ≡ false → held g e ≡ 0 → as_part (full at e) ≡ e
full_part g at e n h = by (holds_temporary e)
  where
    by : (b : Bool) → as_part (whole_if b at e) ≡ e
    by true = ap (λ (x : Bool). if x then without_value (place_of e) e else e) n
    by false = part_same g e h

full_movable : (g : Typ) (at : At) (e : Tree) → throws_object e ≡ false → is_movable g e ≡ true → is_movable g (full at e) ≡ true
full_movable g at e n h = by (holds_temporary e)
  where
    by : (b : Bool) → is_movable g (whole_if b at e) ≡ true
    by true = ap (λ (x : Bool). is_movable g (if x then without_value (place_of e) e else e) && true) n ∙ both h refl
    by false = h

full_outermost : (at : At) (e : Tree) → is_outermost (full at e) ≡ true
full_outermost at e = by (holds_temporary e) refl
  where
    by : (b : Bool) → holds_temporary e ≡ b → is_outermost (whole_if b at e) ≡ true
    by true k = refl
    by false k = or_right (is_full (kind_of e)) (ap not k)

pub copies_kept : CopiesKept
copies_kept lams keeps lexemes s st n i t e f m h k mt b g =
    let z : held (this_of n) m.tree ≡ 0 = copies_move lams keeps lexemes st n t e f m h k in
    let x = held_by (λ (y : Full). HasFirst n y.state.work) (full_operand lams lexemes (in_object st n) e) f (full_first lams keeps lexemes st n e) h in
    let y = held_by (made f.state.work) (copy_initialised f.state.ctx f.state.work t f.operand) m (copied_grows f.state.ctx f.state.work t f.operand) k in
    let first : slice_get m.work.frame 0 ≡ Some (this_of n) = y.frame 0 (this_of n) x in
    let d : Default = kept n i (full f.operand.at m.tree) m.work.frame in
    let r : Setting = record s { function = g } in
    let same : inside s g m.work.frame ≡ alone r d = ap (inside s g) (first_kept (this_of n) m.work.frame first) in
    let w : BuildsWhole (alone r d) t m.tree = subst (λ (q : Setting). BuildsWhole q t m.tree) same (b g) in
    let a = whole_object (alone r d) f.operand.at t m.tree w.one w.no_throw in
    let p : as_part (full f.operand.at m.tree) ≡ m.tree = full_part (this_of n) f.operand.at m.tree w.no_throw z in
    let l = held_by (λ (v : Made). BuildsOne (alone r d) t v.tree → held (this_of n) v.tree ≡ 0 → is_pliable t v.tree ≡ true)
    (copy_initialised f.state.ctx f.state.work t f.operand) m (copy_pliable (alone r d) (this_of n) f.state.ctx f.state.work t f.operand mt) k in
    record {
      one = record { fits = λ q full. a.fits q; builds = a.builds };
      part = subst (λ (q : Tree). BuildsOne (alone r d) t q) (sym p) w.one;
      movable = full_movable (this_of n) f.operand.at m.tree w.no_throw (movable (this_of n) m.tree z);
      pliable = ap (is_pliable t) p ∙ l w.one z;
      outermost = full_outermost f.operand.at m.tree;
    }

-- Strings

mutual
  zero_made : (e : Tree) → is_zero e ≡ true → is_made e ≡ true
  zero_made (node (Literal w) t cat at kids) h = refl
  zero_made (node (Store k v) t cat at kids) h = refl
  zero_made (node Pieces t cat at kids) h = zeros_made kids h
  zero_made (node (Piece offset) t cat at none) h = refl
  zero_made (node (Piece offset) t cat at (more e ds)) h = zero_made e (and_parts (is_zero e) (are_zero ds) h).0
  zero_made (node (Elements n stride) t cat at none) h = refl
  zero_made (node (Elements n stride) t cat at (more e ds)) h = zero_made e (and_parts (is_zero e) (are_zero ds) h).0
  zero_made (node kind t cat at kids) h = absurd cc

  zeros_made : (ts : Trees) → are_zero ts ≡ true → are_made ts ≡ true
  zeros_made none h = refl
  zeros_made (more e ts) h = let a = and_parts (is_zero e) (are_zero ts) h in both (zero_made e a.0) (zeros_made ts a.1)

stored_made : (at : At) (t : Typ) (e : Tree) → is_made e ≡ true → is_made (stored at t e) ≡ true
stored_made at (typ (int k) c v) e h = refl
stored_made at (typ (enum n x) c v) e h = refl
stored_made at (typ null c v) e h = refl
stored_made at (typ (ptr t) c v) e h = refl
stored_made at (typ (ref t) c v) e h = refl
stored_made at (typ f c v) e h = h

bytes_made : (t : Typ) (at : At) (i : ℕ) (bs : List ℕ) → are_made (byte_pieces t at i bs) ≡ true
bytes_made t at i [] = refl
bytes_made t at i (b ∷ bs) = both (stored_made at t (node (Literal (byte_word (kind_in (form_in t)) b)) (unqualified t) Prvalue at none) refl)
    (bytes_made t at (suc i) bs)

rest_made : (c : Ctx) (t : Typ) (at : At) (i n : ℕ) → are_made (zero_rest c t at i n) ≡ true
rest_made c t at i zero = refl
rest_made c t at i (suc n) = both (zero_made (zeros c.classes at (plain (array t (suc n)))) (are_zero_law c.classes at (plain (array t (suc n))))) refl

all_made : (ts us : Trees) → are_made ts ≡ true → are_made us ≡ true → are_made (followed ts us) ≡ true
all_made none us h g = g
all_made (more t ts) us h g = let a = and_parts (is_made t) (are_made ts) h in both a.0 (all_made ts us a.1 g)

-- there are no temporaries in them

pub or_parts : (a b : Bool) → (a || b) ≡ false → (a ≡ false) × (b ≡ false)
or_parts true b h = absurd cc
or_parts false b h = (refl, h)

pub no_or : (a b : Bool) → a ≡ false → b ≡ false → (a || b) ≡ false
no_or true b h g = absurd cc
no_or false b h g = g

mutual
  zero_holds : (e : Tree) → is_zero e ≡ true → holds_temporary e ≡ false
  zero_holds (node (Literal w) t cat at kids) h = zeros_hold kids (and_parts (w == 0) (are_zero kids) h).1
  zero_holds (node (Store k v) t cat at kids) h = zeros_hold kids h
  zero_holds (node Pieces t cat at kids) h = zeros_hold kids h
  zero_holds (node (Piece offset) t cat at kids) h = zeros_hold kids h
  zero_holds (node (Elements n stride) t cat at kids) h = zeros_hold kids h
  zero_holds (node kind t cat at kids) h = absurd cc

  zeros_hold : (ts : Trees) → are_zero ts ≡ true → hold_temporary ts ≡ false
  zeros_hold none h = refl
  zeros_hold (more e ts) h =
      let a = and_parts (is_zero e) (are_zero ts) h in no_or (holds_temporary e) (hold_temporary ts) (zero_holds e a.0) (zeros_hold ts a.1)

stored_holds : (at : At) (t : Typ) (e : Tree) → holds_temporary e ≡ false → holds_temporary (stored at t e) ≡ false
stored_holds at (typ (int k) c v) e h = no_or (holds_temporary e) false h refl
stored_holds at (typ (enum n x) c v) e h = no_or (holds_temporary e) false h refl
stored_holds at (typ null c v) e h = no_or (holds_temporary e) false h refl
stored_holds at (typ (ptr t) c v) e h = no_or (holds_temporary e) false h refl
stored_holds at (typ (ref t) c v) e h = no_or (holds_temporary e) false h refl
stored_holds at (typ f c v) e h = h

bytes_hold : (t : Typ) (at : At) (i : ℕ) (bs : List ℕ) → hold_temporary (byte_pieces t at i bs) ≡ false
bytes_hold t at i [] = refl
bytes_hold t at i (b ∷ bs) =
    let a = stored_holds at t (node (Literal (byte_word (kind_in (form_in t)) b)) (unqualified t) Prvalue at none) refl in
    no_or (holds_temporary (stored at t (node (Literal (byte_word (kind_in (form_in t)) b)) (unqualified t) Prvalue at none)) || false)
    (hold_temporary (byte_pieces t at (suc i) bs))
    (no_or (holds_temporary (stored at t (node (Literal (byte_word (kind_in (form_in t)) b)) (unqualified t) Prvalue at none))) false a refl)
    (bytes_hold t at (suc i) bs)

rest_holds : (c : Ctx) (t : Typ) (at : At) (i n : ℕ) → hold_temporary (zero_rest c t at i n) ≡ false
rest_holds c t at i zero = refl
rest_holds c t at i (suc n) =
    let a = zero_holds (zeros c.classes at (plain (array t (suc n)))) (are_zero_law c.classes at (plain (array t (suc n)))) in
    no_or (holds_temporary (zeros c.classes at (plain (array t (suc n)))) || false) false
    (no_or (holds_temporary (zeros c.classes at (plain (array t (suc n))))) false a refl) refl

all_hold : (ts us : Trees) → hold_temporary ts ≡ false → hold_temporary us ≡ false → hold_temporary (followed ts us) ≡ false
all_hold none us h g = g
all_hold (more t ts) us h g = let a = or_parts (holds_temporary t) (hold_temporary ts) h in
    no_or (holds_temporary t) (hold_temporary (followed ts us)) a.0 (all_hold ts us a.1 g)

-- an object that pieces make, each by itself
record IsMadeObject (e : Tree) : Type 0 where
  made : is_made e ≡ true
  kind : kind_of e ≡ Pieces
  part : as_part e ≡ e
  bare : holds_temporary e ≡ false

string_made : (c : Ctx) (t : Typ) (at : At) (bytes : List ℕ) → On IsMadeObject (string_object c t at bytes)
string_made c (typ (array e n) d v) at bytes = skip IsMadeObject (check at BadInit (nat_lt (length bytes) n)) _ (λ y. record {
  made = all_made (byte_pieces e at 0 bytes) (zero_rest c e at (length bytes) (n - length bytes)) (bytes_made e at 0 bytes)
      (rest_made c e at (length bytes) (n - length bytes));
  kind = refl;
  part = refl;
  bare = all_hold (byte_pieces e at 0 bytes) (zero_rest c e at (length bytes) (n - length bytes)) (bytes_hold e at 0 bytes)
      (rest_holds c e at (length bytes) (n - length bytes));
})
string_made c (typ void d v) at bytes = tt
string_made c (typ (int k) d v) at bytes = tt
string_made c (typ (enum n x) d v) at bytes = tt
string_made c (typ null d v) at bytes = tt
string_made c (typ (ptr u) d v) at bytes = tt
string_made c (typ (ref u) d v) at bytes = tt
string_made c (typ (func f) d v) at bytes = tt
string_made c (typ (class n) d v) at bytes = tt
string_made c (typ (closure n) d v) at bytes = tt
string_made c (typ (tx_ex u) d v) at bytes = tt

-- one that builds the member in the function of its own
pub string_fits : (s : Setting) (c : Ctx) (st : State) (n i : ℕ) (t : Typ) (at : At) (bytes : List ℕ) (x : Tree) → string_object c t at bytes ≡ Ok x
    → (g : Func) → BuildsOne (inside s g (in_object st n).work.frame) t x
    → DefaultFits (record s { function = g }) t (kept n i x (in_object st n).work.frame)
string_fits s c st n i t at bytes x h g b =
    let r : Setting = alone (record s { function = g }) (kept n i x (in_object st n).work.frame) in
    let m = held_by IsMadeObject (string_object c t at bytes) x (string_made c t at bytes) h in
    record {
      one = b;
      part = subst (λ (q : Tree). BuildsOne r t q) (sym m.part) b;
      movable = movable (this_of n) x (strings_move (this_of n) c t at bytes x h);
      pliable = ap (is_pliable t) m.part ∙ ap (λ (y : Bool). if y then is_class_typ t && same_shape t (typ_in x) else is_made x) (ap goes_both_ways m.kind) ∙ m.made;
      outermost = or_right (is_full (kind_of x)) (ap not m.bare);
    }

pub strings_kept : StringsKept
strings_kept s c st n i t at bytes x k z a h g =
    let r : Setting = inside s g (in_object st n).work.frame in
    let set : IsSetting r c = record { classes = k.classes; ordered = k.ordered; slots = k.slots; funcs = λ j f e. let y = k.funcs j f e in record { func = y.func; at = y.at; is = y.is } } in
    string_fits s c st n i t at bytes x h g (held_by (BuildsOne r t) (string_object c t at bytes) x (strings_build r c t at bytes set z a) h)
