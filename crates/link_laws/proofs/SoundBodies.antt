-- A body with its names renamed is sound where the body is, if names stand for the same.
use Rattle.std.proofs.Common.{Bool, true, false, ◌≡◌, ℕ, zero, suc, ◌-◌, List, [], ◌∷◌, map, length, Option, Some, None, refl, sym, ap, ◌∙◌, subst}
use Rattle.std.specs.Prelude.{slice_get, nat_lt, nat_le, nat_eq, ◌&&◌, ◌||◌, not, is_some, cond}
use Rattle.std.specs.List.{list_all, list_any}
use Rattle.std.specs.Option.{option_map, option_map_or}
use Rattle.std.proofs.lemmas.List.{length-map}
use Rattle.std.proofs.lemmas.Option.{same_Some}
use Rattle.tx_events.specs.Thread.{is_empty}
use Rattle.tx_code.specs.declared.instr.Instr.{Instr}
use Rattle.tx_code.specs.declared.instr.Instr.TheVariants.{GlobalAddr, FuncAddr, ClassAddr, Call, TCall, CallIndirect, TCallIndirect, Slot, NewException}
use Rattle.tx_code.specs.declared.body.Row.{Row}
use Rattle.tx_code.specs.Objects.{BodyView}
use Rattle.tx_code.specs.WellFormed.{named_by_row}
use Rattle.tx_code.specs.Renaming.{Numbering, renamed, renamed_row, renamed_body}
use Rattle.tx_code.specs.Linked.{named_types}
use Rattle.tx_code.specs.Meaning.{covers}
use Rattle.tx_code.specs.Shapes.{Shape, Table, Among, here, there, Reaches, enters, falls, lands, landed, moves, outgoing, targets}
use Rattle.tx_code.specs.Sound.{Signature, SoundBody, closes_right, edge_right, entry, exception_right, inside_right, is_edge, is_known, is_last, left_at}
use Rattle.tx_code.specs.Sound.{names_right, outside_right, passes, row_is_known, row_lies, row_names_right, target_lies}
use Rattle.tx_code.proofs.ReachedIndexes.{and_left, and_right, all_at}

-- what names stand for in an object, and their numbers in an image; of types only those that pass the test
pub record Same (x y : Table) (r : Numbering) (t : ℕ → Bool) : Type 0 where
  pub global : (s : ℕ) → x.is_global s ≡ true → y.is_global (r.global s) ≡ true
  pub func : (s : ℕ) → x.is_func s ≡ true → y.is_func (r.func s) ≡ true
  pub class : (s : ℕ) → x.is_class s ≡ true → y.is_class (r.class s) ≡ true
  pub slot : (c n : ℕ) → x.is_slot c n ≡ true → y.is_slot (r.class c) n ≡ true
  pub ty : (n : ℕ) → t n ≡ true → y.is_type (r.ty n) ≡ true
  pub safe : (s : ℕ) → x.is_func s ≡ true → x.has_safe s ≡ true → y.has_safe (r.func s) ≡ true
  pub takes : (s : ℕ) → x.is_func s ≡ true → y.takes (r.func s) ≡ x.takes s
  pub gives : (s : ℕ) → x.is_func s ≡ true → y.gives (r.func s) ≡ x.gives s
  pub type_takes : (n : ℕ) → t n ≡ true → y.type_takes (r.ty n) ≡ x.type_takes n
  pub type_gives : (n : ℕ) → t n ≡ true → y.type_gives (r.ty n) ≡ x.type_gives n

-- ---- an instruction does the same

record Alike (x y : Table) (a b : Instr) : Type 0 where
  out : (own : ℕ) (s : Shape) → outgoing y own b s ≡ outgoing x own a s
  leads : (i : ℕ) → targets b i ≡ targets a i
  lies : (n : ℕ) → target_lies n b ≡ target_lies n a
  last : is_last b ≡ is_last a
  known : is_known b ≡ is_known a
  names : names_right y b ≡ true
  words : passes y b ≡ passes x a
  exceptions : (s : Shape) → exception_right b s ≡ exception_right a s
  inside : inside_right x a ≡ true → inside_right y b ≡ true
  outside : outside_right b ≡ outside_right a
  closes : (s : Shape) → closes_right b s ≡ closes_right a s
  left : (d : ℕ) → left_at b d ≡ left_at a d

alike : (x y : Table) (r : Numbering) (t : ℕ → Bool) → Same x y r t → (a : Instr) → names_right x a ≡ true → list_all t (named_types a) ≡ true
    → Alike x y a (renamed r a)
alike x y r t e (GlobalAddr s) n m = record {
  out = λ own q. refl;
  leads = λ i. refl;
  lies = λ k. refl;
  last = refl;
  known = refl;
  names = e.global s n;
  words =
      refl;
  exceptions = λ q. refl;
  inside = λ h. h;
  outside = refl;
  closes = λ q. refl;
  left = λ d. refl;
}
alike x y r t e (FuncAddr s) n m = record {
  out = λ own q. refl;
  leads = λ i. refl;
  lies = λ k. refl;
  last = refl;
  known = refl;
  names = e.func s n;
  words =
      refl;
  exceptions = λ q. refl;
  inside = λ h. h;
  outside = refl;
  closes = λ q. refl;
  left = λ d. refl;
}
alike x y r t e (ClassAddr s) n m = record {
  out = λ own q. refl;
  leads = λ i. refl;
  lies = λ k. refl;
  last = refl;
  known = refl;
  names = e.class s n;
  words =
      refl;
  exceptions = λ q. refl;
  inside = λ h. h;
  outside = refl;
  closes = λ q. refl;
  left = λ d. refl;
}
alike x y r t e (Call s w) n m = record {
  out = λ own q. ap (λ (k : ℕ). moves w k q) (e.gives s n);
  leads = λ i. refl;
  lies = λ k. refl;
  last = refl;
  known =
      refl;
  names = e.func s n;
  words = ap (nat_eq w) (e.takes s n);
  exceptions = λ q. refl;
  inside = λ h. h;
  outside = refl;
  closes = λ q. refl;
  left =
      λ d. refl;
}
alike x y r t e (TCall s w) n m = record {
  out = λ own q. ap (λ (k : ℕ). moves w k q) (e.gives s n);
  leads = λ i. refl;
  lies = λ k. refl;
  last = refl;
  known =
      refl;
  names = e.func s n;
  words = ap (nat_eq w) (e.takes s n);
  exceptions = λ q. refl;
  inside = λ h. e.safe s n h;
  outside = refl;
  closes = λ q. refl;
  left = λ d. refl;
}
alike x y r t e (CallIndirect ty w) n m = record {
  out = λ own q. ap (λ (k : ℕ). moves (suc w) k q) (e.type_gives ty (and_left (t ty) true m));
  leads =
      λ i. refl;
  lies = λ k. refl;
  last = refl;
  known = refl;
  names = e.ty ty (and_left (t ty) true m);
  words =
      ap (nat_eq w) (e.type_takes ty (and_left (t ty) true m));
  exceptions = λ q. refl;
  inside = λ h. h;
  outside = refl;
  closes = λ q. refl;
  left = λ d. refl;
}
alike x y r t e (TCallIndirect ty w) n m = record {
  out = λ own q. ap (λ (k : ℕ). moves (suc w) k q) (e.type_gives ty (and_left (t ty) true m));
  leads =
      λ i. refl;
  lies = λ k. refl;
  last = refl;
  known = refl;
  names = e.ty ty (and_left (t ty) true m);
  words =
      ap (nat_eq w) (e.type_takes ty (and_left (t ty) true m));
  exceptions = λ q. refl;
  inside = λ h. h;
  outside = refl;
  closes = λ q. refl;
  left = λ d. refl;
}
alike x y r t e (Slot c w) n m = record {
  out = λ own q. refl;
  leads = λ i. refl;
  lies = λ k. refl;
  last = refl;
  known = refl;
  names = e.slot c w n;
  words =
      refl;
  exceptions = λ q. refl;
  inside = λ h. h;
  outside = refl;
  closes = λ q. refl;
  left = λ d. refl;
}
alike x y r t e (NewException ty) n m = record {
  out = λ own q. refl;
  leads = λ i. refl;
  lies = λ k. refl;
  last = refl;
  known = refl;
  names = e.ty ty
      (and_left (t ty) true m);
  words = refl;
  exceptions = λ q. refl;
  inside = λ h. h;
  outside = refl;
  closes = λ q. refl;
  left = λ d. refl;
}
alike x y r t e a n m = record {
  out = λ own q. refl;
  leads = λ i. refl;
  lies = λ k. refl;
  last = refl;
  known = refl;
  names = refl;
  words = refl;
  exceptions =
      λ q. refl;
  inside = λ h. h;
  outside = refl;
  closes = λ q. refl;
  left = λ d. refl;
}

-- ---- mapped lists

nowhere : {A : Type 0} {P : Type 0} {j : A} → Among j [] → P
nowhere m = elim m [ ]

pub get_back : {A B : Type 0} (f : A → B) (xs : List A) (i : ℕ) (y : B) → slice_get (map f xs) i ≡ Some y → (x : A) × ((slice_get xs i ≡ Some x) × (f x ≡ y))
get_back f [] i y e = absurd (cc)
get_back f (x ∷ xs) zero y e = (x, (refl, same_Some (f x) y e))
get_back f (x ∷ xs) (suc i) y e = get_back f xs i y e

get_map : {A B : Type 0} (f : A → B) (xs : List A) (i : ℕ) → slice_get (map f xs) i ≡ option_map f (slice_get xs i)
get_map f [] i = refl
get_map f (x ∷ xs) zero = refl
get_map f (x ∷ xs) (suc i) = get_map f xs i

among_back : {A B : Type 0} (f : A → B) (xs : List A) {y : B} → Among y (map f xs) → (x : A) × (Among x xs × (f x ≡ y))
among_back f [] m = nowhere m
among_back f (x ∷ xs) here = (x, (here, refl))
among_back f (x ∷ xs) (there m) = let r = among_back f xs m in (r.0, (there r.1.0, r.1.1))

all_mapped : {A B : Type 0} (f : A → B) (p : B → Bool) (q : A → Bool) (xs : List A) → ((i : ℕ) (a : A) → slice_get xs i ≡ Some a → q a ≡ true → p (f a) ≡ true)
    → list_all q xs ≡ true → list_all p (map f xs) ≡ true
all_mapped f p q [] h l = refl
all_mapped f p q (x ∷ xs) h l = rw (h zero x refl (and_left (q x) _ l), all_mapped f p q xs (λ i a e. h (suc i) a e) (and_right (q x) _ l)) refl

any_mapped : {A B : Type 0} (f : A → B) (p : B → Bool) (q : A → Bool) (xs : List A) → ((a : A) → p (f a) ≡ q a) → list_any p (map f xs) ≡ list_any q xs
any_mapped f p q [] h = refl
any_mapped f p q (x ∷ xs) h = ap (λ (b : Bool). b || list_any p (map f xs)) (h x) ∙ ap (λ (b : Bool). q x || b) (any_mapped f p q xs h)

-- ---- bodies

-- the names of a body stand for something, and its types pass the test
pub record Named (x : Table) (t : ℕ → Bool) (b : BodyView) : Type 0 where
  pub names : list_all (names_right x) b.code ≡ true
  pub types : list_all (λ a. list_all t (named_types a)) b.code ≡ true

alike_at : (x y : Table) (r : Numbering) (t : ℕ → Bool) (b : BodyView) → Same x y r t → Named x t b → (i : ℕ) (a : Instr) → slice_get b.code i ≡ Some a
    → Alike x y a (renamed r a)
alike_at x y r t b e n i a g = alike x y r t e a (all_at (names_right x) b.code i a n.names g) (all_at (λ c. list_all t (named_types c)) b.code i a n.types g)

back : (x y : Table) (r : Numbering) (t : ℕ → Bool) (b : BodyView) → Same x y r t → Named x t b → (own : ℕ) (first : Shape) {i : ℕ} {s : Shape}
    → Reaches y own (renamed_body r b) first i s → Reaches x own b first i s
back x y r t b same named own first enters = enters
back x y r t b same named own first (falls {i} {j} {s} h e m) =
    let g = get_back (renamed r) b.code i e.instr e.is in
    let k = alike_at x y r t b same named i g.0 g.1.0 in
    let made : outgoing x own g.0 s ≡ Some e.next = sym (k.out own s) ∙ ap (λ (c : Instr). outgoing y own c s) g.1.1 ∙ e.makes in
    let lead : Among j (targets g.0 i) = subst (λ ts. Among j ts) (ap (λ (c : Instr). targets c i) (sym g.1.1) ∙ k.leads i) m in
    falls (back x y r t b same named own first h) (record { instr = g.0; is = g.1.0; next = e.next; makes = made }) lead
back x y r t b same named own first (lands {i} {s} h e q m c) =
    let g = get_back (renamed r) b.code i e.instr e.is in
    let k = alike_at x y r t b same named i g.0 g.1.0 in
    let made : outgoing x own g.0 s ≡ Some e.next = sym (k.out own s) ∙ ap (λ (c : Instr). outgoing y own c s) g.1.1 ∙ e.makes in
    let w = among_back (renamed_row r) b.rows m in
    let cov : covers w.0 i ≡ true = ap (λ (p : Row). covers p i) w.1.1 ∙ c in
    subst (λ (p : Row). Reaches x own b first p.target (landed p.what p.depth s.opens s.handlers)) w.1.1
    (lands (back x y r t b same named own first h) (record { instr = g.0; is = g.1.0; next = e.next; makes = made }) w.0 w.1.0 cov)

row_known : (r : Numbering) (q : Row) → row_is_known q ≡ true → row_is_known (renamed_row r q) ≡ true
row_known r q h = by (nat_eq q.what 1) h
  where
    by : (b : Bool) → (nat_lt q.what 7 && (b || nat_eq q.ty 0)) ≡ true → (nat_lt q.what 7 && (b || nat_eq (cond b (r.ty q.ty) q.ty) 0)) ≡ true
    by true g = g
    by false g = g

row_names : (x y : Table) (r : Numbering) (t : ℕ → Bool) → Same x y r t → (q : Row) → list_all t (named_by_row q) ≡ true
    → row_names_right y (renamed_row r q) ≡ true
row_names x y r t e q h = by (nat_eq q.what 1) h
  where
    by : (b : Bool) → list_all t (cond b (q.ty ∷ []) []) ≡ true → (not b || y.is_type (cond b (r.ty q.ty) q.ty)) ≡ true
    by true g = e.ty q.ty (and_left (t q.ty) true g)
    by false g = refl

last_instr : (x y : Table) (r : Numbering) (t : ℕ → Bool) (b : BodyView) → Same x y r t → Named x t b → (i : ℕ)
    → option_map_or is_last (slice_get b.code i) false ≡ true → option_map_or is_last (slice_get (map (renamed r) b.code) i) false ≡ true
last_instr x y r t b same named i h = rw (get_map (renamed r) b.code i) (by (slice_get b.code i) refl h)
  where
    by : (o : Option Instr) → slice_get b.code i ≡ o → option_map_or is_last o false ≡ true → option_map_or is_last (option_map (renamed r) o) false ≡ true
    by None e g = g
    by (Some a) e g = (alike_at x y r t b same named i a e).last ∙ g

pub sound_body : (x y : Table) (r : Numbering) (t : ℕ → Bool) (g : Signature) (safe : Bool) (b : BodyView) → Same x y r t
    → list_all (λ a. list_all t (named_types a)) b.code ≡ true → list_all (λ q. list_all t (named_by_row q)) b.rows ≡ true
    → SoundBody x g safe b → SoundBody y g safe (renamed_body r b)
sound_body x y r t g safe b same types row_types h =
    let named : Named x t b = record { names = h.names; types = types } in
    let long : length (map (renamed r) b.code) ≡ length b.code = length-map b.code (renamed r) in
    record {
      filled = ap (nat_lt 0) long ∙ h.filled;
      targets = rw long (all_mapped (renamed r) (target_lies (length b.code)) (target_lies (length b.code)) b.code
          (λ i a e l. (alike_at x y r t b same named i a e).lies (length b.code) ∙ l) h.targets);
      rows = rw long (all_mapped (renamed_row r) (row_lies (length b.code)) (row_lies (length b.code)) b.rows (λ i q e l. l) h.rows);
      last = rw long (last_instr x y r t b same named (length b.code - 1) h.last);
      known = all_mapped (renamed r) is_known is_known b.code (λ i a e l. (alike_at x y r t b same named i a e).known ∙ l) h.known;
      rows_known = all_mapped (renamed_row r) row_is_known row_is_known b.rows (λ i q e l. row_known r q l) h.rows_known;
      names = all_mapped (renamed r) (names_right y) (names_right x) b.code (λ i a e l. (alike_at x y r t b same named i a e).names) h.names;
      rows_names = all_mapped (renamed_row r) (row_names_right y) (λ q. list_all t (named_by_row q)) b.rows (λ i q e l. row_names x y r t same q l) row_types;
      one_shape = λ i s u p q. h.one_shape i s u (back x y r t b same named g.gives (entry g) p) (back x y r t b same named g.gives (entry g) q);
      operands = λ i s a p e. let w = get_back (renamed r) b.code i a e in let k = alike_at x y r t b same named i w.0 w.1.0 in
          ap is_some (ap (λ (c : Instr). outgoing y g.gives c s) (sym w.1.1) ∙ k.out g.gives s)
          ∙ h.operands i s w.0 (back x y r t b same named g.gives (entry g) p) w.1.0;
      words = λ i s a p e. let w = get_back (renamed r) b.code i a e in let k = alike_at x y r t b same named i w.0 w.1.0 in
          ap (passes y) (sym w.1.1) ∙ k.words ∙ h.words i s w.0 (back x y r t b same named g.gives (entry g) p) w.1.0;
      exceptions = λ i s a p e. let w = get_back (renamed r) b.code i a e in let k = alike_at x y r t b same named i w.0 w.1.0 in
          ap (λ (c : Instr). exception_right c s) (sym w.1.1) ∙ k.exceptions s ∙ h.exceptions i s w.0 (back x y r t b same named g.gives (entry g) p) w.1.0;
      inside = λ i s a p e f. let w = get_back (renamed r) b.code i a e in let k = alike_at x y r t b same named i w.0 w.1.0 in
          ap (inside_right y) (sym w.1.1) ∙ k.inside (h.inside i s w.0 (back x y r t b same named g.gives (entry g) p) w.1.0 f);
      outside = λ i s a p e f. let w = get_back (renamed r) b.code i a e in let k = alike_at x y r t b same named i w.0 w.1.0 in
          ap outside_right (sym w.1.1) ∙ k.outside ∙ h.outside i s w.0 (back x y r t b same named g.gives (entry g) p) w.1.0 f;
      closes = λ i s a p e. let w = get_back (renamed r) b.code i a e in let k = alike_at x y r t b same named i w.0 w.1.0 in
          ap (λ (c : Instr). closes_right c s) (sym w.1.1) ∙ k.closes s ∙ h.closes i s w.0 (back x y r t b same named g.gives (entry g) p) w.1.0;
      edges = λ i s q p m c. let w = among_back (renamed_row r) b.rows m in
          ap (λ (v : Row). edge_right v.what s.opens) (sym w.1.1)
          ∙ h.edges i s w.0 (back x y r t b same named g.gives (entry g) p) w.1.0 (ap (λ (v : Row). covers v i) w.1.1 ∙ c);
      covered = λ i s p. ap (λ (v : Bool). is_empty s.opens || v)
          (any_mapped (renamed_row r) (λ (v : Row). is_edge v && covers v i) (λ (v : Row). is_edge v && covers v i) b.rows (λ v. refl))
          ∙ h.covered i s (back x y r t b same named g.gives (entry g) p);
      depths = λ i s a q p e m c. let w = get_back (renamed r) b.code i a e in let k = alike_at x y r t b same named i w.0 w.1.0 in let z =
          among_back (renamed_row r) b.rows m in
          ap (λ (v : Row). nat_le v.depth (left_at a s.depth)) (sym z.1.1)
          ∙ ap (λ (d : ℕ). nat_le z.0.depth d) (ap (λ (c : Instr). left_at c s.depth) (sym w.1.1) ∙ k.left s.depth)
          ∙ h.depths i s w.0 z.0 (back x y r t b same named g.gives (entry g) p) w.1.0 z.1.0 (ap (λ (v : Row). covers v i) z.1.1 ∙ c);
    }
