-- What is written one behind the other, and that lists are short enough for their counts.
use Rattle.std.proofs.Common.{◌≡◌, ℕ, zero, suc, ◌^◌, ◌<◌, nat_eq, nat_lt, nat_le, arith, Bool, true, cond, List, [], ◌∷◌, ◌++◌, length, map, get_or, Option}
use Rattle.std.proofs.Common.{Some, None, Result, Ok, Err, refl, ap, ◌∙◌, append_assoc, ◌&&◌, ◌||◌}
use Rattle.std.specs.Prelude.{OnOk, IfSome}
use Rattle.std.specs.List.{list_all, list_any}
use Rattle.std.specs.Option.{option_map, is_some}
use Rattle.std.specs.Str.{bytes_eq}
use Rattle.std.proofs.lemmas.Bool.{and_parts, and_from, leb-true, ltb-true}
use Rattle.std.proofs.lemmas.Option.{slice_get_within}
use Rattle.tx_code.specs.declared.body.Body.{Body}
use Rattle.tx_code.specs.Objects.{BodyView, ClassView, GlobalView, FuncView, body_view}
use Rattle.tx_code.specs.WellFormed.{is_name, is_name_or_none, is_count, is_length, named_by_body, lines_fit, body_fits, some_fits, member_fits, class_fits}
use Rattle.tx_code.specs.WellFormed.{cell_fits, cell_after, ascends, global_fits, bit, same, flags_fit, text_fits, func_fits, is_line, line_after, source_fits}
use Rattle.object_bytes.specs.Counts.{HasCounts, body_has_counts, some_has_counts, class_has_counts, global_has_counts, func_has_counts}
use Rattle.object_bytes.specs.Spelling.{number_of}
use Rattle.object_bytes.proofs.Parts.{parts3, parts4, parts7, parts8, parts10}
use Rattle.object_bytes.proofs.ObjectLaws.{number_back}

pub on_ok_to : {A E : Type 0} (r : Result A E) (x y z : List ℕ) → y ≡ z → OnOk r (x ≡ y) → OnOk r (x ≡ z)
on_ok_to (Ok v) x y z e h = h ∙ e
on_ok_to (Err v) x y z e h = h

pub eight : (old a b c d e f g h n1 n2 n3 n4 n5 n6 n7 : List ℕ) → n1 ≡ old ++ a → n2 ≡ n1 ++ b → n3 ≡ n2 ++ c → n4 ≡ n3 ++ d → n5 ≡ n4 ++ e → n6 ≡ n5 ++ f
    → n7 ≡ n6 ++ g
    → n7 ++ h ≡ old ++ (a ++ (b ++ (c ++ (d ++ (e ++ (f ++ (g ++ h)))))))
eight old a b c d e f g h n1 n2 n3 n4 n5 n6 n7 e1 e2 e3 e4 e5 e6 e7 = rw (e7, e6, e5, e4, e3, e2, e1) (simp append_assoc)

pub fits_at : {A B : Type 0} (p : B → Bool) (v : A → B) (xs : List A) (i : ℕ) (x : A) → list_all p (map v xs) ≡ true → i < length xs → x ≡ get_or xs i x
    → p (v x) ≡ true
fits_at p v [] i x h lt e = absurd (omega arith)
fits_at p v (y ∷ ys) zero x h lt e = ap (λ z. p (v z)) e ∙ (and_parts (p (v y)) (list_all p (map v ys)) h).0
fits_at p v (y ∷ ys) (suc i) x h lt e = fits_at p v ys i x (and_parts (p (v y)) (list_all p (map v ys)) h).1 (omega arith) e

body_counts : (version n : ℕ) (b : BodyView) → body_fits version n b ≡ true → body_has_counts b ≡ true
body_counts version n b h =
    let t = parts4 (is_count b.code) (is_count b.rows) (list_all (is_name n) (named_by_body b)) (lines_fit version (length b.code) b.lines) h in
    let l = parts4 (is_count b.lines) (list_all (is_line (length b.code)) b.lines) (ascends line_after b.lines)
    (nat_eq version 2 || nat_eq (length b.lines) 0) t.3 in
    and_from _ _ (and_from _ _ t.0 t.1) l.0

some_counts : (version n : ℕ) (b : Option BodyView) → some_fits version n b ≡ true → some_has_counts b ≡ true
some_counts version n None h = refl
some_counts version n (Some b) h = body_counts version n b h

pub counts_if_some : (b : Option Body) → some_has_counts (option_map body_view b) ≡ true → IfSome b (λ x. HasCounts (body_view x))
counts_if_some None h = tt
counts_if_some (Some b) h =
    let t = parts3 (is_count (body_view b).code) (is_count (body_view b).rows) (is_count (body_view b).lines) h in
    record { code = t.0; rows = t.1; lines = t.2 }

to_all : {A : Type 0} (p q : A → Bool) (xs : List A) → ((x : A) → p x ≡ true → q x ≡ true) → list_all p xs ≡ true → list_all q xs ≡ true
to_all p q [] f h = refl
to_all p q (x ∷ xs) f h = let a = and_parts (p x) (list_all p xs) h in and_from _ _ (f x a.0) (to_all p q xs f a.1)

pub class_counts : (n : ℕ) (cs : List ClassView) → list_all (class_fits n) cs ≡ true → list_all class_has_counts cs ≡ true
class_counts n cs h = to_all (class_fits n) class_has_counts cs (λ c f.
    let t = parts7 (is_name n c.name) (is_name_or_none n c.base) (is_name n c.text) (is_count c.members) (list_all (member_fits n) c.members) (is_count c.slots)
    (list_all (is_name_or_none n) c.slots) f in
    and_from _ _ t.3 t.5) h

pub global_counts : (n : ℕ) (gs : List GlobalView) → list_all (global_fits n) gs ≡ true → list_all global_has_counts gs ≡ true
global_counts n gs h = to_all (global_fits n) global_has_counts gs (λ g f.
    let t = parts8 (is_name n g.symbol) (is_name n g.ty) (nat_lt g.linkage 2) (nat_lt g.defined 2) (is_count g.cells) (list_all (cell_fits n g.size) g.cells)
    (ascends cell_after g.cells) (cond (nat_eq g.defined 0) (nat_eq g.size 0 && nat_eq (length g.cells) 0) (nat_lt 0 g.size)) f in
    t.4) h

pub func_counts : (version n : ℕ) (fs : List FuncView) → list_all (func_fits version n) fs ≡ true → list_all func_has_counts fs ≡ true
func_counts version n fs h = to_all (func_fits version n) func_has_counts fs (λ f k.
    let t = parts10 (is_name n f.symbol) (is_name n f.ty) (nat_lt f.linkage 3) (flags_fit f.flags) (text_fits n f) (bit 0 f.flags || nat_eq f.frame 0)
    (same (bit 0 f.flags) (is_some f.plain)) (some_fits version n f.plain) (same (bit 1 f.flags) (is_some f.safe)) (some_fits version n f.safe) k in
    and_from _ _ (some_counts version n f.plain t.7) (some_counts version n f.safe t.9)) h

pub short_name : (name : List ℕ) → is_length name ≡ true → length name < 2 ^ 32
short_name name h =
    let p = and_parts (nat_lt 0 (length name)) (nat_le (length name) 1048576) h in
    omega (arith, leb-true (length name) 1048576 p.1)

-- the number of the source plus 1
pub source_small : (version : ℕ) (names : List (List ℕ)) (name : List ℕ) → is_count names ≡ true → source_fits version names (Some name) ≡ true
    → number_of 1 names name < 2 ^ 32
source_small version names name count h =
    let b = number_back 1 names name (and_parts (nat_eq version 2) (list_any (bytes_eq name) names) h).1 in
    omega (arith, slice_get_within names b.0 name b.2, ltb-true (length names) (2 ^ 32) count)
