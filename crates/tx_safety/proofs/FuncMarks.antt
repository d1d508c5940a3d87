-- Marks of safe functions: rounds over the list find them all.
use Rattle.std.proofs.Common.{◌≡◌, ◌∙◌, ◌⊎◌, inl, inr, ◌<◌, ◌≤◌, ◌+◌, ◌==◌, ℕ, zero, suc, max, nat_le, Bool, true, false, not, ◌&&◌, ◌||◌, List, [], ◌∷◌}
use Rattle.std.proofs.Common.{Option, Some, None, cond, map, set, fold, get_or, length, replicate, slice_get, is_some, option_map, ap, sym, subst, arith, refl}
use Rattle.std.specs.Prelude.{count_by, option_and_then}
use Rattle.std.specs.List.{list_all}
use Rattle.std.specs.Cmp.Derive.{both_true}
use Rattle.std.proofs.lemmas.Bool.{cases_eq, cases_lt, leb-true, le-leb}
use Rattle.std.proofs.Math.Dec.{leb-zero}
use Rattle.std.proofs.lemmas.Option.{slice_get_past}
use Rattle.std.proofs.lemmas.List.{length-set, get_or-set_same, get_or-set_other}
use Rattle.std.proofs.lemmas.List.Sums.{count_by-le-length, sum_by-set}
use Rattle.cpp_tree.specs.Typing.{passes}
use Rattle.cpp_tree.specs.Units.{Func}
use Rattle.tx_unsafe.specs.declared.finding.CallSite.{CallSite}
use Rattle.tx_unsafe.specs.Unsafe.{own_findings, calls_of}
use Rattle.tx_safety.specs.Safe.{is_promised, is_passed, judged_at, may_call, is_empty, has_safe_definition, is_safe_by, safe_within, safe}
use Rattle.tx_safety.specs.Marks.{mark_at, may_from, is_marked_call, later, latest, mark_by, mark_of, new_mark_of, new_mark, with_mark, count_marks, SoundMarks}
use Rattle.tx_safety.specs.Marks.{ClosedMarks}
use Rattle.tx_unsafe.proofs.ClassMarks.{split_and, or_more, passes_more, passes_within, same_bool, zero_if}

-- Lists of tests

pub and_more : (a b c d : Bool) → (a ≡ true → c ≡ true) → (b ≡ true → d ≡ true) → (a && b) ≡ true → (c && d) ≡ true
and_more true b true d f g h = g h
and_more true b false d f g h = absurd (let k = f refl in cc)
and_more false b c d f g h = absurd cc

pub all_more : {A : Type 0} (p q : A → Bool) → ((x : A) → p x ≡ true → q x ≡ true) → (xs : List A) → list_all p xs ≡ true → list_all q xs ≡ true
all_more p q f [] h = refl
all_more p q f (x ∷ xs) h = and_more (p x) (list_all p xs) (q x) (list_all q xs) (f x) (all_more p q f xs) h

pub all_same : {A : Type 0} (p q : A → Bool) → ((x : A) → p x ≡ q x) → (xs : List A) → list_all p xs ≡ list_all q xs
all_same p q f [] = refl
all_same p q f (x ∷ xs) = ap (λ z. z && list_all p xs) (f x) ∙ ap (λ z. q x && z) (all_same p q f xs)

-- The latest mark of calls

pub none_later : (marks : List (Option ℕ)) (n : ℕ) (calls : List CallSite) → fold (later marks n) None calls ≡ None
none_later marks n [] = refl
none_later marks n (s ∷ ss) = none_later marks n ss

-- a call of a function of the unit that is not the one at hand
abbrev pub allows : (may : ℕ → ℕ → Bool) → (place n : ℕ) → CallSite → Bool
allows may place n site = (site.func == n) || may place site.func

pub max_le : (a b place : ℕ) → nat_le (max a b) place ≡ (nat_le a place && nat_le b place)
max_le a b place = same_bool _ _
    (λ h. let l : max a b ≤ place = leb-true _ _ h in both_true (le-leb a place (omega arith)) (le-leb b place (omega arith)))
    (λ h. let s = split_and (nat_le a place) (nat_le b place) h in let l : a ≤ place = leb-true _ _ s.0 in let m : b ≤ place = leb-true _ _ s.1 in
    le-leb (max a b) place (omega arith))

pub and_group : (a b c : Bool) → (a && (b && c)) ≡ ((a && b) && c)
and_group true b c = refl
and_group false b c = refl

pub and_true : (a b : Bool) → b ≡ true → (a && b) ≡ a
and_true true b h = h
and_true false b h = refl

-- one call more, where the others are right
pub step_is : (marks : List (Option ℕ)) (n place : ℕ) (ss : List CallSite) (b m all : Bool) (o : Option ℕ) (from last : ℕ)
    → ((from last : ℕ) → fold (later marks n) (Some from) ss ≡ Some last → (nat_le from place && all) ≡ nat_le last place)
    → ((k : ℕ) → o ≡ Some k → m ≡ nat_le k place)
    → fold (later marks n) (cond b (Some from) (option_map (max from) o)) ss ≡ Some last → (nat_le from place && ((b || m) && all)) ≡ nat_le last place
step_is marks n place ss true m all o from last ih f h = ih from last h
step_is marks n place ss false m all None from last ih f h = absurd (let z = none_later marks n ss in cc)
step_is marks n place ss false m all (Some k) from last ih f h =
    ap (λ z. nat_le from place && (z && all)) (f k refl) ∙ and_group (nat_le from place) (nat_le k place) all
    ∙ ap (λ z. z && all) (sym (max_le from k place)) ∙ ih (max from k) last h

pub latest_is : (may : ℕ → ℕ → Bool) (marks : List (Option ℕ)) (n place : ℕ) → ((m from : ℕ) → mark_at marks m ≡ Some from → may place m ≡ nat_le from place)
    → (calls : List CallSite) (from last : ℕ)
    → fold (later marks n) (Some from) calls ≡ Some last → (nat_le from place && list_all (allows may place n) calls) ≡ nat_le last place
latest_is may marks n place f [] from last h = and_true (nat_le from place) true refl ∙ ap (λ z. nat_le z place) (let e : from ≡ last = cc in e)
latest_is may marks n place f (s ∷ ss) from last h = step_is marks n place ss (s.func == n) (may place s.func) (list_all (allows may place n) ss)
    (mark_at marks s.func) from last
    (latest_is may marks n place f ss) (f s.func) h

pub step_some : (marks : List (Option ℕ)) (n place : ℕ) (ss : List CallSite) (b m all : Bool) (o : Option ℕ) (from : ℕ)
    → ((from : ℕ) → all ≡ true → is_some (fold (later marks n) (Some from) ss) ≡ true)
    → (m ≡ true → passes (λ (k : ℕ). nat_le k place) o ≡ true)
    → ((b || m) && all) ≡ true → is_some (fold (later marks n) (cond b (Some from) (option_map (max from) o)) ss) ≡ true
step_some marks n place ss true m all o from ih f h = ih from h
step_some marks n place ss false true all None from ih f h = absurd (let z = f refl in cc)
step_some marks n place ss false true all (Some k) from ih f h = ih (max from k) h
step_some marks n place ss false false all o from ih f h = absurd cc

pub latest_some : (may : ℕ → ℕ → Bool) (marks : List (Option ℕ)) (n place : ℕ) → ((m : ℕ) → may place m ≡ true → may_from marks place m ≡ true)
    → (calls : List CallSite) (from : ℕ)
    → list_all (allows may place n) calls ≡ true → is_some (fold (later marks n) (Some from) calls) ≡ true
latest_some may marks n place f [] from h = refl
latest_some may marks n place f (s ∷ ss) from h = step_some marks n place ss (s.func == n) (may place s.func) (list_all (allows may place n) ss)
    (mark_at marks s.func) from
    (latest_some may marks n place f ss) (f s.func) h

-- The mark of a function, over plain tests

pub by_rule : (p body clean i v a le all : Bool) (l : Option ℕ) (closed from place : ℕ) → mark_by p (body && clean) i v a l closed ≡ Some from
    → (i ≡ true → (k : ℕ) → l ≡ Some k → all ≡ nat_le k place) → (i ≡ false → a ≡ true → all ≡ true) → le ≡ nat_le closed place
    → (p || ((i || (not v && le)) && ((body && clean) && all))) ≡ nat_le from place
by_rule true body clean i v a le all l closed from place h f g e = sym (leb-zero place) ∙ ap (λ z. nat_le z place) (let q : 0 ≡ from = cc in q)
by_rule false false clean i v a le all l closed from place h f g e = absurd cc
by_rule false true false i v a le all l closed from place h f g e = absurd cc
by_rule false true true true v a le all l closed from place h f g e = f refl from h
by_rule false true true false true a le all l closed from place h f g e = absurd cc
by_rule false true true false false false le all l closed from place h f g e = absurd cc
by_rule false true true false false true le all l closed from place h f g e = and_true le all (g refl refl) ∙ e
    ∙ ap (λ z. nat_le z place) (let q : closed ≡ from = cc in q)

pub no_rule : (p b i v a le all : Bool) (l : Option ℕ) (closed : ℕ) → mark_by p b i v a l closed ≡ None → (i ≡ true → all ≡ true → is_some l ≡ true)
    → (i ≡ false → all ≡ true → a ≡ true)
    → (p || ((i || (not v && le)) && (b && all))) ≡ true → ⊥
no_rule true b i v a le all l closed h f g q = absurd cc
no_rule false true true v a le true l closed h f g q = let z : is_some l ≡ true = f refl refl in let y : is_some l ≡ false = ap is_some h in absurd cc
no_rule false true true v a le false l closed h f g q = absurd cc
no_rule false true false true a le all l closed h f g q = absurd cc
no_rule false true false false true true true l closed h f g q = absurd cc
no_rule false true false false false true true l closed h f g q = let z = g refl refl in absurd cc
no_rule false true false false a true false l closed h f g q = absurd cc
no_rule false true false false a false all l closed h f g q = absurd cc
no_rule false false i v a le all l closed h f g q = let z : false ≡ true = (split_and (i || (not v && le)) false q).1 in absurd cc

-- The mark of a function

pub calls_implicit : (may : ℕ → ℕ → Bool) (place n : ℕ) (f : Func) (calls : List CallSite) → f.implicit ≡ true
    → list_all (may_call may place n f) calls ≡ list_all (allows may place n) calls
calls_implicit may place n f calls e = all_same (may_call may place n f) (allows may place n)
    (λ site. ap (λ b. (site.func == n) || may (cond b place site.at.offset) site.func) e) calls

pub sound_may : (v : ℕ → Bool) (funcs : List Func) (marks : List (Option ℕ)) (depth place m : ℕ) → SoundMarks v funcs marks → count_marks marks ≤ depth
    → may_from marks place m ≡ true → safe_within depth v funcs place m ≡ true
sound_may v funcs marks depth place m s c h = here (mark_at marks m) refl h
  where
    here : (o : Option ℕ) → mark_at marks m ≡ o → passes (λ (k : ℕ). nat_le k place) o ≡ true → safe_within depth v funcs place m ≡ true
    here None e h = absurd cc
    here (Some k) e h = s.within m k depth place e c ∙ h

pub rule_safe : (v : ℕ → Bool) (funcs : List Func) (marks : List (Option ℕ)) (n depth place from : ℕ) (f : Func) → SoundMarks v funcs marks
    → count_marks marks ≤ depth
    → mark_of marks n f (is_empty (own_findings v true f)) (calls_of true f) ≡ Some from
    → is_safe_by v (safe_within depth v funcs) place n f ≡ nat_le from place
rule_safe v funcs marks n depth place from f s c h = by_rule (is_promised f) (is_some f.body)
    (is_empty (own_findings v true f)) f.implicit f.declared.is_virtual
    (list_all (is_marked_call marks n) (calls_of true f)) (nat_le f.closed_at place)
    (list_all (may_call (safe_within depth v funcs) place n f) (calls_of true f)) (latest marks n (calls_of true f)) f.closed_at from place h
    (λ e k g. calls_implicit (safe_within depth v funcs) place n f (calls_of true f) e
    ∙ sym (ap (λ z. z && list_all (allows (safe_within depth v funcs) place n) (calls_of true f)) (leb-zero place))
    ∙ latest_is (safe_within depth v funcs) marks n place (λ m from q. s.within m from depth place q c) (calls_of true f) 0 k g)
    (λ e a. all_more (is_marked_call marks n) (may_call (safe_within depth v funcs) place n f)
    (λ site. or_more (site.func == n) (may_from marks site.at.offset site.func) (site.func == n)
    (safe_within depth v funcs (cond f.implicit place site.at.offset) site.func) (λ x. x)
    (λ q. ap (λ b. safe_within depth v funcs (cond b place site.at.offset) site.func) e ∙ sound_may v funcs marks depth site.at.offset site.func s c q))
    (calls_of true f) a)
    refl

pub rule_none : (v : ℕ → Bool) (marks : List (Option ℕ)) (n place : ℕ) (f : Func) (may : ℕ → ℕ → Bool)
    → ((place m : ℕ) → may place m ≡ true → may_from marks place m ≡ true)
    → mark_of marks n f (is_empty (own_findings v true f)) (calls_of true f) ≡ None → is_safe_by v may place n f ≡ true → ⊥
rule_none v marks n place f may g h q = no_rule (is_promised f) (is_some f.body && is_empty (own_findings v true f)) f.implicit f.declared.is_virtual
    (list_all (is_marked_call marks n) (calls_of true f)) (nat_le f.closed_at place) (list_all (may_call may place n f) (calls_of true f))
    (latest marks n (calls_of true f)) f.closed_at h
    (λ e a. latest_some may marks n place (g place) (calls_of true f) 0 (sym (calls_implicit may place n f (calls_of true f) e) ∙ a))
    (λ e a. all_more (may_call may place n f) (is_marked_call marks n)
    (λ site. or_more (site.func == n) (may (cond f.implicit place site.at.offset) site.func) (site.func == n) (may_from marks site.at.offset site.func) (λ x. x)
    (λ q. g site.at.offset site.func (sym (ap (λ b. may (cond b place site.at.offset) site.func) e) ∙ q))) (calls_of true f) a)
    q

-- One mark more

pub count_set_marks : (marks : List (Option ℕ)) (i from : ℕ) → i < length marks → mark_at marks i ≡ None
    → count_marks (set marks i (Some from)) ≡ count_marks marks + 1
count_set_marks marks i from l h = omega (
  arith,
  sum_by-set (λ (o : Option ℕ). cond {A = ℕ} (is_some o) 1 0) marks i (Some from) None l,
  zero_if
      (is_some (mark_at marks i)) (ap is_some h),
)

pub sound_set : (v : ℕ → Bool) (funcs : List Func) (marks : List (Option ℕ)) (i from : ℕ) (f : Func) → i < length marks → SoundMarks v funcs marks
    → mark_at marks i ≡ None → slice_get funcs i ≡ Some f
    → mark_of marks i f (is_empty (own_findings v true f)) (calls_of true f) ≡ Some from → SoundMarks v funcs (set marks i (Some from))
sound_set v funcs marks i from f l s o g h = record {
  within = λ n k depth place m c. elim (cases_eq n i) [
    | inl e ↦ deeper depth n place c e ∙ ap (λ z. nat_le z place)
        (let q : get_or (set marks i (Some from)) i None ≡ Some from = get_or-set_same marks i (Some from) None l in
        let r : get_or (set marks i (Some from)) n None ≡ get_or (set marks i (Some from)) i None = ap (λ z. get_or (set marks i (Some from)) z None) e in
        let w : from ≡ k = cc in w)
    | inr e ↦ s.within n k depth place (sym (get_or-set_other marks i n (Some from) None e) ∙ m) (let z = count_set_marks marks i from l o in omega arith)
  ];
}
  where
    deeper : (depth n place : ℕ) → count_marks (set marks i (Some from)) ≤ depth → n ≡ i → safe_within depth v funcs place n ≡ nat_le from place
    deeper zero n place c e = absurd (let z = count_set_marks marks i from l o in omega arith)
    deeper (suc d) n place c e = ap (λ z. safe_within (suc d) v funcs place z) e ∙ ap (passes (is_safe_by v (safe_within d v funcs) place i)) g
        ∙ rule_safe v funcs marks i d place from f s (let z = count_set_marks marks i from l o in omega arith) h

pub new_some : (marks : List (Option ℕ)) (n from : ℕ) (x : Option ℕ) → cond (is_some (mark_at marks n)) None x ≡ Some from → (mark_at marks n ≡ None)
    × (x ≡ Some from)
new_some marks n from x h = here (mark_at marks n) refl h
  where
    here : (o : Option ℕ) → mark_at marks n ≡ o → cond (is_some o) None x ≡ Some from → (mark_at marks n ≡ None) × (x ≡ Some from)
    here None e h = (e, h)
    here (Some k) e h = absurd cc

pub sound_new : (v : ℕ → Bool) (funcs : List Func) (marks : List (Option ℕ)) (i from : ℕ) → i < length marks → SoundMarks v funcs marks
    → new_mark v funcs marks i ≡ Some from
    → (mark_at marks i ≡ None) × SoundMarks v funcs (set marks i (Some from))
sound_new v funcs marks i from l s h = here (slice_get funcs i) refl h
  where
    here : (o : Option Func) → slice_get funcs i ≡ o → option_and_then (new_mark_of v marks i) o ≡ Some from → (mark_at marks i ≡ None)
        × SoundMarks v funcs (set marks i (Some from))
    here None e h = absurd cc
    here (Some f) e h = let q = new_some marks i from (mark_of marks i f (is_empty (own_findings v true f)) (calls_of true f)) h in
        (q.0, sound_set v funcs marks i from f l s q.0 e q.1)

-- A step of a round

pub next_long_marks : (marks new : List (Option ℕ)) (i limit : ℕ) (o : Option ℕ) → length marks ≡ limit → new ≡ with_mark marks i o → length new ≡ limit
next_long_marks marks new i limit (Some from) l e = ap length e ∙ length-set marks i (Some from) ∙ l
next_long_marks marks new i limit None l e = ap length e ∙ l

pub next_sound_marks : (v : ℕ → Bool) (funcs : List Func) (marks new : List (Option ℕ)) (i : ℕ) (o : Option ℕ) → i < length marks → SoundMarks v funcs marks
    → new_mark v funcs marks i ≡ o → new ≡ with_mark marks i o → SoundMarks v funcs new
next_sound_marks v funcs marks new i (Some from) l s h e = subst (SoundMarks v funcs) (sym e) (sound_new v funcs marks i from l s h).1
next_sound_marks v funcs marks new i None l s h e = subst (SoundMarks v funcs) (sym e) s

pub next_kept_marks : (v : ℕ → Bool) (funcs : List Func) (marks new : List (Option ℕ)) (i start : ℕ) (o : Option ℕ) → i < length marks
    → SoundMarks v funcs marks → new_mark v funcs marks i ≡ o → new ≡ with_mark marks i o
    → start ≤ count_marks marks → start ≤ count_marks new
next_kept_marks v funcs marks new i start (Some from) l s h e k = let c = count_set_marks marks i from l (sound_new v funcs marks i from l s h).0 in
    let d : count_marks new ≡ count_marks (set marks i (Some from)) = ap count_marks e in omega arith
next_kept_marks v funcs marks new i start None l s h e k = let d : count_marks new ≡ count_marks marks = ap count_marks e in omega arith

pub next_more_marks : (v : ℕ → Bool) (funcs : List Func) (marks new : List (Option ℕ)) (i start : ℕ) (a : Bool) (o : Option ℕ) → i < length marks
    → SoundMarks v funcs marks → new_mark v funcs marks i ≡ o → new ≡ with_mark marks i o
    → start ≤ count_marks marks → (a ≡ true → start < count_marks marks) → (a || is_some o) ≡ true → start < count_marks new
next_more_marks v funcs marks new i start a (Some from) l s h e k m t = let c = count_set_marks marks i from l (sound_new v funcs marks i from l s h).0 in
    let d : count_marks new ≡ count_marks (set marks i (Some from)) = ap count_marks e in omega arith
next_more_marks v funcs marks new i start true None l s h e k m t = let d : count_marks new ≡ count_marks marks = ap count_marks e in let q = m refl in
    omega arith
next_more_marks v funcs marks new i start false None l s h e k m t = absurd cc

pub next_closed_marks : (v : ℕ → Bool) (funcs : List Func) (marks new : List (Option ℕ)) (i : ℕ) (a : Bool) (o : Option ℕ) → new_mark v funcs marks i ≡ o
    → new ≡ with_mark marks i o
    → (a ≡ false → ClosedMarks v funcs marks i) → (a || is_some o) ≡ false → ClosedMarks v funcs new (i + 1)
next_closed_marks v funcs marks new i true o h e k t = absurd cc
next_closed_marks v funcs marks new i false (Some from) h e k t = absurd cc
next_closed_marks v funcs marks new i false None h e k t = subst (λ z. ClosedMarks v funcs z (i + 1)) (sym e)
    (record { closed = λ n l. elim (cases_eq n i) [ inl q ↦ ap (new_mark v funcs marks) q ∙ h | inr q ↦ (k refl).closed n (omega arith) ] })

-- The first round and the last

pub no_marks : (k n : ℕ) → mark_at (replicate k None) n ≡ None
no_marks zero n = refl
no_marks (suc k) zero = refl
no_marks (suc k) (suc n) = no_marks k n

pub sound_no_marks : (v : ℕ → Bool) (funcs : List Func) (marks : List (Option ℕ)) (k : ℕ) → marks ≡ replicate k None → SoundMarks v funcs marks
sound_no_marks v funcs marks k e = record {
  within = λ n from depth place m c. absurd
      (let z = no_marks k n in let y : mark_at (replicate k None) n ≡ Some from = sym (ap (λ u. mark_at u n) e) ∙ m in cc);
}

pub safe_by_more : (v : ℕ → Bool) (may other : ℕ → ℕ → Bool) → ((place m : ℕ) → may place m ≡ true → other place m ≡ true) → (place n : ℕ) (f : Func)
    → is_safe_by v may place n f ≡ true → is_safe_by v other place n f ≡ true
safe_by_more v may other g place n f h = or_more (is_promised f) (is_passed place f && has_safe_definition v may place n f) (is_promised f)
    (is_passed place f && has_safe_definition v other place n f) (λ x. x)
    (and_more (is_passed place f) (has_safe_definition v may place n f) (is_passed place f) (has_safe_definition v other place n f) (λ x. x)
    (and_more (is_some f.body && is_empty (own_findings v true f)) (list_all (may_call may place n f) (calls_of true f))
    (is_some f.body && is_empty (own_findings v true f)) (list_all (may_call other place n f) (calls_of true f)) (λ x. x)
    (all_more (may_call may place n f) (may_call other place n f)
    (λ site. or_more (site.func == n) (may (judged_at place f site) site.func) (site.func == n) (other (judged_at place f site) site.func) (λ x. x)
    (g (judged_at place f site) site.func)) (calls_of true f))))
    h

pub within_more : (v : ℕ → Bool) (funcs : List Func) (depth place n : ℕ) → safe_within depth v funcs place n ≡ true
    → safe_within (suc depth) v funcs place n ≡ true
within_more v funcs zero place n h = absurd cc
within_more v funcs (suc d) place n h = passes_more (is_safe_by v (safe_within d v funcs) place n) (is_safe_by v (safe_within (suc d) v funcs) place n)
    (safe_by_more v (safe_within d v funcs) (safe_within (suc d) v funcs) (within_more v funcs d) place n) (slice_get funcs n) h

pub deeper_too : (v : ℕ → Bool) (funcs : List Func) (high low place n : ℕ) → low ≤ high → safe_within low v funcs place n ≡ true
    → safe_within high v funcs place n ≡ true
deeper_too v funcs zero low place n l h = subst (λ z. safe_within z v funcs place n ≡ true) (let e : low ≡ 0 = omega arith in e) h
deeper_too v funcs (suc d) low place n l h = elim (cases_lt low (suc d)) [
  | inl q ↦ within_more v funcs d place n (deeper_too v funcs d low place n (omega arith) h)
  | inr q ↦ subst (λ z. safe_within z v funcs place n ≡ true) (let e : low ≡ suc d = omega arith in e) h
]

pub unmarked : (v : ℕ → Bool) (marks : List (Option ℕ)) (place n : ℕ) (may : ℕ → ℕ → Bool)
    → ((place m : ℕ) → may place m ≡ true → may_from marks place m ≡ true) → (o : Option Func) → mark_at marks n ≡ None
    → option_and_then (new_mark_of v marks n) o ≡ None → passes (is_safe_by v may place n) o ≡ true → ⊥
unmarked v marks place n may g None e q p = absurd cc
unmarked v marks place n may g (Some f) e q p = rule_none v marks n place f may g
    (sym (ap (λ z. cond (is_some z) None (mark_of marks n f (is_empty (own_findings v true f)) (calls_of true f))) e) ∙ q) p

pub marked_or : (v : ℕ → Bool) (funcs : List Func) (marks : List (Option ℕ)) (depth place n : ℕ) → SoundMarks v funcs marks
    → safe_within depth v funcs place n ≡ true → (mark_at marks n ≡ None → ⊥) → may_from marks place n ≡ true
marked_or v funcs marks depth place n s h k = here (mark_at marks n) refl
  where
    here : (o : Option ℕ) → mark_at marks n ≡ o → may_from marks place n ≡ true
    here None e = absurd (k e)
    here (Some from) e = ap (passes (λ (z : ℕ). nat_le z place)) e
        ∙ sym (s.within n from (depth + count_marks marks) place e (omega arith)) ∙ deeper_too v funcs (depth + count_marks marks) depth place n (omega arith) h

pub all_marked : (v : ℕ → Bool) (funcs : List Func) (marks : List (Option ℕ)) → SoundMarks v funcs marks → ClosedMarks v funcs marks (length funcs)
    → (depth place n : ℕ) → safe_within depth v funcs place n ≡ true → may_from marks place n ≡ true
all_marked v funcs marks s k zero place n h = absurd cc
all_marked v funcs marks s k (suc d) place n h = marked_or v funcs marks (suc d) place n s h
    (λ e. unmarked v marks place n (safe_within d v funcs) (all_marked v funcs marks s k d) (slice_get funcs n) e
    (k.closed n (passes_within (is_safe_by v (safe_within d v funcs) place n) funcs n h)) h)

pub all_safe : (v : ℕ → Bool) (funcs : List Func) (marks : List (Option ℕ)) (limit : ℕ) → length funcs ≡ limit → length marks ≡ limit → SoundMarks v funcs marks
    → ClosedMarks v funcs marks limit → (place n : ℕ)
    → may_from marks place n ≡ safe v funcs place n
all_safe v funcs marks limit e l s k place n = same_bool (may_from marks place n) (safe v funcs place n)
    (sound_may v funcs marks (length funcs) place n s (let c = count_by-le-length {X = Option ℕ} is_some marks in omega arith))
    (all_marked v funcs marks s (record { closed = λ m h. k.closed m (omega arith) }) (length funcs) place n)
