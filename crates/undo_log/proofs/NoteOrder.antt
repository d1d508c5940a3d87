-- Lists of notes in order of their words, and words that are noted once.
use Rattle.std.proofs.Common.{ℕ, ◌≡◌, ◌==◌, ◌<◌, ◌≤◌, ◌+◌, ◌-◌, suc, zero, Bool, true, false, not, cond, Option, Some, None, option_map, List, [], ◌∷◌, ◌++◌}
use Rattle.std.proofs.Common.{length, take, drop, reverse, map, get_or, refl, ap, sym, subst, ◌∙◌, inl, inr, length-drop, length-append, get_or-drop}
use Rattle.std.proofs.Common.{get_or-take, take-append-drop, take-take, drop-drop, arith}
use Rattle.std.specs.Prelude.{All, IfSome, ◌||◌, sum_by}
use Rattle.std.specs.List.{slice_get}
use Rattle.std.specs.List.Sorted.{IsPermutation, IsNonDecreasingBy}
use Rattle.std.proofs.lemmas.Bool.{cases_Bool, cases_lt, eqb-true, eq-eqb, ne_eqb, or_parts, false≢true, true≢false}
use Rattle.std.proofs.lemmas.List.{get_or-reverse, drop-append-le, take-append-le}
use Rattle.std.proofs.lemmas.List.Sums.{sum_by-cons, sum_by_push, sum_by-append, sum_by-take-drop}
use Rattle.std.proofs.lemmas.List.Sorted.{sum_by-IsPermutation}
use Rattle.std.proofs.lemmas.Option.{slice_get-get_or, same_Some, none-some}
use Rattle.undo_log.specs.declared.notes.Note.{Note}
use Rattle.undo_log.specs.Notes.{first_note, is_noted, others}
use Rattle.undo_log.specs.Order.{times_noted, IsDescending, EndsIn}
use Rattle.undo_log.proofs.PutBack.{first-cons, first_by, first_none}

abbrev is_of : ℕ → Note → ℕ
is_of w n = cond (n.word == w) 1 0

none_times : (ns : List Note) (w : ℕ) → is_noted ns w ≡ false → times_noted ns w ≡ 0
none_times [] w h = refl
none_times (n ∷ ns) w h =
    let both = or_parts (n.word == w) (is_noted ns w) h in
    let here : is_of w n ≡ 0 = ap (λ b. cond b 1 0) both.0 in
    sum_by-cons (is_of w) n ns ∙ omega (arith, here, none_times ns w both.1)

not_noted : (ns : List Note) (w : ℕ) → times_noted ns w ≡ 0 → is_noted ns w ≡ false
not_noted [] w h = refl
not_noted (n ∷ ns) w h = elim (cases_Bool (n.word == w)) [
  | inl e ↦ let here : is_of w n ≡ 1 = ap (λ b. cond b 1 0) e in absurd (omega (arith, here, sum_by-cons (is_of w) n ns, h))
  | inr e ↦ ap (λ b. b || is_noted ns w) e ∙ not_noted ns w
      (let here : is_of w n ≡ 0 = ap (λ b. cond b 1 0) e in omega (arith, here, sum_by-cons (is_of w) n ns, h))
]

-- the rest of a list has no more of them
pub times_drop : (ns : List Note) (k w : ℕ) → times_noted (drop k ns) w ≤ times_noted ns w
times_drop ns k w = omega (arith, sum_by-take-drop (is_of w) ns k)

times_take : (ns : List Note) (k w : ℕ) → times_noted (take k ns) w ≤ times_noted ns w
times_take ns k w = omega (arith, sum_by-take-drop (is_of w) ns k)

pub times_later : (ns : List Note) (d s w : ℕ) → d ≤ s → times_noted (drop s ns) w ≤ times_noted (drop d ns) w
times_later ns d s w h =
    let there : drop (s - d) (drop d ns) ≡ drop s ns = drop-drop (s - d) d ns ∙ ap (λ n. drop n ns) (omega (arith, h)) in
    subst (λ z. times_noted z w ≤ times_noted (drop d ns) w) there (times_drop (drop d ns) (s - d) w)

take_none : (n : ℕ) → ◌≡◌ {A = List Note} [] (take n [])
take_none zero = refl
take_none (suc n) = refl

drop_take : (ns : List Note) (d k : ℕ) → drop d (take k ns) ≡ take (k - d) (drop d ns)
drop_take ns zero k = ap (λ m. take m ns) (omega arith)
drop_take [] (suc d) zero = take_none (0 - suc d)
drop_take [] (suc d) (suc k) = take_none (suc k - suc d)
drop_take (n ∷ ns) (suc d) zero = let e : 0 ≡ 0 - suc d = omega arith in ap (λ m. take m (drop d ns)) e
drop_take (n ∷ ns) (suc d) (suc k) = drop_take ns d k ∙ ap (λ m. take m (drop d ns)) (omega arith)

pub once_cut : (ns : List Note) (d k : ℕ) → ((w : ℕ) → times_noted (drop d ns) w ≤ 1) → (w : ℕ) → times_noted (drop d (take k ns)) w ≤ 1
once_cut ns d k once w = subst (λ z. times_noted z w ≤ 1) (sym (drop_take ns d k)) (omega (arith, times_take (drop d ns) (k - d) w, once w))

drop_none : (k : ℕ) → ◌≡◌ {A = List Note} (drop k []) []
drop_none zero = refl
drop_none (suc k) = refl

times_push : (ns : List Note) (n : Note) (k w : ℕ) → times_noted (drop k (ns ++ n ∷ [])) w ≤ times_noted (drop k ns) w + is_of w n
times_push ns n zero w = omega (arith, sum_by_push (is_of w) ns n)
times_push [] n (suc k) w = subst (λ z. times_noted z w ≤ times_noted [] w + is_of w n) (sym (drop_none k)) (omega arith)
times_push (x ∷ xs) n (suc k) w = times_push xs n k w

pub once_new : (ns : List Note) (n : Note) (d : ℕ) → ((w : ℕ) → times_noted (drop d ns) w ≤ 1) → is_noted (drop d ns) n.word ≡ false → (w : ℕ)
    → times_noted (drop d (ns ++ n ∷ [])) w ≤ 1
once_new ns n d once none w = elim (cases_Bool (n.word == w)) [
  | inl e ↦
      let here : is_of w n ≡ 1 = ap (λ b. cond b 1 0) e in
      let before : times_noted (drop d ns) w ≡ 0 = ap (times_noted (drop d ns)) (sym (eqb-true n.word w e)) ∙ none_times (drop d ns) n.word none in
      omega (arith, times_push ns n d w, here, before)
  | inr e ↦
      let here : is_of w n ≡ 0 = ap (λ b. cond b 1 0) e in
      omega (arith, times_push ns n d w, here, once w)
]

-- a word that is noted since d, and not since s, stands before s
pub once_again : (ns : List Note) (n : Note) (d s : ℕ) → ((w : ℕ) → times_noted (drop d ns) w ≤ 1) → is_noted (drop d ns) n.word ≡ true
    → is_noted (drop s ns) n.word ≡ false → (w : ℕ) → times_noted (drop s (ns ++ n ∷ [])) w ≤ 1
once_again ns n d s once there none w = elim (cases_lt s d) [
  | inl l ↦
      let nothing : times_noted (drop d ns) n.word ≡ 0 = omega (arith, times_later ns s d n.word (omega (arith, l)), none_times (drop s ns) n.word none) in
      absurd (true≢false (sym there ∙ not_noted (drop d ns) n.word nothing))
  | inr g ↦ once_new ns n s (λ v. omega (arith, times_later ns d s v g, once v)) none w
]

drop_end : (ns : List Note) (n : Note) (k : ℕ) → length ns < k → drop k (ns ++ n ∷ []) ≡ []
drop_end [] n zero h = absurd (omega (arith, h))
drop_end [] n (suc k) h = drop_none k
drop_end (x ∷ xs) n zero h = absurd (omega (arith, h))
drop_end (x ∷ xs) n (suc k) h = drop_end xs n k (omega (arith, h))

pub nothing_descends : (ns : List Note) → ns ≡ [] → IsDescending ns
nothing_descends ns e i j d le l = absurd (omega (arith, l, ap length e))

pub descends_past : (ns : List Note) (n : Note) (k : ℕ) → k ≡ length ns + 1 → IsDescending (drop k (ns ++ n ∷ []))
descends_past ns n k e = nothing_descends (drop k (ns ++ n ∷ [])) (drop_end ns n k (omega (arith, e)))

pub descends_later : (ns : List Note) (s k : ℕ) → s ≤ k → IsDescending (drop s ns) → IsDescending (drop k ns)
descends_later ns s k h down i j d le l =
    let at : (m : ℕ) → get_or (drop k ns) m d ≡ get_or (drop s ns) (k - s + m) d = λ m. get_or-drop k ns m d
    ∙ (ap (λ z. get_or ns z d) (omega (arith, h)) ∙ sym (get_or-drop s ns (k - s + m) d)) in
    let step = down (k - s + i) (k - s + j) d (omega (arith, le)) (omega (arith, l, h, length-drop k ns, length-drop s ns)) in
    omega (arith, step, ap (λ (n : Note). n.word) (at i), ap (λ (n : Note). n.word) (at j))

shorter : (ns : List Note) (k : ℕ) → length (take k ns) ≤ k
shorter ns zero = omega arith
shorter [] (suc k) = omega arith
shorter (n ∷ ns) (suc k) = omega (arith, shorter ns k)

no_longer : (ns : List Note) (k : ℕ) → length (take k ns) ≤ length ns
no_longer ns zero = omega arith
no_longer [] (suc k) = omega arith
no_longer (n ∷ ns) (suc k) = omega (arith, no_longer ns k)

pub descends_cut : (ns : List Note) (s k : ℕ) → IsDescending (drop s ns) → IsDescending (drop s (take k ns))
descends_cut ns s k down = subst IsDescending (sym (drop_take ns s k)) (λ i j d le l.
    let m = k - s in
    let rest = drop s ns in
    let short : j < m = omega (arith, l, shorter rest m) in
    let long : j < length rest = omega (arith, l, no_longer rest m) in
    omega (
      arith,
      down i j d le long,
      ap (λ (n : Note). n.word) (get_or-take m rest i d (omega (arith, le, short))),
      ap (λ (n : Note). n.word)
          (get_or-take m rest j d short),
    ))

-- the words rise, and turned round they fall
pub turned_round : (xs ys : List Note) → IsNonDecreasingBy (λ n. n.word) xs → ys ≡ reverse xs → length ys ≡ length xs → IsDescending ys
turned_round xs ys up e same i j d le l =
    let at : (m : ℕ) → m < length xs → get_or ys m d ≡ get_or xs (length xs - 1 - m) d = λ m h. ap (λ z. get_or z m d) e ∙ get_or-reverse xs m d h in
    let last : j < length xs = omega (arith, l, same) in
    let step = up (length xs - 1 - j) (length xs - 1 - i) d (omega (arith, le)) (omega (arith, last)) in
    omega (arith, step, ap (λ (n : Note). n.word) (at i (omega (arith, le, last))), ap (λ (n : Note). n.word) (at j last))

-- the last note of a list in order is of the least word

read_last : (ns : List Note) (last : Note) → slice_get ns (length ns - 1) ≡ Some last → (d : Note) → 0 < length ns → get_or ns (length ns - 1) d ≡ last
read_last ns last h d some = same_Some (get_or ns (length ns - 1) d) last (sym (slice_get-get_or ns (length ns - 1) d (omega (arith, some))) ∙ h)

some_there : (ns : List Note) (i : ℕ) (last : Note) → slice_get ns i ≡ Some last → i < length ns
some_there [] i last h = absurd (none-some last (h))
some_there (n ∷ ns) zero last h = omega arith
some_there (n ∷ ns) (suc i) last h = omega (arith, some_there ns i last h)

pub last_least : (ns : List Note) (last : Note) → IsDescending ns → slice_get ns (length ns - 1) ≡ Some last → All (λ n. last.word ≤ n.word) ns
last_least ns last down h i d l =
    let some : 0 < length ns = omega (arith, l) in
    omega (arith, down i (length ns - 1) d (omega (arith, l)) (omega (arith, some)), ap (λ (n : Note). n.word) (read_last ns last h d some))

split_end : (ns : List Note) (k : ℕ) (last : Note) → length ns ≡ suc k → slice_get ns k ≡ Some last → ns ≡ take k ns ++ last ∷ []
split_end [] k last l h = absurd (omega (arith, l))
split_end (n ∷ []) zero last l h = ap (λ z. z ∷ []) (same_Some n last h)
split_end (n ∷ m ∷ ns) zero last l h = absurd (omega (arith, l))
split_end (n ∷ ns) (suc k) last l h = ap (λ z. n ∷ z) (split_end ns k last (omega (arith, l)) h)

split_last : (ns : List Note) (last : Note) → slice_get ns (length ns - 1) ≡ Some last → ns ≡ take (length ns - 1) ns ++ last ∷ []
split_last [] last h = absurd (none-some last h)
split_last (n ∷ ns) last h =
    let e : suc (length ns) - 1 ≡ length ns = omega arith in
    split_end (n ∷ ns) (length ns) last refl (ap (slice_get (n ∷ ns)) (sym e) ∙ h) ∙ ap (λ k. take k (n ∷ ns) ++ last ∷ []) (sym e)

noted_push : (ns : List Note) (n : Note) (w : ℕ) → n.word ≡ w → is_noted (ns ++ n ∷ []) w ≡ true
noted_push [] n w e = ap (λ b. b || false) (eq-eqb n.word w e)
noted_push (x ∷ xs) n w e = ap (λ b. (x.word == w) || b) (noted_push xs n w e) ∙ or_true (x.word == w)
  where
    or_true : (b : Bool) → (b || true) ≡ true
    or_true true = refl
    or_true false = refl

pub last_noted : (ns : List Note) (last : Note) (w : ℕ) → slice_get ns (length ns - 1) ≡ Some last → last.word ≡ w → is_noted ns w ≡ true
last_noted ns last w h e = ap (λ z. is_noted z w) (split_last ns last h) ∙ noted_push (take (length ns - 1) ns) last w e

pub noted_by : (ns : List Note) (o : Option Note) (r : Option ℕ) → slice_get ns (length ns - 1) ≡ o → r ≡ option_map (λ n. n.word) o
    → IfSome r (λ w. is_noted ns w ≡ true)
noted_by ns None None h e = tt
noted_by ns None (Some w) h e = absurd (none-some w (sym e))
noted_by ns (Some last) None h e = absurd (none-some last.word e)
noted_by ns (Some last) (Some w) h e = last_noted ns last w h (sym (same_Some w last.word e))

pub least_by : (ns : List Note) (o : Option Note) (r : Option ℕ) → IsDescending ns → slice_get ns (length ns - 1) ≡ o → r ≡ option_map (λ n. n.word) o
    → IfSome r (λ w. All (λ n. w ≤ n.word) ns)
least_by ns None None down h e = tt
least_by ns None (Some w) down h e = absurd (none-some w (sym e))
least_by ns (Some last) None down h e = absurd (none-some last.word e)
least_by ns (Some last) (Some w) down h e = subst (λ v. All (λ n. v ≤ n.word) ns) (sym (same_Some w last.word e)) (last_least ns last down h)

-- where each note is of a greater word, this one is not noted
pub all_above : (ns : List Note) (w v : ℕ) → All (λ n. w ≤ n.word) ns → v < w → is_noted ns v ≡ false
all_above [] w v a l = refl
all_above (n ∷ ns) w v a l =
    let other : (n.word == v) ≡ false = ne_eqb n.word v (λ e. let least : w ≤ n.word = a 0 n (omega arith) in absurd (omega (arith, e, l, least))) in
    ap (λ b. b || is_noted ns v) other ∙ all_above ns w v (λ k d h. a (suc k) d (omega (arith, h))) l

-- the last note alone is of the word

others_none : (ns : List Note) (w : ℕ) → is_noted ns w ≡ false → others w ns ≡ ns
others_none [] w h = refl
others_none (n ∷ ns) w h =
    let both = or_parts (n.word == w) (is_noted ns w) h in
    ap (λ b. cond (not b) (n ∷ others w ns) (others w ns)) both.0 ∙ ap (λ z. n ∷ z) (others_none ns w both.1)

first_push : (ns : List Note) (n : Note) (w : ℕ) → is_noted ns w ≡ false → n.word ≡ w → first_note (ns ++ n ∷ []) w ≡ Some n.old
first_push [] n w h e = first-cons n [] w ∙ ap (λ b. first_by b n (first_note [] w)) (eq-eqb n.word w e)
first_push (x ∷ xs) n w h e =
    let both = or_parts (x.word == w) (is_noted xs w) h in
    first-cons x (xs ++ n ∷ []) w ∙ (ap (λ b. first_by b x (first_note (xs ++ n ∷ []) w)) both.0 ∙ first_push xs n w both.1 e)

others_push : (ns : List Note) (n : Note) (w : ℕ) → is_noted ns w ≡ false → n.word ≡ w → others w (ns ++ n ∷ []) ≡ ns
others_push [] n w h e = ap (λ b. cond (not b) (n ∷ []) []) (eq-eqb n.word w e)
others_push (x ∷ xs) n w h e =
    let both = or_parts (x.word == w) (is_noted xs w) h in
    ap (λ b. cond (not b) (x ∷ others w (xs ++ n ∷ [])) (others w (xs ++ n ∷ []))) both.0 ∙ ap (λ z. x ∷ z) (others_push xs n w both.1 e)

pub ends : (start word : ℕ) (ns : List Note) (last : Note) → start < length ns → slice_get ns (length ns - 1) ≡ Some last → last.word ≡ word
    → ((w : ℕ) → times_noted (drop start ns) w ≤ 1) → EndsIn start word ns
ends start word ns last some h e once =
    let rest = take (length ns - 1) ns in
    let split : ns ≡ rest ++ last ∷ [] = split_last ns last h in
    let long : length rest + 1 ≡ length ns = omega (arith, ap length split, length-append rest (last ∷ [])) in
    let newer : drop start ns ≡ drop start rest ++ last ∷ [] = ap (drop start) split ∙ drop-append-le start rest (last ∷ []) (omega (arith, some, long)) in
    let here : is_of word last ≡ 1 = ap (λ b. cond b 1 0) (eq-eqb last.word word e) in
    let none : is_noted (drop start rest) word ≡ false =
    not_noted (drop start rest) word (omega (
      arith,
      once word,
      ap (λ z. times_noted z word) newer,
      sum_by_push (is_of word) (drop start rest) last,
      here,
    )) in
    record {
      some = some;
      before = none;
      rest = ap (λ z. take start ns ++ z) (ap (others word) newer ∙ others_push (drop start rest) last word none e)
          ∙ (ap (λ z. z ++ drop start rest) (ap (take start) split ∙ take-append-le start rest (last ∷ []) (omega (arith, some, long)))
          ∙ take-append-drop start rest);
      first = λ d. ap (λ z. first_note z word) newer ∙
          (first_push (drop start rest) last word none e ∙ ap (λ (n : Note). Some n.old) (sym (read_last ns last h d (omega (arith, some)))));
    }

-- a list that does not note the word keeps its length without it

none_in_front : (ns : List Note) (w m : ℕ) → is_noted ns w ≡ false → is_noted (take m ns) w ≡ false
none_in_front ns w zero h = refl
none_in_front [] w (suc m) h = refl
none_in_front (n ∷ ns) w (suc m) h =
    let both = or_parts (n.word == w) (is_noted ns w) h in
    ap (λ b. b || is_noted (take m ns) w) both.0 ∙ none_in_front ns w m both.1

take_long : (ns : List Note) (m : ℕ) → m ≤ length ns → length (take m ns) ≡ m
take_long ns zero h = refl
take_long [] (suc m) h = absurd (omega (arith, h))
take_long (n ∷ ns) (suc m) h = ap suc (take_long ns m (omega (arith, h)))

pub unnoted_stays : (ns : List Note) (w : ℕ) → is_noted ns w ≡ false → others w ns ≡ ns
unnoted_stays = others_none

pub unnoted_long : (w : ℕ) (ns : List Note) (m : ℕ) → is_noted ns w ≡ false → m ≤ length ns → length (others w (take m ns)) ≡ m
unnoted_long w ns m h l = ap length (others_none (take m ns) w (none_in_front ns w m h)) ∙ take_long ns m l

pub ended_long : (w : ℕ) (ns : List Note) (m : ℕ) → EndsIn 0 w ns → m < length ns → length (others w (take m ns)) ≡ m
ended_long w ns m h l =
    let k = length ns - 1 in
    ap (λ z. length (others w z)) (sym (take-take m k ns (omega (arith, l))))
    ∙ unnoted_long w (take k ns) m h.before (omega (arith, l, take_long ns k (omega arith)))

map_same : (f : ℕ → ℕ) (xs : List ℕ) → ((i : ℕ) → i < length xs → f (get_or xs i 0) ≡ get_or xs i 0) → map f xs ≡ xs
map_same f [] h = refl
map_same f (x ∷ xs) h = ap (λ z. z ∷ map f xs) (h 0 (omega arith)) ∙ ap (λ z. x ∷ z) (map_same f xs (λ i l. h (suc i) (omega (arith, l))))

pub marks_unnoted : (w : ℕ) (ns : List Note) (marks : List ℕ) → is_noted ns w ≡ false → ((i : ℕ) → i < length marks → get_or marks i 0 ≤ length ns)
    → marks ≡ map (λ m. length (others w (take m ns))) marks
marks_unnoted w ns marks h within = sym (map_same (λ m. length (others w (take m ns))) marks (λ i l. unnoted_long w ns (get_or marks i 0) h (within i l)))

pub marks_ended : (w : ℕ) (ns : List Note) (marks : List ℕ) → EndsIn 0 w ns → ((i j : ℕ) → i ≤ j → j < length marks → get_or marks i 0 ≤ get_or marks j 0)
    → get_or marks (length marks - 1) 0 < length ns → marks ≡ map (λ m. length (others w (take m ns))) marks
marks_ended w ns marks h up last = sym (map_same (λ m. length (others w (take m ns))) marks
    (λ i l. ended_long w ns (get_or marks i 0) h (omega (arith, last, up i (length marks - 1) (omega (arith, l)) (omega (arith, l))))))

pub others_fewer : (w : ℕ) (ns : List Note) → length (others w ns) ≤ length ns
others_fewer w [] = omega arith
others_fewer w (n ∷ ns) = elim (not (n.word == w)) as (λ b. length (cond b (n ∷ others w ns) (others w ns)) ≤ suc (length ns)) [
  | true ↦ omega
      (arith, others_fewer w ns)
  | false ↦ omega (arith, others_fewer w ns)
]

-- the first note of each word, where none is noted twice

abbrev weight : ℕ → Note → ℕ
weight w n = cond (n.word == w) (n.old + 1) 0

abbrev one_more : Option ℕ → ℕ
one_more None = 0
one_more (Some v) = v + 1

none_weighs : (ns : List Note) (w : ℕ) → is_noted ns w ≡ false → sum_by (weight w) ns ≡ 0
none_weighs [] w h = refl
none_weighs (n ∷ ns) w h =
    let both = or_parts (n.word == w) (is_noted ns w) h in
    let here : weight w n ≡ 0 = ap (λ b. cond b (n.old + 1) 0) both.0 in
    sum_by-cons (weight w) n ns ∙ omega (arith, here, none_weighs ns w both.1)

weighs : (ns : List Note) (w : ℕ) → times_noted ns w ≤ 1 → sum_by (weight w) ns ≡ one_more (first_note ns w)
weighs [] w h = refl
weighs (n ∷ ns) w h = elim (cases_Bool (n.word == w)) [
  | inl e ↦
      let here : weight w n ≡ n.old + 1 = ap (λ b. cond b (n.old + 1) 0) e in
      let one : is_of w n ≡ 1 = ap (λ b. cond b 1 0) e in
      let rest = none_weighs ns w (not_noted ns w (omega (arith, h, sum_by-cons (is_of w) n ns, one))) in
      sum_by-cons (weight w) n ns ∙ (omega (arith, here, rest) ∙ sym (ap one_more (first-cons n ns w ∙ ap (λ b. first_by b n (first_note ns w)) e)))
  | inr e ↦
      let here : weight w n ≡ 0 = ap (λ b. cond b (n.old + 1) 0) e in
      let none : is_of w n ≡ 0 = ap (λ b. cond b 1 0) e in
      let rest = weighs ns w (omega (arith, h, sum_by-cons (is_of w) n ns, none)) in
      sum_by-cons (weight w) n ns ∙ (omega (arith, here) ∙ (rest ∙ sym (ap one_more (first-cons n ns w ∙ ap (λ b. first_by b n (first_note ns w)) e))))
]

same_first : (o q : Option ℕ) → one_more o ≡ one_more q → o ≡ q
same_first None None h = refl
same_first None (Some v) h = absurd (omega (arith, h))
same_first (Some v) None h = absurd (omega (arith, h))
same_first (Some v) (Some u) h = ap Some (omega (arith, h))

pub times_moved : (xs ys : List Note) (w : ℕ) → IsPermutation xs ys → times_noted ys w ≡ times_noted xs w
times_moved xs ys w h = sum_by-IsPermutation (is_of w) xs ys h

pub first_moved : (xs ys : List Note) → IsPermutation xs ys → ((w : ℕ) → times_noted xs w ≤ 1) → (w : ℕ) → first_note ys w ≡ first_note xs w
first_moved xs ys h once w = same_first (first_note ys w) (first_note xs w)
    (sym (weighs ys w (omega (arith, times_moved xs ys w h, once w))) ∙ (sum_by-IsPermutation (weight w) xs ys h ∙ weighs xs w (once w)))
