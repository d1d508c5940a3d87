-- Each instruction of a sound image keeps a thread's state in shape.
use Rattle.std.proofs.Common.{Bool, true, false, ◌≡◌, ◌<◌, ℕ, zero, suc, ◌+◌, ◌*◌, ◌^◌, ℤ, pos, negsuc, List, [], ◌∷◌, ◌++◌, length, Option, Some, None, refl}
use Rattle.std.proofs.Common.{sym, ap, ◌∙◌, subst, arith}
use Rattle.std.specs.Prelude.{slice_get, nat_lt, nat_le, nat_eq, not, ◌&&◌, ◌||◌, is_some, if◌then◌else◌, unsigned_abs}
use Rattle.std.specs.Int.{int_rem_euclid}
use Rattle.std.specs.Option.{option_map_or, option_and_then}
use Rattle.std.specs.Str.{bytes_eq}
use Rattle.std.proofs.lemmas.Bool.{true≢false, ltb-true, eqb-true}
use Rattle.std.proofs.lemmas.Bool.Decides.{Decides-ltb}
use Rattle.std.proofs.lemmas.Nat.{mod_below}
use Rattle.std.proofs.lemmas.Option.{same_Some}
use Rattle.std.specs.Cmp.Lexicographic.{same_text}
use Rattle.tx_ints.specs.declared.kinds.IntKind.{IntKind}
use Rattle.tx_ints.specs.declared.kinds.IntKind.TheVariants.{Bool as BoolKind, Char, SChar, UChar, Short, UShort, Int, UInt, Long, ULong, LLong, ULLong}
use Rattle.tx_ints.specs.Integers.{apply_of, negate_of}
use Rattle.tx_ints.specs.Words.{word_of, value_of_word}
use Rattle.tx_events.specs.declared.Trap.TheVariants.{StackOverflow, UnsafeCall, BadCall, BadVirtual}
use Rattle.tx_events.specs.declared.End.TheVariants.{Exit}
use Rattle.tx_events.specs.declared.Event.{Event}
use Rattle.tx_events.specs.declared.Event.TheVariants.{Inp as InpOf, Spawn as SpawnOf, Done, Stop}
use Rattle.tx_events.specs.Thread.{Open, Atomic, Sync, no_atomic, is_empty, is_size}
use Rattle.tx_code.specs.declared.instr.Instr.{Instr}
use Rattle.tx_code.specs.declared.instr.Instr.TheVariants.{Push, Dup, Pop, Swap, FrameAddr, GlobalAddr, FuncAddr, ClassAddr, Load, Store, TLoad, TStore, VLoad}
use Rattle.tx_code.specs.declared.instr.Instr.TheVariants.{VStore, Bin, Neg, Conv, Jump, JumpZero, Call, TCall, CallIndirect, TCallIndirect, Slot, Ret, Begin}
use Rattle.tx_code.specs.declared.instr.Instr.TheVariants.{End, BeginSync, EndSync, Out, Inp, Spawn, Join, Abort, NewException, PutException, Throw, Rethrow}
use Rattle.tx_code.specs.declared.instr.Instr.TheVariants.{GetException, EndHandler, Resume, Over}
use Rattle.tx_code.specs.Objects.{BodyView}
use Rattle.tx_code.specs.Images.{ImageFuncView, ImageView}
use Rattle.tx_code.specs.Signatures.{Parts, ending, function_ending, function_parts, without_safety, words_taken, words_returned, returns_void, returns_class}
use Rattle.tx_code.specs.Signatures.{takes_of, gives_of}
use Rattle.tx_code.specs.Meaning.{Names, Held, Free, Building, Flying, Exception, Frame, Act, Ends, Lost, goes, traps, one, if_some, with_kind, kinds}
use Rattle.tx_code.specs.Meaning.{operators, block_kinds, size_of, bits_of, right_kind, at, on_with, holding, opening, closing, handled, rest_caught}
use Rattle.tx_code.specs.Meaning.{first_frame, blocks_in, in_transaction, load_act, store_act, next_home, fits, entered_act, call_act, checked_act}
use Rattle.tx_code.specs.Meaning.{call_indirect_act, finish, status_of, back_act, ret_act, new_exception, built, flown, in_handler, first_or, current}
use Rattle.tx_code.specs.Meaning.{unwinding, act, Runs}
use Rattle.tx_code.specs.Program.{body_in, names_of, if_typed, func_at, number_at, spawn_type}
use Rattle.tx_code.specs.Shapes.{Empty, Builds, Shape, shape, Table, less, more, moves, grown, with_depth, opened, closed, fewer, is_free, at_rest, returned}
use Rattle.tx_code.specs.Shapes.{outgoing, targets, Among, here, there, Reaches, enters, falls}
use Rattle.tx_code.specs.Sound.{table_of, is_inside, left_at, Sound, is_kind, is_promoted, lies_in_exception, is_building, is_flying, inside_right}
use Rattle.tx_code.specs.Sound.{outside_right}
use Rattle.tx_code.specs.InShape.{hand_of, shape_of, ReachesAt, Ready, Suspended, Below}
use Rattle.tx_code.proofs.ReachedIndexes.{and_left, and_right, get_at}
use Rattle.tx_code.proofs.SaneSteps.{atomic_front, sync_front, rest_atomic, rest_sync, none_open, less_one_more, there_less, kept_is, Startable, Sane, quiet}
use Rattle.tx_code.proofs.SaneSteps.{event, trapped, some_sane, there_sane, result_sane, if_sane, no_start, spot_sound, gives_is, outside_all, inside_all}
use Rattle.tx_code.proofs.SaneSteps.{effect, on_to, unwinds, known, named, passed, excepts, closes, finds, well_inside, one_sane, two_sane, operands}
use Rattle.tx_code.proofs.SaneSteps.{moved_sane}

-- ---- sizes and values of accesses

size_fits : (k : IntKind) → is_size (size_of k) ≡ true
size_fits BoolKind = refl
size_fits Char = refl
size_fits SChar = refl
size_fits UChar = refl
size_fits Short = refl
size_fits UShort = refl
size_fits Int = refl
size_fits UInt = refl
size_fits Long = refl
size_fits ULong = refl
size_fits LLong = refl
size_fits ULLong = refl

rem_small : (m : ℕ) → 0 < m → (v : ℤ) → unsigned_abs (int_rem_euclid v (pos m)) < m
rem_small m h (pos a) = mod_below a m h
rem_small m h (negsuc a) = omega arith

below : (a b : ℕ) → a < b → nat_lt a b ≡ true
below a b h = (Decides-ltb a b).1 h

bits_fit : (k : IntKind) (v : ℤ) → nat_lt (bits_of k v) (2 ^ (8 * size_of k)) ≡ true
bits_fit BoolKind v = below _ 256 (rem_small 256 (omega arith) v)
bits_fit Char v = below _ 256 (rem_small 256 (omega arith) v)
bits_fit SChar v = below _ 256 (rem_small 256 (omega arith) v)
bits_fit UChar v = below _ 256 (rem_small 256 (omega arith) v)
bits_fit Short v = below _ 65536 (rem_small 65536 (omega arith) v)
bits_fit UShort v = below _ 65536 (rem_small 65536 (omega arith) v)
bits_fit Int v = below _ 4294967296 (rem_small 4294967296 (omega arith) v)
bits_fit UInt v = below _ 4294967296 (rem_small 4294967296 (omega arith) v)
bits_fit Long v = below _ 18446744073709551616 (rem_small 18446744073709551616 (omega arith) v)
bits_fit ULong v = below _ 18446744073709551616 (rem_small 18446744073709551616 (omega arith) v)
bits_fit LLong v = below _ 18446744073709551616 (rem_small 18446744073709551616 (omega arith) v)
bits_fit ULLong v = below _ 18446744073709551616 (rem_small 18446744073709551616 (omega arith) v)

plus_zero : (n : ℕ) → n + 0 ≡ n
plus_zero n = omega arith

both : {b c : Bool} → b ≡ true → c ≡ true → (b && c) ≡ true
both {b} {c} h g = ap (λ z. z && c) h ∙ g

either_way : (b : Bool) (c : Bool) → c ≡ true → (not b || c) ≡ true
either_way true c h = h
either_way false c h = refl

takes_alike : (a b : List ℕ) → without_safety a ≡ without_safety b → takes_of a ≡ takes_of b
unfolding takes_of
takes_alike a b e = ap (λ z. option_map_or words_taken (function_ending (ending z)) 0) e

gives_alike : (a b : List ℕ) → without_safety a ≡ without_safety b → gives_of a ≡ gives_of b
unfolding gives_of
gives_alike a b e = ap (λ z. option_map_or words_returned (function_ending (ending z)) 0) e

pub called_by : (funcs : List ImageFuncView) (spelling : List ℕ) (n func : ℕ) (o : Option ImageFuncView) → slice_get funcs n ≡ o
    → option_and_then (λ (f : ImageFuncView). if_typed f spelling n) o ≡ Some func → (g : ImageFuncView) × (slice_get funcs func ≡ Some g)
    × (without_safety g.ty ≡ without_safety spelling)
called_by funcs spelling n func None e h = absurd (cc)
called_by funcs spelling n func (Some g) e h = by_test (bytes_eq (without_safety g.ty) (without_safety spelling)) refl h where
  by_test : (b : Bool) → bytes_eq (without_safety g.ty) (without_safety spelling) ≡ b → (if b then Some n else None) ≡ Some func → (g : ImageFuncView)
      × (slice_get funcs func ≡ Some g) × (without_safety g.ty ≡ without_safety spelling)
  by_test true same h = (
    g,
    subst (λ z. slice_get funcs z ≡ Some g) (same_Some n func h) e,
    same_text (without_safety g.ty) (without_safety spelling)
        (sym same),
  )
  by_test false same h = absurd (cc)

func_at_by : (funcs : List ImageFuncView) (spelling : List ℕ) (o : Option ℕ) (func : ℕ)
    → option_and_then (λ n. option_and_then (λ (f : ImageFuncView). if_typed f spelling n) (slice_get funcs n)) o ≡ Some func → (g : ImageFuncView)
    × (slice_get funcs func ≡ Some g) × (without_safety g.ty ≡ without_safety spelling)
func_at_by funcs spelling None func h = absurd (cc)
func_at_by funcs spelling (Some n) func h = called_by funcs spelling n func (slice_get funcs n) refl h

-- a function at an address is one of the type
func_at_is : (funcs : List ImageFuncView) (spelling : List ℕ) (a func : ℕ) → func_at funcs spelling a ≡ Some func → (g : ImageFuncView)
    × (slice_get funcs func ≡ Some g) × (without_safety g.ty ≡ without_safety spelling)
func_at_is funcs spelling a func h = func_at_by funcs spelling (number_at (2 ^ 40) a) func h

called_is : (funcs : List ImageFuncView) (types : List (List ℕ)) (ty a func : ℕ)
    → option_and_then (λ spelling. func_at funcs spelling a) (slice_get types ty) ≡ Some func → (g : ImageFuncView) × (slice_get funcs func ≡ Some g)
    × (option_map_or takes_of (slice_get types ty) 0 ≡ takes_of g.ty) × (option_map_or gives_of (slice_get types ty) 0 ≡ gives_of g.ty)
called_is funcs types ty a func h = by_type (slice_get types ty) h where
  by_type : (o : Option (List ℕ)) → option_and_then (λ spelling. func_at funcs spelling a) o ≡ Some func → (g : ImageFuncView) × (slice_get funcs func ≡ Some g)
      × (option_map_or takes_of o 0 ≡ takes_of g.ty) × (option_map_or gives_of o 0 ≡ gives_of g.ty)
  by_type None h = absurd (cc)
  by_type (Some spelling) h = let g = func_at_is funcs spelling a func h in
      (g.0, g.1, takes_alike spelling g.0.ty (sym g.2), gives_alike spelling g.0.ty (sym g.2))

gives_small : (ty : List ℕ) (n : ℕ) → gives_of ty ≡ suc (suc n) → ⊥
unfolding gives_of
gives_small ty n h = by_parts (function_parts ty) h where
  by_bool : (b : Bool) → (if b then 0 else 1) ≡ suc (suc n) → ⊥
  by_bool true h = omega arith
  by_bool false h = omega arith

  by_parts : (o : Option Parts) → option_map_or words_returned o 0 ≡ suc (suc n) → ⊥
  by_parts None h = omega arith
  by_parts (Some p) h = by_bool (returns_void p || returns_class p) h

takes_spawn : takes_of spawn_type ≡ 1
unfolding takes_of
takes_spawn = refl

module _ (i : ImageView) (sound : Sound i) where
  abbrev x : Names
  x = names_of i

  abbrev t : Table
  t = table_of i

  abbrev Right : List Open → Act → Type 0
  Right bs a = Sane i sound bs a

  kind_sane : (bs : List Open) (n : ℕ) (p : IntKind → Act) → is_kind n ≡ true → ((k : IntKind) → slice_get kinds n ≡ Some k → Right bs (p k))
      → Right bs (with_kind n p)
  kind_sane bs n p h each = let g = get_at kinds n (ltb-true n 12 h) in there_sane i sound bs (slice_get kinds n) Lost p g.0 g.1 (each g.0 g.1)

  module _ (f : Frame) (rest : List Frame) (ready : Ready i f) (below_it : Below i (t.gives f.home.func) f.home.safe rest) where
    abbrev bs : List Open
    bs = blocks_in (f ∷ rest)

    abbrev code : List Instr
    code = ready.spot.body.code

    abbrev own : ℕ
    own = gives_of ready.spot.func.ty

    abbrev At : Instr → Type 0
    At a = slice_get code f.index ≡ Some a

    abbrev Leaves : Instr → Shape → Type 0
    Leaves a u = outgoing t own a (shape_of f) ≡ Some u

    -- on at the next index, with these operands
    goes_next : (a : Instr) → At a → Among (f.index + 1) (targets a f.index) → (ws : List ℕ) → Leaves a (shape_of (on_with f ws))
        → Right bs (goes (Runs (on_with f ws) rest))
    goes_next a is m ws e = quiet i sound bs _ (on_to i sound f rest ready below_it a is f.nest (f.index + 1) ws m e) refl

    -- it is outside of transactions where the instruction may not be inside
    pub outside_now : (a : Instr) → At a → inside_right t a ≡ false → is_inside f.home.safe f.nest.opens ≡ false
    outside_now a is e = by_test (is_inside f.home.safe f.nest.opens) refl where
      by_test : (b : Bool) → is_inside f.home.safe f.nest.opens ≡ b → b ≡ false
      by_test true h = absurd (true≢false (sym ((spot_sound i sound f.home ready.spot).inside f.index (shape_of f) a ready.reached is h) ∙ e))
      by_test false h = refl

    pub no_block : (a : Instr) → At a → inside_right t a ≡ false → no_atomic bs ≡ true
    no_block a is e = outside_all i sound f rest below_it (outside_now a is e)

    -- it is inside where the instruction may not be outside
    pub inside_now : (a : Instr) → At a → outside_right a ≡ false → is_inside f.home.safe f.nest.opens ≡ true
    inside_now a is e = by_test (is_inside f.home.safe f.nest.opens) refl where
      by_test : (b : Bool) → is_inside f.home.safe f.nest.opens ≡ b → b ≡ true
      by_test true h = refl
      by_test false h = absurd (true≢false (sym ((spot_sound i sound f.home ready.spot).outside f.index (shape_of f) a ready.reached is h) ∙ e))

    volatile_fits : (a : Instr) (v : Bool) → At a → (v ≡ true → inside_right t a ≡ false) → (not v || no_atomic bs) ≡ true
    volatile_fits a false is h = refl
    volatile_fits a true is h = no_block a is (h refl)

    load_sane : (a : Instr) (k : ℕ) (v : Bool) → At a → is_kind k ≡ true → Among (f.index + 1) (targets a f.index)
        → ((s : Shape) → outgoing t own a s ≡ moves 1 1 s) → (v ≡ true → inside_right t a ≡ false) → Right bs (load_act k v f rest)
    load_sane a k v is known m e h = kind_sane bs k _ known (λ j q. one_sane i sound f rest ready below_it a is 1 _ e (λ w ws l. record {
      comes = both (size_fits j) (volatile_fits a v is h);
      goes_on = λ r c. on_to i sound f rest ready below_it a is f.nest (f.index + 1) (_ ∷ ws) m l;
      blocks = λ r c. refl;
      starts = no_start i sound _ refl;
    }))

    store_sane : (a : Instr) (k : ℕ) (v : Bool) → At a → is_kind k ≡ true → Among (f.index + 1) (targets a f.index)
        → ((s : Shape) → outgoing t own a s ≡ moves 2 0 s) → (v ≡ true → inside_right t a ≡ false) → Right bs (store_act k v f rest)
    store_sane a k v is known m e h = kind_sane bs k _ known
        (λ j q. two_sane i sound f rest ready below_it a is 0 _ e
        (λ u w ws l. event i sound bs _ _ (both (both (size_fits j) (bits_fit j _)) (volatile_fits a v is h)) refl
        (on_to i sound f rest ready below_it a is f.nest (f.index + 1) ws m l) refl))

    -- ---- calls

    suspended : (a : Instr) → At a → Among (f.index + 1) (targets a f.index) → (words : ℕ) (ws : List ℕ)
        → Leaves a (shape (more words (length ws)) f.nest.opens (length f.nest.caught) (hand_of f.nest.held)) → left_at a (length f.words) ≡ length ws
        → Suspended i (at f f.index ws) words
    suspended a is m words ws e d = record {
      spot = ready.spot;
      back = falls ready.reached (effect i sound f rest ready below_it a is _ e) m;
      unwinds = unwinds i sound f rest ready below_it a is f.nest.held ws _ e d;
    }

    first_ready : (func : ℕ) (safe : Bool) (args : List ℕ) (base : ℕ) (g : ImageFuncView) (b : BodyView) → slice_get i.funcs func ≡ Some g
        → body_in g safe ≡ Some b → length args ≡ takes_of g.ty
        → Ready i (first_frame (record { thread = f.home.thread; func = func; safe = safe; base = base }) args)
    first_ready func safe args base g b is has e = record {
      spot = record { func = g; is = is; body = b; has = has };
      reached = subst (λ n. Reaches t (gives_of g.ty) b (shape (takes_of g.ty) [] 0 Empty) 0 (shape n [] 0 Empty)) (sym e) enters;
    }

    -- a call of a function whose body is there, with the words that it takes
    entered_sane : (a : Instr) → At a → Among (f.index + 1) (targets a f.index) → (func : ℕ) (safe : Bool) (args ws : List ℕ) (g : ImageFuncView) (b : BodyView)
        → slice_get i.funcs func ≡ Some g → body_in g safe ≡ Some b → length args ≡ takes_of g.ty
        → Leaves a (shape (more (t.gives func) (length ws)) f.nest.opens (length f.nest.caught) (hand_of f.nest.held)) → left_at a (length f.words) ≡ length ws
        → (is_inside f.home.safe f.nest.opens ≡ true → safe ≡ true) → Right bs (entered_act x func safe args (at f f.index ws) rest)
    entered_sane a is m func safe args ws g b present has e l d mode =
        there_sane i sound bs (x.body func safe) Lost _ b (ap (λ o. option_and_then (λ (g : ImageFuncView). body_in g safe) o) present ∙ has)
        (if_sane i sound bs (fits x (next_home x f.home func safe)) _ _
        (quiet i sound bs _ (first_ready func safe args _ g b present has e, (suspended a is m (t.gives func) ws l d, mode, below_it)) refl)
        (trapped i sound bs StackOverflow))

    call_sane : (a : Instr) → At a → Among (f.index + 1) (targets a f.index) → (func n : ℕ) (safe : Bool)
        → ((s : Shape) → outgoing t own a s ≡ moves n (t.gives func) s) → ((d m : ℕ) → less n d ≡ Some m → left_at a d ≡ m) → t.is_func func ≡ true
        → nat_eq n (t.takes func) ≡ true → ((g : ImageFuncView) → slice_get i.funcs func ≡ Some g → (b : BodyView) × (body_in g safe ≡ Some b))
        → (is_inside f.home.safe f.nest.opens ≡ true → safe ≡ true) → Right bs (call_act x func safe n f rest)
    call_sane a is m func n safe e l named passed has mode =
        let d = operands i sound f rest ready below_it a is n (t.gives func) e in
        let g = get_at i.funcs func (ltb-true func (length i.funcs) named) in
        let b = has g.0 g.1 in
        let takes : n ≡ takes_of g.0.ty = eqb-true n (t.takes func) passed ∙ ap (λ o. option_map_or (λ (g : ImageFuncView). takes_of g.ty) o 0) g.1 in
        moved_sane i sound f rest ready below_it a is n f.words [] d.0 _ d.1
        (λ args ws la lw. entered_sane a is m func safe args ws g.0 b.0 g.1 b.1 (la ∙ plus_zero n ∙ takes)
        (e (shape_of f) ∙ ap (λ z. with_depth (shape_of f) (grown (t.gives func) z)) d.1
        ∙ ap (λ z. Some (shape (more (t.gives func) z) f.nest.opens (length f.nest.caught) (hand_of f.nest.held))) (sym lw))
        (l (length f.words) d.0 d.1 ∙ sym lw) mode)

    under : (ws : List ℕ) (d : ℕ) (p : ℕ → List ℕ → Act) → length ws ≡ suc d → ((w : ℕ) (below : List ℕ) → length below ≡ d → Right bs (p w below))
        → Right bs (one ws p)
    under [] d p h k = let no : ⊥ = omega arith in absurd no
    under (w ∷ ws) d p h k = k w ws (omega arith)

    -- a call of whatever function of the type is at the address
    indirect_sane : (a : Instr) → At a → Among (f.index + 1) (targets a f.index) → (ty n : ℕ) (safe : Bool)
        → ((s : Shape) → outgoing t own a s ≡ moves (suc n) (t.type_gives ty) s) → ((d m : ℕ) → less (suc n) d ≡ Some m → left_at a d ≡ m)
        → nat_eq n (t.type_takes ty) ≡ true → (is_inside f.home.safe f.nest.opens ≡ true → safe ≡ true)
        → ((func : ℕ) (ok : Act) → ((g : ImageFuncView) → slice_get i.funcs func ≡ Some g → (b : BodyView) → body_in g safe ≡ Some b → Right bs ok)
        → (g : ImageFuncView) → slice_get i.funcs func ≡ Some g → Right bs (checked_act x func (in_transaction f rest) ok))
        → Right bs (call_indirect_act x ty safe n f rest)
    indirect_sane a is m ty n safe e l passed mode checks =
        let d = operands i sound f rest ready below_it a is (suc n) (t.type_gives ty) e in
        moved_sane i sound f rest ready below_it a is n f.words [] (suc d.0) _ (less_one_more n (length f.words) d.0 d.1)
        (λ args ws la lw. under ws d.0 _ lw (λ w below lb.
        some_sane i sound bs (x.called ty w) (traps BadCall) _ (trapped i sound bs BadCall) (λ func c.
        let k = called_is i.funcs i.types ty w func c in
        let takes : n ≡ takes_of k.0.ty = eqb-true n (t.type_takes ty) passed ∙ k.2 in
        let gives : t.type_gives ty ≡ t.gives func = k.3 ∙ sym (ap (λ o. option_map_or (λ (g : ImageFuncView). gives_of g.ty) o 0) k.1) in
        checks func _ (λ g is_g b has. entered_sane a is m func safe args below g b is_g has
        (la ∙ plus_zero n ∙ takes ∙ ap (λ (g : ImageFuncView). takes_of g.ty) (same_Some k.0 g (sym k.1 ∙ is_g)))
        (e (shape_of f) ∙ ap (λ z. with_depth (shape_of f) (grown (t.type_gives ty) z)) d.1
        ∙ ap (λ z. Some (shape (more z d.0) f.nest.opens (length f.nest.caught) (hand_of f.nest.held))) gives
        ∙ ap (λ z. Some (shape (more (t.gives func) z) f.nest.opens (length f.nest.caught) (hand_of f.nest.held))) (sym lb))
        (l (length f.words) d.0 d.1 ∙ sym lb) mode) k.0 k.1)))

    plain_checks : (func : ℕ) (ok : Act) → ((g : ImageFuncView) → slice_get i.funcs func ≡ Some g → (b : BodyView) → body_in g false ≡ Some b → Right bs ok)
        → (g : ImageFuncView) → slice_get i.funcs func ≡ Some g → Right bs (checked_act x func (in_transaction f rest) ok)
    plain_checks func ok h g is = by_mode (in_transaction f rest) where
      by_mode : (b : Bool) → Right bs (checked_act x func b ok)
      by_mode false = h g is g.plain refl
      by_mode true = some_sane i sound bs (x.body func true) _ _ (trapped i sound bs UnsafeCall) (λ b e. h g is g.plain refl)

    safe_checks : is_inside f.home.safe f.nest.opens ≡ true → (func : ℕ) (ok : Act)
        → ((g : ImageFuncView) → slice_get i.funcs func ≡ Some g → (b : BodyView) → body_in g true ≡ Some b → Right bs ok) → (g : ImageFuncView)
        → slice_get i.funcs func ≡ Some g → Right bs (checked_act x func (in_transaction f rest) ok)
    safe_checks inside func ok h g is = subst (λ b. Right bs (checked_act x func b ok))
        (sym (inside_all i sound f.home.safe f.nest.opens (blocks_in rest) inside))
        (some_sane i sound bs (x.body func true) _ _ (trapped i sound bs UnsafeCall)
        (λ b e. h g is b (sym (ap (λ o. option_and_then (λ (g : ImageFuncView). body_in g true) o) is) ∙ e)))

    -- ---- returns

    finish_sane : (os : List Open) (thread : ℕ) (v : ℤ) → is_empty os ≡ true → Right os (Ends (finish thread v))
    finish_sane os thread v h = by_test (nat_eq thread 0) where
      by_test : (b : Bool) → Right os (Ends (if b then Stop (Exit v) else Done))
      by_test true = record { comes = refl; blocks = refl; no_spawn = refl }
      by_test false = record { comes = h; blocks = refl; no_spawn = refl }

    empty_both : (os : List Open) → is_empty os ≡ true → is_empty (os ++ []) ≡ true
    empty_both [] h = refl
    empty_both (o ∷ os) h = absurd (true≢false (sym h))

    longer : (ws vs : List ℕ) → length (ws ++ vs) ≡ more (length ws) (length vs)
    longer [] vs = refl
    longer (w ∷ ws) vs = ap suc (longer ws vs)

    back_sane : (ws : List ℕ) (gs : List Frame) → Below i (t.gives f.home.func) f.home.safe gs → t.gives f.home.func ≡ length ws → is_empty f.nest.opens ≡ true
        → Right (blocks_in (f ∷ gs)) (back_act f.home ws gs)
    back_sane ws [] b e h = finish_sane (f.nest.opens ++ []) f.home.thread (status_of ws) (empty_both f.nest.opens h)
    back_sane ws (g ∷ gs) b e h = quiet i sound (blocks_in (f ∷ g ∷ gs)) _ (
      record {
        spot = b.0.spot;
        reached = subst (λ n. ReachesAt i g.home b.0.spot (g.index + 1) (shape n g.nest.opens (length g.nest.caught) (hand_of g.nest.held)))
            (ap (λ n. more n (length g.words)) e ∙ sym (longer ws g.words)) b.0.back;
      },
      b.2,
    ) (none_open f.nest.opens (blocks_in (g ∷ gs)) h)

    -- what a return finds
    pub record Returns (n : ℕ) : Type 0 where
      pub words : n ≡ own
      pub rests : is_empty f.nest.opens ≡ true
      pub depth : (d : ℕ) × (less n (length f.words) ≡ Some d)

    returns : (n : ℕ) → At (Ret n) → Returns n
    returns n is = by_test (nat_eq n own && at_rest (shape_of f)) refl where
      by_test : (b : Bool) → (nat_eq n own && at_rest (shape_of f)) ≡ b → Returns n
      by_test true h = record {
        words = eqb-true n own (and_left (nat_eq n own) (at_rest (shape_of f)) h);
        rests = and_left (is_empty f.nest.opens) (nat_eq (length f.nest.caught) 0)
            (and_left (is_empty f.nest.opens && nat_eq (length f.nest.caught) 0) (is_free (hand_of f.nest.held))
            (and_right (nat_eq n own) (at_rest (shape_of f)) h));
        depth = there_less (less n (length f.words)) (shape_of f) 0
            (sym (ap (λ b. is_some (returned b n (shape_of f))) h) ∙ finds i sound f rest ready below_it (Ret n) is);
      }
      by_test false h = absurd (true≢false (sym (finds i sound f rest ready below_it (Ret n) is) ∙ ap (λ b. is_some (returned b n (shape_of f))) h))

    one_there : (ws : List ℕ) (d : ℕ) (p : ℕ → List ℕ → Act) → less 1 (length ws) ≡ Some d → ((w : ℕ) (vs : List ℕ) → Right bs (p w vs)) → Right bs (one ws p)
    one_there [] d p h k = absurd (cc)
    one_there (w ∷ ws) d p h k = k w ws

    ret_sane : (n : ℕ) → At (Ret n) → Right bs (ret_act n f rest)
    ret_sane zero is = let r = returns zero is in back_sane [] rest below_it (gives_is i sound f.home ready.spot ∙ sym r.words) r.rests
    ret_sane (suc zero) is = let r = returns (suc zero) is in
        one_there f.words r.depth.0 _ r.depth.1 (λ w vs. back_sane (w ∷ []) rest below_it (gives_is i sound f.home ready.spot ∙ sym r.words) r.rests)
    ret_sane (suc (suc n)) is = absurd (gives_small ready.spot.func.ty n (sym (returns (suc (suc n)) is).words))

    -- ---- exceptions

    built_sane : (h : Held) (p : Exception → Act) → is_building (hand_of h) ≡ true → ((e : Exception) → hand_of h ≡ Builds → Right bs (p e))
        → Right bs (built h p)
    built_sane Free p h k = absurd (true≢false (sym h))
    built_sane (Building e) p h k = k e refl
    built_sane (Flying e) p h k = absurd (true≢false (sym h))

    flown_sane : (h : Held) (p : Exception → Act) → is_flying (hand_of h) ≡ true → ((e : Exception) → Right bs (p e)) → Right bs (flown h p)
    flown_sane Free p h k = absurd (true≢false (sym h))
    flown_sane (Building e) p h k = absurd (true≢false (sym h))
    flown_sane (Flying e) p h k = k e

    handler_sane : (es : List Exception) (p : Act) → nat_lt 0 (length es) ≡ true → (suc (length (rest_caught es)) ≡ length es → Right bs p)
        → Right bs (in_handler es p)
    handler_sane [] p h k = absurd (true≢false (sym h))
    handler_sane (e ∷ es) p h k = k refl

    current_sane : (es : List Exception) (o : Option Exception) (p : Exception → Act) → nat_lt 0 (length es) ≡ true → ((e : Exception) → Right bs (p e))
        → Right bs (if_some (first_or es o) Lost p)
    current_sane [] o p h k = absurd (true≢false (sym h))
    current_sane (e ∷ es) o p h k = k e

    throws : (a : Instr) → At a → (u : Shape) → Leaves a u → left_at a (length f.words) ≡ length f.words → (e : Exception) → Right bs (unwinding e f rest)
    throws a is u l d e = quiet i sound bs _ (unwinds i sound f rest ready below_it a is Free f.words u l d, below_it) refl

    jumps : (w n : ℕ) (ws : List ℕ) → At (JumpZero n) → Leaves (JumpZero n) (shape_of (on_with f ws))
        → Right bs (goes (Runs (at f (if nat_eq w 0 then n else f.index + 1) ws) rest))
    jumps w n ws is e = by_test (nat_eq w 0) where
      by_test : (b : Bool) → Right bs (goes (Runs (at f (if b then n else f.index + 1) ws) rest))
      by_test true = quiet i sound bs _ (on_to i sound f rest ready below_it (JumpZero n) is f.nest n ws here e) refl
      by_test false = quiet i sound bs _ (on_to i sound f rest ready below_it (JumpZero n) is f.nest (f.index + 1) ws (there here) e) refl

    fewer_is : (es : List Exception) → suc (length (rest_caught es)) ≡ length es → fewer (length es) ≡ length (rest_caught es)
    fewer_is [] h = let no : ⊥ = omega arith in absurd no
    fewer_is (e ∷ es) h = refl

    safe_there : (func : ℕ) → t.has_safe func ≡ true → (g : ImageFuncView) → slice_get i.funcs func ≡ Some g → (b : BodyView) × (body_in g true ≡ Some b)
    safe_there func h g is = by_body g.safe (sym (ap (λ o. option_map_or (λ (g : ImageFuncView). is_some g.safe) o false) is) ∙ h) where
      by_body : (o : Option BodyView) → is_some o ≡ true → (b : BodyView) × (o ≡ Some b)
      by_body None h = absurd (true≢false (sym h))
      by_body (Some b) h = (b, refl)

    abbrev spawned_func : Event → ℕ
    spawned_func (SpawnOf func arg) = func
    spawned_func e = 0

    started : (func addr : ℕ) → x.spawned addr ≡ Some func → (g : ℕ) (arg v : ℤ) → SpawnOf func v ≡ SpawnOf g arg → Startable i sound g
    started func addr q g arg v s = let k = func_at_is i.funcs spawn_type addr func q in
        record {
          view = k.0;
          is = subst (λ z. slice_get i.funcs z ≡ Some k.0) (ap spawned_func s) k.1;
          takes_one = takes_alike k.0.ty spawn_type k.2
              ∙ takes_spawn;
        }

    -- ---- each instruction

    pub act_sane : (a : Instr) → At a → Right bs (act x a f rest)
    act_sane (Push v) is = goes_next (Push v) is here (v ∷ f.words) refl
    act_sane Dup is = one_sane i sound f rest ready below_it Dup is 2 _ (λ s. refl) (λ w ws e. goes_next Dup is here (w ∷ w ∷ ws) e)
    act_sane Pop is = one_sane i sound f rest ready below_it Pop is 0 _ (λ s. refl) (λ w ws e. goes_next Pop is here ws e)
    act_sane Swap is = two_sane i sound f rest ready below_it Swap is 2 _ (λ s. refl) (λ u w ws e. goes_next Swap is here (u ∷ w ∷ ws) e)
    act_sane Over is = two_sane i sound f rest ready below_it Over is 3 _ (λ s. refl) (λ u w ws e. goes_next Over is here (u ∷ w ∷ u ∷ ws) e)
    act_sane (FrameAddr n) is = goes_next (FrameAddr n) is here (_ ∷ f.words) refl
    act_sane (GlobalAddr n) is = goes_next (GlobalAddr n) is here (_ ∷ f.words) refl
    act_sane (FuncAddr n) is = goes_next (FuncAddr n) is here (_ ∷ f.words) refl
    act_sane (ClassAddr n) is = goes_next (ClassAddr n) is here (_ ∷ f.words) refl
    act_sane (Load k) is = load_sane (Load k) k false is (known i sound f rest ready below_it (Load k) is) here (λ s. refl) (λ v. absurd (true≢false (sym v)))
    act_sane (Store k) is = store_sane (Store k) k false is (known i sound f rest ready below_it (Store k) is) here (λ s. refl)
        (λ v. absurd (true≢false (sym v)))
    act_sane (TLoad k) is = load_sane (TLoad k) k false is (known i sound f rest ready below_it (TLoad k) is) here (λ s. refl)
        (λ v. absurd (true≢false (sym v)))
    act_sane (TStore k) is = store_sane (TStore k) k false is (known i sound f rest ready below_it (TStore k) is) here (λ s. refl)
        (λ v. absurd (true≢false (sym v)))
    act_sane (VLoad k) is = load_sane (VLoad k) k true is (known i sound f rest ready below_it (VLoad k) is) here (λ s. refl) (λ v. refl)
    act_sane (VStore k) is = store_sane (VStore k) k true is (known i sound f rest ready below_it (VStore k) is) here (λ s. refl) (λ v. refl)
    act_sane (Bin op k) is =
        let h = known i sound f rest ready below_it (Bin op k) is in
        let o = get_at operators op (ltb-true op 16 (and_left (nat_lt op 16) (is_promoted k) h)) in
        there_sane i sound bs (slice_get operators op) Lost _ o.0 o.1
        (kind_sane bs k _ (and_right (nat_le 6 k) (nat_lt k 12) (and_right (nat_lt op 16) (is_promoted k) h))
        (λ j q. two_sane i sound f rest ready below_it (Bin op k) is 1 _ (λ s. refl)
        (λ u w ws e. result_sane i sound bs (apply_of o.0 j (value_of_word j u) (value_of_word (right_kind o.0 j) w))
        (λ v. goes (Runs (on_with f (word_of v ∷ ws)) rest)) (λ z. goes_next (Bin op k) is here (word_of z ∷ ws) e))))
    act_sane (Neg k) is = kind_sane bs k _ (and_right (nat_le 6 k) (nat_lt k 12) (known i sound f rest ready below_it (Neg k) is))
        (λ j q. one_sane i sound f rest ready below_it (Neg k) is 1 _ (λ s. refl)
        (λ w ws e. result_sane i sound bs (negate_of j (value_of_word j w)) (λ v. goes (Runs (on_with f (word_of v ∷ ws)) rest))
        (λ z. goes_next (Neg k) is here (word_of z ∷ ws) e)))
    act_sane (Conv k l) is = kind_sane bs k _ (and_left (is_kind k) (is_kind l) (known i sound f rest ready below_it (Conv k l) is))
        (λ j q. kind_sane bs l _ (and_right (is_kind k) (is_kind l) (known i sound f rest ready below_it (Conv k l) is))
        (λ h p. one_sane i sound f rest ready below_it (Conv k l) is 1 _ (λ s. refl) (λ w ws e. goes_next (Conv k l) is here (_ ∷ ws) e)))
    act_sane (Jump n) is = quiet i sound bs _ (on_to i sound f rest ready below_it (Jump n) is f.nest n f.words here refl) refl
    act_sane (JumpZero n) is = one_sane i sound f rest ready below_it (JumpZero n) is 0 _ (λ s. refl) (λ w ws e. jumps w n ws is e)
    act_sane (Call s n) is = call_sane (Call s n) is here s n false (λ s. refl) (kept_is n) (named i sound f rest ready below_it (Call s n) is)
        (passed i sound f rest ready below_it (Call s n) is) (λ g h. (g.plain, refl))
        (λ inside. absurd (true≢false (sym inside ∙ outside_now (Call s n) is refl)))
    act_sane (TCall s n) is = call_sane (TCall s n) is here s n true (λ s. refl) (kept_is n) (named i sound f rest ready below_it (TCall s n) is)
        (passed i sound f rest ready below_it (TCall s n) is)
        (safe_there s (well_inside i sound f rest ready below_it (TCall s n) is (inside_now (TCall s n) is refl))) (λ inside. refl)
    act_sane (CallIndirect ty n) is = indirect_sane (CallIndirect ty n) is here ty n false (λ s. refl) (kept_is (suc n))
        (passed i sound f rest ready below_it (CallIndirect ty n) is)
        (λ inside. absurd (true≢false (sym inside ∙ outside_now (CallIndirect ty n) is refl))) plain_checks
    act_sane (TCallIndirect ty n) is = indirect_sane (TCallIndirect ty n) is here ty n true (λ s. refl) (kept_is (suc n))
        (passed i sound f rest ready below_it (TCallIndirect ty n) is) (λ inside. refl) (safe_checks (inside_now (TCallIndirect ty n) is refl))
    act_sane (Slot c n) is = one_sane i sound f rest ready below_it (Slot c n) is 1 _ (λ s. refl)
        (λ w ws e. some_sane i sound bs (x.slot_of c w n) _ _ (trapped i sound bs BadVirtual) (λ z q. goes_next (Slot c n) is here (_ ∷ ws) e))
    act_sane (Ret n) is = ret_sane n is
    act_sane (Begin n) is =
        let k = get_at block_kinds n (ltb-true n 3 (known i sound f rest ready below_it (Begin n) is)) in
        there_sane i sound bs (slice_get block_kinds n) Lost _ k.0 k.1
        (event i sound bs _ _ refl refl (on_to i sound f rest ready below_it (Begin n) is (opening f.nest (Atomic k.0)) (f.index + 1) f.words here
        (ap (opened (shape_of f)) k.1)) refl)
    act_sane End is = let c = closes i sound f rest ready below_it End is in
        event i sound bs _ _ (atomic_front f.nest.opens (blocks_in rest) c) refl
        (on_to i sound f rest ready below_it End is (closing f.nest) (f.index + 1) f.words here (ap (λ b. closed b (shape_of f)) c))
        (rest_atomic f.nest.opens (blocks_in rest) c)
    act_sane BeginSync is = event i sound bs _ _ refl refl
        (on_to i sound f rest ready below_it BeginSync is (opening f.nest Sync) (f.index + 1) f.words here refl) refl
    act_sane EndSync is = let c = closes i sound f rest ready below_it EndSync is in
        event i sound bs _ _ (sync_front f.nest.opens (blocks_in rest) c) refl
        (on_to i sound f rest ready below_it EndSync is (closing f.nest) (f.index + 1) f.words here (ap (λ b. closed b (shape_of f)) c))
        (rest_sync f.nest.opens (blocks_in rest) c)
    act_sane Out is = one_sane i sound f rest ready below_it Out is 1 _ (λ s. refl)
        (λ w ws e. event i sound bs _ _ (no_block Out is refl) refl (on_to i sound f rest ready below_it Out is f.nest (f.index + 1) (_ ∷ ws) here e) refl)
    act_sane Inp is = record {
      comes = no_block Inp is refl;
      goes_on = λ r c. on_to i sound f rest ready below_it Inp is f.nest (f.index + 1)
          (_ ∷ f.words) here refl;
      blocks = λ r c. refl;
      starts = no_start i sound InpOf refl;
    }
    act_sane Spawn is = two_sane i sound f rest ready below_it Spawn is 1 _ (λ s. refl)
        (λ u w ws e. some_sane i sound bs (x.spawned u) _ _ (trapped i sound bs BadCall) (λ func q. record {
          comes = no_block Spawn is refl;
          goes_on = λ r c. on_to i sound f rest ready below_it Spawn is f.nest (f.index + 1) (_ ∷ ws) here e;
          blocks = λ r c. refl;
          starts = λ g arg s. started func u q g arg _ s;
        }))
    act_sane Join is = one_sane i sound f rest ready below_it Join is 0 _ (λ s. refl)
        (λ w ws e. event i sound bs _ _ (no_block Join is refl) refl (on_to i sound f rest ready below_it Join is f.nest (f.index + 1) ws here e) refl)
    act_sane Abort is = record { comes = refl; blocks = refl; no_spawn = refl }
    act_sane (NewException ty) is = quiet i sound bs _
        (on_to i sound f rest ready below_it (NewException ty) is (holding f.nest (Building (new_exception ty))) (f.index + 1) f.words here refl) refl
    act_sane (PutException n k) is =
        let h = excepts i sound f rest ready below_it (PutException n k) is in
        kind_sane bs k _ (known i sound f rest ready below_it (PutException n k) is)
        (λ j q. built_sane f.nest.held _ (and_left (is_building (hand_of f.nest.held)) (lies_in_exception n k) h)
        (λ e b. one_sane i sound f rest ready below_it (PutException n k) is 0 _ (λ s. refl)
        (λ w ws l. quiet i sound bs _ (on_to i sound f rest ready below_it (PutException n k) is (holding f.nest (Building _)) (f.index + 1) ws here
        (l ∙ ap (λ z. Some (shape (length ws) f.nest.opens (length f.nest.caught) z)) b)) refl)))
    act_sane Throw is = built_sane f.nest.held _ (excepts i sound f rest ready below_it Throw is) (λ e b. throws Throw is _ refl refl e)
    act_sane Rethrow is = some_sane i sound bs (current (f ∷ rest)) _ _ (record { comes = refl; blocks = refl; no_spawn = refl })
        (λ e q. throws Rethrow is _ refl refl e)
    act_sane (GetException n k) is =
        let h = excepts i sound f rest ready below_it (GetException n k) is in
        kind_sane bs k _ (known i sound f rest ready below_it (GetException n k) is)
        (λ j q. current_sane f.nest.caught (current rest) _ (and_left (nat_lt 0 (length f.nest.caught)) (lies_in_exception n k) h)
        (λ e. goes_next (GetException n k) is here (_ ∷ f.words) refl))
    act_sane EndHandler is = handler_sane f.nest.caught _ (excepts i sound f rest ready below_it EndHandler is)
        (λ l. quiet i sound bs _ (on_to i sound f rest ready below_it EndHandler is (handled f.nest) (f.index + 1) f.words here
        (ap (λ n. Some (shape (length f.words) f.nest.opens n (hand_of f.nest.held))) (fewer_is f.nest.caught l))) refl)
    act_sane Resume is = flown_sane f.nest.held _ (excepts i sound f rest ready below_it Resume is) (λ e. throws Resume is _ refl refl e)
