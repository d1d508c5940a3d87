-- Each step of a thread of a sound image keeps its state in shape.
use Rattle.std.proofs.Common.{Bool, true, false, ◌≡◌, ◌≤◌, ℕ, zero, suc, ◌+◌, ◌-◌, ℤ, List, [], ◌∷◌, ◌++◌, length, Option, Some, None, Result, Ok, Err, refl}
use Rattle.std.proofs.Common.{sym, ap, ◌∙◌, subst, arith, length-drop}
use Rattle.std.specs.Prelude.{slice_get, nat_lt, nat_le, nat_eq, not, ◌&&◌, ◌||◌, IfSome, is_some, if◌then◌else◌}
use Rattle.std.specs.Option.{option_map_or}
use Rattle.std.proofs.lemmas.Bool.{true≢false, leb-true, eqb-true}
use Rattle.std.proofs.lemmas.Option.{same_Some}
use Rattle.tx_ints.specs.declared.kinds.ArithTrap.{ArithTrap}
use Rattle.tx_events.specs.declared.BlockKind.{BlockKind}
use Rattle.tx_events.specs.declared.Event.{Event}
use Rattle.tx_events.specs.declared.Event.TheVariants.{Silent, Load as LoadOf, Store as StoreOf, Out as OutOf, Inp as InpOf, Spawn as SpawnOf, Join as JoinOf}
use Rattle.tx_events.specs.declared.Event.TheVariants.{BeginAtomic, EndAtomic, Raise, BeginSync as BeginSyncOf, EndSync as EndSyncOf, Done, Stop}
use Rattle.tx_events.specs.declared.Reply.{Reply}
use Rattle.tx_events.specs.Thread.{Open, Atomic, Sync, Answers, rest_of, no_atomic, in_atomic, in_kind, in_sync, is_empty, may_come, blocks_after}
use Rattle.tx_code.specs.declared.instr.Instr.{Instr}
use Rattle.tx_code.specs.declared.body.Row.{Row}
use Rattle.tx_code.specs.Objects.{BodyView}
use Rattle.tx_code.specs.Images.{ImageFuncView, ImageView}
use Rattle.tx_code.specs.Signatures.{takes_of, gives_of}
use Rattle.tx_code.specs.Meaning.{Names, Held, Free, Building, Flying, Exception, Home, Nest, Frame, State, Runs, Unwinds, Act, Does, Ends, Lost, goes, asks}
use Rattle.tx_code.specs.Meaning.{traps, one, two, moved, if_some, with_kind, kinds, size_of, at, nested, on_with, on_in, holding, opening, closing, catching}
use Rattle.tx_code.specs.Meaning.{handled, rest_caught, bare, first_frame, blocks_in, in_transaction, covers, takes, find, cut, first_or, current, blocks_of}
use Rattle.tx_code.specs.Program.{body_in, names_of}
use Rattle.tx_code.specs.Shapes.{Hand, Empty, Builds, Flies, Shape, shape, Table, less, more, moves, outgoing, targets, landed, Among, here, there, Effect}
use Rattle.tx_code.specs.Shapes.{Reaches, enters, falls, lands}
use Rattle.tx_code.specs.Sound.{signature, table_of, has_edge, is_edge, is_inside, left_at, kept, SoundBody, SoundFunc, Sound, is_known, row_is_known}
use Rattle.tx_code.specs.Sound.{names_right, passes, exception_right, inside_right, closes_right}
use Rattle.tx_code.specs.InShape.{hand_of, shape_of, Spot, Ready, Unwindable, Below, InShape}
use Rattle.tx_code.proofs.ReachedIndexes.{and_left, all_at, all_among}

-- ---- blocks of lists of frames

pub inside_front : (os bs : List Open) → no_atomic os ≡ false → no_atomic (os ++ bs) ≡ false
inside_front [] bs h = absurd (true≢false h)
inside_front (Atomic k ∷ os) bs h = refl
inside_front (Sync ∷ os) bs h = inside_front os bs h

pub outside_both : (os bs : List Open) → no_atomic os ≡ true → no_atomic bs ≡ true → no_atomic (os ++ bs) ≡ true
outside_both [] bs h g = g
outside_both (Atomic k ∷ os) bs h g = absurd (true≢false (sym h))
outside_both (Sync ∷ os) bs h g = outside_both os bs h g

pub kind_front : (k : BlockKind) (os bs : List Open) → in_kind k os ≡ true → in_kind k (os ++ bs) ≡ true
kind_front k [] bs h = absurd (true≢false (sym h))
kind_front k (Atomic j ∷ os) bs h = h
kind_front k (Sync ∷ os) bs h = absurd (true≢false (sym h))

pub atomic_front : (os bs : List Open) → in_atomic os ≡ true → in_atomic (os ++ bs) ≡ true
atomic_front [] bs h = absurd (true≢false (sym h))
atomic_front (Atomic j ∷ os) bs h = refl
atomic_front (Sync ∷ os) bs h = absurd (true≢false (sym h))

pub sync_front : (os bs : List Open) → in_sync os ≡ true → in_sync (os ++ bs) ≡ true
sync_front [] bs h = absurd (true≢false (sym h))
sync_front (Sync ∷ os) bs h = refl
sync_front (Atomic k ∷ os) bs h = absurd (true≢false (sym h))

pub rest_atomic : (os bs : List Open) → in_atomic os ≡ true → rest_of os ++ bs ≡ rest_of (os ++ bs)
rest_atomic [] bs h = absurd (true≢false (sym h))
rest_atomic (o ∷ os) bs h = refl

pub rest_kind : (k : BlockKind) (os bs : List Open) → in_kind k os ≡ true → rest_of os ++ bs ≡ rest_of (os ++ bs)
rest_kind k [] bs h = absurd (true≢false (sym h))
rest_kind k (o ∷ os) bs h = refl

pub rest_sync : (os bs : List Open) → in_sync os ≡ true → rest_of os ++ bs ≡ rest_of (os ++ bs)
rest_sync [] bs h = absurd (true≢false (sym h))
rest_sync (o ∷ os) bs h = refl

pub none_open : (os bs : List Open) → is_empty os ≡ true → bs ≡ os ++ bs
none_open [] bs h = refl
none_open (o ∷ os) bs h = absurd (true≢false (sym h))

-- ---- depths

pub less_zero : (d : ℕ) → less 0 d ≡ Some d
less_zero d = refl

pub less_one_more : (n d m : ℕ) → less (suc n) d ≡ Some m → less n d ≡ Some (suc m)
less_one_more zero zero m h = absurd (cc)
less_one_more zero (suc d) m h = ap (λ z. Some (suc z)) (same_Some d m h)
less_one_more (suc n) zero m h = absurd (cc)
less_one_more (suc n) (suc d) m h = less_one_more n d m h

pub there_less : (x : Option ℕ) (s : Shape) (g : ℕ) → is_some (Rattle.tx_code.specs.Shapes.with_depth s (Rattle.tx_code.specs.Shapes.grown g x)) ≡ true
    → (m : ℕ) × (x ≡ Some m)
there_less None s g h = absurd (true≢false (sym h))
there_less (Some m) s g h = (m, refl)

pub cut_length : (d : ℕ) (ws : List ℕ) → nat_le d (length ws) ≡ true → length (cut d ws) ≡ d
cut_length d ws h = let l : d ≤ length ws = leb-true d (length ws) h in length-drop (length ws - d) ws ∙ omega arith

pub kept_is : (n d m : ℕ) → less n d ≡ Some m → kept n d ≡ m
kept_is n d m h = ap (λ o. option_map_or (λ rest. rest) o d) h

-- ---- rows

found_step : (q : Row) (rs : List Row) (n ty : ℕ) (r : Row) (b : Bool) → (covers q n && takes q ty) ≡ b → (if b then Some q else find rs n ty) ≡ Some r
    → (find rs n ty ≡ Some r → Among r rs × (covers r n ≡ true)) → Among r (q ∷ rs) × (covers r n ≡ true)
found_step q rs n ty r true e g next = subst (λ z. Among z (q ∷ rs) × (covers z n ≡ true)) (same_Some q r g) (here, and_left (covers q n) (takes q ty) e)
found_step q rs n ty r false e g next = (there (next g).0, (next g).1)

pub find_some : (rs : List Row) (n ty : ℕ) (r : Row) → find rs n ty ≡ Some r → Among r rs × (covers r n ≡ true)
find_some [] n ty r h = absurd (cc)
find_some (q ∷ rs) n ty r h = found_step q rs n ty r (covers q n && takes q ty) refl h (find_some rs n ty r)

takes_all : (w ty n : ℕ) (b : Bool) → nat_eq w 1 ≡ b → 3 ≤ w → (not b || nat_eq ty n) ≡ true
takes_all w ty n true e h = let one : w ≡ 1 = eqb-true w 1 e in let no : ⊥ = omega arith in absurd no
takes_all w ty n false e h = refl

-- an edge row takes every exception
edge_takes : (r : Row) (ty : ℕ) → is_edge r ≡ true → takes r ty ≡ true
edge_takes r ty h = takes_all r.what r.ty ty (nat_eq r.what 1) refl (leb-true 3 r.what h)

none_step : (q : Row) (o : Option Row) (b c t e : Bool) → (b ≡ true → t ≡ true) → (if c && t then Some q else o) ≡ None → (o ≡ None → e ≡ false)
    → ((b && c) || e) ≡ false
none_step q o true true true e f g next = absurd (cc)
none_step q o true true false e f g next = absurd (true≢false (sym (f refl)))
none_step q o true false t e f g next = next g
none_step q o false true true e f g next = absurd (cc)
none_step q o false true false e f g next = next g
none_step q o false false t e f g next = next g

pub find_none : (rs : List Row) (n ty : ℕ) → find rs n ty ≡ None → has_edge rs n ≡ false
find_none [] n ty h = refl
find_none (q ∷ rs) n ty h = none_step q (find rs n ty) (is_edge q) (covers q n) (takes q ty) (has_edge rs n) (edge_takes q ty) h (find_none rs n ty)

-- ---- steps that keep the shape

abbrev is_spawn : Event → Bool
is_spawn (SpawnOf f a) = true
is_spawn Silent = false
is_spawn (LoadOf a size v) = false
is_spawn (StoreOf a size w v) = false
is_spawn (OutOf b) = false
is_spawn InpOf = false
is_spawn (JoinOf i) = false
is_spawn (BeginAtomic k) = false
is_spawn EndAtomic = false
is_spawn (Raise k c) = false
is_spawn BeginSyncOf = false
is_spawn EndSyncOf = false
is_spawn Done = false
is_spawn (Stop e) = false

module _ (i : ImageView) (sound : Sound i) where
  abbrev pub x : Names
  x = names_of i

  abbrev pub t : Table
  t = table_of i

  -- a function that a thread may start in
  pub record Startable (func : ℕ) : Type 0 where
    pub view : ImageFuncView
    pub is : slice_get i.funcs func ≡ Some view
    pub takes_one : takes_of view.ty ≡ 1

  pub record DoesWell (bs : List Open) (e : Event) (on : Reply → State) : Type 0 where
    pub comes : may_come e bs ≡ true
    pub goes_on : (r : Reply) → Answers e r → InShape i (on r)
    pub blocks : (r : Reply) → Answers e r → blocks_of (on r) ≡ blocks_after e bs
    pub starts : (func : ℕ) (arg : ℤ) → e ≡ SpawnOf func arg → Startable func

  pub record EndsWell (bs : List Open) (e : Event) : Type 0 where
    pub comes : may_come e bs ≡ true
    pub blocks : bs ≡ blocks_after e bs
    pub no_spawn : is_spawn e ≡ false

  abbrev pub Sane : List Open → Act → Type 0
  Sane bs (Does e on) = DoesWell bs e on
  Sane bs (Ends e) = EndsWell bs e
  Sane bs Lost = ⊥

  pub no_start : (e : Event) → is_spawn e ≡ false → (func : ℕ) (arg : ℤ) → e ≡ SpawnOf func arg → Startable func
  no_start e h func arg s = absurd (true≢false (sym (ap is_spawn s) ∙ h))

  pub quiet : (bs : List Open) (s : State) → InShape i s → blocks_of s ≡ bs → Sane bs (goes s)
  quiet bs s h b = record { comes = refl; goes_on = λ r a. h; blocks = λ r a. b; starts = no_start Silent refl }

  pub event : (bs : List Open) (e : Event) (s : State) → may_come e bs ≡ true → is_spawn e ≡ false → InShape i s → blocks_of s ≡ blocks_after e bs
      → Sane bs (asks e s)
  event bs e s m n h b = record { comes = m; goes_on = λ r a. h; blocks = λ r a. b; starts = no_start e n }

  pub trapped : (bs : List Open) (t : Rattle.tx_events.specs.declared.Trap.Trap) → Sane bs (traps t)
  trapped bs t = record { comes = refl; blocks = refl; no_spawn = refl }

  pub some_sane : {A : Type 0} (bs : List Open) (o : Option A) (a : Act) (p : A → Act) → Sane bs a → ((z : A) → o ≡ Some z → Sane bs (p z))
      → Sane bs (if_some o a p)
  some_sane bs None a p h k = h
  some_sane bs (Some z) a p h k = k z refl

  pub there_sane : {A : Type 0} (bs : List Open) (o : Option A) (a : Act) (p : A → Act) (z : A) → o ≡ Some z → Sane bs (p z) → Sane bs (if_some o a p)
  there_sane bs o a p z e h = subst (λ q. Sane bs (if_some q a p)) (sym e) h

  pub result_sane : (bs : List Open) (o : Result ℤ ArithTrap) (p : ℤ → Act) → ((z : ℤ) → Sane bs (p z)) → Sane bs (Rattle.tx_code.specs.Meaning.result_act o p)
  result_sane bs (Ok z) p h = h z
  result_sane bs (Err e) p h = trapped bs _

  pub if_sane : (bs : List Open) (b : Bool) (a c : Act) → Sane bs a → Sane bs c → Sane bs (if b then a else c)
  if_sane bs true a c h k = h
  if_sane bs false a c h k = k

  -- ---- bodies

  pub body_sound : (safe : Bool) (func : ImageFuncView) (body : BodyView) → SoundFunc t func → body_in func safe ≡ Some body
      → SoundBody t (signature func.ty) safe body
  body_sound false func body s e = subst (λ b. SoundBody t (signature func.ty) false b) (same_Some func.plain body e) s.plain
  body_sound true func body s e = some_body func.safe e s.safe where
    some_body : (o : Option BodyView) → o ≡ Some body → IfSome o (SoundBody t (signature func.ty) true) → SoundBody t (signature func.ty) true body
    some_body None e h = absurd (cc)
    some_body (Some b) e h = subst (λ b. SoundBody t (signature func.ty) true b) (same_Some b body e) h

  pub spot_sound : (h : Home) (spot : Spot i h) → SoundBody t (signature spot.func.ty) h.safe spot.body
  spot_sound h spot = body_sound h.safe spot.func spot.body (sound h.func spot.func spot.is) spot.has

  pub gives_is : (h : Home) (spot : Spot i h) → t.gives h.func ≡ gives_of spot.func.ty
  gives_is h spot = ap (λ o. option_map_or (λ (g : ImageFuncView). gives_of g.ty) o 0) spot.is

  -- ---- outside of transactions no atomic block is open in the thread

  pub outside_front : (safe : Bool) (os : List Open) → is_inside safe os ≡ false → (safe ≡ false) × (no_atomic os ≡ true)
  outside_front false os h = (refl, not_not (no_atomic os) h) where
    not_not : (b : Bool) → not b ≡ false → b ≡ true
    not_not true h = refl
    not_not false h = absurd (true≢false h)
  outside_front true os h = absurd (true≢false h)

  pub outside_of : (b : Bool) (safe : Bool) → (b ≡ true → safe ≡ true) → safe ≡ false → b ≡ false
  outside_of true safe h e = absurd (true≢false (sym (h refl) ∙ e))
  outside_of false safe h e = refl

  pub outside_below : (words : ℕ) (safe : Bool) (fs : List Frame) → Below i words safe fs → safe ≡ false → no_atomic (blocks_in fs) ≡ true
  outside_below words safe [] b e = refl
  outside_below words safe (f ∷ fs) b e =
      let o : (f.home.safe ≡ false) × (no_atomic f.nest.opens ≡ true) =
      outside_front f.home.safe f.nest.opens (outside_of (is_inside f.home.safe f.nest.opens) safe b.1 e) in
      outside_both f.nest.opens (blocks_in fs) o.1 (outside_below (t.gives f.home.func) f.home.safe fs b.2 o.0)

  pub outside_all : (f : Frame) (rest : List Frame) → Below i (t.gives f.home.func) f.home.safe rest → is_inside f.home.safe f.nest.opens ≡ false
      → no_atomic (blocks_in (f ∷ rest)) ≡ true
  outside_all f rest b e = let o = outside_front f.home.safe f.nest.opens e in
      outside_both f.nest.opens (blocks_in rest) o.1 (outside_below (t.gives f.home.func) f.home.safe rest b o.0)

  pub inside_all : (safe : Bool) (os bs : List Open) → is_inside safe os ≡ true → (safe || not (no_atomic (os ++ bs))) ≡ true
  inside_all true os bs h = refl
  inside_all false os bs h = ap not (inside_front os bs (by_not (no_atomic os) h)) where
    by_not : (b : Bool) → not b ≡ true → b ≡ false
    by_not true h = absurd (true≢false (sym h))
    by_not false h = refl

  -- ---- one frame that runs, and its instruction

  module _ (f : Frame) (rest : List Frame) (ready : Ready i f) (below : Below i (t.gives f.home.func) f.home.safe rest) (a : Instr)
      (is : slice_get ready.spot.body.code f.index ≡ Some a) where
    abbrev pub bs : List Open
    bs = blocks_in (f ∷ rest)

    abbrev pub body : BodyView
    body = ready.spot.body

    abbrev pub own : ℕ
    own = gives_of ready.spot.func.ty

    pub well : SoundBody t (signature ready.spot.func.ty) f.home.safe body
    well = spot_sound f.home ready.spot

    pub known : is_known a ≡ true
    known = all_at is_known body.code f.index a well.known is

    pub named : names_right t a ≡ true
    named = all_at (names_right t) body.code f.index a well.names is

    pub finds : is_some (outgoing t own a (shape_of f)) ≡ true
    finds = well.operands f.index (shape_of f) a ready.reached is

    pub excepts : exception_right a (shape_of f) ≡ true
    excepts = well.exceptions f.index (shape_of f) a ready.reached is

    pub closes : closes_right a (shape_of f) ≡ true
    closes = well.closes f.index (shape_of f) a ready.reached is

    pub well_inside : is_inside f.home.safe f.nest.opens ≡ true → inside_right t a ≡ true
    well_inside h = well.inside f.index (shape_of f) a ready.reached is h

    pub passed : passes t a ≡ true
    passed = well.words f.index (shape_of f) a ready.reached is

    abbrev pub effect : (u : Shape) → outgoing t own a (shape_of f) ≡ Some u → Effect t own body f.index (shape_of f)
    effect u e = record { instr = a; is = is; next = u; makes = e }

    -- on at an index to which the instruction leads, with what it leaves
    pub on_to : (g : Nest) (j : ℕ) (ws : List ℕ) → Among j (targets a f.index) → outgoing t own a (shape_of f) ≡ Some (shape_of (nested f g j ws))
        → InShape i (Runs (nested f g j ws) rest)
    on_to g j ws m e = (record { spot = ready.spot; reached = falls ready.reached (effect _ e) m }, below)

    -- an exception may leave it
    pub unwinds : (h : Held) (ws : List ℕ) (u : Shape) → outgoing t own a (shape_of f) ≡ Some u → left_at a (length f.words) ≡ length ws
        → Unwindable i (nested f (holding f.nest h) f.index ws)
    unwinds h ws u e d = record {
      spot = ready.spot;
      rows = λ r m c. record {
        reached = lands ready.reached (effect u e) r m c;
        depth = subst (λ n. nat_le r.depth n ≡ true) d (well.depths f.index (shape_of f) a r ready.reached is m c);
        edge = well.edges f.index (shape_of f) r ready.reached m c;
        known = and_left (nat_lt r.what 7) (nat_eq r.what 1 || nat_eq r.ty 0) (all_among row_is_known m well.rows_known);
      };
      edge = well.covered f.index (shape_of f) ready.reached;
    }

    -- ---- operands

    abbrev pub with_length : ℕ → Shape
    with_length d = shape d f.nest.opens (length f.nest.caught) (hand_of f.nest.held)

    abbrev Moves : ℕ → ℕ → Type 0
    Moves n m = (s : Shape) → outgoing t own a s ≡ moves n m s

    pub one_sane : (m : ℕ) (p : ℕ → List ℕ → Act) → Moves 1 m
        → ((w : ℕ) (ws : List ℕ) → outgoing t own a (shape_of f) ≡ Some (with_length (more m (length ws))) → Sane bs (p w ws)) → Sane bs (one f.words p)
    one_sane m p e h = by_words f.words refl where
      by_words : (ws : List ℕ) → f.words ≡ ws → Sane bs (one ws p)
      by_words [] q = absurd (true≢false (sym finds ∙ ap is_some (e (shape_of f) ∙ ap (λ z. moves 1 m (with_length (length z))) q)))
      by_words (w ∷ ws) q = h w ws (e (shape_of f) ∙ ap (λ z. moves 1 m (with_length (length z))) q)

    pub two_sane : (m : ℕ) (p : ℕ → ℕ → List ℕ → Act) → Moves 2 m
        → ((u w : ℕ) (ws : List ℕ) → outgoing t own a (shape_of f) ≡ Some (with_length (more m (length ws))) → Sane bs (p u w ws)) → Sane bs (two f.words p)
    two_sane m p e h = by_words f.words refl where
      by_words : (ws : List ℕ) → f.words ≡ ws → Sane bs (two ws p)
      by_words [] q = absurd (true≢false (sym finds ∙ ap is_some (e (shape_of f) ∙ ap (λ z. moves 2 m (with_length (length z))) q)))
      by_words (w ∷ []) q = absurd (true≢false (sym finds ∙ ap is_some (e (shape_of f) ∙ ap (λ z. moves 2 m (with_length (length z))) q)))
      by_words (w ∷ u ∷ ws) q = h u w ws (e (shape_of f) ∙ ap (λ z. moves 2 m (with_length (length z))) q)

    -- n operands are there
    pub operands : (n m : ℕ) → Moves n m → (d : ℕ) × (less n (length f.words) ≡ Some d)
    operands n m e = there_less (less n (length f.words)) (shape_of f) m (sym (ap is_some (e (shape_of f))) ∙ finds)

    pub moved_sane : (n : ℕ) (ws args : List ℕ) (d : ℕ) (p : List ℕ → List ℕ → Act) → less n (length ws) ≡ Some d
        → ((args' ws' : List ℕ) → length args' ≡ n + length args → length ws' ≡ d → Sane bs (p args' ws')) → Sane bs (moved n ws args p)
    moved_sane zero ws args d p e h = h args ws (omega arith) (same_Some (length ws) d e)
    moved_sane (suc n) [] args d p e h = absurd (cc)
    moved_sane (suc n) (w ∷ ws) args d p e h = moved_sane n ws (w ∷ args) d p e (λ args' ws' l m. h args' ws' (l ∙ omega arith) m)
