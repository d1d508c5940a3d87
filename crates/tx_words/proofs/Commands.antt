-- Where nothing fails, the words name one of the commands, and its matches have what it asks for.
use Rattle.std.proofs.Common.{◌≡◌, refl, sym, true, false, true≢false, List, [], Bool, codes, IfSome, is_some}
use Rattle.std.specs.Prelude.{not, ◌&&◌}
use Rattle.clap.proofs.OnLiterals.{clap_on_literals}
use Rattle.clap.specs.Walk.{Text, nothing_held, stop_after}
use Rattle.clap.specs.Faults.{fault_of}
use Rattle.clap.specs.Values.{IsUnsignedIn}
use Rattle.clap.proofs.ValueTestLemmas.{accepts-Accepts}
use Rattle.clap.specs.declared.builder.value_parser.ValueParser.TheVariants as vp
use Rattle.clap.specs.Simple.{Shape, built, names_of, argument_words, built_leaf, inherited, with_leaf_noted, marked_built, subcommand_of}
use Rattle.tx_words.specs.Line.{txcc_app, run_app, check_app, selftest_app, build_app, exec_app, replay_app, dis_app, asm_app, races_app, explain_app}
use Rattle.tx_words.specs.Reads.{Fits, FitsRun, FitsCheck, FitsSelftest, FitsBuild, FitsExec, FitsReplay, FitsAsm, FitsRaces, HasText, HasTexts}
use Rattle.tx_words.proofs.Walks.{nil_both}
use Rattle.tx_words.proofs.Tops.{Passes, after, text_at, texts_at, number_at, one_at, flag_text, Each, entered_ok, level_checked}

-- a command as it stands in the whole command line
abbrev pub in_line : Shape → Shape
in_line s = built_leaf (inherited (with_leaf_noted (marked_built txcc_app.top)) s)

run_fits : (ws : List Text) → Passes (in_line run_app.top) ws → FitsRun (after (in_line run_app.top) ws)
unfolding clap_on_literals txcc_app
run_fits ws e = record {
  steps = one_at (IsUnsignedIn 0 4000000) (in_line run_app.top) 0 ws refl refl (accepts-Accepts false (vp.Unsigned 0 4000000)) e;
  folds = one_at _ (in_line run_app.top) 6 ws refl refl flag_text e;
  sources = texts_at (in_line run_app.top) 7 ws refl refl e;
}

check_fits : (ws : List Text) → Passes (in_line check_app.top) ws → FitsCheck (after (in_line check_app.top) ws)
unfolding clap_on_literals txcc_app
check_fits ws e = record {
  dumps = one_at _ (in_line check_app.top) 0 ws refl refl flag_text e;
  sources = texts_at (in_line check_app.top) 1 ws refl refl e;
}

selftest_fits : (ws : List Text) → Passes (in_line selftest_app.top) ws → FitsSelftest (after (in_line selftest_app.top) ws)
unfolding clap_on_literals txcc_app
selftest_fits ws e = record {
  size = one_at (IsUnsignedIn 1 400) (in_line selftest_app.top) 0 ws refl refl (accepts-Accepts false (vp.Unsigned 1 400)) e;
  given = number_at (in_line selftest_app.top) 0 ws refl refl refl e;
}

build_fits : (ws : List Text) → Passes (in_line build_app.top) ws → FitsBuild (after (in_line build_app.top) ws)
unfolding clap_on_literals txcc_app
build_fits ws e = record {
  folds = one_at _ (in_line build_app.top) 0 ws refl refl flag_text e;
  to = text_at (in_line build_app.top) 1 ws refl refl refl e;
  source = text_at (in_line build_app.top) 2 ws refl refl refl e;
}

exec_fits : (ws : List Text) → Passes (in_line exec_app.top) ws → FitsExec (after (in_line exec_app.top) ws)
unfolding clap_on_literals txcc_app
exec_fits ws e = record {
  steps = one_at (IsUnsignedIn 0 4000000) (in_line exec_app.top) 0 ws refl refl (accepts-Accepts false (vp.Unsigned 0 4000000)) e;
  objects = texts_at (in_line exec_app.top) 6 ws refl refl e;
}

replay_fits : (ws : List Text) → Passes (in_line replay_app.top) ws → FitsReplay (after (in_line replay_app.top) ws)
unfolding clap_on_literals txcc_app
replay_fits ws e = record {
  cost = one_at (IsUnsignedIn 0 100000000) (in_line replay_app.top) 1 ws refl refl (accepts-Accepts false (vp.Unsigned 0 100000000)) e;
  order = text_at (in_line replay_app.top) 2 ws refl refl refl e;
  sources = texts_at (in_line replay_app.top) 3 ws refl refl e;
}

dis_fits : (ws : List Text) → Passes (in_line dis_app.top) ws → HasText (codes "object") (after (in_line dis_app.top) ws)
unfolding clap_on_literals txcc_app
dis_fits ws e = text_at (in_line dis_app.top) 0 ws refl refl refl e

asm_fits : (ws : List Text) → Passes (in_line asm_app.top) ws → FitsAsm (after (in_line asm_app.top) ws)
unfolding clap_on_literals txcc_app
asm_fits ws e = record {
  to = text_at (in_line asm_app.top) 0 ws refl refl refl e;
  text = text_at (in_line asm_app.top) 1 ws refl refl refl e;
}

races_fits : (ws : List Text) → Passes (in_line races_app.top) ws → FitsRaces (after (in_line races_app.top) ws)
unfolding clap_on_literals txcc_app
races_fits ws e = record {
  run = record {
    steps = one_at (IsUnsignedIn 0 4000000) (in_line races_app.top) 0 ws refl refl (accepts-Accepts false (vp.Unsigned 0 4000000)) e;
    folds = one_at _ (in_line races_app.top) 6 ws refl refl flag_text e;
    sources = texts_at (in_line races_app.top) 8 ws refl refl e;
  };
  report = text_at (in_line races_app.top) 7 ws refl refl refl e;
}

explain_fits : (ws : List Text) → Passes (in_line explain_app.top) ws → HasText (codes "rule") (after (in_line explain_app.top) ws)
unfolding clap_on_literals txcc_app
explain_fits ws e = text_at (in_line explain_app.top) 0 ws refl refl refl e

each : Each (λ p. Fits p.0 p.1) (built txcc_app).subs
unfolding clap_on_literals txcc_app
each = (run_fits, (check_fits, (selftest_fits, (build_fits, (exec_fits, (replay_fits, (dis_fits, (asm_fits, (races_fits, (explain_fits, tt))))))))))

-- what the code asks of the matches
pub entered_fits : (words : List Text) → fault_of txcc_app words ≡ [] → IfSome (subcommand_of txcc_app words) (λ p. Fits p.0 p.1)
entered_fits words e = entered_ok (λ p. Fits p.0 p.1) (built txcc_app)
    (stop_after (built txcc_app).top.rules (names_of (built txcc_app)) (argument_words txcc_app words)) each (nil_both _ _ (nil_both _ _ e).1).0

top_required : (built txcc_app).top.subcommand_required ≡ true
unfolding txcc_app
top_required = refl

-- the subcommand is there
pub is_there : (words : List Text) → fault_of txcc_app words ≡ [] → is_some (subcommand_of txcc_app words) ≡ true
is_there words e = go (is_some (subcommand_of txcc_app words)) (built txcc_app).top.subcommand_required top_required
    (level_checked (built txcc_app).top (names_of (built txcc_app)) nothing_held (argument_words txcc_app words) (is_some (subcommand_of txcc_app words)) _ e).0
  where
    go : (t r : Bool) → r ≡ true → (not t && r) ≡ false → t ≡ true
    go true r e f = refl
    go false true e f = absurd (true≢false f)
    go false false e f = absurd (true≢false (sym e))
