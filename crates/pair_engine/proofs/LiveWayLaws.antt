-- What a way of a pair holds for two scripts (WayLives): before any event, where it stays as it was, and beside the
-- other one (LiveBeside).
use Rattle.std.proofs.Common.{◌≡◌, ℕ, ◌+◌, ◌-◌, ◌*◌, ◌≤◌, [], map, Option, None, refl, sym, ◌∙◌, ap, ap₂, subst, arith}
use Rattle.std.specs.List.{range_with_len}
use Rattle.law_model.specs.Common.{Counts, IsNetwork, Leg, begin, greatest, greatest_slip, told_in, used_in}
use Rattle.law_model.specs.declared.script_types.Config.{Config}
use Rattle.law_model.specs.declared.script_types.Script.{Script}
use Rattle.law_model.specs.session.Scenario.{packets_in}
use Rattle.terminal_group.specs.ReturnInbox.{Inbox, empty_inbox}
use Rattle.law_walk.specs.Common.{back_cell, last_packet, said_packet, walk_plan}
use Rattle.law_pair.specs.Common.{IsPair, IsPairWalked, IsWay, PairPlan, PairCounts, pair_begin, pair_plan, way_of}
use Rattle.law_pair.specs.Common.{with_lag}
use Rattle.law_pair.proofs.PairWayAndPacketLaws.{has-pair-plan, pair-turned, way-sound}
use Rattle.law_pair.proofs.ReachedPairAndStallLaws.{goes-near}
use Rattle.law_pair.proofs.PairMeasureAndDrainLaws.{IsNear, is-near, pair-begins, walks-fits}
use Rattle.walk_engine.specs.walk_core.WayParts.{WayStands}
use Rattle.walk_engine.specs.Common.{IsAlike, counts_of, note_of}
use Rattle.walk_engine.specs.declared.walk_core.step_answers.StepNote.{StepNote}
use Rattle.pair_engine.specs.LivePairs.{IsShownAs, LiveBeside, PairLives, PairWalking, WayLives, WayWalking, way_walked}
use Rattle.pair_engine.specs.LivePairs.{walking_counts}
use Rattle.pair_engine.specs.ToldAndHeard.{Meets, Said, cell_shown, heard_in}
use Rattle.pair_engine.specs.WayCalls.{IsStill}
use Rattle.pair_engine.specs.Ways.{CanOpen, IsNewLive, with_both_lags}

-- ---- where nothing of it was seen
pub meets-same : (script other : Script) (other_rows rows rows_now ticks ticks_now : ℕ) (said said_now : Said)
    (inbox inbox_now : Inbox) →
    said_now ≡ said → ticks_now ≡ ticks → inbox_now ≡ inbox → rows_now ≡ rows →
    Meets script other rows other_rows ticks said inbox →
    Meets script other rows_now other_rows ticks_now said_now inbox_now
meets-same script other other_rows rows rows_now ticks ticks_now said said_now inbox inbox_now b c d e is =
    subst (λ (x : Said). Meets script other rows_now other_rows ticks_now x inbox_now) (sym b)
    (subst (λ n. Meets script other rows_now other_rows n said inbox_now) (sym c)
    (subst (λ (x : Inbox). Meets script other rows_now other_rows ticks said x) (sym d)
    (subst (λ n. Meets script other n other_rows ticks said inbox) (sym e) is)))

-- the last decision step is as it was
pub noted-same : (leg : Leg) (last now : Option StepNote) (ticks ticks_now : ℕ) → now ≡ last → ticks_now ≡ ticks →
    IsShownAs last (note_of leg (last_packet ticks)) → IsShownAs now (note_of leg (last_packet ticks_now))
noted-same leg last now ticks ticks_now same at is =
    subst (λ (note : Option StepNote). IsShownAs note (note_of leg (last_packet ticks_now))) (sym same)
    (subst (λ n. IsShownAs last (note_of leg (last_packet n))) (sym at) is)

-- a way that moved so
pub still-lives : (script other : Script) (rows : ℕ) (was now : WayWalking) → WayLives script other rows was →
    IsStill was now → WayStands (way_of script other) (packets_in now.core.sink.taken) now.core →
    WayLives script other rows now
still-lives script other rows was now is still stands = record {
  lag = still.lag ∙ is.lag;
  stands = stands;
  meets = meets-same script other rows was.core.sink.taken now.core.sink.taken was.core.source.core.ticks
      now.core.source.core.ticks was.said now.said was.core.source.inbox now.core.source.inbox still.said still.ticks
      still.inbox still.rows is.meets;
  noted = noted-same (way_of script other) was.last now.last was.core.source.core.ticks now.core.source.core.ticks
      still.last still.ticks is.noted;
}

-- and the other one, which sees its rows alone
pub seen-lives : (script other : Script) (rows now : ℕ) (own : WayWalking) → now ≡ rows →
    WayLives script other rows own → WayLives script other now own
seen-lives script other rows now own same is =
    subst (λ n. WayLives script other n own) (sym same) is

-- ---- of a pair
module _ (one other : Script) (pair : PairWalking) (lives : PairLives one other pair) where
  near : IsNear (pair_plan one other) (walking_counts pair)
  near =
      let plan : PairPlan = pair_plan one other in
      let s : PairCounts = walking_counts pair in
      let is = has-pair-plan one other lives.fits in
      is-near plan s is (goes-near plan s is lives.walked)

  pub ticks-together : pair.there.core.source.core.ticks ≡ pair.back.core.source.core.ticks
  ticks-together = near.together

  pub there-beside : LiveBeside one other pair.there pair.back
  there-beside = record {
    pair = lives.fits;
    own_way = lives.there_way;
    other_way = lives.back_way;
    together = near.together;
    told = let plan : PairPlan = pair_plan one other in
        (walks-fits (with_lag plan.lag plan.there) (walking_counts pair).there near.there).used;
  }

  pub back-beside : LiveBeside other one pair.back pair.there
  back-beside = record {
    pair = pair-turned one other lives.fits;
    own_way = lives.back_way;
    other_way = lives.there_way;
    together = sym near.together;
    told = let plan : PairPlan = pair_plan one other in
        subst (λ lag. used_in lag pair.back.core.source.core.ticks ≤ packets_in pair.back.core.sink.taken)
        lives.fits.lag (walks-fits (with_lag plan.lag plan.back) (walking_counts pair).back near.back).used;
  }

-- ---- before any event
-- nothing was said
abbrev none_said : ℕ → Said
none_said room = record { packets = []; room = room }

-- a network with twice the lag is one
pub both-lags : (config : Config) → CanOpen config → IsNetwork (with_both_lags config)
both-lags config is =
    let network = is.network in
    let near = is.near in
    let some = network.lag.0 in
    let fits = network.fits_lag in
    record {
      lines = network.lines;
      delay_each = network.delay_each;
      delays = network.delays;
      windows_each = network.windows_each;
      windows = network.windows;
      lost = network.lost;
      ring = network.ring;
      lag = (omega (arith, some), omega (arith, near));
      ticks = network.ticks;
      size = network.size;
      options = network.options;
      fits_ring = network.fits_ring;
      fits_lag = let doubled : 16 + greatest config.delays + greatest_slip config.windows ≤ 16 * (2 * config.lag) =
          omega (arith, fits) in doubled;
    }

-- a leg of a script over a network
pub way-alike : (config : Config) (script other : Script) → IsWay script →
    script.config ≡ record config { windows = script.config.windows } →
    IsAlike (way_of script other) (with_both_lags config)
way-alike config script other is over = record {
  sound = way-sound script other is;
  network = ap (λ (c : Config). record c {
    lost = (way_of script other).config.lost;
    windows = script.config.windows;
    lag = 2 * c.lag;
  }) over;
}

module _ (config : Config) (script other : Script) (own : WayWalking) (same : script.config.lag ≡ config.lag)
    (alike : IsAlike (way_of script other) (with_both_lags config)) (new : IsNewLive config own) where
  abbrev leg : Leg
  leg = way_of script other

  pub no-rows : own.core.sink.taken ≡ 0
  no-rows = ap (λ (s : Counts). s.rows) (new.counts leg alike)

  no-packets : packets_in own.core.sink.taken ≡ 0
  no-packets = ap packets_in no-rows

  pub new-counts : way_walked own ≡ begin (walk_plan (way_of script other))
  new-counts = ap (λ n. counts_of own.core n) no-packets ∙ new.counts leg alike

  new-meets : Meets script other 0 0 0 (none_said script.config.lag)
      (empty_inbox [] (2 * script.config.lag))
  new-meets =
      let lag = script.config.lag in
      let u = used_in lag 0 in
      let v = used_in (2 * lag) 0 in
      let none : packets_in 0 - u ≡ 0 = omega arith in
      let still : heard_in lag 0 - v ≡ 0 = omega arith in
      record {
        packets = sym (ap (λ n. map (said_packet leg) (range_with_len u n)) none);
        room = refl;
        heard = record {
          lost = refl;
          room = refl;
          come = let e : 0 ≡ heard_in lag 0 = omega arith in e;
          tells = sym (ap (λ n. map told_in (map (back_cell leg) (range_with_len v n))) still);
          shown = sym (ap (λ n. map cell_shown (map (back_cell leg) (range_with_len v n))) still);
        };
      }

  pub new-lives : (rows : ℕ) → rows ≡ 0 → WayLives script other rows own
  new-lives rows none = record {
    lag = new.lag ∙ sym same;
    stands = subst (λ n. WayStands leg n own.core) (sym no-packets) (new.stands leg alike);
    meets = subst (λ n. Meets script other own.core.sink.taken n own.core.source.core.ticks own.said
        own.core.source.inbox) (sym none)
        (meets-same script other 0 0 own.core.sink.taken 0 own.core.source.core.ticks
        (none_said script.config.lag) own.said
        (empty_inbox [] (2 * script.config.lag)) own.core.source.inbox
        (new.said ∙ ap none_said (sym same))
        (ap (λ (s : Counts). s.ticks) (new.counts leg alike))
        (new.inbox ∙ ap (λ n. empty_inbox [] (2 * n)) (sym same)) no-rows new-meets);
    noted = noted-same leg None own.last 0 own.core.source.core.ticks new.last
        (ap (λ (s : Counts). s.ticks) (new.counts leg alike)) refl;
  }

-- ---- both ways
module _ (there back : Config) (one other : Script) (pair : PairWalking) (fits : IsPair one other)
    (there_same : one.config.lag ≡ there.lag) (back_same : other.config.lag ≡ back.lag)
    (there_alike : IsAlike (way_of one other) (with_both_lags there))
    (back_alike : IsAlike (way_of other one) (with_both_lags back)) (there_new : IsNewLive there pair.there)
    (back_new : IsNewLive back pair.back) where
  pub new-pair-counts : walking_counts pair ≡ pair_begin (pair_plan one other)
  new-pair-counts =
      ap₂ (λ (s t : Counts). record { there = s; back = t })
      (new-counts there one other pair.there there_same there_alike there_new)
      (new-counts back other one pair.back back_same back_alike back_new)

  pub new-pair-lives : PairLives one other pair
  new-pair-lives = record {
    fits = fits;
    walked = subst (IsPairWalked one other) (sym new-pair-counts) (pair-begins (pair_plan one other));
    there_way = new-lives there one other pair.there there_same there_alike there_new pair.back.core.sink.taken
        (no-rows back other one pair.back back_same back_alike back_new);
    back_way = new-lives back other one pair.back back_same back_alike back_new pair.there.core.sink.taken
        (no-rows there one other pair.there there_same there_alike there_new);
  }
