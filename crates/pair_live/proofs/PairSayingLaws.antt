-- One saying more to a pair that has answered what was said (IsPairAnswered): a cut, a mend, an item.
use Rattle.std.proofs.Common.{◌≡◌, ℕ, ◌<◌, ◌≤◌, List, [], ◌∷◌, ◌++◌, length, slice_index_or, slice_set, refl}
use Rattle.std.proofs.Common.{sym, ◌∙◌, ap, ap₂, subst, arith}
use Rattle.std.proofs.lemmas.List.{length-map}
use Rattle.law_model.specs.declared.script_types.Config.{Config}
use Rattle.law_model.specs.declared.script_types.Script.{Script}
use Rattle.law_model.specs.declared.window_types.Window.{Window}
use Rattle.law_pair.specs.Common.{counts_on, pair_plan}
use Rattle.law_pair.specs.declared.pair_events.Way.{Way}
use Rattle.law_pair.specs.declared.pair_events.Way.TheVariants.{There, Back}
use Rattle.law_live.specs.Common.{CanSay, IsPairSaid, LineCourse, Live, PairSaying, both_said, config_on, course_at}
use Rattle.law_live.specs.Common.{cut_at, cuts, cuts_on, leg_on, mended_at, mends, mends_on, opened, pair_counts}
use Rattle.law_live.specs.Common.{said_on, script_on, uncut, waiting_at, windows_by}
use Rattle.law_live.proofs.WellSaidLegAndWindowLaws.{IsOpen, right-all, right-opened, said-lines}
use Rattle.member_path.specs.failure_window.OpenWindows.{CanClose, closed_at, last_end, opened_at}
use Rattle.walk_engine.specs.walk_core.WayParts.{windows_of}
use Rattle.walk_live.proofs.AnsweredWalkAndSayingLaws.{can-one}
use Rattle.walk_live.proofs.SaidItemAndFailureLaws.{can-mend, cut-windows, mend-windows, over-end, set-windows}
use Rattle.walk_live.proofs.SaidItemAndFailureLaws.{uncut-windows}
use Rattle.walk_live.specs.declared.asked.Asked.{Asked}
use Rattle.pair_engine.specs.LivePairs.{IsLivePair, PairLives, PairWalking, walking_counts, walking_on, way_beside}
use Rattle.pair_engine.specs.LivePairs.{windows_of_way}
use Rattle.pair_live.specs.PairAnswered.{ArePairOf, IsPairAnswered, live_said_on, numbers_on}
use Rattle.pair_live.specs.declared.answered_pair.AnsweredPair.{AnsweredPair}
use Rattle.pair_live.proofs.PairStandLaws.{by-way, counts-then, cuts-beside, cuts-own, each-way, fewer, live-beside}
use Rattle.pair_live.proofs.PairStandLaws.{live-own, mends-beside, mends-own, network-on, own-pair, stands-on}
use Rattle.pair_live.proofs.PairStandLaws.{walks-pair, well-own}

-- ---- how it stands
module _ (pair : AnsweredPair) (asked : Asked) (there back : Config) (said : List PairSaying)
    (is : IsPairAnswered pair asked there back said)
  where
    abbrev one_said : Script
    one_said = script_on there There said

    abbrev other_said : Script
    other_said = script_on back Back said

    are-own : ArePairOf there back said one_said other_said
    are-own = own-pair there back said is.network is.well

    pub now-live : IsLivePair pair.pair
    now-live = (one_said, other_said, is.walks.lives one_said other_said are-own)

    pub now-ticks : (way : Way) → (counts_on (walking_counts pair.pair) way).ticks
        ≡ (live_said_on there back way said).passed
    now-ticks way =
        ap (λ s. (counts_on s way).ticks) (is.walks.counts one_said other_said are-own)
        ∙ (stands-on there back said one_said other_said are-own is.well way).ticks

    now-low : (way : Way) (m : ℕ) → m < length (live_said_on there back way said).courses →
        m < (config_on there back way).lines
    now-low way m inside =
        let all = said-lines (config_on there back way) (said_on way said) (network-on there back is.network way)
        (is.well way) in
        omega (arith, inside, all)

    now-line : (way : Way) (m : ℕ) → m < length (live_said_on there back way said).courses →
        m < length (walking_on pair.pair way).core.lines
    now-line way m inside =
        let low = now-low way m inside in
        let own = is.walks.lines way in
        omega (arith, low, own)

    -- the windows of a line, as they were said
    now-windows : (way : Way) (m : ℕ) → m < length (live_said_on there back way said).courses →
        slice_index_or (windows_of_way pair.pair way) m []
        ≡ windows_by (config_on there back way).ticks (course_at (live_said_on there back way said) m)
    now-windows way m inside = is.walks.windows way m (now-low way m inside)

    -- a line has other windows, and it is another course
    module _ (saying : PairSaying) (well : IsPairSaid there back (said ++ saying ∷ [])) (of : Way) (m : ℕ)
        (course : LineCourse) (windows : List Window) (now : PairWalking)
      where
        line-answered : m < length (live_said_on there back of said).courses →
            ((one other : Script) →
            both_said (pair_plan one other) (pair_counts one other said) saying ≡ pair_counts one other said) →
            live_said_on there back of (said ++ saying ∷ [])
            ≡ record (live_said_on there back of said) {
              courses =
                  slice_set (live_said_on there back of said).courses m course;
            } →
            live_said_on there back (way_beside of) (said ++ saying ∷ [])
            ≡ live_said_on there back (way_beside of) said →
            windows ≡ windows_by (config_on there back of).ticks course →
            ((one other : Script) → PairLives one other pair.pair → PairLives one other now) →
            walking_counts now ≡ walking_counts pair.pair →
            windows_of_way now of ≡ slice_set (windows_of_way pair.pair of) m windows →
            windows_of_way now (way_beside of) ≡ windows_of_way pair.pair (way_beside of) →
            IsPairAnswered (record pair { pair = now }) asked there back (said ++ saying ∷ [])
        line-answered inside none after beside same lives counts set still =
            let size = length-map (walking_on pair.pair of).core.lines windows_of in
            let low = now-line of m inside in
            let items : (way : Way) → length (live_said_on there back way (said ++ saying ∷ [])).items
            ≡ length (live_said_on there back way said).items =
            each-way (λ way. length (live_said_on there back way (said ++ saying ∷ [])).items
            ≡ length (live_said_on there back way said).items) of
            (ap (λ (l : Live). length l.items) after) (ap (λ (l : Live). length l.items) beside) in
            let passed : (way : Way) → (live_said_on there back way (said ++ saying ∷ [])).passed
            ≡ (live_said_on there back way said).passed =
            each-way (λ way. (live_said_on there back way (said ++ saying ∷ [])).passed
            ≡ (live_said_on there back way said).passed) of
            (ap (λ (l : Live). l.passed) after) (ap (λ (l : Live). l.passed) beside) in
            let all : (way : Way) (n : ℕ) → n < (config_on there back way).lines →
            slice_index_or (windows_of_way now way) n []
            ≡ windows_by (config_on there back way).ticks
            (course_at (live_said_on there back way (said ++ saying ∷ [])) n) =
            each-way (λ way. (n : ℕ) → n < (config_on there back way).lines →
            slice_index_or (windows_of_way now way) n []
            ≡ windows_by (config_on there back way).ticks
            (course_at (live_said_on there back way (said ++ saying ∷ [])) n)) of
            (λ n few.
            ap (λ l. slice_index_or l n []) set
            ∙ set-windows (config_on there back of).ticks (config_on there back of).lines m
            (windows_of_way pair.pair of)
            (live_said_on there back of said).courses windows course (omega (arith, size, low)) inside same
            (is.walks.windows of) n few
            ∙ sym (ap (λ (l : Live). windows_by (config_on there back of).ticks (course_at l n)) after))
            (λ n few.
            ap (λ l. slice_index_or l n []) still ∙ is.walks.windows (way_beside of) n few
            ∙ sym (ap (λ (l : Live). windows_by (config_on there back (way_beside of)).ticks (course_at l n))
            beside)) in
            record {
              network = is.network;
              well = well;
              walks = walks-pair there back (said ++ saying ∷ []) now is.network well
                  (λ one other are.
                  lives one other (is.walks.lives one other (fewer there back said (saying ∷ []) one other well are)))
                  (λ one other are.
                  counts ∙ is.walks.counts one other (fewer there back said (saying ∷ []) one other well are)
                  ∙ sym (counts-then one other said saying ∙ none one other))
                  all;
              lines = by-way (λ way. (numbers_on (record pair { pair = now }) way).lines
                  ≡ (config_on there back way).lines)
                  (is.lines There) (is.lines Back);
              items = by-way (λ way. (numbers_on (record pair { pair = now }) way).items
                  ≡ length (live_said_on there back way (said ++ saying ∷ [])).items)
                  (is.items There ∙ sym (items There)) (is.items Back ∙ sym (items Back));
              waiting = by-way (λ way. (one other : Script) → ArePairOf there back (said ++ saying ∷ []) one other →
                  (numbers_on (record pair { pair = now }) way).waiting
                  ≡ waiting_at (leg_on one other way) (live_said_on there back way (said ++ saying ∷ [])).passed)
                  (λ one other are.
                  is.waiting There one other (fewer there back said (saying ∷ []) one other well are)
                  ∙ sym (ap (waiting_at (leg_on one other There)) (passed There)))
                  (λ one other are.
                  is.waiting Back one other (fewer there back said (saying ∷ []) one other well are)
                  ∙ sym (ap (waiting_at (leg_on one other Back)) (passed Back)));
              tells = is.tells;
            }

    -- ---- a cut
    module _ (of : Way) (m : ℕ) (well : IsPairSaid there back (said ++ cuts_on of m ∷ [])) where
      cut-can : CanSay (config_on there back of).ticks (live_said_on there back of said) (cuts m)
      cut-can =
          can-one (config_on there back of) (said_on of said) (cuts m)
          (well-own (config_on there back of) of said (cuts_on of m) (cuts m) (cuts-own of m) (well of))

      pub cut-line : m < length (walking_on pair.pair of).core.lines
      cut-line = now-line of m cut-can.0.line

      pub cut-few : length (slice_index_or (windows_of_way pair.pair of) m []) < 256
      cut-few =
          let can = cut-can in
          let course : LineCourse = course_at (live_said_on there back of said) m in
          subst (λ l. length l < 256)
          (sym (now-windows of m can.0.line ∙ uncut-windows (config_on there back of).ticks course can.1.uncut))
          can.1.few

      pub cut-after : last_end (slice_index_or (windows_of_way pair.pair of) m [])
          ≤ (counts_on (walking_counts pair.pair) of).ticks
      cut-after =
          let can = cut-can in
          let live : Live = live_said_on there back of said in
          let course : LineCourse = course_at live m in
          let low : last_end (slice_index_or (windows_of_way pair.pair of) m []) ≤ live.passed =
          subst (λ l. last_end l ≤ live.passed)
          (sym (now-windows of m can.0.line ∙ uncut-windows (config_on there back of).ticks course can.1.uncut))
          (over-end live.passed course.windows can.1.over) in
          let ticks = now-ticks of in
          omega (arith, low, ticks)

      pub cut-left : (counts_on (walking_counts pair.pair) of).ticks < (walking_on pair.pair of).core.source.total
      cut-left =
          let left = cut-can.0.left in
          let ticks = now-ticks of in
          let total = is.walks.total of in
          omega (arith, left, ticks, total)

      pub cut-answered : (now : PairWalking) →
          ((one other : Script) → PairLives one other pair.pair → PairLives one other now) →
          walking_counts now ≡ walking_counts pair.pair →
          windows_of_way now of ≡ slice_set (windows_of_way pair.pair of) m
          (opened_at (slice_index_or (windows_of_way pair.pair of) m []) (counts_on (walking_counts pair.pair) of).ticks
          (walking_on pair.pair of).core.source.total) →
          windows_of_way now (way_beside of) ≡ windows_of_way pair.pair (way_beside of) →
          IsPairAnswered (record pair { pair = now }) asked there back (said ++ cuts_on of m ∷ [])
      cut-answered now lives counts set still =
          let can = cut-can in
          let live : Live = live_said_on there back of said in
          let own = slice_index_or (windows_of_way pair.pair of) m [] in
          line-answered (cuts_on of m) well of m (cut_at live.passed (course_at live m))
          (opened_at own (counts_on (walking_counts pair.pair) of).ticks (walking_on pair.pair of).core.source.total)
          now
          can.0.line (λ one other. refl)
          (live-own (config_on there back of) of said (cuts_on of m) (cuts m) (cuts-own of m))
          (live-beside (config_on there back (way_beside of)) (way_beside of) said (cuts_on of m) (cuts-beside of m))
          (ap₂ (opened_at own) (now-ticks of) (is.walks.total of)
          ∙ cut-windows (config_on there back of).ticks live.passed (course_at live m) own can.1.uncut can.0.left
          (now-windows of m can.0.line))
          lives counts set still

    -- ---- a mend
    module _ (of : Way) (m : ℕ) (well : IsPairSaid there back (said ++ mends_on of m ∷ [])) where
      mend-can : CanSay (config_on there back of).ticks (live_said_on there back of said) (mends m)
      mend-can =
          can-one (config_on there back of) (said_on of said) (mends m)
          (well-own (config_on there back of) of said (mends_on of m) (mends m) (mends-own of m) (well of))

      mend-open : IsOpen (live_said_on there back of said).passed
          (course_at (live_said_on there back of said) m).windows
          (course_at (live_said_on there back of said) m).cut
      mend-open =
          let config : Config = config_on there back of in
          ((right-all config (said_on of said) (opened config) (is.well of).each
          (right-opened config (network-on there back is.network of))).each m (uncut []) mend-can.0.line).open_

      pub mend-line : m < length (walking_on pair.pair of).core.lines
      mend-line = now-line of m mend-can.0.line

      pub mend-cut : CanClose (slice_index_or (windows_of_way pair.pair of) m [])
          (counts_on (walking_counts pair.pair) of).ticks
      mend-cut =
          let can = mend-can in
          let live : Live = live_said_on there back of said in
          let course : LineCourse = course_at live m in
          let own = slice_index_or (windows_of_way pair.pair of) m [] in
          subst (CanClose own) (sym (now-ticks of))
          (can-mend (config_on there back of).ticks live.passed course.windows course.cut own can.1 mend-open can.0.left
          (now-windows of m can.0.line))

      pub mend-answered : (now : PairWalking) →
          ((one other : Script) → PairLives one other pair.pair → PairLives one other now) →
          walking_counts now ≡ walking_counts pair.pair →
          windows_of_way now of ≡ slice_set (windows_of_way pair.pair of) m
          (closed_at (slice_index_or (windows_of_way pair.pair of) m []) (counts_on (walking_counts pair.pair)
          of).ticks) →
          windows_of_way now (way_beside of) ≡ windows_of_way pair.pair (way_beside of) →
          IsPairAnswered (record pair { pair = now }) asked there back (said ++ mends_on of m ∷ [])
      mend-answered now lives counts set still =
          let can = mend-can in
          let live : Live = live_said_on there back of said in
          let course : LineCourse = course_at live m in
          let own = slice_index_or (windows_of_way pair.pair of) m [] in
          line-answered (mends_on of m) well of m (mended_at live.passed course)
          (closed_at own (counts_on (walking_counts pair.pair) of).ticks) now can.0.line (λ one other. refl)
          (live-own (config_on there back of) of said (mends_on of m) (mends m) (mends-own of m))
          (live-beside (config_on there back (way_beside of)) (way_beside of) said (mends_on of m) (mends-beside of m))
          (ap (closed_at own) (now-ticks of)
          ∙ mend-windows (config_on there back of).ticks live.passed course.windows course.cut own can.1 mend-open
          can.0.left
          (now-windows of m can.0.line))
          lives counts set still
