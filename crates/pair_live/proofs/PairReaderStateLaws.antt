-- What a reader of live lines of both ways keeps and tells stands for what these lines say.
use Rattle.std.proofs.Common.{◌≡◌, ◌∙◌, ℕ, ◌+◌, Bool, true, false, List, [], ◌∷◌, ap, ap₂}
use Rattle.std.proofs.Common.{sym, subst, refl, inr, Option, None, Some, option_map, is_none, if◌then◌else◌}
use Rattle.std.specs.Prelude.{IsSome, IfSome, unwrap_or}
use Rattle.std.specs.Option.{option_or}
use Rattle.text_lines.specs.WordsOfLine.{word_at, number_of}
use Rattle.text_lines.specs.Fields.{where_true}
use Rattle.text_lines.proofs.TextLineAndWordLaws.{or_none}
use Rattle.law_model.specs.declared.script_types.Config.{Config}
use Rattle.law_model.specs.declared.script_types.Script.{Script}
use Rattle.text_scripts.specs.declared.script_read.script_draft.Draft.{Draft}
use Rattle.text_scripts.specs.declared.script_read.script_fault.LineFault.{LineFault}
use Rattle.text_scripts.specs.declared.script_read.script_reader.ScriptReader.{ScriptReader}
use Rattle.text_scripts.specs.script_read.Statements.{at_first}
use Rattle.text_scripts.specs.script_read.Script.{missing_line, script_in}
use Rattle.text_scripts.specs.script_read.ScriptInPieces.{next_number, drafted, IsUntested}
use Rattle.law_pair.specs.declared.pair_events.Way.{Way}
use Rattle.law_pair.specs.declared.pair_events.Way.TheVariants.{There, Back}
use Rattle.law_live.specs.Common.{Live, PairSaying, config_on, live_after, opened, passes, both_pass}
use Rattle.text_live.specs.declared.live_keyword.LiveKeyword.{LiveKeyword}
use Rattle.text_live.specs.declared.live_keyword.LiveKeyword.TheVariants as word
use Rattle.text_live.specs.declared.live_keyword.FirstWord.TheVariants as first
use Rattle.text_live.specs.declared.live_line.LiveLine.{LiveLine}
use Rattle.text_live.specs.declared.read_live_line.LiveState.{LiveState}
use Rattle.text_live.specs.LiveLines.{value_fault, live_said, happens as one_happens}
use Rattle.text_live.specs.LiveReaderStands.{Keeps, Reads, IsLiveLine, told_line}
use Rattle.text_live.specs.declared.live_line.LiveLine.TheVariants as one_line
use Rattle.text_live.proofs.LiveReaderStateLaws.{by_keyword, one_fine}
use Rattle.text_pairs.specs.declared.script_pair.PairFault.{PairFault}
use Rattle.text_pairs.specs.PairOfText.{limits_fault}
use Rattle.pair_live.specs.declared.live_pair_fault.PairLineFault.{PairLineFault}
use Rattle.pair_live.specs.declared.live_pair_fault.PairLineFault.TheVariants as line_wrong
use Rattle.pair_live.specs.declared.live_pair_fault.LivePairFault.{LivePairFault}
use Rattle.pair_live.specs.declared.live_pair_fault.LivePairFault.TheVariants as text_wrong
use Rattle.pair_live.specs.declared.live_pair_line.LivePairLine.{LivePairLine}
use Rattle.pair_live.specs.declared.live_pair_line.LivePairLine.TheVariants as line
use Rattle.pair_live.specs.declared.read_pair_line.BothStates.{BothStates}
use Rattle.pair_live.specs.declared.live_pair_reader.LivePairReader.{LivePairReader}
use Rattle.pair_live.specs.PairLines.{BothLive, PairSaid, PairWrong, of_script, of_limits, of_live, undivided}
use Rattle.pair_live.specs.PairLines.{nothing, happens, there_config, back_config, config_in, live_on}
use Rattle.pair_live.specs.PairLines.{pair_divides, settings_pair, opening_by, pair_opening_fault}
use Rattle.pair_live.specs.PairLines.{both_or, both_now, both_after, way_named, way_said, way_fault, way_line_fault}
use Rattle.pair_live.specs.PairLines.{pass_fault, is_pass, pair_rest_fault, pair_fault_by, pair_line_fault}
use Rattle.pair_live.specs.PairLines.{of_way, pair_live_told, pair_told_by, pair_told, pair_with, pair_said_with}
use Rattle.pair_live.specs.PairLines.{pair_line_after}
use Rattle.pair_live.specs.PairReaderStands.{KeepsBoth, KeepsPair, ReadsBoth, IsPairToldAt, IsPairAt}
use Rattle.pair_live.specs.PairReaderStands.{ReadsPairLine, StopsPair, HandsOutBoth, SaysPair, SaysLive, SaysSettings}
use Rattle.pair_live.specs.PairReaderStands.{pair_failure, pair_number, pair_frame, pair_opened, told_pair_line}
use Rattle.pair_live.specs.PairReaderStands.{told_of_way}
use Rattle.pair_live.proofs.PairLineSayingsLaws.{after_on, after_pass, after_way, stays_after, stays_fault}

-- ---- A live line.
abbrev live_with : PairSaid → LiveKeyword → List (List ℕ) → Option PairWrong → Option PairWrong
live_with s k ws opening = option_or opening (option_map of_live (pair_rest_fault s k ws))

live_fault : (s : PairSaid) (ws rest : List (List ℕ)) (k : LiveKeyword) → pair_divides s ws ≡ false →
    IsLiveLine ws k rest → pair_line_fault s ws ≡ live_with s k rest (pair_opening_fault s)
live_fault s ws rest k stays is =
    stays_fault s ws stays ∙ by_keyword None (pair_fault_by s ws) ws rest k is
    ∙ ap (λ (ws : List (List ℕ)). live_with s k ws (pair_opening_fault s)) is.others

live_told_by : (ws rest : List (List ℕ)) (k : LiveKeyword) → IsLiveLine ws k rest →
    pair_told ws ≡ happens (pair_live_told k rest)
live_told_by ws rest k is =
    by_keyword nothing (pair_told_by ws) ws rest k is
    ∙ ap (λ (ws : List (List ℕ)). happens (pair_live_told k ws)) is.others

live_after_by : (n : ℕ) (s : PairSaid) (ws rest : List (List ℕ)) (k : LiveKeyword) → pair_divides s ws ≡ false →
    IsLiveLine ws k rest → pair_line_after n s ws ≡ pair_with s (pair_live_told k rest)
live_after_by n s ws rest k stays is = stays_after n s ws stays ∙ ap (pair_said_with n s ws) (live_told_by ws rest k is)

pub opening_stops : (n : ℕ) (s : PairSaid) (ws rest : List (List ℕ)) (k : LiveKeyword) (f : LivePairFault) →
    pair_divides s ws ≡ false → IsLiveLine ws k rest → IsPairToldAt n (pair_opening_fault s) f → StopsPair n s ws f
opening_stops n s ws rest k f stays is told =
    inr (record {
      wrong = told.wrong;
      fails = live_fault s ws rest k stays is ∙ ap (live_with s k rest) told.fails;
      is = told.is;
    })

pub rest_stops : (n : ℕ) (s : PairSaid) (ws rest : List (List ℕ)) (k : LiveKeyword) (f : PairLineFault) →
    pair_divides s ws ≡ false → IsLiveLine ws k rest → pair_opening_fault s ≡ None →
    pair_rest_fault s k rest ≡ Some f → StopsPair n s ws (text_wrong.Line n f)
rest_stops n s ws rest k f stays is none found =
    inr (record {
      wrong = of_live f;
      fails = live_fault s ws rest k stays is ∙ ap (live_with s k rest) none ∙ ap (option_map of_live) found;
      is = refl;
    })

-- ---- Where the reader stands.
pub begun_says : (before : Option Script) (settings : Option ScriptReader) (states : BothStates) (s : PairSaid) →
    is_none settings ≡ true → SaysPair before settings states s → SaysLive states s
begun_says before None states s begun says = says
begun_says before (Some reader) states s begun says = absurd cc

says_begun : (before : Option Script) (settings : Option ScriptReader) (states : BothStates) (s : PairSaid) →
    is_none settings ≡ true → SaysLive states s → SaysPair before settings states s
says_begun before None states s begun says = says
says_begun before (Some reader) states s begun says = absurd cc

-- what is kept is what is said by now
pub kept_by : (states : BothStates) (s : PairSaid) → SaysLive states (pair_opened s) → KeepsPair states s (both_now s)
kept_by states s says =
    let same : both_now s ≡ says.both = cc in
    subst (KeepsPair states s) (sym same) says.keeps

-- ---- The first live line.
first_is : (before : Option Draft) (there : Script) → Some there ≡ option_map script_in before →
    (there ≡ script_in (unwrap_or before at_first)) × (is_none before ≡ false)
first_is (Some d) there is = let same : there ≡ script_in d = cc in (same, refl)
first_is None there is = absurd cc

some_first : (first : Option Draft) → is_none first ≡ false → IsSome first
some_first (Some d) is = refl
some_first None is = absurd cc

abbrev opening_with : PairSaid → Option LineFault → Bool → Option PairWrong
opening_with s missing none =
    option_or (option_map of_script missing)
    (option_or (where_true none undivided) (option_map of_limits (limits_fault (settings_pair s))))

pub limits_told : (before : Option Script) (reader : ScriptReader) (s : PairSaid) (there back : Script)
    (f : PairFault) → SaysSettings before reader s → before ≡ Some there → missing_line (drafted reader) ≡ None →
    back ≡ script_in (drafted reader) → Some f ≡ limits_fault (record { there = there; back = back }) →
    IsPairToldAt (next_number reader) (opening_by None s) (text_wrong.Pair f)
limits_told before reader s there back f says some whole script found =
    let first = first_is s.first there (sym some ∙ says.before) in
    let missing : missing_line s.settings ≡ None = sym (ap missing_line says.now) ∙ whole in
    let pair : record { there = there; back = back } ≡ settings_pair s =
    ap₂ (λ (there back : Script). record { there = there; back = back }) first.0 (script ∙ ap script_in says.now) in
    record {
      wrong = of_limits f;
      fails = ap₂ (opening_with s) missing first.1
          ∙ ap (option_map of_limits) (sym (ap limits_fault pair) ∙ sym found);
      is = refl;
    }

pub untested_first : (before : Option Script) (there : Script) → before ≡ Some there → IfSome before IsUntested →
    IsUntested there
untested_first before there some are = subst (λ (o : Option Script). IfSome o IsUntested) some are

pub settings_says : (reader : LivePairReader) (n : ℕ) (s : PairSaid) (settings : ScriptReader)
    (before : Option Script) → IsPairAt reader n s → reader.settings ≡ Some settings → before ≡ reader.first → SaysSettings before settings s
settings_says reader n s settings before at some first =
    subst (λ (o : Option Script). SaysSettings o settings s) (sym first)
    (subst (λ (o : Option ScriptReader). SaysPair reader.first o reader.states s) some at.says)

opening_divided : (s : PairSaid) (none : Bool) → opening_with s (missing_line s.settings) none ≡ None → none ≡ false
opening_divided s false is = refl
opening_divided s true is =
    let parts = or_none (option_map of_script (missing_line s.settings)) (Some undivided) is in absurd cc

pub opened_says : (first : Option Script) (settings : Option ScriptReader) (states : BothStates) (s : PairSaid)
    (before : Option Script) (reader : ScriptReader) (configs : Config × Config) → settings ≡ None →
    SaysSettings before reader s → opening_by None s ≡ None → configs ≡ (there_config s, back_config s) →
    KeepsBoth states configs.0 configs.1 (record { there = opened configs.0; back = opened configs.1 }) →
    SaysPair first settings states (pair_opened s)
opened_says first settings states s before reader configs none says fine same keeps =
    subst (λ (o : Option ScriptReader). SaysPair first o states (pair_opened s)) (sym none)
    (record {
      both = both_now s;
      live = refl;
      divided = some_first s.first (opening_divided s (is_none s.first) fine);
      keeps = subst (KeepsPair states s) (sym (ap (λ (live : Option BothLive). both_or live s) says.live))
          (subst (λ (cs : Config × Config).
          KeepsBoth states cs.0 cs.1 (record { there = opened cs.0; back = opened cs.1 })) same keeps);
    })

-- ---- A live line that is read.
pub reads_live : (now : LivePairReader) (mid : BothStates) (n : ℕ) (s : PairSaid) (ws rest : List (List ℕ))
    (k : LiveKeyword) (said : LivePairLine) → pair_divides s ws ≡ false → IsLiveLine ws k rest →
    pair_opening_fault s ≡ None → SaysLive mid (pair_opened s) →
    ReadsBoth now.states (pair_frame now) s k rest said → pair_failure now ≡ None → pair_number now ≡ n + 1 →
    is_none now.settings ≡ true → HandsOutBoth now s → ReadsPairLine now n s ws said
reads_live now mid n s ws rest k said stays is none says read goes number begun hands = record {
  fine = live_fault s ws rest k stays is ∙ ap (live_with s k rest) none ∙ ap (option_map of_live) read.fine;
  told = read.told ∙ sym (live_told_by ws rest k is);
  at = subst (IsPairAt now (n + 1)) (sym (live_after_by n s ws rest k stays is))
      (record {
        goes_on = goes;
        number = number;
        says = says_begun now.first now.settings now.states (pair_with s (pair_live_told k rest)) begun
            (record {
              both = both_after (both_now s) (pair_live_told k rest);
              live = refl;
              divided = says.divided;
              keeps = read.keeps;
            });
      });
  opens = λ both begun. hands;
}

-- ---- What is kept of both ways.
-- with this of one
abbrev pub kept_on : BothStates → Way → LiveState → BothStates
kept_on states There now = record states { there = now }
kept_on states Back now = record states { back = now }

keeps_on : (way : Way) (states : BothStates) (now : LiveState) (there back : Config) (both : BothLive) (live : Live) →
    KeepsBoth states there back both → Keeps now (config_on there back way) live →
    KeepsBoth (kept_on states way now) there back (after_on both way live)
keeps_on There states now there back both live keeps new =
    record { keeps_there = new; keeps_back = keeps.keeps_back }
keeps_on Back states now there back both live keeps new =
    record { keeps_there = keeps.keeps_there; keeps_back = new }

-- the words of a line that names a way
abbrev two : List ℕ → List ℕ → List (List ℕ)
two way w = way ∷ w ∷ []

way_line_is : (s : PairSaid) (k : LiveKeyword) (ws : List (List ℕ)) (named w : List ℕ) (way : Way) →
    ws ≡ two named w → Some way ≡ way_named named →
    way_line_fault s k ws ≡ option_map line_wrong.Live (value_fault (config_in s way) (live_on (both_now s) way) k 3 w)
way_line_is s k ws named w way is names =
    ap (way_line_fault s k) is ∙ ap (way_fault s k w) (sym names)

rest_is : (s : PairSaid) (k : LiveKeyword) (ws : List (List ℕ)) → is_pass k ≡ false →
    pair_rest_fault s k ws ≡ way_line_fault s k ws
rest_is s k ws other = ap (λ (pass : Bool). if pass then pass_fault s ws else way_line_fault s k ws) other

told_is : (k : LiveKeyword) (ws : List (List ℕ)) (named w : List ℕ) (way : Way) → is_pass k ≡ false →
    ws ≡ two named w → Some way ≡ way_named named → pair_live_told k ws ≡ of_way way (live_said k w)
told_is k ws named w way other is names =
    ap (λ (pass : Bool). if pass then both_pass (number_of (word_at 0 ws))
    else of_way (way_said (word_at 0 ws)) (live_said k (word_at 1 ws))) other
    ∙ ap (λ (ws : List (List ℕ)). of_way (way_said (word_at 0 ws)) (live_said k (word_at 1 ws))) is
    ∙ ap (λ (named : Option Way). of_way (unwrap_or named There) (live_said k w)) (sym names)

-- a line of a way is read
pub reads_of_way : (old : BothStates) (state : LiveState) (octets : List ℕ) (s : PairSaid) (k : LiveKeyword)
    (ws : List (List ℕ)) (named w : List ℕ) (way : Way) (said : LiveLine) (of : LivePairLine) → is_pass k ≡ false →
    ws ≡ two named w → Some way ≡ way_named named → KeepsPair old s (both_now s) →
    Reads state octets (config_in s way) (live_on (both_now s) way) k 3 w said →
    told_pair_line octets of ≡ told_of_way way (told_line octets said) →
    ReadsBoth (kept_on old way state) octets s k ws of
reads_of_way old state octets s k ws named w way said of other is names keeps read told =
    let same : pair_live_told k ws ≡ of_way way (live_said k w) = told_is k ws named w way other is names in
    record {
      fine = rest_is s k ws other ∙ way_line_is s k ws named w way is names ∙ ap (option_map line_wrong.Live) read.fine;
      told = told ∙ ap (told_of_way way) read.told ∙ ap (λ (saying : PairSaying). happens saying) (sym same);
      keeps = subst (KeepsPair (kept_on old way state) s)
          (sym (ap (both_after (both_now s)) same ∙ after_way way (both_now s) k w other))
          (keeps_on way old state (there_config s) (back_config s) (both_now s) _ keeps read.keeps);
    }

-- ticks pass
pub reads_pass : (now : BothStates) (octets : List ℕ) (s : PairSaid) (ws : List (List ℕ)) (w : List ℕ) (n : ℕ) →
    ws ≡ w ∷ [] → Reads now.there octets (there_config s) (both_now s).there word.Pass 2 w (one_line.Pass n) →
    Keeps now.back (back_config s) (live_after (both_now s).back (passes n)) →
    ReadsBoth now octets s word.Pass ws (line.Pass n)
reads_pass now octets s ws w n one read keeps =
    let told : one_happens (passes n) ≡ one_happens (passes (number_of w)) = read.told in
    let same : n ≡ number_of w = cc in
    let said : n ≡ number_of (word_at 0 ws) = same ∙ sym (ap (λ (ws : List (List ℕ)). number_of (word_at 0 ws)) one) in
    let both : KeepsPair now s (both_after (both_now s) (both_pass n)) =
    subst (KeepsPair now s) (sym (after_pass (both_now s) n))
    (record {
      keeps_there = subst (λ (n : ℕ). Keeps now.there (there_config s) (live_after (both_now s).there (passes n)))
          (sym same) read.keeps;
      keeps_back = keeps;
    }) in
    record {
      fine = ap (option_map line_wrong.Live)
          (one_fine (there_config s) (both_now s).there word.Pass ws w one read.fine);
      told = ap (λ (n : ℕ). happens (both_pass n)) said;
      keeps = subst (λ (n : ℕ). KeepsPair now s (both_after (both_now s) (both_pass n))) said both;
    }
