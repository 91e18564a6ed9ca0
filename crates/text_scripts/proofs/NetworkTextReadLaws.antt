-- The network and the options in the text of a script: what its first lines say.
use Rattle.std.proofs.Common.{◌≡◌, ℕ, zero, suc, ◌+◌, ◌<◌, ◌≤◌, ◌==◌, ◌&&◌, ◌||◌, nat_lt, not, Bool, true, false}
use Rattle.std.proofs.Common.{List, [], ◌∷◌, ◌++◌, length, map, replicate, ap, sym, ◌∙◌, refl, arith, subst, inl, inr}
use Rattle.std.proofs.Common.{Option, None, option_map, append_assoc}
use Rattle.std.specs.Prelude.{codes, decimal}
use Rattle.std.specs.List.{AllByRecursion}
use Rattle.std.specs.Option.{option_or}
use Rattle.std.specs.Str.Lines.{lines}
use Rattle.std.proofs.lemmas.Bool.{le-ltb, eqb-true, cases_Bool}
use Rattle.std.proofs.lemmas.List.{length-replicate, length-map}
use Rattle.law_model.specs.Common.{IsSize, IsOptions, IsStatuses}
use Rattle.law_model.specs.Common.{default_options, longest_delay}
use Rattle.law_model.specs.Common.{most_ticks, least}
use Rattle.law_model.specs.declared.script_types.Config.{Config}
use Rattle.law_model.specs.declared.script_types.Options.{Options}
use Rattle.law_model.specs.declared.script_types.Script.{Script}
use Rattle.text_lines.specs.Fields.{within, where_true, fields_fault}
use Rattle.text_lines.specs.FirstFault.{AreSound}
use Rattle.text_lines.specs.declared.text_faults.FieldFault.{FieldFault}
use Rattle.text_scripts.specs.declared.script_read.script_fault.LineFault.TheVariants as wrong
use Rattle.text_scripts.specs.declared.script_read.script_keyword.Keyword.{Keyword}
use Rattle.text_scripts.specs.declared.script_read.script_keyword.Keyword.TheVariants as word
use Rattle.text_scripts.specs.declared.script_read.script_draft.Draft.{Draft}
use Rattle.text_scripts.specs.declared.script_read.script_draft.Standing.{Standing}
use Rattle.text_scripts.specs.declared.script_read.script_draft.Statement.{Statement}
use Rattle.text_scripts.specs.declared.script_read.script_draft.Statement.TheVariants as says
use Rattle.text_scripts.specs.script_read.Statements.{takes, place, place_fault, awaited, behind_fault, rest_fault, each_fault}
use Rattle.text_scripts.specs.script_read.Statements.{words_fault, words_said, after, at_first, none_stand}
use Rattle.text_scripts.specs.script_read.Statements.{is_full, is_early}
use Rattle.text_scripts.specs.script_read.Script.{script_lines, script_in}
use Rattle.text_scripts.specs.script_text.ScriptText.{line, number_line, container_text, network_text, sink_text, timer_text}
use Rattle.text_scripts.specs.script_text.ScriptText.{statuses_text, options_text}
use Rattle.text_scripts.proofs.WrittenStreamLaws.{decimal_value, or_fine, where_fine}
use Rattle.text_scripts.proofs.TextLineReadLaws.{IsWord, AreWords, is_word, decimal_word, line_cut, line_words}
use Rattle.text_scripts.proofs.TextLineReadLaws.{rest_fine, one_each, one_fine, all_fine, all_words, all_values}

-- ---- a text behind lines that say a draft
-- from line n on it has no fault, and says a script
pub record Reads (n : ℕ) (d : Draft) (text : List ℕ) (script : Script) : Type 0 where
  pub now : Draft
  pub sound : AreSound script_lines n d (lines text) now
  pub whole : 6 ≤ now.next
  pub is : script ≡ script_in now

-- a line whose words have no fault, and the text behind it
pub line_reads : (n : ℕ) (d : Draft) (keyword : List ℕ) (ws : List (List ℕ)) (said : Statement) (more : List ℕ) (script : Script) →
    IsWord keyword → AreWords ws → words_fault d (keyword ∷ ws) ≡ None → words_said (keyword ∷ ws) ≡ said →
    Reads (n + 1) (after n d said) more script → Reads n d (line keyword ws ++ more) script
unfolding AreSound
line_reads n d keyword ws said more script is are none says later =
    let same = line_words keyword ws is are in
    record {
      now = later.now;
      sound =
          subst (λ (ls : List (List ℕ)). AreSound script_lines n d ls later.now) (sym (line_cut keyword ws is are more)) (
            ap (words_fault d) same ∙ none,
            subst (λ (x : Draft). AreSound script_lines (n + 1) x (lines more) later.now)
                (sym (ap (λ (l : List (List ℕ)). after n d (words_said l)) same ∙ ap (after n d) says)) later.sound,
          );
      whole = later.whole;
      is = later.is;
    }

pub regroup : (n : ℕ) (d : Draft) (a b more : List ℕ) (script : Script) → Reads n d (a ++ (b ++ more)) script →
    Reads n d ((a ++ b) ++ more) script
regroup n d a b more script reads = subst (λ (t : List ℕ). Reads n d t script) (sym (append_assoc a b more)) reads

-- the fault of words that stand where they may
pub stands_fine : (d : Draft) (k : Keyword) (ws : List (List ℕ)) → place_fault d k ≡ None → rest_fault d k ws ≡ None →
    option_or (place_fault d k) (rest_fault d k ws) ≡ None
stands_fine d k ws here rest = or_fine (place_fault d k) (rest_fault d k ws) here rest

pub place_later : (d : Draft) (k : Keyword) → 6 ≤ d.next → d.next ≤ place k → place_fault d k ≡ None
place_later d k low high =
    or_fine (where_true (nat_lt d.next 6 && not (place k == d.next || (d.next == 0 && place k == 1))) (wrong.Missing (awaited d.next)))
    (where_true (nat_lt (place k) d.next) (behind_fault d k))
    (where_fine (nat_lt d.next 6 && not (place k == d.next || (d.next == 0 && place k == 1))) (wrong.Missing (awaited d.next))
    (rw (le-ltb d.next 6 low) refl))
    (where_fine (nat_lt (place k) d.next) (behind_fault d k) (le-ltb (place k) d.next high))

pub four : (a b c d more : List ℕ) → (((a ++ b) ++ c) ++ d) ++ more ≡ a ++ (b ++ (c ++ (d ++ more)))
four a b c d more = simp append_assoc

six : (a b c d e f more : List ℕ) → (((((a ++ b) ++ c) ++ d) ++ e) ++ f) ++ more ≡ a ++ (b ++ (c ++ (d ++ (e ++ (f ++ more)))))
six a b c d e f more = simp append_assoc

-- ---- the network
-- a draft before the first item
abbrev pub drafted : ℕ → Config → Standing → Draft
drafted next config standing = record {
  next = next;
  config = config;
  items = [];
  events = [];
  frame_due = 0;
  command_due = 0;
  standing = standing;
}

abbrev sized : ℕ → Config
sized size = record {
  lines = 0;
  delays = [];
  windows = [];
  lost = [];
  ring = 0;
  lag = 0;
  ticks = 0;
  size = size;
  options = default_options;
}

pub record NoOptions (s : Standing) : Type 0 where
  pub sink : s.sink ≡ 0
  pub holdoff : s.holdoff ≡ 0
  pub restore : s.restore ≡ 0
  pub statuses : s.statuses ≡ 0

container_reads : (size : ℕ) (more : List ℕ) (script : Script) → IsSize size →
    ((m next : ℕ) (s : Standing) → next ≤ 1 → NoOptions s → Reads m (drafted next (sized size) s) more script) →
    Reads 1 at_first (container_text size ++ more) script
container_reads size more script (inl small) later =
    subst (λ (n : ℕ). Reads 1 at_first (container_text n ++ more) script) (sym small)
    (line_reads 1 at_first (codes "container") (codes "vc3" ∷ []) (says.Container 756) more script
    (is_word (codes "container") (omega arith) refl) (is_word (codes "vc3") (omega arith) refl, tt) refl refl
    (subst (λ (n : ℕ). Reads 2 (drafted 1 (sized n) (record none_stand { container = 1 })) more script) small
    (later 2 1 (record none_stand { container = 1 }) (omega arith)
    (record { sink = refl; holdoff = refl; restore = refl; statuses = refl }))))
container_reads size more script (inr large) later =
    subst (λ (n : ℕ). Reads 1 at_first (container_text n ++ more) script) (sym large)
    (subst (λ (n : ℕ). Reads 1 (drafted 0 (sized n) none_stand) more script) large
    (later 1 0 none_stand (omega arith) (record { sink = refl; holdoff = refl; restore = refl; statuses = refl })))

lines_place : (next : ℕ) (config : Config) (s : Standing) → next ≤ 1 → place_fault (drafted next config s) word.Lines ≡ None
lines_place zero config s low = refl
lines_place (suc zero) config s low = refl
lines_place (suc (suc n)) config s low = absurd (omega (arith, low))

-- a line with one number
one_rest : (d : Draft) (k : Keyword) (least most n : ℕ) → 1 ≡ takes d k → n < 10000000000 → least ≤ n → n ≤ most →
    each_fault d k (decimal n ∷ []) ≡ one_each least most n → is_full d k (decimal n ∷ []) ≡ false →
    is_early d k (decimal n ∷ []) ≡ false → rest_fault d k (decimal n ∷ []) ≡ None
one_rest d k least most n size small low high each full early =
    rest_fine d k (decimal n ∷ []) size (each ∙ one_fine least most n small low high) full early

-- the configuration without failures, with these options
abbrev pub plain : Config → Options → Config
plain c options = record c { windows = replicate c.lines []; lost = []; options = options }

-- what its numbers meet
pub record IsPlain (c : Config) : Type 0 where
  pub lines : (1 ≤ c.lines) × (c.lines ≤ 128)
  pub delay_each : length c.delays ≡ c.lines
  pub delays : AllByRecursion (λ n. n ≤ longest_delay) c.delays
  pub ring : (1 ≤ c.ring) × (c.ring ≤ 2048)
  pub lag : (1 ≤ c.lag) × (c.lag ≤ 512)
  pub ticks : (1 ≤ c.ticks) × (c.ticks ≤ most_ticks)
  pub size : IsSize c.size

module _ (c : Config) (is : IsPlain c) (more : List ℕ) (script : Script)
    (later : (m : ℕ) (s : Standing) → NoOptions s → Reads m (drafted 6 (plain c default_options) s) more script) where
  ticks_reads : (n : ℕ) (s : Standing) → NoOptions s →
      Reads n (drafted 5 (record (plain c default_options) { ticks = 0 }) s) (number_line (codes "ticks") (c.ticks ∷ []) ++ more) script
  ticks_reads n s none =
      let d = drafted 5 (record (plain c default_options) { ticks = 0 }) s in
      let low = is.ticks.0 in
      let high = is.ticks.1 in
      let small : c.ticks < 10000000000 = omega (arith, high) in
      line_reads n d (codes "ticks") (decimal c.ticks ∷ []) (says.Ticks c.ticks) more script
      (is_word (codes "ticks") (omega arith) refl) (decimal_word c.ticks small, tt)
      (stands_fine d word.Ticks (decimal c.ticks ∷ []) refl
      (one_rest d word.Ticks 1 most_ticks c.ticks refl small low high refl refl refl))
      (ap says.Ticks (decimal_value c.ticks small))
      (later (n + 1) (record s { ticks = n })
      (record { sink = none.sink; holdoff = none.holdoff; restore = none.restore; statuses = none.statuses }))

  lag_reads : (n : ℕ) (s : Standing) → NoOptions s →
      Reads n (drafted 4 (record (plain c default_options) { ticks = 0; lag = 0 }) s)
      (number_line (codes "lag") (c.lag ∷ []) ++ (number_line (codes "ticks") (c.ticks ∷ []) ++ more)) script
  lag_reads n s none =
      let d = drafted 4 (record (plain c default_options) { ticks = 0; lag = 0 }) s in
      let low = is.lag.0 in
      let high = is.lag.1 in
      let small : c.lag < 10000000000 = omega (arith, high) in
      line_reads n d (codes "lag") (decimal c.lag ∷ []) (says.Lag c.lag) (number_line (codes "ticks") (c.ticks ∷ []) ++ more) script
      (is_word (codes "lag") (omega arith) refl) (decimal_word c.lag small, tt)
      (stands_fine d word.Lag (decimal c.lag ∷ []) refl
      (one_rest d word.Lag 1 512 c.lag refl small low high refl refl refl))
      (ap says.Lag (decimal_value c.lag small))
      (ticks_reads (n + 1) (record s { lag = n })
      (record { sink = none.sink; holdoff = none.holdoff; restore = none.restore; statuses = none.statuses }))

  abbrev lag_text : List ℕ
  lag_text = number_line (codes "lag") (c.lag ∷ []) ++ (number_line (codes "ticks") (c.ticks ∷ []) ++ more)

  ring_reads : (n : ℕ) (s : Standing) → NoOptions s →
      Reads n (drafted 3 (record (plain c default_options) { ticks = 0; lag = 0; ring = 0 }) s)
      (number_line (codes "ring") (c.ring ∷ []) ++ lag_text) script
  ring_reads n s none =
      let d = drafted 3 (record (plain c default_options) { ticks = 0; lag = 0; ring = 0 }) s in
      let low = is.ring.0 in
      let high = is.ring.1 in
      let small : c.ring < 10000000000 = omega (arith, high) in
      line_reads n d (codes "ring") (decimal c.ring ∷ []) (says.Ring c.ring) lag_text script
      (is_word (codes "ring") (omega arith) refl) (decimal_word c.ring small, tt)
      (stands_fine d word.Ring (decimal c.ring ∷ []) refl
      (one_rest d word.Ring 1 2048 c.ring refl small low high refl refl refl))
      (ap says.Ring (decimal_value c.ring small))
      (lag_reads (n + 1) (record s { ring = n })
      (record { sink = none.sink; holdoff = none.holdoff; restore = none.restore; statuses = none.statuses }))

  abbrev ring_text : List ℕ
  ring_text = number_line (codes "ring") (c.ring ∷ []) ++ lag_text

  delays_reads : (n : ℕ) (s : Standing) → NoOptions s →
      Reads n (drafted 2 (record (plain c default_options) { ticks = 0; lag = 0; ring = 0; delays = [] }) s)
      (number_line (codes "delays") c.delays ++ ring_text) script
  delays_reads n s none =
      let d = drafted 2 (record (plain c default_options) { ticks = 0; lag = 0; ring = 0; delays = [] }) s in
      let ws = map decimal c.delays in
      let low : longest_delay < 10000000000 = omega arith in
      let size : length ws ≡ length (replicate c.lines (within 0 longest_delay)) =
      length-map c.delays decimal ∙ is.delay_each ∙ sym (length-replicate c.lines (within 0 longest_delay)) in
      let each : fields_fault (replicate c.lines (within 0 longest_delay)) 2 0 ws ≡ None =
      subst (λ (k : ℕ). fields_fault (replicate k (within 0 longest_delay)) 2 0 ws ≡ None) is.delay_each
      (all_fine longest_delay 2 0 c.delays low is.delays) in
      line_reads n d (codes "delays") ws (says.Delays c.delays) ring_text script
      (is_word (codes "delays") (omega arith) refl) (all_words longest_delay c.delays low is.delays)
      (stands_fine d word.Delays ws refl
      (rest_fine d word.Delays ws size (ap (λ (f : Option FieldFault). option_map wrong.Field f) each) refl refl))
      (ap says.Delays (all_values longest_delay c.delays low is.delays))
      (ring_reads (n + 1) (record s { delays = n })
      (record { sink = none.sink; holdoff = none.holdoff; restore = none.restore; statuses = none.statuses }))

  abbrev delays_text : List ℕ
  delays_text = number_line (codes "delays") c.delays ++ ring_text

  lines_reads : (n next : ℕ) (s : Standing) → next ≤ 1 → NoOptions s →
      Reads n (drafted next (sized c.size) s) (number_line (codes "lines") (c.lines ∷ []) ++ delays_text) script
  lines_reads n next s first none =
      let d = drafted next (sized c.size) s in
      let low = is.lines.0 in
      let high = is.lines.1 in
      let small : c.lines < 10000000000 = omega (arith, high) in
      line_reads n d (codes "lines") (decimal c.lines ∷ []) (says.Lines c.lines) delays_text script
      (is_word (codes "lines") (omega arith) refl) (decimal_word c.lines small, tt)
      (stands_fine d word.Lines (decimal c.lines ∷ []) (lines_place next (sized c.size) s first)
      (one_rest d word.Lines 1 128 c.lines refl small low high refl refl refl))
      (ap says.Lines (decimal_value c.lines small))
      (delays_reads (n + 1) (record s { lines = n })
      (record { sink = none.sink; holdoff = none.holdoff; restore = none.restore; statuses = none.statuses }))

  network_assoc : network_text c ++ more
      ≡ container_text c.size ++ (number_line (codes "lines") (c.lines ∷ []) ++ delays_text)
  unfolding network_text
  network_assoc =
      six (container_text c.size) (number_line (codes "lines") (c.lines ∷ [])) (number_line (codes "delays") c.delays)
      (number_line (codes "ring") (c.ring ∷ [])) (number_line (codes "lag") (c.lag ∷ [])) (number_line (codes "ticks") (c.ticks ∷ [])) more

  pub network_reads : Reads 1 at_first (network_text c ++ more) script
  network_reads =
      subst (λ (t : List ℕ). Reads 1 at_first t script) (sym network_assoc)
      (container_reads c.size (number_line (codes "lines") (c.lines ∷ []) ++ delays_text) script is.size lines_reads)

-- ---- the options
abbrev opted : Config → Bool → ℕ → ℕ → ℕ → Config
opted c infers holdoff restore statuses =
    plain c (record { infers = infers; holdoff = holdoff; restore = restore; statuses = statuses })

module _ (c : Config) (more : List ℕ) (script : Script) where
  sink_reads : (n : ℕ) (s : Standing) (infers : Bool) → NoOptions s →
      ((m : ℕ) (s : Standing) → s.holdoff ≡ 0 → s.restore ≡ 0 → s.statuses ≡ 0 →
      Reads m (drafted 6 (opted c infers 0 0 16) s) more script) →
      Reads n (drafted 6 (opted c false 0 0 16) s) (sink_text infers ++ more) script
  sink_reads n s false none later = later n s none.holdoff none.restore none.statuses
  sink_reads n s true none later =
      let d = drafted 6 (opted c false 0 0 16) s in
      let ws = codes "infers" ∷ [] in
      line_reads n d (codes "sink") ws (says.Sink true) more script
      (is_word (codes "sink") (omega arith) refl) (is_word (codes "infers") (omega arith) refl, tt)
      (stands_fine d word.Sink ws refl (rest_fine d word.Sink ws refl refl (ap (λ (n : ℕ). nat_lt 0 n) none.sink) refl))
      refl (later (n + 1) (record s { sink = n }) none.holdoff none.restore none.statuses)

  holdoff_reads : (n : ℕ) (s : Standing) (infers : Bool) (holdoff : ℕ) → s.holdoff ≡ 0 → s.restore ≡ 0 → s.statuses ≡ 0 →
      holdoff ≤ 5000 →
      ((m : ℕ) (s : Standing) → s.restore ≡ 0 → s.statuses ≡ 0 →
      Reads m (drafted 6 (opted c infers holdoff 0 16) s) more script) →
      Reads n (drafted 6 (opted c infers 0 0 16) s) (timer_text (codes "holdoff") holdoff ++ more) script
  holdoff_reads n s infers holdoff none restore statuses high later =
      let d = drafted 6 (opted c infers 0 0 16) s in
      let ws = decimal holdoff ∷ [] in
      let small : holdoff < 10000000000 = omega (arith, high) in
      elim (cases_Bool (holdoff == 0)) [
        | inl zeros ↦
            rw zeros
            (subst (λ (h : ℕ). Reads n (drafted 6 (opted c infers h 0 16) s) more script) (eqb-true holdoff 0 zeros)
            (later n s restore statuses))
        | inr some ↦
            rw some
            (line_reads n d (codes "holdoff") ws (says.Holdoff holdoff) more script
            (is_word (codes "holdoff") (omega arith) refl) (decimal_word holdoff small, tt)
            (stands_fine d word.Holdoff ws refl
            (one_rest d word.Holdoff 0 5000 holdoff refl small (omega arith) high refl (ap (λ (n : ℕ). nat_lt 0 n) none) refl))
            (ap says.Holdoff (decimal_value holdoff small)) (later (n + 1) (record s { holdoff = n }) restore statuses))
      ]

  restore_reads : (n : ℕ) (s : Standing) (infers : Bool) (holdoff restore : ℕ) → s.restore ≡ 0 → s.statuses ≡ 0 →
      restore ≤ 62500 →
      ((m : ℕ) (s : Standing) → s.statuses ≡ 0 → Reads m (drafted 6 (opted c infers holdoff restore 16) s) more script) →
      Reads n (drafted 6 (opted c infers holdoff 0 16) s) (timer_text (codes "restore") restore ++ more) script
  restore_reads n s infers holdoff restore none statuses high later =
      let d = drafted 6 (opted c infers holdoff 0 16) s in
      let ws = decimal restore ∷ [] in
      let small : restore < 10000000000 = omega (arith, high) in
      elim (cases_Bool (restore == 0)) [
        | inl zeros ↦
            rw zeros
            (subst (λ (r : ℕ). Reads n (drafted 6 (opted c infers holdoff r 16) s) more script) (eqb-true restore 0 zeros)
            (later n s statuses))
        | inr some ↦
            rw some
            (line_reads n d (codes "restore") ws (says.Restore restore) more script
            (is_word (codes "restore") (omega arith) refl) (decimal_word restore small, tt)
            (stands_fine d word.Restore ws refl
            (one_rest d word.Restore 0 62500 restore refl small (omega arith) high refl (ap (λ (n : ℕ). nat_lt 0 n) none) refl))
            (ap says.Restore (decimal_value restore small)) (later (n + 1) (record s { restore = n }) statuses))
      ]

  statuses_reads : (n : ℕ) (s : Standing) (infers : Bool) (holdoff restore statuses : ℕ) → s.statuses ≡ 0 → IsStatuses statuses →
      ((m : ℕ) (s : Standing) → Reads m (drafted 6 (opted c infers holdoff restore statuses) s) more script) →
      Reads n (drafted 6 (opted c infers holdoff restore 16) s) (statuses_text statuses ++ more) script
  statuses_reads n s infers holdoff restore statuses none (inl few) later =
      subst (λ (k : ℕ). Reads n (drafted 6 (opted c infers holdoff restore 16) s) (statuses_text k ++ more) script) (sym few)
      (subst (λ (k : ℕ). Reads n (drafted 6 (opted c infers holdoff restore k) s) more script) few (later n s))
  statuses_reads n s infers holdoff restore statuses none (inr many) later =
      let d = drafted 6 (opted c infers holdoff restore 16) s in
      let ws = codes "32" ∷ [] in
      subst (λ (k : ℕ). Reads n d (statuses_text k ++ more) script) (sym many)
      (line_reads n d (codes "statuses") ws (says.Statuses 32) more script
      (is_word (codes "statuses") (omega arith) refl) (is_word (codes "32") (omega arith) refl, tt)
      (stands_fine d word.Statuses ws refl (rest_fine d word.Statuses ws refl refl (ap (λ (n : ℕ). nat_lt 0 n) none) refl))
      refl
      (subst (λ (k : ℕ). Reads (n + 1) (drafted 6 (opted c infers holdoff restore k) (record s { statuses = n })) more script) many
      (later (n + 1) (record s { statuses = n }))))

pub options_reads : (n : ℕ) (c : Config) (s : Standing) (o : Options) (more : List ℕ) (script : Script) → NoOptions s → IsOptions o →
    ((m : ℕ) (s : Standing) → Reads m (drafted 6 (plain c o) s) more script) →
    Reads n (drafted 6 (plain c default_options) s) (options_text o ++ more) script
unfolding options_text
options_reads n c s o more script none is later =
    let sink = sink_text o.infers in
    let holdoff = timer_text (codes "holdoff") o.holdoff in
    let restore = timer_text (codes "restore") o.restore in
    let statuses = statuses_text o.statuses in
    subst (λ (t : List ℕ). Reads n (drafted 6 (plain c default_options) s) t script)
    (sym (four sink holdoff restore statuses more))
    (sink_reads c (holdoff ++ (restore ++ (statuses ++ more))) script n s o.infers none
    (λ n s one two three. holdoff_reads c (restore ++ (statuses ++ more)) script n s o.infers o.holdoff one two three is.holdoff
    (λ n s two three. restore_reads c (statuses ++ more) script n s o.infers o.holdoff o.restore two three is.restore
    (λ n s three. statuses_reads c more script n s o.infers o.holdoff o.restore o.statuses three is.statuses later))))
