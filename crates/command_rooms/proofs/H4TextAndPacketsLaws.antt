-- H4 octets that a line sends, their hexadecimal text read back, and the lines of the packets decoded of them.
use Rattle.std.proofs.Common.{◌≡◌, ℕ, ◌+◌, List, [], ◌∷◌, ◌++◌, ap, sym, ◌∙◌, refl, ◌≢◌, zero, suc, ◌-◌, ◌*◌, ◌/◌, ◌%◌}
use Rattle.std.proofs.Common.{◌<◌, ◌≤◌, ◌==◌, nat_le, true, false, map, flat_map, length, take, drop, slice_index}
use Rattle.std.proofs.Common.{replicate, All, min, lit<, Bool, arith, get_or, append_assoc, take_all, length-take}
use Rattle.std.proofs.Common.{length-drop, take-add, nat_lt, slice_index_or, subst, if◌then◌else◌, inl, inr, ap₂, ◌&&◌}
use Rattle.std.proofs.Common.{Result, append-nil, length-append, take-append-drop}
use Rattle.std.specs.Prelude.{Option, None, Some, Ok, Err, is_none, unwrap_or, codes}
use Rattle.text_lines.specs.declared.text_faults.LineKind.TheVariants.{Hex}
use Rattle.text_lines.specs.WordsOfLine.{words}
use Rattle.text_lines.specs.Fields.{where_true}
use Rattle.text_lines.specs.Language.{said_from, said_by}
use Rattle.text_lines.proofs.LineLanguageAndTableLaws.{line_faulty, line_sound, end_sound}
use Rattle.command_rooms.specs.commands.HexText.{line_octets, hex_lines, hex_text, hex_text_of}
use Rattle.std.specs.Result.{result_ok}
use Rattle.law_model.proofs.ListLaws.{replicate-at}
use Rattle.std.specs.List.{range_with_len, list_all}
use Rattle.std.specs.Str.Lines.{lines, strip_carriage_return}
use Rattle.std.proofs.lemmas.Bool.{leb-true, lt-ltb, cases_lt}
use Rattle.std.proofs.lemmas.Bool.Decides.{nat_tests}
use Rattle.std.proofs.lemmas.List.FromFn.{get_or-map-range_with_len, map-range_with_len_more}
use Rattle.std.proofs.lemmas.List.FromFn.{length-map-range_with_len, fill_by_all, take-map-range_with_len}
use Rattle.std.proofs.lemmas.List.Elements.{All-nil, All-cons, All-weaker}
use Rattle.hex.specs.Hex.{encode_with, encode_lower, lower_digits, IsBytes}
use Rattle.hex.proofs.HexLemmas.{length-encode_with, decode_of-encode_lower}
use Rattle.text_lines.specs.Cut.{Lacks}
use Rattle.text_lines.proofs.TextLineAndWordLaws.{lines_cut, words_only}
use Rattle.command_rooms.specs.commands.H4.{multiframe_text, h4_text, h4_octets}
use Rattle.std.proofs.lemmas.List.{get_or-drop, get_or-take, get_or_past, take_more}
use Rattle.law_model.specs.Common.{leg_of, IsValid, Told, Table, telling, untold, sent_packet, forward_packet}
use Rattle.law_model.specs.Common.{packet_nibbles, number_behind, scenario_of, steps_in, after, table_of, nibble_in}
use Rattle.law_model.specs.Common.{nibble_at, IsPacket, read_of, upper_halves, LineLock, unlocked, locked, lock_by}
use Rattle.law_model.specs.Common.{sights_on, is_at, is_front, begins_packet, good_cells, front_nibbles, packet_here}
use Rattle.law_model.specs.Common.{packets_on, Found, Appends, AppendsPart, found_text, found_texts, end_text}
use Rattle.law_model.specs.Common.{decoded_text, most_lines}
use Rattle.law_model.specs.declared.control_packet.Packet.{Packet}
use Rattle.law_model.specs.declared.script_types.Script.{Script}
use Rattle.law_model.proofs.PacketNibblesLaws.{packet_nibbles_below, length-packet_nibbles, read_of-packet_nibbles}
use Rattle.law_terminal.proofs.ContainerPayloadLaws.{map-part, sent-packet}
use Rattle.law_walk.specs.Common.{session_of, sent_at, table_in}
use Rattle.law_model.specs.members.CellVerdicts.{begun}
use Rattle.law_model.specs.packets.Decode.{packets_in}
use Rattle.std.proofs.lemmas.List.Concat.{flat_map-append}
use Rattle.law_model.specs.declared.control_packet.PacketFault.{PacketFault}
use Rattle.octet_io.proofs.AppendedTextAndPrefixLaws.{Appends-none, Appends-then, AppendsPart-then, AppendsPart-longer}
use Rattle.text_captures.proofs.H4PacketDecodingLaws.{packets_stay}
use Rattle.command_rooms.specs.DecodingSoFar.{HasLines, HasLinesPart}

-- ---- Lines of hexadecimal digits, one on and at the end.
-- a line that is sound
pub one_part : (n : ℕ) (octets more part : List ℕ) (all : List (List ℕ)) (line : List ℕ) (ls : List (List ℕ))
    → all ≡ line ∷ ls → line_octets (words line) ≡ Some part → more ≡ octets ++ part
    → said_from hex_lines n octets all ≡ said_from hex_lines (n + 1) more ls
one_part n octets more part all line ls first said grown =
    line_sound hex_lines n octets more all line ls first (ap (λ (o : Option (List ℕ)). where_true (is_none o) Hex) said)
    (grown ∙ ap (λ (o : Option (List ℕ)). octets ++ unwrap_or o []) (sym said))

-- a line that isn't
pub one_fault : (text : List ℕ) (n : ℕ) (octets : List ℕ) (all : List (List ℕ)) (line : List ℕ) (ls : List (List ℕ))
    → said_by hex_lines text ≡ said_from hex_lines n octets all → all ≡ line ∷ ls → line_octets (words line) ≡ None
    → hex_text_of text ≡ Err n
one_fault text n octets all line ls same first bad =
    ap hex_text (same ∙ line_faulty hex_lines n octets all line ls Hex first
    (ap (λ (o : Option (List ℕ)). where_true (is_none o) Hex) bad))

-- after the last line
pub all_parts : (text : List ℕ) (n : ℕ) (octets : List ℕ) (all : List (List ℕ))
    → said_by hex_lines text ≡ said_from hex_lines n octets all → all ≡ [] → hex_text_of text ≡ Ok octets
all_parts text n octets all same none = ap hex_text (same ∙ end_sound hex_lines n octets all none refl)

-- ---- The lines of text of H4 octets are read as these octets.
-- ---- digits are above spaces, ends of lines and number signs
abbrev is_high : ℕ → Bool
is_high d = nat_le 48 (slice_index lower_digits d)

all-high : map is_high (range_with_len 0 16) ≡ replicate 16 true
all-high = refl

digit-high : (d : ℕ) → d < 16 → 48 ≤ slice_index lower_digits d
digit-high d low =
    let high : is_high d ≡ true = sym (get_or-map-range_with_len is_high 0 16 d d true low (omega arith))
    ∙ ap (λ l. get_or l d true) all-high ∙ replicate-at 16 true d in
    leb-true 48 (slice_index lower_digits d) high

abbrev High : List ℕ → Type 0
High text = All (λ c. 48 ≤ c) text

high-text : (xs : List ℕ) → IsBytes xs → High (encode_lower xs)
unfolding encode_with
high-text [] small = All-nil (λ c. 48 ≤ c)
high-text (x ∷ xs) small =
    let fits : x < 256 = small 0 in
    let upper : x / 16 < 16 = omega (arith, fits) in
    let lower : x % 16 < 16 = omega arith in
    let later = encode_lower xs in
    All-cons (λ c. 48 ≤ c) (slice_index lower_digits (x / 16)) (slice_index lower_digits (x % 16) ∷ later)
    (digit-high (x / 16) upper)
    (All-cons (λ c. 48 ≤ c) (slice_index lower_digits (x % 16)) later (digit-high (x % 16) lower)
    (high-text xs (λ k. small (suc k))))

lacks : (o : ℕ) (text : List ℕ) → o < 48 → High text → Lacks o text
lacks o text low high = All-weaker (λ c. 48 ≤ c) (λ c. c ≢ o) (λ c h e. omega (arith, low, h, e)) text high

no-return : (text : List ℕ) → High text → strip_carriage_return text ≡ text
no-return [] high = refl
no-return (c ∷ text) high =
    let last : 48 ≤ slice_index (c ∷ text) (length (c ∷ text) - 1) = high (length (c ∷ text) - 1) 0 (omega arith) in
    let no : (slice_index (c ∷ text) (length (c ∷ text) - 1) == 13) ≡ false = grind (arith, nat_tests, last) in
    rw no refl

-- ---- a line of digits, one multiframe
digits-said : (part : List ℕ) → 0 < length part → IsBytes part → line_octets (words (encode_lower part)) ≡ Some part
digits-said part some small =
    let line = encode_lower part in
    let high = high-text part small in
    let size : length line ≡ 2 * length part = length-encode_with lower_digits part in
    let long : 0 < length line = omega (arith, size, some) in
    let first : 48 ≤ slice_index line 0 = high 0 0 long in
    let no : (slice_index line 0 == 35) ≡ false = grind (arith, nat_tests, first) in
    ap line_octets (words_only line (lacks 32 line (omega arith) high) long)
    ∙ rw no (ap result_ok (decode_of-encode_lower part small))

one-line : (n : ℕ) (octets part rest : List ℕ) → 0 < length part → IsBytes part →
    said_from hex_lines n octets (lines ((encode_lower part ++ codes "\n") ++ rest))
    ≡ said_from hex_lines (n + 1) (octets ++ part) (lines rest)
one-line n octets part rest some small =
    let line = encode_lower part in
    let high = high-text part small in
    let first : lines ((line ++ codes "\n") ++ rest) ≡ line ∷ lines rest =
    lines_cut ((line ++ codes "\n") ++ rest) line rest line (lacks 10 line (omega arith) high)
    (append_assoc line (codes "\n") rest) (sym (no-return line high)) in
    one_part n octets (octets ++ part) part _ line (lines rest) first (digits-said part some small) refl

-- ---- all lines
small-part : (n m : ℕ) (xs : List ℕ) → IsBytes xs → IsBytes (take n (drop m xs))
small-part n m xs small i =
    elim (cases_lt i n) [
      | inl inside ↦ rw (get_or-take n (drop m xs) i 0 inside) (rw get_or-drop (small (m + i)))
      | inr beyond ↦ rw (get_or_past (take n (drop m xs)) i 0
          (let size = length-take n (drop m xs) in omega (arith, size, beyond))) (lit< tt)
    ]

module _ (octets : List ℕ) (small : IsBytes octets) where
  lines-on : (count m n : ℕ) → m + count ≡ (length octets + 15) / 16 →
      said_from hex_lines n (take (16 * m) octets)
      (lines (flat_map (multiframe_text octets) (range_with_len m count)))
      ≡ said_from hex_lines (n + count) octets []
  lines-on zero m n all =
      ap (λ o. said_from hex_lines n o []) (take_all (16 * m) octets (omega (arith, all)))
      ∙ ap (λ i. said_from hex_lines i octets []) (let e : n ≡ n + 0 = omega arith in e)
  lines-on (suc count) m n all =
      let part = take 16 (drop (16 * m) octets) in
      let later = flat_map (multiframe_text octets) (range_with_len (m + 1) count) in
      let size : length part ≡ min 16 (length octets - 16 * m) = length-take 16 (drop (16 * m) octets)
      ∙ ap (min 16) (length-drop (16 * m) octets) in
      let some : 0 < length part = omega (arith, size, all) in
      let more : take (16 * m) octets ++ part ≡ take (16 * (m + 1)) octets = sym (take-add (16 * m) 16 octets)
      ∙ ap (λ i. take i octets) (let e : 16 * m + 16 ≡ 16 * (m + 1) = omega arith in e) in
      one-line n (take (16 * m) octets) part later some
      (small-part 16 (16 * m) octets small)
      ∙ ap (λ o. said_from hex_lines (n + 1) o (lines later)) more
      ∙ lines-on count (m + 1) (n + 1) (omega (arith, all))
      ∙ ap (λ i. said_from hex_lines i octets []) (let e : n + 1 + count ≡ n + suc count = omega arith in e)

  pub text-read : hex_text_of (h4_text octets) ≡ Ok octets
  unfolding h4_text
  text-read =
      let count : ℕ = (length octets + 15) / 16 in
      all_parts (h4_text octets) (1 + count) octets [] (lines-on count 0 1 (omega arith)) refl

-- ---- The H4 octets that the source sends on a line, frame by frame, and their lines of text.
-- ---- the packets of a script tell the other way nothing
none-told : (k : ℕ) → slice_index_or [] k untold ≡ untold
none-told zero = refl
none-told (suc k) = refl

telling-none : (table : Table) (line k : ℕ) → telling untold (forward_packet table line k) ≡ forward_packet table line k
unfolding number_behind
telling-none table line k = refl

-- packet k says the table of decision step k
pub sent-forward : (script : Script) (line k : ℕ) →
    sent_packet (scenario_of script) (session_of (leg_of script)) line k
    ≡ forward_packet (table_in (leg_of script) (16 * k + 9)) line k
sent-forward script line k =
    let scenario = scenario_of script in
    let cells = session_of (leg_of script) in
    let step : suc k ≡ steps_in (16 * k + 9) = omega arith in
    ap (λ (told : Told). telling told (forward_packet (table_of scenario cells k) line k)) (none-told k)
    ∙ telling-none (table_of scenario cells k) line k
    ∙ ap (λ n. forward_packet (after scenario cells n).table line k) step

pub is-packet : (script : Script) (line k : ℕ) → IsValid script →
    IsPacket (forward_packet (table_in (leg_of script) (16 * k + 9)) line k)
is-packet script line k valid =
    let few : length script.config.windows ≤ most_lines =
    (let size = valid.sound.network.windows_each in
    let most = valid.sound.network.lines.1 in
    omega (arith, size, most)) in
    subst IsPacket (sent-forward script line k)
    (sent-packet (scenario_of script) (session_of (leg_of script)) line k few)

-- ---- the octet of a frame
pub early-octet : (script : Script) (line t : ℕ) → t < 8 → (sent_at (leg_of script) line t).h4 ≡ t % 16
early-octet script line t low =
    let scenario = scenario_of script in
    let cells = session_of (leg_of script) in
    let yes : nat_lt t 8 ≡ true = lt-ltb t 8 low in
    ap (λ b. 16 * (if b then 0 else nibble_in scenario cells line ((t - 8) / 16) ((t - 8) % 16)) + t % 16) yes
    ∙ (let e : 16 * 0 + t % 16 ≡ t % 16 = omega arith in e)

pub later-octet : (script : Script) (line t : ℕ) → 8 ≤ t →
    16 * slice_index (packet_nibbles (forward_packet (table_in (leg_of script) (16 * ((t - 8) / 16) + 9)) line
    ((t - 8) / 16))) ((t - 8) % 16) + t % 16
    ≡ (sent_at (leg_of script) line t).h4
later-octet script line t high =
    let scenario = scenario_of script in
    let cells = session_of (leg_of script) in
    let k : ℕ = (t - 8) / 16 in
    let place : ℕ = (t - 8) % 16 in
    let no : nat_lt t 8 ≡ false = grind (arith, high) in
    sym (ap (λ b. 16 * (if b then 0 else nibble_in scenario cells line k place) + t % 16) no
    ∙ ap (λ (p : Packet). 16 * slice_index (packet_nibbles p) place + t % 16) (sent-forward script line k))

-- that of the last frame, by what the table says after it
module _ (script : Script) (line ticks : ℕ) (nibbles : List ℕ) (late : 9 ≤ ticks)
    (is : nibbles ≡ packet_nibbles (forward_packet (table_in (leg_of script) ticks) line (steps_in ticks - 1))) where
  abbrev k : ℕ
  k = (ticks - 1 - 8) / 16

  own : nibbles ≡ packet_nibbles (forward_packet (table_in (leg_of script) (16 * k + 9)) line k)
  own =
      let steps : steps_in ticks ≡ steps_in (16 * k + 9) = omega (arith, late) in
      let number : steps_in ticks - 1 ≡ k = omega (arith, late) in
      is
      ∙ ap (λ n. packet_nibbles (forward_packet (after (scenario_of script) (session_of (leg_of script)) n).table line
      (steps_in ticks - 1))) steps
      ∙ ap (λ j. packet_nibbles (forward_packet (table_in (leg_of script) (16 * k + 9)) line j)) number

  pub last-later : 16 * slice_index nibbles ((ticks - 1 - 8) % 16) + (ticks - 1) % 16
      ≡ (sent_at (leg_of script) line (ticks - 1)).h4
  last-later =
      ap (λ (l : List ℕ). 16 * slice_index l ((ticks - 1 - 8) % 16) + (ticks - 1) % 16) own
      ∙ later-octet script line (ticks - 1) (omega (arith, late))

  pub nibble-small : IsValid script → slice_index nibbles ((ticks - 1 - 8) % 16) < 16
  nibble-small valid =
      subst (λ (l : List ℕ). slice_index l ((ticks - 1 - 8) % 16) < 16) (sym own)
      (packet_nibbles_below _ (is-packet script line k valid) ((ticks - 1 - 8) % 16) 0 (omega arith))

-- ---- one frame more
pub octets-more : (script : Script) (line frames made : ℕ) (octet : ℕ) → made ≡ frames + 1 →
    octet ≡ (sent_at (leg_of script) line (made - 1)).h4 →
    h4_octets script line frames ++ octet ∷ [] ≡ h4_octets script line made
octets-more script line frames made octet one is =
    let f : ℕ → ℕ = λ t. (sent_at (leg_of script) line t).h4 in
    let last : made - 1 ≡ frames = omega (arith, one) in
    ap (λ (o : ℕ). h4_octets script line frames ++ o ∷ []) (is ∙ ap f last)
    ∙ sym (ap (h4_octets script line) one ∙ map-range_with_len_more f 0 frames frames (omega arith))

-- ---- each octet's halves
module _ (script : Script) (line : ℕ) (valid : IsValid script) where
  abbrev pub octet : ℕ → ℕ
  octet t = (sent_at (leg_of script) line t).h4

  abbrev pub packet : ℕ → Packet
  packet k = forward_packet (table_in (leg_of script) (16 * k + 9)) line k

  pub lower-half : (t : ℕ) → octet t % 16 ≡ t % 16
  lower-half t =
      let upper : ℕ = nibble_at (scenario_of script) (session_of (leg_of script)) line t in
      let e : (16 * upper + t % 16) % 16 ≡ t % 16 = omega arith in e

  small-nibble : (k place : ℕ) → place < 16 → slice_index (packet_nibbles (packet k)) place < 16
  small-nibble k place low = packet_nibbles_below (packet k) (is-packet script line k valid) place 0 low

  pub octet-small : (t : ℕ) → octet t < 256
  octet-small t =
      elim (cases_lt t 8) [
        | inl early ↦ let is = early-octet script line t early in omega (arith, is)
        | inr late ↦
            let is = later-octet script line t late in
            let small = small-nibble ((t - 8) / 16) ((t - 8) % 16) (omega arith) in
            omega (arith, is, small)
      ]

  upper-half : (k i : ℕ) → i < 16 → octet (16 * k + 8 + i) / 16 ≡ slice_index (packet_nibbles (packet k)) (0 + i)
  upper-half k i low =
      let t : ℕ = 16 * k + 8 + i in
      let number : (t - 8) / 16 ≡ k = omega (arith, low) in
      let place : (t - 8) % 16 ≡ 0 + i = omega (arith, low) in
      let is : 16 * slice_index (packet_nibbles (packet k)) (0 + i) + t % 16 ≡ octet t =
      ap₂ (λ k i. 16 * slice_index (packet_nibbles (packet k)) i + t % 16) (sym number) (sym place)
      ∙ later-octet script line t (omega arith) in
      omega (arith, is)

  pub packet-read : (k : ℕ) → read_of (upper_halves (map octet (range_with_len (16 * k + 8) 16))) ≡ Ok (packet k)
  packet-read k =
      let nibbles : List ℕ = packet_nibbles (packet k) in
      ap read_of (map-part octet (λ o. o / 16) (slice_index nibbles) (16 * k + 8) 0 16 (λ i low. upper-half k i low)
      ∙ sym (fill_by_all (slice_index nibbles) nibbles 16 0 (length-packet_nibbles (packet k)) (λ i low. refl)))
      ∙ read_of-packet_nibbles (packet k) (is-packet script line k valid)

  pub octets-small : (frames : ℕ) → IsBytes (h4_octets script line frames)
  octets-small frames i =
      elim (cases_lt i frames) [
        | inl inside ↦ subst (λ o. o < 256) (sym (get_or-map-range_with_len octet 0 frames i i 0 inside (omega arith)))
            (octet-small i)
        | inr beyond ↦ subst (λ o. o < 256)
            (sym (get_or_past (h4_octets script line frames) i 0
            (let size = length-map-range_with_len octet 0 frames in omega (arith, size, beyond)))) (lit< tt)
      ]

-- ---- What `decode` says of the H4 octets of a line: the packets whose sixteen octets are all sent, in their order.
-- ---- octets whose lower halves count the frames, and packets in their upper halves
module _ (f : ℕ → ℕ) (packet : ℕ → Packet) (place : (t : ℕ) → f t % 16 ≡ t % 16)
    (reads : (k : ℕ) → read_of (upper_halves (map f (range_with_len (16 * k + 8) 16))) ≡ Ok (packet k)) where
  -- the octets from one on
  abbrev from : ℕ → ℕ → List ℕ
  from n count = map f (range_with_len n count)

  -- what stands at the front of them
  abbrev found : ℕ → Found
  found k = (16 * k + 8, Ok (packet k))

  -- a line that is locked stays so
  in-step : (n : ℕ) → (f (n + 1) % 16 == (n % 16 + 1) % 16) ≡ true
  in-step n = let same = place (n + 1) in
      let e : f (n + 1) % 16 ≡ (n % 16 + 1) % 16 = omega (arith, same) in
      rw e (grind (arith, nat_tests))

  next-lock : (n : ℕ) → lock_by (locked (n % 16)) (Some (f (n + 1))) ≡ locked ((n + 1) % 16)
  next-lock n = rw (in-step n) (ap locked (place (n + 1)))

  all-at : (count n : ℕ) → list_all is_at (sights_on (locked (n % 16)) (good_cells (from (n + 1) count))) ≡ true
  unfolding sights_on
  all-at zero n = refl
  all-at (suc count) n =
      rw (in-step n) (ap (λ lock. list_all is_at (sights_on lock (good_cells (from (n + 1 + 1) count))))
      (ap locked (place (n + 1))) ∙ all-at count (n + 1))

  -- ---- what stands at a place
  ranged : (n count : ℕ) → length (from n count) ≡ count
  ranged n count = length-map-range_with_len f n count

  -- fewer than sixteen octets are left
  none-short : (lock : LineLock) (n count p : ℕ) → count < 16 → packet_here lock p (from n count) ≡ []
  none-short lock n count p few =
      let size = ranged n count in
      let no : nat_le 16 (length (from n count)) ≡ false = rw size (grind (arith, few)) in
      rw no refl

  -- the first one is no first one of a packet
  none-inside : (lock : LineLock) (n count p : ℕ) → n % 16 ≢ 8 → packet_here lock p (from n (suc count)) ≡ []
  none-inside lock n count p other =
      let same = place n in
      let no : (f n % 16 == 8) ≡ false = rw same (grind (arith, nat_tests, other)) in
      let one : Found = (p, read_of (front_nibbles (from n (suc count)))) in
      elim (nat_le 16 (length (from n (suc count)))) as (λ b.
      (if b && is_front lock (take 16 (from n (suc count))) then one ∷ [] else []) ≡ []) [
        | true ↦ rw no refl
        | false ↦ refl
      ]

  -- sixteen octets of packet k
  one-packet : (k n count : ℕ) → n + 1 ≡ 16 * k + 8 → 16 ≤ count →
      packet_here (locked (n % 16)) (n + 1) (from (n + 1) count) ≡ found k ∷ []
  one-packet k n count is enough =
      let octets = from (n + 1) count in
      let lock = locked (n % 16) in
      let taken : take 16 octets ≡ from (n + 1) 16 = take-map-range_with_len f (n + 1) count 16 enough in
      let size = ranged (n + 1) count in
      let long : nat_le 16 (length octets) ≡ true = rw size (grind (arith, enough)) in
      let mfi1 : f (n + 1) % 16 ≡ 8 = (let same = place (n + 1) in omega (arith, same, is)) in
      let first : (f (n + 1) % 16 == 8) ≡ true = rw mfi1 refl in
      let front : is_front lock (take 16 octets) ≡ true = ap (is_front lock) taken
      ∙ ap₂ (λ (a b : Bool). a && b) first (all-at 16 n) in
      let begins : begins_packet lock octets ≡ true = ap₂ (λ (a b : Bool). a && b) long front in
      let read : Found = (n + 1, read_of (front_nibbles octets)) in
      let says : read_of (front_nibbles octets) ≡ Ok (packet k) =
      ap (λ l. read_of (upper_halves l)) taken ∙ ap (λ i. read_of (upper_halves (from i 16))) is ∙ reads k in
      ap (λ b. if b then read ∷ [] else []) begins ∙ ap₂ (λ i r. (i, r) ∷ []) is says

  -- ---- behind frame n, with so many octets left
  abbrev rest : ℕ → ℕ → List Found
  rest n count = packets_on (locked (n % 16)) (n + 1) (from (n + 1) count)

  one-on : (n count : ℕ) → rest n (suc count)
      ≡ packet_here (locked (n % 16)) (n + 1) (from (n + 1) (suc count)) ++ rest (n + 1) count
  unfolding packets_on
  one-on n count = ap (λ lock. packet_here (locked (n % 16)) (n + 1) (from (n + 1) (suc count))
      ++ packets_on lock (n + 1 + 1) (from (n + 1 + 1) count)) (next-lock n)

  few-left : (count n : ℕ) → count < 16 → rest n count ≡ []
  unfolding packets_on
  few-left zero n few = refl
  few-left (suc count) n few =
      one-on n count
      ∙ ap (λ l. l ++ rest (n + 1) count) (none-short (locked (n % 16)) (n + 1) (suc count) (n + 1) few)
      ∙ few-left count (n + 1) (omega (arith, few))

  skip : (m n count : ℕ) → ((j : ℕ) → j < m → (n + 1 + j) % 16 ≢ 8) → rest n (m + count) ≡ rest (n + m) count
  skip zero n count none =
      ap₂ rest (let e : n ≡ n + 0 = omega arith in e) (let e : 0 + count ≡ count = omega arith in e)
  skip (suc m) n count none =
      let here : (n + 1) % 16 ≢ 8 = subst (λ i. i % 16 ≢ 8) (let e : n + 1 + 0 ≡ n + 1 = omega arith in e)
      (none 0 (omega arith)) in
      ap (rest n) (let e : suc m + count ≡ suc (m + count) = omega arith in e)
      ∙ one-on n (m + count)
      ∙ ap (λ l. l ++ rest (n + 1) (m + count)) (none-inside (locked (n % 16)) (n + 1) (m + count) (n + 1) here)
      ∙ skip m (n + 1) count (λ j low. subst (λ i. i % 16 ≢ 8)
      (let e : n + 1 + (j + 1) ≡ n + 1 + 1 + j = omega arith in e) (none (j + 1) (omega (arith, low))))
      ∙ ap (λ i. rest i count) (let e : n + 1 + m ≡ n + suc m = omega arith in e)

  block : (k n count : ℕ) → n + 1 ≡ 16 * k + 8 → rest n (16 + count) ≡ found k ∷ rest (n + 16) count
  block k n count is =
      ap (rest n) (let e : 16 + count ≡ suc (15 + count) = omega arith in e)
      ∙ one-on n (15 + count)
      ∙ ap (λ l. l ++ rest (n + 1) (15 + count)) (one-packet k n (suc (15 + count)) is (omega arith))
      ∙ ap (λ l. found k ∷ l)
      (skip 15 (n + 1) count (λ j low e. omega (arith, low, e, is))
      ∙ ap (λ i. rest i count) (let e : n + 1 + 15 ≡ n + 16 = omega arith in e))

  blocks : (p k n count left : ℕ) → n + 1 ≡ 16 * k + 8 → count ≡ 16 * p + left → left < 16 →
      rest n count ≡ map found (range_with_len k p)
  blocks zero k n count left is size few = few-left count n (omega (arith, size, few))
  blocks (suc p) k n count left is size few =
      ap (rest n) (let e : count ≡ 16 + (16 * p + left) = omega (arith, size) in e)
      ∙ block k n (16 * p + left) is
      ∙ ap (λ l. found k ∷ l) (blocks p (k + 1) (n + 16) (16 * p + left) left (omega (arith, is)) refl few)

  -- ---- from the first octet on
  behind-two : (count : ℕ) → packets_in (from 0 (suc (suc count))) ≡ rest 1 count
  unfolding packets_on
  behind-two count =
      let a = place 0 in
      let b = place 1 in
      let zero_first : (f 0 % 16 == 0) ≡ true = rw a refl in
      let one_then : (f 1 % 16 == 1) ≡ true = rw b refl in
      let first = none-inside unlocked 0 (suc count) 0 (omega arith) in
      let second = none-inside (begun (f 0)) 1 count 1 (omega arith) in
      let lock_one : lock_by unlocked (Some (f 0)) ≡ begun (f 0) = rw zero_first refl in
      let lock_two : lock_by (begun (f 0)) (Some (f 1)) ≡ locked (1 % 16) = rw one_then (ap locked b) in
      ap (λ l. l ++ packets_on (lock_by unlocked (Some (f 0))) 1 (from 1 (suc count))) first
      ∙ ap (λ lock. packets_on lock 1 (from 1 (suc count))) lock_one
      ∙ ap (λ l. l ++ packets_on (lock_by (begun (f 0)) (Some (f 1))) 2 (from 2 count)) second
      ∙ ap (λ lock. packets_on lock 2 (from 2 count)) lock_two

  none-sent : (p : ℕ) → p ≡ 0 → [] ≡ map found (range_with_len 0 p)
  none-sent p none = sym (ap (λ p. map found (range_with_len 0 p)) none)

  pub packets-all : (frames : ℕ) → packets_in (from 0 frames) ≡ map found (range_with_len 0 ((frames - 8) / 16))
  unfolding packets_on
  packets-all zero = none-sent ((0 - 8) / 16) (omega arith)
  packets-all (suc zero) =
      ap (λ l. l ++ []) (none-short unlocked 0 1 0 (omega arith)) ∙ none-sent ((1 - 8) / 16) (omega arith)
  packets-all (suc (suc count)) =
      behind-two count
      ∙ elim (cases_lt count 6) [
        | inl few ↦ few-left count 1 (omega (arith, few)) ∙ none-sent ((suc (suc count) - 8) / 16) (omega (arith, few))
        | inr many ↦
            let p : ℕ = (suc (suc count) - 8) / 16 in
            let left : ℕ = (suc (suc count) - 8) % 16 in
            ap (rest 1) (let e : count ≡ 6 + (count - 6) = omega (arith, many) in e)
            ∙ skip 6 1 (count - 6) (λ j low e. omega (arith, low, e))
            ∙ blocks p 0 7 (count - 6) left refl (omega (arith, many)) (omega arith)
      ]

-- ---- The lines of control packets that are written, octet by octet.
-- ---- the lines
found_texts-append : (found more : List Found) → found_texts (found ++ more) ≡ found_texts found ++ found_texts more
found_texts-append found more = flat_map-append (λ (one : Found). found_text one.0 one.1) found more

found_texts-more : (found : List Found) (place : ℕ) (reading : Result Packet PacketFault) (line : List ℕ) →
    line ≡ found_text place reading →
    found_texts found ++ line ≡ found_texts (found ++ (place, reading) ∷ [])
found_texts-more found place reading line says =
    ap (λ (text : List ℕ). found_texts found ++ text) (says ∙ sym (append-nil (found_text place reading)))
    ∙ sym (found_texts-append found ((place, reading) ∷ []))

pub no_lines : {K : Type 0} (written : K → Option (List ℕ)) (faults : K → ℕ) (start : K) →
    HasLines written faults [] start start 0
unfolding packets_on
no_lines written faults start = record { count = refl; lines = Appends-none written faults start }

-- ---- one octet more
module _ {K : Type 0} (written : K → Option (List ℕ)) (faults : K → ℕ) (before : List ℕ) (h4 packets : ℕ)
    (start old : K) (has : HasLines written faults before start old packets) where
  -- ends no packet
  pub none_more : packets_in (before ++ h4 ∷ []) ≡ packets_in before ++ [] →
      HasLines written faults (before ++ h4 ∷ []) start old (packets + 0)
  none_more none =
      let same : packets_in (before ++ h4 ∷ []) ≡ packets_in before = none ∙ append-nil (packets_in before) in
      record {
        count = (let e = has.count in let f = ap (λ (found : List Found). length found) same in omega arith);
        lines = (let P : List Found → Type 0 =
            λ found. Appends written faults start old (found_texts found) in subst P (sym same) has.lines);
      }

  -- or ends one, of which the line is written
  pub one_more : (place : ℕ) (reading : Result Packet PacketFault) (line : List ℕ) (new : K) →
      packets_in (before ++ h4 ∷ []) ≡ packets_in before ++ (place, reading) ∷ [] →
      line ≡ found_text place reading → Appends written faults old new line →
      HasLines written faults (before ++ h4 ∷ []) start new (packets + 1)
  one_more place reading line new one says put = record {
    count = (
        let e = has.count in
        let f = ap (λ (found : List Found). length found) one in
        let size = length-append (packets_in before) ((place, reading) ∷ []) in
        omega arith
        );
    lines =
        let P : List ℕ → Type 0 = λ text. Appends written faults start new text in
        subst P (found_texts-more (packets_in before) place reading line says ∙ sym (ap found_texts one))
        (Appends-then written faults start old new (found_texts (packets_in before)) line has.lines put);
  }

  -- or a prefix of it
  pub one_part_decoded : (place : ℕ) (reading : Result Packet PacketFault) (line : List ℕ) (new : K) →
      packets_in (before ++ h4 ∷ []) ≡ packets_in before ++ (place, reading) ∷ [] →
      line ≡ found_text place reading → AppendsPart written faults old new line →
      HasLinesPart written faults (before ++ h4 ∷ []) start new
  one_part_decoded place reading line new one says stops =
      let P : List ℕ → Type 0 = λ text. AppendsPart written faults start new text in
      subst P (found_texts-more (packets_in before) place reading line says ∙ sym (ap found_texts one))
      (AppendsPart-then written faults start old new (found_texts (packets_in before)) line has.lines stops)

-- ---- the octets so far, and one more
pub one_h4 : (octets : List ℕ) (i : ℕ) → i < length octets →
    take i octets ++ get_or octets i 0 ∷ [] ≡ take (i + 1) octets
one_h4 octets i within = sym (take_more octets i 0 within)

-- ---- the text of all octets
module _ {K : Type 0} (written : K → Option (List ℕ)) (faults : K → ℕ) (octets : List ℕ) (i packets : ℕ) (line : List ℕ)
    (start old new : K) (whole : length octets ≤ i)
    (has : HasLines written faults (take i octets) start old packets) (says : line ≡ end_text (length octets) packets)
  where
    all : take i octets ≡ octets
    all = take_all i octets whole

    last : found_texts (packets_in (take i octets)) ++ line ≡ decoded_text octets
    unfolding decoded_text
    last =
        ap (λ (text : List ℕ). found_texts (packets_in (take i octets)) ++ text)
        (says ∙ ap (λ (n : ℕ). end_text (length octets) n) has.count)
        ∙ ap (λ (os : List ℕ). found_texts (packets_in os) ++ end_text (length octets) (length (packets_in os))) all

    pub all_decoded : Appends written faults old new line → Appends written faults start new (decoded_text octets)
    all_decoded put =
        let P : List ℕ → Type 0 = λ text. Appends written faults start new text in
        subst P last (Appends-then written faults start old new _ line has.lines put)

    pub end_part : AppendsPart written faults old new line → AppendsPart written faults start new (decoded_text octets)
    end_part stops =
        let P : List ℕ → Type 0 = λ text. AppendsPart written faults start new text in
        subst P last (AppendsPart-then written faults start old new _ line has.lines stops)

-- a prefix of the lines of fewer octets is one of the text of more
lines_part : {K : Type 0} (written : K → Option (List ℕ)) (faults : K → ℕ) (octets more : List ℕ) (start now : K) →
    HasLinesPart written faults octets start now →
    AppendsPart written faults start now (decoded_text (octets ++ more))
unfolding decoded_text
lines_part written faults octets more start now part =
    let stay = packets_stay octets more in
    let all = octets ++ more in
    let ends : List ℕ = end_text (length all) (length (packets_in all)) in
    let P : List ℕ → Type 0 = λ text. AppendsPart written faults start now (text ++ ends) in
    subst P (sym (ap found_texts stay.1 ∙ found_texts-append (packets_in octets) stay.0))
    (AppendsPart-longer _ _ start now _ ends (AppendsPart-longer _ _ start now _ (found_texts stay.0) part))

pub stopped_at : {K : Type 0} (written : K → Option (List ℕ)) (faults : K → ℕ) (octets : List ℕ) (i : ℕ)
    (start now : K) → i < length octets →
    HasLinesPart written faults (take i octets ++ get_or octets i 0 ∷ []) start now →
    AppendsPart written faults start now (decoded_text octets)
stopped_at written faults octets i start now within part =
    let P : List ℕ → Type 0 = λ os. HasLinesPart written faults os start now in
    let Q : List ℕ → Type 0 = λ os. AppendsPart written faults start now (decoded_text os) in
    subst Q (take-append-drop (i + 1) octets)
    (lines_part written faults (take (i + 1) octets) (drop (i + 1) octets) start now
    (subst P (one_h4 octets i within) part))
