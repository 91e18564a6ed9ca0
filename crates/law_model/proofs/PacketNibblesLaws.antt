-- The sixteen nibbles of a packet, and what is read of them.
use Rattle.std.proofs.Common.{◌≡◌, ◌≢◌, ℕ, zero, suc, ◌+◌, ◌*◌, ◌/◌, ◌%◌, ◌<◌, ◌==◌, nat_lt, Bool, true, false, inl}
use Rattle.std.proofs.Common.{inr, List, [], ◌∷◌, ◌++◌, length, slice_index, All, Option, Some, None, Ok, Err, refl}
use Rattle.std.proofs.Common.{sym, ◌∙◌, ap, subst, arith, lit<, eqb-true, eq-eqb, ne_eqb, ltb-true, lt-ltb}
use Rattle.std.specs.List.{list_all}
use Rattle.std.proofs.lemmas.Bool.{and_parts, and_from, and_left, and_right, cases_Bool, cases_eq}
use Rattle.std.proofs.lemmas.List.Elements.{All-nil, All-cons, All-append, All-head, All-tail}
use Rattle.law_model.specs.Common.{crc8_of, Ctrl, code_of, ctrl_of, octet_nibbles, bit_nibble, IsPacket}
use Rattle.law_model.specs.Common.{covered_nibbles, packet_nibbles, octet_at, said_check, found_check, said_code}
use Rattle.law_model.specs.Common.{packet_of, cleared_nibbles, are_nibbles, read_by, read_of}
use Rattle.law_model.specs.declared.control_packet.Packet.{Packet}
use Rattle.law_model.specs.declared.control_packet.PacketFault.TheVariants.{Crc}
use Rattle.check_nibbles.proofs.NibbleCheckLaws.{crc8_of_below}
use Rattle.member_cells.proofs.ControlCodeLaws.{code_of_below, ctrl_of-code_of, ctrl_of-some}

-- What is read of a list: sixteen nibbles whose check is right and whose code is that of a control word, and nothing
-- else.
abbrev pub AreNibbles : List ℕ → Type 0
AreNibbles nibbles = All (λ nibble. nibble < 16) nibbles

-- ---- entries
bit_nibble_below : (bit : Bool) → bit_nibble bit < 16
bit_nibble_below true = lit< tt
bit_nibble_below false = lit< tt

bit_of-bit_nibble : (bit : Bool) → (bit_nibble bit % 2 == 1) ≡ bit
bit_of-bit_nibble true = refl
bit_of-bit_nibble false = refl

-- the lowest bit of a number, in a nibble
pub bit_nibble-bit : (n : ℕ) → bit_nibble (n % 2 == 1) ≡ n % 2
bit_nibble-bit n =
    elim (cases_eq (n % 2) 1) [
      | inl one ↦ rw (eq-eqb (n % 2) 1 one) (sym one)
      | inr other ↦ rw (ne_eqb (n % 2) 1 other) (omega arith)
    ]

octet_split : (o : ℕ) → 16 * (o / 16) + o % 16 ≡ o
octet_split o = omega arith

high_below : (o : ℕ) → o < 256 → o / 16 < 16
high_below o h = omega arith

low_below : (o : ℕ) → o % 16 < 16
low_below o = omega arith

octet_nibbles_below : (o : ℕ) → o < 256 → AreNibbles (octet_nibbles o)
octet_nibbles_below o h =
    let P : ℕ → Type 0 = λ nibble. nibble < 16 in
    All-cons P (o / 16) (o % 16 ∷ []) (high_below o h) (All-cons P (o % 16) [] (low_below o) (All-nil P))

pub halves : (octet hi lo : ℕ) → lo < 16 → octet ≡ 16 * hi + lo → (octet / 16 ≡ hi) × (octet % 16 ≡ lo)
halves octet hi lo h e = (omega arith, omega arith)

nibble_at_below : (nibbles : List ℕ) (place : ℕ) → AreNibbles nibbles → slice_index nibbles place < 16
nibble_at_below [] place below = lit< tt
nibble_at_below (x ∷ nibbles) zero below = All-head (λ nibble. nibble < 16) x nibbles below
nibble_at_below (x ∷ nibbles) (suc place) below =
    nibble_at_below nibbles place (All-tail (λ nibble. nibble < 16) x nibbles below)

octet_at_below : (octet hi lo : ℕ) → hi < 16 → lo < 16 → octet ≡ 16 * hi + lo → octet < 256
octet_at_below octet hi lo p q e = omega arith

-- ---- sixteen nibbles
all_below : (nibbles : List ℕ) → list_all (λ nibble. nat_lt nibble 16) nibbles ≡ true → AreNibbles nibbles
all_below [] e = All-nil (λ nibble. nibble < 16)
all_below (x ∷ nibbles) e =
    let both = and_parts (nat_lt x 16) (list_all (λ nibble. nat_lt nibble 16) nibbles) e in
    All-cons (λ nibble. nibble < 16) x nibbles (ltb-true x 16 both.0) (all_below nibbles both.1)

below_all : (nibbles : List ℕ) → AreNibbles nibbles → list_all (λ nibble. nat_lt nibble 16) nibbles ≡ true
below_all [] below = refl
below_all (x ∷ nibbles) below =
    and_from (nat_lt x 16) (list_all (λ nibble. nat_lt nibble 16) nibbles)
    (lt-ltb x 16 (All-head (λ nibble. nibble < 16) x nibbles below))
    (below_all nibbles (All-tail (λ nibble. nibble < 16) x nibbles below))

pub are_nibbles-true : (nibbles : List ℕ) → are_nibbles nibbles ≡ true → (length nibbles ≡ 16) × AreNibbles nibbles
are_nibbles-true nibbles e =
    let both = and_parts (length nibbles == 16) (list_all (λ nibble. nat_lt nibble 16) nibbles) e in
    (eqb-true (length nibbles) 16 both.0, all_below nibbles both.1)

pub are_nibbles-from : (nibbles : List ℕ) → length nibbles ≡ 16 → AreNibbles nibbles → are_nibbles nibbles ≡ true
are_nibbles-from nibbles size below =
    and_from (length nibbles == 16) (list_all (λ nibble. nat_lt nibble 16) nibbles) (eq-eqb (length nibbles) 16 size)
    (below_all nibbles below)

-- ---- the nibbles of a packet
pub length-packet_nibbles : (packet : Packet) → length (packet_nibbles packet) ≡ 16
length-packet_nibbles packet = refl

-- each is one
pub covered_nibbles_below : (packet : Packet) → IsPacket packet → AreNibbles (covered_nibbles packet)
covered_nibbles_below packet p =
    let P : ℕ → Type 0 = λ nibble. nibble < 16 in
    let mst = octet_nibbles packet.mst in
    let sq = octet_nibbles packet.sq in
    let mfi2 = octet_nibbles packet.mfi2 in
    let act = octet_nibbles packet.act in
    let bits = bit_nibble packet.rs_ack ∷ bit_nibble packet.chg ∷ 0 ∷ 0 ∷ sq in
    let words = code_of packet.ctrl ∷ bit_nibble packet.gid ∷ act in
    let bits_below : All P bits =
    All-cons P (bit_nibble packet.rs_ack) (bit_nibble packet.chg ∷ 0 ∷ 0 ∷ sq) (bit_nibble_below packet.rs_ack)
    (All-cons P (bit_nibble packet.chg) (0 ∷ 0 ∷ sq) (bit_nibble_below packet.chg)
    (All-cons P 0 (0 ∷ sq) (lit< tt) (All-cons P 0 sq (lit< tt) (octet_nibbles_below packet.sq p.sq)))) in
    let words_below : All P words =
    All-cons P (code_of packet.ctrl) (bit_nibble packet.gid ∷ act) (code_of_below packet.ctrl)
    (All-cons P (bit_nibble packet.gid) act (bit_nibble_below packet.gid) (octet_nibbles_below packet.act p.act)) in
    All-append P (mst ++ bits ++ mfi2) words
    (All-append P (mst ++ bits) mfi2 (All-append P mst bits (octet_nibbles_below packet.mst p.mst) bits_below)
    (octet_nibbles_below packet.mfi2 p.mfi2))
    words_below

pub packet_nibbles_below : (packet : Packet) → IsPacket packet → AreNibbles (packet_nibbles packet)
packet_nibbles_below packet p =
    let check = crc8_of (covered_nibbles packet) in
    All-append (λ nibble. nibble < 16) (covered_nibbles packet) (octet_nibbles check)
    (covered_nibbles_below packet p) (octet_nibbles_below check (crc8_of_below (covered_nibbles packet)))

-- their check is right, and they say the packet
pub packet_nibbles_check : (packet : Packet) → said_check (packet_nibbles packet) ≡ found_check (packet_nibbles packet)
packet_nibbles_check packet = octet_split (crc8_of (covered_nibbles packet))

pub packet_of-packet_nibbles : (packet : Packet) → packet_of (packet_nibbles packet) packet.ctrl ≡ packet
packet_of-packet_nibbles packet =
    let mst = octet_split packet.mst in
    let rs_ack = bit_of-bit_nibble packet.rs_ack in
    let chg = bit_of-bit_nibble packet.chg in
    let sq = octet_split packet.sq in
    let mfi2 = octet_split packet.mfi2 in
    let gid = bit_of-bit_nibble packet.gid in
    let act = octet_split packet.act in
    λ i. record {
      mst = mst i;
      rs_ack = rs_ack i;
      chg = chg i;
      sq = sq i;
      mfi2 = mfi2 i;
      ctrl = packet.ctrl;
      gid =
          gid i;
      act = act i;
    }

-- ---- what is read
-- of a list whose check is wrong, or which is not sixteen nibbles
pub read_of-crc : (nibbles : List ℕ) → said_check nibbles ≢ found_check nibbles →
    read_of nibbles ≡ Err (Crc (said_check nibbles) (found_check nibbles))
unfolding read_of
read_of-crc nibbles other =
    rw (and_right (are_nibbles nibbles) (said_check nibbles == found_check nibbles)
    (ne_eqb (said_check nibbles) (found_check nibbles) other)) refl

pub read_of-others : (nibbles : List ℕ) → are_nibbles nibbles ≡ false →
    read_of nibbles ≡ Err (Crc (said_check nibbles) (found_check nibbles))
unfolding read_of
read_of-others nibbles other = rw (and_left (are_nibbles nibbles) (said_check nibbles == found_check nibbles) other)
    refl

-- of nibbles whose check is right
pub read_of-checked : (nibbles : List ℕ) → are_nibbles nibbles ≡ true → said_check nibbles ≡ found_check nibbles →
    read_of nibbles ≡ read_by (ctrl_of (said_code nibbles)) nibbles
unfolding read_of
read_of-checked nibbles are check =
    rw (and_from (are_nibbles nibbles) (said_check nibbles == found_check nibbles) are
    (eq-eqb (said_check nibbles) (found_check nibbles) check)) refl

-- a list of which a packet is read
pub record IsAccepted (nibbles : List ℕ) (packet : Packet) : Type 0 where
  pub are : are_nibbles nibbles ≡ true
  pub check : said_check nibbles ≡ found_check nibbles
  pub ctrl : ctrl_of (said_code nibbles) ≡ Some packet.ctrl
  pub fields : packet ≡ packet_of nibbles packet.ctrl

accepted_by : (nibbles : List ℕ) (packet : Packet) (ctrl : Option Ctrl) → are_nibbles nibbles ≡ true →
    said_check nibbles ≡ found_check nibbles →
    ctrl_of (said_code nibbles) ≡ ctrl → read_by ctrl nibbles ≡ Ok packet → IsAccepted nibbles packet
accepted_by nibbles packet None are check is e = absurd cc
accepted_by nibbles packet (Some ctrl) are check is e =
    let same : packet_of nibbles ctrl ≡ packet = cc in
    let word : ctrl ≡ packet.ctrl = ap (λ (p : Packet). p.ctrl) same in
    record { are = are; check = check; ctrl = is ∙ ap Some word; fields = sym same ∙ ap (packet_of nibbles) word }

pub read_of-accepted : (nibbles : List ℕ) (packet : Packet) → read_of nibbles ≡ Ok packet → IsAccepted nibbles packet
read_of-accepted nibbles packet e =
    elim (cases_Bool (are_nibbles nibbles)) [
      | inl are ↦
          elim (cases_eq (said_check nibbles) (found_check nibbles)) [
            | inl check ↦ accepted_by nibbles packet (ctrl_of (said_code nibbles)) are check refl
                (sym (read_of-checked nibbles are check) ∙ e)
            | inr other ↦ let fault = sym (read_of-crc nibbles other) ∙ e in absurd cc
          ]
      | inr other ↦ let fault = sym (read_of-others nibbles other) ∙ e in absurd cc
    ]

pub accepted-read_of : (nibbles : List ℕ) (packet : Packet) → IsAccepted nibbles packet → read_of nibbles ≡ Ok packet
accepted-read_of nibbles packet is =
    read_of-checked nibbles is.are is.check ∙ ap (λ ctrl. read_by ctrl nibbles) is.ctrl ∙ ap Ok (sym is.fields)

-- what is sent is read back
pub read_of-packet_nibbles : (packet : Packet) → IsPacket packet → read_of (packet_nibbles packet) ≡ Ok packet
read_of-packet_nibbles packet p =
    accepted-read_of (packet_nibbles packet) packet (record {
      are = are_nibbles-from (packet_nibbles packet) (length-packet_nibbles packet) (packet_nibbles_below packet p);
      check = packet_nibbles_check packet;
      ctrl = ctrl_of-code_of packet.ctrl;
      fields = sym (packet_of-packet_nibbles packet);
    })

-- what is accepted is the nibbles of the packet, apart from the ignored bits and the check over them
pub accepted_cleared : (nibbles : List ℕ) (packet : Packet) → IsAccepted nibbles packet →
    covered_nibbles packet ≡ cleared_nibbles nibbles
accepted_cleared nibbles packet is =
    let below = (are_nibbles-true nibbles is.are).1 in
    let n = slice_index nibbles in
    let mst = halves (octet_at nibbles 0) (n 0) (n 1) (nibble_at_below nibbles 1 below) refl in
    let sq = halves (octet_at nibbles 6) (n 6) (n 7) (nibble_at_below nibbles 7 below) refl in
    let mfi2 = halves (octet_at nibbles 8) (n 8) (n 9) (nibble_at_below nibbles 9 below) refl in
    let act = halves (octet_at nibbles 12) (n 12) (n 13) (nibble_at_below nibbles 13 below) refl in
    let rs_ack = bit_nibble-bit (n 2) in
    let chg = bit_nibble-bit (n 3) in
    let gid = bit_nibble-bit (n 11) in
    let word = ctrl_of-some (said_code nibbles) packet.ctrl is.ctrl in
    let same : covered_nibbles (packet_of nibbles packet.ctrl) ≡ cleared_nibbles nibbles = cc in
    ap covered_nibbles is.fields ∙ same

-- and the packet is one of octets
pub accepted_IsPacket : (nibbles : List ℕ) (packet : Packet) → IsAccepted nibbles packet → IsPacket packet
accepted_IsPacket nibbles packet is =
    let below = (are_nibbles-true nibbles is.are).1 in
    let n = slice_index nibbles in
    let small = λ (place : ℕ). nibble_at_below nibbles place below in
    subst IsPacket (sym is.fields) (record {
      mst = octet_at_below (octet_at nibbles 0) (n 0) (n 1) (small 0) (small 1) refl;
      sq = octet_at_below (octet_at nibbles 6) (n 6) (n 7) (small 6) (small 7) refl;
      mfi2 = octet_at_below (octet_at nibbles 8) (n 8) (n 9) (small 8) (small 9) refl;
      act = octet_at_below (octet_at nibbles 12) (n 12) (n 13) (small 12) (small 13) refl;
    })
