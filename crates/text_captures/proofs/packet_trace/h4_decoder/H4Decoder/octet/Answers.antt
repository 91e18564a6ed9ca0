-- What the decoder knows after the octet, by what the lock said of it.
use Rattle.std.proofs.Common.{◌≡◌, ℕ, ◌+◌, ◌%◌, ◌<◌, List, [], length, take, slice_set, refl, sym, ◌∙◌, ap, subst}
use Rattle.std.proofs.Common.{arith}
use Rattle.law_model.specs.Common.{read_of, good_cells}
use Rattle.text_captures.specs.packet_trace.Decoder.{Decoding, DecoderStands}
use Rattle.text_captures.proofs.H4PacketDecodingLaws.{goes-out, goes-on, goes-whole, grown-none, grown-take}
use Rattle.text_captures.proofs.H4PacketDecodingLaws.{length-grown, all-grown}
use Rattle.text_captures.proofs.packet_trace.h4_decoder.H4Decoder.octet.Goals as goal
use Rattle.text_captures.proofs.packet_trace.h4_decoder.H4Decoder.octet.Goals.{else-self-eq0-via-then-self-eq0+else-nibble_lo-ne8}
use Rattle.text_captures.proofs.packet_trace.h4_decoder.H4Decoder.octet.Goals.{else-self-eq0-via-else-self-eq0}

abbrev next_given : {a b : Decoding} → a ≡ b → a.given + 1 ≡ b.given + 1
next_given e = ap (λ (v : Decoding). v.given + 1) e

pub returns-in_default : goal.returns-in_default
returns-in_default c =
    let goes = λ (octets : List ℕ) (stands : DecoderStands c.args.self.now octets).
    let before = subst (λ v. DecoderStands v octets) (sym c.self.view_is) stands in
    goes-out _ c.good.new.self c.self.inside.nibbles octets c.args.h4 c.good.result c.in_default.not-At
    (c.good.ensures.place (good_cells octets) before.lock) (c.good.ensures.stands (good_cells octets) before.lock)
    before in
    record { given = next_given c.self.view_is; stands = λ o s. (goes o s).0; packets = λ o s. (goes o s).1 }

pub returns-then-nibble_lo-ne8 : goal.returns-then-nibble_lo-ne8
returns-then-nibble_lo-ne8 c =
    let inside = c.self.inside in
    let none = grown-none inside.nibbles inside.begun c.args.h4 c.if-self-eq0.true (omega arith) in
    let kept : take inside.begun inside.nibbles ≡ [] = ap (λ n. take n inside.nibbles) c.if-self-eq0.true in
    let goes = λ (octets : List ℕ) (stands : DecoderStands c.args.self.now octets).
    let before = subst (λ v. DecoderStands v octets) (sym c.self.view_is) stands in
    goes-on _ c.good.new.self inside.nibbles octets [] c.args.h4 c.in-At.field-0
    (c.in-At.ensures.place (good_cells octets) before.lock) (c.good.ensures.stands (good_cells octets) before.lock)
    before none inside.begun (omega arith) kept in
    record { given = next_given c.self.view_is; stands = λ o s. (goes o s).0; packets = λ o s. (goes o s).1 }

pub returns-then-self-lt16 : goal.returns-then-self-lt16
returns-then-self-lt16 c =
    let inside = c.self.inside in
    let first : inside.begun ≡ 0 → c.args.h4 % 16 ≡ 8 =
    elim c.else-self-eq0.branch [
      | else-self-eq0-via-then-self-eq0+else-nibble_lo-ne8 w ↦
          λ _. omega arith
      | else-self-eq0-via-else-self-eq0 w ↦ λ h. absurd (w.if-self-eq0.false h)
    ] in
    let within : inside.begun < length inside.nibbles = omega (arith, c.self.invariant.0, c.self.told) in
    let grew = grown-take inside.nibbles inside.begun c.args.h4 c.nibble_hi.result within first c.nibble_hi.ensures in
    let size = length-grown inside.nibbles inside.begun c.nibble_hi.result within in
    let goes = λ (octets : List ℕ) (stands : DecoderStands c.args.self.now octets).
    let before = subst (λ v. DecoderStands v octets) (sym c.self.view_is) stands in
    goes-on _ c.good.new.self (slice_set inside.nibbles inside.begun c.nibble_hi.result) octets
    (take (inside.begun + 1) (slice_set inside.nibbles inside.begun c.nibble_hi.result)) c.args.h4
    c.in-At.field-0 (c.in-At.ensures.place (good_cells octets) before.lock)
    (c.good.ensures.stands (good_cells octets) before.lock) before grew (inside.begun + 1) (omega arith) refl in
    record { given = next_given c.self.view_is; stands = λ o s. (goes o s).0; packets = λ o s. (goes o s).1 }

pub returns : goal.returns
returns c =
    let inside = c.self.inside in
    let first : inside.begun ≡ 0 → c.args.h4 % 16 ≡ 8 =
    elim c.else-self-eq0.branch [
      | else-self-eq0-via-then-self-eq0+else-nibble_lo-ne8 w ↦
          λ _. omega arith
      | else-self-eq0-via-else-self-eq0 w ↦ λ h. absurd (w.if-self-eq0.false h)
    ] in
    let few : inside.begun < 16 = c.self.invariant.0 in
    let within : inside.begun < length inside.nibbles = omega (arith, c.self.told) in
    let grew = grown-take inside.nibbles inside.begun c.args.h4 c.nibble_hi.result within first c.nibble_hi.ensures in
    let size = length-grown inside.nibbles inside.begun c.nibble_hi.result within in
    let all = all-grown inside.nibbles inside.begun c.nibble_hi.result (omega arith) c.self.told in
    let goes = λ (octets : List ℕ) (stands : DecoderStands c.args.self.now octets).
    let before = subst (λ v. DecoderStands v octets) (sym c.self.view_is) stands in
    goes-whole _ c.good.new.self (slice_set inside.nibbles inside.begun c.nibble_hi.result) octets
    (take (inside.begun + 1) (slice_set inside.nibbles inside.begun c.nibble_hi.result)) c.args.h4
    c.in-At.field-0 (c.in-At.ensures.place (good_cells octets) before.lock)
    (c.good.ensures.stands (good_cells octets) before.lock) before grew
    c.read-found.result (omega arith) (c.read-found.ensures.value ∙ ap read_of (sym all)) in
    record { given = next_given c.self.view_is; stands = λ o s. (goes o s).0; packets = λ o s. (goes o s).1 }
