-- What is written of the H4 octets of a line: a line of text for each control packet, and a last line.
use Rattle.std.specs.Prelude.{ℕ, List, ◌++◌, length, Result, Ok, Err, codes, decimal, flat_map}
use Rattle.law_model.specs.declared.control_packet.Packet.{Packet}
use Rattle.law_model.specs.declared.control_packet.PacketFault.{PacketFault}
use Rattle.law_model.specs.declared.control_packet.PacketFault.TheVariants.{Crc, Ctrl as CtrlFault}
use Rattle.law_model.specs.packets.Decode.{Found, packets_in}
use Rattle.law_model.specs.packets.PacketText.{ctrl_text, bit_text, octet_text, nibble_text}

-- the line of a packet at a place, or of what is wrong with it
abbrev pub found_text : ℕ → Result Packet PacketFault → List ℕ
found_text place (Ok packet) =
    codes "at " ++ decimal place ++ codes " " ++ ctrl_text packet.ctrl ++ codes " sq " ++ decimal packet.sq ++ codes
    " gid " ++ bit_text packet.gid
    ++ codes " act " ++ decimal packet.act ++ codes " chg " ++ bit_text packet.chg ++ codes " mst " ++ octet_text
    packet.mst
    ++ codes " ack " ++ bit_text packet.rs_ack ++ codes "\n"
found_text place (Err (Crc said found)) =
    codes "at " ++ decimal place ++ codes " crc said " ++ octet_text said ++ codes " found " ++ octet_text found ++
    codes "\n"
found_text place (Err (CtrlFault code)) =
    codes "at " ++ decimal place ++ codes " ctrl " ++ nibble_text code ++ codes "\n"

-- the lines of packets
abbrev pub found_texts : List Found → List ℕ
found_texts found = flat_map (λ one. found_text one.0 one.1) found

-- the last line
abbrev pub end_text : ℕ → ℕ → List ℕ
end_text octets packets = codes "end octets " ++ decimal octets ++ codes " packets " ++ decimal packets ++ codes "\n"

-- the text of the octets of a line
unfoldable pub decoded_text : List ℕ → List ℕ
decoded_text octets = found_texts (packets_in octets) ++ end_text (length octets) (length (packets_in octets))
