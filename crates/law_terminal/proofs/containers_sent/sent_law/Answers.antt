-- The containers of a session.
use Rattle.law_terminal.proofs.ContainerPayloadLaws.{sent-packet, are-sent, packet-nibbles}
use Rattle.law_terminal.proofs.ContainerPayloadLaws.{payload-size, dealt-row, container-same}
use Rattle.law_terminal.proofs.ContainerPayloadLaws.{payload-octets}
use Rattle.law_terminal.proofs.containers_sent.sent_law.Goals as goal

pub returns : goal.returns
returns c = record {
  places = are-sent;
  packets = sent-packet;
  nibbles = packet-nibbles;
  payload = payload-size;
  octets = payload-octets;
  dealt = dealt-row;
  cells = container-same;
}
