-- The text is what the source gave, and no fault came.
use Rattle.std.proofs.Common.{◌≡◌, ◌≤◌, ◌-◌, vec_len}
use Rattle.std.specs.Io.KnownBytes.{prepend_known}
use Rattle.octet_io.proofs.read_and_put_all.read_all.Given as goal

abbrev pub invariant-loop-text : goal.invariant-loop-text
invariant-loop-text g l = record {
  given : g.S.ByteSource.left l.fn.source ≡ prepend_known l.text.items (g.S.ByteSource.left l.source);
  fits : vec_len l.text ≤ l.limit;
  quiet : g.S.ByteSource.faults l.source ≡ g.S.ByteSource.faults l.fn.source;
}

abbrev pub decreases-loop-text : goal.decreases-loop-text
decreases-loop-text g l = l.limit - vec_len l.text
