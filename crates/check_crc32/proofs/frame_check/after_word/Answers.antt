-- The entries of the eight octets of the word, with the register added to it.
use Rattle.std.proofs.Common.{bit_xor, subst, sym, ap, ◌∙◌, w64, ◌++◌}
use Rattle.std.specs.Int.{to_le_bytes}
use Rattle.check_crc32.specs.Register.{RegisterStands}
use Rattle.check_crc32.proofs.CheckRegisterAndTableLaws.{entries_of, stands_word}
use Rattle.check_crc32.proofs.frame_check.after_word.Goals as goal

pub returns : goal.returns
returns c order octets are stands =
    subst (λ l. RegisterStands order (octets ++ to_le_bytes w64 c.args.word) (entries_of c.args.tables.now l))
    (sym (c.to_le_bytes.ensures ∙ ap (λ n. to_le_bytes w64 (bit_xor c.args.word n)) c.from.ensures))
    (stands_word order c.args.tables.now octets c.args.register c.args.word c.ranges.register.fits are stands)
