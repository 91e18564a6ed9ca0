-- The input is read, and says two scripts that go together or doesn't.
use Rattle.std.proofs.Common.{◌≡◌, refl, sym, ap, ap₂, ◌∙◌}
use Rattle.law_model.specs.declared.script_types.Script.{Script}
use Rattle.law_pair.specs.Common.{pair_begin, pair_plan}
use Rattle.command_parts.specs.Common.{Answer, writes_both, reads, Lent, Meets}
use Rattle.text_pairs.specs.declared.script_pair.ScriptPair.{ScriptPair}
use Rattle.text_pairs.specs.Inputs.{HasPair, pair_answer_of}
use Rattle.text_pairs.specs.ReportsOfWays.{way_text, pair_text, pair_reply}
use Rattle.command_walk.proofs.commands.pair.pair.Goals as goal

-- the reports of two scripts beside each other
abbrev both : Script → Script → Answer
both there back = writes_both (way_text there back) (way_text back there)

-- scripts that were read are answered by their reports
meets-pair : {S : Type 0} (source : Lent S) (pair : ScriptPair) (there back : Script) → HasPair source pair →
    there ≡ pair.there → back ≡ pair.back → Meets source (reads pair_reply) (both there back)
meets-pair source pair there back has is_there is_back =
    (has.text, has.read, ap (pair_answer_of pair_text) has.says ∙ sym (ap₂ both is_there is_back))

-- ---- nothing was read, or no pair
pub returns-in-Err : goal.returns-in-Err
returns-in-Err g c = record { ran = tt; stopped = c.in-Err.ensures.stopped pair_text; nothing = (refl, refl) }

-- ---- the pair
pub new-requires : goal.new-requires
new-requires g c = c.in-Ok.ensures.fits

pub returns-in-Err-new : goal.returns-in-Err-new
returns-in-Err-new g c =
    record { ran = tt; stopped = c.in-Ok.ensures.pair.read.quiet; nothing = (refl, refl) }

pub write_pair-written-requires : goal.write_pair-written-requires
write_pair-written-requires g c = record {
  begun = c.in-Ok-new.ensures.counts
      ∙ sym (ap₂ (λ there back. pair_begin (pair_plan there back)) c.in-Ok-new.ensures.there c.in-Ok-new.ensures.back);
}

-- ---- its reports
pub returns : goal.returns
returns g c = record {
  ran = record {
    answer = both c.in-Ok-new.pair.there c.in-Ok-new.pair.back;
    meets = meets-pair _ _ _ _ c.in-Ok.ensures.pair c.in-Ok-new.ensures.there c.in-Ok-new.ensures.back;
    all = c.write_pair-written.ensures.ok;
    part = c.write_pair-written.ensures.err;
    made = refl;
  };
  stopped = tt;
  nothing = tt;
}
