-- The parser of words, and the words that its matches say.
use Rattle.std.specs.Prelude.{true, List, [], Option, Some, None, codes}
use Rattle.clap.specs.Words.{App, Row, Rule, Text, all_of, new_app, new_rule, with_rule}
use Rattle.clap.specs.declared.builder.action.ArgAction.TheVariants.{Append}

-- one word or more
abbrev pub word_rule : Rule
word_rule = record (new_rule (codes "word")) { action = Some Append; required = true }

-- without a name before them, and without help
abbrev pub words_app : App
words_app =
    let app = new_app (codes "vcat") in
    with_rule (record app {
      top = record app.top
          { no_binary_name = true; disable_help_flag = true; disable_help_subcommand = true };
    }) word_rule

abbrev pub listed : Option (List Text) → List Text
listed None = []
listed (Some words) = words

abbrev pub words_in : List Row → List Text
words_in rows = listed (all_of (codes "word") rows)
