-- What the parser says of plain words.
use Rattle.std.proofs.Common.{◌∙◌, ap, map, string_bytes}
use Rattle.std.proofs.lemmas.Result.{IfErr-weaker, IfOk-weaker}
use Rattle.clap.specs.Words.{App, is_simple, matches_of, takes}
use Rattle.command_words.specs.Parser.{words_in}
use Rattle.command_words.proofs.WordParserLaws.{is_parser, reads}
use Rattle.command_words.proofs.clap_parser.parse.Goals as goal

pub returns : goal.returns
returns c =
    let words = map string_bytes c.args.words.now in
    let read = reads words c.requires.plain in
    let app = c.requires.parser in
    let call = c.try_get_matches_from in
    record {
      read = IfOk-weaker call.result _ _
          (λ matches says. ap words_in ((says (ap is_simple app ∙ is_parser)).0
          ∙ ap (λ (a : App). matches_of a words) app) ∙ read.told)
          call.ensures.matches;
      fails = IfErr-weaker call.result _ _ (λ error says. says (ap (λ (a : App). takes a words) app ∙ read.taken))
          call.ensures.passes;
    }
