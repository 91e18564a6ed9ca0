-- What the input says is two scripts.
use Rattle.std.proofs.lemmas.Result.{IfOk-weaker}
use Rattle.text_pairs.specs.PairOfText.{pair_of}
use Rattle.text_pairs.proofs.PairScriptReaderLaws.{said-pair}
use Rattle.text_pairs.proofs.read_pair_pieces.read_pair.Goals as goal

pub returns-clause-pair : goal.returns-clause-pair
returns-clause-pair g c =
    IfOk-weaker c.read_pieces.result _ _
    (λ pair it. record { text = it.0; read = it.1; says = said-pair (pair_of it.0) pair it.2 })
    c.read_pieces.ensures.said
