use Rattle.protocol.specs.Refusals.{number}
use Rattle.protocol.specs.Meaning.{refusal_of}
use Rattle.steps.proofs.Writing.{writes_refusal}
use Rattle.steps.proofs.answers.refuse.Goals as goal

pub returns : goal.returns
returns c =
    writes_refusal (number (refusal_of c.args.refusal)) c.from.result 0 c.args.out.now c.write_refused.new.out c.write_refused.result c.from.ensures c.write_refused.ensures
