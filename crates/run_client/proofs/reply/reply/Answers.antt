use Rattle.std.proofs.Common.{Some, vec_items, sym, ap, ◌∙◌}
use Rattle.std.specs.Option.{option_map}
use Rattle.text.specs.Meaning.{request_of}
use Rattle.run_client.proofs.Replies.{replied, replied_event}
use Rattle.run_client.proofs.reply.reply.Goals as goal

pub returns-in-Some : goal.returns-in-Some
returns-in-Some c = replied_event _ (request_of c.in_ok-request.request) c.args.line.now c.as_slice.result.now c.answered.result c.in_ok-request.ensures (ap Some c.as_slice.ensures.value ∙ sym (ap (option_map vec_items) c.in-Some.is) ∙ c.in_ok-event.ensures) c.answered.ensures

pub returns : goal.returns
returns c = replied _ (request_of c.in_ok-request.request) c.args.line.now c.told.result c.in_ok-request.ensures c.told.ensures
