use Rattle.events.specs.Reading.{read_as}
use Rattle.client.proofs.Refuses.{replies_event, replies_garbled}
use Rattle.client.proofs.Client.handle.Goals as goal

pub returns-in-Ok : goal.returns-in-Ok
unfolding read_as
returns-in-Ok c =
    let l = c.args.self.now.limits in
    replies_event l.clients l.me l.kept l.waiting c.args.event.now c.args.answer.now c.write_refused.new.out c.write_refused.result c.from.result c.in-Ok.field-0 c.in-Ok.ensures.event c.from.ensures c.write_refused.ensures

pub returns-in-Err : goal.returns-in-Err
unfolding read_as
returns-in-Err c =
    let l = c.args.self.now.limits in
    replies_garbled l.clients l.me l.kept l.waiting c.args.event.now c.args.answer.now c.write_refused-in-Err.new.out c.write_refused-in-Err.result c.from-in-Err.result c.in-Err.garbled.place c.in-Err.ensures.event c.from-in-Err.ensures c.write_refused-in-Err.ensures
