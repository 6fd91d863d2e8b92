use Rattle.std.proofs.Common.{◌<◌, ◌≤◌, [], length, refl, sym, ap, ◌∙◌, arith, rules}
use Rattle.wire.specs.Laws.{typed_bytes}
use Rattle.events.specs.Meaning.{answer_of}
use Rattle.events.specs.Reading.{answer_read}
use Rattle.text.specs.Text.{answer_text}
use Rattle.run_client.proofs.Replies.{read_again}
use Rattle.run_client.proofs.reply.answered.Goals as goal

pub slice_bounds-read_answer-end : goal.slice_bounds-read_answer-end
slice_bounds-read_answer-end c =
    let w = c.in_ok-n.ensures [] in
    let fits : c.in_ok-n.n ≤ length c.handle.new.answer = omega (arith, w.room, w.counted, c.handle.auto.answer) in
    search rules

pub returns : goal.returns
unfolding answer_read
returns c =
    let l = c.args.client.now.limits in
    let event = c.args.event.now in
    let short : length event < 18446744073709551616 = omega arith in
    let said = sym (ap answer_read c.in_ok-answer.ensures.ok_part) ∙ c.read_answer.ensures.answer in
    λ es. c.in_ok-answer_text.ensures
    ∙ ap answer_text (read_again l.clients l.me l.kept l.waiting event (typed_bytes event c.type_inv.event) short es c.as_mut_slice-room.result.now c.handle.new.answer _ c.in_ok-n.n (answer_of c.in_ok-answer.answer) (c.in_ok-n.ensures es) refl said)
