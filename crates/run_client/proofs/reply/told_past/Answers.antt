use Rattle.std.proofs.Common.{◌∙◌, rules, tests}
use Rattle.run_client.proofs.Replies.{no_entry, none_taken, past_told}
use Rattle.run_client.proofs.reply.told_past.Goals as goal

pub returns : goal.returns
returns c =
    let l = c.args.client.now.limits in
    let taken = c.in_ok-entries.ensures.runs tt in
    let source = c.map_while.ensures.runs taken.0 taken.0.seen taken.1 in
    let none = none_taken taken.0 source.0 _ _ source.2 (search (rules, tests)) (λ x y called. no_entry l.clients l.me l.kept l.waiting x y (search (rules, tests))) in
    λ es. past_told l.clients l.me l.kept l.waiting es _ c.as_slice.result.now c.in_ok-past_text.ensures (c.as_slice.ensures.value ∙ taken.3.0 ∙ none)
