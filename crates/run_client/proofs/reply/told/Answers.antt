use Rattle.std.proofs.Common.{ap, ◌∙◌}
use Rattle.text.specs.Text.{may_text}
use Rattle.text.specs.Meaning.{request_of}
use Rattle.run_client.specs.Reply.{reply_text}
use Rattle.run_client.proofs.reply.told.Goals as goal

pub returns-in_ok-from_str-in-May : goal.returns-in_ok-from_str-in-May
unfolding reply_text request_of
returns-in_ok-from_str-in-May c =
    λ es. rw c.in-May.is (c.in_ok-from_str-in-May.ensures.ok ∙ c.may_text.ensures ∙ ap may_text (c.may_decide-may.ensures es))

pub returns-in-Past : goal.returns-in-Past
unfolding request_of
returns-in-Past c = rw c.in-Past.is c.told_past.ensures
