-- The numbers of the kinds of events and answers. Assumes nothing: these are definitions.
use Rattle.std.specs.Prelude.{ℕ}
use Rattle.events.specs.declared.kind.EventKind.{EventKind}
use Rattle.events.specs.declared.kind.EventKind.TheVariants.{Duty, Decided, Share, Block, Resend}
use Rattle.events.specs.declared.kind.AnswerKind.{AnswerKind}
use Rattle.events.specs.declared.kind.AnswerKind.TheVariants.{Refused, Done}

abbrev pub event_kind : EventKind → ℕ
event_kind Duty = 0
event_kind Decided = 1
event_kind Share = 2
event_kind Block = 3
event_kind Resend = 4

abbrev pub answer_kind : AnswerKind → ℕ
answer_kind Refused = 0
answer_kind Done = 1
