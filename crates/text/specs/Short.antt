-- What it is for an answer's rows to be cut short. Assumes nothing: these are definitions.
use Rattle.std.specs.Prelude.{ℕ, ◌*◌, ◌<◌, ◌⊎◌, length}
use Rattle.events.specs.declared.answer.Answer.{Answer}
use Rattle.events.specs.declared.answer.Answer.TheVariants.{Refused, Done}
use Rattle.events.specs.declared.answer.Rows.{Rows}
use Rattle.events.specs.declared.row.Row.{Row}
use Rattle.text.specs.declared.errors.AnswerError.{AnswerError}
use Rattle.text.specs.declared.errors.AnswerError.TheVariants.{Cut, Memory}

-- the bytes of a row end before its entries do
abbrev pub ShortRow : ℕ → Row → Type 0
ShortRow size r = length r.bytes.now < size * r.count

-- those of one of four rows
abbrev pub ShortRows : Rows → Type 0
ShortRows r = ShortRow 137 r.sent ⊎ (ShortRow 128 r.handed_in ⊎ (ShortRow 24 r.begun ⊎ ShortRow 8 r.ended))

-- those of one of an answer's rows
unfoldable pub ShortAnswer : Answer → Type 0
ShortAnswer (Refused j k) = ⊥
ShortAnswer (Done r) = ShortRows r

-- what holds where an answer has no text for want of bytes
unfoldable pub IfCut : Type 0 → AnswerError → Type 0
IfCut P Cut = P
IfCut P Memory = Unit {0}
