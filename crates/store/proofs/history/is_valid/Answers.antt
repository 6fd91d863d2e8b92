use Rattle.std.proofs.Common.{map, ap, ◌∙◌}
use Rattle.protocol.specs.Data.{valid}
use Rattle.wire.specs.Meaning.{data_of, duty_of}
use Rattle.past.specs.Past.{entry_of, row_of}
use Rattle.stored.proofs.Entries.{entry_back}
use Rattle.store.proofs.Lists.{mapped_back}
use Rattle.store.proofs.history.is_valid.Goals as goal

pub returns : goal.returns
returns c t h =
    c.is_valid.ensures
    ∙ ap (λ ps. valid ps (data_of c.args.data.now) (duty_of c.args.duty.now))
    (ap (map entry_of) (c.rows.ensures t h) ∙ mapped_back row_of entry_of entry_back t.past)
