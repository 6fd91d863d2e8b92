use Rattle.std.proofs.Common.{map, ◌∙◌}
use Rattle.std.proofs.lemmas.List.{length-map}
use Rattle.wire.specs.Meaning.{entry_of}
use Rattle.past.specs.Past.{row_of}
use Rattle.store.proofs.PastList.{one_kept}
use Rattle.store.proofs.history.keep_one.Goals as goal

pub returns : goal.returns
returns c ps holds =
    one_kept c.args.most c.count-entries.result c.keep_one_more.result (entry_of c.args.entry) ps c.args.region.now c.keep_one_more.new.region holds (c.count-entries.ensures.many 2 (map row_of ps) holds ∙ length-map ps row_of)
    c.keep_one_more.auto.region c.keep_one_more.ensures
