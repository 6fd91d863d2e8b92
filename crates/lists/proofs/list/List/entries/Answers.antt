-- The arrays behind the count are the entries.
use Rattle.std.proofs.Common.{◌∙◌, refl, ap, take, length, drop, ◌-◌, arith, length-drop}
use Rattle.std.proofs.lemmas.List.{take_all}
use Rattle.lists.proofs.Reading.{all_lent}
use Rattle.lists.proofs.list.List.entries.Goals as goal

pub returns-clause-entries : goal.returns-clause-entries
returns-clause-entries g c rs r =
    let many = c.count.ensures.many rs r in
    ap (take c.count.result) c.as_chunks.ensures.front
    ∙ all_lent g.row.W c.args.self.room c.count.result _ c.args.self.region.now _ rs r many (take_all (length c.args.self.region.now - 1) (drop 1 c.args.self.region.now) (simp length-drop (omega arith))) refl c.requires c.args.self.fits
