-- The entry, or none.
use Rattle.std.proofs.Common.{◌+◌, ◌*◌, take, sym, refl, ap, arith}
use Rattle.std.proofs.lemmas.List.{drop_all}
use Rattle.lists.proofs.Room.{entry_wide}
use Rattle.lists.proofs.Regions.{entry_there}
use Rattle.lists.proofs.reads.at.Goals as goal

pub returns-then-place-count : goal.returns-then-place-count
returns-then-place-count c = (
  λ rs r.
      let many = c.count.ensures.many c.args.width rs r in
      sym (ap (take 1) (drop_all c.args.place rs (omega arith))),
  tt,
)

pub returns : goal.returns
returns c = (
  λ rs r.
      let many = c.count.ensures.many c.args.width rs r in
      sym (ap (take 1) (entry_there c.args.width c.args.room c.args.place (1 + c.args.width * c.args.place) c.args.region.now rs r refl (omega arith))),
  (entry_wide c.args.width c.args.place c.args.room c.args.region.now (omega arith) c.requires, tt),
)
