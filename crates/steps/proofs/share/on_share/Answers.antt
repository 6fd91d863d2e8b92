-- Turned away by each test, and taken behind them all.
use Rattle.std.proofs.Common.{◌≡◌, ◌<◌, length, refl, sym, ap, ◌∙◌, subst, arith}
use Rattle.std.proofs.lemmas.Result.{err_from_is_err_and}
use Rattle.protocol.specs.Client.{Share, share, place}
use Rattle.wire.specs.Meaning.{data_of, share_of}
use Rattle.stored.specs.Stored.{Stored}
use Rattle.stored.specs.Kept.{Held}
use Rattle.layout.specs.Layout.{sizes}
use Rattle.layout.specs.declared.layout.Layout.{Layout}
use Rattle.layout.specs.declared.memory.View.{View}
use Rattle.layout.specs.Memory.{Shows}
use Rattle.steps.proofs.Serving.{step_by, step_refused, held_by}
use Rattle.steps.proofs.Writing.{handing_in}
use Rattle.steps.proofs.Sharing.{no_client, not_heard, second, put_there, taken_so, share_done, share_unwritten}
use Rattle.steps.proofs.share.on_share.Goals as goal

-- a view shows what the view that it is shows
seen_so : {v w : View} {t : Stored} → Shows v t → w ≡ v → Shows w t
seen_so {t = t} h e = subst (λ (u : View). Shows u t) (sym e) h

pub returns-in_default-signer : goal.returns-in_default-signer
unfolding share_of place
returns-in_default-signer c can ok =
    step_by (ap share c.in-Some.ensures.1)
    (step_refused can (share (share_of c.in-Some.share)) 2 0 (omega arith)
    (λ t h r.
    let x : Share = share_of c.in-Some.share in
    let group = ap (λ z. z.clients) h.sized in
    no_client can t x (omega (arith, c.in_default-signer.ensures))) refl
    c.refuse-in_default-signer.ensures)

pub returns-in_default-listened : goal.returns-in_default-listened
unfolding share_of data_of place
returns-in_default-listened c can ok =
    step_by (ap share c.in-Some.ensures.1)
    (step_refused can (share (share_of c.in-Some.share)) 5 0 (omega arith)
    (λ t h r.
    let x : Share = share_of c.in-Some.share in
    let group = ap (λ z. z.clients) h.sized in
    let signed = c.in-Some-signer.ensures in
    not_heard can t x ok c.in-Some-signer.who signed.0 (omega arith) (c.in_default-listened.ensures.first t (c.view.ensures.shows t h) r)) refl
    c.refuse-in_default-listened.ensures)

pub returns-in_default-free_cell : goal.returns-in_default-free_cell
unfolding share_of data_of place
returns-in_default-free_cell c can ok =
    step_by (ap share c.in-Some.ensures.1)
    (step_refused can (share (share_of c.in-Some.share)) 6 0 (omega arith)
    (λ t h r.
    let x : Share = share_of c.in-Some.share in
    let group = ap (λ z. z.clients) h.sized in
    let room = ap (λ z. z.waiting) h.sized in
    let signed = c.in-Some-signer.ensures in
    let heard = c.in-Some-listened.ensures in
    let many = h.well.banks in
    let seen = ap (λ (l : Layout). l.waiting) c.view.ensures.layout in
    let of_it = ap (λ (v : View). v.layout.waiting) heard.of in
    second can t x ok c.in-Some-signer.who signed.0 (omega arith) c.in-Some-listened.bank.place (heard.first t (c.view.ensures.shows t h) r) (omega arith) (c.in_default-free_cell.ensures.free t (seen_so (c.view.ensures.shows t h) heard.of))) refl
    c.refuse-in_default-free_cell.ensures)

pub returns-in_err-n : goal.returns-in_err-n
unfolding share_of data_of
returns-in_err-n c can ok =
    record {
      layout = refl;
      lent = refl;
      serves =
          λ t h r.
          let x : Share = share_of c.in-Some.share in
          let group = ap (λ z. z.clients) h.sized in
          let room = ap (λ z. z.waiting) h.sized in
          let signed = c.in-Some-signer.ensures in
          let heard = c.in-Some-listened.ensures in
          let many = h.well.banks in
          let seen = ap (λ (l : Layout). l.waiting) c.view.ensures.layout in
          let of_it = ap (λ (v : View). v.layout.waiting) heard.of in
          let is = taken_so can t x ok c.in-Some-signer.who signed.0 (omega arith) c.in-Some-listened.bank.place (heard.first t (c.view.ensures.shows t h) r) (omega arith) h.well (c.in-Some-free_cell.ensures.free t (seen_so (c.view.ensures.shows t h) heard.of)) _ (c.at_quorum-handed_in.ensures t (seen_so (c.view.ensures.shows t h) heard.of)) in
          let same = handing_in c.default.result c.as_slice.result c.at_quorum-handed_in.result c.as_slice.ensures c.default.ensures in
          let failed = err_from_is_err_and c.from_residual.result c.from_residual.ensures.1 in
          share_unwritten (sizes c.args.memory.now.layout) can c.args.memory.now.numbers.now c.args.out.now c.write_deeds.new.out t x _ c.in-Some.ensures.1 _ is.0 (is.1 ∙ sym same) c.from_residual.result failed.0 failed.1 c.in_err-n.ensures;
    }

pub returns : goal.returns
unfolding share_of data_of
returns c can ok =
    record {
      layout = c.put.ensures.layout;
      lent = c.put.ensures.lent;
      serves =
          λ t h r.
          let x : Share = share_of c.in-Some.share in
          let group = ap (λ z. z.clients) h.sized in
          let room = ap (λ z. z.waiting) h.sized in
          let signed = c.in-Some-signer.ensures in
          let heard = c.in-Some-listened.ensures in
          let many = h.well.banks in
          let seen = ap (λ (l : Layout). l.waiting) c.view.ensures.layout in
          let of_it = ap (λ (v : View). v.layout.waiting) heard.of in
          let member : c.in-Some-signer.who < t.sizes.clients = omega arith in
          let inside : c.in-Some-listened.bank.place < length t.banks = omega arith in
          let is = taken_so can t x ok c.in-Some-signer.who signed.0 member c.in-Some-listened.bank.place (heard.first t (c.view.ensures.shows t h) r) inside h.well (c.in-Some-free_cell.ensures.free t (seen_so (c.view.ensures.shows t h) heard.of)) _ (c.at_quorum-handed_in.ensures t (seen_so (c.view.ensures.shows t h) heard.of)) in
          let there = put_there can t x ok c.in-Some-signer.who signed.0 member c.in-Some-listened.bank.place (heard.first t (c.view.ensures.shows t h) r) inside c.in-Some-free_cell.cell c.in-Some-free_cell.ensures.same in
          let same = handing_in c.default.result c.as_slice.result c.at_quorum-handed_in.result c.as_slice.ensures c.default.ensures in
          share_done (sizes c.args.memory.now.layout) can c.args.memory.now.numbers.now c.args.out.now c.write_deeds.new.out t x _ c.in-Some.ensures.1 _ is.0 (is.1 ∙ sym same) c.put.new.memory.numbers.now c.in_ok-n.n c.in_ok-n.ensures
          (subst (λ (u : Stored). Held (sizes c.args.memory.now.layout) c.put.new.memory.numbers.now u) there (held_by _ _ c.put.ensures.layout _ _ (c.put.ensures.holds t h)));
    }
